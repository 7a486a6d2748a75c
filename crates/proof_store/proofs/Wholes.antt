-- Goals as a whole: those that are kept, helped and solved.
use Rattle.std.proofs.Common.{◌≡◌, ℕ, ◌+◌, ◌^◌, ◌<◌, List, Option, length, map, refl, sym, ap, ◌∙◌, subst, arith}
use Rattle.std.specs.Prelude.{All, IfSome, IsTrue, ◌↔◌, count_by, filter, sum_by}
use Rattle.std.specs.List.{AllZip}
use Rattle.outside.specs.Tables.{Tables}
use Rattle.word_dag.specs.Nodes.{Parts}
use Rattle.job_pool.specs.Shown.{IsShown}
use Rattle.job_pool.specs.declared.evidence.Evidence.{Evidence}
use Rattle.proof_store.specs.Counts.{FirstRose}
use Rattle.proof_store.specs.Goals.{IsDecided, IsDecidedIfAmple, KeptDecides, ended, is_helped, is_kept, is_solved, ob_of}
use Rattle.proof_store.specs.Kept.{CountsKept, IsKept}
use Rattle.proof_store.specs.Places.{IsPlaced, asked_for, filled, is_open, open_of}
use Rattle.proof_store.specs.Rows.{HasProofs}
use Rattle.proof_store.specs.Stored.{AddsProofs, Told, ended_ob}
use Rattle.proof_store.specs.declared.goal.Decided.{Decided}
use Rattle.proof_store.specs.declared.goal.Goal.{Goal}
use Rattle.proof_store.specs.declared.placing.Place.{Place}
use Rattle.proof_store.proofs.Placed.{all_ample, all_decided, counts_kept, filled_settled, flags_tell, has_proofs, kept_decide, open_length, open_within, parts, same_length, same_obs, tally}

pub asked_are : (asked helped worked h w : ℕ) → asked ≡ helped + worked → h ≡ helped → w ≡ worked → asked ≡ h + w
asked_are asked helped worked h w are a b = omega (arith, are, a, b)

pub first_rose : (n m : ℕ) (xs ys : List ℕ) → n ≡ m → FirstRose n xs ys → FirstRose m xs ys
first_rose n m xs ys same rose = subst (λ (k : ℕ). FirstRose k xs ys) same rose

module _ {L : Type 0} where
  -- ---- what is open
  module _ (tables : Option Tables) (goals : List (Goal L)) (places : List (Place L)) (rest slice : List Parts) (placed : AllZip (IsPlaced tables) goals places) (rest_is : rest ≡ open_of goals places) (slice_is : slice ≡ rest) where
    pub rest_long : length rest ≡ length (filter is_open places)
    rest_long = ap length rest_is ∙ open_length tables goals places placed

    pub rest_few : length goals < 2 ^ 32 → length slice < 2 ^ 32
    rest_few few = let long = ap length (slice_is ∙ rest_is) in let within = open_within goals places in omega (arith, few, long, within)

    module _ (budget : ℕ) (ends : List Evidence) (shown : AllZip (IsShown budget) slice ends) where
      pub ends_long : length ends ≡ length rest
      ends_long = same_length (IsShown budget) slice ends shown ∙ ap length slice_is

      -- ---- all are decided
      pub record Facts (ds all : List (Decided L)) : Type 0 where
        pub decided : AllZip (IsDecided budget) goals ds
        pub ample : AllZip (IsDecidedIfAmple budget) goals ds
        pub kept_decides : IfSome tables (λ t. AllZip (KeptDecides t) goals ds)
        pub flags : IfSome tables (λ t. All (λ d. IsTrue (is_kept d) ↔ IsKept t d.goal.ob) all)
        pub proofs : HasProofs (map ended all)
        pub obs : map ended_ob (map ended all) ≡ map ob_of goals
        pub kept : IfSome tables (λ t. CountsKept t (map ob_of goals) (count_by is_kept all))
        pub counts : count_by is_kept all + count_by is_helped all + count_by is_solved all ≡ length goals
        pub asked : sum_by asked_for places ≡ count_by is_helped all + count_by is_solved all
        pub worked : count_by is_solved all ≡ length slice

      pub facts : (ds all : List (Decided L)) → ds ≡ filled places rest ends → all ≡ ds → Facts ds all
      facts ds all filled_is all_is =
          let os = open_of goals places in
          let made = filled places os ends in
          let open_shown : AllZip (IsShown budget) os ends = subst (λ (xs : List Parts). AllZip (IsShown budget) xs ends) (slice_is ∙ rest_is) shown in
          let z = filled_settled tables budget goals places ends placed open_shown in
          let t = tally tables goals places ends placed (same_length (IsShown budget) os ends open_shown) in
          let is : made ≡ ds = ap (λ (xs : List Parts). filled places xs ends) (sym rest_is) ∙ sym filled_is in
          let are : made ≡ all = is ∙ sym all_is in
          let there : Facts made made = record {
            decided = all_decided tables budget goals made z;
            ample = all_ample tables budget goals made z;
            kept_decides = kept_decide tables budget goals made z;
            flags = flags_tell tables budget goals made z;
            proofs = has_proofs tables budget goals made z;
            obs = same_obs budget goals made (all_decided tables budget goals made z);
            kept = counts_kept tables budget goals made (count_by is_kept made) z refl;
            counts = parts made ∙ same_length (IsDecided budget) goals made (all_decided tables budget goals made z);
            asked = t.asked;
            worked = t.worked ∙ ap length (sym (slice_is ∙ rest_is));
          } in
          subst (λ (xs : List (Decided L)). Facts ds xs) are (subst (λ (xs : List (Decided L)). Facts xs made) is there)

  -- what was put is a proof of one of these
  pub adds : (tables now after : Option Tables) (goals : List (Goal L)) (all : List (Decided L)) → map ended_ob (map ended all) ≡ map ob_of goals → now ≡ tables → Told (AddsProofs (map ended_ob (map ended all))) now after → Told (AddsProofs (map ob_of goals)) tables after
  adds tables now after goals all obs same added =
      subst (λ (os : List Parts). Told (AddsProofs os) tables after) obs (subst (λ (o : Option Tables). Told (AddsProofs (map ended_ob (map ended all))) o after) same added)

  -- what the tables say doesn't change while goals are placed
  pub flags_now : (tables now : Option Tables) (all : List (Decided L)) → now ≡ tables → IfSome tables (λ t. All (λ d. IsTrue (is_kept d) ↔ IsKept t d.goal.ob) all) → IfSome now (λ t. All (λ d. IsTrue (is_kept d) ↔ IsKept t d.goal.ob) all)
  flags_now tables now all same flags = subst (λ (o : Option Tables). IfSome o (λ t. All (λ d. IsTrue (is_kept d) ↔ IsKept t d.goal.ob) all)) (sym same) flags
