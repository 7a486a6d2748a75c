-- Places of goals, and what becomes of them.
use Rattle.std.proofs.Common.{◌≡◌, ℕ, suc, ◌+◌, ◌<◌, ◌≤◌, List, [], ◌∷◌, ◌++◌, Bool, true, cond, Option, Some, None, length, map, refl, sym, ap, ap₂, ◌∙◌, subst, arith, append_assoc, append-nil}
use Rattle.std.specs.Prelude.{All, IfSome, IsTrue, ◌↔◌, Vec, filter, sum_by, count_by}
use Rattle.std.specs.List.{AllZip}
use Rattle.std.specs.declared.alloc.Global.{Global}
use Rattle.std.proofs.lemmas.List.Elements.{All-cons, All-nil}
use Rattle.std.proofs.lemmas.List.Sums.{sum_by-cons}
use Rattle.outside.specs.Tables.{Tables}
use Rattle.word_dag.specs.Nodes.{Parts}
use Rattle.clause_check.specs.declared.formula.Step.{Step}
use Rattle.job_pool.specs.Shown.{IsShown}
use Rattle.job_pool.specs.declared.evidence.Evidence.{Evidence}
use Rattle.job_pool.specs.declared.evidence.Evidence.TheVariants.{Derivation}
use Rattle.job_pool.proofs.Sparing.{decides}
use Rattle.proof_store.specs.Goals.{AsKept, Ended, IsDecided, IsDecidedIfAmple, KeptDecides, ended, from_helper, from_keeper, from_worker, is_helped, is_kept, is_solved, ob_of}
use Rattle.proof_store.specs.Kept.{CountsKept, IsKept, IsProof}
use Rattle.proof_store.specs.Places.{IsPlaced, Takes, TellsKept, asked_for, asked_of, filled, is_open, open_of, solved}
use Rattle.proof_store.specs.Rows.{HasProofs}
use Rattle.proof_store.specs.Stored.{ended_ob}
use Rattle.proof_store.specs.declared.goal.Decided.{Decided}
use Rattle.proof_store.specs.declared.goal.Goal.{Goal}
use Rattle.proof_store.specs.declared.goal.Source.{Source}
use Rattle.proof_store.specs.declared.goal.Source.TheVariants.{Kept, Helped, Solved}
use Rattle.proof_store.specs.declared.placing.Place.{Place}
use Rattle.proof_store.specs.declared.placing.Place.TheVariants.{Done, Open}
use Rattle.proof_store.proofs.Proving.{decided_proof, none_kept}

pub same_length : {A B : Type 0} (R : A → B → Type 0) (xs : List A) (ys : List B) → AllZip R xs ys → length ys ≡ length xs
same_length R [] [] z = refl
same_length R [] (y ∷ ys) z = absurd z
same_length R (x ∷ xs) [] z = absurd z
same_length R (x ∷ xs) (y ∷ ys) z = ap suc (same_length R xs ys z.1)

one_source : (s : Source) → cond (from_keeper s) 1 0 + (cond (from_helper s) 1 0 + cond (from_worker s) 1 0) ≡ 1
one_source Kept = refl
one_source Helped = refl
one_source Solved = refl

asked_source : (s : Source) → asked_of s ≡ cond (from_helper s) 1 0 + cond (from_worker s) 1 0
asked_source Kept = refl
asked_source Helped = refl
asked_source Solved = refl

not_solved : (s : Source) → (s ≡ Solved → ⊥) → ◌≡◌ {A = ℕ} (cond (from_worker s) 1 0) 0
not_solved Kept other = refl
not_solved Helped other = refl
not_solved Solved other = absurd (other refl)

module _ {L : Type 0} where
  -- as many obligations are open as places
  pub open_length : (tables : Option Tables) (goals : List (Goal L)) (places : List (Place L)) → AllZip (IsPlaced tables) goals places → length (open_of goals places) ≡ length (filter is_open places)
  open_length tables [] [] z = refl
  open_length tables [] (p ∷ ps) z = absurd z
  open_length tables (g ∷ gs) [] z = absurd z
  open_length tables (g ∷ gs) (Done d ∷ ps) z = open_length tables gs ps z.1
  open_length tables (g ∷ gs) (Open line ∷ ps) z = ap suc (open_length tables gs ps z.1)

  pub open_within : (goals : List (Goal L)) (places : List (Place L)) → length (open_of goals places) ≤ length goals
  open_within [] ps = omega arith
  open_within (g ∷ gs) [] = omega arith
  open_within (g ∷ gs) (Done d ∷ ps) = let rest = open_within gs ps in omega (arith, rest)
  open_within (g ∷ gs) (Open line ∷ ps) = let rest = open_within gs ps in omega (arith, rest)

  -- ---- one more place
  pub open_more : (goals : List (Goal L)) (places : List (Place L)) (goal : Goal L) (place : Place L) → length places ≡ length goals → open_of (goals ++ goal ∷ []) (places ++ place ∷ []) ≡ open_of goals places ++ open_of (goal ∷ []) (place ∷ [])
  open_more [] [] goal place long = refl
  open_more [] (p ∷ ps) goal place long = absurd (omega arith)
  open_more (g ∷ gs) [] goal place long = absurd (omega arith)
  open_more (g ∷ gs) (Done d ∷ ps) goal place long = open_more gs ps goal place (omega arith)
  open_more (g ∷ gs) (Open line ∷ ps) goal place long = ap (λ (rest : List Parts). g.ob ∷ rest) (open_more gs ps goal place (omega arith))

  -- ---- the open places filled

  -- a goal is decided, what is said to be kept is, and then a kept proof decides it
  pub record IsSettled (tables : Option Tables) (budget : ℕ) (goal : Goal L) (d : Decided L) : Type 0 where
    pub decided : IsDecided budget goal d
    pub kept : TellsKept tables goal.ob (is_kept d)
    pub recorded : IfSome tables (λ t. AsKept t goal.ob d.evidence)

  pub filled_settled : (tables : Option Tables) (budget : ℕ) (goals : List (Goal L)) (places : List (Place L)) (ends : List Evidence) → AllZip (IsPlaced tables) goals places → AllZip (IsShown budget) (open_of goals places) ends
      → AllZip (IsSettled tables budget) goals (filled places (open_of goals places) ends)
  filled_settled tables budget [] [] ends z shown = tt
  filled_settled tables budget [] (p ∷ ps) ends z shown = absurd z
  filled_settled tables budget (g ∷ gs) [] ends z shown = absurd z
  filled_settled tables budget (g ∷ gs) (Done d ∷ ps) ends z shown = (record { decided = z.0.shows.0 budget; kept = z.0.kept; recorded = z.0.recorded }, filled_settled tables budget gs ps ends z.1 shown)
  filled_settled tables budget (g ∷ gs) (Open line ∷ ps) [] z shown = absurd shown
  filled_settled tables budget (g ∷ gs) (Open line ∷ ps) (e ∷ ends) z shown = (
    record {
      decided = record { goal_is = ap (λ (l : L). record { line = l; ob = g.ob }) z.0.shows; shown = shown.0 };
      kept = z.0.kept;
      recorded = none_kept tables g.ob e z.0.kept;
    },
    filled_settled tables budget gs ps ends z.1 shown.1,
  )

  -- ---- counts

  -- each is kept, helped or solved
  pub parts : (ds : List (Decided L)) → count_by is_kept ds + count_by is_helped ds + count_by is_solved ds ≡ length ds
  parts [] = refl
  parts (d ∷ ds) =
      let rest = parts ds in
      let one = one_source d.source in
      let kept = sum_by-cons (λ (x : Decided L). cond (is_kept x) 1 0) d ds in
      let helped = sum_by-cons (λ (x : Decided L). cond (is_helped x) 1 0) d ds in
      let worked = sum_by-cons (λ (x : Decided L). cond (is_solved x) 1 0) d ds in
      omega (arith, rest, one, kept, helped, worked)

  -- the first helper is asked about what isn't kept, and the workers get what is open
  pub record Tally (tables : Option Tables) (goals : List (Goal L)) (places : List (Place L)) (ds : List (Decided L)) : Type 0 where
    pub asked : sum_by asked_for places ≡ count_by is_helped ds + count_by is_solved ds
    pub worked : count_by is_solved ds ≡ length (open_of goals places)

  pub tally : (tables : Option Tables) (goals : List (Goal L)) (places : List (Place L)) (ends : List Evidence) → AllZip (IsPlaced tables) goals places → length ends ≡ length (open_of goals places)
      → Tally tables goals places (filled places (open_of goals places) ends)
  tally tables [] [] ends z long = record { asked = refl; worked = refl }
  tally tables [] (p ∷ ps) ends z long = absurd z
  tally tables (g ∷ gs) [] ends z long = absurd z
  tally tables (g ∷ gs) (Done d ∷ ps) ends z long =
      let ds = filled ps (open_of gs ps) ends in
      let t = tally tables gs ps ends z.1 long in
      let asked = t.asked in
      let worked = t.worked in
      let places = sum_by-cons asked_for (Done d) ps in
      let source = asked_source d.source in
      let helped = sum_by-cons (λ (x : Decided L). cond (is_helped x) 1 0) d ds in
      let here = sum_by-cons (λ (x : Decided L). cond (is_solved x) 1 0) d ds in
      let none = not_solved d.source z.0.shows.1 in
      record { asked = omega (arith, asked, places, source, helped, here); worked = omega (arith, worked, here, none) }
  tally tables (g ∷ gs) (Open line ∷ ps) [] z long = absurd (omega arith)
  tally tables (g ∷ gs) (Open line ∷ ps) (e ∷ ends) z long =
      let ds = filled ps (open_of gs ps) ends in
      let d = solved line g.ob e in
      let t = tally tables gs ps ends z.1 (omega arith) in
      let asked = t.asked in
      let worked = t.worked in
      let places = sum_by-cons asked_for (Open line) ps in
      let helped = sum_by-cons (λ (x : Decided L). cond (is_helped x) 1 0) d ds in
      let here = sum_by-cons (λ (x : Decided L). cond (is_solved x) 1 0) d ds in
      record { asked = omega (arith, asked, places, helped, here); worked = omega (arith, worked, here) }

  -- ---- what is known of settled goals

  pub all_decided : (tables : Option Tables) (budget : ℕ) (goals : List (Goal L)) (ds : List (Decided L)) → AllZip (IsSettled tables budget) goals ds → AllZip (IsDecided budget) goals ds
  all_decided tables budget [] [] z = tt
  all_decided tables budget [] (d ∷ ds) z = absurd z
  all_decided tables budget (g ∷ gs) [] z = absurd z
  all_decided tables budget (g ∷ gs) (d ∷ ds) z = (z.0.decided, all_decided tables budget gs ds z.1)

  pub all_ample : (tables : Option Tables) (budget : ℕ) (goals : List (Goal L)) (ds : List (Decided L)) → AllZip (IsSettled tables budget) goals ds → AllZip (IsDecidedIfAmple budget) goals ds
  all_ample tables budget [] [] z = tt
  all_ample tables budget [] (d ∷ ds) z = absurd z
  all_ample tables budget (g ∷ gs) [] z = absurd z
  all_ample tables budget (g ∷ gs) (d ∷ ds) z = (decides budget g.ob d.evidence z.0.decided.shown, all_ample tables budget gs ds z.1)

  pub kept_told : (t : Tables) (budget : ℕ) (goals : List (Goal L)) (ds : List (Decided L)) → AllZip (IsSettled (Some t) budget) goals ds → All (λ d. IsTrue (is_kept d) ↔ IsKept t d.goal.ob) ds
  kept_told t budget [] [] z = All-nil (λ (d : Decided L). IsTrue (is_kept d) ↔ IsKept t d.goal.ob)
  kept_told t budget [] (d ∷ ds) z = absurd z
  kept_told t budget (g ∷ gs) [] z = absurd z
  kept_told t budget (g ∷ gs) (d ∷ ds) z =
      All-cons (λ (d : Decided L). IsTrue (is_kept d) ↔ IsKept t d.goal.ob) d ds (subst (λ (x : Goal L). IsTrue (is_kept d) ↔ IsKept t x.ob) (sym z.0.decided.goal_is) z.0.kept) (kept_told t budget gs ds z.1)

  pub flags_tell : (tables : Option Tables) (budget : ℕ) (goals : List (Goal L)) (ds : List (Decided L)) → AllZip (IsSettled tables budget) goals ds → IfSome tables (λ t. All (λ d. IsTrue (is_kept d) ↔ IsKept t d.goal.ob) ds)
  flags_tell None budget goals ds z = tt
  flags_tell (Some t) budget goals ds z = kept_told t budget goals ds z

  kept_each : (t : Tables) (budget : ℕ) (goals : List (Goal L)) (ds : List (Decided L)) → AllZip (IsSettled (Some t) budget) goals ds → AllZip (λ ob flag. IsTrue flag ↔ IsKept t ob) (map ob_of goals) (map is_kept ds)
  kept_each t budget [] [] z = tt
  kept_each t budget [] (d ∷ ds) z = absurd z
  kept_each t budget (g ∷ gs) [] z = absurd z
  kept_each t budget (g ∷ gs) (d ∷ ds) z = (z.0.kept, kept_each t budget gs ds z.1)

  count_map : (ds : List (Decided L)) → count_by (λ (flag : Bool). flag) (map is_kept ds) ≡ count_by is_kept ds
  count_map [] = refl
  count_map (d ∷ ds) =
      let rest = count_map ds in
      let flags = sum_by-cons (λ (flag : Bool). cond flag 1 0) (is_kept d) (map is_kept ds) in
      let here = sum_by-cons (λ (x : Decided L). cond (is_kept x) 1 0) d ds in
      omega (arith, rest, flags, here)

  pub counts_kept : (tables : Option Tables) (budget : ℕ) (goals : List (Goal L)) (ds : List (Decided L)) (many : ℕ) → AllZip (IsSettled tables budget) goals ds → many ≡ count_by is_kept ds → IfSome tables (λ t. CountsKept t (map ob_of goals) many)
  counts_kept None budget goals ds many z are = tt
  counts_kept (Some t) budget goals ds many z are = record { flags = map is_kept ds; each = kept_each t budget goals ds z; are = are ∙ sym (count_map ds) }

  kept_all : (t : Tables) (budget : ℕ) (goals : List (Goal L)) (ds : List (Decided L)) → AllZip (IsSettled (Some t) budget) goals ds → AllZip (KeptDecides t) goals ds
  kept_all t budget [] [] z = tt
  kept_all t budget [] (d ∷ ds) z = absurd z
  kept_all t budget (g ∷ gs) [] z = absurd z
  kept_all t budget (g ∷ gs) (d ∷ ds) z = (record { source = z.0.kept; evidence = z.0.recorded }, kept_all t budget gs ds z.1)

  pub kept_decide : (tables : Option Tables) (budget : ℕ) (goals : List (Goal L)) (ds : List (Decided L)) → AllZip (IsSettled tables budget) goals ds → IfSome tables (λ t. AllZip (KeptDecides t) goals ds)
  kept_decide None budget goals ds z = tt
  kept_decide (Some t) budget goals ds z = kept_all t budget goals ds z

  pub has_proofs : (tables : Option Tables) (budget : ℕ) (goals : List (Goal L)) (ds : List (Decided L)) → AllZip (IsSettled tables budget) goals ds → HasProofs (map ended ds)
  has_proofs tables budget [] [] z = All-nil (λ (d : Ended). (steps : Vec Step Global) → d.evidence ≡ Derivation steps → IsProof d.ob steps.items)
  has_proofs tables budget [] (d ∷ ds) z = absurd z
  has_proofs tables budget (g ∷ gs) [] z = absurd z
  has_proofs tables budget (g ∷ gs) (d ∷ ds) z =
      All-cons (λ (d : Ended). (steps : Vec Step Global) → d.evidence ≡ Derivation steps → IsProof d.ob steps.items) (ended d) (map ended ds) (decided_proof budget g d z.0.decided) (has_proofs tables budget gs ds z.1)

  pub same_obs : (budget : ℕ) (goals : List (Goal L)) (ds : List (Decided L)) → AllZip (IsDecided budget) goals ds → map ended_ob (map ended ds) ≡ map ob_of goals
  same_obs budget [] [] z = refl
  same_obs budget [] (d ∷ ds) z = absurd z
  same_obs budget (g ∷ gs) [] z = absurd z
  same_obs budget (g ∷ gs) (d ∷ ds) z = ap₂ (λ (o : Parts) (os : List Parts). o ∷ os) (ap ob_of z.0.goal_is) (same_obs budget gs ds z.1)

  -- ---- filling, place by place

  -- what is filled so far, and the places, obligations and evidence that are left
  pub record Filling (all : List (Decided L)) (places : List (Place L)) (obs : List Parts) (ends : List Evidence) (whole : List (Decided L)) : Type 0 where
    pub whole_is : all ++ filled places obs ends ≡ whole
    pub obs_left : length obs ≡ length (filter is_open places)
    pub ends_left : length ends ≡ length obs

  pub fill_more : (all more : List (Decided L)) (places rest : List (Place L)) (place : Place L) (obs obs_after : List Parts) (ends ends_after : List Evidence) (whole : List (Decided L)) (d : Decided L) → Filling all places obs ends whole → places ≡ place ∷ rest
      → Takes place d obs ends obs_after ends_after → more ≡ all ++ d ∷ [] → Filling more rest obs_after ends_after whole
  fill_more all more places rest (Done e) obs obs_after ends ends_after whole d filling is takes pushed =
      let before : all ++ filled (Done e ∷ rest) obs ends ≡ whole = subst (λ (ps : List (Place L)). all ++ filled ps obs ends ≡ whole) is filling.whole_is in
      let many : length obs ≡ length (filter is_open rest) = subst (λ (ps : List (Place L)). length obs ≡ length (filter is_open ps)) is filling.obs_left in
      subst (λ (x : (Decided L) × (List Parts × (List Evidence × List (Decided L)))). Filling x.1.1.1 rest x.1.0 x.1.1.0 whole)
      (ap₂ (λ (o : List Parts) (r : List Evidence × List (Decided L)). (d, (o, r))) (sym takes.1) (ap₂ (λ (a : List Evidence) (b : List (Decided L)). (a, b)) (sym takes.2) (sym (pushed ∙ ap (λ (x : Decided L). all ++ x ∷ []) takes.0))))
      (record {
        whole_is = append_assoc all (e ∷ []) (filled rest obs ends) ∙ before;
        obs_left = many;
        ends_left = filling.ends_left;
      })
  fill_more all more places rest (Open line) obs obs_after ends ends_after whole d filling is takes pushed =
      let ob = takes.0 in
      let e = takes.1 in
      let now : Filling all (Open line ∷ rest) (ob ∷ obs_after) (e ∷ ends_after) whole =
      subst (λ (x : List (Place L) × (List Parts × List Evidence)). Filling all x.0 x.1.0 x.1.1 whole) (ap₂ (λ (a : List (Place L)) (b : List Parts × List Evidence). (a, b)) is (ap₂ (λ (a : List Parts) (b : List Evidence). (a, b)) takes.3 takes.4)) filling in
      let many = now.obs_left in
      let ends_many = now.ends_left in
      subst (λ (ds : List (Decided L)). Filling ds rest obs_after ends_after whole) (sym (pushed ∙ ap (λ (x : Decided L). all ++ x ∷ []) takes.2))
      (record {
        whole_is = append_assoc all (solved line ob e ∷ []) (filled rest obs_after ends_after) ∙ now.whole_is;
        obs_left = omega (arith, many);
        ends_left = omega (arith, ends_many);
      })

  -- an open place takes an obligation and evidence that are there
  pub obs_there : (all : List (Decided L)) (places rest : List (Place L)) (place : Place L) (obs : List Parts) (ends : List Evidence) (whole : List (Decided L)) → Filling all places obs ends whole → places ≡ place ∷ rest → is_open place ≡ true → 0 < length obs
  obs_there all places rest (Done d) obs ends whole filling is so = absurd (cc)
  obs_there all places rest (Open line) obs ends whole filling is so = let many = filling.obs_left in let long = ap (λ (ps : List (Place L)). length (filter is_open ps)) is in omega (arith, many, long)

  pub ends_there : (all : List (Decided L)) (places rest : List (Place L)) (place : Place L) (obs : List Parts) (ends : List Evidence) (whole : List (Decided L)) → Filling all places obs ends whole → places ≡ place ∷ rest → is_open place ≡ true → 0 < length ends
  ends_there all places rest place obs ends whole filling is so = let there = obs_there all places rest place obs ends whole filling is so in let many = filling.ends_left in omega (arith, there, many)

  pub all_filled : (all : List (Decided L)) (places : List (Place L)) (obs : List Parts) (ends : List Evidence) (whole : List (Decided L)) → Filling all places obs ends whole → length places ≡ 0 → all ≡ whole
  all_filled all [] obs ends whole filling none = sym (append-nil all) ∙ filling.whole_is
  all_filled all (p ∷ ps) obs ends whole filling none = absurd (omega arith)
