-- Rows that are put one after another.
use Rattle.std.proofs.Common.{◌≡◌, ℕ, ◌+◌, ◌<◌, ◌≤◌, ⊎_elim, inr, List, [], ◌∷◌, ◌++◌, Option, Some, None, true, false, get_or, length, map, take, refl, sym, ap, ap₂, ◌∙◌, subst, arith, append_assoc, append-nil}
use Rattle.std.specs.Prelude.{All, IfSome, IsTrue, Vec, ◌↔◌}
use Rattle.std.specs.List.{AllZip}
use Rattle.std.specs.declared.alloc.Global.{Global}
use Rattle.std.proofs.lemmas.List.{take_more}
use Rattle.std.proofs.lemmas.List.Elements.{All-cons, All-head, All-nil, All-tail}
use Rattle.std.proofs.lemmas.Slice.Zip.{all_zipped_more}
use Rattle.outside.specs.Tables.{Tables}
use Rattle.word_dag.specs.Nodes.{Parts}
use Rattle.clause_check.specs.declared.formula.Step.{Step}
use Rattle.job_pool.specs.declared.evidence.Evidence.{Evidence}
use Rattle.job_pool.specs.declared.evidence.Evidence.TheVariants.{Derivation}
use Rattle.proof_store.specs.Goals.{Ended, ended, is_kept}
use Rattle.proof_store.specs.Kept.{IsKept, IsProof}
use Rattle.proof_store.specs.Outcomes.{IsNewRow, IsOutcome, TellsOutcome, outcome_ended, put_one}
use Rattle.proof_store.specs.Rows.{HasProofs, IsRowOf}
use Rattle.proof_store.specs.Stored.{AddsProofs, Puts, StoresNew, Told, ended_ob}
use Rattle.proof_store.specs.declared.goal.Decided.{Decided}
use Rattle.proof_store.specs.declared.keeping.Row.{Row}
use Rattle.proof_store.specs.declared.putting.Outcome.{Outcome}
use Rattle.proof_store.proofs.Pieces.{few_within}
use Rattle.proof_store.proofs.Storing.{puts_row, told_left, told_none, told_past, told_put}

-- ---- one row
row_puts : (d : Ended) (row : Option Row) (now : Option Tables) → IsRowOf d row → Told (Puts d) now (put_one row now)
row_puts d None None made = tt
row_puts d None (Some t) made = inr (made, refl)
row_puts d (Some row) now made = puts_row d (Some row) row now (put_one (Some row) now) row.key.items row.bytes.items made refl refl refl refl

not_kept : (o : Outcome) (before : Option Tables) → IfSome before (λ t. TellsOutcome t o) → o.kept ≡ false → IfSome before (λ t. IsKept t o.ob.now → ⊥)
not_kept o None tells off = tt
not_kept o (Some t) tells off = λ kept. let on : o.kept ≡ true = tells.1 kept in absurd (cc)

is_there : (o : Outcome) (before : Option Tables) → IfSome before (λ t. TellsOutcome t o) → o.kept ≡ true → IfSome before (λ t. IsKept t o.ob.now)
is_there o None tells on = tt
is_there o (Some t) tells on = tells.0 on

-- one more obligation, of which this row is put
row_stored : (done : List Ended) (o : Outcome) (row : Option Row) (before now after : Option Tables) → IsNewRow o row → IfSome before (λ t. TellsOutcome t o)
    → ((steps : Vec Step Global) → (outcome_ended o).evidence ≡ Derivation steps → IsProof o.ob.now steps.items) → Told (StoresNew done) before now → after ≡ put_one row now → Told (StoresNew (done ++ outcome_ended o ∷ [])) before after
row_stored done o row before now after new tells proof stores put = subst (λ (t : Option Tables). Told (StoresNew (done ++ outcome_ended o ∷ [])) before t) (sym put)
    (⊎_elim
    (λ (kept : (o.kept ≡ true) × (row ≡ None)). subst (λ (r : Option Row). Told (StoresNew (done ++ outcome_ended o ∷ [])) before (put_one r now)) (sym kept.1)
    (told_past done (outcome_ended o) before now stores (is_there o before tells kept.0)))
    (λ (fresh : (o.kept ≡ false) × IsRowOf (outcome_ended o) row).
    told_put done (outcome_ended o) before now (put_one row now) stores (not_kept o before tells fresh.0) proof (row_puts (outcome_ended o) row now fresh.1))
    new)

-- ---- the obligations of goals
module _ {L : Type 0} where
  pub outcomes_more : (decided : List (Decided L)) (i : ℕ) (d : Decided L) (all more : List Outcome) (o : Outcome) → i < length decided → d ≡ get_or decided i d → AllZip IsOutcome (take i decided) all → IsOutcome d o → more ≡ all ++ o ∷ []
      → AllZip IsOutcome (take (i + 1) decided) more
  outcomes_more decided i d all more o there one are here pushed =
      let whole : take i decided ++ d ∷ [] ≡ take (i + 1) decided = ap (λ (x : Decided L). take i decided ++ x ∷ []) one ∙ sym (take_more decided i d there) in
      subst (λ (ds : List (Decided L)). AllZip IsOutcome ds more) whole (subst (AllZip IsOutcome (take i decided ++ d ∷ [])) (sym pushed) (all_zipped_more IsOutcome (take i decided) all d o are here))

  ended_is : (d : Decided L) (o : Outcome) → IsOutcome d o → ended d ≡ outcome_ended o
  ended_is d o is = ap₂ (λ (ob : Parts) (evidence : Evidence). record { ob = ob; evidence = evidence }) (sym is.ob_is) (sym is.evidence_is)

  same_ends : (decided : List (Decided L)) (all : List Outcome) → AllZip IsOutcome decided all → map ended decided ≡ map outcome_ended all
  same_ends [] [] are = refl
  same_ends [] (o ∷ os) are = absurd are
  same_ends (d ∷ ds) [] are = absurd are
  same_ends (d ∷ ds) (o ∷ os) are = ap₂ (λ (e : Ended) (es : List Ended). e ∷ es) (ended_is d o are.0) (same_ends ds os are.1)

  pub ends_are : (decided : List (Decided L)) (all slice : List Outcome) → AllZip IsOutcome decided all → slice ≡ all → map ended decided ≡ map outcome_ended slice
  ends_are decided all slice are slice_is = same_ends decided all are ∙ ap (map outcome_ended) (sym slice_is)

  abbrev Flag : Tables → Decided L → Type 0
  Flag t d = IsTrue (is_kept d) ↔ IsKept t d.goal.ob

  flag_is : (t : Tables) (d : Decided L) (o : Outcome) → IsOutcome d o → Flag t d → TellsOutcome t o
  flag_is t d o is tells = (λ on. subst (IsKept t) (sym is.ob_is) (tells.0 (sym is.kept_is ∙ on)), λ kept. is.kept_is ∙ tells.1 (subst (IsKept t) is.ob_is kept))

  flags_each : (t : Tables) (decided : List (Decided L)) (all : List Outcome) → AllZip IsOutcome decided all → All (Flag t) decided → All (TellsOutcome t) all
  flags_each t [] [] are tell = All-nil (TellsOutcome t)
  flags_each t [] (o ∷ os) are tell = absurd are
  flags_each t (d ∷ ds) [] are tell = absurd are
  flags_each t (d ∷ ds) (o ∷ os) are tell = All-cons (TellsOutcome t) o os (flag_is t d o are.0 (All-head (Flag t) d ds tell)) (flags_each t ds os are.1 (All-tail (Flag t) d ds tell))

  pub flags_are : (tables : Option Tables) (decided : List (Decided L)) (all slice : List Outcome) → AllZip IsOutcome decided all → slice ≡ all → IfSome tables (λ t. All (λ d. IsTrue (is_kept d) ↔ IsKept t d.goal.ob) decided)
      → IfSome tables (λ t. All (TellsOutcome t) slice)
  flags_are None decided all slice are slice_is tell = tt
  flags_are (Some t) decided all slice are slice_is tell = subst (All (TellsOutcome t)) (sym slice_is) (flags_each t decided all are tell)

-- ---- one row after another

-- of those before the proofs are put, these rows are left to be put for some, and then come these
pub record PutLoop (outcomes later : List Outcome) (rows : List (Option Row)) (before now : Option Tables) : Type 0 where
  pub done : List Outcome
  pub left : List Outcome
  pub split : outcomes ≡ done ++ (left ++ later)
  pub are : AllZip IsNewRow left rows
  pub stores : Told (StoresNew (map outcome_ended done)) before now
  pub flags : IfSome before (λ t. All (TellsOutcome t) (left ++ later))
  pub proofs : HasProofs (map outcome_ended (left ++ later))

pub put_start : (outcomes later : List Outcome) (before : Option Tables) → later ≡ outcomes → IfSome before (λ t. All (TellsOutcome t) outcomes) → HasProofs (map outcome_ended outcomes) → PutLoop outcomes later [] before before
put_start outcomes later before same flags proofs = record {
  done = [];
  left = [];
  split = sym same;
  are = tt;
  stores = told_none before;
  flags = subst (λ (os : List Outcome). IfSome before (λ t. All (TellsOutcome t) os)) (sym same) flags;
  proofs = subst (λ (os : List Outcome). HasProofs (map outcome_ended os)) (sym same) proofs;
}

none_left : (left : List Outcome) → AllZip IsNewRow left [] → left ≡ []
none_left [] are = refl
none_left (o ∷ os) are = absurd are

-- the next ones aren't more than all
pub put_within : (outcomes all few later : List Outcome) (before now : Option Tables) → PutLoop outcomes all [] before now → all ≡ few ++ later → length few ≤ length outcomes
put_within outcomes all few later before now loop split =
    few_within outcomes loop.done all few later (loop.split ∙ ap (λ (os : List Outcome). loop.done ++ (os ++ all)) (none_left loop.left loop.are)) split

-- the next ones, whose rows were made
pub put_few : (outcomes few later all : List Outcome) (rows given : List (Option Row)) (before now : Option Tables) → PutLoop outcomes all [] before now → all ≡ few ++ later → AllZip IsNewRow few rows → given ≡ rows → PutLoop outcomes later given before now
put_few outcomes few later all rows given before now loop split are given_is =
    let rest : loop.left ++ all ≡ few ++ later = ap (λ (os : List Outcome). os ++ all) (none_left loop.left loop.are) ∙ split in record {
      done = loop.done;
      left = few;
      split = loop.split ∙ ap (λ (os : List Outcome). loop.done ++ os) rest;
      are = subst (AllZip IsNewRow few) (sym given_is) are;
      stores = loop.stores;
      flags = subst (λ (os : List Outcome). IfSome before (λ t. All (TellsOutcome t) os)) rest loop.flags;
      proofs = subst (λ (os : List Outcome). HasProofs (map outcome_ended os)) rest loop.proofs;
    }

first_tells : (o : Outcome) (os : List Outcome) (before : Option Tables) → IfSome before (λ t. All (TellsOutcome t) (o ∷ os)) → IfSome before (λ t. TellsOutcome t o) × IfSome before (λ t. All (TellsOutcome t) os)
first_tells o os None flags = (tt, tt)
first_tells o os (Some t) flags = (All-head (TellsOutcome t) o os flags, All-tail (TellsOutcome t) o os flags)

abbrev ProofOf : Ended → Type 0
ProofOf d = (steps : Vec Step Global) → d.evidence ≡ Derivation steps → IsProof d.ob steps.items

map_end : (done : List Outcome) (o : Outcome) → map outcome_ended done ++ outcome_ended o ∷ [] ≡ map outcome_ended (done ++ o ∷ [])
map_end [] o = refl
map_end (d ∷ ds) o = ap (λ (es : List Ended). outcome_ended d ∷ es) (map_end ds o)

step : (outcomes later done left : List Outcome) (row : Option Row) (rows : List (Option Row)) (before now after : Option Tables) → outcomes ≡ done ++ (left ++ later) → AllZip IsNewRow left (row ∷ rows) → Told (StoresNew (map outcome_ended done)) before now
    → IfSome before (λ t. All (TellsOutcome t) (left ++ later)) → HasProofs (map outcome_ended (left ++ later)) → after ≡ put_one row now → PutLoop outcomes later rows before after
step outcomes later done [] row rows before now after split are stores flags proofs put = absurd are
step outcomes later done (o ∷ os) row rows before now after split are stores flags proofs put =
    let tells = first_tells o (os ++ later) before flags in record {
      done = done ++ o ∷ [];
      left = os;
      split = split ∙ sym (append_assoc done (o ∷ []) (os ++ later));
      are = are.1;
      stores = subst (λ (es : List Ended). Told (StoresNew es) before after) (map_end done o)
          (row_stored (map outcome_ended done) o row before now after are.0 tells.0 (All-head ProofOf (outcome_ended o) (map outcome_ended (os ++ later)) proofs) stores put);
      flags = tells.1;
      proofs = All-tail ProofOf (outcome_ended o) (map outcome_ended (os ++ later)) proofs;
    }

pub put_more : (outcomes later : List Outcome) (all rows : List (Option Row)) (row : Option Row) (before now after : Option Tables) → PutLoop outcomes later all before now → all ≡ row ∷ rows → after ≡ put_one row now → PutLoop outcomes later rows before after
put_more outcomes later all rows row before now after loop is put =
    step outcomes later loop.done loop.left row rows before now after loop.split (subst (AllZip IsNewRow loop.left) is loop.are) loop.stores loop.flags loop.proofs put

pub few_put : (outcomes later : List Outcome) (rows : List (Option Row)) (before now : Option Tables) → PutLoop outcomes later rows before now → length rows ≡ 0 → PutLoop outcomes later [] before now
few_put outcomes later [] before now loop none = loop
few_put outcomes later (r ∷ rs) before now loop none = absurd (omega arith)

map_both : (xs ys : List Outcome) → map outcome_ended xs ++ map outcome_ended ys ≡ map outcome_ended (xs ++ ys)
map_both [] ys = refl
map_both (x ∷ xs) ys = ap (λ (es : List Ended). outcome_ended x ∷ es) (map_both xs ys)

-- what was put by now
pub put_so_far : (outcomes later : List Outcome) (rows : List (Option Row)) (before now after : Option Tables) → PutLoop outcomes later rows before now → after ≡ now → Told (AddsProofs (map ended_ob (map outcome_ended outcomes))) before after
put_so_far outcomes later rows before now after loop same =
    subst (λ (t : Option Tables). Told (AddsProofs (map ended_ob (map outcome_ended outcomes))) before t) (sym same)
    (subst (λ (es : List Ended). Told (AddsProofs (map ended_ob es)) before now) (map_both loop.done (loop.left ++ later) ∙ ap (map outcome_ended) (sym loop.split))
    (told_left (map outcome_ended loop.done) (map outcome_ended (loop.left ++ later)) before now loop.stores))

pub all_put : (outcomes later : List Outcome) (before now : Option Tables) → PutLoop outcomes later [] before now → length later ≡ 0 → Told (StoresNew (map outcome_ended outcomes)) before now
all_put outcomes [] before now loop none =
    let whole : loop.done ≡ outcomes = sym (append-nil loop.done) ∙ (ap (λ (os : List Outcome). loop.done ++ os) (sym (append-nil loop.left ∙ none_left loop.left loop.are)) ∙ sym loop.split) in
    subst (λ (os : List Outcome). Told (StoresNew (map outcome_ended os)) before now) whole loop.stores
all_put outcomes (o ∷ os) before now loop none = absurd (omega arith)
