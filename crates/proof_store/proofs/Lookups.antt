-- Rows of kept proofs, and what is found in them.
use Rattle.std.proofs.Common.{◌≡◌, ℕ, ◌+◌, ◌<◌, List, [], ◌∷◌, ◌++◌, Option, Some, None, length, take, get_or, refl, sym, ap, ◌∙◌, subst}
use Rattle.std.specs.Prelude.{Vec, option_map}
use Rattle.std.specs.List.{AllZip}
use Rattle.std.specs.declared.alloc.Global.{Global}
use Rattle.std.proofs.lemmas.List.{take_more}
use Rattle.std.proofs.lemmas.Option.{same_Some}
use Rattle.std.proofs.lemmas.Slice.Zip.{all_zipped_more}
use Rattle.outside.specs.Tables.{Tables}
use Rattle.word_dag.specs.Nodes.{Parts}
use Rattle.clause_check.specs.declared.formula.Cnf.{Cnf}
use Rattle.clause_check.specs.declared.formula.Step.{Step}
use Rattle.proof_store_records.specs.Records.{IsRecord}
use Rattle.job_pool.specs.Shown.{IsShown}
use Rattle.job_pool.specs.declared.evidence.Evidence.TheVariants.{Derivation}
use Rattle.proof_store.specs.Goals.{AsKept}
use Rattle.proof_store.specs.Kept.{IsBuilt, IsKept, key_of}
use Rattle.proof_store.specs.Lookups.{Checked, Checks, ChecksRow, HasRow, IsChecked, IsKeyed, IsLookedUp, IsLookup, IsObOf, IsRowAt, Keyed, Lookup, Looks, Sought}
use Rattle.proof_store.specs.Rows.{IsAccepted}
use Rattle.proof_store.specs.declared.goal.Goal.{Goal}
use Rattle.proof_store.proofs.Proving.{derivation_shown, same_refutes}

-- what is accepted of a row's bytes over the clauses of the obligation
pub accepted_checks : (ob : Parts) (cnf : Cnf) (bits : List (List ℕ)) (row : Option (Vec ℕ Global)) (bytes : Vec ℕ Global) (given : List ℕ) (found : Option (Vec Step Global)) → IsBuilt ob cnf bits → row ≡ Some bytes → given ≡ bytes.items → IsAccepted cnf given found
    → ChecksRow ob row found
accepted_checks ob cnf bits row bytes given (Some steps) built is same accepted =
    (bytes, is, subst (λ (bs : List ℕ). IsRecord bs steps.items) same accepted.0, λ budget. derivation_shown budget ob cnf bits steps built accepted.1)
accepted_checks ob cnf bits row bytes given None built is same accepted = λ other other_is steps reads proof.
    let bytes_are : other ≡ bytes = same_Some other bytes (sym other_is ∙ is) in
    accepted steps (subst (λ (bs : List ℕ). IsRecord bs steps) (ap (λ (b : Vec ℕ Global). b.items) bytes_are ∙ sym same) reads)
    (same_refutes proof.formula cnf steps (proof.vars ∙ sym built.vars) (proof.clauses ∙ sym built.clauses) proof.refutes)

-- ---- found where it is kept
kept_there : (t : Tables) (ob : Parts) (row : Option (Vec ℕ Global)) (steps : Vec Step Global) → IsRowAt (Some t) (key_of ob) row → ChecksRow ob row (Some steps) → IsKept t ob
kept_there t ob row steps under checks =
    let shown : IsShown 0 ob (Derivation steps) = checks.3 0 in record {
      bytes = checks.0.items;
      steps = steps.items;
      row = sym under ∙ ap (option_map (λ (b : Vec ℕ Global). b.items)) checks.1;
      reads = checks.2;
      proof = record { formula = shown.formula; vars = shown.vars; clauses = shown.clauses; refutes = shown.shown };
    }

not_there : (t : Tables) (ob : Parts) (row : Option (Vec ℕ Global)) → IsRowAt (Some t) (key_of ob) row → ChecksRow ob row None → IsKept t ob → ⊥
not_there t ob None under checks kept = let clash : None ≡ Some kept.bytes = under ∙ kept.row in absurd (cc)
not_there t ob (Some bytes) under checks kept =
    let same : bytes.items ≡ kept.bytes = same_Some bytes.items kept.bytes (under ∙ kept.row) in
    checks bytes refl kept.steps (subst (λ (bs : List ℕ). IsRecord bs kept.steps) (sym same) kept.reads) kept.proof

-- the steps are those of the row
read_there : (t : Tables) (ob : Parts) (row : Option (Vec ℕ Global)) (steps : Vec Step Global) → IsRowAt (Some t) (key_of ob) row → ChecksRow ob row (Some steps) → AsKept t ob (Derivation steps)
read_there t ob row steps under checks = λ kept.
    let same : checks.0.items ≡ kept.bytes = same_Some checks.0.items kept.bytes (sym (ap (option_map (λ (b : Vec ℕ Global). b.items)) checks.1) ∙ (under ∙ kept.row)) in
    (steps, refl, subst (λ (bs : List ℕ). IsRecord bs steps.items) same checks.2)

row_looked_up : (tables : Option Tables) (ob : Parts) (row : Option (Vec ℕ Global)) (found : Option (Vec Step Global)) → IsRowAt tables (key_of ob) row → ChecksRow ob row found → IsLookedUp tables ob found
row_looked_up None ob row None under checks = record { shown = tt; kept = tt; recorded = tt }
row_looked_up None ob row (Some steps) under checks = record { shown = checks.3; kept = tt; recorded = tt }
row_looked_up (Some t) ob row None under checks = record { shown = tt; kept = (λ off. absurd (cc), λ kept. absurd (not_there t ob row under checks kept)); recorded = tt }
row_looked_up (Some t) ob row (Some steps) under checks = record { shown = checks.3; kept = (λ _. kept_there t ob row steps under checks, λ _. refl); recorded = read_there t ob row steps under checks }

-- ---- rows under texts
pub row_there : (tables now : Option Tables) (keyed : Keyed) (lookup : Lookup) (key : List ℕ) → lookup.ob.now ≡ keyed.ob.now → key ≡ keyed.known.items → now ≡ tables → IsRowAt now key lookup.known → HasRow tables keyed lookup
row_there tables now keyed lookup key ob_is key_is same row = record {
  ob_is = ob_is;
  row_is = subst (λ (k : List ℕ). IsRowAt tables k lookup.known) key_is (subst (λ (t : Option Tables). IsRowAt t key lookup.known) same row);
}

pub rows_looked : (tables : Option Tables) (obs : List Sought) (all : List Keyed) (lookups : List Lookup) → AllZip IsKeyed obs all → AllZip (HasRow tables) all lookups → AllZip (Looks tables) obs lookups
rows_looked tables [] [] [] are rows = tt
rows_looked tables [] [] (l ∷ ls) are rows = absurd rows
rows_looked tables [] (n ∷ ns) ls are rows = absurd are
rows_looked tables (q ∷ qs) [] ls are rows = absurd are
rows_looked tables (q ∷ qs) (n ∷ ns) [] are rows = absurd rows
rows_looked tables (q ∷ qs) (n ∷ ns) (l ∷ ls) are rows = (
  record { ob_is = rows.0.ob_is ∙ are.0.ob_is; row_is = subst (λ (k : List ℕ). IsRowAt tables k l.known) are.0.key_is rows.0.row_is },
  rows_looked tables qs ns ls are.1 rows.1,
)

pub looks_then : (tables now : Option Tables) (obs : List Sought) (lookups : List Lookup) → now ≡ tables → AllZip (Looks now) obs lookups → AllZip (Looks tables) obs lookups
looks_then tables now obs lookups same looks = subst (λ (t : Option Tables). AllZip (Looks t) obs lookups) same looks

module _ {L : Type 0} where
  -- one more obligation
  pub obs_more : (goals : List (Goal L)) (i : ℕ) (goal : Goal L) (obs more : List Sought) (ob : Sought) → i < length goals → goal ≡ get_or goals i goal → AllZip IsObOf (take i goals) obs → ob.ob.now ≡ goal.ob → more ≡ obs ++ ob ∷ []
      → AllZip IsObOf (take (i + 1) goals) more
  obs_more goals i goal obs more ob there one are here pushed =
      let whole : take i goals ++ goal ∷ [] ≡ take (i + 1) goals = ap (λ (g : Goal L). take i goals ++ g ∷ []) one ∙ sym (take_more goals i goal there) in
      subst (λ (gs : List (Goal L)). AllZip IsObOf gs more) whole (subst (AllZip IsObOf (take i goals ++ goal ∷ [])) (sym pushed) (all_zipped_more IsObOf (take i goals) obs goal ob are here))

  -- the rows of goals
  pub all_looked_up : (tables : Option Tables) (goals : List (Goal L)) (obs : List Sought) (lookups : List Lookup) → AllZip IsObOf goals obs → AllZip (Looks tables) obs lookups → AllZip (IsLookup tables) goals lookups
  all_looked_up tables [] [] [] are looks = tt
  all_looked_up tables [] [] (l ∷ ls) are looks = absurd looks
  all_looked_up tables [] (q ∷ qs) ls are looks = absurd are
  all_looked_up tables (g ∷ gs) [] ls are looks = absurd are
  all_looked_up tables (g ∷ gs) (q ∷ qs) [] are looks = absurd looks
  all_looked_up tables (g ∷ gs) (q ∷ qs) (l ∷ ls) are looks = (
    record { ob_is = looks.0.ob_is ∙ are.0; row_is = subst (λ (p : Parts). IsRowAt tables (key_of p) l.known) are.0 looks.0.row_is },
    all_looked_up tables gs qs ls are.1 looks.1,
  )

  -- the rows of goals, checked
  pub all_checked : (tables : Option Tables) (goals : List (Goal L)) (lookups : List Lookup) (obs : List Checked) → AllZip (IsLookup tables) goals lookups → AllZip Checks lookups obs → AllZip (IsChecked tables) goals obs
  all_checked tables [] [] [] are checks = tt
  all_checked tables [] [] (o ∷ os) are checks = absurd checks
  all_checked tables [] (l ∷ ls) os are checks = absurd are
  all_checked tables (g ∷ gs) [] os are checks = absurd are
  all_checked tables (g ∷ gs) (l ∷ ls) [] are checks = absurd checks
  all_checked tables (g ∷ gs) (l ∷ ls) (o ∷ os) are checks = (
    record {
      ob_is = checks.0.ob_is ∙ are.0.ob_is;
      looked = row_looked_up tables g.ob l.known o.known are.0.row_is (subst (λ (p : Parts). ChecksRow p l.known o.known) are.0.ob_is checks.0.kept);
    },
    all_checked tables gs ls os are.1 checks.1,
  )
