-- Proofs of obligations, and what shows how they ended.
use Rattle.std.proofs.Common.{◌≡◌, ℕ, zero, suc, ◌-◌, ◌<◌, List, [], ◌∷◌, ◌++◌, Option, Some, None, Bool, length, map, take, get_or, refl, sym, ap, ap₂, ◌∙◌, subst, arith}
use Rattle.std.specs.Prelude.{IfSome, IsSomeAnd, IsTrue, true, false, ◌↔◌, Vec, option_map, slice_get, slice_index_or}
use Rattle.std.specs.List.{AllZip}
use Rattle.std.specs.declared.alloc.Global.{Global}
use Rattle.std.proofs.lemmas.Option.{same_Some}
use Rattle.word_dag.specs.Nodes.{Parts}
use Rattle.outside.specs.Tables.{Tables}
use Rattle.clause_check.specs.declared.literal.Lit.{Lit}
use Rattle.clause_check.specs.declared.formula.Cnf.{Cnf}
use Rattle.clause_check.specs.declared.formula.Step.{Step}
use Rattle.clause_check.specs.Clauses.{IsInRange, negated}
use Rattle.clause_check.specs.Derivations.{IsRefutation, IsImplied, Refutes, clauses_of}
use Rattle.clause_check.proofs.Sound.{refuted}
use Rattle.helper_box.specs.Asked.{Passes}
use Rattle.helper_box.specs.declared.claim.Claim.{Claim}
use Rattle.helper_box.specs.declared.claim.Claim.TheVariants.{Nothing, Unsat, Values}
use Rattle.proof_store_records.specs.Records.{IsRecord, content, contents}
use Rattle.job_pool.specs.declared.evidence.Evidence.{Evidence}
use Rattle.job_pool.specs.declared.evidence.Evidence.TheVariants as e
use Rattle.job_pool.specs.Shown.{IsShown}
use Rattle.proof_store.specs.Goals.{AsKept, IsDecided}
use Rattle.proof_store.specs.Kept.{IsBuilt, IsProof}
use Rattle.proof_store.specs.Places.{Tells, TellsKept}
use Rattle.proof_store.specs.declared.goal.Decided.{Decided}
use Rattle.proof_store.specs.declared.goal.Goal.{Goal}

-- what refutes a formula refutes each one with the same variables and clauses
pub same_refutes : (f g : Cnf) (steps : List Step) → f.vars ≡ g.vars → f.clauses ≡ g.clauses → IsRefutation f steps → IsRefutation g steps
same_refutes f g steps vars clauses h = record {
  derivation = λ i d lt. let s = h.derivation i d lt in record {
    in_range = subst (λ (v : ℕ). IsInRange v (slice_index_or steps i d).clause) vars s.in_range;
    implied = subst (λ (cs : List (List Lit)). IsImplied (clauses_of cs (take i steps)) (slice_index_or steps i d)) clauses s.implied;
  };
  last = h.last;
}

-- ---- steps with the same clauses and hints
record Alike (a b : Step) : Type 0 where
  clause : a.clause ≡ b.clause
  hints : a.hints.items ≡ b.hints.items

abbrev AreAlike : List Step → List Step → Type 0
AreAlike xs ys = AllZip Alike xs ys

head_alike : (x y : Step) (xs ys : List Step) → contents (x ∷ xs) ≡ contents (y ∷ ys) → Alike x y
head_alike x y xs ys same =
    let first : content x ≡ content y = cc in
    record { clause = ap (λ (p : List Lit × List ℕ). p.0) first; hints = ap (λ (p : List Lit × List ℕ). p.1) first }

tail_alike : (x y : Step) (xs ys : List Step) → contents (x ∷ xs) ≡ contents (y ∷ ys) → contents xs ≡ contents ys
tail_alike x y xs ys same = cc

alike_from_contents : (xs ys : List Step) → contents xs ≡ contents ys → AreAlike xs ys
alike_from_contents [] [] same = tt
alike_from_contents [] (y ∷ ys) same = absurd (cc)
alike_from_contents (x ∷ xs) [] same = absurd (cc)
alike_from_contents (x ∷ xs) (y ∷ ys) same = (head_alike x y xs ys same, alike_from_contents xs ys (tail_alike x y xs ys same))

alike_clauses : (i : ℕ) (xs ys : List Step) → AreAlike xs ys → map (λ (s : Step). s.clause) (take i xs) ≡ map (λ (s : Step). s.clause) (take i ys)
alike_clauses zero xs ys z = refl
alike_clauses (suc i) [] [] z = refl
alike_clauses (suc i) [] (y ∷ ys) z = absurd z
alike_clauses (suc i) (x ∷ xs) [] z = absurd z
alike_clauses (suc i) (x ∷ xs) (y ∷ ys) z = ap₂ (λ (c : List Lit) (cs : List (List Lit)). c ∷ cs) z.0.clause (alike_clauses i xs ys z.1)

alike_at : (i : ℕ) (xs ys : List Step) (d : Step) → AreAlike xs ys → i < length ys → (i < length xs) × Alike (get_or xs i d) (get_or ys i d)
alike_at i [] [] d z lt = absurd (omega arith)
alike_at i [] (y ∷ ys) d z lt = absurd z
alike_at i (x ∷ xs) [] d z lt = absurd z
alike_at zero (x ∷ xs) (y ∷ ys) d z lt = (omega arith, z.0)
alike_at (suc i) (x ∷ xs) (y ∷ ys) d z lt = let rest = alike_at i xs ys d z.1 (omega arith) in (let below : i < length xs = rest.0 in omega arith, rest.1)

alike_last : (xs ys : List Step) → AreAlike xs ys → IsSomeAnd (slice_get xs (length xs - 1)) (λ s. s.clause ≡ []) → IsSomeAnd (slice_get ys (length ys - 1)) (λ s. s.clause ≡ [])
alike_last xs ys z last = by (length xs - 1) xs ys z (ap (λ n. n - 1) (long xs ys z)) last
  where
    long : (xs ys : List Step) → AreAlike xs ys → length xs ≡ length ys
    long [] [] z = refl
    long [] (y ∷ ys) z = absurd z
    long (x ∷ xs) [] z = absurd z
    long (x ∷ xs) (y ∷ ys) z = ap suc (long xs ys z.1)

    at : (k : ℕ) (xs ys : List Step) → AreAlike xs ys → IsSomeAnd (slice_get xs k) (λ s. s.clause ≡ []) → IsSomeAnd (slice_get ys k) (λ s. s.clause ≡ [])
    at k [] [] z last = last
    at k [] (y ∷ ys) z last = absurd z
    at k (x ∷ xs) [] z last = absurd z
    at zero (x ∷ xs) (y ∷ ys) z last = sym z.0.clause ∙ last
    at (suc k) (x ∷ xs) (y ∷ ys) z last = at k xs ys z.1 last

    by : (k : ℕ) (xs ys : List Step) → AreAlike xs ys → k ≡ length ys - 1 → IsSomeAnd (slice_get xs k) (λ s. s.clause ≡ []) → IsSomeAnd (slice_get ys (length ys - 1)) (λ s. s.clause ≡ [])
    by k xs ys z is last = subst (λ (n : ℕ). IsSomeAnd (slice_get ys n) (λ s. s.clause ≡ [])) is (at k xs ys z last)

pub alike_refutes : (cnf : Cnf) (xs ys : List Step) → contents xs ≡ contents ys → IsRefutation cnf xs → IsRefutation cnf ys
alike_refutes cnf xs ys same h = let z = alike_from_contents xs ys same in record {
  derivation = λ i d lt.
      let both = alike_at i xs ys d z lt in
      let step = h.derivation i d both.0 in record {
        in_range = subst (λ (c : List Lit). IsInRange cnf.vars c) both.1.clause step.in_range;
        implied = implied_by (clauses_of cnf.clauses (take i xs)) (clauses_of cnf.clauses (take i ys)) (get_or xs i d) (get_or ys i d)
            (ap (λ (cs : List (List Lit)). cnf.clauses ++ cs) (alike_clauses i xs ys z)) both.1 step.implied;
      };
  last = alike_last xs ys z h.last;
}
  where
    implied_by : (cs ds : List (List Lit)) (x y : Step) → cs ≡ ds → Alike x y → IsImplied cs x → IsImplied ds y
    implied_by cs ds x y clauses alike implied =
        subst (λ (es : List (List Lit)). IsImplied es y) clauses
        (subst (λ (hs : List ℕ). Refutes cs (map negated y.clause) hs) alike.hints (subst (λ (c : List Lit). Refutes cs (map negated c) x.hints.items) alike.clause implied))

-- steps that refute the obligation's clauses are evidence, whatever the budget
pub derivation_shown : (budget : ℕ) (ob : Parts) (cnf : Cnf) (bits : List (List ℕ)) (steps : Vec Step Global) → IsBuilt ob cnf bits → IsRefutation cnf steps.items → IsShown budget ob (e.Derivation steps)
derivation_shown budget ob cnf bits steps built refutes = record {
  formula = cnf;
  vars = built.vars;
  clauses = built.clauses;
  shown = refutes;
  decides = λ values one. let there = built.carries.from_values values one in refuted cnf steps.items refutes there.0 there.1.holds;
}

claim_shown : (budget : ℕ) (ob : Parts) (cnf : Cnf) (bits : List (List ℕ)) (claim : Claim) (found : Option Evidence) → IsBuilt ob cnf bits → Passes ob cnf claim → Tells claim found → IfSome found (IsShown budget ob)
claim_shown budget ob cnf bits Nothing found built passes tells = subst (λ (f : Option Evidence). IfSome f (IsShown budget ob)) (sym tells) tt
claim_shown budget ob cnf bits (Unsat steps) found built passes tells =
    subst (λ (f : Option Evidence). IfSome f (IsShown budget ob)) (sym tells) (derivation_shown budget ob cnf bits steps built passes)
claim_shown budget ob cnf bits (Values values) found built passes tells =
    subst (λ (f : Option Evidence). IfSome f (IsShown budget ob)) (sym tells) (record { fit = passes.fit; root = passes.root })

-- so whatever the budget
pub claim_shown_ever : (ob : Parts) (cnf : Cnf) (bits : List (List ℕ)) (claim : Claim) (found : Option Evidence) → IsBuilt ob cnf bits → Passes ob cnf claim → Tells claim found → IfSome found (λ evidence. (budget : ℕ) → IsShown budget ob evidence)
claim_shown_ever ob cnf bits claim None built passes tells = tt
claim_shown_ever ob cnf bits claim (Some evidence) built passes tells = λ budget. claim_shown budget ob cnf bits claim (Some evidence) built passes tells

module _ {L : Type 0} where
  -- a derivation of a decided goal is a proof of its obligation
  pub decided_proof : (budget : ℕ) (goal : Goal L) (d : Decided L) → IsDecided budget goal d → (steps : Vec Step Global) → d.evidence ≡ e.Derivation steps → IsProof d.goal.ob steps.items
  decided_proof budget goal d decided steps is =
      let shown : IsShown budget goal.ob (e.Derivation steps) = subst (IsShown budget goal.ob) is decided.shown in
      subst (λ (g : Goal L). IsProof g.ob steps.items) (sym decided.goal_is)
      (record { formula = shown.formula; vars = shown.vars; clauses = shown.clauses; refutes = shown.shown })

-- where nothing is read, the bytes are a record of no steps
pub none_read : (bytes : List ℕ) (read : Option (Vec Step Global)) → ((steps : List Step) → IsRecord bytes steps → option_map (λ s. contents s.items) read ≡ Some (contents steps)) → read ≡ None
    → (steps : List Step) → IsRecord bytes steps → ⊥
none_read bytes read exact none steps reads = let there = exact steps reads in let refused : None ≡ Some (contents steps) = ap (option_map (λ (s : Vec Step Global). contents s.items)) (sym none) ∙ there in absurd (cc)

-- where the steps that are read don't pass, no steps of which the bytes are a record do
pub none_passes : (cnf : Cnf) (bytes : List ℕ) (read : Option (Vec Step Global)) (found : Vec Step Global) → ((steps : List Step) → IsRecord bytes steps → option_map (λ s. contents s.items) read ≡ Some (contents steps)) → read ≡ Some found
    → (IsRefutation cnf found.items → ⊥) → (steps : List Step) → IsRecord bytes steps → IsRefutation cnf steps → ⊥
none_passes cnf bytes read found exact is refused steps reads refutes =
    let there = exact steps reads in
    let same : Some (contents found.items) ≡ Some (contents steps) = ap (option_map (λ (s : Vec Step Global). contents s.items)) (sym is) ∙ there in
    refused (alike_refutes cnf steps found.items (sym (same_Some (contents found.items) (contents steps) same)) refutes)

-- steps that the check refuses refute nothing
pub not_passed : (cnf : Cnf) (steps : Vec Step Global) (given : List Step) (passed : Bool) → given ≡ steps.items → (IsTrue passed ↔ IsRefutation cnf given) → passed ≡ false → IsRefutation cnf steps.items → ⊥
not_passed cnf steps given passed same tells off refutes =
    let on : passed ≡ true = tells.1 (subst (IsRefutation cnf) (sym same) refutes) in absurd (cc)

-- where the tables are told to keep no proof, nothing is asked of the evidence
pub none_kept : (tables : Option Tables) (ob : Parts) (evidence : Evidence) → TellsKept tables ob false → IfSome tables (λ t. AsKept t ob evidence)
none_kept None ob evidence tells = tt
none_kept (Some t) ob evidence tells = λ kept. let on : false ≡ true = tells.1 kept in absurd (cc)
