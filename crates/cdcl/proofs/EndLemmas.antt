use Rattle.std.proofs.Common.{◌≡◌, ◌<◌, ◌-◌, ℕ, Bool, false, not, List, [], ◌∷◌, ◌++◌, map, take, Option, Some, None, get_or, arith, sym, ◌∙◌, ap, subst, refl, length, Contains, inl, inr, ◌⊎◌, All, unwrap_or}
use Rattle.std.specs.List.{slice_get}
use Rattle.std.specs.Option.{IsSomeAnd, option_map}
use Rattle.std.proofs.Common.{length-append}
use Rattle.std.proofs.lemmas.List.Elements.{All-contains}
use Rattle.std.proofs.lemmas.Bool.{cases_eq}
use Rattle.std.proofs.lemmas.Option.{slice_get-map, slice_get-get_or}
use Rattle.std.proofs.lemmas.List.{get_or_push, get_or_append_left, take_at, take-append-le, length_push, length-map}
use Rattle.clause_check.specs.declared.literal.Lit.{Lit}
use Rattle.clause_check.specs.declared.formula.Step.{Step}
use Rattle.clause_check.specs.declared.formula.Cnf.{Cnf}
use Rattle.clause_check.specs.Clauses.{IsInRange}
use Rattle.clause_check.specs.Looks.{value_of, Shows}
use Rattle.clause_check.specs.Derivations.{clauses_of, IsStep, IsRefutation, Satisfies, Holds}
use Rattle.clause_check.proofs.RefuteLemmas.{known_true}
use Rattle.cdcl.specs.declared.trail.Entry.{Entry}
use Rattle.cdcl.specs.Closed.{IsMet, IsHonest}
use Rattle.cdcl.specs.Trails.{lits_of, IsAssigned}
use Rattle.cdcl.proofs.TrailLemmas.{avoids_var, contains_at, place_of_lit}

-- an honest chain and a last step with the empty clause
pub refutation_from : (cnf : Cnf) (steps : List Step) (s : Step) → IsHonest cnf steps → IsStep cnf steps s → s.clause ≡ [] → IsRefutation cnf (steps ++ s ∷ [])
refutation_from cnf steps s h one empty =
    record {
      derivation = λ i d lt. elim (cases_eq i (length steps)) [
        | inl e ↦
            subst (λ b. IsStep cnf b (get_or (steps ++ s ∷ []) i d)) (sym (take_at steps (s ∷ []) i (sym e)))
            (subst (IsStep cnf steps) (sym (get_or_push steps s d i (sym e))) one)
        | inr ne ↦
            let below : i < length steps = omega (arith, length_push steps s) in
            subst (λ b. IsStep cnf b (get_or (steps ++ s ∷ []) i d)) (sym (take-append-le i steps (s ∷ []) (omega arith)))
            (subst (IsStep cnf (take i steps)) (sym (get_or_append_left steps (s ∷ []) d i below)) (h i d below).implied)
      ];
      last =
          let n = length (steps ++ s ∷ []) - 1 in
          let at : length steps ≡ n = omega (arith, length_push steps s) in
          let got : slice_get (steps ++ s ∷ []) n ≡ Some s = slice_get-get_or (steps ++ s ∷ []) n s (omega (arith, length_push steps s)) ∙ ap Some (get_or_push steps s s n at) in
          subst (λ o. IsSomeAnd o (λ x. x.clause ≡ [])) (sym got) empty;
    }

abbrev plain : Option Bool → Bool
plain v = unwrap_or v false

-- the values of a complete trail hold
module _ (cnf : Cnf) (steps : List Step) (vars : ℕ) (entries : List Entry) (values : List (Option Bool)) (shows : Shows values (lits_of entries)) (len : length values ≡ vars) (same_vars : vars ≡ cnf.vars) (complete : All (IsMet (lits_of entries)) (clauses_of cnf.clauses steps)) (whole : (v : ℕ) → v < vars → IsAssigned entries v) where
  abbrev a : List Bool
  a = map plain values

  true_there : (l : Lit) → l.var < vars → Contains (lits_of entries) l → slice_get a l.var ≡ Some (not l.negative)
  true_there l lt h =
      let at : value_of values l.var ≡ Some (not l.negative) = known_true values (lits_of entries) shows l h in
      slice_get-map plain values l.var ∙ (ap (option_map plain) (slice_get-get_or values l.var None (omega (arith, len))) ∙ ap (λ o. Some (plain o)) at)

  satisfied : (c : List Lit) → IsInRange cnf.vars c → IsMet (lits_of entries) c → Satisfies a c
  satisfied c r (inl m) =
      let in' : (m.0).var < vars = let x = All-contains (λ (l : Lit). l.var < cnf.vars) c m.0 r m.1 in omega (arith, same_vars) in
      ((m.1).0, m.0, (m.1).1, (m.1).2, true_there m.0 in' m.2)
  satisfied c r (inr m) =
      let l = m.0 in let two = m.2 in
      let in' : l.var < vars = let x = All-contains (λ (l : Lit). l.var < cnf.vars) c l r two.first in omega (arith, same_vars) in
      let p = whole l.var in' in let at = p.1 in
      let z : Entry = record { lit = l; reason = None } in
      absurd (avoids_var (lits_of entries) l (get_or entries p.0 z).lit two.first_avoided (contains_at entries p.0 z at.within) (at.is z))

  pub holds_at_end : Holds cnf a
  holds_at_end =
      record {
        whole = length-map values plain ∙ (len ∙ same_vars);
        each = λ k d lt.
            let inputs = cnf.clauses in
            let at : get_or (clauses_of inputs steps) k d ≡ get_or inputs k d = get_or_append_left inputs (map (λ (s : Step). s.clause) steps) d k lt in
            satisfied (get_or inputs k d) (cnf.in_range k d lt) (subst (IsMet (lits_of entries)) at (complete k d (omega (arith, length-append inputs (map (λ (s : Step). s.clause) steps)))));
      }

pub value_cases : (o : Option Bool) → (o ≡ None) ⊎ ((b : Bool) × (o ≡ Some b))
value_cases None = inl refl
value_cases (Some b) = inr (b, refl)

-- a variable with a value stands in the trail
pub assigned_from_value : (values : List (Option Bool)) (entries : List Entry) → Shows values (lits_of entries) → (v : ℕ) → (value_of values v ≡ None → ⊥) → IsAssigned entries v
assigned_from_value values entries shows v some = elim (value_cases (value_of values v)) [
  | inl e ↦ absurd (some e)
  | inr b ↦
      let p = place_of_lit entries (record { var = v; negative = not b.0 }) ((shows v b.0).0 b.1) in
      (p.0, record { within = p.1; is = λ d. ap (λ (l : Lit). l.var) (p.2 d) })
]
