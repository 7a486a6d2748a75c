use Rattle.std.proofs.Common.{◌≡◌, ℕ, zero, suc, ◌+◌, ◌-◌, ◌<◌, ◌≤◌, Bool, true, false, List, [], ◌∷◌, drop, length, refl, ◌∙◌, ap, subst, arith, Option, Some, None, inl, inr}
use Rattle.std.proofs.lemmas.Bool.{cases_lt}
use Rattle.set_tree.specs.declared.set.Set.{Set}
use Rattle.vlog_tree.specs.declared.expr.Expr.{Expr}
use Rattle.set_tree.specs.declared.path.At.{At}
use Rattle.set_tree.specs.declared.path.Path.{Path}
use Rattle.set_tree.specs.Meaning.{Row, Meaning}
use Rattle.set_tree.specs.Parts.{property_at, IsPosition, IsOperation, largest_window, end_of, end_until, assumed}
use Rattle.set_tree.specs.Structure.{IsSound}
use Rattle.set_tree.specs.Paths.{next_of, step_at, GoesFrom, endless, last, unsplit, onward, HasOnePath}
use Rattle.set_tree_completeness.proofs.Chain.{first_offset-within, found_member}

-- two paths are the same
pub record Same (steps steps' : List At) (stuck stuck' : Bool) : Type 0 where
  pub same_steps : steps ≡ steps'
  pub same_stuck : stuck ≡ stuck'

module _ (m : Meaning) (set : Set) (trace : List Row) where
  by_endless : {p s : ℕ} {steps : List At} {stuck : Bool} → GoesFrom m set trace p s steps stuck → end_of m set p (drop s trace) ≡ None → Same steps (step_at p s ∷ []) stuck true
  by_endless (endless p s none) is = record { same_steps = refl; same_stuck = refl }
  by_endless (last p s n end short) is = absurd cc
  by_endless (unsplit p s n end room none) is = absurd cc
  by_endless (onward p s n q steps stuck end room next rest) is = absurd cc

  by_last : {p s : ℕ} {steps : List At} {stuck : Bool} → GoesFrom m set trace p s steps stuck → (k : ℕ) → end_of m set p (drop s trace) ≡ Some k → length trace ≤ s + k + largest_window set → Same steps (step_at p s ∷ []) stuck false
  by_last (endless p s none) k is few = absurd cc
  by_last (last p s n end short) k is few = record { same_steps = refl; same_stuck = refl }
  by_last (unsplit p s n end room none) k is few = absurd (let same : n ≡ k = cc in omega arith)
  by_last (onward p s n q steps stuck end room next rest) k is few = absurd (let same : n ≡ k = cc in omega arith)

  by_unsplit : {p s : ℕ} {steps : List At} {stuck : Bool} → GoesFrom m set trace p s steps stuck → (k : ℕ) → end_of m set p (drop s trace) ≡ Some k → s + k + largest_window set < length trace → next_of m set p (drop (s + k) trace) ≡ None → Same steps (step_at p s ∷ []) stuck true
  by_unsplit (endless p s none) k is more miss = absurd cc
  by_unsplit (last p s n end short) k is more miss = absurd (let same : n ≡ k = cc in omega arith)
  by_unsplit (unsplit p s n end room none) k is more miss = record { same_steps = refl; same_stuck = refl }
  by_unsplit (onward p s n q steps stuck end room next rest) k is more miss = absurd (let same : n ≡ k = cc in cc)

  -- what follows an onward step of the other derivation
  pub record Onward (p s k r : ℕ) (steps : List At) (stuck : Bool) : Type 0 where
    pub rest : List At
    pub is : steps ≡ step_at p s ∷ rest
    pub goes : GoesFrom m set trace r (s + k) rest stuck

  by_onward : {p s : ℕ} {steps : List At} {stuck : Bool} → GoesFrom m set trace p s steps stuck → (k r : ℕ) → end_of m set p (drop s trace) ≡ Some k → s + k + largest_window set < length trace → next_of m set p (drop (s + k) trace) ≡ Some r → Onward p s k r steps stuck
  by_onward (endless p s none) k r is more hit = absurd cc
  by_onward (last p s n end short) k r is more hit = absurd (let same : n ≡ k = cc in omega arith)
  by_onward (unsplit p s n end room none) k r is more hit = absurd (let same : n ≡ k = cc in cc)
  by_onward (onward p s n q steps stuck end room next rest) k r is more hit =
      let same : n ≡ k = cc in
      let next_same : q ≡ r = cc in
      record { rest = steps; is = refl; goes = subst (λ (i : ℕ). GoesFrom m set trace i (s + k) steps stuck) next_same (subst (λ (j : ℕ). GoesFrom m set trace q (s + j) steps stuck) same rest) }

  -- from P at s on there is one path
  pub one_from : {p s : ℕ} {steps : List At} {stuck : Bool} → GoesFrom m set trace p s steps stuck → (others : List At) (other_stuck : Bool) → GoesFrom m set trace p s others other_stuck → Same others steps other_stuck stuck
  one_from (endless p s none) others other_stuck goes = by_endless goes none
  one_from (last p s n end short) others other_stuck goes = by_last goes n end short
  one_from (unsplit p s n end room none) others other_stuck goes = by_unsplit goes n end room none
  one_from (onward p s n q steps stuck end room next rest) others other_stuck goes =
      let o = by_onward goes n q end room next in
      let more = one_from rest o.rest other_stuck o.goes in
      record { same_steps = o.is ∙ ap (λ (r : List At). step_at p s ∷ r) more.same_steps; same_stuck = more.same_stuck }

-- an end lies no earlier than the length's low bound
end-low : (m : Meaning) (set : Set) (p n : ℕ) (rows : List Row) → end_of m set p rows ≡ Some n → (property_at set p).length.low ≤ n
end-low m set p n rows is = go (property_at set p).length.until refl
  where
    go : (u : Option Expr) → (property_at set p).length.until ≡ u → (property_at set p).length.low ≤ n
    go None none =
        let e : end_of m set p rows ≡ Some (property_at set p).length.low = ap (λ u. end_until m (property_at set p).length u rows) none in
        let same : (property_at set p).length.low ≡ n = cc in
        omega arith
    go (Some e) some = (first_offset-within m e rows (property_at set p).length.low (suc (property_at set p).length.high - (property_at set p).length.low) n (subst (λ (u : Option Expr). end_until m (property_at set p).length u rows ≡ Some n) some is)).0

same_path : (other : Path) (steps : List At) (stuck : Bool) → other.steps ≡ steps → other.stuck ≡ stuck → other ≡ record { steps = steps; stuck = stuck }
same_path other steps stuck e f = λ i. record { steps = e i; stuck = f i }

module _ (m : Meaning) (set : Set) (sound : IsSound m set) (trace : List Row) where
  -- the path from P on, where there is one from each operation that starts later
  some_through : (p s : ℕ) → IsPosition set p → ((n q : ℕ) → (property_at set p).length.low ≤ n → s + n + largest_window set < length trace → IsOperation set q → (steps : List At) × (stuck : Bool) × GoesFrom m set trace q (s + n) steps stuck) → (steps : List At) × (stuck : Bool) × GoesFrom m set trace p s steps stuck
  some_through p s at rest = ended (end_of m set p (drop s trace)) refl
    where
      followed : (n : ℕ) → end_of m set p (drop s trace) ≡ Some n → s + n + largest_window set < length trace → (r : Option ℕ) → next_of m set p (drop (s + n) trace) ≡ r → (steps : List At) × (stuck : Bool) × GoesFrom m set trace p s steps stuck
      followed n is room None none = (step_at p s ∷ [], true, unsplit p s n is room none)
      followed n is room (Some q) next =
          let operation = sound.edges p q at (found_member (λ q. assumed m set q (drop (s + n) trace)) (property_at set p).next q next) in
          let more = rest n q (end-low m set p n (drop s trace) is) room operation in
          (step_at p s ∷ more.0, more.1, onward p s n q more.0 more.1 is room next more.2)

      ended : (r : Option ℕ) → end_of m set p (drop s trace) ≡ r → (steps : List At) × (stuck : Bool) × GoesFrom m set trace p s steps stuck
      ended None none = (step_at p s ∷ [], true, endless p s none)
      ended (Some n) is = elim (cases_lt (s + n + largest_window set) (length trace)) [
        | inl room ↦ followed n is room (next_of m set p (drop (s + n) trace)) refl
        | inr short ↦ (step_at p s ∷ [], false, last p s n is short)
      ]

  some_from : (few p s : ℕ) → length trace ≤ s + few → IsOperation set p → (steps : List At) × (stuck : Bool) × GoesFrom m set trace p s steps stuck
  some_from zero p s left operation =
      let one = sound.advances p operation in
      some_through p s operation.1 (λ n q low room op. absurd (omega arith))
  some_from (suc k) p s left operation =
      let one = sound.advances p operation in
      some_through p s operation.1 (λ n q low room op. some_from k q (s + n) (omega arith) op)

  -- each trace has exactly one path
  pub one_path : HasOnePath m set trace
  one_path = elim (cases_lt (largest_window set) (length trace)) [
    | inl fits ↦
        let p = some_through 0 0 (omega arith) (λ n q low room op. some_from (length trace) q (0 + n) (omega arith) op) in (
          record { steps = p.0; stuck = p.1 },
          record { short = λ short. absurd (omega arith); long = λ fits. p.2 },
          λ other is. let same = one_from m set trace p.2 other.steps other.stuck (is.long fits) in same_path other p.0 p.1 same.same_steps same.same_stuck,
        )
    | inr short ↦ (record { steps = []; stuck = false }, record { short = λ short. refl; long = λ fits. absurd (omega arith) }, λ other is. is.short short)
  ]
