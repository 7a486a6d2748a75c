use Rattle.std.proofs.Common.{◌≡◌, ℕ, zero, suc, ◌+◌, ◌<◌, ◌≤◌, Bool, false, List, [], ◌∷◌, drop, length, refl, sym, ◌∙◌, ap, subst, arith, length-drop, Option, Some, None, inl, inr}
use Rattle.std.proofs.lemmas.List.{drop-drop}
use Rattle.std.proofs.lemmas.List.Elements.{All-nil, All-cons}
use Rattle.std.proofs.lemmas.Bool.{cases_lt}
use Rattle.std.specs.List.{All}
use Rattle.set_tree.specs.declared.set.Set.{Set}
use Rattle.set_tree.specs.declared.path.At.{At}
use Rattle.set_tree.specs.declared.path.Path.{Path}
use Rattle.set_tree.specs.Meaning.{Row, Meaning, ReadsWithin}
use Rattle.set_tree.specs.Parts.{property_at, IsOperation, largest_window, end_of}
use Rattle.set_tree.specs.Lines.{Starts, AreValid}
use Rattle.set_tree.specs.Structure.{IsSound}
use Rattle.set_tree.specs.Paths.{next_of, step_at, GoesFrom, endless, last, unsplit, onward, ArePathsWalks, HaveSamePaths}
use Rattle.set_tree_completeness.proofs.Windows.{inputs-length}
use Rattle.set_tree_completeness.proofs.Chain.{Together, EndsAt, GoesOn, ends, same_end, goes_on}
use Rattle.set_tree_completeness.proofs.Complete.{together_at_reset}

module _ (m : Meaning) (reads : ReadsWithin m) (set : Set) (sound : IsSound m set) (valid : AreValid m set) where
  -- what `goes_on` says, of P that starts at s
  onward_from : (p s n : ℕ) (xs ys : List Row) → Together m set p (drop s xs) (drop s ys) → EndsAt m set p n (drop s xs) → s + n + largest_window set < length xs → GoesOn m set p n (drop s xs) (drop s ys)
  onward_from p s n xs ys t e room = goes_on m reads set sound valid p n (drop s xs) (drop s ys) t e (omega (arith, length-drop s xs))

  later : (s n : ℕ) (xs : List Row) → drop n (drop s xs) ≡ drop (s + n) xs
  later s n xs = drop-drop n s xs

  together_later : (q s n : ℕ) (xs ys : List Row) → Together m set q (drop n (drop s xs)) (drop n (drop s ys)) → Together m set q (drop (s + n) xs) (drop (s + n) ys)
  together_later q s n xs ys t = subst (Together m set q (drop (s + n) xs)) (later s n ys) (subst (λ (zs : List Row). Together m set q zs (drop n (drop s ys))) (later s n xs) t)

  -- where P ends at n in the trace, it does so within its length
  end_is : (p n : ℕ) (xs ys : List Row) → Together m set p xs ys → end_of m set p xs ≡ Some n → EndsAt m set p n xs
  end_is p n xs ys t is =
      let e = ends m reads set sound valid p xs ys t in
      let there = e.1.ends in
      let same : e.0 ≡ n = cc in
      subst (λ (k : ℕ). EndsAt m set p k xs) same e.1

  -- where P ends in time, the trace goes on with the first successor that is assumed there
  next_is : (p s n : ℕ) (xs ys : List Row) (r : Option ℕ) (t : Together m set p (drop s xs) (drop s ys)) → (end : EndsAt m set p n (drop s xs)) (room : s + n + largest_window set < length xs) → next_of m set p (drop (s + n) xs) ≡ r → r ≡ Some (onward_from p s n xs ys t end room).next
  next_is p s n xs ys r t end room next =
      let g = onward_from p s n xs ys t end room in
      sym next ∙ (ap (next_of m set p) (sym (later s n xs)) ∙ g.first_next)

  walk_from : (trace : List Row) {p s : ℕ} {steps : List At} {stuck : Bool} → GoesFrom m set trace p s steps stuck → Together m set p (drop s trace) (drop s trace) → (stuck ≡ false) × All (λ at. Starts m set at.property (drop at.start trace)) steps
  walk_from trace (endless p s none) t =
      let e = ends m reads set sound valid p (drop s trace) (drop s trace) t in
      let there = e.1.ends in
      absurd cc
  walk_from trace (last p s n end short) t = (refl, All-cons (λ at. Starts m set at.property (drop at.start trace)) (step_at p s) [] t.first_starts (All-nil _))
  walk_from trace (unsplit p s n end room none) t =
      let e = end_is p n (drop s trace) (drop s trace) t end in
      let there = next_is p s n trace trace None t e room none in
      absurd cc
  walk_from trace (onward p s n q steps stuck end room next rest) t =
      let e = end_is p n (drop s trace) (drop s trace) t end in
      let g = onward_from p s n trace trace t e room in
      let same : q ≡ g.next = let there = next_is p s n trace trace (Some q) t e room next in cc in
      let both = together_later g.next s n trace trace g.together in
      let more = walk_from trace rest (subst (λ (i : ℕ). Together m set i (drop (s + n) trace) (drop (s + n) trace)) (sym same) both) in
      (more.0, All-cons (λ at. Starts m set at.property (drop at.start trace)) (step_at p s) steps t.first_starts more.1)

  same_from : (xs ys : List Row) {p s : ℕ} {steps : List At} {stuck : Bool} → GoesFrom m set xs p s steps stuck → length xs ≡ length ys → Together m set p (drop s xs) (drop s ys) → GoesFrom m set ys p s steps stuck
  same_from xs ys (endless p s none) long t =
      let e = ends m reads set sound valid p (drop s xs) (drop s ys) t in
      let there = e.1.ends in
      absurd cc
  same_from xs ys (last p s n end short) long t =
      let e = end_is p n (drop s xs) (drop s ys) t end in
      last p s n (same_end m reads set sound valid p n (drop s xs) (drop s ys) t e).ends (omega arith)
  same_from xs ys (unsplit p s n end room none) long t =
      let e = end_is p n (drop s xs) (drop s ys) t end in
      let there = next_is p s n xs ys None t e room none in
      absurd cc
  same_from xs ys (onward p s n q steps stuck end room next rest) long t =
      let e = end_is p n (drop s xs) (drop s ys) t end in
      let g = onward_from p s n xs ys t e room in
      let there = next_is p s n xs ys (Some q) t e room next in
      let same : q ≡ g.next = cc in
      let both = together_later g.next s n xs ys g.together in
      let second_next : next_of m set p (drop (s + n) ys) ≡ Some q = ap (next_of m set p) (sym (later s n ys)) ∙ (g.second_next ∙ sym there) in
      onward p s n q steps stuck (same_end m reads set sound valid p n (drop s xs) (drop s ys) t e).ends (omega arith) second_next
      (same_from xs ys rest long (subst (λ (i : ℕ). Together m set i (drop (s + n) xs) (drop (s + n) ys)) (sym same) both))

  -- the path from P on, where the one from each successor is there
  path_through : (trace : List Row) (p s : ℕ) → Together m set p (drop s trace) (drop s trace) → ((n q : ℕ) → (property_at set p).length.low ≤ n → IsOperation set q → Together m set q (drop (s + n) trace) (drop (s + n) trace) → (steps : List At) × (stuck : Bool) × GoesFrom m set trace q (s + n) steps stuck) → (steps : List At) × (stuck : Bool) × GoesFrom m set trace p s steps stuck
  path_through trace p s t rest =
      let e = ends m reads set sound valid p (drop s trace) (drop s trace) t in
      let n = e.0 in
      elim (cases_lt (s + n + largest_window set) (length trace)) [
        | inl room ↦
            let g = onward_from p s n trace trace t e.1 room in
            let more = rest n g.next e.1.low g.operation (together_later g.next s n trace trace g.together) in
            let next : next_of m set p (drop (s + n) trace) ≡ Some g.next = ap (next_of m set p) (sym (later s n trace)) ∙ g.first_next in
            (step_at p s ∷ more.0, more.1, onward p s n g.next more.0 more.1 e.1.ends room next more.2)
        | inr short ↦ (step_at p s ∷ [], false, last p s n e.1.ends short)
      ]

  -- the path from an operation on, where the trace has at most `few` rows left
  path_from : (few : ℕ) (trace : List Row) (p s : ℕ) → length trace ≤ s + few → IsOperation set p → Together m set p (drop s trace) (drop s trace) → (steps : List At) × (stuck : Bool) × GoesFrom m set trace p s steps stuck
  path_from zero trace p s left operation t = absurd (omega (arith, t.fits, length-drop s trace))
  path_from (suc k) trace p s left operation t =
      let one = sound.advances p operation in
      path_through trace p s t (λ n q low op both. path_from k trace q (s + n) (omega arith) op both)

  pub paths_are_walks : ArePathsWalks m set
  paths_are_walks = record {
    some = λ trace constrained satisfies. elim (cases_lt (largest_window set) (length trace)) [
      | inl fits ↦
          let t = together_at_reset m reads set sound valid trace trace constrained constrained satisfies satisfies refl fits in
          let p = path_through trace 0 0 t (λ n q low op both. path_from (length trace) trace q (0 + n) (omega arith) op both) in
          (record { steps = p.0; stuck = p.1 }, record { short = λ short. absurd (omega arith); long = λ fits. p.2 })
      | inr short ↦ (record { steps = []; stuck = false }, record { short = λ short. refl; long = λ fits. absurd (omega arith) })
    ];
    walks = λ trace path constrained satisfies is. elim (cases_lt (largest_window set) (length trace)) [
      | inl fits ↦
          let t = together_at_reset m reads set sound valid trace trace constrained constrained satisfies satisfies refl fits in
          let w = walk_from trace (is.long fits) t in
          record { free = w.0; starts = w.1 }
      | inr short ↦
          let empty = is.short short in
          record {
            free = ap (λ (p : Path). p.stuck) empty;
            starts = subst (λ (p : Path). All (λ at. Starts m set at.property (drop at.start trace)) p.steps) (sym empty) (All-nil (λ at. Starts m set at.property (drop at.start trace)));
          }
    ];
  }

  pub have_same_paths : HaveSamePaths m set
  have_same_paths xs ys path first second first_satisfies second_satisfies inputs is =
      let long = inputs-length set xs ys inputs in
      record {
        short = λ short. is.short (omega arith);
        long = λ fits.
            let room : largest_window set < length xs = omega arith in
            same_from xs ys (is.long room) long (together_at_reset m reads set sound valid xs ys first second first_satisfies second_satisfies inputs room);
      }
