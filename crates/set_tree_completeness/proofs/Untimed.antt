use Rattle.std.proofs.Common.{◌≡◌, ℕ, zero, suc, ◌+◌, ◌<◌, ◌≤◌, true, false, nat_eq, List, [], ◌∷◌, drop, refl, sym, ◌∙◌, subst, arith, not, Option, Some, None, Bool, cond, ◌||◌, ◌⊎◌, inl, inr}
use Rattle.std.proofs.lemmas.List.Elements.{All-nil, All-from_recursion}
use Rattle.set_tree.specs.declared.set.Cover.{Cover}
use Rattle.set_tree.specs.Formulas.{meaning_of}
use Rattle.set_tree.specs.Lines.{IsPairTo, Starts, ViolatesEnd, ViolatesDetermine}
use Rattle.set_tree.specs.Meaning.{Row}
use Rattle.set_tree.specs.Parts.{IsOperation, assumed, committed, window_of}
use Rattle.set_tree.specs.Structure.{IsSound, StaysWithin}
use Rattle.set_tree.specs.Traces.{IsRow, IsConstrained, Satisfies, IsDetermined, IsComplete}
use Rattle.set_tree.specs.declared.set.To.TheVariants.{AfterEnd}
use Rattle.set_tree.specs.Formulas.{largest_offset}
use Rattle.std.proofs.lemmas.Bool.{cases_lt}
use Rattle.vlog_tree.specs.declared.expr.Expr.{Expr}
use Rattle.set_tree_completeness.specs.Needed.{bits, low_reset, o, s, untimed, wait, AreValidButSameEnd}
use Rattle.set_tree_completeness.specs.Terms.{cover_to, equals, negated, or_else}
use Rattle.set_tree_completeness.proofs.Bits.{ends_at, equal_is, both_one, both_zero, on_three, second_holds, three, told}
use Rattle.set_tree_completeness.proofs.Free.{apart, free_trace}
use Rattle.set_tree_completeness.proofs.Pairs.{IsOrdered, IsPair, IsWithin, by_position, determined_by, is_sound, next_is, none_refused, nothing_differs, o_is_output, reset_determined, some_follows, successor}

untimed_pair : IsPair low_reset wait (cover_to 0 0 1) (record { output = 0; from = 1; to = AfterEnd 1 })
untimed_pair = record { first_next = refl; second_next = refl; first_covers = refl; second_covers = refl }

untimed_ordered : IsOrdered low_reset wait (cover_to 0 0 1) (record { output = 0; from = 1; to = AfterEnd 1 })
untimed_ordered = record {
  first_length = record { order = omega arith; fits = omega arith; fixed = λ none. refl };
  second_length = record { order = omega arith; fits = omega arith; fixed = λ none. absurd cc };
  advances = omega arith;
  first_output = refl;
  second_output = refl;
  first_cover = record { begins = omega arith; fits = omega arith; by_end = λ e r until to. absurd cc };
  second_cover = record { begins = omega arith; fits = omega arith; by_end = λ e r until to. absurd cc };
  from_the_start = refl;
}

untimed_within : IsWithin low_reset wait (cover_to 0 0 1) (record { output = 0; from = 1; to = AfterEnd 1 }) (meaning_of untimed)
untimed_within = record {
  first_assumes = All-nil (StaysWithin (meaning_of untimed) 0);
  second_assumes = All-nil (StaysWithin (meaning_of untimed) 2);
  first_commits = All-from_recursion (StaysWithin (meaning_of untimed) 0) (negated (o 0) ∷ []) (omega arith, tt);
  second_commits = All-from_recursion (StaysWithin (meaning_of untimed) 2) (equals (o 1) (s 1) ∷ or_else (s 1) (equals (o 2) (s 2)) ∷ or_else (s 1) (s 2) ∷ []) (omega arith, (omega arith, (omega arith, tt)));
  first_hands = All-nil (StaysWithin (meaning_of untimed) 0);
  second_hands = All-nil (StaysWithin (meaning_of untimed) 2);
  first_until = λ e some. absurd cc;
  second_until = λ e some. let same : s 0 ≡ e = cc in subst (λ (f : Expr). largest_offset f ≡ 0) same refl;
}

pub untimed_sound : IsSound (meaning_of untimed) untimed
untimed_sound = is_sound low_reset wait (cover_to 0 0 1) (record { output = 0; from = 1; to = AfterEnd 1 }) untimed_pair untimed_ordered (meaning_of untimed) untimed_within (record { first_ends = λ n low high. omega arith; second_ends = λ n low high. refl }) refl refl

-- one of two tests holds, so there is an end
endless : (a b : Bool) → (a || b) ≡ true → cond {A = Option ℕ} a (Some 1) (cond b (Some 2) None) ≡ None → ⊥
endless true b some none = cc
endless false true some none = cc
endless false false some none = cc

go_ends : (rows : List Row) → ViolatesEnd (meaning_of untimed) untimed 1 rows → ⊥
go_ends rows v =
    on_three (λ xs ys. ViolatesEnd (meaning_of untimed) untimed 1 xs → ⊥)
    (λ (a b c d e f a' b' c' d' e' f' : ℕ) (v : ViolatesEnd (meaning_of untimed) untimed 1 ((a ∷ b ∷ []) ∷ (c ∷ d ∷ []) ∷ (e ∷ f ∷ []) ∷ [])).
    endless _ _ (told _ (three _ _ _ v.starts.commits).2) v.endless)
    rows rows v.window.constrained.trace v.window.size v.window.constrained.trace v.window.size v

-- o tells whether s holds up to the end, so it is determined there

told_first : (a b c d e f : ℕ) → Starts (meaning_of untimed) untimed 1 ((a ∷ b ∷ []) ∷ (c ∷ d ∷ []) ∷ (e ∷ f ∷ []) ∷ []) → c ≡ d
told_first a b c d e f starts = equal_is c d (three _ _ _ starts.commits).0

told_second : (a b c d e f : ℕ) → Starts (meaning_of untimed) untimed 1 ((a ∷ b ∷ []) ∷ (c ∷ d ∷ []) ∷ (e ∷ f ∷ []) ∷ []) → not (nat_eq d 0) ≡ false → e ≡ f
told_second a b c d e f starts later = equal_is e f (second_holds _ _ (three _ _ _ starts.commits).1 later)

module _ (a b c d e f a' b' c' d' e' f' n : ℕ) (pair : IsPairTo (meaning_of untimed) untimed 1 n 2 ((a ∷ b ∷ []) ∷ (c ∷ d ∷ []) ∷ (e ∷ f ∷ []) ∷ []) ((a' ∷ b' ∷ []) ∷ (c' ∷ d' ∷ []) ∷ (e' ∷ f' ∷ []) ∷ [])) where
  small_d : d < 2
  small_d = (pair.pair.first.constrained.trace 1 [] (omega arith)).1.0

  small_d' : d' < 2
  small_d' = (pair.pair.second.constrained.trace 1 [] (omega arith)).1.0

  small_f : f < 2
  small_f = (pair.pair.first.constrained.trace 2 [] (omega arith)).1.0

  small_f' : f' < 2
  small_f' = (pair.pair.second.constrained.trace 2 [] (omega arith)).1.0

  at_one : d ≡ d' → IsDetermined (meaning_of untimed) untimed 0 (drop 1 ((a ∷ b ∷ []) ∷ (c ∷ d ∷ []) ∷ (e ∷ f ∷ []) ∷ [])) (drop 1 ((a' ∷ b' ∷ []) ∷ (c' ∷ d' ∷ []) ∷ (e' ∷ f' ∷ []) ∷ []))
  at_one same = record { domains = refl; values = λ within. told_first a b c d e f pair.pair.first_starts ∙ (same ∙ sym (told_first a' b' c' d' e' f' pair.pair.second_starts)) }

  at_two : not (nat_eq d 0) ≡ false → not (nat_eq d' 0) ≡ false → f ≡ f' → IsDetermined (meaning_of untimed) untimed 0 (drop 2 ((a ∷ b ∷ []) ∷ (c ∷ d ∷ []) ∷ (e ∷ f ∷ []) ∷ [])) (drop 2 ((a' ∷ b' ∷ []) ∷ (c' ∷ d' ∷ []) ∷ (e' ∷ f' ∷ []) ∷ []))
  at_two later later' same = record { domains = refl; values = λ within. told_second a b c d e f pair.pair.first_starts later ∙ (same ∙ sym (told_second a' b' c' d' e' f' pair.pair.second_starts later')) }

  by_ends : (at : ℕ) → 1 ≤ at → at < n + 1 → ((1 ≡ n) × (not (nat_eq d 0) ≡ true)) ⊎ ((2 ≡ n) × (not (nat_eq d 0) ≡ false) × (not (nat_eq f 0) ≡ true)) → ((1 ≡ n) × (not (nat_eq d' 0) ≡ true)) ⊎ ((2 ≡ n) × (not (nat_eq d' 0) ≡ false) × (not (nat_eq f' 0) ≡ true)) → IsDetermined (meaning_of untimed) untimed 0 (drop at ((a ∷ b ∷ []) ∷ (c ∷ d ∷ []) ∷ (e ∷ f ∷ []) ∷ [])) (drop at ((a' ∷ b' ∷ []) ∷ (c' ∷ d' ∷ []) ∷ (e' ∷ f' ∷ []) ∷ []))
  by_ends at begun before (inl x) (inl y) =
      let here : 1 ≡ at = omega (arith, x.0) in
      subst (λ (i : ℕ). IsDetermined (meaning_of untimed) untimed 0 (drop i ((a ∷ b ∷ []) ∷ (c ∷ d ∷ []) ∷ (e ∷ f ∷ []) ∷ [])) (drop i ((a' ∷ b' ∷ []) ∷ (c' ∷ d' ∷ []) ∷ (e' ∷ f' ∷ []) ∷ []))) here (at_one (both_one d d' small_d small_d' x.1 y.1))
  by_ends at begun before (inl x) (inr y) = absurd (omega (arith, x.0, y.0))
  by_ends at begun before (inr x) (inl y) = absurd (omega (arith, x.0, y.0))
  by_ends at begun before (inr x) (inr y) = elim (cases_lt at 2) [
    | inl early ↦
        let here : 1 ≡ at = omega arith in
        subst (λ (i : ℕ). IsDetermined (meaning_of untimed) untimed 0 (drop i ((a ∷ b ∷ []) ∷ (c ∷ d ∷ []) ∷ (e ∷ f ∷ []) ∷ [])) (drop i ((a' ∷ b' ∷ []) ∷ (c' ∷ d' ∷ []) ∷ (e' ∷ f' ∷ []) ∷ []))) here (at_one (both_zero d d' small_d small_d' x.1 y.1))
    | inr late ↦
        let here : 2 ≡ at = omega (arith, x.0) in
        subst (λ (i : ℕ). IsDetermined (meaning_of untimed) untimed 0 (drop i ((a ∷ b ∷ []) ∷ (c ∷ d ∷ []) ∷ (e ∷ f ∷ []) ∷ [])) (drop i ((a' ∷ b' ∷ []) ∷ (c' ∷ d' ∷ []) ∷ (e' ∷ f' ∷ []) ∷ []))) here (at_two x.1 y.1 (both_one f f' small_f small_f' x.2 y.2))
  ]

go_same : (n at : ℕ) (xs ys : List Row) → IsPairTo (meaning_of untimed) untimed 1 n 2 xs ys → 1 ≤ at → at < n + 1 → IsDetermined (meaning_of untimed) untimed 0 (drop at xs) (drop at ys)
go_same n at xs ys pair =
    on_three (λ xs ys. IsPairTo (meaning_of untimed) untimed 1 n 2 xs ys → 1 ≤ at → at < n + 1 → IsDetermined (meaning_of untimed) untimed 0 (drop at xs) (drop at ys))
    (λ (a b c d e f a' b' c' d' e' f' : ℕ) (pair : IsPairTo (meaning_of untimed) untimed 1 n 2 ((a ∷ b ∷ []) ∷ (c ∷ d ∷ []) ∷ (e ∷ f ∷ []) ∷ []) ((a' ∷ b' ∷ []) ∷ (c' ∷ d' ∷ []) ∷ (e' ∷ f' ∷ []) ∷ [])) (begun : 1 ≤ at) (before : at < n + 1).
    by_ends a b c d e f a' b' c' d' e' f' n pair at begun before (ends_at 1 _ _ n pair.first_ends) (ends_at 1 _ _ n pair.second_ends))
    xs ys pair.pair.first.constrained.trace pair.pair.first.size pair.pair.second.constrained.trace pair.pair.second.size pair

go_determined : (n : ℕ) (cover : Cover) (at : ℕ) (xs ys : List Row) → ViolatesDetermine (meaning_of untimed) untimed 1 n cover at xs ys → ⊥
go_determined n cover at xs ys v =
    determined_by (meaning_of untimed) untimed 1 n (record { output = 0; from = 1; to = AfterEnd 1 }) cover at xs ys refl v
    (λ (begun : 1 ≤ at) (before : at < n + 1). go_same n at xs ys v.pair begun before)

pub untimed_valid : AreValidButSameEnd (meaning_of untimed) untimed
untimed_valid = record {
  end = λ p rows has. by_position (λ p. 0 < p → ViolatesEnd (meaning_of untimed) untimed p rows → ⊥) (λ (never : 0 < 0). absurd (omega arith)) (λ (some : 0 < 1). go_ends rows) p has.0.1 has.0.0;
  split = λ p n rows at. some_follows (meaning_of untimed) untimed p n rows (next_is low_reset wait (cover_to 0 0 1) (record { output = 0; from = 1; to = AfterEnd 1 }) untimed_pair p at) refl;
  choose = λ p q n xs ys at edge. none_refused (meaning_of untimed) untimed p q n xs ys (successor low_reset wait (cover_to 0 0 1) (record { output = 0; from = 1; to = AfterEnd 1 }) untimed_pair p q at edge) refl;
  hand = λ p q n xs ys at edge. nothing_differs (meaning_of untimed) untimed p q n xs ys (successor low_reset wait (cover_to 0 0 1) (record { output = 0; from = 1; to = AfterEnd 1 }) untimed_pair p q at edge) refl;
  determine = λ p n cover at xs ys position. by_position (λ p. ViolatesDetermine (meaning_of untimed) untimed p n cover at xs ys → ⊥) (reset_determined wait n cover at xs ys) (go_determined n cover at xs ys) p position;
}

-- `go` ends at 1 in one trace and at 2 in the other, and o differs at 1

abbrev first_trace : List Row
first_trace = (0 ∷ 0 ∷ []) ∷ (1 ∷ 1 ∷ []) ∷ (1 ∷ 1 ∷ []) ∷ (1 ∷ 1 ∷ []) ∷ []

first_trace_constrained : IsConstrained (meaning_of untimed) untimed first_trace
first_trace_constrained = free_trace (meaning_of untimed) untimed first_trace refl (All-from_recursion (IsRow bits) first_trace ((omega arith, (omega arith, tt)), ((omega arith, (omega arith, tt)), ((omega arith, (omega arith, tt)), ((omega arith, (omega arith, tt)), tt)))))

abbrev second_trace : List Row
second_trace = (0 ∷ 0 ∷ []) ∷ (0 ∷ 0 ∷ []) ∷ (1 ∷ 1 ∷ []) ∷ (1 ∷ 1 ∷ []) ∷ []

second_trace_constrained : IsConstrained (meaning_of untimed) untimed second_trace
second_trace_constrained = free_trace (meaning_of untimed) untimed second_trace refl (All-from_recursion (IsRow bits) second_trace ((omega arith, (omega arith, tt)), ((omega arith, (omega arith, tt)), ((omega arith, (omega arith, tt)), ((omega arith, (omega arith, tt)), tt)))))

first_trace_commits : (p t : ℕ) → IsOperation untimed p → t + window_of untimed p < 4 → assumed (meaning_of untimed) untimed p (drop t first_trace) ≡ true → committed (meaning_of untimed) untimed p (drop t first_trace) ≡ true
first_trace_commits zero t op fits assumes = absurd (omega (arith, op.0))
first_trace_commits (suc zero) zero op fits assumes = refl
first_trace_commits (suc zero) (suc zero) op fits assumes = refl
first_trace_commits (suc zero) (suc (suc t)) op fits assumes = absurd (omega arith)
first_trace_commits (suc (suc p)) t op fits assumes = absurd (omega (arith, op.1))

second_trace_commits : (p t : ℕ) → IsOperation untimed p → t + window_of untimed p < 4 → assumed (meaning_of untimed) untimed p (drop t second_trace) ≡ true → committed (meaning_of untimed) untimed p (drop t second_trace) ≡ true
second_trace_commits zero t op fits assumes = absurd (omega (arith, op.0))
second_trace_commits (suc zero) zero op fits assumes = refl
second_trace_commits (suc zero) (suc zero) op fits assumes = refl
second_trace_commits (suc zero) (suc (suc t)) op fits assumes = absurd (omega arith)
second_trace_commits (suc (suc p)) t op fits assumes = absurd (omega (arith, op.1))

pub untimed_incomplete : ¬ IsComplete (meaning_of untimed) untimed
untimed_incomplete complete =
    let first : Satisfies (meaning_of untimed) untimed first_trace = record { reset = λ fits. refl; operations = first_trace_commits } in
    let second : Satisfies (meaning_of untimed) untimed second_trace = record { reset = λ fits. refl; operations = second_trace_commits } in
    let determined = complete first_trace second_trace first_trace_constrained second_trace_constrained first second refl 0 1 o_is_output (omega arith) in
    apart 1 0 (determined.values refl) refl
