use Rattle.std.proofs.Common.{◌≡◌, ℕ, ◌+◌, ◌<◌, ◌≤◌, true, List, [], ◌∷◌, drop, length, refl, sym, ◌∙◌, subst, arith, codes}
use Rattle.std.proofs.lemmas.List.Elements.{All-nil, All-from_recursion}
use Rattle.set_tree.specs.declared.set.Cover.{Cover}
use Rattle.set_tree.specs.Formulas.{meaning_of}
use Rattle.set_tree.specs.Lines.{AreValid, IsPairTo, ViolatesDetermine}
use Rattle.set_tree.specs.Meaning.{Row}
use Rattle.set_tree.specs.Parts.{committed, window_of}
use Rattle.set_tree.specs.Structure.{IsSound, StaysWithin}
use Rattle.set_tree.specs.Traces.{IsRow, IsConstrained, Satisfies, IsDetermined}
use Rattle.set_tree_completeness.specs.Needed.{always_low, bits, low, o, IsCompletePastWindow}
use Rattle.set_tree_completeness.specs.Terms.{cover_to, negated}
use Rattle.set_tree_completeness.proofs.Bits.{equal_is, on_two, single}
use Rattle.set_tree_completeness.proofs.Free.{apart, free_trace}
use Rattle.set_tree_completeness.proofs.Pairs.{IsOrdered, IsPair, IsWithin, by_position, determined_by, is_sound, next_is, no_until, none_refused, nothing_differs, o_is_output, some_follows, successor}

always_low_pair : IsPair (low (codes "reset")) (low (codes "go")) (cover_to 0 0 1) (cover_to 0 0 1)
always_low_pair = record { first_next = refl; second_next = refl; first_covers = refl; second_covers = refl }

always_low_ordered : IsOrdered (low (codes "reset")) (low (codes "go")) (cover_to 0 0 1) (cover_to 0 0 1)
always_low_ordered = record {
  first_length = record { order = omega arith; fits = omega arith; fixed = λ none. refl };
  second_length = record { order = omega arith; fits = omega arith; fixed = λ none. refl };
  advances = omega arith;
  first_output = refl;
  second_output = refl;
  first_cover = record { begins = omega arith; fits = omega arith; by_end = λ e r until to. absurd cc };
  second_cover = record { begins = omega arith; fits = omega arith; by_end = λ e r until to. absurd cc };
  from_the_start = refl;
}

always_low_within : IsWithin (low (codes "reset")) (low (codes "go")) (cover_to 0 0 1) (cover_to 0 0 1) (meaning_of always_low)
always_low_within = record {
  first_assumes = All-nil (StaysWithin (meaning_of always_low) 1);
  second_assumes = All-nil (StaysWithin (meaning_of always_low) 1);
  first_commits = All-from_recursion (StaysWithin (meaning_of always_low) 1) (negated (o 0) ∷ []) (omega arith, tt);
  second_commits = All-from_recursion (StaysWithin (meaning_of always_low) 1) (negated (o 0) ∷ []) (omega arith, tt);
  first_hands = All-nil (StaysWithin (meaning_of always_low) 1);
  second_hands = All-nil (StaysWithin (meaning_of always_low) 1);
  first_until = λ e some. absurd cc;
  second_until = λ e some. absurd cc;
}

pub always_low_sound : IsSound (meaning_of always_low) always_low
always_low_sound = is_sound (low (codes "reset")) (low (codes "go")) (cover_to 0 0 1) (cover_to 0 0 1) always_low_pair always_low_ordered (meaning_of always_low) always_low_within (record { first_ends = λ n low high. omega arith; second_ends = λ n low high. omega arith }) refl refl

reset_low : (n : ℕ) (xs ys : List Row) → IsPairTo (meaning_of always_low) always_low 0 n 1 xs ys → IsDetermined (meaning_of always_low) always_low 0 xs ys
reset_low n xs ys pair =
    on_two (λ xs ys. IsPairTo (meaning_of always_low) always_low 0 n 1 xs ys → IsDetermined (meaning_of always_low) always_low 0 xs ys)
    (λ (a b c d a' b' c' d' : ℕ) (pair : IsPairTo (meaning_of always_low) always_low 0 n 1 ((a ∷ b ∷ []) ∷ (c ∷ d ∷ []) ∷ []) ((a' ∷ b' ∷ []) ∷ (c' ∷ d' ∷ []) ∷ [])).
    let first : a ≡ 0 = equal_is a 0 (single _ pair.pair.first_starts.commits) in
    let second : a' ≡ 0 = equal_is a' 0 (single _ pair.pair.second_starts.commits) in
    record { domains = refl; values = λ within. first ∙ sym second })
    xs ys pair.pair.first.constrained.trace pair.pair.first.size pair.pair.second.constrained.trace pair.pair.second.size pair

reset_determined : (n : ℕ) (cover : Cover) (at : ℕ) (xs ys : List Row) → ViolatesDetermine (meaning_of always_low) always_low 0 n cover at xs ys → ⊥
reset_determined n cover at xs ys v =
    determined_by (meaning_of always_low) always_low 0 n (cover_to 0 0 1) cover at xs ys refl v
    (λ (begun : 0 ≤ at) (before : at < 1).
    let here : 0 ≡ at = omega arith in
    subst (λ (i : ℕ). IsDetermined (meaning_of always_low) always_low 0 (drop i xs) (drop i ys)) here (reset_low n xs ys v.pair))

go_low : (n : ℕ) (xs ys : List Row) → IsPairTo (meaning_of always_low) always_low 1 n 1 xs ys → IsDetermined (meaning_of always_low) always_low 0 xs ys
go_low n xs ys pair =
    on_two (λ xs ys. IsPairTo (meaning_of always_low) always_low 1 n 1 xs ys → IsDetermined (meaning_of always_low) always_low 0 xs ys)
    (λ (a b c d a' b' c' d' : ℕ) (pair : IsPairTo (meaning_of always_low) always_low 1 n 1 ((a ∷ b ∷ []) ∷ (c ∷ d ∷ []) ∷ []) ((a' ∷ b' ∷ []) ∷ (c' ∷ d' ∷ []) ∷ [])).
    let first : a ≡ 0 = equal_is a 0 (single _ pair.pair.first_starts.commits) in
    let second : a' ≡ 0 = equal_is a' 0 (single _ pair.pair.second_starts.commits) in
    record { domains = refl; values = λ within. first ∙ sym second })
    xs ys pair.pair.first.constrained.trace pair.pair.first.size pair.pair.second.constrained.trace pair.pair.second.size pair

go_determined : (n : ℕ) (cover : Cover) (at : ℕ) (xs ys : List Row) → ViolatesDetermine (meaning_of always_low) always_low 1 n cover at xs ys → ⊥
go_determined n cover at xs ys v =
    determined_by (meaning_of always_low) always_low 1 n (cover_to 0 0 1) cover at xs ys refl v
    (λ (begun : 0 ≤ at) (before : at < 1).
    let here : 0 ≡ at = omega arith in
    subst (λ (i : ℕ). IsDetermined (meaning_of always_low) always_low 0 (drop i xs) (drop i ys)) here (go_low n xs ys v.pair))

pub always_low_valid : AreValid (meaning_of always_low) always_low
always_low_valid = record {
  end = λ p rows has v. no_until (low (codes "reset")) (low (codes "go")) (cover_to 0 0 1) (cover_to 0 0 1) refl refl p has;
  split = λ p n rows at. some_follows (meaning_of always_low) always_low p n rows (next_is (low (codes "reset")) (low (codes "go")) (cover_to 0 0 1) (cover_to 0 0 1) always_low_pair p at) refl;
  same_end = λ p xs ys has v. no_until (low (codes "reset")) (low (codes "go")) (cover_to 0 0 1) (cover_to 0 0 1) refl refl p has;
  choose = λ p q n xs ys at edge. none_refused (meaning_of always_low) always_low p q n xs ys (successor (low (codes "reset")) (low (codes "go")) (cover_to 0 0 1) (cover_to 0 0 1) always_low_pair p q at edge) refl;
  hand = λ p q n xs ys at edge. nothing_differs (meaning_of always_low) always_low p q n xs ys (successor (low (codes "reset")) (low (codes "go")) (cover_to 0 0 1) (cover_to 0 0 1) always_low_pair p q at edge) refl;
  determine = λ p n cover at xs ys position. by_position (λ p. ViolatesDetermine (meaning_of always_low) always_low p n cover at xs ys → ⊥) (reset_determined n cover at xs ys) (go_determined n cover at xs ys) p position;
}

-- in traces of one row no window fits, and o may be 0 or 1

abbrev first_trace : List Row
first_trace = (0 ∷ 0 ∷ []) ∷ []

first_trace_constrained : IsConstrained (meaning_of always_low) always_low first_trace
first_trace_constrained = free_trace (meaning_of always_low) always_low first_trace refl (All-from_recursion (IsRow bits) first_trace ((omega arith, (omega arith, tt)), tt))

abbrev second_trace : List Row
second_trace = (1 ∷ 0 ∷ []) ∷ []

second_trace_constrained : IsConstrained (meaning_of always_low) always_low second_trace
second_trace_constrained = free_trace (meaning_of always_low) always_low second_trace refl (All-from_recursion (IsRow bits) second_trace ((omega arith, (omega arith, tt)), tt))

satisfies : (rows : List Row) → length rows ≡ 1 → Satisfies (meaning_of always_low) always_low rows
satisfies rows size = record {
  reset = λ fits. absurd (omega arith);
  operations = λ p t op fits assumes.
      by_position (λ p. t + window_of always_low p < length rows → committed (meaning_of always_low) always_low p (drop t rows) ≡ true) (λ (never : t + 1 < length rows). absurd (omega arith)) (λ (never : t + 1 < length rows). absurd (omega arith)) p op.1 fits;
}

pub always_low_past_window : ¬ IsCompletePastWindow (meaning_of always_low) always_low
always_low_past_window complete =
    let determined = complete first_trace second_trace first_trace_constrained second_trace_constrained (satisfies first_trace refl) (satisfies second_trace refl) refl 0 0 o_is_output refl in
    apart 0 1 (determined.values refl) refl
