use Rattle.std.proofs.Common.{◌≡◌, ℕ, zero, suc, ◌+◌, ◌<◌, ◌≤◌, true, List, [], ◌∷◌, drop, refl, arith}
use Rattle.std.proofs.lemmas.List.Elements.{All-nil, All-from_recursion}
use Rattle.set_tree.specs.declared.set.Cover.{Cover}
use Rattle.set_tree.specs.Formulas.{meaning_of}
use Rattle.set_tree.specs.Lines.{AreValid, ViolatesDetermine}
use Rattle.set_tree.specs.Meaning.{Row}
use Rattle.set_tree.specs.Parts.{IsOperation, assumed, committed, window_of}
use Rattle.set_tree.specs.Structure.{StaysWithin}
use Rattle.set_tree.specs.Traces.{IsRow, IsConstrained, Satisfies, IsComplete}
use Rattle.set_tree_completeness.specs.Needed.{bits, idle, low_reset, o, uncovered, IsSoundButTiled}
use Rattle.set_tree_completeness.specs.Terms.{cover_to, negated}
use Rattle.set_tree_completeness.proofs.Free.{apart, free_trace}
use Rattle.set_tree_completeness.proofs.Pairs.{IsOrdered, IsPair, IsWithin, advances, by_position, covered, covers, determined_by, edges, from_the_start, lengths, next_is, no_until, none_refused, nothing_differs, o_is_output, offsets, reset_determined, some_follows, successor}

uncovered_pair : IsPair low_reset idle (cover_to 0 0 1) (cover_to 0 1 1)
uncovered_pair = record { first_next = refl; second_next = refl; first_covers = refl; second_covers = refl }

uncovered_ordered : IsOrdered low_reset idle (cover_to 0 0 1) (cover_to 0 1 1)
uncovered_ordered = record {
  first_length = record { order = omega arith; fits = omega arith; fixed = λ none. refl };
  second_length = record { order = omega arith; fits = omega arith; fixed = λ none. refl };
  advances = omega arith;
  first_output = refl;
  second_output = refl;
  first_cover = record { begins = omega arith; fits = omega arith; by_end = λ e r until to. absurd cc };
  second_cover = record { begins = omega arith; fits = omega arith; by_end = λ e r until to. absurd cc };
  from_the_start = refl;
}

uncovered_within : IsWithin low_reset idle (cover_to 0 0 1) (cover_to 0 1 1) (meaning_of uncovered)
uncovered_within = record {
  first_assumes = All-nil (StaysWithin (meaning_of uncovered) 0);
  second_assumes = All-nil (StaysWithin (meaning_of uncovered) 1);
  first_commits = All-from_recursion (StaysWithin (meaning_of uncovered) 0) (negated (o 0) ∷ []) (omega arith, tt);
  second_commits = All-nil (StaysWithin (meaning_of uncovered) 1);
  first_hands = All-nil (StaysWithin (meaning_of uncovered) 0);
  second_hands = All-nil (StaysWithin (meaning_of uncovered) 1);
  first_until = λ e some. absurd cc;
  second_until = λ e some. absurd cc;
}

pub uncovered_sound : IsSoundButTiled (meaning_of uncovered) uncovered
uncovered_sound = record {
  lengths = lengths low_reset idle (cover_to 0 0 1) (cover_to 0 1 1) uncovered_pair uncovered_ordered;
  reset_fixed = refl;
  advances = advances low_reset idle (cover_to 0 0 1) (cover_to 0 1 1) uncovered_pair uncovered_ordered;
  covered = covered low_reset idle (cover_to 0 0 1) (cover_to 0 1 1) uncovered_pair uncovered_ordered;
  covers = covers low_reset idle (cover_to 0 0 1) (cover_to 0 1 1) uncovered_pair uncovered_ordered;
  from_the_start = from_the_start low_reset idle (cover_to 0 0 1) (cover_to 0 1 1) uncovered_pair uncovered_ordered;
  edges = edges low_reset idle (cover_to 0 0 1) (cover_to 0 1 1) uncovered_pair uncovered_ordered;
  reset_hands_nothing = refl;
  offsets = offsets low_reset idle (cover_to 0 0 1) (cover_to 0 1 1) uncovered_pair (meaning_of uncovered) uncovered_within;
}

-- the cover of `go` has no offset
go_determined : (n : ℕ) (cover : Cover) (at : ℕ) (xs ys : List Row) → ViolatesDetermine (meaning_of uncovered) uncovered 1 n cover at xs ys → ⊥
go_determined n cover at xs ys v =
    determined_by (meaning_of uncovered) uncovered 1 n (cover_to 0 1 1) cover at xs ys refl v (λ (begun : 1 ≤ at) (before : at < 1). absurd (omega arith))

pub uncovered_valid : AreValid (meaning_of uncovered) uncovered
uncovered_valid = record {
  end = λ p rows has v. no_until low_reset idle (cover_to 0 0 1) (cover_to 0 1 1) refl refl p has;
  split = λ p n rows at. some_follows (meaning_of uncovered) uncovered p n rows (next_is low_reset idle (cover_to 0 0 1) (cover_to 0 1 1) uncovered_pair p at) refl;
  same_end = λ p xs ys has v. no_until low_reset idle (cover_to 0 0 1) (cover_to 0 1 1) refl refl p has;
  choose = λ p q n xs ys at edge. none_refused (meaning_of uncovered) uncovered p q n xs ys (successor low_reset idle (cover_to 0 0 1) (cover_to 0 1 1) uncovered_pair p q at edge) refl;
  hand = λ p q n xs ys at edge. nothing_differs (meaning_of uncovered) uncovered p q n xs ys (successor low_reset idle (cover_to 0 0 1) (cover_to 0 1 1) uncovered_pair p q at edge) refl;
  determine = λ p n cover at xs ys position. by_position (λ p. ViolatesDetermine (meaning_of uncovered) uncovered p n cover at xs ys → ⊥) (reset_determined idle n cover at xs ys) (go_determined n cover at xs ys) p position;
}

-- o differs at 1

abbrev first_trace : List Row
first_trace = (0 ∷ 0 ∷ []) ∷ (0 ∷ 0 ∷ []) ∷ (0 ∷ 0 ∷ []) ∷ []

first_trace_constrained : IsConstrained (meaning_of uncovered) uncovered first_trace
first_trace_constrained = free_trace (meaning_of uncovered) uncovered first_trace refl (All-from_recursion (IsRow bits) first_trace ((omega arith, (omega arith, tt)), ((omega arith, (omega arith, tt)), ((omega arith, (omega arith, tt)), tt))))

abbrev second_trace : List Row
second_trace = (0 ∷ 0 ∷ []) ∷ (1 ∷ 0 ∷ []) ∷ (0 ∷ 0 ∷ []) ∷ []

second_trace_constrained : IsConstrained (meaning_of uncovered) uncovered second_trace
second_trace_constrained = free_trace (meaning_of uncovered) uncovered second_trace refl (All-from_recursion (IsRow bits) second_trace ((omega arith, (omega arith, tt)), ((omega arith, (omega arith, tt)), ((omega arith, (omega arith, tt)), tt))))

first_trace_commits : (p t : ℕ) → IsOperation uncovered p → t + window_of uncovered p < 3 → assumed (meaning_of uncovered) uncovered p (drop t first_trace) ≡ true → committed (meaning_of uncovered) uncovered p (drop t first_trace) ≡ true
first_trace_commits zero t op fits assumes = absurd (omega (arith, op.0))
first_trace_commits (suc zero) zero op fits assumes = refl
first_trace_commits (suc zero) (suc zero) op fits assumes = refl
first_trace_commits (suc zero) (suc (suc t)) op fits assumes = absurd (omega arith)
first_trace_commits (suc (suc p)) t op fits assumes = absurd (omega (arith, op.1))

second_trace_commits : (p t : ℕ) → IsOperation uncovered p → t + window_of uncovered p < 3 → assumed (meaning_of uncovered) uncovered p (drop t second_trace) ≡ true → committed (meaning_of uncovered) uncovered p (drop t second_trace) ≡ true
second_trace_commits zero t op fits assumes = absurd (omega (arith, op.0))
second_trace_commits (suc zero) zero op fits assumes = refl
second_trace_commits (suc zero) (suc zero) op fits assumes = refl
second_trace_commits (suc zero) (suc (suc t)) op fits assumes = absurd (omega arith)
second_trace_commits (suc (suc p)) t op fits assumes = absurd (omega (arith, op.1))

pub uncovered_incomplete : ¬ IsComplete (meaning_of uncovered) uncovered
uncovered_incomplete complete =
    let first : Satisfies (meaning_of uncovered) uncovered first_trace = record { reset = λ fits. refl; operations = first_trace_commits } in
    let second : Satisfies (meaning_of uncovered) uncovered second_trace = record { reset = λ fits. refl; operations = second_trace_commits } in
    let determined = complete first_trace second_trace first_trace_constrained second_trace_constrained first second refl 0 1 o_is_output (omega arith) in
    apart 0 1 (determined.values refl) refl
