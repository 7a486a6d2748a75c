use Rattle.std.proofs.Common.{◌≡◌, ℕ, zero, suc, ◌+◌, ◌<◌, ◌≤◌, true, List, [], ◌∷◌, drop, refl, sym, ◌∙◌, subst, arith}
use Rattle.std.proofs.lemmas.List.Elements.{All-nil, All-from_recursion}
use Rattle.set_tree.specs.declared.set.Cover.{Cover}
use Rattle.set_tree.specs.Formulas.{meaning_of}
use Rattle.set_tree.specs.Lines.{IsPairTo, ViolatesDetermine}
use Rattle.set_tree.specs.Meaning.{Row}
use Rattle.set_tree.specs.Parts.{IsOperation, committed, window_of}
use Rattle.set_tree.specs.Structure.{IsSound, StaysWithin}
use Rattle.set_tree.specs.Traces.{IsRow, IsConstrained, Satisfies, IsDetermined, IsComplete}
use Rattle.set_tree_completeness.specs.Needed.{bits, copy, low_reset, o, s, unhanded, AreValidButHand}
use Rattle.set_tree_completeness.specs.Terms.{cover_to, equals, negated}
use Rattle.set_tree_completeness.proofs.Bits.{both, equal_is, on_two}
use Rattle.set_tree_completeness.proofs.Free.{apart, free_trace}
use Rattle.set_tree_completeness.proofs.Pairs.{IsOrdered, IsPair, IsWithin, by_position, determined_by, is_sound, next_is, no_until, none_refused, o_is_output, reset_determined, some_follows, successor}

unhanded_pair : IsPair low_reset copy (cover_to 0 0 1) (cover_to 0 1 2)
unhanded_pair = record { first_next = refl; second_next = refl; first_covers = refl; second_covers = refl }

unhanded_ordered : IsOrdered low_reset copy (cover_to 0 0 1) (cover_to 0 1 2)
unhanded_ordered = record {
  first_length = record { order = omega arith; fits = omega arith; fixed = λ none. refl };
  second_length = record { order = omega arith; fits = omega arith; fixed = λ none. refl };
  advances = omega arith;
  first_output = refl;
  second_output = refl;
  first_cover = record { begins = omega arith; fits = omega arith; by_end = λ e r none to. absurd cc };
  second_cover = record { begins = omega arith; fits = omega arith; by_end = λ e r none to. absurd cc };
  from_the_start = refl;
}

unhanded_within : IsWithin low_reset copy (cover_to 0 0 1) (cover_to 0 1 2) (meaning_of unhanded)
unhanded_within = record {
  first_assumes = All-nil (StaysWithin (meaning_of unhanded) 0);
  second_assumes = All-nil (StaysWithin (meaning_of unhanded) 1);
  first_commits = All-from_recursion (StaysWithin (meaning_of unhanded) 0) (negated (o 0) ∷ []) (omega arith, tt);
  second_commits = All-from_recursion (StaysWithin (meaning_of unhanded) 1) (equals (o 1) (s 0) ∷ equals (s 1) (s 0) ∷ []) (omega arith, (omega arith, tt));
  first_hands = All-nil (StaysWithin (meaning_of unhanded) 0);
  second_hands = All-from_recursion (StaysWithin (meaning_of unhanded) 1) (s 0 ∷ []) (omega arith, tt);
  first_until = λ e some. absurd cc;
  second_until = λ e some. absurd cc;
}

pub unhanded_sound : IsSound (meaning_of unhanded) unhanded
unhanded_sound = is_sound low_reset copy (cover_to 0 0 1) (cover_to 0 1 2) unhanded_pair unhanded_ordered (meaning_of unhanded) unhanded_within (record { first_ends = λ n low high. omega arith; second_ends = λ n low high. omega arith }) refl refl

-- o is what s was at the start, which is handed over
go_same : (n : ℕ) (xs ys : List Row) → IsPairTo (meaning_of unhanded) unhanded 1 n 1 xs ys → IsDetermined (meaning_of unhanded) unhanded 0 (drop 1 xs) (drop 1 ys)
go_same n xs ys pair =
    on_two (λ xs ys. IsPairTo (meaning_of unhanded) unhanded 1 n 1 xs ys → IsDetermined (meaning_of unhanded) unhanded 0 (drop 1 xs) (drop 1 ys))
    (λ (a b c d a' b' c' d' : ℕ) (pair : IsPairTo (meaning_of unhanded) unhanded 1 n 1 ((a ∷ b ∷ []) ∷ (c ∷ d ∷ []) ∷ []) ((a' ∷ b' ∷ []) ∷ (c' ∷ d' ∷ []) ∷ [])).
    let first : c ≡ b = equal_is c b (both _ _ pair.pair.first_starts.commits).0 in
    let second : c' ≡ b' = equal_is c' b' (both _ _ pair.pair.second_starts.commits).0 in
    let handed : b ≡ b' = pair.pair.hands 0 (s 0) (omega arith) in
    record { domains = refl; values = λ within. first ∙ (handed ∙ sym second) })
    xs ys pair.pair.first.constrained.trace pair.pair.first.size pair.pair.second.constrained.trace pair.pair.second.size pair

go_determined : (n : ℕ) (cover : Cover) (at : ℕ) (xs ys : List Row) → ViolatesDetermine (meaning_of unhanded) unhanded 1 n cover at xs ys → ⊥
go_determined n cover at xs ys v =
    determined_by (meaning_of unhanded) unhanded 1 n (cover_to 0 1 2) cover at xs ys refl v
    (λ (begun : 1 ≤ at) (before : at < 2).
    let here : 1 ≡ at = omega arith in
    subst (λ (i : ℕ). IsDetermined (meaning_of unhanded) unhanded 0 (drop i xs) (drop i ys)) here (go_same n xs ys v.pair))

pub unhanded_valid : AreValidButHand (meaning_of unhanded) unhanded
unhanded_valid = record {
  end = λ p rows has v. no_until low_reset copy (cover_to 0 0 1) (cover_to 0 1 2) refl refl p has;
  split = λ p n rows at. some_follows (meaning_of unhanded) unhanded p n rows (next_is low_reset copy (cover_to 0 0 1) (cover_to 0 1 2) unhanded_pair p at) refl;
  same_end = λ p xs ys has v. no_until low_reset copy (cover_to 0 0 1) (cover_to 0 1 2) refl refl p has;
  choose = λ p q n xs ys at edge. none_refused (meaning_of unhanded) unhanded p q n xs ys (successor low_reset copy (cover_to 0 0 1) (cover_to 0 1 2) unhanded_pair p q at edge) refl;
  determine = λ p n cover at xs ys position. by_position (λ p. ViolatesDetermine (meaning_of unhanded) unhanded p n cover at xs ys → ⊥) (reset_determined copy n cover at xs ys) (go_determined n cover at xs ys) p position;
}

-- s is 0 in one trace and 1 in the other, and o from 1 on

abbrev zeros : List Row
zeros = (0 ∷ 0 ∷ []) ∷ (0 ∷ 0 ∷ []) ∷ (0 ∷ 0 ∷ []) ∷ []

abbrev ones : List Row
ones = (0 ∷ 1 ∷ []) ∷ (1 ∷ 1 ∷ []) ∷ (1 ∷ 1 ∷ []) ∷ []

zeros_constrained : IsConstrained (meaning_of unhanded) unhanded zeros
zeros_constrained = free_trace (meaning_of unhanded) unhanded zeros refl (All-from_recursion (IsRow bits) zeros ((omega arith, (omega arith, tt)), ((omega arith, (omega arith, tt)), ((omega arith, (omega arith, tt)), tt))))

ones_constrained : IsConstrained (meaning_of unhanded) unhanded ones
ones_constrained = free_trace (meaning_of unhanded) unhanded ones refl (All-from_recursion (IsRow bits) ones ((omega arith, (omega arith, tt)), ((omega arith, (omega arith, tt)), ((omega arith, (omega arith, tt)), tt))))

commits_zeros : (p t : ℕ) → IsOperation unhanded p → t + window_of unhanded p < 3 → committed (meaning_of unhanded) unhanded p (drop t zeros) ≡ true
commits_zeros zero t op fits = absurd (omega (arith, op.0))
commits_zeros (suc zero) zero op fits = refl
commits_zeros (suc zero) (suc zero) op fits = refl
commits_zeros (suc zero) (suc (suc t)) op fits = absurd (omega arith)
commits_zeros (suc (suc p)) t op fits = absurd (omega (arith, op.1))

commits_ones : (p t : ℕ) → IsOperation unhanded p → t + window_of unhanded p < 3 → committed (meaning_of unhanded) unhanded p (drop t ones) ≡ true
commits_ones zero t op fits = absurd (omega (arith, op.0))
commits_ones (suc zero) zero op fits = refl
commits_ones (suc zero) (suc zero) op fits = refl
commits_ones (suc zero) (suc (suc t)) op fits = absurd (omega arith)
commits_ones (suc (suc p)) t op fits = absurd (omega (arith, op.1))

pub unhanded_incomplete : ¬ IsComplete (meaning_of unhanded) unhanded
unhanded_incomplete complete =
    let first : Satisfies (meaning_of unhanded) unhanded zeros = record { reset = λ fits. refl; operations = λ p t op fits assumes. commits_zeros p t op fits } in
    let second : Satisfies (meaning_of unhanded) unhanded ones = record { reset = λ fits. refl; operations = λ p t op fits assumes. commits_ones p t op fits } in
    let determined = complete zeros ones zeros_constrained ones_constrained first second refl 0 1 o_is_output (omega arith) in
    apart 0 1 (determined.values refl) refl
