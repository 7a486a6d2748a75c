use Rattle.std.proofs.Common.{◌≡◌, ℕ, zero, suc, ◌+◌, ◌<◌, ◌≤◌, true, false, nat_eq, List, [], ◌∷◌, drop, refl, sym, ◌∙◌, subst, arith, IsSome, ◌⊎◌, inl, inr, ◌&&◌, Bool, Some, not}
use Rattle.std.proofs.lemmas.List.Elements.{All-nil, All-from_recursion}
use Rattle.set_tree.specs.declared.set.Cover.{Cover}
use Rattle.set_tree.specs.Formulas.{meaning_of}
use Rattle.set_tree.specs.Lines.{AreValid, IsPairTo, IsWindow, Starts, ViolatesChoose, ViolatesDetermine, ViolatesSplit}
use Rattle.set_tree.specs.Meaning.{Row}
use Rattle.set_tree.specs.Parts.{HasUntil, IsOperation, assumed, committed, end_of, property_at, window_of}
use Rattle.set_tree.specs.Structure.{StaysWithin}
use Rattle.set_tree.specs.Traces.{IsRow, IsConstrained, Satisfies, IsDetermined, IsComplete}
use Rattle.set_tree.specs.declared.set.To.TheVariants.{AfterEnd}
use Rattle.set_tree.specs.Formulas.{largest_offset}
use Rattle.vlog_tree.specs.declared.expr.Expr.{Expr}
use Rattle.set_tree_completeness.specs.Needed.{bits, keep, o, reset_until, s, unfixed, IsSoundButResetFixed}
use Rattle.set_tree_completeness.specs.Terms.{cover_to, negated, or_else}
use Rattle.set_tree_completeness.proofs.Bits.{both, both_one, ends_at, equal_is, on_two, on_three, second_holds}
use Rattle.set_tree_completeness.proofs.Free.{apart, free_trace}
use Rattle.set_tree_completeness.proofs.Pairs.{IsOrdered, IsPair, IsWithin, advances, by_position, covered, covers, determined_by, edges, from_the_start, lengths, none_refused, nothing_differs, o_is_output, offsets, some_follows, successor, tiled}

unfixed_pair : IsPair reset_until keep (record { output = 0; from = 0; to = AfterEnd 0 }) (cover_to 0 0 1)
unfixed_pair = record { first_next = refl; second_next = refl; first_covers = refl; second_covers = refl }

unfixed_ordered : IsOrdered reset_until keep (record { output = 0; from = 0; to = AfterEnd 0 }) (cover_to 0 0 1)
unfixed_ordered = record {
  first_length = record { order = omega arith; fits = omega arith; fixed = λ none. absurd cc };
  second_length = record { order = omega arith; fits = omega arith; fixed = λ none. refl };
  advances = omega arith;
  first_output = refl;
  second_output = refl;
  first_cover = record { begins = omega arith; fits = omega arith; by_end = λ e r until to. absurd cc };
  second_cover = record { begins = omega arith; fits = omega arith; by_end = λ e r until to. absurd cc };
  from_the_start = refl;
}

unfixed_within : IsWithin reset_until keep (record { output = 0; from = 0; to = AfterEnd 0 }) (cover_to 0 0 1) (meaning_of unfixed)
unfixed_within = record {
  first_assumes = All-nil (StaysWithin (meaning_of unfixed) 1);
  second_assumes = All-from_recursion (StaysWithin (meaning_of unfixed) 1) (s 0 ∷ []) (omega arith, tt);
  first_commits = All-from_recursion (StaysWithin (meaning_of unfixed) 1) (or_else (s 0) (s 1) ∷ or_else (s 0) (negated (o 0)) ∷ []) (omega arith, (omega arith, tt));
  second_commits = All-from_recursion (StaysWithin (meaning_of unfixed) 1) (o 0 ∷ s 1 ∷ []) (omega arith, (omega arith, tt));
  first_hands = All-nil (StaysWithin (meaning_of unfixed) 1);
  second_hands = All-nil (StaysWithin (meaning_of unfixed) 1);
  first_until = λ e some. let same : s 0 ≡ e = cc in subst (λ (f : Expr). largest_offset f ≡ 0) same refl;
  second_until = λ e some. absurd cc;
}

pub unfixed_sound : IsSoundButResetFixed (meaning_of unfixed) unfixed
unfixed_sound = record {
  lengths = lengths reset_until keep (record { output = 0; from = 0; to = AfterEnd 0 }) (cover_to 0 0 1) unfixed_pair unfixed_ordered;
  advances = advances reset_until keep (record { output = 0; from = 0; to = AfterEnd 0 }) (cover_to 0 0 1) unfixed_pair unfixed_ordered;
  covered = covered reset_until keep (record { output = 0; from = 0; to = AfterEnd 0 }) (cover_to 0 0 1) unfixed_pair unfixed_ordered;
  covers = covers reset_until keep (record { output = 0; from = 0; to = AfterEnd 0 }) (cover_to 0 0 1) unfixed_pair unfixed_ordered;
  from_the_start = from_the_start reset_until keep (record { output = 0; from = 0; to = AfterEnd 0 }) (cover_to 0 0 1) unfixed_pair unfixed_ordered;
  edges = edges reset_until keep (record { output = 0; from = 0; to = AfterEnd 0 }) (cover_to 0 0 1) unfixed_pair unfixed_ordered;
  tiled = tiled reset_until keep (record { output = 0; from = 0; to = AfterEnd 0 }) (cover_to 0 0 1) unfixed_pair unfixed_ordered (record { first_ends = λ n low high. refl; second_ends = λ n low high. omega arith });
  reset_hands_nothing = refl;
  offsets = offsets reset_until keep (record { output = 0; from = 0; to = AfterEnd 0 }) (cover_to 0 0 1) unfixed_pair (meaning_of unfixed) unfixed_within;
}

no_until : (p : ℕ) → HasUntil unfixed p → ⊥
no_until p has =
    by_position (λ p. 0 < p → IsSome (property_at unfixed p).length.until → ⊥)
    (λ (never : 0 < 0) some. absurd (omega arith)) (λ (some : 0 < 1) none. let e : false ≡ true = none in cc)
    p has.0.1 has.0.0 has.1

holding : (t : Bool) → t ≡ true → (t && true) ≡ true
holding t h = rw h refl

-- wherever a property ends, `go` is assumed

reset_goes_on : (n : ℕ) (rows : List Row) → end_of (meaning_of unfixed) unfixed 0 rows ≡ Some n → assumed (meaning_of unfixed) unfixed 1 (drop n rows) ≡ true
reset_goes_on n rows ends = elim (ends_at 0 _ _ n ends) [
  | inl early ↦ subst (λ (i : ℕ). assumed (meaning_of unfixed) unfixed 1 (drop i rows) ≡ true) early.0 (holding _ early.1)
  | inr late ↦ subst (λ (i : ℕ). assumed (meaning_of unfixed) unfixed 1 (drop i rows) ≡ true) late.0 (holding _ late.2)
]

go_goes_on : (rows : List Row) → IsWindow (meaning_of unfixed) unfixed 2 rows → Starts (meaning_of unfixed) unfixed 1 rows → assumed (meaning_of unfixed) unfixed 1 (drop 1 rows) ≡ true
go_goes_on rows window starts =
    on_three (λ xs ys. Starts (meaning_of unfixed) unfixed 1 xs → assumed (meaning_of unfixed) unfixed 1 (drop 1 xs) ≡ true)
    (λ (a b c d e f a' b' c' d' e' f' : ℕ) (starts : Starts (meaning_of unfixed) unfixed 1 ((a ∷ b ∷ []) ∷ (c ∷ d ∷ []) ∷ (e ∷ f ∷ []) ∷ [])). holding _ (both _ _ starts.commits).1)
    rows rows window.constrained.trace window.size window.constrained.trace window.size starts

split_reset : (n : ℕ) (rows : List Row) → ViolatesSplit (meaning_of unfixed) unfixed 0 n rows → ⊥
split_reset n rows v = some_follows (meaning_of unfixed) unfixed 0 n rows refl (reset_goes_on n rows v.ends) v

split_go : (n : ℕ) (rows : List Row) → ViolatesSplit (meaning_of unfixed) unfixed 1 n rows → ⊥
split_go n rows v =
    let ends : Some 1 ≡ Some n = v.ends in
    let is : n ≡ 1 = cc in
    let here : ViolatesSplit (meaning_of unfixed) unfixed 1 1 rows = subst (λ (i : ℕ). ViolatesSplit (meaning_of unfixed) unfixed 1 i rows) is v in
    some_follows (meaning_of unfixed) unfixed 1 1 rows refl (go_goes_on rows here.window here.starts) here

choose_reset : (q n : ℕ) (xs ys : List Row) → 1 ≡ q → ViolatesChoose (meaning_of unfixed) unfixed 0 q n xs ys → ⊥
choose_reset q n xs ys is v = none_refused (meaning_of unfixed) unfixed 0 q n xs ys is (reset_goes_on n ys v.pair.second_ends) v

choose_go : (n : ℕ) (xs ys : List Row) → ViolatesChoose (meaning_of unfixed) unfixed 1 1 n xs ys → ⊥
choose_go n xs ys v =
    let ends : Some 1 ≡ Some n = v.pair.second_ends in
    let is : n ≡ 1 = cc in
    let here : ViolatesChoose (meaning_of unfixed) unfixed 1 1 1 xs ys = subst (λ (i : ℕ). ViolatesChoose (meaning_of unfixed) unfixed 1 1 i xs ys) is v in
    none_refused (meaning_of unfixed) unfixed 1 1 1 xs ys refl (go_goes_on ys here.pair.pair.second here.pair.pair.second_starts) here

-- o is 0 before the end of reset, and 1 where `go` starts

reset_same : (n at : ℕ) (xs ys : List Row) → IsPairTo (meaning_of unfixed) unfixed 0 n 1 xs ys → at < n + 0 → IsDetermined (meaning_of unfixed) unfixed 0 (drop at xs) (drop at ys)
reset_same n at xs ys pair =
    on_two (λ xs ys. IsPairTo (meaning_of unfixed) unfixed 0 n 1 xs ys → at < n + 0 → IsDetermined (meaning_of unfixed) unfixed 0 (drop at xs) (drop at ys))
    (λ (a b c d a' b' c' d' : ℕ) (pair : IsPairTo (meaning_of unfixed) unfixed 0 n 1 ((a ∷ b ∷ []) ∷ (c ∷ d ∷ []) ∷ []) ((a' ∷ b' ∷ []) ∷ (c' ∷ d' ∷ []) ∷ [])) (before : at < n + 0).
    by_ends a b c d a' b' c' d' pair before (ends_at 0 _ _ n pair.first_ends) (ends_at 0 _ _ n pair.second_ends))
    xs ys pair.pair.first.constrained.trace pair.pair.first.size pair.pair.second.constrained.trace pair.pair.second.size pair
  where
    by_ends : (a b c d a' b' c' d' : ℕ) → IsPairTo (meaning_of unfixed) unfixed 0 n 1 ((a ∷ b ∷ []) ∷ (c ∷ d ∷ []) ∷ []) ((a' ∷ b' ∷ []) ∷ (c' ∷ d' ∷ []) ∷ []) → at < n + 0 → ((0 ≡ n) × (not (nat_eq b 0) ≡ true)) ⊎ ((1 ≡ n) × (not (nat_eq b 0) ≡ false) × (not (nat_eq d 0) ≡ true)) → ((0 ≡ n) × (not (nat_eq b' 0) ≡ true)) ⊎ ((1 ≡ n) × (not (nat_eq b' 0) ≡ false) × (not (nat_eq d' 0) ≡ true)) → IsDetermined (meaning_of unfixed) unfixed 0 (drop at ((a ∷ b ∷ []) ∷ (c ∷ d ∷ []) ∷ [])) (drop at ((a' ∷ b' ∷ []) ∷ (c' ∷ d' ∷ []) ∷ []))
    by_ends a b c d a' b' c' d' pair before (inl x) y = absurd (omega (arith, x.0))
    by_ends a b c d a' b' c' d' pair before (inr x) (inl y) = absurd (omega (arith, y.0))
    by_ends a b c d a' b' c' d' pair before (inr x) (inr y) =
        let here : 0 ≡ at = omega (arith, x.0) in
        let first : a ≡ 0 = equal_is a 0 (second_holds _ _ (both _ _ pair.pair.first_starts.commits).1 x.1) in
        let second : a' ≡ 0 = equal_is a' 0 (second_holds _ _ (both _ _ pair.pair.second_starts.commits).1 y.1) in
        subst (λ (i : ℕ). IsDetermined (meaning_of unfixed) unfixed 0 (drop i ((a ∷ b ∷ []) ∷ (c ∷ d ∷ []) ∷ [])) (drop i ((a' ∷ b' ∷ []) ∷ (c' ∷ d' ∷ []) ∷ []))) here (record { domains = refl; values = λ within. first ∙ sym second })

reset_determined : (n : ℕ) (cover : Cover) (at : ℕ) (xs ys : List Row) → ViolatesDetermine (meaning_of unfixed) unfixed 0 n cover at xs ys → ⊥
reset_determined n cover at xs ys v =
    determined_by (meaning_of unfixed) unfixed 0 n (record { output = 0; from = 0; to = AfterEnd 0 }) cover at xs ys refl v (λ (begun : 0 ≤ at) (before : at < n + 0). reset_same n at xs ys v.pair before)

go_same : (n : ℕ) (xs ys : List Row) → IsPairTo (meaning_of unfixed) unfixed 1 n 1 xs ys → IsDetermined (meaning_of unfixed) unfixed 0 xs ys
go_same n xs ys pair =
    on_two (λ xs ys. IsPairTo (meaning_of unfixed) unfixed 1 n 1 xs ys → IsDetermined (meaning_of unfixed) unfixed 0 xs ys)
    (λ (a b c d a' b' c' d' : ℕ) (pair : IsPairTo (meaning_of unfixed) unfixed 1 n 1 ((a ∷ b ∷ []) ∷ (c ∷ d ∷ []) ∷ []) ((a' ∷ b' ∷ []) ∷ (c' ∷ d' ∷ []) ∷ [])).
    let small : a < 2 = (pair.pair.first.constrained.trace 0 [] (omega arith)).0 in
    let small' : a' < 2 = (pair.pair.second.constrained.trace 0 [] (omega arith)).0 in
    record { domains = refl; values = λ within. both_one a a' small small' (both _ _ pair.pair.first_starts.commits).0 (both _ _ pair.pair.second_starts.commits).0 })
    xs ys pair.pair.first.constrained.trace pair.pair.first.size pair.pair.second.constrained.trace pair.pair.second.size pair

go_determined : (n : ℕ) (cover : Cover) (at : ℕ) (xs ys : List Row) → ViolatesDetermine (meaning_of unfixed) unfixed 1 n cover at xs ys → ⊥
go_determined n cover at xs ys v =
    determined_by (meaning_of unfixed) unfixed 1 n (cover_to 0 0 1) cover at xs ys refl v
    (λ (begun : 0 ≤ at) (before : at < 1).
    let here : 0 ≡ at = omega arith in
    subst (λ (i : ℕ). IsDetermined (meaning_of unfixed) unfixed 0 (drop i xs) (drop i ys)) here (go_same n xs ys v.pair))

pub unfixed_valid : AreValid (meaning_of unfixed) unfixed
unfixed_valid = record {
  end = λ p rows has v. no_until p has;
  split = λ p n rows at. by_position (λ p. ViolatesSplit (meaning_of unfixed) unfixed p n rows → ⊥) (split_reset n rows) (split_go n rows) p at;
  same_end = λ p xs ys has v. no_until p has;
  choose = λ p q n xs ys at edge.
      let is : 1 ≡ q = successor reset_until keep (record { output = 0; from = 0; to = AfterEnd 0 }) (cover_to 0 0 1) unfixed_pair p q at edge in
      by_position (λ p. ViolatesChoose (meaning_of unfixed) unfixed p q n xs ys → ⊥) (choose_reset q n xs ys is) (subst (λ (i : ℕ). ViolatesChoose (meaning_of unfixed) unfixed 1 i n xs ys → ⊥) is (choose_go n xs ys)) p at;
  hand = λ p q n xs ys at edge. nothing_differs (meaning_of unfixed) unfixed p q n xs ys (successor reset_until keep (record { output = 0; from = 0; to = AfterEnd 0 }) (cover_to 0 0 1) unfixed_pair p q at edge) refl;
  determine = λ p n cover at xs ys position. by_position (λ p. ViolatesDetermine (meaning_of unfixed) unfixed p n cover at xs ys → ⊥) (reset_determined n cover at xs ys) (go_determined n cover at xs ys) p position;
}

-- reset ends at 0 in one trace and at 1 in the other, and o differs at 0

abbrev first_trace : List Row
first_trace = (1 ∷ 1 ∷ []) ∷ (1 ∷ 1 ∷ []) ∷ (1 ∷ 1 ∷ []) ∷ []

first_trace_constrained : IsConstrained (meaning_of unfixed) unfixed first_trace
first_trace_constrained = free_trace (meaning_of unfixed) unfixed first_trace refl (All-from_recursion (IsRow bits) first_trace ((omega arith, (omega arith, tt)), ((omega arith, (omega arith, tt)), ((omega arith, (omega arith, tt)), tt))))

abbrev second_trace : List Row
second_trace = (0 ∷ 0 ∷ []) ∷ (1 ∷ 1 ∷ []) ∷ (1 ∷ 1 ∷ []) ∷ []

second_trace_constrained : IsConstrained (meaning_of unfixed) unfixed second_trace
second_trace_constrained = free_trace (meaning_of unfixed) unfixed second_trace refl (All-from_recursion (IsRow bits) second_trace ((omega arith, (omega arith, tt)), ((omega arith, (omega arith, tt)), ((omega arith, (omega arith, tt)), tt))))

first_trace_commits : (p t : ℕ) → IsOperation unfixed p → t + window_of unfixed p < 3 → assumed (meaning_of unfixed) unfixed p (drop t first_trace) ≡ true → committed (meaning_of unfixed) unfixed p (drop t first_trace) ≡ true
first_trace_commits zero t op fits assumes = absurd (omega (arith, op.0))
first_trace_commits (suc zero) zero op fits assumes = refl
first_trace_commits (suc zero) (suc zero) op fits assumes = refl
first_trace_commits (suc zero) (suc (suc t)) op fits assumes = absurd (omega arith)
first_trace_commits (suc (suc p)) t op fits assumes = absurd (omega (arith, op.1))

second_trace_commits : (p t : ℕ) → IsOperation unfixed p → t + window_of unfixed p < 3 → assumed (meaning_of unfixed) unfixed p (drop t second_trace) ≡ true → committed (meaning_of unfixed) unfixed p (drop t second_trace) ≡ true
second_trace_commits zero t op fits assumes = absurd (omega (arith, op.0))
second_trace_commits (suc zero) zero op fits assumes = absurd (let never : false ≡ true = assumes in cc)
second_trace_commits (suc zero) (suc zero) op fits assumes = refl
second_trace_commits (suc zero) (suc (suc t)) op fits assumes = absurd (omega arith)
second_trace_commits (suc (suc p)) t op fits assumes = absurd (omega (arith, op.1))

pub unfixed_incomplete : ¬ IsComplete (meaning_of unfixed) unfixed
unfixed_incomplete complete =
    let first : Satisfies (meaning_of unfixed) unfixed first_trace = record { reset = λ fits. refl; operations = first_trace_commits } in
    let second : Satisfies (meaning_of unfixed) unfixed second_trace = record { reset = λ fits. refl; operations = second_trace_commits } in
    let determined = complete first_trace second_trace first_trace_constrained second_trace_constrained first second refl 0 0 o_is_output (omega arith) in
    apart 1 0 (determined.values refl) refl
