-- The counter's set is sound, and nothing violates its lines.
use Rattle.std.proofs.Common.{◌≡◌, ℕ, zero, suc, ◌+◌, ◌%◌, ◌<◌, ◌≤◌, ◌&&◌, ◌||◌, Bool, true, false, not, nat_eq, IsSome, List, [], ◌∷◌, length, drop, max, refl, sym, ◌∙◌, ap, subst, arith, None, Some, slice_get, slice_index_or, codes}
use Rattle.std.proofs.lemmas.List.Elements.{All-nil, All-from_recursion}
use Rattle.std.specs.List.{All, Contains, count_by, list_any}
use Rattle.std.specs.Option.{option_map}
use Rattle.vlog_tree.specs.Value.{bit}
use Rattle.vlog_tree.specs.declared.expr.Expr.{Expr}
use Rattle.set_tree.specs.declared.set.Cover.{Cover}
use Rattle.set_tree.specs.declared.set.Name.{Name}
use Rattle.set_tree.specs.declared.set.Role.TheVariants.{Input, Output}
use Rattle.set_tree.specs.Formulas.{meaning_of}
use Rattle.set_tree.specs.Meaning.{Row}
use Rattle.set_tree.specs.Parts.{property_at, IsOperation, HasUntil, assumed, cover_end, domain_of, value_of, window_of}
use Rattle.set_tree.specs.Structure.{IsCover, IsLength, IsSound, StaysWithin}
use Rattle.set_tree.specs.Traces.{IsDetermined, IsRow}
use Rattle.set_tree.specs.Lines.{AreValid, IsPair, SameHands, ViolatesChoose, ViolatesDetermine, ViolatesHand, ViolatesSplit}
use Rattle.set_tree_completeness.specs.Counter.{counter_names, counter_set, en, q}
use Rattle.set_tree_completeness.specs.Terms.{cover_to, declared, equals, negated, plus, sized}
use Rattle.set_tree_completeness.proofs.Free.{row_of_two}
use Rattle.set_tree_completeness.proofs.Bits.{equal_is, single}
use Rattle.set_tree_completeness.proofs.Pairs.{determined_by, only}

-- positions and successors

by_three : (F : ℕ → Type 0) → F 0 → F 1 → F 2 → (p : ℕ) → p ≤ 2 → F p
by_three F reset step hold zero at = reset
by_three F reset step hold (suc zero) at = step
by_three F reset step hold (suc (suc zero)) at = hold
by_three F reset step hold (suc (suc (suc p))) at = absurd (omega arith)

each_at : (F : ℕ → Type 0) → F 1 → F 2 → (q k : ℕ) → k < 2 → slice_index_or (1 ∷ 2 ∷ []) k q ≡ q → F q
each_at F step hold q zero lt is = subst F is step
each_at F step hold q (suc zero) lt is = subst F is hold
each_at F step hold q (suc (suc k)) lt is = absurd (omega arith)

by_successor : (F : ℕ → Type 0) → F 1 → F 2 → (q : ℕ) → Contains (1 ∷ 2 ∷ []) q → F q
by_successor F step hold q edge = each_at F step hold q edge.0 edge.1 edge.2

-- rows taken apart

row_of_counter : (row : Row) → IsRow counter_names row → (a b : ℕ) × (row ≡ a ∷ b ∷ [])
row_of_counter = row_of_two (declared (codes "en") Input 1) (declared (codes "q") Output 2)

first_row : (rows : List Row) → All (IsRow counter_names) rows → 1 ≤ length rows → (a b : ℕ) × (rest : List Row) × (rows ≡ (a ∷ b ∷ []) ∷ rest)
first_row [] trace some = absurd (omega arith)
first_row (x ∷ rows) trace some = let r = row_of_counter x (trace 0 x (omega arith)) in (r.0, r.1, rows, ap (λ (row : Row). row ∷ rows) r.2)

pair_up : (x y x' y' : Row) (rows : List Row) → x ≡ x' → y ≡ y' → x ∷ y ∷ rows ≡ x' ∷ y' ∷ rows
pair_up x y x' y' rows p r = cc

first_rows : (rows : List Row) → All (IsRow counter_names) rows → 2 ≤ length rows → (a b c d : ℕ) × (rest : List Row) × (rows ≡ (a ∷ b ∷ []) ∷ (c ∷ d ∷ []) ∷ rest)
first_rows [] trace some = absurd (omega arith)
first_rows (x ∷ []) trace some = absurd (omega arith)
first_rows (x ∷ y ∷ rows) trace some =
    let r = row_of_counter x (trace 0 x (omega arith)) in
    let t = row_of_counter y (trace 1 y (omega arith)) in
    (r.0, r.1, t.0, t.1, rows, pair_up _ _ _ _ rows r.2 t.2)

on_first : (F : List Row → List Row → Type 0) → ((a b a' b' : ℕ) (rest rest' : List Row) → F ((a ∷ b ∷ []) ∷ rest) ((a' ∷ b' ∷ []) ∷ rest')) → (xs ys : List Row) → All (IsRow counter_names) xs → 1 ≤ length xs → All (IsRow counter_names) ys → 1 ≤ length ys → F xs ys
on_first F each xs ys trace_x size_x trace_y size_y =
    let x = first_row xs trace_x size_x in
    let y = first_row ys trace_y size_y in
    subst (λ (rows : List Row). F rows ys) (sym x.3) (subst (λ (rows : List Row). F ((x.0 ∷ x.1 ∷ []) ∷ x.2) rows) (sym y.3) (each x.0 x.1 y.0 y.1 x.2 y.2))

on_both : (F : List Row → List Row → Type 0) → ((a b c d a' b' c' d' : ℕ) (rest rest' : List Row) → F ((a ∷ b ∷ []) ∷ (c ∷ d ∷ []) ∷ rest) ((a' ∷ b' ∷ []) ∷ (c' ∷ d' ∷ []) ∷ rest')) → (xs ys : List Row) → All (IsRow counter_names) xs → 2 ≤ length xs → All (IsRow counter_names) ys → 2 ≤ length ys → F xs ys
on_both F each xs ys trace_x size_x trace_y size_y =
    let x = first_rows xs trace_x size_x in
    let y = first_rows ys trace_y size_y in
    subst (λ (rows : List Row). F rows ys) (sym x.5) (subst (λ (rows : List Row). F ((x.0 ∷ x.1 ∷ []) ∷ (x.2 ∷ x.3 ∷ []) ∷ x.4) rows) (sym y.5) (each x.0 x.1 x.2 x.3 y.0 y.1 y.2 y.3 x.4 y.4))

-- en is 1 or 0, so one of the operations is assumed

en_or_not : (t : Bool) → ((not t && true) || ((not (nat_eq (bit t) 0) && true) || false)) ≡ true
en_or_not true = refl
en_or_not false = refl

follows : (a b : ℕ) (rest : List Row) → list_any (λ q. assumed (meaning_of counter_set) counter_set q ((a ∷ b ∷ []) ∷ rest)) (1 ∷ 2 ∷ []) ≡ true
follows a b rest = en_or_not (nat_eq a 0)

-- which of them goes by en alone
same_assumed : (p : ℕ) → Contains (1 ∷ 2 ∷ []) p → (a b a' b' : ℕ) (rest rest' : List Row) → a ≡ a' → assumed (meaning_of counter_set) counter_set p ((a ∷ b ∷ []) ∷ rest) ≡ assumed (meaning_of counter_set) counter_set p ((a' ∷ b' ∷ []) ∷ rest')
same_assumed p edge a b a' b' rest rest' same =
    by_successor (λ p. assumed (meaning_of counter_set) counter_set p ((a ∷ b ∷ []) ∷ rest) ≡ assumed (meaning_of counter_set) counter_set p ((a' ∷ b' ∷ []) ∷ rest'))
    (ap (λ (z : ℕ). not (nat_eq z 0) && true) same) (ap (λ (z : ℕ). not (nat_eq (bit (nat_eq z 0)) 0) && true) same) p edge

-- both hand q over
same_hands : (p : ℕ) → Contains (1 ∷ 2 ∷ []) p → (a b a' b' : ℕ) (rest rest' : List Row) → b ≡ b' → SameHands (meaning_of counter_set) counter_set p ((a ∷ b ∷ []) ∷ rest) ((a' ∷ b' ∷ []) ∷ rest')
same_hands p edge a b a' b' rest rest' same =
    by_successor (λ p. SameHands (meaning_of counter_set) counter_set p ((a ∷ b ∷ []) ∷ rest) ((a' ∷ b' ∷ []) ∷ rest'))
    (All-from_recursion (λ (e : Expr). (meaning_of counter_set).value e ((a ∷ b ∷ []) ∷ rest) ≡ (meaning_of counter_set).value e ((a' ∷ b' ∷ []) ∷ rest')) (q 0 ∷ []) (same, tt))
    (All-from_recursion (λ (e : Expr). (meaning_of counter_set).value e ((a ∷ b ∷ []) ∷ rest) ≡ (meaning_of counter_set).value e ((a' ∷ b' ∷ []) ∷ rest')) (q 0 ∷ []) (same, tt)) p edge

-- q where the successor starts is the same in both windows

after_reset : (end : ℕ) (a b a' b' : ℕ) (rest rest' : List Row) → IsPair (meaning_of counter_set) counter_set 0 end ((a ∷ b ∷ []) ∷ rest) ((a' ∷ b' ∷ []) ∷ rest') → b ≡ b'
after_reset end a b a' b' rest rest' pair =
    let first : b ≡ 0 = equal_is b 0 (single _ pair.first_starts.commits) in
    let second : b' ≡ 0 = equal_is b' 0 (single _ pair.second_starts.commits) in
    first ∙ sym second

after_step : (end : ℕ) (a b c d a' b' c' d' : ℕ) (rest rest' : List Row) → IsPair (meaning_of counter_set) counter_set 1 end ((a ∷ b ∷ []) ∷ (c ∷ d ∷ []) ∷ rest) ((a' ∷ b' ∷ []) ∷ (c' ∷ d' ∷ []) ∷ rest') → d ≡ d'
after_step end a b c d a' b' c' d' rest rest' pair =
    let first : d ≡ (b + 1) % 4 = equal_is d ((b + 1) % 4) (single _ pair.first_starts.commits) in
    let second : d' ≡ (b' + 1) % 4 = equal_is d' ((b' + 1) % 4) (single _ pair.second_starts.commits) in
    let handed : b ≡ b' = pair.hands 0 (q 0) (omega arith) in
    first ∙ (ap (λ (z : ℕ). (z + 1) % 4) handed ∙ sym second)

after_hold : (end : ℕ) (a b c d a' b' c' d' : ℕ) (rest rest' : List Row) → IsPair (meaning_of counter_set) counter_set 2 end ((a ∷ b ∷ []) ∷ (c ∷ d ∷ []) ∷ rest) ((a' ∷ b' ∷ []) ∷ (c' ∷ d' ∷ []) ∷ rest') → d ≡ d'
after_hold end a b c d a' b' c' d' rest rest' pair =
    let first : d ≡ b = equal_is d b (single _ pair.first_starts.commits) in
    let second : d' ≡ b' = equal_is d' b' (single _ pair.second_starts.commits) in
    let handed : b ≡ b' = pair.hands 0 (q 0) (omega arith) in
    first ∙ (handed ∙ sym second)

-- the lines at the start of a successor: at 0 after reset, at 1 after an operation

split_first : (rows : List Row) → 1 ≤ length rows → ViolatesSplit (meaning_of counter_set) counter_set 0 0 rows → ⊥
split_first rows some v =
    on_first (λ xs ys. ViolatesSplit (meaning_of counter_set) counter_set 0 0 xs → ⊥)
    (λ (a b a' b' : ℕ) (rest rest' : List Row) (v : ViolatesSplit (meaning_of counter_set) counter_set 0 0 ((a ∷ b ∷ []) ∷ rest)). let one = follows a b rest in let none = v.none_follows in cc)
    rows rows v.window.constrained.trace some v.window.constrained.trace some v

choose_first : (p : ℕ) (xs ys : List Row) → Contains (1 ∷ 2 ∷ []) p → 1 ≤ length xs → 1 ≤ length ys → ViolatesChoose (meaning_of counter_set) counter_set 0 p 0 xs ys → ⊥
choose_first p xs ys edge some_x some_y v =
    on_first (λ xs ys. ViolatesChoose (meaning_of counter_set) counter_set 0 p 0 xs ys → ⊥)
    (λ (a b a' b' : ℕ) (rest rest' : List Row) (v : ViolatesChoose (meaning_of counter_set) counter_set 0 p 0 ((a ∷ b ∷ []) ∷ rest) ((a' ∷ b' ∷ []) ∷ rest')).
    let same : a ≡ a' = ap (value_of 0) v.pair.pair.inputs in
    let both = same_assumed p edge a b a' b' rest rest' same in
    let chosen = v.chosen in
    let refused = v.refused in
    cc)
    xs ys v.pair.pair.first.constrained.trace some_x v.pair.pair.second.constrained.trace some_y v

hand_first : (p : ℕ) (xs ys : List Row) → Contains (1 ∷ 2 ∷ []) p → 1 ≤ length xs → 1 ≤ length ys → ViolatesHand (meaning_of counter_set) counter_set 0 p 0 xs ys → ⊥
hand_first p xs ys edge some_x some_y v =
    on_first (λ xs ys. ViolatesHand (meaning_of counter_set) counter_set 0 p 0 xs ys → ⊥)
    (λ (a b a' b' : ℕ) (rest rest' : List Row) (v : ViolatesHand (meaning_of counter_set) counter_set 0 p 0 ((a ∷ b ∷ []) ∷ rest) ((a' ∷ b' ∷ []) ∷ rest')).
    v.differ (same_hands p edge a b a' b' rest rest' (after_reset _ a b a' b' rest rest' v.pair.pair)))
    xs ys v.pair.pair.first.constrained.trace some_x v.pair.pair.second.constrained.trace some_y v

determine_first : (n : ℕ) (cover : Cover) (at : ℕ) (xs ys : List Row) → ViolatesDetermine (meaning_of counter_set) counter_set 0 n cover at xs ys → ⊥
determine_first n cover at xs ys v =
    let size_x : length xs ≡ 1 = v.pair.pair.first.size in
    let size_y : length ys ≡ 1 = v.pair.pair.second.size in
    determined_by (meaning_of counter_set) counter_set 0 n (cover_to 1 0 1) cover at xs ys refl v
    (λ (begun : 0 ≤ at) (before : at < 1).
    let here : 0 ≡ at = omega arith in
    subst (λ (i : ℕ). IsDetermined (meaning_of counter_set) counter_set 1 (drop i xs) (drop i ys)) here
    (on_first (λ xs ys. IsPair (meaning_of counter_set) counter_set 0 0 xs ys → IsDetermined (meaning_of counter_set) counter_set 1 xs ys)
    (λ (a b a' b' : ℕ) (rest rest' : List Row) (pair : IsPair (meaning_of counter_set) counter_set 0 0 ((a ∷ b ∷ []) ∷ rest) ((a' ∷ b' ∷ []) ∷ rest')). record { domains = refl; values = λ within. after_reset 0 a b a' b' rest rest' pair })
    xs ys v.pair.pair.first.constrained.trace (omega arith) v.pair.pair.second.constrained.trace (omega arith) v.pair.pair))

module _ (o : ℕ) (after : (end : ℕ) (a b c d a' b' c' d' : ℕ) (rest rest' : List Row) → IsPair (meaning_of counter_set) counter_set o end ((a ∷ b ∷ []) ∷ (c ∷ d ∷ []) ∷ rest) ((a' ∷ b' ∷ []) ∷ (c' ∷ d' ∷ []) ∷ rest') → d ≡ d') where
  split_later : (rows : List Row) → (property_at counter_set o).next ≡ 1 ∷ 2 ∷ [] → 2 ≤ length rows → ViolatesSplit (meaning_of counter_set) counter_set o 1 rows → ⊥
  split_later rows next some v =
      on_both (λ xs ys. ViolatesSplit (meaning_of counter_set) counter_set o 1 xs → ⊥)
      (λ (a b c d a' b' c' d' : ℕ) (rest rest' : List Row) (v : ViolatesSplit (meaning_of counter_set) counter_set o 1 ((a ∷ b ∷ []) ∷ (c ∷ d ∷ []) ∷ rest)).
      let one = follows c d rest in
      let none : list_any (λ q. assumed (meaning_of counter_set) counter_set q ((c ∷ d ∷ []) ∷ rest)) (1 ∷ 2 ∷ []) ≡ false = subst (λ (qs : List ℕ). list_any (λ q. assumed (meaning_of counter_set) counter_set q ((c ∷ d ∷ []) ∷ rest)) qs ≡ false) next v.none_follows in
      cc)
      rows rows v.window.constrained.trace some v.window.constrained.trace some v

  choose_later : (p : ℕ) (xs ys : List Row) → Contains (1 ∷ 2 ∷ []) p → 2 ≤ length xs → 2 ≤ length ys → ViolatesChoose (meaning_of counter_set) counter_set o p 1 xs ys → ⊥
  choose_later p xs ys edge some_x some_y v =
      on_both (λ xs ys. ViolatesChoose (meaning_of counter_set) counter_set o p 1 xs ys → ⊥)
      (λ (a b c d a' b' c' d' : ℕ) (rest rest' : List Row) (v : ViolatesChoose (meaning_of counter_set) counter_set o p 1 ((a ∷ b ∷ []) ∷ (c ∷ d ∷ []) ∷ rest) ((a' ∷ b' ∷ []) ∷ (c' ∷ d' ∷ []) ∷ rest')).
      let same : c ≡ c' = ap (λ (rows : List Row). value_of 0 (drop 1 rows)) v.pair.pair.inputs in
      let both = same_assumed p edge c d c' d' rest rest' same in
      let chosen = v.chosen in
      let refused = v.refused in
      cc)
      xs ys v.pair.pair.first.constrained.trace some_x v.pair.pair.second.constrained.trace some_y v

  hand_later : (p : ℕ) (xs ys : List Row) → Contains (1 ∷ 2 ∷ []) p → 2 ≤ length xs → 2 ≤ length ys → ViolatesHand (meaning_of counter_set) counter_set o p 1 xs ys → ⊥
  hand_later p xs ys edge some_x some_y v =
      on_both (λ xs ys. ViolatesHand (meaning_of counter_set) counter_set o p 1 xs ys → ⊥)
      (λ (a b c d a' b' c' d' : ℕ) (rest rest' : List Row) (v : ViolatesHand (meaning_of counter_set) counter_set o p 1 ((a ∷ b ∷ []) ∷ (c ∷ d ∷ []) ∷ rest) ((a' ∷ b' ∷ []) ∷ (c' ∷ d' ∷ []) ∷ rest')).
      v.differ (same_hands p edge c d c' d' rest rest' (after _ a b c d a' b' c' d' rest rest' v.pair.pair)))
      xs ys v.pair.pair.first.constrained.trace some_x v.pair.pair.second.constrained.trace some_y v

  determine_later : (n : ℕ) (cover : Cover) (at : ℕ) (xs ys : List Row) → (property_at counter_set o).covers ≡ cover_to 1 1 2 ∷ [] → 2 ≤ length xs → 2 ≤ length ys → ViolatesDetermine (meaning_of counter_set) counter_set o n cover at xs ys → ⊥
  determine_later n cover at xs ys covers some_x some_y v =
      determined_by (meaning_of counter_set) counter_set o n (cover_to 1 1 2) cover at xs ys covers v
      (λ (begun : 1 ≤ at) (before : at < 2).
      let here : 1 ≡ at = omega arith in
      subst (λ (i : ℕ). IsDetermined (meaning_of counter_set) counter_set 1 (drop i xs) (drop i ys)) here
      (on_both (λ xs ys. IsPair (meaning_of counter_set) counter_set o (window_of counter_set o) xs ys → IsDetermined (meaning_of counter_set) counter_set 1 (drop 1 xs) (drop 1 ys))
      (λ (a b c d a' b' c' d' : ℕ) (rest rest' : List Row) (pair : IsPair (meaning_of counter_set) counter_set o (window_of counter_set o) ((a ∷ b ∷ []) ∷ (c ∷ d ∷ []) ∷ rest) ((a' ∷ b' ∷ []) ∷ (c' ∷ d' ∷ []) ∷ rest')). record { domains = refl; values = λ within. after _ a b c d a' b' c' d' rest rest' pair })
      xs ys v.pair.pair.first.constrained.trace some_x v.pair.pair.second.constrained.trace some_y v.pair.pair))

-- each property ends where its length says

window_is : (s : ℕ) → Contains (1 ∷ 2 ∷ []) s → window_of counter_set s ≡ 1
window_is = by_successor (λ s. window_of counter_set s ≡ 1) refl refl

split_0 : (n : ℕ) (rows : List Row) → ViolatesSplit (meaning_of counter_set) counter_set 0 n rows → ⊥
split_0 n rows v =
    let ends : Some 0 ≡ Some n = v.ends in
    let is : n ≡ 0 = cc in
    let here : ViolatesSplit (meaning_of counter_set) counter_set 0 0 rows = subst (λ (i : ℕ). ViolatesSplit (meaning_of counter_set) counter_set 0 i rows) is v in
    let size : length rows ≡ 2 = here.window.size in
    split_first rows (omega arith) here

choose_0 : (s n : ℕ) (xs ys : List Row) → Contains (1 ∷ 2 ∷ []) s → ViolatesChoose (meaning_of counter_set) counter_set 0 s n xs ys → ⊥
choose_0 s n xs ys edge v =
    let ends : Some 0 ≡ Some n = v.pair.first_ends in
    let is : n ≡ 0 = cc in
    let here : ViolatesChoose (meaning_of counter_set) counter_set 0 s 0 xs ys = subst (λ (i : ℕ). ViolatesChoose (meaning_of counter_set) counter_set 0 s i xs ys) is v in
    let size_x : length xs ≡ 2 = subst (λ (w : ℕ). length xs ≡ max 0 (0 + w) + 1) (window_is s edge) here.pair.pair.first.size in
    let size_y : length ys ≡ 2 = subst (λ (w : ℕ). length ys ≡ max 0 (0 + w) + 1) (window_is s edge) here.pair.pair.second.size in
    choose_first s xs ys edge (omega arith) (omega arith) here

hand_0 : (s n : ℕ) (xs ys : List Row) → Contains (1 ∷ 2 ∷ []) s → ViolatesHand (meaning_of counter_set) counter_set 0 s n xs ys → ⊥
hand_0 s n xs ys edge v =
    let ends : Some 0 ≡ Some n = v.pair.first_ends in
    let is : n ≡ 0 = cc in
    let here : ViolatesHand (meaning_of counter_set) counter_set 0 s 0 xs ys = subst (λ (i : ℕ). ViolatesHand (meaning_of counter_set) counter_set 0 s i xs ys) is v in
    let size_x : length xs ≡ 2 = subst (λ (w : ℕ). length xs ≡ max 0 (0 + w) + 1) (window_is s edge) here.pair.pair.first.size in
    let size_y : length ys ≡ 2 = subst (λ (w : ℕ). length ys ≡ max 0 (0 + w) + 1) (window_is s edge) here.pair.pair.second.size in
    hand_first s xs ys edge (omega arith) (omega arith) here

split_1 : (n : ℕ) (rows : List Row) → ViolatesSplit (meaning_of counter_set) counter_set 1 n rows → ⊥
split_1 n rows v =
    let ends : Some 1 ≡ Some n = v.ends in
    let is : n ≡ 1 = cc in
    let here : ViolatesSplit (meaning_of counter_set) counter_set 1 1 rows = subst (λ (i : ℕ). ViolatesSplit (meaning_of counter_set) counter_set 1 i rows) is v in
    let size : length rows ≡ 3 = here.window.size in
    split_later 1 after_step rows refl (omega arith) here

choose_1 : (s n : ℕ) (xs ys : List Row) → Contains (1 ∷ 2 ∷ []) s → ViolatesChoose (meaning_of counter_set) counter_set 1 s n xs ys → ⊥
choose_1 s n xs ys edge v =
    let ends : Some 1 ≡ Some n = v.pair.first_ends in
    let is : n ≡ 1 = cc in
    let here : ViolatesChoose (meaning_of counter_set) counter_set 1 s 1 xs ys = subst (λ (i : ℕ). ViolatesChoose (meaning_of counter_set) counter_set 1 s i xs ys) is v in
    let size_x : length xs ≡ 3 = subst (λ (w : ℕ). length xs ≡ max 1 (1 + w) + 1) (window_is s edge) here.pair.pair.first.size in
    let size_y : length ys ≡ 3 = subst (λ (w : ℕ). length ys ≡ max 1 (1 + w) + 1) (window_is s edge) here.pair.pair.second.size in
    choose_later 1 after_step s xs ys edge (omega arith) (omega arith) here

hand_1 : (s n : ℕ) (xs ys : List Row) → Contains (1 ∷ 2 ∷ []) s → ViolatesHand (meaning_of counter_set) counter_set 1 s n xs ys → ⊥
hand_1 s n xs ys edge v =
    let ends : Some 1 ≡ Some n = v.pair.first_ends in
    let is : n ≡ 1 = cc in
    let here : ViolatesHand (meaning_of counter_set) counter_set 1 s 1 xs ys = subst (λ (i : ℕ). ViolatesHand (meaning_of counter_set) counter_set 1 s i xs ys) is v in
    let size_x : length xs ≡ 3 = subst (λ (w : ℕ). length xs ≡ max 1 (1 + w) + 1) (window_is s edge) here.pair.pair.first.size in
    let size_y : length ys ≡ 3 = subst (λ (w : ℕ). length ys ≡ max 1 (1 + w) + 1) (window_is s edge) here.pair.pair.second.size in
    hand_later 1 after_step s xs ys edge (omega arith) (omega arith) here

determine_1 : (n : ℕ) (cover : Cover) (at : ℕ) (xs ys : List Row) → ViolatesDetermine (meaning_of counter_set) counter_set 1 n cover at xs ys → ⊥
determine_1 n cover at xs ys v =
    let size_x : length xs ≡ 2 = v.pair.pair.first.size in
    let size_y : length ys ≡ 2 = v.pair.pair.second.size in
    determine_later 1 after_step n cover at xs ys refl (omega arith) (omega arith) v

split_2 : (n : ℕ) (rows : List Row) → ViolatesSplit (meaning_of counter_set) counter_set 2 n rows → ⊥
split_2 n rows v =
    let ends : Some 1 ≡ Some n = v.ends in
    let is : n ≡ 1 = cc in
    let here : ViolatesSplit (meaning_of counter_set) counter_set 2 1 rows = subst (λ (i : ℕ). ViolatesSplit (meaning_of counter_set) counter_set 2 i rows) is v in
    let size : length rows ≡ 3 = here.window.size in
    split_later 2 after_hold rows refl (omega arith) here

choose_2 : (s n : ℕ) (xs ys : List Row) → Contains (1 ∷ 2 ∷ []) s → ViolatesChoose (meaning_of counter_set) counter_set 2 s n xs ys → ⊥
choose_2 s n xs ys edge v =
    let ends : Some 1 ≡ Some n = v.pair.first_ends in
    let is : n ≡ 1 = cc in
    let here : ViolatesChoose (meaning_of counter_set) counter_set 2 s 1 xs ys = subst (λ (i : ℕ). ViolatesChoose (meaning_of counter_set) counter_set 2 s i xs ys) is v in
    let size_x : length xs ≡ 3 = subst (λ (w : ℕ). length xs ≡ max 1 (1 + w) + 1) (window_is s edge) here.pair.pair.first.size in
    let size_y : length ys ≡ 3 = subst (λ (w : ℕ). length ys ≡ max 1 (1 + w) + 1) (window_is s edge) here.pair.pair.second.size in
    choose_later 2 after_hold s xs ys edge (omega arith) (omega arith) here

hand_2 : (s n : ℕ) (xs ys : List Row) → Contains (1 ∷ 2 ∷ []) s → ViolatesHand (meaning_of counter_set) counter_set 2 s n xs ys → ⊥
hand_2 s n xs ys edge v =
    let ends : Some 1 ≡ Some n = v.pair.first_ends in
    let is : n ≡ 1 = cc in
    let here : ViolatesHand (meaning_of counter_set) counter_set 2 s 1 xs ys = subst (λ (i : ℕ). ViolatesHand (meaning_of counter_set) counter_set 2 s i xs ys) is v in
    let size_x : length xs ≡ 3 = subst (λ (w : ℕ). length xs ≡ max 1 (1 + w) + 1) (window_is s edge) here.pair.pair.first.size in
    let size_y : length ys ≡ 3 = subst (λ (w : ℕ). length ys ≡ max 1 (1 + w) + 1) (window_is s edge) here.pair.pair.second.size in
    hand_later 2 after_hold s xs ys edge (omega arith) (omega arith) here

determine_2 : (n : ℕ) (cover : Cover) (at : ℕ) (xs ys : List Row) → ViolatesDetermine (meaning_of counter_set) counter_set 2 n cover at xs ys → ⊥
determine_2 n cover at xs ys v =
    let size_x : length xs ≡ 2 = v.pair.pair.first.size in
    let size_y : length ys ≡ 2 = v.pair.pair.second.size in
    determine_later 2 after_hold n cover at xs ys refl (omega arith) (omega arith) v

no_until : (p : ℕ) → HasUntil counter_set p → ⊥
no_until p has =
    by_three (λ p. IsSome (property_at counter_set p).length.until → ⊥)
    (λ none. let e : false ≡ true = none in cc) (λ none. let e : false ≡ true = none in cc) (λ none. let e : false ≡ true = none in cc)
    p has.0.1 has.1

pub counter_valid : AreValid (meaning_of counter_set) counter_set
counter_valid = record {
  end = λ p rows has v. no_until p has;
  split = λ p n rows at. by_three (λ p. ViolatesSplit (meaning_of counter_set) counter_set p n rows → ⊥) (split_0 n rows) (split_1 n rows) (split_2 n rows) p at;
  same_end = λ p xs ys has v. no_until p has;
  choose = λ p s n xs ys at. by_three (λ p. Contains (property_at counter_set p).next s → ViolatesChoose (meaning_of counter_set) counter_set p s n xs ys → ⊥) (choose_0 s n xs ys) (choose_1 s n xs ys) (choose_2 s n xs ys) p at;
  hand = λ p s n xs ys at. by_three (λ p. Contains (property_at counter_set p).next s → ViolatesHand (meaning_of counter_set) counter_set p s n xs ys → ⊥) (hand_0 s n xs ys) (hand_1 s n xs ys) (hand_2 s n xs ys) p at;
  determine = λ p n cover at xs ys position. by_three (λ p. ViolatesDetermine (meaning_of counter_set) counter_set p n cover at xs ys → ⊥) (determine_first n cover at xs ys) (determine_1 n cover at xs ys) (determine_2 n cover at xs ys) p position;
}

-- the structure

no_domains : (i : ℕ) (name : Name) (e : Expr) → slice_get counter_names i ≡ Some name → name.domain ≡ Some e → ⊥
no_domains zero name e there is = let none : None ≡ name.domain = ap domain_of there in cc
no_domains (suc zero) name e there is = let none : None ≡ name.domain = ap domain_of there in cc
no_domains (suc (suc i)) name e there is = cc

-- q is the only output
q_alone : (i : ℕ) → ((name : Name) × (slice_get counter_names i ≡ Some name) × (name.role ≡ Output)) → i ≡ 1
q_alone zero out = absurd (let input : Some Input ≡ Some out.0.role = ap (option_map (λ (x : Name). x.role)) out.1 in let output = out.2 in cc)
q_alone (suc zero) out = refl
q_alone (suc (suc i)) out = let none = out.1 in absurd cc

cover_of : (v cover : Cover) (p : ℕ) → Contains (v ∷ []) cover → IsCover (property_at counter_set p) v → IsCover (property_at counter_set p) cover
cover_of v cover p member is = subst (IsCover (property_at counter_set p)) (only v cover member) is

-- a cover that ends where that of the successor begins
meets : (v cover : Cover) (s n : ℕ) (next : Cover) → Contains (v ∷ []) cover → Contains (1 ∷ 2 ∷ []) s → Contains (property_at counter_set s).covers next → cover_end v.to n ≡ n + 1 → cover_end cover.to n ≡ n + next.from
meets v cover s n next member edge after is =
    by_successor (λ s. Contains (property_at counter_set s).covers next → cover_end cover.to n ≡ n + next.from) here here s edge after
  where
    here : Contains (cover_to 1 1 2 ∷ []) next → cover_end cover.to n ≡ n + next.from
    here after = subst (λ (c : Cover). cover_end cover.to n ≡ n + c.from) (only (cover_to 1 1 2) next after) (subst (λ (c : Cover). cover_end c.to n ≡ n + 1) (only v cover member) is)

is_operation : (s : ℕ) → Contains (1 ∷ 2 ∷ []) s → IsOperation counter_set s
is_operation = by_successor (IsOperation counter_set) (omega arith, omega arith) (omega arith, omega arith)

pub counter_sound : IsSound (meaning_of counter_set) counter_set
counter_sound = record {
  lengths = by_three (λ p. IsLength (property_at counter_set p).length (property_at counter_set p).window)
      (record { order = omega arith; fits = omega arith; fixed = λ none. refl }) (record { order = omega arith; fits = omega arith; fixed = λ none. refl }) (record { order = omega arith; fits = omega arith; fixed = λ none. refl });
  reset_fixed = refl;
  advances = λ p op. by_three (λ p. 0 < p → 1 ≤ (property_at counter_set p).length.low) (λ (never : 0 < 0). absurd (omega arith)) (λ (some : 0 < 1). omega arith) (λ (some : 0 < 2). omega arith) p op.1 op.0;
  covered = λ p i at out.
      subst (λ (j : ℕ). count_by (λ c. nat_eq c.output j) (property_at counter_set p).covers ≡ 1) (sym (q_alone i out))
      (by_three (λ p. count_by (λ c. nat_eq c.output 1) (property_at counter_set p).covers ≡ 1) refl refl refl p at);
  covers = λ p cover at. by_three (λ p. Contains (property_at counter_set p).covers cover → IsCover (property_at counter_set p) cover)
      (λ (member : Contains (cover_to 1 0 1 ∷ []) cover). cover_of (cover_to 1 0 1) cover 0 member (record { begins = omega arith; fits = omega arith; by_end = λ e r none to. absurd cc }))
      (λ (member : Contains (cover_to 1 1 2 ∷ []) cover). cover_of (cover_to 1 1 2) cover 1 member (record { begins = omega arith; fits = omega arith; by_end = λ e r none to. absurd cc }))
      (λ (member : Contains (cover_to 1 1 2 ∷ []) cover). cover_of (cover_to 1 1 2) cover 2 member (record { begins = omega arith; fits = omega arith; by_end = λ e r none to. absurd cc })) p at;
  from_the_start = λ cover member. subst (λ (c : Cover). c.from ≡ 0) (only (cover_to 1 0 1) cover member) refl;
  edges = λ p s at. by_three (λ p. Contains (property_at counter_set p).next s → IsOperation counter_set s) (is_operation s) (is_operation s) (is_operation s) p at;
  tiled = λ p s n cover next at edge member after same low high.
      by_three (λ p. Contains (property_at counter_set p).next s → Contains (property_at counter_set p).covers cover → (property_at counter_set p).length.low ≤ n → n ≤ (property_at counter_set p).length.high → cover_end cover.to n ≡ n + next.from)
      (λ (edge : Contains (1 ∷ 2 ∷ []) s) (member : Contains (cover_to 1 0 1 ∷ []) cover) (low : 0 ≤ n) (high : n ≤ 0). meets (cover_to 1 0 1) cover s n next member edge after (omega arith))
      (λ (edge : Contains (1 ∷ 2 ∷ []) s) (member : Contains (cover_to 1 1 2 ∷ []) cover) (low : 1 ≤ n) (high : n ≤ 1). meets (cover_to 1 1 2) cover s n next member edge after (omega arith))
      (λ (edge : Contains (1 ∷ 2 ∷ []) s) (member : Contains (cover_to 1 1 2 ∷ []) cover) (low : 1 ≤ n) (high : n ≤ 1). meets (cover_to 1 1 2) cover s n next member edge after (omega arith))
      p at edge member low high;
  reset_hands_nothing = refl;
  offsets = record {
    assumptions = by_three (λ p. All (StaysWithin (meaning_of counter_set) (window_of counter_set p)) (property_at counter_set p).assume)
        (All-nil (StaysWithin (meaning_of counter_set) 0)) (All-from_recursion (StaysWithin (meaning_of counter_set) 1) (en 0 ∷ []) (omega arith, tt)) (All-from_recursion (StaysWithin (meaning_of counter_set) 1) (negated (en 0) ∷ []) (omega arith, tt));
    commitments = by_three (λ p. All (StaysWithin (meaning_of counter_set) (window_of counter_set p)) (property_at counter_set p).commit)
        (All-from_recursion (StaysWithin (meaning_of counter_set) 0) (equals (q 0) (sized 2 0) ∷ []) (omega arith, tt)) (All-from_recursion (StaysWithin (meaning_of counter_set) 1) (equals (q 1) (plus (q 0) (sized 2 1)) ∷ []) (omega arith, tt)) (All-from_recursion (StaysWithin (meaning_of counter_set) 1) (equals (q 1) (q 0) ∷ []) (omega arith, tt));
    hands = by_three (λ p. All (StaysWithin (meaning_of counter_set) (window_of counter_set p)) (property_at counter_set p).hand)
        (All-nil (StaysWithin (meaning_of counter_set) 0)) (All-from_recursion (StaysWithin (meaning_of counter_set) 1) (q 0 ∷ []) (omega arith, tt)) (All-from_recursion (StaysWithin (meaning_of counter_set) 1) (q 0 ∷ []) (omega arith, tt));
    untils = λ p e at. by_three (λ p. (property_at counter_set p).length.until ≡ Some e → (meaning_of counter_set).largest e ≡ 0) (λ some. absurd cc) (λ some. absurd cc) (λ some. absurd cc) p at;
    domains = λ i name e there is. absurd (no_domains i name e there is);
    invariants = λ rule member. absurd (omega (arith, member.1));
  };
}
