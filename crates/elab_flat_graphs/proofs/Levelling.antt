-- Levels of the vertices of a graph, and orders by them.
use Rattle.std.proofs.Common.{arith, ◌≡◌, ◌≢◌, ℕ, zero, suc, ◌+◌, ◌<◌, ◌≤◌, true, false, List, [], ◌∷◌, length, length-set, set, get_or, replicate, refl, sym, ap, ◌∙◌, subst, ◌⊎◌, inl, inr, ⊎_elim, nat_eq, nat_lt, get_or-set_same, get_or-set_other}
use Rattle.std.specs.Prelude.{slice_index}
use Rattle.std.specs.Ordering.{nat_cmp, ord_max}
use Rattle.std.specs.List.Sorted.{IsPermutation, IsNonDecreasingBy}
use Rattle.std.proofs.lemmas.Bool.{ltb-true, ltb-false, eqb-true, eq-eqb}
use Rattle.std.proofs.lemmas.List.{length-replicate}
use Rattle.std.proofs.lemmas.List.Sorted.{Contains-permutation, IsPermutation-sym}
use Rattle.std.proofs.lemmas.Map.Keys.{IsDistinct-IsPermutation, IsDistinct-from_apart, apart_from_distinct}
use Rattle.elab_flat_graphs.specs.Graphs.{Among, AreDistinct, AreAfter, IsOrder, IsLevel, AreLevels, StandBy, successors}
use Rattle.elab_flat_graphs.proofs.Searching.{same_or, differ, bool_cases, among_item, item_among}

-- ---- one level

pub stand_by : (levels keys : List ℕ) (v w : ℕ) → slice_index levels v ≤ slice_index levels w → (slice_index levels v ≡ slice_index levels w → slice_index keys v ≤ slice_index keys w) → StandBy levels keys v w
stand_by levels keys v w l h = ⊎_elim (λ e. inr (e, h e)) (λ n. inl (omega (arith, l, n))) (same_or (slice_index levels v) (slice_index levels w))

-- the higher of two numbers
pub highest : (a b : ℕ) → (a ≤ ord_max nat_cmp a b) × (b ≤ ord_max nat_cmp a b) × ((ord_max nat_cmp a b ≡ a) ⊎ (ord_max nat_cmp a b ≡ b))
highest a b = ⊎_elim below not_below (bool_cases (nat_lt b a))
  where
    below : nat_lt b a ≡ true → (a ≤ ord_max nat_cmp a b) × (b ≤ ord_max nat_cmp a b) × ((ord_max nat_cmp a b ≡ a) ⊎ (ord_max nat_cmp a b ≡ b))
    below h = let l = ltb-true b a h in rw h (omega arith, omega (arith, l), inl refl)

    not_below : nat_lt b a ≡ false → (a ≤ ord_max nat_cmp a b) × (b ≤ ord_max nat_cmp a b) × ((ord_max nat_cmp a b ≡ a) ⊎ (ord_max nat_cmp a b ≡ b))
    not_below h = let l = ltb-false b a h in rw h (⊎_elim (λ (e : nat_eq b a ≡ true). rw e (omega (arith, l), omega arith, inr refl)) (λ (e : nat_eq b a ≡ false). rw e (omega (arith, l), omega arith, inr refl)) (bool_cases (nat_eq b a)))

-- the highest level so far and that of one more vertex
pub still_above : (levels vertices : List ℕ) (i level next : ℕ) → i < length vertices
    → ((k : ℕ) → k < i → slice_index levels (slice_index vertices k) < level)
    → (level ≡ 0) ⊎ ((w : ℕ) × Among vertices w × (level ≡ slice_index levels w + 1))
    → level ≤ next → slice_index levels (slice_index vertices i) + 1 ≤ next → (next ≡ level) ⊎ (next ≡ slice_index levels (slice_index vertices i) + 1)
    → ((k : ℕ) → k < i + 1 → slice_index levels (slice_index vertices k) < next) × ((next ≡ 0) ⊎ ((w : ℕ) × Among vertices w × (next ≡ slice_index levels w + 1)))
still_above levels vertices i level next l above one m n top =
    (each, ⊎_elim (λ e. ⊎_elim (λ z. inl (e ∙ z)) (λ w. inr (w.0, w.1, e ∙ w.2)) one) (λ e. inr (slice_index vertices i, item_among vertices i 0 l, e)) top)
  where
    each : (k : ℕ) → k < i + 1 → slice_index levels (slice_index vertices k) < next
    each k b =
        ⊎_elim (λ (e : k ≡ i). subst (λ z. slice_index levels (slice_index vertices z) < next) (sym e) (omega (arith, n))) (λ o. let a = above k (omega (arith, b, o)) in omega (arith, a, m)) (same_or k i)

-- ---- places in orders

pub apart_places : (xs : List ℕ) (i j : ℕ) → AreDistinct xs → i < j → j < length xs → slice_index xs i ≢ slice_index xs j
apart_places [] i j d b l = absurd (omega (arith, l))
apart_places (x ∷ xs) zero zero d b l = absurd (omega (arith, b))
apart_places (x ∷ xs) zero (suc j) d b l = λ e. d.0 (subst (λ z. Among xs z) (sym e) (item_among xs j 0 (omega (arith, l))))
apart_places (x ∷ xs) (suc i) zero d b l = absurd (omega (arith, b))
apart_places (x ∷ xs) (suc i) (suc j) d b l = apart_places xs i j d.1 (omega (arith, b)) (omega (arith, l))

pub same_place : (xs : List ℕ) (i j : ℕ) → AreDistinct xs → i < length xs → j < length xs → slice_index xs i ≡ slice_index xs j → i ≡ j
same_place xs i j d l m e = ⊎_elim (λ h. h) other (same_or i j)
  where
    other : i ≢ j → i ≡ j
    other n = ⊎_elim (λ (t : nat_lt i j ≡ true). absurd (apart_places xs i j d (ltb-true i j t) m e)) (λ (t : nat_lt i j ≡ false). let k = ltb-false i j t in absurd (apart_places xs j i d (omega (arith, k, n)) l (sym e))) (bool_cases (nat_lt i j))

-- the successors of a vertex of an order stand before it
pub place_before : (g : List (List ℕ)) (earlier vs : List ℕ) (j w : ℕ) → AreAfter g earlier vs → j < length vs → Among (successors g (slice_index vs j)) w → Among earlier w ⊎ ((k : ℕ) × (k < j) × (slice_index vs k ≡ w))
place_before g earlier [] j w a l s = absurd (omega (arith, l))
place_before g earlier (v ∷ vs) zero w a l s = inl (a.0 w s)
place_before g earlier (v ∷ vs) (suc j) w a l s =
    ⊎_elim (λ m. ⊎_elim (λ (e : v ≡ w). inr (0, omega arith, e)) (λ n. inl n) m) (λ h. let b = h.1 in inr (suc h.0, omega (arith, b), h.2)) (place_before g (v ∷ earlier) vs j w a.1 (omega (arith, l)) s)

-- and where they do, it is an order
pub stand_after : (g : List (List ℕ)) (earlier vs : List ℕ) → ((j w : ℕ) → j < length vs → Among (successors g (slice_index vs j)) w → Among earlier w ⊎ ((k : ℕ) × (k < j) × (slice_index vs k ≡ w))) → AreAfter g earlier vs
stand_after g earlier [] h = tt
stand_after g earlier (v ∷ vs) h =
    (λ w s. ⊎_elim (λ m. m) (λ k. let b = k.1 in absurd (omega (arith, b))) (h 0 w (omega arith) s), stand_after g (v ∷ earlier) vs later)
  where
    later : (j w : ℕ) → j < length vs → Among (successors g (slice_index vs j)) w → Among (v ∷ earlier) w ⊎ ((k : ℕ) × (k < j) × (slice_index vs k ≡ w))
    later j w l s = ⊎_elim (λ m. inl (inr m)) (λ k. at k.0 k.1 k.2) (h (suc j) w (omega (arith, l)) s)
      where
        at : (k : ℕ) → k < suc j → slice_index (v ∷ vs) k ≡ w → Among (v ∷ earlier) w ⊎ ((k : ℕ) × (k < j) × (slice_index vs k ≡ w))
        at zero b e = inl (inl e)
        at (suc k) b e = inr (k, omega (arith, b), e)

pub first_before : (g : List (List ℕ)) (vs : List ℕ) (j w : ℕ) → AreAfter g [] vs → j < length vs → Among (successors g (slice_index vs j)) w → (k : ℕ) × (k < j) × (slice_index vs k ≡ w)
first_before g vs j w a l s = ⊎_elim (λ n. absurd n) (λ k. k) (place_before g [] vs j w a l s)

-- ---- levels, one vertex after another

-- the first vertices of an order have their levels, none of which is over their count
pub record AreLevelsOf (g : List (List ℕ)) (order levels : List ℕ) (n : ℕ) : Type 0 where
  pub long : length levels ≡ length g
  pub known : (j : ℕ) → j < n → IsLevel g levels (slice_index order j)
  pub low : (v : ℕ) → slice_index levels v ≤ n

none : (n v : ℕ) → slice_index (replicate n 0) v ≡ 0
none zero v = refl
none (suc n) zero = refl
none (suc n) (suc v) = none n v

pub no_levels : (g : List (List ℕ)) (order levels : List ℕ) → levels ≡ replicate (length g) 0 → AreLevelsOf g order levels 0
no_levels g order levels e = record {
  long = ap length e ∙ length-replicate (length g) 0;
  known = λ j l. absurd (omega (arith, l));
  low = λ v. let z : slice_index levels v ≡ 0 = ap (λ z. slice_index z v) e ∙ none (length g) v in omega (arith, z);
}

-- the level of one vertex changes neither those of others nor what they stand on
kept_level : (g : List (List ℕ)) (levels : List ℕ) (u v level : ℕ) → v ≢ u → ((w : ℕ) → Among (successors g v) w → w ≢ u) → IsLevel g levels v → IsLevel g (set levels u level) v
kept_level g levels u v level n apart h = (
  λ w s. subst (λ z. z < slice_index (set levels u level) v) (sym (other w (apart w s))) (subst (λ z. slice_index levels w < z) (sym (other v n)) (h.0 w s)),
  ⊎_elim (λ e. inl (other v n ∙ e)) (λ w. inr (w.0, w.1, other v n ∙ w.2 ∙ ap (λ z. z + 1) (sym (other w.0 (apart w.0 w.1))))) h.1,
)
  where
    other : (w : ℕ) → w ≢ u → slice_index (set levels u level) w ≡ slice_index levels w
    other w o = get_or-set_other levels u w level 0 o

-- the level of a vertex stands above those of its successors
new_level : (g : List (List ℕ)) (levels : List ℕ) (v level : ℕ) → v < length levels → ((w : ℕ) → Among (successors g v) w → w ≢ v)
    → ((w : ℕ) → Among (successors g v) w → slice_index levels w < level)
    → (level ≡ 0) ⊎ ((w : ℕ) × Among (successors g v) w × (level ≡ slice_index levels w + 1))
    → IsLevel g (set levels v level) v
new_level g levels v level l apart above one = (
  λ w s. subst (λ z. z < slice_index (set levels v level) v) (sym (other w (apart w s))) (subst (λ z. slice_index levels w < z) (sym here) (above w s)),
  ⊎_elim (λ e. inl (here ∙ e)) (λ w. inr (w.0, w.1, here ∙ w.2 ∙ ap (λ z. z + 1) (sym (other w.0 (apart w.0 w.1))))) one,
)
  where
    here : slice_index (set levels v level) v ≡ level
    here = get_or-set_same levels v level 0 l

    other : (w : ℕ) → w ≢ v → slice_index (set levels v level) w ≡ slice_index levels w
    other w o = get_or-set_other levels v w level 0 o

pub next_level : (g : List (List ℕ)) (order levels : List ℕ) (i level : ℕ) → IsOrder g order → AreLevelsOf g order levels i → i < length order
    → ((w : ℕ) → Among (successors g (slice_index order i)) w → slice_index levels w < level)
    → (level ≡ 0) ⊎ ((w : ℕ) × Among (successors g (slice_index order i)) w × (level ≡ slice_index levels w + 1))
    → AreLevelsOf g order (set levels (slice_index order i) level) (i + 1)
next_level g order levels i level o h l above one = record {
  long = length-set levels v level ∙ h.long;
  known = λ j b. ⊎_elim (λ (e : j ≡ i). subst (λ z. IsLevel g (set levels v level) (slice_index order z)) (sym e) (new_level g levels v level within (apart i l (omega arith)) above one))
      (λ n. kept_level g levels v (slice_index order j) level (apart_places order j i o.once (omega (arith, b, n)) l) (apart j (omega (arith, b, n, l)) (omega (arith, b, n))) (h.known j (omega (arith, b, n)))) (same_or j i);
  low = λ w. ⊎_elim (λ (e : w ≡ v). subst (λ z. slice_index (set levels v level) z ≤ i + 1) (sym e) (subst (λ z. z ≤ i + 1) (sym (get_or-set_same levels v level 0 within)) not_over))
      (λ n. subst (λ z. z ≤ i + 1) (sym (get_or-set_other levels v w level 0 n)) (let b = h.low w in omega (arith, b))) (same_or w v);
}
  where
    v : ℕ
    v = slice_index order i

    within : v < length levels
    within = let a = o.vertices v (item_among order i 0 l) in let e = h.long in omega (arith, a, e)

    not_over : level ≤ i + 1
    not_over = ⊎_elim (λ e. omega (arith, e)) (λ w. let e = w.2 in let b = h.low w.0 in omega (arith, e, b)) one

    -- what a vertex that isn't later depends on isn't this vertex
    apart : (j : ℕ) → j < length order → j ≤ i → (w : ℕ) → Among (successors g (slice_index order j)) w → w ≢ v
    apart j b c w s e =
        let k = first_before g order j w o.after b s in
        let d = k.1 in
        apart_places order k.0 i o.once (omega (arith, d, c)) l (k.2 ∙ e)

pub all_levels : (g : List (List ℕ)) (order levels : List ℕ) (n : ℕ) → IsOrder g order → AreLevelsOf g order levels n → length order ≤ n → AreLevels g levels
all_levels g order levels n o h l v b =
    let i = among_item order v (o.each v b) in
    let k = i.1 in
    subst (λ z. IsLevel g levels z) i.2 (h.known i.0 (omega (arith, k, l)))

-- ---- orders by levels

distinct_from : (xs : List ℕ) → ((i j : ℕ) → i < j → j < length xs → slice_index xs i ≢ slice_index xs j) → AreDistinct xs
distinct_from [] h = tt
distinct_from (x ∷ xs) h =
    (λ m. let i = among_item xs x m in let l = i.1 in h 0 (suc i.0) (omega arith) (omega (arith, l)) (sym i.2), distinct_from xs (λ i j b l. h (suc i) (suc j) (omega (arith, b)) (omega (arith, l))))

permuted : (xs ys : List ℕ) (x : ℕ) → IsPermutation xs ys → Among xs x → Among ys x
permuted xs ys x p m =
    let i = among_item xs x m in
    let r = Contains-permutation xs ys x p (i.0, i.1, get_same xs i.0 x i.1 i.2) in
    subst (λ z. Among ys z) r.2 (item_among ys r.0 x r.1)
  where
    get_same : (xs : List ℕ) (i x : ℕ) → i < length xs → get_or xs i 0 ≡ x → get_or xs i x ≡ x
    get_same [] i x l e = absurd (omega (arith, l))
    get_same (y ∷ xs) zero x l e = e
    get_same (y ∷ xs) (suc i) x l e = get_same xs i x (omega (arith, l)) e

unequal : (x y : ℕ) → x ≢ y → nat_eq x y ≡ false
unequal x y n = ⊎_elim (λ (e : nat_eq x y ≡ true). absurd (n (eqb-true x y e))) (λ e. e) (bool_cases (nat_eq x y))

flips : (x y : ℕ) → nat_eq x y ≡ nat_eq y x
flips x y = ⊎_elim (λ (e : x ≡ y). eq-eqb x y e ∙ sym (eq-eqb y x (sym e))) (λ n. unequal x y n ∙ sym (unequal y x (λ e. n (sym e)))) (same_or x y)

pub still_distinct : (xs ys : List ℕ) → IsPermutation xs ys → AreDistinct xs → AreDistinct ys
still_distinct xs ys p d =
    let before = IsDistinct-from_apart nat_eq xs (λ i j e b l. unequal _ _ (at_default i j e b l)) in
    let after = IsDistinct-IsPermutation nat_eq flips xs ys p before in
    distinct_from ys (λ i j b l e. differ (apart_from_distinct nat_eq ys i j 0 after b l) (eq-eqb _ _ e))
  where
    default : (zs : List ℕ) (i e : ℕ) → i < length zs → get_or zs i e ≡ slice_index zs i
    default [] i e l = absurd (omega (arith, l))
    default (z ∷ zs) zero e l = refl
    default (z ∷ zs) (suc i) e l = default zs i e (omega (arith, l))

    at_default : (i j e : ℕ) → i < j → j < length xs → get_or xs i e ≢ get_or xs j e
    at_default i j e b l q = apart_places xs i j d b l (sym (default xs i e (omega (arith, b, l))) ∙ q ∙ default xs j e l)

-- where the levels don't fall, each vertex stands after its successors
pub moved_order : (g : List (List ℕ)) (order moved levels : List ℕ) → IsOrder g order → AreLevels g levels → IsPermutation order moved → IsNonDecreasingBy (λ v. slice_index levels v) moved → IsOrder g moved
moved_order g order moved levels o h p rises = record {
  vertices = λ v m. o.vertices v (permuted moved order v (IsPermutation-sym order moved p) m);
  each = each;
  once = once;
  after = stand_after g [] moved (λ j w l s. inr (before j w l s));
}
  where
    each : (v : ℕ) → v < length g → Among moved v
    each v l = permuted order moved v p (o.each v l)

    once : AreDistinct moved
    once = still_distinct order moved p o.once

    vertex : (j : ℕ) → j < length moved → slice_index moved j < length g
    vertex j l = o.vertices _ (permuted moved order _ (IsPermutation-sym order moved p) (item_among moved j 0 l))

    before : (j w : ℕ) → j < length moved → Among (successors g (slice_index moved j)) w → (k : ℕ) × (k < j) × (slice_index moved k ≡ w)
    before j w l s = ⊎_elim (λ (t : nat_lt i.0 j ≡ true). (i.0, ltb-true i.0 j t, i.2)) (λ (t : nat_lt i.0 j ≡ false). absurd (falls (ltb-false i.0 j t))) (bool_cases (nat_lt i.0 j))
      where
        lower : slice_index levels w < slice_index levels (slice_index moved j)
        lower = (h (slice_index moved j) (vertex j l)).0 w s

        i : (i : ℕ) × (i < length moved) × (get_or moved i 0 ≡ w)
        i = among_item moved w (permuted order moved w p old)
          where
            old : Among order w
            old =
                let q = among_item order (slice_index moved j) (o.each _ (vertex j l)) in
                let k = first_before g order q.0 w o.after q.1 (subst (λ z. Among (successors g z) w) (sym q.2) s) in
                let b = k.1 in
                let c = q.1 in
                subst (λ z. Among order z) k.2 (item_among order k.0 0 (omega (arith, b, c)))

        falls : j ≤ i.0 → ⊥
        falls b = let r = rises j i.0 0 b i.1 in let r2 = subst (λ z. slice_index levels (slice_index moved j) ≤ slice_index levels z) i.2 r in let m = lower in omega (arith, r2, m)
