-- The order of the bits is one.
use Rattle.std.proofs.Common.{◌≡◌, ◌≢◌, ℕ, zero, suc, ◌+◌, ◌<◌, ◌≤◌, ◌==◌, false, if◌then◌else◌, List, [], ◌∷◌, length, get_or, refl, sym, ap, ap₂, ◌∙◌, subst, arith, inl, inr, ◌⊎◌, Contains, sum_by, is_lt, nat_cmp, eq-eqb, ne_eqb, Ordering, Less, Equal, Greater}
use Rattle.std.specs.List.{All, flat_map}
use Rattle.std.specs.Ordering.{ordering_then, ordering_reverse}
use Rattle.std.specs.Cmp.{IsTotalOrder}
use Rattle.std.proofs.lemmas.Bool.{cases_eq}
use Rattle.std.proofs.lemmas.Cmp.{then_total, on_total, int_cmp_total, nat_cmp_total, nat_list_cmp_total, ranked}
use Rattle.std.proofs.lemmas.List.Elements.{All-nil, All-cons, All-head, All-tail, All-contains, All-contains_itself, All-weaker}
use Rattle.std.proofs.lemmas.List.Sums.{sum_by-cons}
use Rattle.std.proofs.lemmas.List.Sorted.{All-permutation, sum_by-IsPermutation, sorted_far, ranks_by}
use Rattle.word_dag.specs.declared.node.Node.{Node}
use Rattle.word_dag.specs.declared.node.Node.TheVariants.{Free, Const, Two, Not, Slice, Zext, Sext, Mux}
use Rattle.least_trace.specs.declared.words.Word.{Word}
use Rattle.least_trace.specs.declared.bits.Bit.{Bit}
use Rattle.least_trace.specs.Bits.{words_from, word_cmp, cycle_of, side_of, name_of, place_of, bits_of, InOrder}

pub word_cmp_total : IsTotalOrder word_cmp
word_cmp_total =
    then_total (then_total (then_total (on_total cycle_of int_cmp_total) (on_total side_of nat_cmp_total)) (on_total name_of nat_list_cmp_total)) (on_total place_of nat_cmp_total)

-- words that are neither less nor greater have one place
neither : (r s : Ordering) → r ≡ ordering_reverse s → is_lt r ≡ false → is_lt s ≡ false → r ≡ Equal
neither Equal s e a b = refl
neither Less s e a b = cc
neither Greater Less e a b = cc
neither Greater Equal e a b = cc
neither Greater Greater e a b = cc

last_equal : (o : Ordering) (m n : ℕ) → ordering_then o (nat_cmp m n) ≡ Equal → m ≡ n
last_equal Less m n e = cc
last_equal Equal m n e = ranked m n Equal (sym e)
last_equal Greater m n e = cc

one_place : (x y : Word) → is_lt (word_cmp x y) ≡ false → is_lt (word_cmp y x) ≡ false → x.place ≡ y.place
one_place x y a b = last_equal _ x.place y.place (neither (word_cmp x y) (word_cmp y x) (word_cmp_total.antisymm x y) a b)

-- whether a word has this place
abbrev here : ℕ → Word → ℕ
here k w = if w.place == k then 1 else 0

is_here : (k : ℕ) (w : Word) → w.place ≡ k → here k w ≡ 1
is_here k w e = ap (λ b. if b then 1 else 0) (eq-eqb w.place k e)

is_elsewhere : (k : ℕ) (w : Word) → w.place ≢ k → here k w ≡ 0
is_elsewhere k w ne = ap (λ b. if b then 1 else 0) (ne_eqb w.place k ne)

one_more : (k : ℕ) (w : Word) (ws : List Word) → sum_by (here k) (w ∷ ws) ≡ here k w + sum_by (here k) ws
one_more k w ws = sum_by-cons (here k) w ws

some_here : (w : Word) (ws : List Word) → 0 < sum_by (here w.place) (w ∷ ws)
some_here w ws = let one = is_here w.place w refl in let all = one_more w.place w ws in omega (arith, one, all)

found : (k : ℕ) (ys : List Word) → 0 < sum_by (here k) ys → (v : Word) × Contains ys v × (v.place ≡ k)
found k [] lt = absurd (omega arith)
found k (y ∷ ys) lt = elim (cases_eq y.place k) [
  | inl e ↦ (y, (0, omega arith, refl), e)
  | inr ne ↦
      let none = is_elsewhere k y ne in
      let rest : 0 < sum_by (here k) ys = omega (arith, lt, none, one_more k y ys) in
      let r = found k ys rest in
      let within : suc r.1.0 < suc (length ys) = omega (arith, r.1.1) in
      (r.0, (suc r.1.0, within, r.1.2), r.2)
]

-- no word is less than one before it
abbrev Far : List Word → Type 0
Far xs = (i j : ℕ) (d : Word) → i ≤ j → j < length xs → is_lt (word_cmp (get_or xs j d) (get_or xs i d)) ≡ false

far_tail : (x : Word) (xs : List Word) → Far (x ∷ xs) → Far xs
far_tail x xs far = λ i j d le lt. far (suc i) (suc j) d (omega (arith, le)) (omega (arith, lt))

head_first : (y : Word) (ys : List Word) (v : Word) → Far (y ∷ ys) → Contains (y ∷ ys) v → is_lt (word_cmp v y) ≡ false
head_first y ys v far h = subst (λ w. is_lt (word_cmp w y) ≡ false) h.2 (far 0 h.0 v (omega arith) h.1)

-- lists of words, of which each place has one
module _ (all : List Word) (one_each : (u v : Word) → Contains all u → Contains all v → u.place ≡ v.place → u ≡ v) where
  not_greater : (x y : Word) (ys : List Word) → Far (y ∷ ys) → All (Contains all) (y ∷ ys) → Contains all x → 0 < sum_by (here x.place) (y ∷ ys) → is_lt (word_cmp x y) ≡ false
  not_greater x y ys far known mine some =
      let f = found x.place (y ∷ ys) some in
      let same : f.0 ≡ x = one_each f.0 x (All-contains (Contains all) (y ∷ ys) f.0 known f.1) mine f.2 in
      subst (λ w. is_lt (word_cmp w y) ≡ false) same (head_first y ys f.0 far f.1)

  same_words : (xs ys : List Word) → Far xs → Far ys → All (Contains all) xs → All (Contains all) ys → ((k : ℕ) → sum_by (here k) xs ≡ sum_by (here k) ys) → xs ≡ ys
  same_words [] [] f g a b h = refl
  same_words [] (y ∷ ys) f g a b h = let none : 0 ≡ sum_by (here y.place) (y ∷ ys) = h y.place in absurd (omega (arith, none, some_here y ys))
  same_words (x ∷ xs) [] f g a b h = let none : sum_by (here x.place) (x ∷ xs) ≡ 0 = h x.place in absurd (omega (arith, none, some_here x xs))
  same_words (x ∷ xs) (y ∷ ys) f g a b h =
      let mine = All-head (Contains all) x xs a in
      let theirs = All-head (Contains all) y ys b in
      let first = not_greater x y ys g b mine (subst (λ n. 0 < n) (h x.place) (some_here x xs)) in
      let second = not_greater y x xs f a theirs (subst (λ n. 0 < n) (sym (h y.place)) (some_here y ys)) in
      let e : x ≡ y = one_each x y mine theirs (one_place x y first second) in
      let rest : (k : ℕ) → sum_by (here k) xs ≡ sum_by (here k) ys = λ k. (let s : here k x ≡ here k y = ap (here k) e in omega (arith, h k, s, one_more k x xs, one_more k y ys)) in
      ap₂ ◌∷◌ e (same_words xs ys (far_tail x xs f) (far_tail y ys g) (All-tail (Contains all) x xs a) (All-tail (Contains all) y ys b) rest)

-- places rise
places : (k : ℕ) (nodes : List Node) → All (λ (w : Word). k ≤ w.place) (words_from k nodes)
places k [] = All-nil (λ (w : Word). k ≤ w.place)
places k (Free name width side cycle ∷ nodes) =
    let w : Word = record { cycle = cycle; side = side; name = name; place = k; width = width } in
    All-cons (λ (w : Word). k ≤ w.place) w (words_from (suc k) nodes) (omega arith)
    (All-weaker (λ (w : Word). suc k ≤ w.place) (λ (w : Word). k ≤ w.place) (λ w le. omega (arith, le)) (words_from (suc k) nodes) (places (suc k) nodes))
places k (Const w ∷ nodes) = places k nodes
places k (Two op w x y ∷ nodes) = places k nodes
places k (Not w x ∷ nodes) = places k nodes
places k (Slice w x lo ∷ nodes) = places k nodes
places k (Zext w x ∷ nodes) = places k nodes
places k (Sext w x ∷ nodes) = places k nodes
places k (Mux w c x y ∷ nodes) = places k nodes

cons_at : (x : Word) (xs : List Word) (u : Word) (k : ℕ) → k < suc (length xs) → get_or (x ∷ xs) k u ≡ u → (x ≡ u) ⊎ Contains xs u
cons_at x xs u zero lt e = inl e
cons_at x xs u (suc k) lt e = inr (k, omega arith, e)

one_each_place : (k : ℕ) (nodes : List Node) (u v : Word) → Contains (words_from k nodes) u → Contains (words_from k nodes) v → u.place ≡ v.place → u ≡ v
one_each_place k [] u v a b e = absurd (omega (arith, a.1))
one_each_place k (Free name width side cycle ∷ nodes) u v a b e =
    let w : Word = record { cycle = cycle; side = side; name = name; place = k; width = width } in
    let rest = words_from (suc k) nodes in
    let later = λ (x : Word) (c : Contains rest x). All-contains (λ (z : Word). suc k ≤ z.place) rest x (places (suc k) nodes) c in
    elim (cons_at w rest u a.0 a.1 a.2) [
      | inl p ↦ elim (cons_at w rest v b.0 b.1 b.2) [
        | inl q ↦ sym p ∙ q
        | inr q ↦ let at : k ≡ u.place = ap place_of p in absurd (omega (arith, at, e, later v q))
      ]
      | inr p ↦ elim (cons_at w rest v b.0 b.1 b.2) [
        | inl q ↦ let at : k ≡ v.place = ap place_of q in absurd (omega (arith, at, e, later u p))
        | inr q ↦ one_each_place (suc k) nodes u v p q e
      ]
    ]
one_each_place k (Const w ∷ nodes) u v a b e = one_each_place k nodes u v a b e
one_each_place k (Two op w x y ∷ nodes) u v a b e = one_each_place k nodes u v a b e
one_each_place k (Not w x ∷ nodes) u v a b e = one_each_place k nodes u v a b e
one_each_place k (Slice w x lo ∷ nodes) u v a b e = one_each_place k nodes u v a b e
one_each_place k (Zext w x ∷ nodes) u v a b e = one_each_place k nodes u v a b e
one_each_place k (Sext w x ∷ nodes) u v a b e = one_each_place k nodes u v a b e
one_each_place k (Mux w c x y ∷ nodes) u v a b e = one_each_place k nodes u v a b e

pub one_order : (nodes : List Node) (xs ys : List Bit) → InOrder nodes xs → InOrder nodes ys → xs ≡ ys
one_order nodes xs ys a b =
    let all = words_from 0 nodes in
    let order = ranks_by word_cmp_total (λ (w : Word). w) in
    let known = All-contains_itself all in
    let words : a.words ≡ b.words = same_words all (one_each_place 0 nodes) a.words b.words
    (sorted_far (λ x y. is_lt (word_cmp x y)) order a.words a.sorted) (sorted_far (λ x y. is_lt (word_cmp x y)) order b.words b.sorted)
    (All-permutation (Contains all) all a.words a.all known) (All-permutation (Contains all) all b.words b.all known)
    (λ k. sum_by-IsPermutation (here k) all a.words a.all ∙ sym (sum_by-IsPermutation (here k) all b.words b.all))
    in
    a.are ∙ ap (flat_map bits_of) words ∙ sym b.are
