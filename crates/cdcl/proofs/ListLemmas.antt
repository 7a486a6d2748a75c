use Rattle.std.proofs.Common.{◌≡◌, ◌≢◌, ◌<◌, ◌≤◌, ◌+◌, ◌-◌, ◌*◌, ℕ, Bool, true, false, cond, List, [], ◌∷◌, ◌++◌, take, set, get_or, length, length-set, length-take, arith, sym, ◌∙◌, ap, subst, refl, inl, inr, ◌⊎◌, Vec, Global, get_or-set_same, get_or-set_other}
use Rattle.std.specs.List.{swap_remove}
use Rattle.std.proofs.lemmas.Bool.{cases_lt, cases_eq}
use Rattle.std.proofs.lemmas.List.{get_or_default, get_or-map, map-set, get_or-take, get_or_push, get_or_append_left, length_push, length-map, get_or_past}
use Rattle.clause_check.specs.declared.literal.Lit.{Lit}
use Rattle.cdcl.specs.Lists.{code, IsRoomFor, list_at, lists_of, IsWaiting, IsBelow}

abbrev items_of : Vec ℕ Global → List ℕ
items_of v = v.items

-- the view after a list is replaced
pub set_is : (xs : List (Vec ℕ Global)) (lists : List (List ℕ)) (lit : Lit) (i : ℕ) (new : Vec ℕ Global) (ns : List ℕ) → lists_of xs ≡ lists → i ≡ code lit → new.items ≡ ns → lists_of (set xs i new) ≡ set lists (code lit) ns
set_is xs lists lit i new ns view at is =
    map-set items_of xs i new ∙ (ap (λ ls. set ls i new.items) view ∙ (ap (λ k. set lists k new.items) at ∙ ap (λ n. set lists (code lit) n) is))

-- the list that the view has
pub at_is : (xs : List (Vec ℕ Global)) (lists : List (List ℕ)) (lit : Lit) (i : ℕ) (old : Vec ℕ Global) → lists_of xs ≡ lists → i ≡ code lit → IsRoomFor lists lit → old ≡ get_or xs i old → old.items ≡ list_at lists lit
at_is xs lists lit i old view at room is =
    let len : length (lists_of xs) ≡ length lists = ap length view in
    let lt : i < length xs = omega (arith, len, length-map xs items_of) in
    ap items_of is ∙ (sym (get_or-map items_of xs i old [] lt) ∙ (ap (λ ls. get_or ls i []) view ∙ ap (λ k. get_or lists k []) at))

pub swap_remove_default : (xs : List ℕ) (i d e : ℕ) → i < length xs → swap_remove xs i d ≡ swap_remove xs i e
swap_remove_default xs i d e lt = ap (λ x. take (length xs - 1) (set xs i x)) (get_or_default xs (length xs - 1) d e (omega arith))

pub room_still : (lists : List (List ℕ)) (l m : Lit) (ns : List ℕ) → IsRoomFor lists m → IsRoomFor (set lists (code l) ns) m
room_still lists l m ns h = omega (arith, length-set lists (code l) ns)

odd_even : (a b : ℕ) → 2 * a + 1 ≡ 2 * b → ⊥
odd_even a b e = omega arith

codes_differ : (a b : ℕ) (n m : Bool) → cond n (2 * a + 1) (2 * a) ≡ cond m (2 * b + 1) (2 * b) → (a ≡ b) × (n ≡ m)
codes_differ a b true true e = (omega arith, refl)
codes_differ a b true false e = absurd (odd_even a b e)
codes_differ a b false true e = absurd (odd_even b a (sym e))
codes_differ a b false false e = (omega arith, refl)

-- literals of one code are the same
pub code_inj : (l m : Lit) → code l ≡ code m → l ≡ m
code_inj l m e =
    let both = codes_differ l.var m.var l.negative m.negative e in
    ap (λ v. record { var = v; negative = l.negative }) both.0 ∙ ap (λ n. record { var = m.var; negative = n }) both.1

pub cases_lit : (l m : Lit) → (l ≡ m) ⊎ (l ≢ m)
cases_lit l m = elim (cases_eq (code l) (code m)) [ inl e ↦ inl (code_inj l m e) | inr ne ↦ inr (λ e. ne (ap code e)) ]

-- the literal's own list, and another's, after a change
pub list_same : (lists : List (List ℕ)) (l : Lit) (ns : List ℕ) → IsRoomFor lists l → list_at (set lists (code l) ns) l ≡ ns
list_same lists l ns room = get_or-set_same lists (code l) ns [] room

pub list_other : (lists : List (List ℕ)) (l m : Lit) (ns : List ℕ) → m ≢ l → list_at (set lists (code l) ns) m ≡ list_at lists m
list_other lists l m ns ne = get_or-set_other lists (code l) (code m) ns [] (λ e. ne (code_inj m l e))

-- the number stands in the list from i on
pub waiting_step : (list : List ℕ) (i k : ℕ) → IsWaiting list i k → (get_or list i 0 ≡ k) ⊎ IsWaiting list (i + 1) k
waiting_step list i k h = elim (cases_eq i h.0) [
  | inl e ↦ inl (ap (λ j. get_or list j 0) e ∙ h.3)
  | inr ne ↦ let le = h.1 in inr (h.0, omega arith, h.2, h.3)
]

pub waiting_pushed : (list : List ℕ) (i k n : ℕ) → IsWaiting list i k → IsWaiting (list ++ n ∷ []) i k
waiting_pushed list i k n h = let lt = h.2 in (h.0, h.1, omega (arith, length_push list n), get_or_append_left list (n ∷ []) 0 h.0 h.2 ∙ h.3)

pub waiting_last : (list : List ℕ) (n : ℕ) → IsWaiting (list ++ n ∷ []) 0 n
waiting_last list n = (length list, omega arith, omega (arith, length_push list n), get_or_push list n 0 (length list) refl)

-- the last one comes to the place of the one that goes
pub waiting_removed : (list : List ℕ) (a i k : ℕ) → a ≤ i → i < length list → get_or list i 0 ≢ k → IsWaiting list a k → IsWaiting (swap_remove list i 0) a k
waiting_removed list a i k ai lt ne h =
    let last = length list - 1 in
    let x = get_or list last 0 in
    let len : length (set list i x) ≡ length list = length-set list i x in
    let le = h.1 in let inside = h.2 in
    let other : i ≢ h.0 = λ e. ne (ap (λ j. get_or list j 0) e ∙ h.3) in
    elim (cases_eq h.0 last) [
      | inl e ↦
          let early : i < last = elim (cases_eq i last) [ inl f ↦ absurd (other (f ∙ sym e)) | inr f ↦ omega arith ] in (
            i,
            ai,
            omega (arith, length-take last (set list i x)),
            get_or-take last (set list i x) i 0 early ∙ (get_or-set_same list i x 0 lt ∙ (ap (λ j. get_or list j 0) (sym e) ∙ h.3)),
          )
      | inr f ↦
          let early : h.0 < last = omega arith in
          (h.0, le, omega (arith, length-take last (set list i x)), get_or-take last (set list i x) h.0 0 early ∙ (get_or-set_other list i h.0 x 0 (λ e. other (sym e)) ∙ h.3))
    ]

-- each number of the list is below the bound
pub below_pushed : (list : List ℕ) (b n : ℕ) → n < b → IsBelow b list → IsBelow b (list ++ n ∷ [])
below_pushed list b n lt h j inside = elim (cases_eq j (length list)) [
  | inl e ↦ subst (λ x. x < b) (sym (get_or_push list n 0 j (sym e))) lt
  | inr ne ↦
      let early : j < length list = omega (arith, length_push list n) in
      subst (λ x. x < b) (sym (get_or_append_left list (n ∷ []) 0 j early)) (h j early)
]

pub below_removed : (list : List ℕ) (b i : ℕ) → i < length list → IsBelow b list → IsBelow b (swap_remove list i 0)
below_removed list b i lt h j inside =
    let last = length list - 1 in
    let x = get_or list last 0 in
    let len : length (set list i x) ≡ length list = length-set list i x in
    let early : j < last = omega (arith, length-take last (set list i x)) in
    elim (cases_eq j i) [
      | inl e ↦ subst (λ y. y < b) (sym (get_or-take last (set list i x) j 0 early ∙ (ap (λ k. get_or (set list i x) k 0) e ∙ get_or-set_same list i x 0 lt))) (h last (omega arith))
      | inr ne ↦ subst (λ y. y < b) (sym (get_or-take last (set list i x) j 0 early ∙ get_or-set_other list i j x 0 ne)) (h j (omega arith))
    ]

-- a change of one list, seen from any literal's
pub list_after : (P : List ℕ → Type 0) (lists : List (List ℕ)) (l m : Lit) (ns : List ℕ) → IsRoomFor lists l → (m ≡ l → P ns) → (m ≢ l → P (list_at lists m)) → P (list_at (set lists (code l) ns) m)
list_after P lists l m ns room same other = elim (cases_lit m l) [
  | inl e ↦ subst (λ k. P (list_at (set lists (code l) ns) k)) (sym e) (subst P (sym (list_same lists l ns room)) (same e))
  | inr ne ↦ subst P (sym (list_other lists l m ns ne)) (other ne)
]

-- where each list is empty
pub view_empty : (xs : List (Vec ℕ Global)) → ((k : ℕ) (d : Vec ℕ Global) → k < length xs → length (get_or xs k d).items ≡ 0) → (l : Lit) → length (list_at (lists_of xs) l) ≡ 0
view_empty [] h l = refl
view_empty (x ∷ xs) h l = elim (cases_lt (code l) (length (x ∷ xs))) [
  | inl lt ↦ ap length (get_or-map items_of (x ∷ xs) (code l) x [] lt) ∙ h (code l) x lt
  | inr ge ↦ ap length (get_or_past (lists_of (x ∷ xs)) (code l) [] (omega (arith, length-map (x ∷ xs) items_of)))
]

pub below_set : (list : List ℕ) (b i n : ℕ) → n < b → IsBelow b list → IsBelow b (set list i n)
below_set list b i n lt h j inside = elim (cases_eq j i) [
  | inl e ↦ subst (λ x. x < b) (sym (ap (λ k. get_or (set list i n) k 0) e ∙ get_or-set_same list i n 0 (omega (arith, length-set list i n)))) lt
  | inr ne ↦ subst (λ x. x < b) (sym (get_or-set_other list i j n 0 ne)) (h j (omega (arith, length-set list i n)))
]
