-- Rows of two names of one bit, and what formulas over them say.
use Rattle.std.proofs.Common.{◌≡◌, ℕ, zero, suc, ◌<◌, Bool, cond, Some, None, true, false, not, nat_eq, ◌&&◌, ◌||◌, ◌⊎◌, inl, inr, List, [], ◌∷◌, length, refl, sym, ◌∙◌, ap, subst, arith, codes}
use Rattle.std.proofs.lemmas.Bool.{eqb-true}
use Rattle.std.specs.List.{All}
use Rattle.vlog_tree.specs.Value.{bit}
use Rattle.set_tree.specs.declared.set.Role.TheVariants.{Output, State}
use Rattle.set_tree.specs.Meaning.{Row}
use Rattle.set_tree.specs.Traces.{IsRow}
use Rattle.set_tree_completeness.specs.Needed.{bits}
use Rattle.set_tree_completeness.specs.Terms.{declared}
use Rattle.set_tree_completeness.proofs.Free.{row_of_two}

row_of_bits : (row : Row) → IsRow bits row → (a b : ℕ) × (row ≡ a ∷ b ∷ [])
row_of_bits = row_of_two (declared (codes "o") Output 1) (declared (codes "s") State 1)

one_row : (rows : List Row) → All (IsRow bits) rows → length rows ≡ 1 → (a b : ℕ) × (rows ≡ (a ∷ b ∷ []) ∷ [])
one_row [] trace size = absurd (omega arith)
one_row (x ∷ []) trace size = let r = row_of_bits x (trace 0 x (omega arith)) in (r.0, r.1, ap (λ (row : Row). row ∷ []) r.2)
one_row (x ∷ y ∷ rows) trace size = absurd (omega arith)

pair_up : (x y x' y' : Row) → x ≡ x' → y ≡ y' → x ∷ y ∷ [] ≡ x' ∷ y' ∷ []
pair_up x y x' y' p q = cc

three_up : (x y z x' y' z' : Row) → x ≡ x' → y ≡ y' → z ≡ z' → x ∷ y ∷ z ∷ [] ≡ x' ∷ y' ∷ z' ∷ []
three_up x y z x' y' z' p q r = cc

two_rows : (rows : List Row) → All (IsRow bits) rows → length rows ≡ 2 → (a b c d : ℕ) × (rows ≡ (a ∷ b ∷ []) ∷ (c ∷ d ∷ []) ∷ [])
two_rows [] trace size = absurd (omega arith)
two_rows (x ∷ []) trace size = absurd (omega arith)
two_rows (x ∷ y ∷ []) trace size =
    let r = row_of_bits x (trace 0 x (omega arith)) in
    let t = row_of_bits y (trace 1 y (omega arith)) in
    (r.0, r.1, t.0, t.1, pair_up _ _ _ _ r.2 t.2)
two_rows (x ∷ y ∷ z ∷ rows) trace size = absurd (omega arith)

three_rows : (rows : List Row) → All (IsRow bits) rows → length rows ≡ 3 → (a b c d e f : ℕ) × (rows ≡ (a ∷ b ∷ []) ∷ (c ∷ d ∷ []) ∷ (e ∷ f ∷ []) ∷ [])
three_rows [] trace size = absurd (omega arith)
three_rows (x ∷ []) trace size = absurd (omega arith)
three_rows (x ∷ y ∷ []) trace size = absurd (omega arith)
three_rows (x ∷ y ∷ z ∷ []) trace size =
    let r = row_of_bits x (trace 0 x (omega arith)) in
    let t = row_of_bits y (trace 1 y (omega arith)) in
    let u = row_of_bits z (trace 2 z (omega arith)) in
    (r.0, r.1, t.0, t.1, u.0, u.1, three_up _ _ _ _ _ _ r.2 t.2 u.2)
three_rows (x ∷ y ∷ z ∷ w ∷ rows) trace size = absurd (omega arith)

-- what holds of each two rows, or of each two windows of two or three rows, taken apart

pub on_one : (F : List Row → List Row → Type 0) → ((a b a' b' : ℕ) → F ((a ∷ b ∷ []) ∷ []) ((a' ∷ b' ∷ []) ∷ [])) → (xs ys : List Row) → All (IsRow bits) xs → length xs ≡ 1 → All (IsRow bits) ys → length ys ≡ 1 → F xs ys
on_one F each xs ys trace_x size_x trace_y size_y =
    let x = one_row xs trace_x size_x in
    let y = one_row ys trace_y size_y in
    subst (λ (rows : List Row). F rows ys) (sym x.2) (subst (λ (rows : List Row). F ((x.0 ∷ x.1 ∷ []) ∷ []) rows) (sym y.2) (each x.0 x.1 y.0 y.1))

pub on_two : (F : List Row → List Row → Type 0) → ((a b c d a' b' c' d' : ℕ) → F ((a ∷ b ∷ []) ∷ (c ∷ d ∷ []) ∷ []) ((a' ∷ b' ∷ []) ∷ (c' ∷ d' ∷ []) ∷ [])) → (xs ys : List Row) → All (IsRow bits) xs → length xs ≡ 2 → All (IsRow bits) ys → length ys ≡ 2 → F xs ys
on_two F each xs ys trace_x size_x trace_y size_y =
    let x = two_rows xs trace_x size_x in
    let y = two_rows ys trace_y size_y in
    subst (λ (rows : List Row). F rows ys) (sym x.4) (subst (λ (rows : List Row). F ((x.0 ∷ x.1 ∷ []) ∷ (x.2 ∷ x.3 ∷ []) ∷ []) rows) (sym y.4) (each x.0 x.1 x.2 x.3 y.0 y.1 y.2 y.3))

pub on_three : (F : List Row → List Row → Type 0) → ((a b c d e f a' b' c' d' e' f' : ℕ) → F ((a ∷ b ∷ []) ∷ (c ∷ d ∷ []) ∷ (e ∷ f ∷ []) ∷ []) ((a' ∷ b' ∷ []) ∷ (c' ∷ d' ∷ []) ∷ (e' ∷ f' ∷ []) ∷ [])) → (xs ys : List Row) → All (IsRow bits) xs → length xs ≡ 3 → All (IsRow bits) ys → length ys ≡ 3 → F xs ys
on_three F each xs ys trace_x size_x trace_y size_y =
    let x = three_rows xs trace_x size_x in
    let y = three_rows ys trace_y size_y in
    subst (λ (rows : List Row). F rows ys) (sym x.6) (subst (λ (rows : List Row). F ((x.0 ∷ x.1 ∷ []) ∷ (x.2 ∷ x.3 ∷ []) ∷ (x.4 ∷ x.5 ∷ []) ∷ []) rows) (sym y.6) (each x.0 x.1 x.2 x.3 x.4 x.5 y.0 y.1 y.2 y.3 y.4 y.5))

-- a test that is one bit

pub told : (t : Bool) → not (nat_eq (bit t) 0) ≡ true → t ≡ true
told true h = refl
told false h = absurd (let never : false ≡ true = h in cc)

pub equal_is : (a b : ℕ) → not (nat_eq (bit (nat_eq a b)) 0) ≡ true → a ≡ b
equal_is a b h = eqb-true a b (told (nat_eq a b) h)

-- tests together

pub both : (a b : Bool) → (a && (b && true)) ≡ true → (a ≡ true) × (b ≡ true)
both true true h = (refl, refl)
both true false h = absurd cc
both false b h = absurd cc

pub single : (a : Bool) → (a && true) ≡ true → a ≡ true
single true h = refl
single false h = absurd cc

pub three : (a b c : Bool) → (a && (b && (c && true))) ≡ true → (a ≡ true) × (b ≡ true) × (c ≡ true)
three true true true h = (refl, refl, refl)
three true true false h = absurd cc
three true false c h = absurd cc
three false b c h = absurd cc

-- where the first of two tests fails, the second one holds
pub second_holds : (a b : Bool) → not (nat_eq (bit (a || b)) 0) ≡ true → a ≡ false → b ≡ true
second_holds true b h is = absurd cc
second_holds false b h is = told b h

pub not_true : (t : Bool) → not t ≡ true → t ≡ false
not_true true h = absurd cc
not_true false h = refl

pub not_false : (t : Bool) → not t ≡ false → t ≡ true
not_false true h = refl
not_false false h = absurd cc

-- bits that are both 0 or both not are equal
same_bit : (x y : ℕ) → x < 2 → y < 2 → nat_eq x 0 ≡ nat_eq y 0 → x ≡ y
same_bit zero zero p q h = refl
same_bit zero (suc zero) p q h = absurd (let never : true ≡ false = h in cc)
same_bit zero (suc (suc y)) p q h = absurd (omega arith)
same_bit (suc zero) zero p q h = absurd (let never : false ≡ true = h in cc)
same_bit (suc zero) (suc zero) p q h = refl
same_bit (suc zero) (suc (suc y)) p q h = absurd (omega arith)
same_bit (suc (suc x)) y p q h = absurd (omega arith)

-- both are 1, or both are 0

pub both_one : (x y : ℕ) → x < 2 → y < 2 → not (nat_eq x 0) ≡ true → not (nat_eq y 0) ≡ true → x ≡ y
both_one x y p q hx hy = same_bit x y p q (not_true _ hx ∙ sym (not_true _ hy))

pub both_zero : (x y : ℕ) → x < 2 → y < 2 → not (nat_eq x 0) ≡ false → not (nat_eq y 0) ≡ false → x ≡ y
both_zero x y p q hx hy = same_bit x y p q (not_false _ hx ∙ sym (not_false _ hy))

-- where a property ends whose condition is looked at in two rows, the first at the offset i
pub ends_at : (i : ℕ) (a b : Bool) (n : ℕ) → cond a (Some i) (cond b (Some (suc i)) None) ≡ Some n → ((i ≡ n) × (a ≡ true)) ⊎ ((suc i ≡ n) × (a ≡ false) × (b ≡ true))
ends_at i true b n h = inl (cc, refl)
ends_at i false true n h = inr (cc, refl, refl)
ends_at i false false n h = absurd cc
