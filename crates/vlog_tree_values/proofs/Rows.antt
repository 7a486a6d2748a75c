-- One more part of a concatenation.
use Rattle.std.proofs.Common.{◌≡◌, ℕ, suc, ◌+◌, ◌*◌, ◌^◌, ◌<◌, Bool, true, false, refl, sym, ap, ◌∙◌, List, ◌∷◌, ◌&&◌, IsTrue, drop, get_or, length, add-one, arith}
use Rattle.std.proofs.Math.Nat.{add-mul, mul_assoc}
use Rattle.std.proofs.Math.Seq.{drop-cons}
use Rattle.std.proofs.lemmas.Nat.{pow-add}
use Rattle.vlog_tree.specs.declared.expr.Expr.{Expr}
use Rattle.vlog_tree.specs.declared.valuation.Entry.{Entry}
use Rattle.vlog_tree.specs.Value.{operand_of, own, own_defined}
use Rattle.word_core.specs.Words.{Bits}
use Rattle.vlog_tree_values.specs.Shapes.{HasOwn, each_row, each_formed}

pub next_part : (all : List Expr) (i : ℕ) (x y : Expr) → i < length all → x ≡ get_or all i y → drop i all ≡ x ∷ drop (i + 1) all
next_part all i x y lt is = rw add-one (drop-cons all i y lt ∙ ap (λ (z : Expr). z ∷ drop (suc i) all) (sym is))

pub next_formed : (v : List Entry) (l m : List Expr) (x : Expr) → l ≡ x ∷ m → each_formed v l → each_formed v m
next_formed v l m x d h = (rw d at h).1

test_next : (p q : Bool) → IsTrue p → (p && q) ≡ q
test_next true q h = refl
test_next false q h = cc

pub next_defined : (v : List Entry) (l m : List Expr) (x : Expr) (r : Bits) (s w : Bool) → l ≡ x ∷ m → HasOwn v x r s → w ≡ own_defined (each_row v l) → w ≡ own_defined (each_row v m)
next_defined v l m x r s w d o h = h ∙ ap (λ k. own_defined (each_row v k)) d ∙ test_next (own_defined (operand_of v x)) (own_defined (each_row v m)) o.defined

pub next_width : (v : List Entry) (l m : List Expr) (x : Expr) (r : Bits) (s : Bool) (n k w : ℕ) → l ≡ x ∷ m → HasOwn v x r s → k ≡ r.width → n + (each_row v l).width ≡ w → (n + k) + (each_row v m).width ≡ w
next_width v l m x r s n k w d o kn h =
    let e : (each_row v l).width ≡ (operand_of v x).width + (each_row v m).width = ap (λ j. (each_row v j).width) d in
    omega (arith, e, kn, o.shape.width, h)

expand : (n a x b o : ℕ) → (n * a + x) * b + o ≡ n * (a * b) + (x * b + o)
expand n a x b o = omega (arith, add-mul (n * a) x b, mul_assoc n a b)

pub next_number : (v : List Entry) (l m : List Expr) (x : Expr) (r : Bits) (s : Bool) (n t w : ℕ) → l ≡ x ∷ m → HasOwn v x r s → t ≡ n * 2 ^ r.width + r.value → n * 2 ^ (each_row v l).width + own (each_row v l) ≡ w →
    t * 2 ^ (each_row v m).width + own (each_row v m) ≡ w
next_number v l m x r s n t w d o tn h =
    let wide : 2 ^ (each_row v l).width ≡ 2 ^ r.width * 2 ^ (each_row v m).width =
    ap (λ j. 2 ^ (each_row v j).width) d ∙ ap (λ j. 2 ^ (j + (each_row v m).width)) (sym o.shape.width) ∙ pow-add 2 r.width (each_row v m).width in
    let value : own (each_row v l) ≡ r.value * 2 ^ (each_row v m).width + own (each_row v m) =
    ap (λ j. own (each_row v j)) d ∙ ap (λ j. j * 2 ^ (each_row v m).width + own (each_row v m)) (sym o.value) in
    ap (λ j. j * 2 ^ (each_row v m).width + own (each_row v m)) tn ∙ expand n (2 ^ r.width) r.value (2 ^ (each_row v m).width) (own (each_row v m))
    ∙ sym (ap (λ j. n * j + own (each_row v l)) wide ∙ ap (λ j. n * (2 ^ r.width * 2 ^ (each_row v m).width) + j) value) ∙ h

pub next_fits : (n k t : ℕ) (r : Bits) → k ≡ r.width → t < 2 ^ (n + r.width) → t < 2 ^ (n + k)
next_fits n k t r kn lt = rw kn lt
