-- Nodes that are the same are equal.
use Rattle.std.proofs.Common.{◌≡◌, ℕ, Bool, true, false, refl, sym, ap, ◌∙◌}
use Rattle.std.specs.Prelude.{nat_eq, ◌&&◌, ◌==◌, if◌then◌else◌}
use Rattle.std.specs.Str.{bytes_eq}
use Rattle.std.specs.Ordering.{int_eq}
use Rattle.std.proofs.lemmas.Slice.Eq.{bytes_eq-Decides}
use Rattle.std.proofs.lemmas.Bool.Decides.{Decides-eqb, Decides-int_eq}
use Rattle.word_core.specs.Words.{Bits}
use Rattle.word_dag.specs.declared.node.Op.{Op}
use Rattle.word_dag.specs.declared.node.Op.TheVariants.{Add, Sub, Mul, And, Or, Xor, Shl, Shr, Sar, Ult, Slt, Eq, Concat}
use Rattle.word_dag.specs.declared.node.Node.{Node}
use Rattle.word_dag.specs.declared.node.Node.TheVariants.{Free, Const, Two, Not, Slice, Zext, Sext, Mux}
use Rattle.word_dag.specs.Prints.{op_code, same}

split : (a b : Bool) → (a && b) ≡ true → (a ≡ true) × (b ≡ true)
split true true e = (refl, refl)
split true false e = (refl, e)
split false b e = (e, cc)

both : (a b : Bool) → a ≡ true → b ≡ true → (a && b) ≡ true
both a b p q = ap (λ k. k && b) p ∙ q

-- the operation of a code
abbrev pub op_at : ℕ → Op
op_at n =
    if n == 1 then Add else if n == 2 then Sub else if n == 3 then Mul else if n == 4 then And else if n == 5 then Or else if n == 6 then Xor else if n == 7 then Shl else if n == 8 then Shr else if n == 9 then Sar else if n == 10 then Ult else if n == 11 then Slt else if n == 12 then Eq else Concat

op_at-code : (op : Op) → op_at (op_code op) ≡ op
op_at-code Add = refl
op_at-code Sub = refl
op_at-code Mul = refl
op_at-code And = refl
op_at-code Or = refl
op_at-code Xor = refl
op_at-code Shl = refl
op_at-code Shr = refl
op_at-code Sar = refl
op_at-code Ult = refl
op_at-code Slt = refl
op_at-code Eq = refl
op_at-code Concat = refl

pub same_op : (x y : Op) → op_code x ≡ op_code y → x ≡ y
same_op x y e = sym (op_at-code x) ∙ ap op_at e ∙ op_at-code y

same_number : (a b : ℕ) → nat_eq a b ≡ true → a ≡ b
same_number a b e = (Decides-eqb a b).0 e

number_same : (a : ℕ) → nat_eq a a ≡ true
number_same a = (Decides-eqb a a).1 refl

pub same_word : (v w : Bits) → v.width ≡ w.width → v.value ≡ w.value → v ≡ w
same_word v w e f =
    ap (λ k. let b : Bits = record { width = k; value = v.value } in b) e ∙ ap (λ k. let b : Bits = record { width = w.width; value = k } in b) f

pub same_is : (x y : Node) → same x y ≡ true → x ≡ y
same_is (Free name w s c) (Free name' w' s' c') e =
    let p = split (bytes_eq name name' && nat_eq w w' && nat_eq s s') (int_eq c c') e in
    let q = split (bytes_eq name name' && nat_eq w w') (nat_eq s s') p.0 in
    let r = split (bytes_eq name name') (nat_eq w w') q.0 in
    let e1 : name ≡ name' = (bytes_eq-Decides name name').0 r.0 in
    let e2 : w ≡ w' = same_number w w' r.1 in
    let e3 : s ≡ s' = same_number s s' q.1 in
    let e4 : c ≡ c' = (Decides-int_eq c c').0 p.1 in
    cc
same_is (Const v) (Const v') e =
    let p = split (nat_eq v.width v'.width) (nat_eq v.value v'.value) e in
    ap Const (same_word v v' (same_number v.width v'.width p.0) (same_number v.value v'.value p.1))
same_is (Two op w a b) (Two op' w' a' b') e =
    let p = split (nat_eq (op_code op) (op_code op') && nat_eq w w' && nat_eq a a') (nat_eq b b') e in
    let q = split (nat_eq (op_code op) (op_code op') && nat_eq w w') (nat_eq a a') p.0 in
    let r = split (nat_eq (op_code op) (op_code op')) (nat_eq w w') q.0 in
    let e1 : op ≡ op' = same_op op op' (same_number (op_code op) (op_code op') r.0) in
    let e2 : w ≡ w' = same_number w w' r.1 in
    let e3 : a ≡ a' = same_number a a' q.1 in
    let e4 : b ≡ b' = same_number b b' p.1 in
    cc
same_is (Not w a) (Not w' a') e =
    let p = split (nat_eq w w') (nat_eq a a') e in
    let e1 : w ≡ w' = same_number w w' p.0 in
    let e2 : a ≡ a' = same_number a a' p.1 in
    cc
same_is (Slice w a lo) (Slice w' a' lo') e =
    let p = split (nat_eq w w' && nat_eq a a') (nat_eq lo lo') e in
    let q = split (nat_eq w w') (nat_eq a a') p.0 in
    let e1 : w ≡ w' = same_number w w' q.0 in
    let e2 : a ≡ a' = same_number a a' q.1 in
    let e3 : lo ≡ lo' = same_number lo lo' p.1 in
    cc
same_is (Zext w a) (Zext w' a') e =
    let p = split (nat_eq w w') (nat_eq a a') e in
    let e1 : w ≡ w' = same_number w w' p.0 in
    let e2 : a ≡ a' = same_number a a' p.1 in
    cc
same_is (Sext w a) (Sext w' a') e =
    let p = split (nat_eq w w') (nat_eq a a') e in
    let e1 : w ≡ w' = same_number w w' p.0 in
    let e2 : a ≡ a' = same_number a a' p.1 in
    cc
same_is (Mux w c a b) (Mux w' c' a' b') e =
    let p = split (nat_eq w w' && nat_eq c c' && nat_eq a a') (nat_eq b b') e in
    let q = split (nat_eq w w' && nat_eq c c') (nat_eq a a') p.0 in
    let r = split (nat_eq w w') (nat_eq c c') q.0 in
    let e1 : w ≡ w' = same_number w w' r.0 in
    let e2 : c ≡ c' = same_number c c' r.1 in
    let e3 : a ≡ a' = same_number a a' q.1 in
    let e4 : b ≡ b' = same_number b b' p.1 in
    cc
same_is _ _ e = cc

same_self : (x : Node) → same x x ≡ true
same_self (Free name w s c) =
    both (bytes_eq name name && nat_eq w w && nat_eq s s) (int_eq c c) (both (bytes_eq name name && nat_eq w w) (nat_eq s s) (both (bytes_eq name name) (nat_eq w w) ((bytes_eq-Decides name name).1 refl) (number_same w)) (number_same s)) ((Decides-int_eq c c).1 refl)
same_self (Const v) = both (nat_eq v.width v.width) (nat_eq v.value v.value) (number_same v.width) (number_same v.value)
same_self (Two op w a b) =
    both (nat_eq (op_code op) (op_code op) && nat_eq w w && nat_eq a a) (nat_eq b b) (both (nat_eq (op_code op) (op_code op) && nat_eq w w) (nat_eq a a) (both (nat_eq (op_code op) (op_code op)) (nat_eq w w) (number_same (op_code op)) (number_same w)) (number_same a)) (number_same b)
same_self (Not w a) = both (nat_eq w w) (nat_eq a a) (number_same w) (number_same a)
same_self (Slice w a lo) =
    both (nat_eq w w && nat_eq a a) (nat_eq lo lo) (both (nat_eq w w) (nat_eq a a) (number_same w) (number_same a)) (number_same lo)
same_self (Zext w a) = both (nat_eq w w) (nat_eq a a) (number_same w) (number_same a)
same_self (Sext w a) = both (nat_eq w w) (nat_eq a a) (number_same w) (number_same a)
same_self (Mux w c a b) =
    both (nat_eq w w && nat_eq c c && nat_eq a a) (nat_eq b b) (both (nat_eq w w && nat_eq c c) (nat_eq a a) (both (nat_eq w w) (nat_eq c c) (number_same w) (number_same c)) (number_same a)) (number_same b)

pub is_same : (x y : Node) → x ≡ y → same x y ≡ true
is_same x y e = ap (λ k. same x k) (sym e) ∙ same_self x
