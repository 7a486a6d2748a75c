-- Values of each form.
use Rattle.std.proofs.Common.{◌≡◌, ℕ, zero, suc, ◌+◌, ◌*◌, ◌^◌, ◌%◌, ◌≤◌, max, Bool, true, false, refl, sym, ap, ◌∙◌, List, [], ◌∷◌, ◌&&◌, IsTrue, Option, Some, None, arith, ℤ}
use Rattle.std.specs.Prelude.{nat_eq, nat_lt, if◌then◌else◌, IfSome, IfNone}
use Rattle.vlog_tree.specs.declared.expr.Binary.{Binary}
use Rattle.vlog_tree.specs.declared.expr.Cast.{Cast}
use Rattle.vlog_tree.specs.declared.expr.Constant.{Constant}
use Rattle.vlog_tree.specs.declared.expr.Expr.{Expr}
use Rattle.vlog_tree.specs.declared.expr.Expr.TheVariants as e
use Rattle.vlog_tree.specs.declared.expr.Name.{Name}
use Rattle.vlog_tree.specs.declared.expr.Span.{Span}
use Rattle.vlog_tree.specs.declared.expr.Span.TheVariants as w
use Rattle.vlog_tree.specs.declared.expr.Unary.{Unary}
use Rattle.vlog_tree.specs.declared.valuation.Entry.{Entry}
use Rattle.vlog_tree.specs.Valuation.{IsLength, named, depth_of, word_name}
use Rattle.vlog_tree.specs.Value.{Operand, operand_of, bit_of, word_of, part_of, repeated, copies, own, own_defined, own_integer, integer, extend, width_of, sign_of, value_of, bits_of, natural, IsDefined, IsPart}
use Rattle.word_core.specs.Words.{Bits}
use Rattle.vlog_tree_values.specs.declared.operators.Family.{Family}
use Rattle.vlog_tree_values.specs.declared.operators.Family.TheVariants as f
use Rattle.vlog_tree_values.specs.Operators.{family_of, is_joined, joined_number, joined_width, left_width, right_width, left_sign, right_sign, is_reduction, inner_width, inner_sign, made_width, made_number, PlacesFit}
use Rattle.vlog_tree_values.specs.Shapes.{HasShape, HasOwn, HasValue, IsReady, FitsPart, part_word, select_word, HasRowWord, each_row, copy_number}
use Rattle.vlog_tree_values.proofs.Facts.{both_true, and_true, own_is, own_defined_is, copies_width}
use Rattle.vlog_tree_values.proofs.Forms.{select_operand, part_operand, constant_select_operand, constant_part_operand, cast_operand, paren_operand, unary_operand, binary_operand, choice_operand, concat_operand, repeat_operand, paren_formed, unary_formed, binary_formed, choice_formed}
use Rattle.vlog_tree_values.proofs.Families.{binary_width, binary_number, binary_defined, unary_width, unary_number, unary_defined}

-- ---- what has to be defined of the parts

select_test : (b : Bool) (v : List Entry) (x : Name) (o : Operand) (L : ℕ) (s : Bool) → (if b then bit_of (named v x) o else word_of v x o).defined L s ≡ own_defined o
select_test true v x o L s = refl
select_test false v x o L s = refl

pub select_defined : (v : List Entry) (x : Name) (a tree : Expr) (L : ℕ) (s : Bool) → tree ≡ e.Select x a → IsDefined v tree L s → IsTrue (own_defined (operand_of v a))
select_defined v x a tree L s is h =
    let h' = rw (is, IsDefined, select_operand, select_test) at h in h'

pub constant_select_defined : (v : List Entry) (k : Constant) (a tree : Expr) (L : ℕ) (s : Bool) → tree ≡ e.ConstantSelect k a → IsDefined v tree L s → IsTrue (own_defined (operand_of v a))
constant_select_defined v k a tree L s is h = rw (is, IsDefined, constant_select_operand) at h

pub part_defined : (v : List Entry) (x : Name) (span : Span) (a b tree : Expr) (L : ℕ) (s : Bool) → tree ≡ e.Part x span a b → IsDefined v tree L s → IsTrue (own_defined (operand_of v a)) × IsTrue (own_defined (operand_of v b))
part_defined v x span a b tree L s is h = both_true _ _ (rw (is, IsDefined, part_operand) at h)

pub constant_part_defined : (v : List Entry) (k : Constant) (span : Span) (a b tree : Expr) (L : ℕ) (s : Bool) → tree ≡ e.ConstantPart k span a b → IsDefined v tree L s → IsTrue (own_defined (operand_of v a)) × IsTrue (own_defined (operand_of v b))
constant_part_defined v k span a b tree L s is h = both_true _ _ (rw (is, IsDefined, constant_part_operand) at h)

pub cast_defined : (v : List Entry) (cast : Cast) (a tree : Expr) (L : ℕ) (s : Bool) → tree ≡ e.Cast cast a → IsDefined v tree L s → IsTrue (own_defined (operand_of v a))
cast_defined v cast a tree L s is h = rw (is, IsDefined, cast_operand) at h

pub paren_defined : (v : List Entry) (a tree y : Expr) (L : ℕ) (s : Bool) → tree ≡ e.Paren a → y ≡ a → IsDefined v tree L s → IsDefined v y L s
paren_defined v a tree y L s is ya h = rw ya (rw (is, IsDefined, paren_operand) at h)

pub unary_defined_at : (v : List Entry) (op : Unary) (a tree y : Expr) (L m p : ℕ) (s t q : Bool) → tree ≡ e.Unary op a → y ≡ a → m ≡ width_of v a → t ≡ sign_of v a → p ≡ inner_width op L m → q ≡ inner_sign op s t → IsDefined v tree L s → IsDefined v y p q
unary_defined_at v op a tree y L m p s t q is ya mn tn pn qn h =
    rw (ya, pn, qn, mn, tn) (rw (is, IsDefined, unary_operand, unary_defined) at h)

pub choice_defined : (v : List Entry) (c a b tree : Expr) (L : ℕ) (s : Bool) → tree ≡ e.Choice c a b → IsDefined v tree L s → IsTrue (own_defined (operand_of v c)) × IsDefined v a L s × IsDefined v b L s
choice_defined v c a b tree L s is h =
    let h' = rw (is, IsDefined, choice_operand) at h in
    let last = both_true (own_defined (operand_of v c) && (operand_of v a).defined L s) ((operand_of v b).defined L s) h' in
    let first = both_true (own_defined (operand_of v c)) ((operand_of v a).defined L s) last.0 in
    (first.0, first.1, last.1)

row_test : (v : List Entry) (items : List Expr) (L : ℕ) (s : Bool) → (each_row v items).defined L s ≡ own_defined (each_row v items)
row_test v [] L s = refl
row_test v (a ∷ rest) L s = refl

row_value : (v : List Entry) (items : List Expr) (L : ℕ) (s : Bool) → (each_row v items).value L s ≡ own (each_row v items)
row_value v [] L s = refl
row_value v (a ∷ rest) L s = refl

pub concat_defined : (v : List Entry) (items : List Expr) (tree : Expr) (L : ℕ) (s : Bool) → tree ≡ e.Concat items → IsDefined v tree L s → IsTrue (own_defined (each_row v items))
concat_defined v items tree L s is h = rw (row_test v items L s) at (rw (is, IsDefined, concat_operand) at h)

pub repeat_defined : (v : List Entry) (a : Expr) (items : List Expr) (tree : Expr) (L : ℕ) (s : Bool) → tree ≡ e.Repeat a items → IsDefined v tree L s → IsTrue (own_defined (operand_of v a)) × IsTrue (own_defined (each_row v items))
repeat_defined v a items tree L s is h = both_true _ _ (rw (is, IsDefined, repeat_operand) at h)

-- ---- values

abbrev pub at : ℕ → ℕ → Bits
at L x = record { width = L; value = x }

pub constant_select_value : (v : List Entry) (k : Constant) (a tree y : Expr) (L : ℕ) (s t : Bool) (r q z : Bits) → tree ≡ e.ConstantSelect k a → y ≡ a → HasOwn v y r t →
    q ≡ record { width = 1; value = bits_of k (integer t r.width r.value) 1 } → z ≡ record { width = L; value = extend false q.width L q.value } → HasValue v tree L s z
constant_select_value v k a tree y L s t r q z is ya o qn zn = record {
  defined = rw (is, IsDefined, constant_select_operand) (own_defined_is v a y r t ya o);
  word = rw (is, value_of, constant_select_operand, sym (own_is v a y r t ya o)) (zn ∙ ap (λ (b : Bits). at L b.value) qn);
}

part_value : (k : Constant) (span : Span) (A B : Operand) (L : ℕ) (q z : Bits) (i j : ℤ) → i ≡ own_integer A → j ≡ own_integer B → q ≡ part_word k span i j → z ≡ record { width = L; value = extend false q.width L q.value } →
    z ≡ record { width = L; value = (part_of k span A B).value L false }
part_value k span A B L q z i j ia jb qn zn = rw (sym ia, sym jb) (zn ∙ ap (λ (b : Bits). at L b.value) qn)

pub part_value_is : (v : List Entry) (x : Name) (k : Constant) (span : Span) (a b tree y u : Expr) (L : ℕ) (s m n : Bool) (r p q z : Bits) → tree ≡ e.Part x span a b → k ≡ named v x → y ≡ a → u ≡ b → HasOwn v y r m → HasOwn v u p n →
    q ≡ part_word k span (integer m r.width r.value) (integer n p.width p.value) → z ≡ record { width = L; value = extend false q.width L q.value } → HasValue v tree L s z
part_value_is v x k span a b tree y u L s m n r p q z is kn ya ub o o' qn zn = record {
  defined = rw (is, IsDefined, part_operand) (and_true _ _ (own_defined_is v a y r m ya o) (own_defined_is v b u p n ub o'));
  word = rw (is, value_of, part_operand, sym kn) (part_value k span (operand_of v a) (operand_of v b) L q z _ _ (own_is v a y r m ya o) (own_is v b u p n ub o') qn zn);
}

pub constant_part_value : (v : List Entry) (k : Constant) (span : Span) (a b tree y u : Expr) (L : ℕ) (s m n : Bool) (r p q z : Bits) → tree ≡ e.ConstantPart k span a b → y ≡ a → u ≡ b → HasOwn v y r m → HasOwn v u p n →
    q ≡ part_word k span (integer m r.width r.value) (integer n p.width p.value) → z ≡ record { width = L; value = extend false q.width L q.value } → HasValue v tree L s z
constant_part_value v k span a b tree y u L s m n r p q z is ya ub o o' qn zn = record {
  defined = rw (is, IsDefined, constant_part_operand) (and_true _ _ (own_defined_is v a y r m ya o) (own_defined_is v b u p n ub o'));
  word = rw (is, value_of, constant_part_operand) (part_value k span (operand_of v a) (operand_of v b) L q z _ _ (own_is v a y r m ya o) (own_is v b u p n ub o') qn zn);
}

-- its two numbers suit a part-select that is well formed and defined
part_suits : (k : Constant) (span : Span) (A B : Operand) → IsPart k span A B → IsLength (part_of k span A B).width → FitsPart k span (own_integer A) (own_integer B)
part_suits k w.Fixed A B p len = (p.1, p.2, len)
part_suits k w.Up A B p len = len
part_suits k w.Down A B p len = len

pub part_ready : (v : List Entry) (k : Constant) (span : Span) (a b y u : Expr) (m n : Bool) (r p : Bits) → y ≡ a → u ≡ b → HasOwn v y r m → HasOwn v u p n → IsPart k span (operand_of v a) (operand_of v b) →
    IsLength (part_of k span (operand_of v a) (operand_of v b)).width → FitsPart k span (integer m r.width r.value) (integer n p.width p.value)
part_ready v k span a b y u m n r p ya ub o o' suits len =
    rw (own_is v a y r m ya o, own_is v b u p n ub o') (part_suits k span (operand_of v a) (operand_of v b) suits len)

pub part_wide : (v : List Entry) (k : Constant) (span : Span) (a b y u : Expr) (m n : Bool) (r p q : Bits) → y ≡ a → u ≡ b → HasOwn v y r m → HasOwn v u p n → q ≡ part_word k span (integer m r.width r.value) (integer n p.width p.value) →
    q.width ≡ (part_of k span (operand_of v a) (operand_of v b)).width
part_wide v k span a b y u m n r p q ya ub o o' qn = rw (sym (own_is v a y r m ya o), sym (own_is v b u p n ub o')) (ap (λ (z : Bits). z.width) qn)

select_number : (b : Bool) (v : List Entry) (x : Name) (o : Operand) (L : ℕ) (s : Bool) →
    (if b then bit_of (named v x) o else word_of v x o).value L s ≡ (if b then at 1 (bits_of (named v x) (own_integer o) 1) else at (named v x).width (if nat_lt (own o) (depth_of v x) then (named v (word_name x (own o))).value % 2 ^ (named v x).width else 0)).value
select_number true v x o L s = refl
select_number false v x o L s = refl

select_wide : (b : Bool) (v : List Entry) (x : Name) (o : Operand) →
    (if b then at 1 (bits_of (named v x) (own_integer o) 1) else at (named v x).width (if nat_lt (own o) (depth_of v x) then (named v (word_name x (own o))).value % 2 ^ (named v x).width else 0)).width ≡ (if b then bit_of (named v x) o else word_of v x o).width
select_wide true v x o = refl
select_wide false v x o = refl

-- the value that a part has been found to have
own_value_is : (v : List Entry) (a y : Expr) (r : Bits) (t : Bool) → y ≡ a → HasOwn v y r t → r.value ≡ own (operand_of v a)
own_value_is v a y r t ya o = rw ya at o.value

pub select_value : (v : List Entry) (x : Name) (a tree y : Expr) (k : Constant) (L : ℕ) (s t : Bool) (r q z : Bits) → tree ≡ e.Select x a → k ≡ named v x → y ≡ a → HasOwn v y r t →
    q ≡ select_word v x k (integer t r.width r.value) r.value → z ≡ record { width = L; value = extend false q.width L q.value } → HasValue v tree L s z
select_value v x a tree y k L s t r q z is kn ya o qn zn =
    let q' = rw (kn, own_is v a y r t ya o, own_value_is v a y r t ya o) at qn in
    record {
      defined = rw (is, IsDefined, select_operand, select_test) (own_defined_is v a y r t ya o);
      word = rw (is, value_of, select_operand, select_number) (zn ∙ ap (λ (b : Bits). at L b.value) q');
    }

pub select_long : (v : List Entry) (x : Name) (a tree y : Expr) (k : Constant) (L : ℕ) (t : Bool) (r q : Bits) → tree ≡ e.Select x a → k ≡ named v x → y ≡ a → HasOwn v y r t → q ≡ select_word v x k (integer t r.width r.value) r.value →
    width_of v tree ≤ L → q.width ≤ L
select_long v x a tree y k L t r q is kn ya o qn le =
    let q' = rw (kn, own_is v a y r t ya o, own_value_is v a y r t ya o) at qn in
    let e : q.width ≡ width_of v tree = rw (is, width_of, select_operand) (ap (λ (b : Bits). b.width) q' ∙ select_wide (nat_eq (depth_of v x) 0) v x (operand_of v a)) in
    omega arith

pub cast_value : (v : List Entry) (cast : Cast) (a tree y : Expr) (L : ℕ) (s t : Bool) (r z : Bits) → tree ≡ e.Cast cast a → y ≡ a → HasOwn v y r t → z ≡ record { width = L; value = extend s r.width L r.value } → HasValue v tree L s z
cast_value v cast a tree y L s t r z is ya o zn =
    let o' = rw ya at o in
    record {
      defined = rw (is, IsDefined, cast_operand) (own_defined_is v a y r t ya o);
      word = rw (is, value_of, cast_operand) (zn ∙ ap (λ n. at L (extend s n L r.value)) o'.shape.width ∙ ap (λ n. at L (extend s (width_of v a) L n)) o'.value);
    }

pub cast_long : (v : List Entry) (cast : Cast) (a tree y : Expr) (L : ℕ) (t : Bool) (r : Bits) → tree ≡ e.Cast cast a → y ≡ a → HasOwn v y r t → width_of v tree ≤ L → r.width ≤ L
cast_long v cast a tree y L t r is ya o le =
    let o' = rw ya at o in
    let le' : width_of v a ≤ L = rw (is, width_of, cast_operand) at le in
    omega (arith, o'.shape.width)

pub paren_value : (v : List Entry) (a tree y : Expr) (L : ℕ) (s : Bool) (z : Bits) → tree ≡ e.Paren a → y ≡ a → HasValue v y L s z → HasValue v tree L s z
paren_value v a tree y L s z is ya h =
    let h' = rw ya at h in
    record { defined = rw (is, IsDefined, paren_operand) h'.defined; word = rw (is, value_of, paren_operand) h'.word }

pub paren_ready : (v : List Entry) (a tree : Expr) (L : ℕ) → tree ≡ e.Paren a → IsReady v tree L → IsReady v a L
paren_ready v a tree L is r = record { formed = paren_formed v a tree is r.formed; some = r.some; long = rw (is, width_of, paren_operand) at r.long; most = r.most }

-- ---- unary operators

inner_long : (b : Bool) (L m : ℕ) → IsLength m → 1 ≤ L → L ≤ 64 → (if b then 1 else m) ≤ L → (1 ≤ (if b then m else L)) × (m ≤ (if b then m else L)) × ((if b then m else L) ≤ 64)
inner_long true L m len one most le = (len.0, omega arith, len.1)
inner_long false L m len one most le = (one, le, most)

pub unary_ready : (v : List Entry) (op : Unary) (a tree y : Expr) (L m p : ℕ) (t : Bool) → tree ≡ e.Unary op a → IsReady v tree L → y ≡ a → HasShape v y m t → p ≡ inner_width op L m → IsReady v a p
unary_ready v op a tree y L m p t is r ya h pn =
    let h' = rw ya at h in
    let len : IsLength (width_of v a) = rw h'.width at h'.length in
    let le : made_width op (width_of v a) ≤ L = rw (is, width_of, unary_operand, unary_width) at r.long in
    let all = inner_long (is_reduction op) L (width_of v a) len r.some r.most le in
    rw (pn, h'.width) (record { formed = unary_formed v op a tree is r.formed; some = all.0; long = all.1; most = all.2 })

pub made_fits : (op : Unary) (L m p : ℕ) → p ≡ inner_width op L m → is_reduction op ≡ false → p ≡ L
made_fits op L m p pn test = rw test at pn

pub unary_value : (v : List Entry) (op : Unary) (a tree y u : Expr) (L m p : ℕ) (s t q : Bool) (r z : Bits) → tree ≡ e.Unary op a → y ≡ a → u ≡ a → HasShape v y m t → p ≡ inner_width op L m → q ≡ inner_sign op s t → HasValue v u p q r →
    z ≡ record { width = L; value = made_number op r.width r.value } → HasValue v tree L s z
unary_value v op a tree y u L m p s t q r z is ya ua h pn qn k zn =
    let h' = rw ya at h in
    let k' = rw (ua, pn, qn, h'.width, h'.sign) at k in
    record {
      defined = rw (is, IsDefined, unary_operand, unary_defined) k'.defined;
      word = rw (is, value_of, unary_operand, unary_number) (zn ∙ ap (λ (b : Bits). at L (made_number op b.width b.value)) k'.word);
    }

-- ---- binary operators

abbrev pub lw : Family → ℕ → ℕ → ℕ → ℕ
lw k L m n = left_width k L m n

both_places : (k : Family) (L m n : ℕ) → IsLength m → IsLength n → 1 ≤ L → L ≤ 64 → joined_width k m n ≤ L →
    ((1 ≤ left_width k L m n) × (m ≤ left_width k L m n) × (left_width k L m n ≤ 64)) × ((1 ≤ right_width k L m n) × (n ≤ right_width k L m n) × (right_width k L m n ≤ 64))
both_places f.Arithmetic L m n a b one most le = ((one, omega (arith, le), most), (one, omega (arith, le), most))
both_places f.Division L m n a b one most le = ((one, omega (arith, le), most), (one, omega (arith, le), most))
both_places f.Shift L m n a b one most le = ((one, le, most), (b.0, omega arith, b.1))
both_places f.Order L m n a b one most le = ((omega (arith, a.0), omega arith, omega (arith, a.1, b.1)), (omega (arith, a.0), omega arith, omega (arith, a.1, b.1)))
both_places f.Equality L m n a b one most le = ((omega (arith, a.0), omega arith, omega (arith, a.1, b.1)), (omega (arith, a.0), omega arith, omega (arith, a.1, b.1)))
both_places f.Logic L m n a b one most le = ((a.0, omega arith, a.1), (b.0, omega arith, b.1))

pub binary_ready : (v : List Entry) (op : Binary) (a b tree y u : Expr) (L m n : ℕ) (s t : Bool) → tree ≡ e.Binary op a b → IsReady v tree L → y ≡ a → u ≡ b → HasShape v y m s → HasShape v u n t →
    IsReady v a (left_width (family_of op) L m n) × IsReady v b (right_width (family_of op) L m n)
binary_ready v op a b tree y u L m n s t is r ya ub h k =
    let h' = rw ya at h in
    let k' = rw ub at k in
    let len : IsLength (width_of v a) = rw h'.width at h'.length in
    let len' : IsLength (width_of v b) = rw k'.width at k'.length in
    let le : joined_width (family_of op) (width_of v a) (width_of v b) ≤ L = rw (is, width_of, binary_operand, binary_width) at r.long in
    let all = both_places (family_of op) L (width_of v a) (width_of v b) len len' r.some r.most le in
    let formed = binary_formed v op a b tree is r.formed in
    rw (h'.width, k'.width) (record { formed = formed.0; some = all.0.0; long = all.0.1; most = all.0.2 }, record { formed = formed.1; some = all.1.0; long = all.1.1; most = all.1.2 })

joined_left : (k : Family) (a b : Bool) (y : ℕ) → IsTrue (is_joined k a b y) → IsTrue a
joined_left f.Arithmetic a b y h = (both_true a b h).0
joined_left f.Division a b y h = (both_true a b (both_true (a && b) _ h).0).0
joined_left f.Shift a b y h = (both_true a b h).0
joined_left f.Order a b y h = (both_true a b h).0
joined_left f.Equality a b y h = (both_true a b h).0
joined_left f.Logic a b y h = (both_true a b h).0

joined_right : (k : Family) (a b : Bool) (y : ℕ) → IsTrue (is_joined k a b y) → IsTrue b
joined_right f.Arithmetic a b y h = (both_true a b h).1
joined_right f.Division a b y h = (both_true a b (both_true (a && b) _ h).0).1
joined_right f.Shift a b y h = (both_true a b h).1
joined_right f.Order a b y h = (both_true a b h).1
joined_right f.Equality a b y h = (both_true a b h).1
joined_right f.Logic a b y h = (both_true a b h).1

joined_all : (k : Family) (a b : Bool) (y : ℕ) → IsTrue a → IsTrue b → is_joined k a b y ≡ is_joined k true true y
joined_all k true true y p q = refl
joined_all k true false y p q = cc
joined_all k false b y p q = cc

-- the numbers of the places at which the parts are taken
pub record AreTaken (v : List Entry) (op : Binary) (a b : Expr) (L j k : ℕ) (s p q : Bool) : Type 0 where
  pub left : j ≡ left_width (family_of op) L (width_of v a) (width_of v b)
  pub right : k ≡ right_width (family_of op) L (width_of v a) (width_of v b)
  pub left_signed : p ≡ left_sign (family_of op) s (sign_of v a) (sign_of v b)
  pub right_signed : q ≡ right_sign (family_of op) s (sign_of v a) (sign_of v b)

pub taken_at : (v : List Entry) (op : Binary) (a b y u : Expr) (L j k m n : ℕ) (s p q t o : Bool) → y ≡ a → u ≡ b → HasShape v y m t → HasShape v u n o → j ≡ left_width (family_of op) L m n → k ≡ right_width (family_of op) L m n →
    p ≡ left_sign (family_of op) s t o → q ≡ right_sign (family_of op) s t o → AreTaken v op a b L j k s p q
taken_at v op a b y u L j k m n s p q t o ya ub h g jn kn pn qn =
    let h' = rw ya at h in
    let g' = rw ub at g in
    record {
      left = rw (h'.width, g'.width) at jn;
      right = rw (h'.width, g'.width) at kn;
      left_signed = rw (h'.sign, g'.sign) at pn;
      right_signed = rw (h'.sign, g'.sign) at qn;
    }

pub binary_left : (v : List Entry) (op : Binary) (a b tree y : Expr) (L j k : ℕ) (s p q : Bool) → tree ≡ e.Binary op a b → y ≡ a → AreTaken v op a b L j k s p q → IsDefined v tree L s → IsDefined v y j p
binary_left v op a b tree y L j k s p q is ya g h =
    rw (ya, g.left, g.left_signed) (joined_left _ _ _ _ (rw (is, IsDefined, binary_operand, binary_defined) at h))

pub binary_right : (v : List Entry) (op : Binary) (a b tree y : Expr) (L j k : ℕ) (s p q : Bool) → tree ≡ e.Binary op a b → y ≡ b → AreTaken v op a b L j k s p q → IsDefined v tree L s → IsDefined v y k q
binary_right v op a b tree y L j k s p q is yb g h =
    rw (yb, g.right, g.right_signed) (joined_right _ _ _ _ (rw (is, IsDefined, binary_operand, binary_defined) at h))

places : (k : Family) (L m n : ℕ) → PlacesFit k L (left_width k L m n) (right_width k L m n)
places f.Arithmetic L m n = (refl, refl)
places f.Division L m n = (refl, refl)
places f.Shift L m n = refl
places f.Order L m n = refl
places f.Equality L m n = refl
places f.Logic L m n = tt

pub places_fit : (v : List Entry) (op : Binary) (a b y u : Expr) (L j k : ℕ) (s p q : Bool) (r z : Bits) → AreTaken v op a b L j k s p q → HasValue v y j p r → HasValue v u k q z → PlacesFit (family_of op) L r.width z.width
places_fit v op a b y u L j k s p q r z g h i =
    let lr : r.width ≡ left_width (family_of op) L (width_of v a) (width_of v b) = ap (λ (x : Bits). x.width) h.word ∙ g.left in
    let lz : z.width ≡ right_width (family_of op) L (width_of v a) (width_of v b) = ap (λ (x : Bits). x.width) i.word ∙ g.right in
    rw (lr, lz) (places (family_of op) L (width_of v a) (width_of v b))

-- whether the whole is defined, once the parts are
pub binary_test : (v : List Entry) (op : Binary) (a b tree y u : Expr) (L j k : ℕ) (s p q : Bool) (r z : Bits) → tree ≡ e.Binary op a b → y ≡ a → u ≡ b → AreTaken v op a b L j k s p q → HasValue v y j p r → HasValue v u k q z →
    (operand_of v tree).defined L s ≡ is_joined (family_of op) true true z.value
binary_test v op a b tree y u L j k s p q r z is ya ub g h i =
    let h' = rw (ya, g.left, g.left_signed) at h in
    let i' = rw (ub, g.right, g.right_signed) at i in
    let e : (operand_of v tree).defined L s ≡ _ = rw (is, binary_operand) (binary_defined op (operand_of v a) (operand_of v b) L s) in
    e ∙ joined_all (family_of op) _ _ _ h'.defined i'.defined ∙ ap (λ (x : Bits). is_joined (family_of op) true true x.value) (sym i'.word)

pub binary_value : (v : List Entry) (op : Binary) (a b tree y u : Expr) (L j k : ℕ) (s p q : Bool) (r z x : Bits) → tree ≡ e.Binary op a b → y ≡ a → u ≡ b → AreTaken v op a b L j k s p q → HasValue v y j p r → HasValue v u k q z →
    is_joined (family_of op) true true z.value ≡ true → x ≡ record { width = L; value = joined_number (family_of op) op L s r.width p r.value z.value } → HasValue v tree L s x
binary_value v op a b tree y u L j k s p q r z x is ya ub g h i test xn =
    let h' = rw (ya, g.left, g.left_signed) at h in
    let i' = rw (ub, g.right, g.right_signed) at i in
    let x' = rw (h'.word, i'.word, g.left_signed) at xn in
    record {
      defined = binary_test v op a b tree y u L j k s p q r z is ya ub g h i ∙ test;
      word = rw (is, value_of, binary_operand, binary_number) x';
    }

-- ---- choices

pub choice_ready : (v : List Entry) (c a b tree : Expr) (L : ℕ) → tree ≡ e.Choice c a b → IsReady v tree L → IsReady v a L × IsReady v b L
choice_ready v c a b tree L is r =
    let formed = choice_formed v c a b tree is r.formed in
    let le : max (width_of v a) (width_of v b) ≤ L = rw (is, width_of, choice_operand) at r.long in
    (record { formed = formed.1; some = r.some; long = omega (arith, le); most = r.most }, record { formed = formed.2; some = r.some; long = omega (arith, le); most = r.most })

pick : (b : Bool) (L x y : ℕ) → (if b then at L y else at L x) ≡ at L (if b then y else x)
pick true L x y = refl
pick false L x y = refl

pub choice_value : (v : List Entry) (c a b tree x y u : Expr) (L : ℕ) (s t : Bool) (o p q z : Bits) → tree ≡ e.Choice c a b → x ≡ c → y ≡ a → u ≡ b → HasOwn v x o t → HasValue v y L s p → HasValue v u L s q →
    z ≡ (if nat_eq o.value 0 then q else p) → HasValue v tree L s z
choice_value v c a b tree x y u L s t o p q z is xc ya ub h k l zn =
    let k' = rw ya at k in
    let l' = rw ub at l in
    let z' = rw (k'.word, l'.word, own_value_is v c x o t xc h) at zn in
    record {
      defined = rw (is, IsDefined, choice_operand) (and_true _ _ (and_true _ _ (own_defined_is v c x o t xc h) k'.defined) l'.defined);
      word = rw (is, value_of, choice_operand) (z' ∙ pick (nat_eq (own (operand_of v c)) 0) L (value_of v a L s) (value_of v b L s));
    }

-- ---- concatenations

pub concat_value : (v : List Entry) (items row : List Expr) (tree : Expr) (L : ℕ) (s : Bool) (r z : Bits) → tree ≡ e.Concat items → row ≡ items → HasRowWord v row r → z ≡ record { width = L; value = extend false r.width L r.value } → HasValue v tree L s z
concat_value v items row tree L s r z is ri h zn =
    let h' = rw ri at h in
    record {
      defined = rw (is, IsDefined, concat_operand, row_test v items L s) h'.defined;
      word = rw (is, value_of, concat_operand, row_value v items L s) (zn ∙ ap (λ n. at L n) h'.value);
    }

pub concat_long : (v : List Entry) (items row : List Expr) (tree : Expr) (L : ℕ) (r : Bits) → tree ≡ e.Concat items → row ≡ items → HasRowWord v row r → width_of v tree ≤ L → r.width ≤ L
concat_long v items row tree L r is ri h le =
    let h' = rw ri at h in
    let le' : (each_row v items).width ≤ L = rw (is, width_of, concat_operand) at le in
    omega (arith, h'.width)

copies_number : (n : ℕ) (o : Operand) → own (copies n o) ≡ copy_number n o.width (own o)
copies_number zero o = refl
copies_number (suc n) o = ap (λ k. own o * 2 ^ k + own (copies n o)) (copies_width n o) ∙ ap (λ k. own o * 2 ^ (n * o.width) + k) (copies_number n o)

copies_value : (n : ℕ) (o : Operand) (L : ℕ) (s : Bool) → (copies n o).value L s ≡ own (copies n o)
copies_value zero o L s = refl
copies_value (suc n) o L s = refl

pub repeat_value : (v : List Entry) (a : Expr) (items row : List Expr) (tree y : Expr) (L : ℕ) (s t : Bool) (i : ℤ) (o r q z : Bits) → tree ≡ e.Repeat a items → y ≡ a → row ≡ items → HasOwn v y o t → i ≡ integer t o.width o.value → HasRowWord v row r →
    q.value ≡ copy_number (natural i) r.width r.value → z ≡ record { width = L; value = extend false q.width L q.value } → HasValue v tree L s z
repeat_value v a items row tree y L s t i o r q z is ya ri h iw k qn zn =
    let k' = rw ri at k in
    let count : i ≡ own_integer (operand_of v a) = iw ∙ own_is v a y o t ya h in
    let q' = rw (k'.width, k'.value, count) at qn in
    record {
      defined = rw (is, IsDefined, repeat_operand) (and_true _ _ (own_defined_is v a y o t ya h) k'.defined);
      word = rw (is, value_of, repeat_operand) (zn ∙ ap (λ n. at L n) (q' ∙ sym (copies_number (natural (own_integer (operand_of v a))) (each_row v items)) ∙ sym (copies_value (natural (own_integer (operand_of v a))) (each_row v items) L s)));
    }

pub repeat_long : (v : List Entry) (a : Expr) (items row : List Expr) (tree y : Expr) (L : ℕ) (t : Bool) (i : ℤ) (o r q : Bits) → tree ≡ e.Repeat a items → y ≡ a → row ≡ items → HasOwn v y o t → i ≡ integer t o.width o.value → HasRowWord v row r →
    q.width ≡ natural i * r.width → width_of v tree ≤ L → q.width ≤ L
repeat_long v a items row tree y L t i o r q is ya ri h iw k qn le =
    let k' = rw ri at k in
    let count : i ≡ own_integer (operand_of v a) = iw ∙ own_is v a y o t ya h in
    let le' : (repeated (operand_of v a) (each_row v items)).width ≤ L = rw (is, width_of, repeat_operand) at le in
    let q' = rw (k'.width, count) at qn in
    omega (arith, q', copies_width (natural (own_integer (operand_of v a))) (each_row v items))

pub repeat_suits : (v : List Entry) (a : Expr) (items row : List Expr) (y : Expr) (t : Bool) (i : ℤ) (o r : Bits) → y ≡ a → row ≡ items → HasOwn v y o t → i ≡ integer t o.width o.value → HasRowWord v row r →
    IsLength (repeated (operand_of v a) (each_row v items)).width → IsLength (natural i * r.width)
repeat_suits v a items row y t i o r ya ri h iw k len =
    let k' = rw ri at k in
    let count : i ≡ own_integer (operand_of v a) = iw ∙ own_is v a y o t ya h in
    rw (k'.width, count) (rw (copies_width (natural (own_integer (operand_of v a))) (each_row v items)) at len)

-- ---- what the calls hand on

pub shape_width : (v : List Entry) (a y : Expr) (m : ℕ) (t : Bool) → y ≡ a → HasShape v y m t → m ≡ width_of v a
shape_width v a y m t ya h = rw ya at h.width

pub shape_sign : (v : List Entry) (a y : Expr) (m : ℕ) (t : Bool) → y ≡ a → HasShape v y m t → t ≡ sign_of v a
shape_sign v a y m t ya h = rw ya at h.sign

pub made_fits_word : (v : List Entry) (op : Unary) (y : Expr) (L m p : ℕ) (q : Bool) (r : Bits) → p ≡ inner_width op L m → HasValue v y p q r → is_reduction op ≡ false → r.width ≡ L
made_fits_word v op y L m p q r pn h test = ap (λ (x : Bits). x.width) h.word ∙ made_fits op L m p pn test

pub apart : (b : Bool) → IsTrue b → b ≡ false → ⊥
apart b h e = cc

pub row_length : (v : List Entry) (A : Operand) (items : List Expr) → IsLength (repeated A (each_row v items)).width → IsLength (each_row v items).width
row_length v A items len = short (natural (own_integer A)) (each_row v items).width (rw (copies_width (natural (own_integer A)) (each_row v items)) at len)
  where
    short : (n m : ℕ) → IsLength (n * m) → IsLength m
    short zero m l = absurd (omega (arith, l.0))
    short (suc n) zero l = absurd (omega (arith, l.0))
    short (suc n) (suc m) l = (omega arith, omega (arith, l.1))

pub part_long : (v : List Entry) (x : Name) (k : Constant) (span : Span) (a b tree y u : Expr) (L : ℕ) (m n : Bool) (r p q : Bits) → tree ≡ e.Part x span a b → k ≡ named v x → y ≡ a → u ≡ b → HasOwn v y r m → HasOwn v u p n →
    q ≡ part_word k span (integer m r.width r.value) (integer n p.width p.value) → width_of v tree ≤ L → q.width ≤ L
part_long v x k span a b tree y u L m n r p q is kn ya ub o o' qn le =
    let e = part_wide v k span a b y u m n r p q ya ub o o' qn in
    let le' : (part_of k span (operand_of v a) (operand_of v b)).width ≤ L = rw (is, width_of, part_operand) at le in
    rw e le'

pub constant_part_long : (v : List Entry) (k : Constant) (span : Span) (a b tree y u : Expr) (L : ℕ) (m n : Bool) (r p q : Bits) → tree ≡ e.ConstantPart k span a b → y ≡ a → u ≡ b → HasOwn v y r m → HasOwn v u p n →
    q ≡ part_word k span (integer m r.width r.value) (integer n p.width p.value) → width_of v tree ≤ L → q.width ≤ L
constant_part_long v k span a b tree y u L m n r p q is ya ub o o' qn le =
    let e = part_wide v k span a b y u m n r p q ya ub o o' qn in
    let le' : (part_of k span (operand_of v a) (operand_of v b)).width ≤ L = rw (is, width_of, constant_part_operand) at le in
    rw e le'

pub taken_by : (v : List Entry) (op : Binary) (a b y u : Expr) (L j k m n : ℕ) (s p q t o : Bool) (f g : Family) → y ≡ a → u ≡ b → HasShape v y m t → HasShape v u n o → f ≡ family_of op → g ≡ family_of op →
    j ≡ left_width f L m n → k ≡ right_width g L m n → p ≡ left_sign f s t o → q ≡ right_sign g s t o → AreTaken v op a b L j k s p q
taken_by v op a b y u L j k m n s p q t o f g ya ub h i fe ge jn kn pn qn =
    taken_at v op a b y u L j k m n s p q t o ya ub h i (jn ∙ ap (λ z. left_width z L m n) fe) (kn ∙ ap (λ z. right_width z L m n) ge) (pn ∙ ap (λ z. left_sign z s t o) fe) (qn ∙ ap (λ z. right_sign z s t o) ge)

pub paren_value_some : (v : List Entry) (a tree y : Expr) (L : ℕ) (s : Bool) (r : Option Bits) → tree ≡ e.Paren a → y ≡ a → IfSome r (λ z. HasValue v y L s z) → IfSome r (λ z. HasValue v tree L s z)
paren_value_some v a tree y L s None is ya h = tt
paren_value_some v a tree y L s (Some z) is ya h = paren_value v a tree y L s z is ya h

pub paren_value_none : (v : List Entry) (a tree y : Expr) (L : ℕ) (s : Bool) (r : Option Bits) → tree ≡ e.Paren a → y ≡ a → IfNone r (IsDefined v y L s → ⊥) → IfNone r (IsDefined v tree L s → ⊥)
paren_value_none v a tree y L s None is ya h = λ k. h (paren_defined v a tree y L s is ya k)
paren_value_none v a tree y L s (Some z) is ya h = tt

pub binary_some : (v : List Entry) (op : Binary) (a b tree y u : Expr) (L j k : ℕ) (s p q : Bool) (r z : Bits) (x : Option Bits) → tree ≡ e.Binary op a b → y ≡ a → u ≡ b → AreTaken v op a b L j k s p q → HasValue v y j p r → HasValue v u k q z →
    IfSome x (λ w. (is_joined (family_of op) true true z.value ≡ true) × (w ≡ record { width = L; value = joined_number (family_of op) op L s r.width p r.value z.value })) → IfSome x (λ w. HasValue v tree L s w)
binary_some v op a b tree y u L j k s p q r z None is ya ub g h i t = tt
binary_some v op a b tree y u L j k s p q r z (Some x) is ya ub g h i t = binary_value v op a b tree y u L j k s p q r z x is ya ub g h i t.0 t.1

pub binary_none : (v : List Entry) (op : Binary) (a b tree y u : Expr) (L j k : ℕ) (s p q : Bool) (r z : Bits) (x : Option Bits) → tree ≡ e.Binary op a b → y ≡ a → u ≡ b → AreTaken v op a b L j k s p q → HasValue v y j p r → HasValue v u k q z →
    IfNone x (is_joined (family_of op) true true z.value ≡ false) → IfNone x (IsDefined v tree L s → ⊥)
binary_none v op a b tree y u L j k s p q r z None is ya ub g h i t = λ d. apart _ d (binary_test v op a b tree y u L j k s p q r z is ya ub g h i ∙ t)
binary_none v op a b tree y u L j k s p q r z (Some x) is ya ub g h i t = tt
