-- Lengths and signs of each form.
use Rattle.std.proofs.Common.{◌≡◌, ℕ, zero, suc, ◌+◌, ◌*◌, ◌≤◌, max, Bool, true, false, refl, sym, ap, ◌∙◌, List, [], ◌∷◌, ◌&&◌, IsTrue, Option, Some, None, arith, ℤ}
use Rattle.std.specs.Prelude.{nat_eq, if◌then◌else◌, IfSome, IfNone}
use Rattle.vlog_tree.specs.declared.expr.Binary.{Binary}
use Rattle.vlog_tree.specs.declared.expr.Cast.{Cast}
use Rattle.vlog_tree.specs.declared.expr.Constant.{Constant}
use Rattle.vlog_tree.specs.declared.expr.Expr.{Expr}
use Rattle.vlog_tree.specs.declared.expr.Expr.TheVariants as e
use Rattle.vlog_tree.specs.declared.expr.Name.{Name}
use Rattle.vlog_tree.specs.declared.expr.Span.{Span}
use Rattle.vlog_tree.specs.declared.expr.Span.TheVariants as w
use Rattle.vlog_tree.specs.declared.expr.Unary.{Unary}
use Rattle.vlog_tree.specs.declared.valuation.Entry.{Entry}
use Rattle.vlog_tree.specs.Valuation.{IsLength, named, depth_of}
use Rattle.vlog_tree.specs.Value.{Operand, operand_of, bit_of, word_of, part_of, cast_sign, repeated, copies, own_defined, own_integer, integer, width_of, sign_of, part_width, natural, IsFormed, IsDefined, Stands, IsPart}
use Rattle.word_core.specs.Words.{Bits}
use Rattle.vlog_tree_values.specs.declared.operators.Family.{Family}
use Rattle.vlog_tree_values.specs.Operators.{family_of, joined_width, joined_sign, is_reduction, made_width, made_sign}
use Rattle.vlog_tree_values.specs.Shapes.{HasShape, HasOwn, HasBound, NeedsBound, FitsPart, HasRow, each_row}
use Rattle.vlog_tree_values.proofs.Forms.{select_operand, part_operand, constant_select_operand, constant_part_operand, cast_operand, paren_operand, unary_operand, binary_operand, choice_operand, concat_operand, repeat_operand, formed_select, formed_part, formed_constant_select, formed_constant_part, formed_cast, formed_paren, formed_unary, formed_binary, formed_choice, formed_concat, formed_repeat, paren_formed}
use Rattle.vlog_tree_values.proofs.Families.{binary_width, binary_sign, unary_width, unary_sign}
use Rattle.vlog_tree_values.proofs.Lengths.{made_length, joined_length}

-- an answer that gives no shape, and one that gives no value
pub unformed : (v : List Entry) (tree : Expr) (r : Option (ℕ × Bool)) → (IsFormed v tree → ⊥) → IfNone r (IsFormed v tree → ⊥)
unformed v tree None h = h
unformed v tree (Some x) h = tt

pub undefined : (v : List Entry) (tree : Expr) (L : ℕ) (s : Bool) (r : Option Bits) → (IsDefined v tree L s → ⊥) → IfNone r (IsDefined v tree L s → ⊥)
undefined v tree L s None h = h
undefined v tree L s (Some x) h = tt

pub both_true : (p q : Bool) → IsTrue (p && q) → IsTrue p × IsTrue q
both_true true q h = (refl, h)
both_true false q h = cc

pub and_true : (p q : Bool) → IsTrue p → IsTrue q → IsTrue (p && q)
and_true true q h k = k
and_true false q h k = cc

select_width : (b : Bool) (v : List Entry) (x : Name) (o : Operand) → (if b then bit_of (named v x) o else word_of v x o).width ≡ (if b then 1 else (named v x).width)
select_width true v x o = refl
select_width false v x o = refl

select_sign : (b : Bool) (v : List Entry) (x : Name) (o : Operand) → (if b then bit_of (named v x) o else word_of v x o).signed ≡ false
select_sign true v x o = refl
select_sign false v x o = refl

pub select_has : (v : List Entry) (x : Name) (a tree y : Expr) (k : Constant) (d n : ℕ) (s : Bool) → tree ≡ e.Select x a → Stands v x → k ≡ named v x → IsLength k.width → y ≡ a → IsFormed v y → d ≡ depth_of v x →
    n ≡ (if nat_eq d 0 then 1 else k.width) → s ≡ false → HasShape v tree n s
select_has v x a tree y k d n s is st kn len ya fy dn nn sn =
    let n' : n ≡ (if nat_eq (depth_of v x) 0 then 1 else (named v x).width) = nn ∙ ap (λ j. if nat_eq j 0 then 1 else k.width) dn ∙ ap (λ (z : Constant). if nat_eq (depth_of v x) 0 then 1 else z.width) kn in
    record {
      formed = formed_select v x a tree is (st, rw ya at fy);
      width = rw (is, width_of, select_operand) (n' ∙ sym (select_width (nat_eq (depth_of v x) 0) v x (operand_of v a)));
      sign = rw (is, sign_of, select_operand) (sn ∙ sym (select_sign (nat_eq (depth_of v x) 0) v x (operand_of v a)));
      length = rw nn (made_length (nat_eq d 0) k.width len);
    }

pub constant_select_has : (v : List Entry) (k : Constant) (a tree y : Expr) → tree ≡ e.ConstantSelect k a → IsLength k.width → y ≡ a → IsFormed v y → HasShape v tree 1 false
constant_select_has v k a tree y is len ya fy = record {
  formed = formed_constant_select v k a tree is (len, rw ya at fy);
  width = rw (is, width_of, constant_select_operand) refl;
  sign = rw (is, sign_of, constant_select_operand) refl;
  length = (omega arith, omega arith);
}

pub cast_has : (v : List Entry) (cast : Cast) (a tree y : Expr) (n : ℕ) (s t : Bool) → tree ≡ e.Cast cast a → y ≡ a → HasShape v y n t → s ≡ cast_sign cast → HasShape v tree n s
cast_has v cast a tree y n s t is ya h sn =
    let h' = rw ya at h in
    record { formed = formed_cast v cast a tree is h'.formed; width = rw (is, width_of, cast_operand) h'.width; sign = rw (is, sign_of, cast_operand) sn; length = h'.length }

pub paren_has : (v : List Entry) (a tree y : Expr) (n : ℕ) (s : Bool) → tree ≡ e.Paren a → y ≡ a → HasShape v y n s → HasShape v tree n s
paren_has v a tree y n s is ya h =
    let h' = rw ya at h in
    record { formed = formed_paren v a tree is h'.formed; width = rw (is, width_of, paren_operand) h'.width; sign = rw (is, sign_of, paren_operand) h'.sign; length = h'.length }

pub paren_some : (v : List Entry) (a tree y : Expr) (r : Option (ℕ × Bool)) → tree ≡ e.Paren a → y ≡ a → IfSome r (λ s. HasShape v y s.0 s.1) → IfSome r (λ s. HasShape v tree s.0 s.1)
paren_some v a tree y None is ya h = tt
paren_some v a tree y (Some x) is ya h = paren_has v a tree y x.0 x.1 is ya h

pub paren_none : (v : List Entry) (a tree y : Expr) (r : Option (ℕ × Bool)) → tree ≡ e.Paren a → y ≡ a → IfNone r (IsFormed v y → ⊥) → IfNone r (IsFormed v tree → ⊥)
paren_none v a tree y None is ya h = λ k. h (rw ya (paren_formed v a tree is k))
paren_none v a tree y (Some x) is ya h = tt

pub unary_has : (v : List Entry) (op : Unary) (a tree y : Expr) (n m : ℕ) (s t : Bool) → tree ≡ e.Unary op a → y ≡ a → HasShape v y m t → n ≡ made_width op m → s ≡ made_sign op t → HasShape v tree n s
unary_has v op a tree y n m s t is ya h nn sn =
    let h' = rw ya at h in
    record {
      formed = formed_unary v op a tree is h'.formed;
      width = rw (is, width_of, unary_operand) (nn ∙ ap (λ j. made_width op j) h'.width ∙ sym (unary_width op (operand_of v a)));
      sign = rw (is, sign_of, unary_operand) (sn ∙ ap (λ j. made_sign op j) h'.sign ∙ sym (unary_sign op (operand_of v a)));
      length = rw nn (made_length (is_reduction op) m h.length);
    }

pub binary_has : (v : List Entry) (op : Binary) (a b tree y z : Expr) (g : Family) (k m n : ℕ) (s t u : Bool) → tree ≡ e.Binary op a b → y ≡ a → z ≡ b → HasShape v y m t → HasShape v z n u → g ≡ family_of op → k ≡ joined_width g m n →
    s ≡ joined_sign g t u → HasShape v tree k s
binary_has v op a b tree y z g k m n s t u is ya zb l r ge kg sg =
    let kn : k ≡ joined_width (family_of op) m n = rw ge at kg in
    let sn : s ≡ joined_sign (family_of op) t u = rw ge at sg in
    let l' = rw ya at l in
    let r' = rw zb at r in
    let A = operand_of v a in
    let B = operand_of v b in
    record {
      formed = formed_binary v op a b tree is (l'.formed, r'.formed);
      width = rw (is, width_of, binary_operand) (kn ∙ ap (λ j. joined_width (family_of op) j n) l'.width ∙ ap (λ j. joined_width (family_of op) (width_of v a) j) r'.width ∙ sym (binary_width op A B));
      sign = rw (is, sign_of, binary_operand) (sn ∙ ap (λ j. joined_sign (family_of op) j u) l'.sign ∙ ap (λ j. joined_sign (family_of op) (sign_of v a) j) r'.sign ∙ sym (binary_sign op A B));
      length = rw kn (joined_length (family_of op) m n l.length r.length);
    }

pub choice_has : (v : List Entry) (c a b tree x y z : Expr) (k m n : ℕ) (s t u : Bool) → tree ≡ e.Choice c a b → x ≡ c → y ≡ a → z ≡ b → IsFormed v x → HasShape v y m t → HasShape v z n u → k ≡ max m n → s ≡ (t && u) → HasShape v tree k s
choice_has v c a b tree x y z k m n s t u is xc ya zb f l r kn sn =
    let l' = rw ya at l in
    let r' = rw zb at r in
    record {
      formed = formed_choice v c a b tree is (rw xc at f, l'.formed, r'.formed);
      width = rw (is, width_of, choice_operand) (kn ∙ ap (λ j. max j n) l'.width ∙ ap (λ j. max (width_of v a) j) r'.width);
      sign = rw (is, sign_of, choice_operand) (sn ∙ ap (λ j. j && u) l'.sign ∙ ap (λ j. sign_of v a && j) r'.sign);
      length = (omega (arith, kn, l.length, r.length), omega (arith, kn, l.length, r.length));
    }

pub concat_has : (v : List Entry) (items row : List Expr) (tree : Expr) (n : ℕ) → tree ≡ e.Concat items → row ≡ items → HasRow v row n → IsLength n → HasShape v tree n false
concat_has v items row tree n is ri h len =
    let h' = rw ri at h in
    record {
      formed = formed_concat v items tree is (h'.formed, rw h'.width at len);
      width = rw (is, width_of, concat_operand) h'.width;
      sign = rw (is, sign_of, concat_operand) (plain_row items);
      length = len;
    }
  where
    plain_row : (l : List Expr) → false ≡ (each_row v l).signed
    plain_row [] = refl
    plain_row (a ∷ rest) = refl

-- ---- counts

pub copies_width : (n : ℕ) (o : Operand) → (copies n o).width ≡ n * o.width
copies_width zero o = omega arith
copies_width (suc n) o = ap (λ k. o.width + k) (copies_width n o) ∙ (omega arith)

copies_sign : (n : ℕ) (o : Operand) → (copies n o).signed ≡ false
copies_sign zero o = refl
copies_sign (suc n) o = refl

-- the integer that a part has been found to be
pub own_is : (v : List Entry) (a y : Expr) (r : Bits) (s : Bool) → y ≡ a → HasOwn v y r s → integer s r.width r.value ≡ own_integer (operand_of v a)
own_is v a y r s ya h =
    let h' = rw ya at h in
    rw (h'.shape.width, h'.shape.sign, h'.value) refl

pub own_defined_is : (v : List Entry) (a y : Expr) (r : Bits) (s : Bool) → y ≡ a → HasOwn v y r s → IsTrue (own_defined (operand_of v a))
own_defined_is v a y r s ya h = rw ya at h.defined

pub own_formed : (v : List Entry) (a y : Expr) (r : Bits) (s : Bool) → y ≡ a → HasOwn v y r s → IsFormed v a
own_formed v a y r s ya h = rw ya at h.shape.formed

pub repeat_has : (v : List Entry) (a : Expr) (items row : List Expr) (tree y : Expr) (r : Bits) (i : ℤ) (s : Bool) (n m : ℕ) → tree ≡ e.Repeat a items → y ≡ a → row ≡ items → HasOwn v y r s → i ≡ integer s r.width r.value →
    HasRow v row m → n ≡ natural i * m → IsLength n → HasShape v tree n false
repeat_has v a items row tree y r i s n m is ya ri o iw h nn len =
    let h' = rw ri at h in
    let count : i ≡ own_integer (operand_of v a) = iw ∙ own_is v a y r s ya o in
    let wide : n ≡ (repeated (operand_of v a) (each_row v items)).width =
    nn ∙ ap (λ j. natural i * j) h'.width ∙ ap (λ j. natural j * (each_row v items).width) count ∙ sym (copies_width (natural (own_integer (operand_of v a))) (each_row v items)) in
    record {
      formed = formed_repeat v a items tree is (own_formed v a y r s ya o, own_defined_is v a y r s ya o, h'.formed, rw wide at len);
      width = rw (is, width_of, repeat_operand) wide;
      sign = rw (is, sign_of, repeat_operand) (sym (copies_sign (natural (own_integer (operand_of v a))) (each_row v items)));
      length = len;
    }

-- ---- part-selects

pub needs_bound : (v : List Entry) (k : Constant) (span : Span) (a y : Expr) (B : Operand) → y ≡ a → IsFormed v a → IsPart k span (operand_of v a) B → NeedsBound v y span
needs_bound v k w.Fixed a y B ya f p = (rw ya f, rw ya (both_true (own_defined (operand_of v a)) (own_defined B) p.0).0)
needs_bound v k w.Up a y B ya f p = rw ya f
needs_bound v k w.Down a y B ya f p = rw ya f

pub needs_second : (k : Constant) (span : Span) (A B : Operand) → IsPart k span A B → IsTrue (own_defined B)
needs_second k w.Fixed A B p = (both_true (own_defined A) (own_defined B) p.0).1
needs_second k w.Up A B p = p
needs_second k w.Down A B p = p

pub part_fits : (v : List Entry) (k : Constant) (span : Span) (a b y z : Expr) (i j : ℤ) (r : Bits) (s : Bool) → y ≡ a → z ≡ b → HasBound v y span i → HasOwn v z r s → j ≡ integer s r.width r.value →
    IsPart k span (operand_of v a) (operand_of v b) → IsLength (part_of k span (operand_of v a) (operand_of v b)).width → FitsPart k span i j
part_fits v k w.Fixed a b y z i j r s ya zb h o jn p len =
    let first : i ≡ own_integer (operand_of v a) = rw ya at h.2 in
    let second : j ≡ own_integer (operand_of v b) = jn ∙ own_is v b z r s zb o in
    rw (first, second) (p.1, p.2, len)
part_fits v k w.Up a b y z i j r s ya zb h o jn p len =
    let second : j ≡ own_integer (operand_of v b) = jn ∙ own_is v b z r s zb o in
    rw second len
part_fits v k w.Down a b y z i j r s ya zb h o jn p len =
    let second : j ≡ own_integer (operand_of v b) = jn ∙ own_is v b z r s zb o in
    rw second len

pub record PartShape (v : List Entry) (k : Constant) (span : Span) (a b : Expr) (n : ℕ) : Type 0 where
  pub first : IsFormed v a
  pub second : IsFormed v b
  pub suits : IsPart k span (operand_of v a) (operand_of v b)
  pub width : n ≡ (part_of k span (operand_of v a) (operand_of v b)).width

pub part_shape : (v : List Entry) (k : Constant) (span : Span) (a b y z : Expr) (i j : ℤ) (r : Bits) (s : Bool) (n : ℕ) → y ≡ a → z ≡ b → HasBound v y span i → HasOwn v z r s → j ≡ integer s r.width r.value →
    FitsPart k span i j → n ≡ part_width span i j → PartShape v k span a b n
part_shape v k w.Fixed a b y z i j r s n ya zb h o jn f nn =
    let first : i ≡ own_integer (operand_of v a) = rw ya at h.2 in
    let second : j ≡ own_integer (operand_of v b) = jn ∙ own_is v b z r s zb o in
    let f' = rw (first, second) at f in
    record {
      first = rw ya at h.0;
      second = own_formed v b z r s zb o;
      suits = (and_true _ _ (rw ya at h.1) (own_defined_is v b z r s zb o), f'.0, f'.1);
      width = rw (first, second) at nn;
    }
part_shape v k w.Up a b y z i j r s n ya zb h o jn f nn =
    let second : j ≡ own_integer (operand_of v b) = jn ∙ own_is v b z r s zb o in
    record { first = rw ya at h; second = own_formed v b z r s zb o; suits = own_defined_is v b z r s zb o; width = rw second at nn }
part_shape v k w.Down a b y z i j r s n ya zb h o jn f nn =
    let second : j ≡ own_integer (operand_of v b) = jn ∙ own_is v b z r s zb o in
    record { first = rw ya at h; second = own_formed v b z r s zb o; suits = own_defined_is v b z r s zb o; width = rw second at nn }

part_length : (k : Constant) (span : Span) (i j : ℤ) → FitsPart k span i j → IsLength (part_width span i j)
part_length k w.Fixed i j f = f.2
part_length k w.Up i j f = f
part_length k w.Down i j f = f

pub part_has : (v : List Entry) (x : Name) (k : Constant) (span : Span) (a b tree : Expr) (i j : ℤ) (n : ℕ) → tree ≡ e.Part x span a b → Stands v x → k ≡ named v x → PartShape v k span a b n → FitsPart k span i j → n ≡ part_width span i j →
    HasShape v tree n false
part_has v x k span a b tree i j n is st kn p f nn =
    let len : IsLength n = rw nn (part_length k span i j f) in
    let p' = rw kn at p in
    record {
      formed = formed_part v x span a b tree is (st, p'.first, p'.second, p'.suits, rw p'.width at len);
      width = rw (is, width_of, part_operand) p'.width;
      sign = rw (is, sign_of, part_operand) refl;
      length = len;
    }

pub constant_part_has : (v : List Entry) (k : Constant) (span : Span) (a b tree : Expr) (i j : ℤ) (n : ℕ) → tree ≡ e.ConstantPart k span a b → IsLength k.width → PartShape v k span a b n → FitsPart k span i j → n ≡ part_width span i j →
    HasShape v tree n false
constant_part_has v k span a b tree i j n is st p f nn =
    let len : IsLength n = rw nn (part_length k span i j f) in
    record {
      formed = formed_constant_part v k span a b tree is (st, p.first, p.second, p.suits, rw p.width at len);
      width = rw (is, width_of, constant_part_operand) p.width;
      sign = rw (is, sign_of, constant_part_operand) refl;
      length = len;
    }

-- a row that a count repeats has at most 64 bits
pub row_short : (v : List Entry) (A : Operand) (items : List Expr) → IsLength (repeated A (each_row v items)).width → (each_row v items).width ≤ 64
row_short v A items len = short (natural (own_integer A)) (each_row v items).width (rw (copies_width (natural (own_integer A)) (each_row v items)) at len)
  where
    short : (n m : ℕ) → IsLength (n * m) → m ≤ 64
    short zero m l = absurd (omega (arith, l.0))
    short (suc n) m l = omega (arith, l.1)

pub repeat_fits : (v : List Entry) (a : Expr) (items row : List Expr) (y : Expr) (r : Bits) (i : ℤ) (s : Bool) (m : ℕ) → y ≡ a → row ≡ items → HasOwn v y r s → i ≡ integer s r.width r.value → HasRow v row m →
    IsLength (repeated (operand_of v a) (each_row v items)).width → IsLength (natural i * m)
repeat_fits v a items row y r i s m ya ri o iw h len =
    let h' = rw ri at h in
    let count : i ≡ own_integer (operand_of v a) = iw ∙ own_is v a y r s ya o in
    rw (h'.width, count) (rw (copies_width (natural (own_integer (operand_of v a))) (each_row v items)) at len)
