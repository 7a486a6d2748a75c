-- Expressions in another form: each form of parts that mean the same means the same.
use Rattle.std.proofs.Common.{◌≡◌, ℕ, ◌+◌, ◌-◌, ◌%◌, ◌^◌, ◌≤◌, Bool, true, false, refl, sym, ap, subst, ◌∙◌, List, [], ◌∷◌, ◌++◌, ◌&&◌, Option, Some, None, append_assoc, length, drop, drop_of_length-le, arith, ℤ, pos, ◌≤ℤ◌, ◌<ℤ◌}
use Rattle.std.specs.Prelude.{nat_eq, if◌then◌else◌, IfSome, IfNone}
use Rattle.std.proofs.lemmas.List.{append-nil}
use Rattle.std.proofs.Math.Nat.{mod-eq_of_lt}
use Rattle.vlog_tree.specs.declared.expr.Binary.{Binary}
use Rattle.vlog_tree.specs.declared.expr.Cast.{Cast}
use Rattle.vlog_tree.specs.declared.expr.Constant.{Constant}
use Rattle.vlog_tree.specs.declared.expr.Expr.{Expr}
use Rattle.vlog_tree.specs.declared.expr.Expr.TheVariants as e
use Rattle.vlog_tree.specs.declared.expr.Name.{Name}
use Rattle.vlog_tree.specs.declared.expr.Span.{Span}
use Rattle.vlog_tree.specs.declared.expr.Span.TheVariants as w
use Rattle.vlog_tree.specs.declared.expr.Unary.{Unary}
use Rattle.vlog_tree.specs.declared.token.Number.{Number}
use Rattle.vlog_tree.specs.declared.valuation.Entry.{Entry}
use Rattle.vlog_tree.specs.Valuation.{IsLength, named, depth_of}
use Rattle.vlog_tree.specs.Value.{Operand, operand_of, plain, bit_of, bits_of, word_of, part_of, part_width, part_low, cast_of, unary_of, binary_of, choice_of, joined, repeated, copies, natural, extend, is_negative, integer, own_defined, own_integer, width_of, sign_of, IsFormed, IsDefined, IsPart}
use Rattle.word_core.specs.Words.{Bits, IsWord}
use Rattle.vlog_tree_values.specs.Shapes.{HasShape, HasOwn, HasValue, each_row}
use Rattle.vlog_tree_values.specs.Meanings.{MeanSame, CountSame, RowSame}
use Rattle.vlog_tree_values.proofs.Facts.{own_is}
use Rattle.vlog_tree_values.proofs.Forms.{select_operand, part_operand, constant_select_operand, constant_part_operand, cast_operand, paren_operand, unary_operand, binary_operand, choice_operand, concat_operand, repeat_operand, select_formed, formed_select, part_formed, formed_part, constant_select_formed, formed_constant_select, constant_part_formed, formed_constant_part, cast_formed, formed_cast, paren_formed, formed_paren, unary_formed, formed_unary, binary_formed, formed_binary, choice_formed, formed_choice, concat_formed, formed_concat, repeat_formed, formed_repeat}

-- ---- the relations

mean_back : (v : List Entry) (a b : Expr) → MeanSame v a b → MeanSame v b a
mean_back v a b h = record { operand = sym h.operand; formed = (h.formed.1, h.formed.0) }

count_back : (v : List Entry) (a b : Expr) → CountSame v a b → CountSame v b a
count_back v a b h = record { number = sym h.number; defined = sym h.defined; formed = (h.formed.1, h.formed.0) }

row_back : (v : List Entry) (xs ys : List Expr) → RowSame v xs ys → RowSame v ys xs
row_back v xs ys h = record { operand = sym h.operand; formed = (h.formed.1, h.formed.0) }

-- a count in another form, and then in a third one
pub count_through : (v : List Entry) (a b c : Expr) → MeanSame v a b → CountSame v b c → CountSame v a c
count_through v a b c h k = record {
  number = k.number ∙ ap (λ (o : Operand). own_integer o) h.operand;
  defined = k.defined ∙ ap (λ (o : Operand). own_defined o) h.operand;
  formed = (λ m. h.formed.0 (k.formed.0 m), λ m. k.formed.1 (h.formed.1 m));
}

-- ---- numbers

as_it_is : (b : Bool) (n x : ℕ) → (if b then x + 2 ^ n - 2 ^ n else x) ≡ x
as_it_is true n x = omega arith
as_it_is false n x = refl

-- the number with the bits of an expression's value
pub number_same : (v : List Entry) (a : Expr) (r : Bits) (s : Bool) (n : Number) → IsWord r → HasOwn v a r s → n ≡ record { size = Some r.width; signed = s; value = r.value; wild = 0; wildcard = false; plain = false } → CountSame v a (e.Number n)
number_same v a r s n fits h is =
    let x = r.value % 2 ^ r.width in
    let low : r.value % 2 ^ r.width ≡ r.value = mod-eq_of_lt fits.fits in
    let whole : extend s r.width r.width x ≡ r.value = as_it_is (is_negative s r.width x) r.width x ∙ low in
    rw is record {
      number = ap (λ k. integer s r.width k) whole ∙ own_is v a a r s refl h;
      defined = sym h.defined;
      formed = (λ k. h.shape.formed, λ k. h.shape.length);
    }

-- ---- part-selects

abbrev part_at : Constant → Span → ℤ → ℤ → Bool → Bool → Operand
part_at k span i j p q = plain (part_width span i j) (bits_of k (part_low span i j) (part_width span i j)) (p && q)

part_same_operand : (v : List Entry) (k : Constant) (span : Span) (a b c d : Expr) → CountSame v a c → CountSame v b d →
    part_of k span (operand_of v c) (operand_of v d) ≡ part_of k span (operand_of v a) (operand_of v b)
part_same_operand v k span a b c d h g = λ z. part_at k span (h.number z) (g.number z) (h.defined z) (g.defined z)

part_suits_same : (v : List Entry) (k : Constant) (span : Span) (a b c d : Expr) → CountSame v a c → CountSame v b d →
    IsPart k span (operand_of v a) (operand_of v b) → IsPart k span (operand_of v c) (operand_of v d)
part_suits_same v k w.Fixed a b c d h g p =
    let Low : ℤ → Type 0 = λ i. pos k.low ≤ℤ i in
    let High : ℤ → Type 0 = λ i. i <ℤ pos (k.low + k.width) in
    ((λ z. h.defined z && g.defined z) ∙ p.0, subst Low (sym g.number) p.1, subst High (sym h.number) p.2)
part_suits_same v k w.Up a b c d h g p = g.defined ∙ p
part_suits_same v k w.Down a b c d h g p = g.defined ∙ p

part_width_same : (v : List Entry) (k : Constant) (span : Span) (a b c d : Expr) → CountSame v a c → CountSame v b d →
    IsLength (part_of k span (operand_of v a) (operand_of v b)).width → IsLength (part_of k span (operand_of v c) (operand_of v d)).width
part_width_same v k span a b c d h g len = subst IsLength (sym (ap (λ (o : Operand). o.width) (part_same_operand v k span a b c d h g))) len

part_goes : (v : List Entry) (x : Name) (span : Span) (a b c d : Expr) → CountSame v a c → CountSame v b d → IsFormed v (e.Part x span a b) → IsFormed v (e.Part x span c d)
part_goes v x span a b c d h g k =
    let p = part_formed v x span a b (e.Part x span a b) refl k in
    formed_part v x span c d (e.Part x span c d) refl
    (p.0, h.formed.1 p.1, g.formed.1 p.2, part_suits_same v (named v x) span a b c d h g p.3, part_width_same v (named v x) span a b c d h g p.4)

part_same : (v : List Entry) (x : Name) (span : Span) (a b c d : Expr) → CountSame v a c → CountSame v b d → MeanSame v (e.Part x span a b) (e.Part x span c d)
part_same v x span a b c d h g = record {
  operand = part_operand v x span c d ∙ (part_same_operand v (named v x) span a b c d h g ∙ sym (part_operand v x span a b));
  formed = (part_goes v x span c d a b (count_back v a c h) (count_back v b d g), part_goes v x span a b c d h g);
}

constant_part_goes : (v : List Entry) (k : Constant) (span : Span) (a b c d : Expr) → CountSame v a c → CountSame v b d → IsFormed v (e.ConstantPart k span a b) → IsFormed v (e.ConstantPart k span c d)
constant_part_goes v k span a b c d h g f =
    let p = constant_part_formed v k span a b (e.ConstantPart k span a b) refl f in
    formed_constant_part v k span c d (e.ConstantPart k span c d) refl
    (p.0, h.formed.1 p.1, g.formed.1 p.2, part_suits_same v k span a b c d h g p.3, part_width_same v k span a b c d h g p.4)

constant_part_same : (v : List Entry) (k : Constant) (span : Span) (a b c d : Expr) → CountSame v a c → CountSame v b d → MeanSame v (e.ConstantPart k span a b) (e.ConstantPart k span c d)
constant_part_same v k span a b c d h g = record {
  operand = constant_part_operand v k span c d ∙ (part_same_operand v k span a b c d h g ∙ sym (constant_part_operand v k span a b));
  formed = (constant_part_goes v k span c d a b (count_back v a c h) (count_back v b d g), constant_part_goes v k span a b c d h g);
}

-- ---- rows

pub no_parts : (v : List Entry) → RowSame v [] []
no_parts v = record { operand = refl; formed = (λ h. h, λ h. h) }

more_parts : (v : List Entry) (a b : Expr) (xs ys : List Expr) → MeanSame v a b → RowSame v xs ys → RowSame v (a ∷ xs) (b ∷ ys)
more_parts v a b xs ys h k = record {
  operand = λ z. joined (h.operand z) (k.operand z);
  formed = (λ m. (h.formed.0 m.0, k.formed.0 m.1), λ m. (h.formed.1 m.0, k.formed.1 m.1));
}

-- a row whose parts so far are folded: whatever folds the rest folds all
pub next_folded : (v : List Entry) (xs rest more all now : List Expr) (a b : Expr) → rest ≡ a ∷ more → MeanSame v a b → now ≡ all ++ b ∷ [] → ((ys : List Expr) → RowSame v rest ys → RowSame v xs (all ++ ys)) →
    (ys : List Expr) → RowSame v more ys → RowSame v xs (now ++ ys)
next_folded v xs rest more all now a b is h made before ys k = rw (made, append_assoc) (before (b ∷ ys) (rw is (more_parts v a b more ys h k)))

pub all_folded : (v : List Entry) (xs all : List Expr) (i : ℕ) → length xs ≤ i → ((ys : List Expr) → RowSame v (drop i xs) ys → RowSame v xs (all ++ ys)) → RowSame v xs all
all_folded v xs all i le before = subst (λ (ys : List Expr). RowSame v xs ys) (append-nil all) (before [] (rw (drop_of_length-le xs {i = i} le) (no_parts v)))

concat_goes : (v : List Entry) (xs ys : List Expr) → RowSame v xs ys → IsFormed v (e.Concat xs) → IsFormed v (e.Concat ys)
concat_goes v xs ys h k =
    let p = concat_formed v xs (e.Concat xs) refl k in
    formed_concat v ys (e.Concat ys) refl (h.formed.1 p.0, subst IsLength (sym (ap (λ (o : Operand). o.width) h.operand)) p.1)

concat_same : (v : List Entry) (xs ys : List Expr) → RowSame v xs ys → MeanSame v (e.Concat xs) (e.Concat ys)
concat_same v xs ys h = record {
  operand = concat_operand v ys ∙ (h.operand ∙ sym (concat_operand v xs));
  formed = (concat_goes v ys xs (row_back v xs ys h), concat_goes v xs ys h);
}

abbrev repeated_at : ℤ → Bool → Operand → Operand
repeated_at i p r = record (copies (natural i) r) { defined = λ L s. p && own_defined r }

repeat_same_operand : (v : List Entry) (a c : Expr) (xs ys : List Expr) → CountSame v a c → RowSame v xs ys → repeated (operand_of v c) (each_row v ys) ≡ repeated (operand_of v a) (each_row v xs)
repeat_same_operand v a c xs ys h k = λ z. repeated_at (h.number z) (h.defined z) (k.operand z)

repeat_goes : (v : List Entry) (a c : Expr) (xs ys : List Expr) → CountSame v a c → RowSame v xs ys → IsFormed v (e.Repeat a xs) → IsFormed v (e.Repeat c ys)
repeat_goes v a c xs ys h k f =
    let p = repeat_formed v a xs (e.Repeat a xs) refl f in
    formed_repeat v c ys (e.Repeat c ys) refl
    (h.formed.1 p.0, h.defined ∙ p.1, k.formed.1 p.2, subst IsLength (sym (ap (λ (o : Operand). o.width) (repeat_same_operand v a c xs ys h k))) p.3)

repeat_same : (v : List Entry) (a c : Expr) (xs ys : List Expr) → CountSame v a c → RowSame v xs ys → MeanSame v (e.Repeat a xs) (e.Repeat c ys)
repeat_same v a c xs ys h k = record {
  operand = repeat_operand v c ys ∙ (repeat_same_operand v a c xs ys h k ∙ sym (repeat_operand v a xs));
  formed = (repeat_goes v c a ys xs (count_back v a c h) (row_back v xs ys k), repeat_goes v a c xs ys h k);
}

-- ---- selects and operators

select_goes : (v : List Entry) (x : Name) (a b : Expr) → MeanSame v a b → IsFormed v (e.Select x a) → IsFormed v (e.Select x b)
select_goes v x a b h k = let p = select_formed v x a (e.Select x a) refl k in formed_select v x b (e.Select x b) refl (p.0, h.formed.1 p.1)

select_same : (v : List Entry) (x : Name) (a b : Expr) → MeanSame v a b → MeanSame v (e.Select x a) (e.Select x b)
select_same v x a b h = record {
  operand = select_operand v x b ∙ (ap (λ (o : Operand). if nat_eq (depth_of v x) 0 then bit_of (named v x) o else word_of v x o) h.operand ∙ sym (select_operand v x a));
  formed = (select_goes v x b a (mean_back v a b h), select_goes v x a b h);
}

constant_select_goes : (v : List Entry) (k : Constant) (a b : Expr) → MeanSame v a b → IsFormed v (e.ConstantSelect k a) → IsFormed v (e.ConstantSelect k b)
constant_select_goes v k a b h f = let p = constant_select_formed v k a (e.ConstantSelect k a) refl f in formed_constant_select v k b (e.ConstantSelect k b) refl (p.0, h.formed.1 p.1)

constant_select_same : (v : List Entry) (k : Constant) (a b : Expr) → MeanSame v a b → MeanSame v (e.ConstantSelect k a) (e.ConstantSelect k b)
constant_select_same v k a b h = record {
  operand = constant_select_operand v k b ∙ (ap (λ (o : Operand). bit_of k o) h.operand ∙ sym (constant_select_operand v k a));
  formed = (constant_select_goes v k b a (mean_back v a b h), constant_select_goes v k a b h);
}

cast_goes : (v : List Entry) (cast : Cast) (a b : Expr) → MeanSame v a b → IsFormed v (e.Cast cast a) → IsFormed v (e.Cast cast b)
cast_goes v cast a b h k = formed_cast v cast b (e.Cast cast b) refl (h.formed.1 (cast_formed v cast a (e.Cast cast a) refl k))

cast_same : (v : List Entry) (cast : Cast) (a b : Expr) → MeanSame v a b → MeanSame v (e.Cast cast a) (e.Cast cast b)
cast_same v cast a b h = record {
  operand = cast_operand v cast b ∙ (ap (λ (o : Operand). cast_of cast o) h.operand ∙ sym (cast_operand v cast a));
  formed = (cast_goes v cast b a (mean_back v a b h), cast_goes v cast a b h);
}

paren_same : (v : List Entry) (a b : Expr) → MeanSame v a b → MeanSame v (e.Paren a) b
paren_same v a b h = record {
  operand = h.operand ∙ sym (paren_operand v a);
  formed = (λ k. formed_paren v a (e.Paren a) refl (h.formed.0 k), λ k. h.formed.1 (paren_formed v a (e.Paren a) refl k));
}

unary_goes : (v : List Entry) (op : Unary) (a b : Expr) → MeanSame v a b → IsFormed v (e.Unary op a) → IsFormed v (e.Unary op b)
unary_goes v op a b h k = formed_unary v op b (e.Unary op b) refl (h.formed.1 (unary_formed v op a (e.Unary op a) refl k))

unary_same : (v : List Entry) (op : Unary) (a b : Expr) → MeanSame v a b → MeanSame v (e.Unary op a) (e.Unary op b)
unary_same v op a b h = record {
  operand = unary_operand v op b ∙ (ap (λ (o : Operand). unary_of op o) h.operand ∙ sym (unary_operand v op a));
  formed = (unary_goes v op b a (mean_back v a b h), unary_goes v op a b h);
}

binary_goes : (v : List Entry) (op : Binary) (a b c d : Expr) → MeanSame v a c → MeanSame v b d → IsFormed v (e.Binary op a b) → IsFormed v (e.Binary op c d)
binary_goes v op a b c d h g k = let p = binary_formed v op a b (e.Binary op a b) refl k in formed_binary v op c d (e.Binary op c d) refl (h.formed.1 p.0, g.formed.1 p.1)

binary_same : (v : List Entry) (op : Binary) (a b c d : Expr) → MeanSame v a c → MeanSame v b d → MeanSame v (e.Binary op a b) (e.Binary op c d)
binary_same v op a b c d h g = record {
  operand = binary_operand v op c d ∙ ((λ z. binary_of op (h.operand z) (g.operand z)) ∙ sym (binary_operand v op a b));
  formed = (binary_goes v op c d a b (mean_back v a c h) (mean_back v b d g), binary_goes v op a b c d h g);
}

choice_goes : (v : List Entry) (t a b u c d : Expr) → MeanSame v t u → MeanSame v a c → MeanSame v b d → IsFormed v (e.Choice t a b) → IsFormed v (e.Choice u c d)
choice_goes v t a b u c d f h g k =
    let p = choice_formed v t a b (e.Choice t a b) refl k in
    formed_choice v u c d (e.Choice u c d) refl (f.formed.1 p.0, h.formed.1 p.1, g.formed.1 p.2)

choice_same : (v : List Entry) (t a b u c d : Expr) → MeanSame v t u → MeanSame v a c → MeanSame v b d → MeanSame v (e.Choice t a b) (e.Choice u c d)
choice_same v t a b u c d f h g = record {
  operand = choice_operand v u c d ∙ ((λ z. choice_of (f.operand z) (h.operand z) (g.operand z)) ∙ sym (choice_operand v t a b));
  formed = (choice_goes v u c d t a b (mean_back v t u f) (mean_back v a c h) (mean_back v b d g), choice_goes v t a b u c d f h g);
}

-- ---- each form, as the code reads it and makes it

pub select_means : (v : List Entry) (x z : Name) (a y b tree : Expr) → tree ≡ e.Select x a → y ≡ a → z ≡ x → MeanSame v y b → MeanSame v tree (e.Select z b)
select_means v x z a y b tree is ya zx h = rw (is, zx) (select_same v x a b (rw ya at h))

pub part_means : (v : List Entry) (x z : Name) (span : Span) (a b y u c d tree : Expr) → tree ≡ e.Part x span a b → y ≡ a → u ≡ b → z ≡ x → CountSame v y c → CountSame v u d → MeanSame v tree (e.Part z span c d)
part_means v x z span a b y u c d tree is ya ub zx h g = rw (is, zx) (part_same v x span a b c d (rw ya at h) (rw ub at g))

pub constant_select_means : (v : List Entry) (k : Constant) (a y b tree : Expr) → tree ≡ e.ConstantSelect k a → y ≡ a → MeanSame v y b → MeanSame v tree (e.ConstantSelect k b)
constant_select_means v k a y b tree is ya h = rw is (constant_select_same v k a b (rw ya at h))

pub constant_part_means : (v : List Entry) (k : Constant) (span : Span) (a b y u c d tree : Expr) → tree ≡ e.ConstantPart k span a b → y ≡ a → u ≡ b → CountSame v y c → CountSame v u d → MeanSame v tree (e.ConstantPart k span c d)
constant_part_means v k span a b y u c d tree is ya ub h g = rw is (constant_part_same v k span a b c d (rw ya at h) (rw ub at g))

pub cast_means : (v : List Entry) (cast : Cast) (a y b tree : Expr) → tree ≡ e.Cast cast a → y ≡ a → MeanSame v y b → MeanSame v tree (e.Cast cast b)
cast_means v cast a y b tree is ya h = rw is (cast_same v cast a b (rw ya at h))

pub paren_means : (v : List Entry) (a y b tree : Expr) → tree ≡ e.Paren a → y ≡ a → MeanSame v y b → MeanSame v tree b
paren_means v a y b tree is ya h = rw is (paren_same v a b (rw ya at h))

pub concat_means : (v : List Entry) (xs ys zs : List Expr) (tree : Expr) → tree ≡ e.Concat xs → ys ≡ xs → RowSame v ys zs → MeanSame v tree (e.Concat zs)
concat_means v xs ys zs tree is yx h = rw is (concat_same v xs zs (rw yx at h))

pub repeat_means : (v : List Entry) (a y c : Expr) (xs ys zs : List Expr) (tree : Expr) → tree ≡ e.Repeat a xs → y ≡ a → ys ≡ xs → CountSame v y c → RowSame v ys zs → MeanSame v tree (e.Repeat c zs)
repeat_means v a y c xs ys zs tree is ya yx h k = rw is (repeat_same v a c xs zs (rw ya at h) (rw yx at k))

pub unary_means : (v : List Entry) (op : Unary) (a y b tree : Expr) → tree ≡ e.Unary op a → y ≡ a → MeanSame v y b → MeanSame v tree (e.Unary op b)
unary_means v op a y b tree is ya h = rw is (unary_same v op a b (rw ya at h))

pub binary_means : (v : List Entry) (op : Binary) (a b y u c d tree : Expr) → tree ≡ e.Binary op a b → y ≡ a → u ≡ b → MeanSame v y c → MeanSame v u d → MeanSame v tree (e.Binary op c d)
binary_means v op a b y u c d tree is ya ub h g = rw is (binary_same v op a b c d (rw ya at h) (rw ub at g))

pub choice_means : (v : List Entry) (t a b x y z u c d tree : Expr) → tree ≡ e.Choice t a b → x ≡ t → y ≡ a → z ≡ b → MeanSame v x u → MeanSame v y c → MeanSame v z d → MeanSame v tree (e.Choice u c d)
choice_means v t a b x y z u c d tree is xt ya zb f h g = rw is (choice_same v t a b u c d (rw xt at f) (rw ya at h) (rw zb at g))

-- ---- what is said of the one is said of the other

shape_back : (v : List Entry) (a b : Expr) (n : ℕ) (s : Bool) → MeanSame v a b → HasShape v b n s → HasShape v a n s
shape_back v a b n s h k = record {
  formed = h.formed.0 k.formed;
  width = k.width ∙ ap (λ (o : Operand). o.width) h.operand;
  sign = k.sign ∙ ap (λ (o : Operand). o.signed) h.operand;
  length = k.length;
}

pub measured_some : (v : List Entry) (a b : Expr) (r : Option (ℕ × Bool)) → MeanSame v a b → IfSome r (λ s. HasShape v b s.0 s.1) → IfSome r (λ s. HasShape v a s.0 s.1)
measured_some v a b None h k = tt
measured_some v a b (Some x) h k = shape_back v a b x.0 x.1 h k

pub measured_none : (v : List Entry) (a b : Expr) (r : Option (ℕ × Bool)) → MeanSame v a b → IfNone r (IsFormed v b → ⊥) → IfNone r (IsFormed v a → ⊥)
measured_none v a b None h k = λ f. k (h.formed.1 f)
measured_none v a b (Some x) h k = tt

own_back : (v : List Entry) (a b : Expr) (r : Bits) (s : Bool) → MeanSame v a b → HasOwn v b r s → HasOwn v a r s
own_back v a b r s h k = record {
  shape = shape_back v a b r.width s h k.shape;
  defined = sym (ap (λ (o : Operand). own_defined o) h.operand) ∙ k.defined;
  value = k.value ∙ ap (λ (o : Operand). o.value o.width o.signed) h.operand;
}

pub evaluated_some : (v : List Entry) (a b : Expr) (r : Option (Bits × Bool)) → MeanSame v a b → IfSome r (λ o. HasOwn v b o.0 o.1) → IfSome r (λ o. HasOwn v a o.0 o.1)
evaluated_some v a b None h k = tt
evaluated_some v a b (Some x) h k = own_back v a b x.0 x.1 h k

pub evaluated_none : (v : List Entry) (a b : Expr) (r : Option (Bits × Bool)) → MeanSame v a b → IfNone r (IsFormed v b → IsDefined v b (width_of v b) (sign_of v b) → ⊥) → IfNone r (IsFormed v a → IsDefined v a (width_of v a) (sign_of v a) → ⊥)
evaluated_none v a b None h k = λ f d. k (h.formed.1 f) (ap (λ (o : Operand). own_defined o) h.operand ∙ d)
evaluated_none v a b (Some x) h k = tt

pub evaluated_at_some : (v : List Entry) (a b : Expr) (L : ℕ) (s : Bool) (r : Option Bits) → MeanSame v a b → IfSome r (λ x. HasValue v b L s x) → IfSome r (λ x. HasValue v a L s x)
evaluated_at_some v a b L s None h k = tt
evaluated_at_some v a b L s (Some x) h k = record {
  defined = sym (ap (λ (o : Operand). o.defined L s) h.operand) ∙ k.defined;
  word = k.word ∙ ap (λ (o : Operand). let z : Bits = record { width = L; value = o.value L s } in z) h.operand;
}

pub evaluated_at_none : (v : List Entry) (a b : Expr) (L : ℕ) (s : Bool) (r : Option Bits) → MeanSame v a b → IfNone r (IsDefined v b L s → ⊥) → IfNone r (IsDefined v a L s → ⊥)
evaluated_at_none v a b L s None h k = λ d. k (ap (λ (o : Operand). o.defined L s) h.operand ∙ d)
evaluated_at_none v a b L s (Some x) h k = tt

pub width_kept : (v : List Entry) (a b : Expr) (L : ℕ) → MeanSame v a b → width_of v a ≤ L → width_of v b ≤ L
width_kept v a b L h le = let e : width_of v b ≡ width_of v a = ap (λ (o : Operand). o.width) h.operand in omega (arith, e, le)
