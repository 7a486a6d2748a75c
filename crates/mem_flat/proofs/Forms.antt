-- Each form of an expression, as the code reads it and makes it.
use Rattle.std.proofs.Common.{◌≡◌, ℕ, suc, ◌+◌, ◌-◌, ◌&&◌, Bool, true, false, nat_eq, List, [], ◌∷◌, ◌++◌, length, Option, None, sym, ap, ◌∙◌, refl, ◌<◌, ◌≤◌, drop, take, get_or, drop_of_length-le, arith}
use Rattle.std.specs.List.{flat_map}
use Rattle.std.proofs.Math.Dec.{eqb-suc-zero}
use Rattle.std.proofs.lemmas.List.{take_all, take-append-le}
use Rattle.vlog_tree.specs.declared.expr.Binary.{Binary}
use Rattle.vlog_tree.specs.declared.expr.Binary.TheVariants as b
use Rattle.vlog_tree.specs.declared.expr.Cast.{Cast}
use Rattle.vlog_tree.specs.declared.expr.Cast.TheVariants as c
use Rattle.vlog_tree.specs.declared.expr.Constant.{Constant}
use Rattle.vlog_tree.specs.declared.expr.Expr.{Expr, Row_of-Expr, end_of-Expr, more_of-Expr, items-the_row-Expr, items_hidden-the_row-Expr-1}
use Rattle.vlog_tree.specs.declared.expr.Expr.TheVariants as e
use Rattle.vlog_tree.specs.declared.expr.Expr.TheBlock.{shape-the_row-Expr-0, hidden-the_row-Expr-0, shape-the_row-Expr-1, hidden-the_row-Expr-1}
use Rattle.vlog_tree.specs.declared.expr.Name.{Name as Read}
use Rattle.vlog_tree.specs.declared.expr.Span.{Span}
use Rattle.vlog_tree.specs.declared.expr.Span.TheVariants as p
use Rattle.vlog_tree.specs.declared.expr.Unary.{Unary}
use Rattle.vlog_tree.specs.Valuation.{word_name}
use Rattle.vlog_tree_runs.specs.Places.{Name}
use Rattle.elab_flat_laws.specs.Moved.{moved, moved_row, number_for}
use Rattle.elab_flat_faults.specs.Texts.{names_in, row_names_in}
use Rattle.mem_laws.specs.Spread.{number, is_constant, is_word, word_read, chosen, bits_from}
use Rattle.mem_faults.proofs.Growing.{cut}
use denote.Hole.Carrier

-- ---- what the code makes

pub word_made : (a x y : Expr) (j : ℕ) → x ≡ e.Cast c.Unsigned a → y ≡ number 8 j → e.Binary b.Equal x y ≡ is_word a j
unfolding shape-the_row-Expr-0 hidden-the_row-Expr-0 denote.Hole.Carrier.hidden
word_made a x y j h k = λ q. e.Binary b.Equal (h q) (k q)

pub read_made : (n x : Read) (width j : ℕ) (high low : Expr) → n ≡ word_name x j → high ≡ number 8 (width - 1) → low ≡ number 8 0 → e.Part n p.Fixed high low ≡ word_read x width j
unfolding shape-the_row-Expr-0 hidden-the_row-Expr-0 denote.Hole.Carrier.hidden
read_made n x width j high low h i k = λ q. e.Part (h q) p.Fixed (i q) (k q)

pub chosen_made : (x : Read) (width : ℕ) (a : Expr) (j : ℕ) (js : List ℕ) (test word others r : Expr) → test ≡ is_word a j → word ≡ word_read x width j → others ≡ chosen x width a js →
    r ≡ e.Choice test word others → r ≡ chosen x width a (j ∷ js)
unfolding shape-the_row-Expr-0 hidden-the_row-Expr-0 denote.Hole.Carrier.hidden
chosen_made x width a j js test word others r h i k m = m ∙ (λ q. e.Choice (h q) (i q) (k q))

pub bits_made : (right r one zero x y : Expr) (width from : ℕ) → r ≡ right → one ≡ number 1 1 → zero ≡ number_for (record { width = width; low = 0; signed = true; value = 0 }) →
    x ≡ e.Choice one r zero → y ≡ number 8 from → e.Binary b.Shr x y ≡ bits_from right width from
unfolding shape-the_row-Expr-0 hidden-the_row-Expr-0 denote.Hole.Carrier.hidden
bits_made right r one zero x y width from h i k m n = λ q. e.Binary b.Shr ((m ∙ (λ z. e.Choice (i z) (h z) (k z))) q) (n q)

-- the first of some words, and the others
pub first_and_rest : (xs : List ℕ) → 1 ≤ length xs → get_or xs 0 0 ∷ take (length xs - 1) (drop 1 xs) ≡ xs
first_and_rest [] some = absurd (omega (arith, some))
first_and_rest (x ∷ xs) some = let long : length xs ≤ length (x ∷ xs) - 1 = omega arith in ap (λ ys. x ∷ ys) (take_all (length (x ∷ xs) - 1) xs long)

-- ---- names

abbrev none : List Name → Bool
none xs = nat_eq (length xs) 0

none_of : (xs ys : List Name) → none (xs ++ ys) ≡ none xs && none ys
none_of [] ys = refl
none_of (x ∷ xs) ys = eqb-suc-zero (length (xs ++ ys)) ∙ sym (ap (λ t. t && none ys) (eqb-suc-zero (length xs)))

one_name : (x : Name) (xs : List Name) → none (x ∷ xs) ≡ false
one_name x xs = eqb-suc-zero (length xs)

row_names_are : {m : _} (row : Row_of-Expr m) → row_names_in row ≡ flat_map names_in (items-the_row-Expr m row)
row_names_are end_of-Expr = refl
row_names_are (more_of-Expr a rest) = ap (λ ys. names_in a ++ ys) (row_names_are rest)

list_names_are : (xs : List Expr) → row_names_in (hidden-the_row-Expr-1 xs) ≡ flat_map names_in xs
list_names_are xs = row_names_are (hidden-the_row-Expr-1 xs) ∙ ap (flat_map names_in) (items_hidden-the_row-Expr-1 xs)

-- the test of each form

pub number_constant : (tree : Expr) (n : _) → tree ≡ e.Number n → true ≡ is_constant tree
number_constant tree n is = sym (ap is_constant is)

pub name_inconstant : (tree : Expr) (x : Read) → tree ≡ e.Name x → false ≡ is_constant tree
name_inconstant tree x is = sym (ap is_constant is ∙ one_name x.text [])

pub select_inconstant : (tree : Expr) (x : Read) (a : Expr) → tree ≡ e.Select x a → false ≡ is_constant tree
unfolding shape-the_row-Expr-0 hidden-the_row-Expr-0 denote.Hole.Carrier.hidden
select_inconstant tree x a is = sym (ap is_constant is ∙ one_name x.text (names_in a))

pub part_inconstant : (tree : Expr) (x : Read) (span : Span) (a d : Expr) → tree ≡ e.Part x span a d → false ≡ is_constant tree
unfolding shape-the_row-Expr-0 hidden-the_row-Expr-0 denote.Hole.Carrier.hidden
part_inconstant tree x span a d is = sym (ap is_constant is ∙ one_name x.text (names_in a ++ names_in d))

pub constant_select : (tree : Expr) (k : Constant) (a d : Expr) (t : Bool) → tree ≡ e.ConstantSelect k a → d ≡ a → t ≡ is_constant d → t ≡ is_constant tree
unfolding shape-the_row-Expr-0 hidden-the_row-Expr-0 denote.Hole.Carrier.hidden
constant_select tree k a d t is h m = m ∙ (ap is_constant h ∙ sym (ap is_constant is))

pub constant_part : (tree : Expr) (k : Constant) (span : Span) (a d x y : Expr) (t u r : Bool) → tree ≡ e.ConstantPart k span a d → x ≡ a → y ≡ d → t ≡ is_constant x → u ≡ is_constant y →
    r ≡ (t && u) → r ≡ is_constant tree
unfolding shape-the_row-Expr-0 hidden-the_row-Expr-0 denote.Hole.Carrier.hidden
constant_part tree k span a d x y t u r is h i m n o =
    o ∙ ((λ q. (m ∙ ap is_constant h) q && (n ∙ ap is_constant i) q) ∙ (sym (none_of (names_in a) (names_in d)) ∙ sym (ap is_constant is)))

pub cast_constant : (tree : Expr) (k : Cast) (a d : Expr) (t : Bool) → tree ≡ e.Cast k a → d ≡ a → t ≡ is_constant d → t ≡ is_constant tree
unfolding shape-the_row-Expr-0 hidden-the_row-Expr-0 denote.Hole.Carrier.hidden
cast_constant tree k a d t is h m = m ∙ (ap is_constant h ∙ sym (ap is_constant is))

pub paren_constant : (tree a d : Expr) (t : Bool) → tree ≡ e.Paren a → d ≡ a → t ≡ is_constant d → t ≡ is_constant tree
unfolding shape-the_row-Expr-0 hidden-the_row-Expr-0 denote.Hole.Carrier.hidden
paren_constant tree a d t is h m = m ∙ (ap is_constant h ∙ sym (ap is_constant is))

pub unary_constant : (tree : Expr) (op : Unary) (a d : Expr) (t : Bool) → tree ≡ e.Unary op a → d ≡ a → t ≡ is_constant d → t ≡ is_constant tree
unfolding shape-the_row-Expr-0 hidden-the_row-Expr-0 denote.Hole.Carrier.hidden
unary_constant tree op a d t is h m = m ∙ (ap is_constant h ∙ sym (ap is_constant is))

pub concat_constant : (tree : Expr) (xs ys : List Expr) (t : Bool) → tree ≡ e.Concat xs → ys ≡ xs → t ≡ none (flat_map names_in ys) → t ≡ is_constant tree
concat_constant tree xs ys t is h m =
    m ∙ (ap (λ zs. none (flat_map names_in zs)) h ∙ (ap none (sym (list_names_are xs)) ∙ sym (ap is_constant is)))

pub repeat_constant : (tree a d : Expr) (xs ys : List Expr) (t u r : Bool) → tree ≡ e.Repeat a xs → d ≡ a → ys ≡ xs → t ≡ is_constant d → u ≡ none (flat_map names_in ys) → r ≡ (t && u) →
    r ≡ is_constant tree
unfolding shape-the_row-Expr-0 hidden-the_row-Expr-0 denote.Hole.Carrier.hidden
repeat_constant tree a d xs ys t u r is h i m n o =
    o ∙ ((λ q. (m ∙ ap is_constant h) q && (n ∙ (ap (λ zs. none (flat_map names_in zs)) i ∙ ap none (sym (list_names_are xs)))) q)
    ∙ (sym (none_of (names_in a) (row_names_in (hidden-the_row-Expr-1 xs))) ∙ sym (ap is_constant is)))

pub binary_constant : (tree : Expr) (op : Binary) (a d x y : Expr) (t u r : Bool) → tree ≡ e.Binary op a d → x ≡ a → y ≡ d → t ≡ is_constant x → u ≡ is_constant y → r ≡ (t && u) →
    r ≡ is_constant tree
unfolding shape-the_row-Expr-0 hidden-the_row-Expr-0 denote.Hole.Carrier.hidden
binary_constant tree op a d x y t u r is h i m n o =
    o ∙ ((λ q. (m ∙ ap is_constant h) q && (n ∙ ap is_constant i) q) ∙ (sym (none_of (names_in a) (names_in d)) ∙ sym (ap is_constant is)))

pub choice_constant : (tree s a d w x y : Expr) (t u v ends r : Bool) → tree ≡ e.Choice s a d → w ≡ s → x ≡ a → y ≡ d → t ≡ is_constant w → u ≡ is_constant x → v ≡ is_constant y →
    ends ≡ (t && u) → r ≡ (ends && v) → r ≡ is_constant tree
unfolding shape-the_row-Expr-0 hidden-the_row-Expr-0 denote.Hole.Carrier.hidden
choice_constant tree s a d w x y t u v ends r is g h i l m n k o =
    o ∙ ((λ q. (k ∙ ((λ z. (l ∙ ap is_constant g) z && (m ∙ ap is_constant h) z) ∙ sym (none_of (names_in s) (names_in a)))) q && (n ∙ ap is_constant i) q)
    ∙ (sym (none_of (names_in s ++ names_in a) (names_in d)) ∙ sym (ap is_constant is)))

-- a list of which the first names something, or nothing
pub more_constant : (a : Expr) (rest : List Expr) → none (names_in a ++ flat_map names_in rest) ≡ is_constant a && none (flat_map names_in rest)
more_constant a rest = none_of (names_in a) (flat_map names_in rest)

module _ (xs : List Expr) (i : ℕ) where
  -- whether the rest of a list names nothing is what is asked of the whole
  pub one_constant : (x : Expr) (t : Bool) (whole : Bool) → i < length xs → x ≡ get_or xs i x → t ≡ is_constant x → t ≡ true → none (flat_map names_in (drop i xs)) ≡ whole →
      none (flat_map names_in (drop (i + 1) xs)) ≡ whole
  one_constant x t whole lt is same true_is h =
      let rest = drop (i + 1) xs in
      sym (ap (λ z. none (flat_map names_in z)) (cut xs i x lt is) ∙ (more_constant x rest ∙ ap (λ u. u && none (flat_map names_in rest)) (sym same ∙ true_is))) ∙ h

  pub none_constant : (x : Expr) (t : Bool) (whole : Bool) → i < length xs → x ≡ get_or xs i x → t ≡ is_constant x → t ≡ false → none (flat_map names_in (drop i xs)) ≡ whole → false ≡ whole
  none_constant x t whole lt is same false_is h =
      let rest = drop (i + 1) xs in
      sym (ap (λ z. none (flat_map names_in z)) (cut xs i x lt is) ∙ (more_constant x rest ∙ ap (λ u. u && none (flat_map names_in rest)) (sym same ∙ false_is))) ∙ h

  pub all_constant : (whole : Bool) → length xs ≤ i → none (flat_map names_in (drop i xs)) ≡ whole → true ≡ whole
  all_constant whole le h = sym (ap (λ z. none (flat_map names_in z)) (drop_of_length-le xs {i = i} le)) ∙ h
