-- Concatenations, part by part.
use Rattle.std.proofs.Common.{◌≡◌, ℕ, zero, suc, ◌+◌, ◌*◌, ◌^◌, ◌≤◌, Bool, true, false, refl, sym, ap, ◌∙◌, subst, List, [], ◌∷◌, IsTrue, arith}
use Rattle.std.specs.Prelude.{nat_eq, if◌then◌else◌}
use Rattle.std.proofs.lemmas.Bool.Decides.{nat_tests}
use Rattle.vlog_tree.specs.declared.expr.Expr.{Expr}
use Rattle.vlog_tree.specs.declared.expr.Expr.TheVariants as e
use Rattle.vlog_tree.specs.Valuation.{IsLength}
use Rattle.vlog_tree.specs.Value.{Operand, operand_of, own, own_defined, own_integer, natural, extend, copies, width_of, sign_of, value_of, HasConstantParts}
use Rattle.word_core.specs.Words.{Bits}
use Rattle.word_dag.specs.declared.node.Node.{Node}
use Rattle.word_dag.specs.Nodes.{Naming, word_at}
use Rattle.word_dag.specs.Adding.{Keeps}
use Rattle.vlog_tree_values.specs.Shapes.{HasShape, HasRowWord, each_row, copy_number}
use Rattle.vlog_tree_values.proofs.Facts.{and_true, copies_width}
use Rattle.vlog_tree_values.proofs.Forms.{concat_operand, repeat_operand}
use Rattle.vlog_tree_values.proofs.Rows.{next_number}
use Rattle.vlog_tree_values.proofs.Values.{concat_value}
use Rattle.elab_step_expr.specs.declared.leaves.Leaf.{Leaf}
use Rattle.elab_step_expr.specs.declared.nodes.Wire.{Wire}
use Rattle.elab_step_expr.specs.Leaves.{valued, declared, AreReady}
use Rattle.elab_step_expr.specs.Nodes.{IsWire, words, number_at, Makes}
use Rattle.elab_step_expr.specs.Terms.{nothing, IsTaken, IsAlone, EachAlone, IsRow, HasNode, HasOwnNode, HasRowNode, so_far}
use Rattle.elab_step_expr.proofs.Alike.{same_operand, constant_same}
use Rattle.elab_step_expr.proofs.Forms.{settled}
use Rattle.elab_step_expr.proofs.Kept.{made_node, made_number, made_same, number_kept, valued_kept}
use Rattle.vlog_tree_values.proofs.Lengths.{formed_shape}
use Rattle.vlog_tree_values.proofs.Shaped.{concat_shape}
use Rattle.elab_step_expr.proofs.Parts.{EachConstant, each_constant, repeat_constant, concat_row}
use Rattle.elab_step_expr.proofs.Read.{alike_valued}
use Rattle.elab_step_expr.proofs.Shaped.{alone_taken, defined_valued, own_defined_valued, shape_valued}
use Rattle.elab_step_expr.proofs.Whole.{own_wide}

abbrev at : ℕ → ℕ → Bits
at n x = record { width = n; value = x }

-- ---- lengths don't depend on values

row_wide : (ls : List Leaf) (ws : List Bits) (items : List Expr) → EachConstant items → (each_row (declared ls) items).width ≡ (each_row (valued ls ws) items).width
row_wide ls ws [] h = refl
row_wide ls ws (a ∷ rest) h =
    ap (λ n. n + (each_row (declared ls) rest).width) (same_operand (declared ls) (valued ls ws) a (alike_valued ls ws) h.0).width ∙ ap (λ n. width_of (valued ls ws) a + n) (row_wide ls ws rest h.1)

row_defined : (ls : List Leaf) (ws : List Bits) (items : List Expr) → EachAlone ls items → IsTrue (own_defined (each_row (valued ls ws) items))
row_defined ls ws [] h = refl
row_defined ls ws (a ∷ rest) h = and_true _ _ (own_defined_valued ls ws a h.0.constant h.0.defined) (row_defined ls ws rest h.1)

-- ---- one more part

some_test : (k : ℕ) → 1 ≤ k → nat_eq k 0 ≡ false
some_test k h = grind (arith, nat_tests)

test_some : (k : ℕ) → nat_eq k 0 ≡ false → 1 ≤ k
test_some k h = grind (arith, nat_tests)

some_so : (x : Naming) (ns : List Node) (n : Wire) → 1 ≤ n.width → so_far x ns n ≡ number_at x ns n.node
some_so x ns n some = ap (λ t. if t then 0 else number_at x ns n.node) (some_test n.width some)

so_kept : (x : Naming) (a b : List Node) (n : Wire) → Keeps a b → (1 ≤ n.width → IsWire a n) → so_far x b n ≡ so_far x a n
so_kept x a b n k h = pick (nat_eq n.width 0) refl
  where
    pick : (t : Bool) → nat_eq n.width 0 ≡ t → (if t then 0 else number_at x b n.node) ≡ (if t then 0 else number_at x a n.node)
    pick true e = refl
    pick false e = number_kept x a b n.node n.width k (h (test_some n.width e))

module _ (ls : List Leaf) (d m new : List Node) (items rest next : List Expr) (x y : Expr) (all low more : Wire) (s : Bool) where
  pub row_step : AreReady ls d → AreReady ls m → Keeps d m → Keeps m new → rest ≡ x ∷ next → y ≡ x → HasConstantParts nothing y → HasOwnNode ls m m y low s → (1 ≤ all.width → IsWire d all) → 1 ≤ more.width →
      Makes new more.node more.width (λ e. so_far e m all * 2 ^ low.width + number_at e m low.node) → (n : Naming) →
      so_far n d all * 2 ^ (each_row (valued ls (words n d)) rest).width + own (each_row (valued ls (words n d)) rest) ≡ own (each_row (valued ls (words n d)) items) →
      so_far n new more * 2 ^ (each_row (valued ls (words n new)) next).width + own (each_row (valued ls (words n new)) next) ≡ own (each_row (valued ls (words n new)) items)
  row_step rd rm k j is yx c h wire some made n eq =
      let vd = valued ls (words n d) in
      let vm = valued ls (words n m) in
      let eq1 : so_far n d all * 2 ^ (each_row vm rest).width + own (each_row vm rest) ≡ own (each_row vm items) =
      subst (λ v. so_far n d all * 2 ^ (each_row v rest).width + own (each_row v rest) ≡ own (each_row v items)) (sym (valued_kept n ls d m k rd)) eq in
      let eq2 : so_far n m all * 2 ^ (each_row vm rest).width + own (each_row vm rest) ≡ own (each_row vm items) =
      ap (λ z. z * 2 ^ (each_row vm rest).width + own (each_row vm rest)) (so_kept n d m all k wire) ∙ eq1 in
      let is' : rest ≡ y ∷ next = is ∙ ap (λ (z : Expr). z ∷ next) (sym yx) in
      let r = word_at (words n m) low.node in
      let number : number_at n new more.node ≡ so_far n m all * 2 ^ r.width + r.value =
      made_number n new more.node more.width _ made ∙ ap (λ z. so_far n m all * 2 ^ z + r.value) (own_wide ls m m y low s c h n) in
      let eq3 : number_at n new more.node * 2 ^ (each_row vm next).width + own (each_row vm next) ≡ own (each_row vm items) =
      next_number vm rest next y r s (so_far n m all) (number_at n new more.node) (own (each_row vm items)) is' (h.word n) number eq2 in
      let eq4 : so_far n new more * 2 ^ (each_row vm next).width + own (each_row vm next) ≡ own (each_row vm items) =
      ap (λ z. z * 2 ^ (each_row vm next).width + own (each_row vm next)) (some_so n new more some) ∙ eq3 in
      subst (λ v. so_far n new more * 2 ^ (each_row v next).width + own (each_row v next) ≡ own (each_row v items)) (sym (valued_kept n ls m new j rm)) eq4

pub next_alone : (ls : List Leaf) (rest next : List Expr) (x : Expr) → rest ≡ x ∷ next → EachAlone ls rest → IsAlone ls x × EachAlone ls next
next_alone ls rest next x is h = subst (λ z. EachAlone ls z) is h

pub next_bits : (ls : List Leaf) (m : List Node) (rest next : List Expr) (x y : Expr) (low : Wire) (s : Bool) (n more total : ℕ) → rest ≡ x ∷ next → y ≡ x → HasOwnNode ls m m y low s → more ≡ n + low.width → n + (each_row (declared ls) rest).width ≡ total → more + (each_row (declared ls) next).width ≡ total
next_bits ls m rest next x y low s n more total is yx h me eq =
    let wide : low.width ≡ width_of (declared ls) x = h.shape.width ∙ ap (λ z. width_of (declared ls) z) yx in
    let split : (each_row (declared ls) rest).width ≡ width_of (declared ls) x + (each_row (declared ls) next).width = ap (λ z. (each_row (declared ls) z).width) is in
    omega (arith, wide, split, me, eq)

-- the node makes its own number
pub itself : (ns : List Node) (i n : ℕ) (g : Naming → ℕ) → Makes ns i n g → Makes ns i n (λ e. number_at e ns i)
itself ns i n g h = made_same ns i n g _ h (λ x. sym (made_number x ns i n g h))

-- all parts
pub row_has : (ls : List Leaf) (ns : List Node) (items rest : List Expr) (all : Wire) → IsRow ls items → rest ≡ [] → (1 ≤ all.width → Makes ns all.node all.width (λ e. number_at e ns all.node)) → all.width + (each_row (declared ls) rest).width ≡ (each_row (declared ls) items).width →
    ((n : Naming) → so_far n ns all * 2 ^ (each_row (valued ls (words n ns)) rest).width + own (each_row (valued ls (words n ns)) rest) ≡ own (each_row (valued ls (words n ns)) items)) → HasRowNode ls ns ns items all
row_has ls ns items rest all row end made bits number =
    let none : (each_row (declared ls) rest).width ≡ 0 = ap (λ z. (each_row (declared ls) z).width) end in
    let wide : all.width ≡ (each_row (declared ls) items).width = omega (arith, none, bits) in
    let some : 1 ≤ all.width = omega (arith, wide, row.length.0) in
    let m = made some in
    record {
      node = made_node ns all.node all.width _ m;
      width = wide;
      word = λ n.
          let v = valued ls (words n ns) in
          let last : so_far n ns all * 2 ^ 0 + 0 ≡ own (each_row v items) = subst (λ z. so_far n ns all * 2 ^ (each_row v z).width + own (each_row v z) ≡ own (each_row v items)) end (number n) in
          record {
            defined = row_defined ls (words n ns) items row.alone;
            width = ap (λ (b : Bits). b.width) (m.word n) ∙ wide ∙ row_wide ls (words n ns) items (each_constant ls items row.alone);
            value = sym (some_so n ns all some) ∙ (omega arith) ∙ last;
          };
    }

-- ---- what concatenations have

pub concat_wide : (ls : List Leaf) (m : List Node) (items row : List Expr) (tree : Expr) (L : ℕ) (w : Wire) → tree ≡ e.Concat items → row ≡ items → HasRowNode ls m m row w → width_of (declared ls) tree ≤ L → w.width ≤ L
concat_wide ls m items row tree L w is ri h le =
    let le' : (each_row (declared ls) items).width ≤ L = rw (is, width_of, concat_operand) at le in
    let same : w.width ≡ (each_row (declared ls) items).width = h.width ∙ ap (λ z. (each_row (declared ls) z).width) ri in
    omega (arith, same, le')

pub concat_done : (ls : List Leaf) (m new : List Node) (items row : List Expr) (tree : Expr) (L : ℕ) (s : Bool) (w : Wire) (i : ℕ) → AreReady ls m → Keeps m new → tree ≡ e.Concat items → row ≡ items → HasRowNode ls m m row w →
    Makes new i L (λ x. extend false w.width L (number_at x m w.node)) → HasNode ls new new tree L s i
concat_done ls m new items row tree L s w i ready keeps is ri h made = settled ls m new tree L s i ready keeps (record {
  node = made_node new i L _ made;
  word = λ x. concat_value (valued ls (words x m)) items row tree L s (word_at (words x m) w.node) (word_at (words x new) i) is ri (h.word x) (made.word x);
})

-- a concatenation that is taken by itself has the bits of its row
pub alone_row : (ls : List Leaf) (items : List Expr) (tree : Expr) → tree ≡ e.Concat items → IsAlone ls tree → IsRow ls items
alone_row ls items tree is h = concat_row ls tree (width_of (declared ls) tree) (sign_of (declared ls) tree) (alone_taken ls tree _ _ h (formed_shape (declared ls) tree h.formed)) items is

pub row_alone : (ls : List Leaf) (m : List Node) (items row : List Expr) (tree : Expr) (w : Wire) → tree ≡ e.Concat items → row ≡ items → IsAlone ls tree → HasRowNode ls m m row w → HasOwnNode ls m m tree w false
row_alone ls m items row tree w is ri alone h =
    let wide : w.width ≡ (each_row (declared ls) items).width = h.width ∙ ap (λ z. (each_row (declared ls) z).width) ri in
    let shape : HasShape (declared ls) tree w.width false = concat_shape (declared ls) items tree w.width is alone.formed wide in
    record {
      node = h.node;
      shape = shape;
      word = λ x.
          let v = valued ls (words x m) in
          let word = subst (λ z. HasRowWord v z (word_at (words x m) w.node)) ri (h.word x) in
          record {
            shape = subst (λ z. HasShape v tree z false) (wide ∙ row_wide ls (words x m) items (each_constant ls items (alone_row ls items tree is alone).alone) ∙ sym word.width) (shape_valued ls (words x m) tree alone.constant w.width false shape);
            defined = own_defined_valued ls (words x m) tree alone.constant alone.defined;
            value = word.value ∙ sym (ap (λ (o : Operand). own o) (ap (λ z. operand_of v z) is ∙ concat_operand v items));
          };
    }

copies_number : (n : ℕ) (o : Operand) → own (copies n o) ≡ copy_number n o.width (own o)
copies_number zero o = refl
copies_number (suc n) o = ap (λ k. own o * 2 ^ k + own (copies n o)) (copies_width n o) ∙ ap (λ k. own o * 2 ^ (n * o.width) + k) (copies_number n o)

copies_value : (n : ℕ) (o : Operand) (L : ℕ) (s : Bool) → (copies n o).value L s ≡ own (copies n o)
copies_value zero o L s = refl
copies_value (suc n) o L s = refl

pub repeat_wide : (ls : List Leaf) (m : List Node) (a : Expr) (items row : List Expr) (tree : Expr) (L n : ℕ) (w all : Wire) → tree ≡ e.Repeat a items → row ≡ items → HasRowNode ls m m row w → n ≡ natural (own_integer (operand_of (declared ls) a)) → all.width ≡ n * w.width → width_of (declared ls) tree ≤ L → all.width ≤ L
repeat_wide ls m a items row tree L n w all is ri h count wide le =
    let le' : (copies (natural (own_integer (operand_of (declared ls) a))) (each_row (declared ls) items)).width ≤ L = rw (is, width_of, repeat_operand) at le in
    let same : all.width ≡ (copies (natural (own_integer (operand_of (declared ls) a))) (each_row (declared ls) items)).width =
    wide ∙ ap (λ z. n * z) (h.width ∙ ap (λ z. (each_row (declared ls) z).width) ri) ∙ ap (λ z. z * (each_row (declared ls) items).width) count ∙ sym (copies_width (natural (own_integer (operand_of (declared ls) a))) (each_row (declared ls) items)) in
    omega (arith, same, le')

pub repeat_length : (ls : List Leaf) (m : List Node) (a : Expr) (items row : List Expr) (w : Wire) → row ≡ items → HasRowNode ls m m row w → IsLength (natural (own_integer (operand_of (declared ls) a)) * (each_row (declared ls) items).width) → IsLength (natural (own_integer (operand_of (declared ls) a)) * w.width)
repeat_length ls m a items row w ri h len = subst (λ z. IsLength (natural (own_integer (operand_of (declared ls) a)) * z)) (sym (h.width ∙ ap (λ z. (each_row (declared ls) z).width) ri)) len

pub counted : (n k z : ℕ) → z ≡ n → IsLength (n * k) → (1 ≤ z) × (z * k ≤ 64)
counted zero k z h len = absurd (omega (arith, len.0))
counted (suc n) k z h len = (omega (arith, h), subst (λ j. j * k ≤ 64) (sym h) len.1)

pub repeat_done : (ls : List Leaf) (m mid new : List Node) (a : Expr) (items row : List Expr) (tree : Expr) (L : ℕ) (s : Bool) (n : ℕ) (w all : Wire) (i : ℕ) → AreReady ls m → Keeps m new → IsTaken ls tree L s → tree ≡ e.Repeat a items → row ≡ items → HasRowNode ls m m row w →
    n ≡ natural (own_integer (operand_of (declared ls) a)) → Makes mid all.node all.width (λ x. copy_number n w.width (number_at x m w.node)) → Makes new i L (λ x. extend false all.width L (number_at x mid all.node)) → HasNode ls new new tree L s i
repeat_done ls m mid new a items row tree L s n w all i ready keeps taken is ri h count copied made = settled ls m new tree L s i ready keeps (record {
  node = made_node new i L _ made;
  word = λ x.
      let v = valued ls (words x m) in
      let R = each_row v items in
      let names = (repeat_constant a items tree is taken.constant).1 in
      let times : n ≡ natural (own_integer (operand_of v a)) = count ∙ ap (λ (o : Operand). natural (own_integer o)) (constant_same (declared ls) v a names) in
      let word = subst (λ z. HasRowWord v z (word_at (words x m) w.node)) ri (h.word x) in
      let constants = (repeat_constant a items tree is taken.constant).2 in
      let wide : w.width ≡ R.width = h.width ∙ ap (λ z. (each_row (declared ls) z).width) ri ∙ row_wide ls (words x m) items constants in
      let value : number_at x mid all.node ≡ own (copies (natural (own_integer (operand_of v a))) R) =
      made_number x mid all.node all.width _ copied ∙ ap (λ z. copy_number n z (number_at x m w.node)) wide ∙ ap (λ z. copy_number n R.width z) word.value
      ∙ ap (λ z. copy_number z R.width (own R)) times ∙ sym (copies_number (natural (own_integer (operand_of v a))) R) in
      let whole : own (copies (natural (own_integer (operand_of v a))) R) ≡ value_of v tree L s =
      sym (copies_value (natural (own_integer (operand_of v a))) R L s) ∙ sym (ap (λ (o : Operand). o.value L s) (ap (λ z. operand_of v z) is ∙ repeat_operand v a items)) in
      record {
        defined = defined_valued ls (words x m) tree taken.constant L s taken.defined;
        word = made.word x ∙ ap (λ z. at L z) (value ∙ whole);
      };
})
