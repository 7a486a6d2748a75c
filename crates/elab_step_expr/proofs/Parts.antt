-- The parts of an expression that becomes a node.
use Rattle.std.proofs.Common.{◌≡◌, ℕ, ◌*◌, Bool, refl, sym, subst, List, [], ◌∷◌, IsTrue}
use Rattle.vlog_tree.specs.declared.expr.Binary.{Binary}
use Rattle.vlog_tree.specs.declared.expr.Cast.{Cast}
use Rattle.vlog_tree.specs.declared.expr.Constant.{Constant}
use Rattle.vlog_tree.specs.declared.expr.Expr.{Expr, Row_of-Expr, end_of-Expr, more_of-Expr}
use Rattle.vlog_tree.specs.declared.expr.Expr.TheVariants as e
use Rattle.vlog_tree.specs.declared.expr.Expr.TheBlock.{items-the_row-Expr, shape-the_row-Expr-0, hidden-the_row-Expr-0, hidden-the_row-Expr-1, items_hidden-the_row-Expr-1}
use Rattle.vlog_tree.specs.declared.expr.Name.{Name}
use Rattle.vlog_tree.specs.declared.expr.Span.{Span}
use Rattle.vlog_tree.specs.declared.expr.Unary.{Unary}
use Rattle.vlog_tree.specs.Valuation.{IsLength}
use Rattle.vlog_tree.specs.Value.{NamesOnly, HasConstantParts, AllHaveConstantParts, IsPartConstant, IsDivisionConstant, operand_of, own_defined, own_integer, natural}
use Rattle.vlog_tree_values.specs.Operators.{family_of, left_width, right_width, left_sign, right_sign, inner_width, inner_sign}
use Rattle.vlog_tree_values.specs.Shapes.{HasShape, IsReady, each_row, each_formed}
use Rattle.vlog_tree_values.proofs.Facts.{both_true, copies_width}
use Rattle.vlog_tree_values.proofs.Forms.{select_formed, part_formed, constant_select_formed, constant_part_formed, cast_formed, choice_formed, concat_formed, repeat_formed}
use Rattle.vlog_tree_values.proofs.Values.{select_defined, constant_select_defined, part_defined, constant_part_defined, cast_defined, paren_defined, paren_ready, unary_ready, unary_defined_at, binary_ready, taken_at, binary_left, binary_right, choice_ready, choice_defined, shape_width, shape_sign, concat_defined, repeat_defined, row_length}
use Rattle.elab_step_expr.specs.declared.leaves.Leaf.{Leaf}
use Rattle.elab_step_expr.specs.Leaves.{declared}
use Rattle.elab_step_expr.specs.Terms.{nothing, IsTaken, IsAlone, EachAlone, IsRow}
use denote.Hole.Carrier

-- ---- the parts that must be constant

pub select_constant : (x : Name) (a tree : Expr) → tree ≡ e.Select x a → HasConstantParts nothing tree → HasConstantParts nothing a
unfolding shape-the_row-Expr-0 hidden-the_row-Expr-0 denote.Hole.Carrier.hidden
select_constant x a tree is h = rw is at h

pub constant_select_constant : (k : Constant) (a tree : Expr) → tree ≡ e.ConstantSelect k a → HasConstantParts nothing tree → HasConstantParts nothing a
unfolding shape-the_row-Expr-0 hidden-the_row-Expr-0 denote.Hole.Carrier.hidden
constant_select_constant k a tree is h = rw is at h

pub part_constant : (x : Name) (span : Span) (a b tree : Expr) → tree ≡ e.Part x span a b → HasConstantParts nothing tree → HasConstantParts nothing a × HasConstantParts nothing b × IsPartConstant nothing span a b
unfolding shape-the_row-Expr-0 hidden-the_row-Expr-0 denote.Hole.Carrier.hidden
part_constant x span a b tree is h = rw is at h

pub constant_part_constant : (k : Constant) (span : Span) (a b tree : Expr) → tree ≡ e.ConstantPart k span a b → HasConstantParts nothing tree → HasConstantParts nothing a × HasConstantParts nothing b × IsPartConstant nothing span a b
unfolding shape-the_row-Expr-0 hidden-the_row-Expr-0 denote.Hole.Carrier.hidden
constant_part_constant k span a b tree is h = rw is at h

pub cast_constant : (c : Cast) (a tree : Expr) → tree ≡ e.Cast c a → HasConstantParts nothing tree → HasConstantParts nothing a
unfolding shape-the_row-Expr-0 hidden-the_row-Expr-0 denote.Hole.Carrier.hidden
cast_constant c a tree is h = rw is at h

pub paren_constant : (a tree : Expr) → tree ≡ e.Paren a → HasConstantParts nothing tree → HasConstantParts nothing a
unfolding shape-the_row-Expr-0 hidden-the_row-Expr-0 denote.Hole.Carrier.hidden
paren_constant a tree is h = rw is at h

pub unary_constant : (op : Unary) (a tree : Expr) → tree ≡ e.Unary op a → HasConstantParts nothing tree → HasConstantParts nothing a
unfolding shape-the_row-Expr-0 hidden-the_row-Expr-0 denote.Hole.Carrier.hidden
unary_constant op a tree is h = rw is at h

pub binary_constant : (op : Binary) (a b tree : Expr) → tree ≡ e.Binary op a b → HasConstantParts nothing tree → HasConstantParts nothing a × HasConstantParts nothing b × IsDivisionConstant nothing op a b
unfolding shape-the_row-Expr-0 hidden-the_row-Expr-0 denote.Hole.Carrier.hidden
binary_constant op a b tree is h = rw is at h

pub choice_constant : (c a b tree : Expr) → tree ≡ e.Choice c a b → HasConstantParts nothing tree → HasConstantParts nothing c × HasConstantParts nothing a × HasConstantParts nothing b
unfolding shape-the_row-Expr-0 hidden-the_row-Expr-0 denote.Hole.Carrier.hidden
choice_constant c a b tree is h = rw is at h

-- the parts of a concatenation
abbrev pub EachConstant : List Expr → Type 0
EachConstant [] = Unit {0}
EachConstant (a ∷ rest) = HasConstantParts nothing a × EachConstant rest

row_constant : {m : _} (k : Row_of-Expr m) → AllHaveConstantParts nothing k → EachConstant (items-the_row-Expr m k)
row_constant end_of-Expr h = tt
row_constant (more_of-Expr a rest) h = (h.0, row_constant rest h.1)

pub concat_constant : (items : List Expr) (tree : Expr) → tree ≡ e.Concat items → HasConstantParts nothing tree → EachConstant items
concat_constant items tree is h =
    let h' = rw is at h in
    rw items_hidden-the_row-Expr-1 at (row_constant (hidden-the_row-Expr-1 items) h')

pub repeat_constant : (a : Expr) (items : List Expr) (tree : Expr) → tree ≡ e.Repeat a items → HasConstantParts nothing tree → HasConstantParts nothing a × NamesOnly nothing a × EachConstant items
unfolding shape-the_row-Expr-0 hidden-the_row-Expr-0 denote.Hole.Carrier.hidden
repeat_constant a items tree is h =
    let h' = rw is at h in
    (h'.0, h'.1, rw items_hidden-the_row-Expr-1 at (row_constant (hidden-the_row-Expr-1 items) h'.2))

-- ---- expressions that name nothing

pub binary_names : (op : Binary) (a b tree : Expr) → tree ≡ e.Binary op a b → NamesOnly nothing a × NamesOnly nothing b → NamesOnly nothing tree
unfolding shape-the_row-Expr-0 hidden-the_row-Expr-0 denote.Hole.Carrier.hidden
binary_names op a b tree is h = rw is h

pub constant_part_names : (k : Constant) (span : Span) (a b tree : Expr) → tree ≡ e.ConstantPart k span a b → NamesOnly nothing a × NamesOnly nothing b → NamesOnly nothing tree
unfolding shape-the_row-Expr-0 hidden-the_row-Expr-0 denote.Hole.Carrier.hidden
constant_part_names k span a b tree is h = rw is h

-- ---- rows

each_alone : (ls : List Leaf) (items : List Expr) → each_formed (declared ls) items → EachConstant items → IsTrue (own_defined (each_row (declared ls) items)) → EachAlone ls items
each_alone ls [] f c d = tt
each_alone ls (a ∷ rest) f c d =
    let t = both_true (own_defined (operand_of (declared ls) a)) (own_defined (each_row (declared ls) rest)) d in
    (record { formed = f.0; constant = c.0; defined = t.0 }, each_alone ls rest f.1 c.1 t.1)

pub each_constant : (ls : List Leaf) (items : List Expr) → EachAlone ls items → EachConstant items
each_constant ls [] h = tt
each_constant ls (a ∷ rest) h = (h.0.constant, each_constant ls rest h.1)

-- ---- how each part is taken

module _ (ls : List Leaf) (tree : Expr) (L : ℕ) (s : Bool) (h : IsTaken ls tree L s) where
  pub select_index : (x : Name) (a : Expr) → tree ≡ e.Select x a → IsAlone ls a
  select_index x a is = record { formed = (select_formed (declared ls) x a tree is h.ready.formed).1; constant = select_constant x a tree is h.constant; defined = select_defined (declared ls) x a tree L s is h.defined }

  pub constant_select_index : (k : Constant) (a : Expr) → tree ≡ e.ConstantSelect k a → IsAlone ls a
  constant_select_index k a is = record { formed = (constant_select_formed (declared ls) k a tree is h.ready.formed).1; constant = constant_select_constant k a tree is h.constant; defined = constant_select_defined (declared ls) k a tree L s is h.defined }

  pub cast_inner : (c : Cast) (a : Expr) → tree ≡ e.Cast c a → IsAlone ls a
  cast_inner c a is = record { formed = cast_formed (declared ls) c a tree is h.ready.formed; constant = cast_constant c a tree is h.constant; defined = cast_defined (declared ls) c a tree L s is h.defined }

  pub paren_inner : (a : Expr) → tree ≡ e.Paren a → IsTaken ls a L s
  paren_inner a is = record { ready = paren_ready (declared ls) a tree L is h.ready; constant = paren_constant a tree is h.constant; defined = paren_defined (declared ls) a tree a L s is refl h.defined }

  pub unary_inner : (op : Unary) (a y : Expr) (m p : ℕ) (t q : Bool) → tree ≡ e.Unary op a → y ≡ a → HasShape (declared ls) y m t → p ≡ inner_width op L m → q ≡ inner_sign op s t → IsTaken ls a p q
  unary_inner op a y m p t q is ya g pn qn = record {
    ready = unary_ready (declared ls) op a tree y L m p t is h.ready ya g pn;
    constant = unary_constant op a tree is h.constant;
    defined = unary_defined_at (declared ls) op a tree a L m p s t q is refl (shape_width (declared ls) a y m t ya g) (shape_sign (declared ls) a y m t ya g) pn qn h.defined;
  }

  module _ (op : Binary) (a b y u : Expr) (m n : ℕ) (t o : Bool) (j k : ℕ) (p q : Bool) where
    pub binary_first : tree ≡ e.Binary op a b → y ≡ a → u ≡ b → HasShape (declared ls) y m t → HasShape (declared ls) u n o → j ≡ left_width (family_of op) L m n → p ≡ left_sign (family_of op) s t o → IsTaken ls a j p
    binary_first is ya ub g i jn pn =
        let all = taken_at (declared ls) op a b y u L j (right_width (family_of op) L m n) m n s p (right_sign (family_of op) s t o) t o ya ub g i jn refl pn refl in
        record {
          ready = subst (λ z. IsReady (declared ls) a z) (sym jn) (binary_ready (declared ls) op a b tree y u L m n t o is h.ready ya ub g i).0;
          constant = (binary_constant op a b tree is h.constant).0;
          defined = binary_left (declared ls) op a b tree a L j (right_width (family_of op) L m n) s p (right_sign (family_of op) s t o) is refl all h.defined;
        }

    pub binary_second : tree ≡ e.Binary op a b → y ≡ a → u ≡ b → HasShape (declared ls) y m t → HasShape (declared ls) u n o → k ≡ right_width (family_of op) L m n → q ≡ right_sign (family_of op) s t o → IsTaken ls b k q
    binary_second is ya ub g i kn qn =
        let all = taken_at (declared ls) op a b y u L (left_width (family_of op) L m n) k m n s (left_sign (family_of op) s t o) q t o ya ub g i refl kn refl qn in
        record {
          ready = subst (λ z. IsReady (declared ls) b z) (sym kn) (binary_ready (declared ls) op a b tree y u L m n t o is h.ready ya ub g i).1;
          constant = (binary_constant op a b tree is h.constant).1;
          defined = binary_right (declared ls) op a b tree b L (left_width (family_of op) L m n) k s (left_sign (family_of op) s t o) q is refl all h.defined;
        }

  pub choice_condition : (c a b : Expr) → tree ≡ e.Choice c a b → IsAlone ls c
  choice_condition c a b is = record { formed = (choice_formed (declared ls) c a b tree is h.ready.formed).0; constant = (choice_constant c a b tree is h.constant).0; defined = (choice_defined (declared ls) c a b tree L s is h.defined).0 }

  pub choice_first : (c a b : Expr) → tree ≡ e.Choice c a b → IsTaken ls a L s
  choice_first c a b is = record { ready = (choice_ready (declared ls) c a b tree L is h.ready).0; constant = (choice_constant c a b tree is h.constant).1; defined = (choice_defined (declared ls) c a b tree L s is h.defined).1 }

  pub choice_second : (c a b : Expr) → tree ≡ e.Choice c a b → IsTaken ls b L s
  choice_second c a b is = record { ready = (choice_ready (declared ls) c a b tree L is h.ready).1; constant = (choice_constant c a b tree is h.constant).2; defined = (choice_defined (declared ls) c a b tree L s is h.defined).2 }

  pub part_first : (x : Name) (span : Span) (a b : Expr) → tree ≡ e.Part x span a b → IsAlone ls a
  part_first x span a b is = record { formed = (part_formed (declared ls) x span a b tree is h.ready.formed).1; constant = (part_constant x span a b tree is h.constant).0; defined = (part_defined (declared ls) x span a b tree L s is h.defined).0 }

  pub part_second : (x : Name) (span : Span) (a b : Expr) → tree ≡ e.Part x span a b → IsAlone ls b
  part_second x span a b is = record { formed = (part_formed (declared ls) x span a b tree is h.ready.formed).2; constant = (part_constant x span a b tree is h.constant).1; defined = (part_defined (declared ls) x span a b tree L s is h.defined).1 }

  pub constant_part_first : (k : Constant) (span : Span) (a b : Expr) → tree ≡ e.ConstantPart k span a b → IsAlone ls a
  constant_part_first k span a b is = record {
    formed = (constant_part_formed (declared ls) k span a b tree is h.ready.formed).1;
    constant = (constant_part_constant k span a b tree is h.constant).0;
    defined = (constant_part_defined (declared ls) k span a b tree L s is h.defined).0;
  }

  pub concat_row : (items : List Expr) → tree ≡ e.Concat items → IsRow ls items
  concat_row items is =
      let f = concat_formed (declared ls) items tree is h.ready.formed in
      record { alone = each_alone ls items f.0 (concat_constant items tree is h.constant) (concat_defined (declared ls) items tree L s is h.defined); length = f.1 }

  pub repeat_row : (a : Expr) (items : List Expr) → tree ≡ e.Repeat a items → IsRow ls items
  repeat_row a items is =
      let f = repeat_formed (declared ls) a items tree is h.ready.formed in
      record {
        alone = each_alone ls items f.2 (repeat_constant a items tree is h.constant).2 (repeat_defined (declared ls) a items tree L s is h.defined).1;
        length = row_length (declared ls) (operand_of (declared ls) a) items f.3;
      }

  pub repeat_count : (a : Expr) (items : List Expr) → tree ≡ e.Repeat a items → IsAlone ls a
  repeat_count a items is = record {
    formed = (repeat_formed (declared ls) a items tree is h.ready.formed).0;
    constant = (repeat_constant a items tree is h.constant).0;
    defined = (repeat_formed (declared ls) a items tree is h.ready.formed).1;
  }

  pub repeat_bits : (a : Expr) (items : List Expr) → tree ≡ e.Repeat a items → IsLength (natural (own_integer (operand_of (declared ls) a)) * (each_row (declared ls) items).width)
  repeat_bits a items is =
      subst IsLength (copies_width (natural (own_integer (operand_of (declared ls) a))) (each_row (declared ls) items)) (repeat_formed (declared ls) a items tree is h.ready.formed).3
