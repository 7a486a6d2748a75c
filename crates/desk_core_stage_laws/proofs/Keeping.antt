-- A moved expression is well formed, and constant, where the expression is.
use Rattle.std.proofs.Common.{◌≡◌, ◌||◌, Bool, true, false, IsTrue, ◌++◌, Option, Some, None, sym, ap, ◌∙◌, refl, subst}
use Rattle.std.specs.Prelude.{is_some}
use Rattle.vlog_tree.specs.declared.expr.Binary.{Binary}
use Rattle.vlog_tree.specs.declared.expr.Binary.TheVariants as b
use Rattle.vlog_tree.specs.declared.expr.Constant.{Constant}
use Rattle.vlog_tree.specs.declared.expr.Expr.{Expr, Row_of-Expr, end_of-Expr, more_of-Expr}
use Rattle.vlog_tree.specs.declared.expr.Expr.TheVariants as e
use Rattle.vlog_tree.specs.declared.expr.Name.{Name as Read}
use Rattle.vlog_tree.specs.declared.expr.Span.{Span}
use Rattle.vlog_tree.specs.declared.expr.Span.TheVariants as w
use Rattle.vlog_tree.specs.Valuation.{IsLength, entry_at, meant, meaning_of, named}
use Rattle.vlog_tree.specs.Value.{Operand, operand_of, own_defined, part_of, Stands, IsPart, IsFormed, AllFormed, NamesOnly, AllNamesOnly, IsPartConstant, IsDivisionConstant, HasConstantParts, AllHaveConstantParts}
use Rattle.vlog_tree_runs.specs.Places.{Name, Cycle, Place, read, valuation}
use Rattle.vlog_tree_runs.specs.Blocks.{is_parameter}
use Rattle.elab_flat_laws.specs.Moved.{under, moved, moved_name, moved_select, moved_part, moved_row}
use Rattle.elab_flat_laws.specs.Uses.{has_signal, is_declared, IsSignal, IsPresent, AllPresent}
use Rattle.elab_flat_laws.specs.Laws.{MovesInto}
use Rattle.elab_flat_laws.proofs.Constants.{nothing, fixed}
use Rattle.elab_flat_laws.proofs.Finding.{told_none}
use Rattle.elab_flat_laws.proofs.Sides.{expr_moved}
use Rattle.desk_core_stage_laws.proofs.Lengths.{name_length}

-- ---- constant parts

pub part_fixed : (p : Place) (span : Span) (a b : Expr) → IsPresent a → IsPresent b → IsPartConstant (is_parameter p) span a b →
    IsPartConstant nothing span (moved p.prefix p.params a) (moved p.prefix p.params b)
part_fixed p w.Fixed a b y z h = (fixed p a y h.0, fixed p b z h.1)
part_fixed p w.Up a b y z h = fixed p b z h
part_fixed p w.Down a b y z h = fixed p b z h

division_fixed : (p : Place) (op : Binary) (a c : Expr) → IsPresent a → IsPresent c → IsDivisionConstant (is_parameter p) op a c →
    IsDivisionConstant nothing op (moved p.prefix p.params a) (moved p.prefix p.params c)
division_fixed p b.Mul a c y z h = tt
division_fixed p b.Div a c y z h = (fixed p a y h.0, fixed p c z h.1)
division_fixed p b.Rem a c y z h = (fixed p a y h.0, fixed p c z h.1)
division_fixed p b.Add a c y z h = tt
division_fixed p b.Sub a c y z h = tt
division_fixed p b.Shl a c y z h = tt
division_fixed p b.Shr a c y z h = tt
division_fixed p b.ArithmeticShl a c y z h = tt
division_fixed p b.ArithmeticShr a c y z h = tt
division_fixed p b.Less a c y z h = tt
division_fixed p b.LessEqual a c y z h = tt
division_fixed p b.Greater a c y z h = tt
division_fixed p b.GreaterEqual a c y z h = tt
division_fixed p b.Equal a c y z h = tt
division_fixed p b.NotEqual a c y z h = tt
division_fixed p b.BitAnd a c y z h = tt
division_fixed p b.BitXor a c y z h = tt
division_fixed p b.BitXnor a c y z h = tt
division_fixed p b.BitOr a c y z h = tt
division_fixed p b.LogicalAnd a c y z h = tt
division_fixed p b.LogicalOr a c y z h = tt

name_parts : (pre : Name) (o : Option Constant) (x : Read) → HasConstantParts nothing (moved_name pre o x)
name_parts pre None x = tt
name_parts pre (Some k) x = tt

select_parts : (pre : Name) (o : Option Constant) (x : Read) (a : Expr) → HasConstantParts nothing a → HasConstantParts nothing (moved_select pre o x a)
select_parts pre None x a h = h
select_parts pre (Some k) x a h = h

part_parts : (pre : Name) (o : Option Constant) (x : Read) (span : Span) (a b : Expr) → HasConstantParts nothing a → HasConstantParts nothing b → IsPartConstant nothing span a b →
    HasConstantParts nothing (moved_part pre o x span a b)
part_parts pre None x span a b h k i = (h, k, i)
part_parts pre (Some c) x span a b h k i = (h, k, i)

mutual
  pub parts_fixed : (p : Place) (a : Expr) → IsPresent a → HasConstantParts (is_parameter p) a → HasConstantParts nothing (moved p.prefix p.params a)
  parts_fixed p (e.Number n) z d = tt
  parts_fixed p (e.Name x) z d = name_parts p.prefix (meaning_of p.params x) x
  parts_fixed p (e.Select' x h (more_of-Expr a end_of-Expr)) z d = select_parts p.prefix (meaning_of p.params x) x (moved p.prefix p.params a) (parts_fixed p a z.1 d)
  parts_fixed p (e.Part' x span h (more_of-Expr a end_of-Expr) g (more_of-Expr b end_of-Expr)) z d =
      part_parts p.prefix (meaning_of p.params x) x span (moved p.prefix p.params a) (moved p.prefix p.params b) (parts_fixed p a z.1 d.0) (parts_fixed p b z.2 d.1) (part_fixed p span a b z.1 z.2 d.2)
  parts_fixed p (e.ConstantSelect' k h (more_of-Expr a end_of-Expr)) z d = parts_fixed p a z d
  parts_fixed p (e.ConstantPart' k span h (more_of-Expr a end_of-Expr) g (more_of-Expr b end_of-Expr)) z d =
      (parts_fixed p a z.0 d.0, parts_fixed p b z.1 d.1, part_fixed p span a b z.0 z.1 d.2)
  parts_fixed p (e.Cast' cast h (more_of-Expr a end_of-Expr)) z d = parts_fixed p a z d
  parts_fixed p (e.Paren' h (more_of-Expr a end_of-Expr)) z d = parts_fixed p a z d
  parts_fixed p (e.Concat' h row) z d = row_fixed p row z d
  parts_fixed p (e.Repeat' h (more_of-Expr a end_of-Expr) g row) z d = (parts_fixed p a z.0 d.0, fixed p a z.0 d.1, row_fixed p row z.1 d.2)
  parts_fixed p (e.Unary' op h (more_of-Expr a end_of-Expr)) z d = parts_fixed p a z d
  parts_fixed p (e.Binary' op h (more_of-Expr a end_of-Expr) g (more_of-Expr b end_of-Expr)) z d =
      (parts_fixed p a z.0 d.0, parts_fixed p b z.1 d.1, division_fixed p op a b z.0 z.1 d.2)
  parts_fixed p (e.Choice' h (more_of-Expr c end_of-Expr) g (more_of-Expr a end_of-Expr) i (more_of-Expr b end_of-Expr)) z d =
      (parts_fixed p c z.0 d.0, parts_fixed p a z.1 d.1, parts_fixed p b z.2 d.2)

  row_fixed : {m : _} (p : Place) (row : Row_of-Expr m) → AllPresent row → AllHaveConstantParts (is_parameter p) row → AllHaveConstantParts nothing (moved_row p.prefix p.params row)
  row_fixed p end_of-Expr z d = tt
  row_fixed p (more_of-Expr a rest) z d = (parts_fixed p a z.0 d.0, row_fixed p rest z.1 d.1)

-- ---- forms

or_false : (a b : Bool) → (a || b) ≡ true → a ≡ false → b ≡ true
or_false a b h f = rw f at h

pub carried : (P : Constant → Operand → Operand → Type 0) (k l : Constant) (x y z u : Operand) → k ≡ l → x ≡ y → z ≡ u → P k x z → P l y u
carried P k l x y z u e f g h = subst (λ s. P l y s) g (subst (λ s. P l s z) f (subst (λ s. P s x z) e h))

module _ (p q : Place) (c : Cycle) (m : MovesInto p q) (stands : (x : Name) → IsSignal p x → Stands (valuation q c) (read (p.prefix ++ x))) where
  is_signal : (x : Read) → is_declared p x.text ≡ true → x.offset ≡ 0 → meaning_of p.params x ≡ None → IsSignal p x.text
  is_signal x d z none =
      let n : entry_at p.params x.text 0 ≡ None = ap (λ j. entry_at p.params x.text j) (sym z) ∙ told_none meant (entry_at p.params x.text x.offset) none in
      let o : is_parameter p x.text ≡ false = ap is_some n in
      (o, or_false (is_parameter p x.text) (has_signal p.signals x.text) d o)

  signal_stands : (x : Read) → is_declared p x.text ≡ true → x.offset ≡ 0 → meaning_of p.params x ≡ None → Stands (valuation q c) (under p.prefix x)
  signal_stands x d z none =
      subst (λ j. Stands (valuation q c) (record { text = p.prefix ++ x.text; offset = j })) (sym z) (stands x.text (is_signal x d z none))

  constant_length : (x : Read) (k : Constant) → meaning_of p.params x ≡ Some k → Stands (valuation p c) x → IsLength k.width
  constant_length x k h s = subst (λ (u : Constant). IsLength u.width) ((m.names c).constants x k h).meaning (name_length (valuation p c) x s)

  name_formed : (x : Read) → is_declared p x.text ≡ true → x.offset ≡ 0 → Stands (valuation p c) x → (o : Option Constant) → meaning_of p.params x ≡ o →
      IsFormed (valuation q c) (moved_name p.prefix o x)
  name_formed x d z s None h = signal_stands x d z h
  name_formed x d z s (Some k) h = constant_length x k h s

  select_formed : (x : Read) (a : Expr) → is_declared p x.text ≡ true → x.offset ≡ 0 → Stands (valuation p c) x → IsFormed (valuation q c) a → (o : Option Constant) → meaning_of p.params x ≡ o →
      IsFormed (valuation q c) (moved_select p.prefix o x a)
  select_formed x a d z s f None h = (signal_stands x d z h, f)
  select_formed x a d z s f (Some k) h = (constant_length x k h s, f)

  abbrev IsPartOf : Span → Constant → Operand → Operand → Type 0
  IsPartOf span k x y = IsPart k span x y

  abbrev HasLength : Span → Constant → Operand → Operand → Type 0
  HasLength span k x y = IsLength (part_of k span x y).width

  part_formed : (x : Read) (span : Span) (a b : Expr) (y z : Operand) → is_declared p x.text ≡ true → x.offset ≡ 0 → Stands (valuation p c) x →
      IsFormed (valuation q c) a → IsFormed (valuation q c) b → operand_of (valuation q c) a ≡ y → operand_of (valuation q c) b ≡ z →
      IsPart (named (valuation p c) x) span y z → IsLength (part_of (named (valuation p c) x) span y z).width → (o : Option Constant) → meaning_of p.params x ≡ o →
      IsFormed (valuation q c) (moved_part p.prefix o x span a b)
  part_formed x span a b y z d at s f g i j part len None h =
      let r = (m.names c).names x d h in (
        signal_stands x d at h,
        f,
        g,
        carried (IsPartOf span) (named (valuation p c) x) (named (valuation q c) (under p.prefix x)) y (operand_of (valuation q c) a) z (operand_of (valuation q c) b) (sym r.meaning) (sym i) (sym j) part,
        carried (HasLength span) (named (valuation p c) x) (named (valuation q c) (under p.prefix x)) y (operand_of (valuation q c) a) z (operand_of (valuation q c) b) (sym r.meaning) (sym i) (sym j) len,
      )
  part_formed x span a b y z d at s f g i j part len (Some k) h =
      let r = (m.names c).constants x k h in (
        constant_length x k h s,
        f,
        g,
        carried (IsPartOf span) (named (valuation p c) x) k y (operand_of (valuation q c) a) z (operand_of (valuation q c) b) r.meaning (sym i) (sym j) part,
        carried (HasLength span) (named (valuation p c) x) k y (operand_of (valuation q c) a) z (operand_of (valuation q c) b) r.meaning (sym i) (sym j) len,
      )

  -- the operand of a moved expression
  same : (a : Expr) → NamesOnly (is_declared p) a → IsPresent a → operand_of (valuation q c) (moved p.prefix p.params a) ≡ operand_of (valuation p c) a
  same a d z = expr_moved p q c a m (d, z)

  mutual
    pub moved_formed : (a : Expr) → NamesOnly (is_declared p) a → IsPresent a → IsFormed (valuation p c) a → IsFormed (valuation q c) (moved p.prefix p.params a)
    moved_formed (e.Number n) d z f = f
    moved_formed (e.Name x) d z f = name_formed x d z f (meaning_of p.params x) refl
    moved_formed (e.Select' x h (more_of-Expr a end_of-Expr)) d z f =
        select_formed x (moved p.prefix p.params a) d.0 z.0 f.0 (moved_formed a d.1 z.1 f.1) (meaning_of p.params x) refl
    moved_formed (e.Part' x span h (more_of-Expr a end_of-Expr) g (more_of-Expr b end_of-Expr)) d z f =
        part_formed x span (moved p.prefix p.params a) (moved p.prefix p.params b) (operand_of (valuation p c) a) (operand_of (valuation p c) b) d.0 z.0 f.0
        (moved_formed a d.1 z.1 f.1) (moved_formed b d.2 z.2 f.2) (same a d.1 z.1) (same b d.2 z.2) f.3 f.4 (meaning_of p.params x) refl
    moved_formed (e.ConstantSelect' k h (more_of-Expr a end_of-Expr)) d z f = (f.0, moved_formed a d z f.1)
    moved_formed (e.ConstantPart' k span h (more_of-Expr a end_of-Expr) g (more_of-Expr b end_of-Expr)) d z f =
        let i = sym (same a d.0 z.0) in
        let j = sym (same b d.1 z.1) in
        let x = operand_of (valuation q c) (moved p.prefix p.params a) in
        let y = operand_of (valuation q c) (moved p.prefix p.params b) in (
          f.0,
          moved_formed a d.0 z.0 f.1,
          moved_formed b d.1 z.1 f.2,
          carried (IsPartOf span) k k (operand_of (valuation p c) a) x (operand_of (valuation p c) b) y refl i j f.3,
          carried (HasLength span) k k (operand_of (valuation p c) a) x (operand_of (valuation p c) b) y refl i j f.4,
        )
    moved_formed (e.Cast' cast h (more_of-Expr a end_of-Expr)) d z f = moved_formed a d z f
    moved_formed (e.Paren' h (more_of-Expr a end_of-Expr)) d z f = moved_formed a d z f
    moved_formed (e.Concat' h row) d z f = (row_formed row d z f.0, subst (λ (o : Operand). IsLength o.width) (sym (same (e.Concat' h row) d z)) f.1)
    moved_formed (e.Repeat' h (more_of-Expr a end_of-Expr) g row) d z f = (
      moved_formed a d.0 z.0 f.0,
      subst (λ (o : Operand). IsTrue (own_defined o)) (sym (same a d.0 z.0)) f.1,
      row_formed row d.1 z.1 f.2,
      subst (λ (o : Operand). IsLength o.width) (sym (same (e.Repeat' h (more_of-Expr a end_of-Expr) g row) d z)) f.3,
    )
    moved_formed (e.Unary' op h (more_of-Expr a end_of-Expr)) d z f = moved_formed a d z f
    moved_formed (e.Binary' op h (more_of-Expr a end_of-Expr) g (more_of-Expr b end_of-Expr)) d z f = (moved_formed a d.0 z.0 f.0, moved_formed b d.1 z.1 f.1)
    moved_formed (e.Choice' h (more_of-Expr x end_of-Expr) g (more_of-Expr a end_of-Expr) i (more_of-Expr b end_of-Expr)) d z f =
        (moved_formed x d.0 z.0 f.0, moved_formed a d.1 z.1 f.1, moved_formed b d.2 z.2 f.2)

    row_formed : {n : _} (row : Row_of-Expr n) → AllNamesOnly (is_declared p) row → AllPresent row → AllFormed (valuation p c) row → AllFormed (valuation q c) (moved_row p.prefix p.params row)
    row_formed end_of-Expr d z f = tt
    row_formed (more_of-Expr a rest) d z f = (moved_formed a d.0 z.0 f.0, row_formed rest d.1 z.1 f.1)
