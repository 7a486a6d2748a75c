-- What an expression reads has values by itself where it names nothing.
use Rattle.std.proofs.Common.{◌≡◌, ℕ, Bool, true, false, not, ◌&&◌, IsTrue, List, [], ◌++◌, subst, ⊎_elim}
use Rattle.std.specs.Prelude.{nat_eq, if◌then◌else◌}
use Rattle.vlog_tree.specs.declared.expr.Binary.{Binary}
use Rattle.vlog_tree.specs.declared.expr.Expr.{Expr, Row_of-Expr, end_of-Expr, more_of-Expr}
use Rattle.vlog_tree.specs.declared.expr.Expr.TheVariants as e
use Rattle.vlog_tree.specs.declared.expr.Name.{Name as Read}
use Rattle.vlog_tree.specs.declared.stmt.Lval.{Lval}
use Rattle.vlog_tree.specs.declared.stmt.Lval.TheVariants as l
use Rattle.vlog_tree.specs.declared.valuation.Entry.{Entry}
use Rattle.vlog_tree.specs.Valuation.{IsLength, named, depth_of}
use Rattle.vlog_tree.specs.Value.{Operand, operand_of, row_of, own_defined, bit_of, word_of, part_of, binary_of, repeated, width_of, sign_of, IsFormed, AllFormed, IsDefined, IsPart, NamesOnly, AllNamesOnly}
use Rattle.vlog_tree_runs.specs.Places.{Among}
use Rattle.vlog_tree_values.specs.declared.operators.Family.{Family}
use Rattle.vlog_tree_values.specs.declared.operators.Family.TheVariants as k
use Rattle.vlog_tree_values.specs.Operators.{family_of, is_joined, left_width, right_width, left_sign, right_sign, inner_width, inner_sign}
use Rattle.vlog_tree_values.proofs.Facts.{both_true}
use Rattle.vlog_tree_values.proofs.Families.{unary_defined, binary_defined}
use Rattle.elab_flat_laws.proofs.Lists.{among_append}
use Rattle.elab_flat_drivers.specs.Claims.{nothing, IsEvaluable, IsPartReady}
use Rattle.elab_flat_drivers.specs.Parts.{reads_of, row_reads}
use Rattle.elab_step_expr.proofs.Alike.{constant_same, constant_rows}

-- ---- a constant expression is well formed whatever names stand for

both : (P : Operand → Operand → Type 0) (x y z w : Operand) → x ≡ y → z ≡ w → P x z → P y w
both P x y z w p q h = subst (λ t. P y t) q (subst (λ t. P t z) p h)

mutual
  formed : (v u : List Entry) (a : Expr) → NamesOnly nothing a → IsFormed v a → IsFormed u a
  formed v u (e.Number n) d f = f
  formed v u (e.Name x) d f = let z : false ≡ true = d in cc
  formed v u (e.Select' x h (more_of-Expr a end_of-Expr)) d f = let z : false ≡ true = d.0 in cc
  formed v u (e.Part' x span h (more_of-Expr a end_of-Expr) g (more_of-Expr b end_of-Expr)) d f = let z : false ≡ true = d.0 in cc
  formed v u (e.ConstantSelect' k h (more_of-Expr a end_of-Expr)) d f = (f.0, formed v u a d f.1)
  formed v u (e.ConstantPart' k span h (more_of-Expr a end_of-Expr) g (more_of-Expr b end_of-Expr)) d f =
      let p = constant_same v u a d.0 in
      let q = constant_same v u b d.1 in
      let P : Operand → Operand → Type 0 = λ x y. IsPart k span x y in
      let Q : Operand → Operand → Type 0 = λ x y. IsLength (part_of k span x y).width in
      (f.0, formed v u a d.0 f.1, formed v u b d.1 f.2, both P _ _ _ _ p q f.3, both Q _ _ _ _ p q f.4)
  formed v u (e.Cast' cast h (more_of-Expr a end_of-Expr)) d f = formed v u a d f
  formed v u (e.Paren' h (more_of-Expr a end_of-Expr)) d f = formed v u a d f
  formed v u (e.Concat' h row) d f = (rows_formed v u row d f.0, subst (λ (z : Operand). IsLength z.width) (constant_rows v u row d) f.1)
  formed v u (e.Repeat' h (more_of-Expr a end_of-Expr) g row) d f =
      let p = constant_same v u a d.0 in
      let q = constant_rows v u row d.1 in
      let Q : Operand → Operand → Type 0 = λ x y. IsLength (repeated x y).width in
      (formed v u a d.0 f.0, subst (λ (z : Operand). IsTrue (own_defined z)) p f.1, rows_formed v u row d.1 f.2, both Q _ _ _ _ p q f.3)
  formed v u (e.Unary' op h (more_of-Expr a end_of-Expr)) d f = formed v u a d f
  formed v u (e.Binary' op h (more_of-Expr a end_of-Expr) g (more_of-Expr b end_of-Expr)) d f = (formed v u a d.0 f.0, formed v u b d.1 f.1)
  formed v u (e.Choice' h (more_of-Expr c end_of-Expr) g (more_of-Expr a end_of-Expr) i (more_of-Expr b end_of-Expr)) d f = (formed v u c d.0 f.0, formed v u a d.1 f.1, formed v u b d.2 f.2)

  rows_formed : {m : _} (v u : List Entry) (row : Row_of-Expr m) → AllNamesOnly nothing row → AllFormed v row → AllFormed u row
  rows_formed v u end_of-Expr d f = tt
  rows_formed v u (more_of-Expr a rest) d f = (formed v u a d.0 f.0, rows_formed v u rest d.1 f.1)

-- ---- an expression that may be taken by itself

pub evaluable : (v : List Entry) (a : Expr) → IsFormed v a → IsTrue (own_defined (operand_of v a)) → IsEvaluable a
evaluable v a f d n = (formed v [] a n f, subst (λ (z : Operand). IsTrue (own_defined z)) (constant_same v [] a n) d)

-- ---- what is defined has defined parts

joined_true : (j : Family) (p q : Bool) (y : ℕ) → IsTrue (is_joined j p q y) → IsTrue p × IsTrue q
joined_true k.Arithmetic p q y h = both_true p q h
joined_true k.Division p q y h = both_true p q (both_true (p && q) (not (nat_eq y 0)) h).0
joined_true k.Shift p q y h = both_true p q h
joined_true k.Order p q y h = both_true p q h
joined_true k.Equality p q y h = both_true p q h
joined_true k.Logic p q y h = both_true p q h

binary_true : (op : Binary) (a c : Operand) (L : ℕ) (s : Bool) → IsTrue ((binary_of op a c).defined L s)
    → IsTrue (a.defined (left_width (family_of op) L a.width c.width) (left_sign (family_of op) s a.signed c.signed)) × IsTrue (c.defined (right_width (family_of op) L a.width c.width) (right_sign (family_of op) s a.signed c.signed))
binary_true op a c L s d =
    let j = family_of op in
    joined_true j (a.defined (left_width j L a.width c.width) (left_sign j s a.signed c.signed)) (c.defined (right_width j L a.width c.width) (right_sign j s a.signed c.signed))
    (c.value (right_width j L a.width c.width) (right_sign j s a.signed c.signed)) (subst IsTrue (binary_defined op a c L s) d)

select_true : (b : Bool) (v : List Entry) (x : Read) (o : Operand) (L : ℕ) (s : Bool) → IsTrue ((if b then bit_of (named v x) o else word_of v x o).defined L s) → IsTrue (own_defined o)
select_true true v x o L s h = h
select_true false v x o L s h = h

-- ---- what is read

mutual
  pub reads_ready : (v : List Entry) (a : Expr) (L : ℕ) (s : Bool) (q : Lval) → IsFormed v a → IsDefined v a L s → Among (reads_of a) q → IsPartReady q
  reads_ready v (e.Number n) L s q f d m = absurd m
  reads_ready v (e.Name x) L s q f d m = ⊎_elim (λ (i : l.Name x.text ≡ q). subst IsPartReady i tt) (λ n. absurd n) m
  reads_ready v (e.Select' x h (more_of-Expr a end_of-Expr)) L s q f d m =
      let o = select_true (nat_eq (depth_of v x) 0) v x (operand_of v a) L s d in
      ⊎_elim (λ (i : l.Select x.text a ≡ q). subst IsPartReady i (evaluable v a f.1 o)) (λ n. reads_ready v a (width_of v a) (sign_of v a) q f.1 o n) m
  reads_ready v (e.Part' x span h (more_of-Expr a end_of-Expr) g (more_of-Expr c end_of-Expr)) L s q f d m =
      let o = both_true (own_defined (operand_of v a)) (own_defined (operand_of v c)) d in
      ⊎_elim (λ (i : l.Part x.text span a c ≡ q). subst IsPartReady i (evaluable v a f.1 o.0, evaluable v c f.2 o.1))
      (λ n. ⊎_elim (λ r. reads_ready v a (width_of v a) (sign_of v a) q f.1 o.0 r) (λ r. reads_ready v c (width_of v c) (sign_of v c) q f.2 o.1 r) (among_append (reads_of a) (reads_of c) q n)) m
  reads_ready v (e.ConstantSelect' j h (more_of-Expr a end_of-Expr)) L s q f d m = reads_ready v a (width_of v a) (sign_of v a) q f.1 d m
  reads_ready v (e.ConstantPart' j span h (more_of-Expr a end_of-Expr) g (more_of-Expr c end_of-Expr)) L s q f d m =
      let o = both_true (own_defined (operand_of v a)) (own_defined (operand_of v c)) d in
      ⊎_elim (λ r. reads_ready v a (width_of v a) (sign_of v a) q f.1 o.0 r) (λ r. reads_ready v c (width_of v c) (sign_of v c) q f.2 o.1 r) (among_append (reads_of a) (reads_of c) q m)
  reads_ready v (e.Cast' cast h (more_of-Expr a end_of-Expr)) L s q f d m = reads_ready v a (width_of v a) (sign_of v a) q f d m
  reads_ready v (e.Paren' h (more_of-Expr a end_of-Expr)) L s q f d m = reads_ready v a L s q f d m
  reads_ready v (e.Concat' h row) L s q f d m = rows_ready v row L s q f.0 d m
  reads_ready v (e.Repeat' h (more_of-Expr a end_of-Expr) g row) L s q f d m =
      let o = both_true (own_defined (operand_of v a)) (own_defined (row_of v row)) d in
      ⊎_elim (λ r. reads_ready v a (width_of v a) (sign_of v a) q f.0 o.0 r) (λ r. rows_ready v row (row_of v row).width (row_of v row).signed q f.2 o.1 r) (among_append (reads_of a) (row_reads row) q m)
  reads_ready v (e.Unary' op h (more_of-Expr a end_of-Expr)) L s q f d m =
      reads_ready v a (inner_width op L (width_of v a)) (inner_sign op s (sign_of v a)) q f (subst IsTrue (unary_defined op (operand_of v a) L s) d) m
  reads_ready v (e.Binary' op h (more_of-Expr a end_of-Expr) g (more_of-Expr c end_of-Expr)) L s q f d m =
      let j = family_of op in
      let o = binary_true op (operand_of v a) (operand_of v c) L s d in
      ⊎_elim (λ r. reads_ready v a (left_width j L (width_of v a) (width_of v c)) (left_sign j s (sign_of v a) (sign_of v c)) q f.0 o.0 r)
      (λ r. reads_ready v c (right_width j L (width_of v a) (width_of v c)) (right_sign j s (sign_of v a) (sign_of v c)) q f.1 o.1 r) (among_append (reads_of a) (reads_of c) q m)
  reads_ready v (e.Choice' h (more_of-Expr b end_of-Expr) g (more_of-Expr a end_of-Expr) i (more_of-Expr c end_of-Expr)) L s q f d m =
      let o = both_true (own_defined (operand_of v b) && (operand_of v a).defined L s) ((operand_of v c).defined L s) d in
      let u = both_true (own_defined (operand_of v b)) ((operand_of v a).defined L s) o.0 in
      ⊎_elim (λ r. reads_ready v b (width_of v b) (sign_of v b) q f.0 u.0 r)
      (λ n. ⊎_elim (λ r. reads_ready v a L s q f.1 u.1 r) (λ r. reads_ready v c L s q f.2 o.1 r) (among_append (reads_of a) (reads_of c) q n))
      (among_append (reads_of b) (reads_of a ++ reads_of c) q m)

  rows_ready : {n : _} (v : List Entry) (row : Row_of-Expr n) (L : ℕ) (s : Bool) (q : Lval) → AllFormed v row → IsTrue ((row_of v row).defined L s) → Among (row_reads row) q → IsPartReady q
  rows_ready v end_of-Expr L s q f d m = absurd m
  rows_ready v (more_of-Expr a rest) L s q f d m =
      let o = both_true (own_defined (operand_of v a)) (own_defined (row_of v rest)) d in
      ⊎_elim (λ r. reads_ready v a (width_of v a) (sign_of v a) q f.0 o.0 r) (λ r. rows_ready v rest (row_of v rest).width (row_of v rest).signed q f.1 o.1 r) (among_append (reads_of a) (row_reads rest) q m)
