-- A moved assignment may be taken where the assignment is fit.
use Rattle.std.proofs.Common.{◌≡◌, ℕ, ◌+◌, ◌≤◌, max, Bool, true, false, IsTrue, nat_eq, List, [], ◌∷◌, ◌++◌, sym, ap, ◌∙◌, refl, subst, inl, inr, arith}
use Rattle.std.specs.Prelude.{if◌then◌else◌}
use Rattle.vlog_tree.specs.declared.expr.Expr.{Expr}
use Rattle.vlog_tree.specs.declared.expr.Span.{Span}
use Rattle.vlog_tree.specs.declared.expr.Span.TheVariants as w
use Rattle.vlog_tree.specs.declared.stmt.Lval.{Lval, Row_of-Lval, end_of-Lval, more_of-Lval}
use Rattle.vlog_tree.specs.declared.stmt.Lval.TheVariants as l
use Rattle.vlog_tree.specs.declared.valuation.Entry.{Entry}
use Rattle.vlog_tree.specs.Valuation.{IsLength, named, depth_of}
use Rattle.vlog_tree.specs.Value.{Operand, operand_of, own_defined, own_integer, part_width, width_of, sign_of, Stands, IsPartConstant}
use Rattle.vlog_tree_runs.specs.Places.{Name, Cycle, Among, Place, Piece, read, valuation, pieces, row_pieces, total, bit_piece, word_piece}
use Rattle.vlog_tree_runs.specs.Blocks.{is_parameter}
use Rattle.elab_flat_laws.specs.Moved.{moved, moved_left, moved_lefts}
use Rattle.elab_flat_laws.specs.Uses.{IsSignal, UsesDeclared, AssignsSignals, AllAssignSignals}
use Rattle.elab_flat_laws.specs.Laws.{MovesInto}
use Rattle.elab_flat_laws.proofs.Lists.{append_left, append_right}
use Rattle.elab_flat_laws.proofs.Sides.{expr_moved, pieces_moved}
use Rattle.elab_flat_faults.specs.Texts.{numbers_in, row_numbers_in}
use Rattle.elab_flat_faults.specs.Constants.{at_rest, Taken, alone, stored, IsSpanConstant, HasConstantSpans, AllHaveConstantSpans, IsLeftFormed, AreLeftsFormed}
use Rattle.elab_flat_faults.specs.Drivers.{parts_of, row_parts_of}
use Rattle.mem_laws.specs.Spread.{part_length, lefts_length}
use Rattle.elab_step_blocks.specs.Ready.{IsPlaced, IsSingle, IsReadyLeft, AreReadyLefts}
use Rattle.desk_core_stage_laws.specs.Fit.{IsFit}
use Rattle.desk_core_stage_laws.specs.Sized.{left_length, IsSizedStore}
use Rattle.desk_core_stage_laws.proofs.Lengths.{formed_length, longer}
use Rattle.desk_core_stage_laws.proofs.Keeping.{part_fixed, parts_fixed, moved_formed}

-- ---- the length of a left side

total_append : (xs ys : List Piece) → total (xs ++ ys) ≡ total xs + total ys
total_append [] ys = omega arith
total_append (x ∷ xs) ys = ap (λ n. x.count + n) (total_append xs ys) ∙ omega arith

pub lengths_append : (v : List Entry) (ps qs : List Lval) → lefts_length v (ps ++ qs) ≡ lefts_length v ps + lefts_length v qs
lengths_append v [] qs = omega arith
lengths_append v (p ∷ ps) qs = ap (λ n. part_length v p + n) (lengths_append v ps qs) ∙ omega arith

chosen_count : (t : Bool) (x y : Piece) → (if t then x else y).count ≡ (if t then x.count else y.count)
chosen_count true x y = refl
chosen_count false x y = refl

module _ (q : Place) (c : Cycle) where
  mutual
    left_wide : (left : Lval) → total (pieces q c left) ≡ left_length (valuation q c) left
    left_wide (l.Name x) = refl
    left_wide (l.Select x a) =
        let v = valuation q c in
        ap (λ n. n + 0)
        (chosen_count (nat_eq (depth_of v (read x)) 0) (bit_piece (q.prefix ++ x) (named v (read x)) (operand_of v a)) (word_piece q.prefix x v (operand_of v a)))
    left_wide (l.Part x span a b) = refl
    left_wide (l.Concat' h row) = row_wide row

    row_wide : {m : _} (row : Row_of-Lval m) → total (row_pieces q c row) ≡ lefts_length (valuation q c) (row_parts_of row)
    row_wide end_of-Lval = refl
    row_wide (more_of-Lval a rest) =
        total_append (pieces q c a) (row_pieces q c rest)
        ∙ ((λ r. left_wide a r + row_wide rest r) ∙ sym (lengths_append (valuation q c) (parts_of a) (row_parts_of rest)))

-- ---- one place that moves into another one

as_part : (test : Name → Bool) (span : Span) (a b : Expr) → IsSpanConstant test span a b → IsPartConstant test span a b
as_part test w.Fixed a b h = h
as_part test w.Up a b h = h
as_part test w.Down a b h = h

module _ (p q : Place) (m : MovesInto p q) (stands : (x : Name) → IsSignal p x → Stands (at_rest q) (read (p.prefix ++ x))) where
  same : (a : Expr) → UsesDeclared p a → operand_of (at_rest q) (moved p.prefix p.params a) ≡ operand_of (at_rest p) a
  same a d = expr_moved p q (λ x. 0) a m d

  pub single : (a : Expr) → UsesDeclared p a → IsFit p (alone (at_rest p) a) → IsSingle (at_rest q) (moved p.prefix p.params a)
  single a d f = record {
    formed = moved_formed p q (λ x. 0) m stands a d.0 d.1 f.formed;
    constant = parts_fixed p a d.1 f.constant;
    defined = subst (λ (o : Operand). IsTrue (own_defined o)) (sym (same a d)) f.defined;
  }

  pub placed : (t : Taken) → UsesDeclared p t.value → IsFit p t → width_of (at_rest p) t.value ≤ t.width → t.width ≤ 64 →
      IsPlaced (at_rest q) (moved p.prefix p.params t.value) t.width t.signed
  placed t d f long most =
      let n = formed_length (at_rest p) t.value f.formed in
      record {
        ready = record {
          formed = moved_formed p q (λ x. 0) m stands t.value d.0 d.1 f.formed;
          some = omega (arith, n.0, long);
          long = subst (λ (o : Operand). o.width ≤ t.width) (sym (same t.value d)) long;
          most = most;
        };
        constant = parts_fixed p t.value d.1 f.constant;
        defined = subst (λ (o : Operand). IsTrue (o.defined t.width t.signed)) (sym (same t.value d)) f.defined;
      }

  mutual
    pub left_ready : (left : Lval) → AssignsSignals p left → HasConstantSpans (is_parameter p) left → IsLeftFormed (at_rest p) left →
        ((a : Expr) → Among (numbers_in left) a → IsFit p (alone (at_rest p) a)) → IsReadyLeft (at_rest q) (moved_left p.prefix p.params left)
    left_ready (l.Name x) d k f n = stands x d
    left_ready (l.Select x a) d k f n = (stands x d.0, single a d.1 (n a (inl refl)))
    left_ready (l.Part x span a b) d k f n = (
      stands x d.0,
      single a d.1 (n a (inl refl)),
      single b d.2 (n b (inr (inl refl))),
      part_fixed p span a b d.1.1 d.2.1 (as_part (is_parameter p) span a b k),
      subst (λ (o : Operand). IsLength (part_width span (own_integer (operand_of (at_rest q) (moved p.prefix p.params a))) (own_integer o))) (sym (same b d.2))
          (subst (λ (o : Operand). IsLength (part_width span (own_integer o) (own_integer (operand_of (at_rest p) b)))) (sym (same a d.1)) f.1),
    )
    left_ready (l.Concat' h row) d k f n = lefts_ready row d k f n

    lefts_ready : {i : _} (row : Row_of-Lval i) → AllAssignSignals p row → AllHaveConstantSpans (is_parameter p) row → AreLeftsFormed (at_rest p) row →
        ((a : Expr) → Among (row_numbers_in row) a → IsFit p (alone (at_rest p) a)) → AreReadyLefts (at_rest q) (moved_lefts p.prefix p.params row)
    lefts_ready end_of-Lval d k f n = tt
    lefts_ready (more_of-Lval a rest) d k f n = (
      left_ready a d.0 k.0 f.0 (λ b i. n b (append_left (numbers_in a) (row_numbers_in rest) b i)),
      lefts_ready rest d.1 k.1 f.1 (λ b i. n b (append_right (numbers_in a) (row_numbers_in rest) b i)),
    )

  -- a right side at the longer of its own and another length
  pub right_placed : (right : Expr) (n : ℕ) → IsLength n → UsesDeclared p right → IsFit p (stored (at_rest p) n right) →
      IsPlaced (at_rest q) (moved p.prefix p.params right) (max (width_of (at_rest q) (moved p.prefix p.params right)) n) (sign_of (at_rest q) (moved p.prefix p.params right))
  right_placed right n len d f =
      let a = moved p.prefix p.params right in
      let k = longer (width_of (at_rest p) right) n (formed_length (at_rest p) right f.formed) len in
      let first = placed (stored (at_rest p) n right) d f (omega arith) k.1 in
      subst (λ (o : Operand). IsPlaced (at_rest q) a (max o.width n) o.signed) (sym (same right d)) first

  -- its left side may stand in another place
  pub ready_store : (left : Lval) (right : Expr) (n : ℕ) → IsReadyLeft (at_rest q) left → n ≡ left_length (at_rest q) left → IsLength n →
      UsesDeclared p right → IsFit p (stored (at_rest p) n right) → IsSizedStore (at_rest q) left (moved p.prefix p.params right)
  ready_store left right n ready wide len d f =
      let a = moved p.prefix p.params right in
      record {
        left_side = ready;
        length = subst IsLength wide len;
        right_side = subst (λ j. IsPlaced (at_rest q) a (max (width_of (at_rest q) a) j) (sign_of (at_rest q) a)) wide (right_placed right n len d f);
      }

  pub moved_wide : (left : Lval) → AssignsSignals p left → total (pieces p (λ x. 0) left) ≡ left_length (at_rest q) (moved_left p.prefix p.params left)
  moved_wide left d = ap total (sym (pieces_moved p q (λ x. 0) left m d)) ∙ left_wide q (λ x. 0) (moved_left p.prefix p.params left)
