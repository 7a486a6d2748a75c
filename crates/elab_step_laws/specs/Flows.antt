-- What the bits of a block depend on, over all its paths in one pass through its text (IEEE 1364-2005, sections 9.4, 9.5 and 9.7.5; flow of
-- data as in Aho, Lam, Sethi and Ullman, Compilers: Principles, Techniques, and Tools, 2nd edition, section 9.2).
use Rattle.std.specs.Prelude.{ℕ, ◌≡◌, ◌⊎◌, ◌<◌, List, [], ◌∷◌}
use Rattle.std.specs.List.{flat_map}
use Rattle.vlog_tree.specs.declared.expr.Expr.{Expr}
use Rattle.vlog_tree.specs.declared.stmt.Lval.{Lval}
use Rattle.vlog_tree.specs.declared.stmt.Stmt.{Stmt, Row_of-Stmt, end_of-Stmt, more_of-Stmt, Row_of-CaseItem, end_of-CaseItem, more_of-CaseItem}
use Rattle.vlog_tree.specs.declared.stmt.Stmt.TheVariants as s
use Rattle.vlog_tree_runs.specs.Places.{Name, Among, Place}
use Rattle.vlog_tree_runs.specs.Blocks.{labels_in, left_names}
use Rattle.elab_flat_faults.specs.Texts.{names_in, numbers_in}
use Rattle.elab_flat_faults.specs.Paths.{Sets, IsFull, HasDefault, width_in}

-- what some path up to a place in a block does: it leaves bit b of x unset; by it an assignment to y depends on z; it reads x before all of x is set
pub record Flow : Type 1 where
  pub unset : Name → ℕ → Type 0
  pub through : Name → Name → Type 0
  pub outside : Name → Type 0

-- before the first statement
abbrev pub at_start : Flow
at_start = record { unset = λ x b. Unit {0}; through = λ y z. ⊥; outside = λ x. ⊥ }

-- where no path leads
abbrev pub nowhere : Flow
nowhere = record { unset = λ x b. ⊥; through = λ y z. ⊥; outside = λ x. ⊥ }

-- where paths meet
abbrev pub either : Flow → Flow → Flow
either v w =
    record {
      unset = λ x b. v.unset x b ⊎ w.unset x b;
      through = λ y z. v.through y z ⊎ w.through y z;
      outside = λ x. v.outside x ⊎ w.outside x;
    }

-- a path that leads on only under a condition
abbrev pub only_if : Type 0 → Flow → Flow
only_if P w = record { unset = λ x b. P × w.unset x b; through = λ y z. P × w.through y z; outside = λ x. P × w.outside x }

-- not all bits of x are set
abbrev pub IsUnset : Place → Flow → Name → Type 0
IsUnset p w x = (b : ℕ) × (b < width_in p x) × w.unset x b

-- the expressions, read here, count as z: by itself, or through earlier assignments to a name in them
abbrev pub Uses : Place → Flow → List Expr → Name → Type 0
Uses p w as' z = (y : Name) × Among (flat_map names_in as') y × (((z ≡ y) × IsUnset p w y) ⊎ w.through y z)

-- after reading expressions
abbrev pub after_reads : Place → List Expr → Flow → Flow
after_reads p as' w =
    record {
      unset = w.unset;
      through = w.through;
      outside = λ x. (Among (flat_map names_in as') x × IsUnset p w x) ⊎ w.outside x;
    }

-- after an assignment, under conditions that count as the names `around`
abbrev pub after_assignment : Place → (Name → Type 0) → Lval → Expr → Flow → Flow
after_assignment p around left right w =
    record {
      unset = λ x b. w.unset x b × (Sets p left x b → ⊥);
      through = λ y z. (Among (left_names left) y × (Uses p w (right ∷ numbers_in left) z ⊎ around z)) ⊎ w.through y z;
      outside = (after_reads p (right ∷ numbers_in left) w).outside;
    }

-- the conditions around a branch, which are read where it begins
abbrev pub within : Place → (Name → Type 0) → Flow → List Expr → Name → Type 0
within p around w as' z = Uses p w as' z ⊎ around z

-- after a statement
abbrev mutual
  pub flow : Place → (Name → Type 0) → Stmt → Flow → Flow
  flow p around s.Empty w = w
  flow p around (s.Block' n h row) w = row_flow p around row w
  flow p around (s.If' a h (more_of-Stmt body end_of-Stmt)) w =
      either (flow p (within p around w (a ∷ [])) body (after_reads p (a ∷ []) w)) (after_reads p (a ∷ []) w)
  flow p around (s.IfElse' a h (more_of-Stmt body end_of-Stmt) g (more_of-Stmt other end_of-Stmt)) w =
      either
      (flow p (within p around w (a ∷ [])) body (after_reads p (a ∷ []) w))
      (flow p (within p around w (a ∷ [])) other (after_reads p (a ∷ []) w))
  flow p around (s.Case' kind a h row) w =
      either
      (items_flow p (within p around w (a ∷ labels_in row)) row (after_reads p (a ∷ labels_in row) w))
      (only_if ((HasDefault row → ⊥) × (IsFull p kind a (labels_in row) → ⊥)) (after_reads p (a ∷ labels_in row) w))
  flow p around (s.Blocking left right) w = after_assignment p around left right w
  flow p around (s.Nonblocking left right) w = after_assignment p around left right w

  pub row_flow : {m : _} → Place → (Name → Type 0) → Row_of-Stmt m → Flow → Flow
  row_flow p around end_of-Stmt w = w
  row_flow p around (more_of-Stmt a rest) w = row_flow p around rest (flow p around a w)

  pub items_flow : {m : _} → Place → (Name → Type 0) → Row_of-CaseItem m → Flow → Flow
  items_flow p around end_of-CaseItem w = nowhere
  items_flow p around (more_of-CaseItem labels body rest) w = either (flow p around body w) (items_flow p around rest w)

-- after a whole block
abbrev pub block_flow : Place → Stmt → Flow
block_flow p body = flow p (λ z. ⊥) body at_start
