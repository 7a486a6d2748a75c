-- The laws of flattening.
use Rattle.std.specs.Prelude.{ℕ, ◌≡◌, ◌^◌, ◌<◌, Bool, true, List, [], ◌++◌, Some, None}
use Rattle.vlog_tree.specs.declared.expr.Constant.{Constant}
use Rattle.vlog_tree.specs.declared.expr.Expr.{Expr}
use Rattle.vlog_tree.specs.declared.expr.Name.{Name as Read}
use Rattle.vlog_tree.specs.declared.stmt.Stmt.{Stmt}
use Rattle.vlog_tree.specs.declared.valuation.Entry.{Entry}
use Rattle.vlog_tree.specs.Valuation.{meaning_of, named, depth_of, word_name}
use Rattle.vlog_tree.specs.Value.{operand_of, NamesOnly}
use Rattle.vlog_tree.specs.declared.module.Module.{Module}
use Rattle.vlog_tree_runs.specs.declared.flat.Flat.{Flat}
use Rattle.vlog_tree_runs.specs.Places.{Name, Cycle, Place, valuation}
use Rattle.vlog_tree_runs.specs.Scopes.{Scope}
use Rattle.elab_flat_laws.specs.Flattened.{IsFlatOf, AreScopes, CanFlatten, KeepsRuns, HaveSimpleNames, AreShallow, AreApart}
use Rattle.vlog_tree_runs.specs.Blocks.{run, low_in}
use Rattle.elab_flat_laws.specs.Moved.{under, moved, moved_stmt}
use Rattle.elab_flat_laws.specs.Uses.{is_declared, IsSignal, IsDeclared}

-- what a name stands for in one list of entries it stands for under a prefix in another one: its length, lowest bit, sign and value, and
-- where it is a memory its words
pub record SameRead (v w : List Entry) (pre : Name) (x : Read) : Type 0 where
  pub meaning : named w (under pre x) ≡ named v x
  pub depth : depth_of w (under pre x) ≡ depth_of v x
  pub words : (j : ℕ) → j < depth_of v x → named w (word_name (under pre x) j) ≡ named v (word_name x j)

-- what a parameter stands for
pub record SameConstant (v : List Entry) (x : Read) (k : Constant) : Type 0 where
  pub meaning : named v x ≡ k
  pub depth : depth_of v x ≡ 0
  pub fits : k.value < 2 ^ k.width

-- the names of a text that pass a test stand in `w`, under a prefix, for what they stand for in `v`; parameters by their numbers
pub record Moves (test : Name → Bool) (ps : List Entry) (v w : List Entry) (pre : Name) : Type 0 where
  pub names : (x : Read) → test x.text ≡ true → meaning_of ps x ≡ None → SameRead v w pre x
  pub constants : (x : Read) (k : Constant) → meaning_of ps x ≡ Some k → SameConstant v x k

abbrev pub MovedExpressionsMean : Type 0
MovedExpressionsMean =
    (test : Name → Bool) (ps v w : List Entry) (pre : Name) (a : Expr) → Moves test ps v w pre → NamesOnly test a → operand_of w (moved pre ps a) ≡ operand_of v a

-- a place moves into another one, which has no parameters: in each cycle each of its names stands for what it stood for
pub record MovesInto (p q : Place) : Type 0 where
  pub names : (c : Cycle) → Moves (is_declared p) p.params (valuation p c) (valuation q c) p.prefix
  pub lows : (x : Name) → IsSignal p x → low_in q (p.prefix ++ x) ≡ low_in p x
  pub outer : q.prefix ≡ []

abbrev pub MovedStatementsDo : Type 0
MovedStatementsDo =
    (at_once : Bool) (p q : Place) (body : Stmt) (c d : Cycle) → MovesInto p q → IsDeclared p body →
    run at_once q (moved_stmt p.prefix p.params body) c d ≡ run at_once p body c d

-- the module without instances has the cycles of the list of modules, and the same cycles follow
abbrev pub FlatKeepsRuns : Type 0
FlatKeepsRuns = (ms : List Module) (top : Name) (ss : List Scope) (f : Flat) → IsFlatOf ms top ss f → AreScopes ms top ss → CanFlatten ms ss → KeepsRuns ms top f

-- the names of scopes are different where no identifier has a dot
abbrev pub ScopesAreApart : Type 0
ScopesAreApart = (ms : List Module) (top : Name) (ss : List Scope) → HaveSimpleNames ms → AreShallow ss → AreScopes ms top ss → AreApart ss
