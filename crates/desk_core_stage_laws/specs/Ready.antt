-- The laws.
use Rattle.std.specs.Prelude.{◌++◌, List}
use Rattle.vlog_tree.specs.declared.module.Module.{Module}
use Rattle.vlog_tree.specs.declared.stmt.Stmt.{Stmt}
use Rattle.vlog_tree.specs.Value.{Stands as IsNamed}
use Rattle.vlog_tree_runs.specs.declared.flat.Flat.{Flat}
use Rattle.vlog_tree_runs.specs.Places.{Name, Place, read}
use Rattle.vlog_tree_runs.specs.Blocks.{lefts}
use Rattle.vlog_tree_runs.specs.Scopes.{Scope}
use Rattle.elab_flat_laws.specs.Moved.{moved_stmt}
use Rattle.elab_flat_laws.specs.Uses.{IsSignal, IsDeclared}
use Rattle.elab_flat_laws.specs.Flattened.{IsFlatOf, AreScopes, CanFlatten}
use Rattle.elab_flat_laws.specs.Laws.{MovesInto}
use Rattle.elab_flat_faults.specs.declared.flattening.FlatFault.{FlatFault}
use Rattle.elab_flat_faults.specs.Texts.{stores_in, alone_in, compared_in}
use Rattle.elab_flat_faults.specs.Constants.{at_rest}
use Rattle.elab_flat_faults.specs.FlatStands.{Stands}
use Rattle.desk_core_stage_laws.specs.Fit.{AreFit}
use Rattle.desk_core_stage_laws.specs.Sized.{IsSizedStmt, HasSizedTexts}
use Rattle.elab_flat_faults.specs.Handed.{HasTopPorts, HaveOwnPaths}
use Rattle.elab_flat_faults.specs.Plain.{ArePlainTexts}

-- the texts of a block may be taken in the place that it is moved to: the block itself is fit, and its signals stand there
abbrev pub MovedBlocksStayReady : Type 0
MovedBlocksStayReady =
    (p q : Place) (body : Stmt) → MovesInto p q → ((x : Name) → IsSignal p x → IsNamed (at_rest q) (read (p.prefix ++ x))) →
    IsDeclared p body → AreFit p (stores_in body) (alone_in body) (compared_in body) (lefts body) → IsSizedStmt (at_rest q) (moved_stmt p.prefix p.params body)

-- a list of modules for which no fault stands gives a module without instances whose texts can be taken where they stand
abbrev pub FlatHasSizedTexts : Type 0
FlatHasSizedTexts =
    (ms : List Module) (top : Name) (ss : List Scope) (f : Flat) → ArePlainTexts ms → IsFlatOf ms top ss f → AreScopes ms top ss → HaveOwnPaths ms top ss → CanFlatten ms ss →
    HasTopPorts ms top f → ((fault : FlatFault) → Stands ms top fault → ⊥) → HasSizedTexts f
