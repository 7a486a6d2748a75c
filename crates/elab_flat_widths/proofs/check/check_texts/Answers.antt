use Rattle.std.proofs.Common.{refl, sym, subst, ⊎_elim}
use Rattle.vlog_tree.specs.declared.item.Assign.{Assign}
use Rattle.vlog_tree_runs.specs.Places.{Among}
use Rattle.vlog_tree_runs.specs.Contents.{assigns_in, Block, blocks_in}
use Rattle.vlog_tree_runs.specs.Scopes.{place_of}
use Rattle.elab_flat_faults.specs.FlatStands.{Refuses}
use Rattle.elab_flat_instances.specs.Unfolding.{scope_meant}
use Rattle.elab_flat_widths.specs.declared.violation.Violation.{Violation}
use Rattle.elab_flat_widths.specs.declared.side.Side.TheVariants as d
use Rattle.elab_flat_widths.specs.Stores.{BreaksStore}
use Rattle.elab_flat_widths.specs.Usages.{BreaksBody}
use Rattle.elab_flat_widths.specs.Texts.{StandsAround}
use Rattle.elab_flat_widths.proofs.Texts.{IsSoundText, assign_breaks, body_breaks}
use Rattle.elab_flat_widths.proofs.Standing.{assign_signals, body_signals, constants_keep, sizes_keep}
use Rattle.elab_flat_widths.proofs.Connections.{alone_around, text_around, inner_around}
use Rattle.elab_flat_widths.proofs.check.check_texts.Goals as goal

pub returns-in-Err-clause-err : goal.returns-in-Err-clause-err
returns-in-Err-clause-err c = alone_around c.args.modules.now c.args.path.now (scope_meant c.args.scope.now) c.in-Err.fault c.in-Err.ensures.err

pub check_assignments-requires-clause-signals : goal.check_assignments-requires-clause-signals
check_assignments-requires-clause-signals c = assign_signals c.args.modules.now (scope_meant c.args.scope.now) c.requires.names

pub returns-in-Err-check_assignments-clause-err : goal.returns-in-Err-check_assignments-clause-err
returns-in-Err-check_assignments-clause-err c =
    let ms = c.args.modules.now in
    let s = scope_meant c.args.scope.now in
    let path = c.args.path.now in
    subst (Refuses (StandsAround ms path s)) (sym c.in_ok-named_fault-in-Err-check_assignments.ensures)
    (text_around ms path s c.requires.names (λ (w : Violation). (a : Assign) × Among (assigns_in s.module') a × BreaksStore d.Continuous (place_of s) a w)
    (λ w h. assign_breaks ms s h.0 h.1 w h.2) path refl c.in-Err-check_assignments.violation c.in-Err-check_assignments.ensures.err)

pub check_blocks-requires-clause-signals : goal.check_blocks-requires-clause-signals
check_blocks-requires-clause-signals c = body_signals c.args.modules.now (scope_meant c.args.scope.now) c.requires.names

pub returns-in-Err-check_blocks-clause-err : goal.returns-in-Err-check_blocks-clause-err
returns-in-Err-check_blocks-clause-err c =
    let ms = c.args.modules.now in
    let s = scope_meant c.args.scope.now in
    let path = c.args.path.now in
    subst (Refuses (StandsAround ms path s)) (sym c.in_ok-named_fault-in-Err-check_blocks.ensures)
    (text_around ms path s c.requires.names (λ (w : Violation). (k : Block) × Among (blocks_in s.module') k × BreaksBody (place_of s) k.body w)
    (λ w h. body_breaks ms s h.0 h.1 w h.2) path refl c.in-Err-check_blocks.violation c.in-Err-check_blocks.ensures.err)

pub returns-in-Ok-check_inners-clause-none : goal.returns-in-Ok-check_inners-clause-none
returns-in-Ok-check_inners-clause-none c = λ n h.
    let ms = c.args.modules.now in
    let s = scope_meant c.args.scope.now in
    let path = c.args.path.now in
    let text : IsSoundText ms s = record {
      assigns = c.in-Ok-check_assignments.ensures.ok;
      blocks = c.in-Ok-check_blocks.ensures.ok;
      inners = c.in-Ok-check_inners.ensures.ok;
    } in
    ⊎_elim (constants_keep ms s c.requires.sound c.requires.inners c.in-Ok.ensures.ok text path n) (sizes_keep ms s c.requires.sound c.requires.inners c.in-Ok.ensures.ok text path n) h

pub returns-clause-err : goal.returns-clause-err
returns-clause-err c =
    inner_around c.args.modules.now c.args.path.now (scope_meant c.args.scope.now) c.requires.names c.requires.inners c.in-Err-check_inners.fault c.in-Err-check_inners.ensures.err
