use Rattle.std.proofs.Common.{map, ap, subst, ◌∙◌}
use Rattle.std.specs.Prelude.{IfErr, List}
use Rattle.vlog_tree_runs.specs.Places.{Among}
use Rattle.vlog_tree_runs.specs.Contents.{Block}
use Rattle.vlog_tree_runs.specs.Scopes.{place_of}
use Rattle.elab_flat_scopes.specs.Borrowed.{block_meant}
use Rattle.elab_flat_instances.specs.Unfolding.{scope_meant}
use Rattle.elab_flat_widths.specs.declared.violation.Violation.{Violation}
use Rattle.elab_flat_widths.specs.Taken.{Fails}
use Rattle.elab_flat_widths.specs.Usages.{BreaksBody}
use Rattle.elab_flat_widths.proofs.block.check_blocks.Goals as goal

pub returns-clause-err : goal.returns-clause-err
returns-clause-err c =
    let p = place_of (scope_meant c.args.scope.now) in
    subst (λ (xs : List Block). IfErr c.check_each.result (Fails (λ (w : Violation). (x : Block) × Among xs x × BreaksBody p x.body w))) (ap (map block_meant) c.deref.ensures.value ∙ c.in_ok-blocks.ensures) c.check_each.ensures.err
