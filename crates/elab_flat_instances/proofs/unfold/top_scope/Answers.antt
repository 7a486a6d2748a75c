use Rattle.std.proofs.Common.{◌≡◌, [], List, map, ap, ◌∙◌}
use Rattle.vlog_tree_runs.specs.Scopes.{Given}
use Rattle.elab_flat_scopes.specs.Borrowed.{given_meant}
use Rattle.elab_flat_instances.proofs.Tops.{top_fault}
use Rattle.elab_flat_instances.proofs.unfold.top_scope.Goals as goal

pub returns-in-Err-Bad-clause-err : goal.returns-in-Err-Bad-clause-err
returns-in-Err-Bad-clause-err c =
    let ds : List Given = map given_meant c.deref.result.now in
    let none : ds ≡ [] = ap (map given_meant) (c.deref.ensures.value ∙ c.new-given.ensures.items) in
    top_fault c.args.text.now ds c.new.result none c.new.ensures c.in-Err-Bad.field-0 c.in-Err-Bad.at c.in-Err-Bad.cause c.in-Err-Bad.field-0-is c.in-Err-Bad.ensures.err
    c.in_ok-param_fault-in-Err-Bad.field-0 c.in_ok-param_fault-in-Err-Bad.ensures
