use Rattle.std.proofs.Common.{◌≡◌, map, ap, ◌∙◌}
use Rattle.vlog_tree_runs.specs.Contents.{port_names}
use Rattle.vlog_tree_runs.specs.Scopes.{given_to}
use Rattle.elab_flat_scopes.specs.Borrowed.{name_meant, given_meant, inner_meant}
use Rattle.elab_flat_instances.specs.Unfolding.{scope_meant}
use Rattle.elab_flat_clocks.specs.Tables.{bit_inputs, links}
use Rattle.elab_flat_clocks.proofs.Below.{below_is}
use Rattle.elab_flat_clocks.proofs.table.child_table.Goals as goal

pub returns-clause-ok : goal.returns-clause-ok
returns-clause-ok c =
    let s = scope_meant c.args.scope.now in
    let i = inner_meant c.args.inner.now in
    let given : map given_meant c.deref-2.result.now ≡ given_to (port_names s.module') i.args =
    ap (map given_meant) c.deref-2.ensures.value ∙ (c.in_ok-given.ensures ∙ ap (λ ns. given_to ns i.args) (ap (map name_meant) c.deref.ensures.value ∙ c.in_ok-ports.ensures)) in
    let bits : map name_meant c.deref-3.result.now ≡ bit_inputs s = ap (map name_meant) c.deref-3.ensures.value ∙ c.in-Ok.ensures.ok in
    below_is c.args.outer.now i s c.in_ok-table.table (c.in_ok-table.ensures ∙ (c.in_ok-links.ensures ∙ (λ j. links c.args.outer.now (given j) (bits j))))
