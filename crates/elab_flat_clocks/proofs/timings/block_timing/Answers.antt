use Rattle.std.proofs.Common.{◌++◌, sym, ap, ◌∙◌}
use Rattle.std.specs.Option.{option_map, option_copied}
use Rattle.vlog_tree.specs.declared.stmt.Events.TheVariants as v
use Rattle.vlog_tree_runs.specs.Places.{Name}
use Rattle.elab_flat_scopes.specs.Borrowed.{block_meant}
use Rattle.elab_flat_scopes.proofs.Finding.{got}
use Rattle.elab_flat_instances.specs.Unfolding.{scope_meant}
use Rattle.elab_flat_instances.proofs.Children.{among_get}
use Rattle.elab_flat_clocks.specs.Driving.{timed_meant}
use Rattle.elab_flat_clocks.proofs.Driven.{one_timing, breaks}
use Rattle.elab_flat_clocks.proofs.timings.block_timing.Goals as goal

pub returns-in-Some-clause-ok : goal.returns-in-Some-clause-ok
returns-in-Some-clause-ok c =
    one_timing c.args.table.now (block_meant c.args.block.now) c.as_slice-edges.result.now (c.in-Edges.is ∙ ap (λ es. v.Edges es) (sym c.as_slice-edges.ensures)) (option_map timed_meant c.driven.result) c.driven.ensures
    (timed_meant c.in-Some.timing) (ap (option_map timed_meant) c.in-Some.is)

pub returns-in_ok-name-in-Some-first-clause-err : goal.returns-in_ok-name-in-Some-first-clause-err
returns-in_ok-name-in-Some-first-clause-err c =
    let edges = c.as_slice-edges.result.now in
    let edge = c.in-Some-first.edge.now in
    let s = scope_meant c.args.scope.now in
    breaks c.args.table.now (block_meant c.args.block.now) edges (c.in-Edges.is ∙ ap (λ es. v.Edges es) (sym c.as_slice-edges.ensures)) (option_map timed_meant c.driven.result) c.driven.ensures (ap (option_map timed_meant) c.in_default.is) s
    edge (among_get edges 0 edge (sym (got edges 0 c.first.result c.first.ensures.item) ∙ ap option_copied c.in-Some-first.is)) c.in_ok-name-in-Some-first.name
    (c.in_ok-name-in-Some-first.ensures ∙ (ap (λ (p : Name). p ++ c.bytes-in-Some-first.result.now) c.bytes.ensures ∙ ap (λ (n : Name). s.prefix ++ n) c.bytes-in-Some-first.ensures))
