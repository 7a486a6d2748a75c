use Rattle.std.proofs.Common.{◌+◌, ◌<◌, length, sym, subst, arith}
use Rattle.twin_tests_laws.specs.Windows.{named_rows}
use Rattle.twin_tests.specs.Building.{AreLeaves, Shows}
use Rattle.twin_tests.proofs.Framed.{met_step, shown_to}
use Rattle.twin_tests.proofs.Standing.{leaves_later, leaves_take, shows_later}
use Rattle.twin_tests.proofs.frame.met_nodes.Goals as goal

pub constraints_node-requires-clause-leaves : goal.constraints_node-requires-clause-leaves
constraints_node-requires-clause-leaves c =
    let names = c.args.set.now.names in
    let rows = c.args.rows.now in
    let d = c.loop-end.dag in
    subst (λ z. AreLeaves names d z) (sym c.rows_before.ensures) (leaves_take names d rows (c.loop-end.end + 1) (leaves_later c.args.dag.now d names rows c.loop-end.invariant.keeps c.requires.shows.leaves))

pub loop-end-preserved : goal.loop-end-preserved
loop-end-preserved c =
    let set = c.args.set.now in
    let rows = c.args.rows.now in
    let d = c.loop-end.dag in
    let end = c.loop-end.end in
    let side = c.args.side in
    let lt : end < length rows = omega (arith, c.loop-end-test.true, c.loop-end.auto.end-end) in
    let shows = subst (λ z. Shows set.names d z (λ e. named_rows set e side end)) (sym c.rows_before.ensures) (shown_to set d rows side end (shows_later c.args.dag.now d set.names rows _ c.loop-end.invariant.keeps c.requires.shows) lt) in
    met_step set c.args.dag.now d c.constraints_node.new.dag c.loop-end.met.items c.push.new.self.items side end c.in_ok-node.node c.in_ok-push.ensures.items c.in_ok-node.ensures.keeps
    (c.in_ok-node.ensures.node (λ e. named_rows set e side end) shows) c.loop-end.invariant
