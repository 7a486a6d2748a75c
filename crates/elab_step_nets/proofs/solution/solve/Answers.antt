use Rattle.std.proofs.Common.{List, [], subst}
use Rattle.vlog_tree_runs.specs.declared.flat.Signal.{Signal}
use Rattle.word_dag.specs.declared.node.Node.{Node}
use Rattle.elab_step_expr.specs.Nodes.{AddsFrees}
use Rattle.elab_step_nets.specs.Boards.{groups_of, IsBoard, AreBegun, IsFreeOf}
use Rattle.elab_step_nets.proofs.Solutions.{solution}
use Rattle.elab_step_nets.proofs.solution.solve.Goals as goal

pub returns : goal.returns
returns c =
    let f = c.args.flat.now in
    let a = c.begun.new.dag in
    let first = c.in_ok-begun.begun in
    let P : List Signal → Type 0 = λ z. IsBoard z first a in
    let R : List Signal → Type 0 = λ z. AddsFrees (IsFreeOf z c.args.nets.now) [] a in
    let S : List Node → Type 0 = λ z. AddsFrees (IsFreeOf c.as_slice.result.now c.args.nets.now) z a in
    let frees = subst R c.as_slice.ensures (subst S c.new-dag.ensures c.in_ok-begun.ensures.frees) in
    let Q : List Signal → Type 0 = λ z. AreBegun a z c.args.nets.now first in
    solution f (groups_of f.signals c.args.groups.now) c.args.nets.now a c.solve_nets.new.dag c.run_clocked.new.dag first c.in_ok-now.now c.solve_nets.new.state c.run_clocked.new.next
    (subst P c.as_slice.ensures c.in_ok-begun.ensures.board) (subst Q c.as_slice.ensures c.in_ok-begun.ensures.begun) frees c.in_ok-now.ensures c.in_ok-solve_nets.ensures.keeps c.in_ok-solve_nets.ensures.board
    c.in_ok-solve_nets.ensures.shows c.in_ok-run_clocked.ensures.keeps c.in_ok-run_clocked.ensures.set c.in_ok-run_clocked.ensures.shows
