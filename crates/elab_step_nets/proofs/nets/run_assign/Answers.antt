use Rattle.std.proofs.Common.{◌≡◌, sym, ap, ◌∙◌, subst, List, get_or}
use Rattle.vlog_tree.specs.declared.valuation.Entry.{Entry}
use Rattle.elab_step_blocks.specs.Ready.{IsReadyStore}
use Rattle.vlog_tree.specs.declared.stmt.Stmt.TheVariants as s
use Rattle.elab_step_nets.specs.Boards.{statements, statement_at}
use Rattle.elab_step_nets.proofs.Boards.{rest_is, board_after, runs_show, shows_at, assign_at, item_among}
use Rattle.elab_step_nets.proofs.nets.run_assign.Goals as goal

pub assign-requires-clause-store : goal.assign-requires-clause-store
assign-requires-clause-store c =
    let f = c.args.flat.now in
    let a = c.index-as_slice-place.result in
    let e : a ≡ get_or f.assigns c.args.place a = c.index-as_slice-place.is ∙ ap (λ xs. get_or xs c.args.place a) c.as_slice.ensures in
    let P : List Entry → Type 0 = λ v. IsReadyStore v a.left a.right in
    subst P (sym (rest_is f.signals c.args.state.now c.requires.board.leaves)) (c.requires.can.assigns a (item_among f.assigns c.args.place a a c.requires.within e))

pub returns-clause-board : goal.returns-clause-board
returns-clause-board c =
    board_after c.args.flat.now.signals c.args.state.now c.assign.new.state c.args.dag.now c.assign.new.dag c.requires.board c.in_ok-assign.ensures.same c.in_ok-assign.ensures.set

pub returns-clause-shows : goal.returns-clause-shows
returns-clause-shows c =
    let f = c.args.flat.now in
    let a = c.index-as_slice-place.result in
    let e : a ≡ get_or f.assigns c.args.place a = c.index-as_slice-place.is ∙ ap (λ xs. get_or xs c.args.place a) c.as_slice.ensures in
    shows_at f.signals (s.Blocking a.left a.right) (statement_at (statements f) c.args.place) c.args.state.now c.assign.new.state c.args.dag.now c.assign.new.dag (assign_at f c.args.place a a c.requires.within e)
    (runs_show f.signals (s.Blocking a.left a.right) c.args.state.now c.assign.new.state c.args.dag.now c.assign.new.dag c.requires.board c.in_ok-assign.ensures.runs)
