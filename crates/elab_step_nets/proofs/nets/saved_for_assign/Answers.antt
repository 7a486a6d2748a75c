use Rattle.std.proofs.Common.{◌≡◌, sym, ap, ◌∙◌, subst, List, get_or}
use Rattle.vlog_tree.specs.declared.stmt.Stmt.{Stmt}
use Rattle.vlog_tree.specs.declared.valuation.Entry.{Entry}
use Rattle.elab_step_blocks.specs.Ready.{IsReadyLeft}
use Rattle.elab_step_blocks.specs.Sparing.{Covers}
use Rattle.elab_step_nets.proofs.Boards.{rest_is, assign_at, item_among}
use Rattle.elab_step_nets.proofs.nets.saved_for_assign.Goals as goal

pub before_assign-requires-clause-left : goal.before_assign-requires-clause-left
before_assign-requires-clause-left c =
    let f = c.args.flat.now in
    let a = c.index-as_slice-place.result in
    let e : a ≡ get_or f.assigns c.args.place a = c.index-as_slice-place.is ∙ ap (λ xs. get_or xs c.args.place a) c.as_slice.ensures in
    let P : List Entry → Type 0 = λ v. IsReadyLeft v a.left in
    subst P (sym (rest_is f.signals c.args.state.now c.requires.leaves)) (c.requires.can.assigns a (item_among f.assigns c.args.place a a c.requires.within e)).left_side

pub returns-clause-covers : goal.returns-clause-covers
returns-clause-covers c =
    let f = c.args.flat.now in
    let a = c.index-as_slice-place.result in
    let e : a ≡ get_or f.assigns c.args.place a = c.index-as_slice-place.is ∙ ap (λ xs. get_or xs c.args.place a) c.as_slice.ensures in
    let P : Stmt → Type 0 = λ z. Covers c.args.state.now c.in_ok-before.before.items z in
    subst P (assign_at f c.args.place a a c.requires.within e) (c.in_ok-before.ensures.covers a.right)
