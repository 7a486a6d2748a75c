use Rattle.std.proofs.Common.{arith, ◌≡◌, ◌<◌, List, ℕ, length, refl, sym, ap, ◌∙◌, subst}
use Rattle.std.specs.List.{All}
use Rattle.elab_step_expr.specs.declared.leaves.Leaf.{Leaf}
use Rattle.elab_step_blocks.specs.Saving.{put_back}
use Rattle.elab_step_blocks.proofs.Saving.{back_declared}
use Rattle.elab_step_copies.specs.Copies.{AreMoved, EachCopy, IsSound}
use Rattle.elab_step_nets.specs.Boards.{IsBoard, Shows, driven_by}
use Rattle.elab_step_nets.proofs.Boards.{same_long}
use Rattle.elab_step_nets.proofs.Driving.{outcomes_long, block_there, block_outcome, block_roots, roots_within, roots_long, within_same, block_board, block_shown, processes_with, processes_then, back_moved, within_moved}
use Rattle.elab_step_nets.proofs.nets.drive_block.Goals as goal

pub index-requires : goal.index-requires
index-requires c =
    let p = c.args.text.now in
    let long = outcomes_long p.first p.copier.source p.flat.now.blocks p.outcomes.items c.requires.ready.processes.outcomes in
    let lt = c.requires.block.0 in
    omega (arith, long, lt)

pub roots_of-requires-clause-within : goal.roots_of-requires-clause-within
roots_of-requires-clause-within c =
    let p = c.args.text.now in
    within_same p.flat.now.signals c.args.state.now p.first c.args.nets.now c.requires.ready.board.leaves c.requires.ready.processes.source.board.leaves c.requires.ready.within

pub roots_of-requires-clause-outcome : goal.roots_of-requires-clause-outcome
roots_of-requires-clause-outcome c =
    let p = c.args.text.now in
    let b = c.requires.block in
    let k = block_there p.flat.now.blocks c.args.at b.0 in
    (block_outcome p c.args.at k.0 c.index.result.now c.args.state.now c.args.dag.now c.requires.ready.processes b.0 b.1 k.1 c.index.ensures).found

pub copy_each-requires-clause-roots : goal.copy_each-requires-clause-roots
copy_each-requires-clause-roots c =
    let p = c.args.text.now in
    let b = c.requires.block in
    let k = block_there p.flat.now.blocks c.args.at b.0 in
    let rs = c.in_ok-roots.roots.items in
    let roots = block_roots p c.args.at k.0 c.index.result.now c.args.nets.now rs c.args.state.now c.args.dag.now c.requires.ready.processes b.0 b.1 k.1 c.index.ensures c.in_ok-roots.ensures in
    subst (λ (z : List ℕ). All (λ n. n < length p.copier.source) z) (sym c.deref.ensures.value) (roots_within p.first p.copier.source k.0.body c.args.nets.now rs roots)

pub saved_for-requires : goal.saved_for-requires
saved_for-requires c =
    let p = c.args.text.now in
    let b = c.requires.block in
    let k = block_there p.flat.now.blocks c.args.at b.0 in
    let rs = c.in_ok-roots.roots.items in
    let roots = block_roots p c.args.at k.0 c.index.result.now c.args.nets.now rs c.args.state.now c.args.dag.now c.requires.ready.processes b.0 b.1 k.1 c.index.ensures c.in_ok-roots.ensures in
    ap length c.deref-2.ensures.value ∙ (c.in_ok-copies.ensures.each.0 ∙ (ap length c.deref.ensures.value ∙ roots_long p.first p.copier.source k.0.body c.args.nets.now rs roots))

pub renew-requires-clause-sound : goal.renew-requires-clause-sound
renew-requires-clause-sound c =
    let ls = c.args.state.now in
    let long = ap length c.put_back.ensures ∙ same_long ls (put_back ls c.deref-3.result.now) (back_declared ls c.deref-3.result.now) in
    subst (λ (n : ℕ). IsSound c.copy_each.new.self n) (sym long) c.in_ok-copies.ensures.copies.sound

pub renew-requires-clause-nets : goal.renew-requires-clause-nets
renew-requires-clause-nets c =
    let ls = c.args.state.now in
    let long = ap length c.put_back.ensures ∙ same_long ls (put_back ls c.deref-3.result.now) (back_declared ls c.deref-3.result.now) in
    within_moved ls c.put_back.new.leaves c.args.nets.now long c.requires.ready.within

pub returns-clause-driven : goal.returns-clause-driven
returns-clause-driven c k at =
    let p = c.args.text.now in
    let b = c.requires.block in
    let is = c.args.nets.now in
    let rs = c.in_ok-roots.roots.items in
    let cs = c.in_ok-copies.copies.items in
    let ss = c.in_ok-after.after.items in
    let ls = c.args.state.now in
    let a = c.args.dag.now in
    let d = c.copy_each.new.dag in
    let ready = c.requires.ready in
    let now = c.in_ok-copies.ensures in
    let roots = block_roots p c.args.at k c.index.result.now is rs ls a ready.processes b.0 b.1 at c.index.ensures c.in_ok-roots.ensures in
    let E : List ℕ → Type 0 = λ z. EachCopy p.copier.source ls d z cs in
    let each = subst E c.deref.ensures.value now.each in
    let nodes = c.in_ok-after.ensures.nodes ∙ c.deref-2.ensures.value in
    let places = c.in_ok-after.ensures.places in
    let back : c.put_back.new.leaves ≡ put_back ls ss = c.put_back.ensures ∙ ap (put_back ls) c.deref-3.ensures.value in
    let q = record p { copier = c.copy_each.new.self } in
    let mid = processes_with p c.copy_each.new.self ls ls a d ready.processes now.source now.copies in
    let moved = subst (λ (z : List Leaf). AreMoved is ls d z d) (sym back) (back_moved ls ss is d places) in
    record {
      same = processes_then p q _ (record { flat = refl; first = refl; outcomes = refl; source = now.source }) c.in_ok-renew.ensures.same;
      board = subst (λ (z : List Leaf). IsBoard p.flat.now.signals z d) (sym back) (block_board p k.body is rs cs ss ls a d ready.board now.keeps ready.processes roots each ready.within places nodes);
      processes = c.in_ok-renew.ensures.processes ls d d mid moved;
      shows = subst (λ (z : List Leaf). Shows (driven_by p.flat.now is k.body) ls a z d) (sym back) (block_shown p k.body is rs cs ss ls a d ready.board now.keeps ready.processes roots each ready.within places nodes now.fit);
    }
