use Rattle.std.proofs.Common.{◌≡◌, ◌<◌, ◌∙◌, ℕ, length, get_or, sym, subst}
use Rattle.elab_step_blocks.specs.Saving.{node_at}
use Rattle.elab_step_blocks.proofs.Saving.{node_get}
use Rattle.elab_step_nets.specs.Outcomes.{IsRoot}
use Rattle.elab_step_nets.proofs.Sources.{roots_next, root_found, root_spared}
use Rattle.elab_step_nets.proofs.nets.roots_of.Goals as goal
use Rattle.elab_step_nets.proofs.nets.roots_of.Goals.{in-Some, in-None}

pub loop-place-preserved : goal.loop-place-preserved
loop-place-preserved c = λ ns body ready is.
    let ls = c.args.first.now in
    let places = c.args.places.now in
    let k = c.loop-place.place-index in
    let lt : k < length places = c.loop-place-test.true in
    let p = get_or places k 0 in
    let in' : p < length ls = c.requires.within k 0 lt in
    let P : ℕ → Type 0 = λ z. IsRoot ls ns body p z in
    roots_next ls ns body places c.loop-place.roots.items c.push.new.self.items k c.match-node.root lt (c.loop-place.invariant ns body ready is)
    (elim c.match-node.branch [
      | in-Some w ↦ subst P (sym w.root-is) (root_found ls ns body c.args.outcome.now p w.in-Some.node is w.in-Some.ensures)
      | in-None w ↦
          let node : w.leaf.result.now.node ≡ node_at ls p = node_get ls p w.leaf.result.now in' w.leaf.ensures in
          subst P (sym (w.root-is ∙ node)) (root_spared ls ns body c.args.outcome.now p ready is in' w.in-None.ensures)
    ]) c.in_ok-push.ensures.items
