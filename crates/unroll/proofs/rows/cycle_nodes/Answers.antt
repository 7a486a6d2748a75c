use Rattle.std.proofs.Common.{List, ℕ, subst, sym}
use Rattle.unroll_laws.specs.Tests.{held}
use Rattle.elab_step_design.specs.Designs.{Parts}
use Rattle.twin_tests.proofs.Told.{ok_two}
use Rattle.unroll.specs.Copies.{AreCopies, AreLeaves, FitCopies}
use Rattle.unroll.proofs.rows.cycle_nodes.Goals as goal

pub returns-clause-copied : goal.returns-clause-copied
returns-clause-copied c =
    ok_two c.copy_nodes.result _ _ _ (λ i fit made.
    let b = c.args.bound.now in
    let m = c.args.moment in
    let given = c.design.result.now in
    let same = c.design.ensures.value in
    let copies = i.items in
    let leaves = subst (λ (d : Parts). AreLeaves d c.leaves_of.new.dag c.as_slice.result.now (λ e. held b.design b.set m.resets e m.position)) (sym same) (subst (λ (ls : List ℕ). AreLeaves b.design c.leaves_of.new.dag ls (λ e. held b.design b.set m.resets e m.position)) (sym c.as_slice.ensures.value) c.in_ok-leaves.ensures.leaves) in (
      subst (λ (d : Parts). FitCopies d c.copy_nodes.new.dag copies) same fit,
      subst (λ (d : Parts). AreCopies d c.copy_nodes.new.dag copies (λ e. held b.design b.set m.resets e m.position)) same (made (λ e. held b.design b.set m.resets e m.position) leaves),
    )) c.copy_nodes.ensures.fit c.copy_nodes.ensures.copies
