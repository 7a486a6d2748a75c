use Rattle.std.proofs.Common.{◌∙◌, ap, refl, arith}
use Rattle.elab_step_design.specs.Designs.{source}
use Rattle.unroll_laws.proofs.Holding.{register_source}
use Rattle.unroll.proofs.Leaving.{copied_later, item_among, leaf_step, registers_more, source_below}
use Rattle.unroll.proofs.leaves.put_registers.Goals as goal

pub register_node-requires-clause-among : goal.register_node-requires-clause-among
register_node-requires-clause-among c =
    let d = c.args.bound.now.design in
    let listed = c.registers-register-items.ensures ∙ ap (λ p. p.registers) c.design.ensures.value in
    item_among c.registers-register-items.result.now d.registers c.loop-register.register-index c.register-item.result listed c.loop-register-test.true c.register-item.is

pub register_node-requires-clause-before : goal.register_node-requires-clause-before
register_node-requires-clause-before c =
    let b = c.args.bound.now in
    copied_later b.design b.set c.args.moment.resets c.args.moment.position c.args.dag.now c.loop-register.dag c.args.copies.now c.loop-register.invariant.grows c.requires.before

pub bounds-leaves-register : goal.bounds-leaves-register
bounds-leaves-register c =
    let d = c.args.bound.now.design in
    let listed = c.registers-register-items.ensures ∙ ap (λ p. p.registers) c.design.ensures.value in
    let r = c.register-item.result in
    let m = item_among c.registers-register-items.result.now d.registers c.loop-register.register-index r listed c.loop-register-test.true c.register-item.is in
    source_below d c.requires.design c.loop-register.leaves (source r) (register_source d r m) c.loop-register.invariant.shows.count

pub offset_bounds-leaves-register : goal.offset_bounds-leaves-register
offset_bounds-leaves-register c =
    let d = c.args.bound.now.design in
    let listed = c.registers-register-items.ensures ∙ ap (λ p. p.registers) c.design.ensures.value in
    let r = c.register-item.result in
    let m = item_among c.registers-register-items.result.now d.registers c.loop-register.register-index r listed c.loop-register-test.true c.register-item.is in
    let below = source_below d c.requires.design c.loop-register.leaves (source r) (register_source d r m) c.loop-register.invariant.shows.count in
    omega (arith, below)

pub loop-register-preserved : goal.loop-register-preserved
loop-register-preserved c =
    let b = c.args.bound.now in
    let d = b.design in
    let listed = c.registers-register-items.ensures ∙ ap (λ p. p.registers) c.design.ensures.value in
    let r = c.register-item.result in
    let j = c.loop-register.register-index in
    let xs = c.registers-register-items.result.now in
    let m = item_among xs d.registers j r listed c.loop-register-test.true c.register-item.is in
    leaf_step d c.requires.design b.set c.args.moment.resets c.args.moment.position c.args.dag.now c.loop-register.dag c.register_node.new.dag c.loop-register.leaves _ _ _ (source r) c.in_ok-node.node (register_source d r m) (registers_more xs d.registers j r listed c.loop-register-test.true c.register-item.is) c.in_ok-node.ensures.grows c.in_ok-node.ensures.frees c.in_ok-node.ensures.node c.in_ok-node.ensures.word refl c.loop-register.invariant
