use Rattle.std.proofs.Common.{◌-◌, ◌+ℤ◌, ◌-ℤ◌, pos, arith}
use Rattle.std.proofs.lemmas.Int.{ints}
use Rattle.vlog_tree_runs.specs.Places.{write_bits}
use Rattle.elab_step_expr.specs.Nodes.{number_at}
use Rattle.elab_step_expr.proofs.Kept.{made_here, number_fits}
use Rattle.elab_step_blocks.proofs.Trying.{coded, uncoded}
use Rattle.elab_step_blocks.proofs.indexed.with_position.Goals as goal

pub returns-in_ok-number-in-Some-clause-makes : goal.returns-in_ok-number-in-Some-clause-makes
returns-in_ok-number-in-Some-clause-makes c =
    let d = c.args.dag.now in
    let x = c.args.write.index.wire in
    let o = c.args.write.change.old in
    let b = c.args.write.change.bits in
    coded c.with_code.new.dag c.in_ok-number-in-Some.number o.width c.args.write.index.signed x.width (λ e. number_at e d x.node)
    (λ e i. write_bits o.width i b.width (number_at e d b.node) (number_at e d o.node)) (λ e. number_at e d c.args.other)
    (λ e. number_fits e d x.node x.width c.length_of.ensures.fit c.requires.index) c.in-Some.code _ _ (pos c.args.step -ℤ pos (b.width - 1)) (c.args.from +ℤ (pos c.args.step -ℤ pos (b.width - 1)))
    c.in_ok-number-in-Some.ensures.makes c.in-Some.ensures.some.1 (omega (arith, ints)) (omega (arith, ints))

pub returns-in-None-clause-makes : goal.returns-in-None-clause-makes
returns-in-None-clause-makes c =
    let d = c.args.dag.now in
    let x = c.args.write.index.wire in
    let o = c.args.write.change.old in
    let b = c.args.write.change.bits in
    let f = c.length_of.ensures.fit in
    uncoded d c.args.other o.width c.args.write.index.signed x.width (λ e. number_at e d x.node)
    (λ e i. write_bits o.width i b.width (number_at e d b.node) (number_at e d o.node)) (λ e. number_at e d c.args.other)
    (λ e. number_fits e d x.node x.width f c.requires.index) _ (pos c.args.step -ℤ pos (b.width - 1)) (c.args.from +ℤ (pos c.args.step -ℤ pos (b.width - 1)))
    (made_here d c.args.other o.width f c.requires.other) c.in-None.ensures.none (omega (arith, ints))
