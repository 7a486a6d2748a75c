use Rattle.std.proofs.Common.{◌≡◌, ◌+◌, ◌-◌, ◌+ℤ◌, ◌-ℤ◌, pos, ℤ, ◌∙◌, to_z, of_z, arith}
use mir.Syntax.{w128}
use Rattle.std.proofs.lemmas.Int.{ints}
use Rattle.std.specs.Prelude.{if◌then◌else◌}
use Rattle.vlog_tree.specs.Value.{integer}
use Rattle.vlog_tree_runs.specs.Places.{write_bits}
use Rattle.elab_step_expr.specs.Indexed.{is_same}
use Rattle.elab_step_expr.specs.Nodes.{number_at}
use Rattle.elab_step_expr.proofs.Kept.{made_here, made_same, made_number, number_kept, keeps_then, keeps_same}
use Rattle.elab_step_blocks.proofs.Trying.{tried, tried_none, tried_all, tried_next}
use Rattle.elab_step_blocks.proofs.Writing.{past_above, past_below}
use Rattle.elab_step_blocks.proofs.indexed.indexed.Goals as goal

pub loop-step-init : goal.loop-step-init
loop-step-init c =
    let d = c.args.dag.now in
    let x = c.args.write.index.wire in
    let o = c.args.write.change.old in
    let b = c.args.write.change.bits in
    record {
      keeps = keeps_same d;
      number = made_same d o.node o.width _ _ (made_here d o.node o.width c.length_of-size.ensures.fit c.requires.old)
          (λ e.
          let i = integer c.args.write.index.signed x.width (number_at e d x.node) -ℤ to_z w128 (of_z w128 c.args.from) in
          tried_none (λ i. write_bits o.width i b.width (number_at e d b.node) (number_at e d o.node)) (number_at e d o.node) i b.width c.length_of-count.ensures.long.0
          (past_below c.bits_are_written.ensures.below i o.width b.width (number_at e d b.node) (number_at e d o.node)));
    }

pub returns-in_err-number-clause-keeps : goal.returns-in_err-number-clause-keeps
returns-in_err-number-clause-keeps c = keeps_then c.args.dag.now c.loop-step.dag c.with_position.new.dag c.loop-step.invariant.keeps c.with_position.ensures.keeps

pub loop-step-preserved : goal.loop-step-preserved
loop-step-preserved c =
    let d = c.args.dag.now in
    let x = c.args.write.index.wire in
    let o = c.args.write.change.old in
    let b = c.args.write.change.bits in
    let now = c.loop-step.dag in
    let k = c.loop-step.invariant.keeps in
    let f : ℤ = to_z w128 (of_z w128 c.args.from) in
    let s = c.args.write.index.signed in
    let at : ℤ = pos c.loop-step.step -ℤ pos (b.width - 1) in
    let next : pos (c.loop-step.step + 1) -ℤ pos (b.width - 1) ≡ at +ℤ pos 1 = omega (arith, ints) in
    record {
      keeps = keeps_then d now c.with_position.new.dag k c.in_ok-number.ensures.keeps;
      number = made_same c.with_position.new.dag c.in_ok-number.number o.width _ _ c.in_ok-number.ensures.makes
          (λ e.
          let i = number_kept e d now x.node x.width k c.requires.index in
          let t = number_kept e d now b.node b.width k c.requires.bits in
          let v = number_kept e d now o.node o.width k c.requires.old in
          let m = made_number e now c.loop-step.number o.width _ c.loop-step.invariant.number in
          (λ r. if is_same (integer s x.width (i r)) (f +ℤ at) then write_bits o.width at b.width (t r) (v r) else m r)
          ∙ tried_next (λ j. write_bits o.width j b.width (number_at e d b.node) (number_at e d o.node)) (number_at e d o.node) (integer s x.width (number_at e d x.node)) f at (pos (c.loop-step.step + 1) -ℤ pos (b.width - 1)) next);
    }

pub returns-clause-makes : goal.returns-clause-makes
returns-clause-makes c =
    let d = c.args.dag.now in
    let x = c.args.write.index.wire in
    let o = c.args.write.change.old in
    let b = c.args.write.change.bits in
    let z : to_z w128 (of_z w128 c.args.from) ≡ c.args.from = omega (arith, ints) in
    let end : pos c.loop-step.step -ℤ pos (b.width - 1) ≡ pos o.width = omega (arith, ints, c.loop-step-test.false, c.loop-step.auto.step-end, c.length_of-size.ensures.same, c.length_of-count.ensures.same, c.length_of-count.ensures.long.0) in
    made_same c.loop-step.dag c.loop-step.number o.width _ _ c.loop-step.invariant.number
    (λ e.
    let g = λ (i : ℤ). write_bits o.width i b.width (number_at e d b.node) (number_at e d o.node) in
    let j = integer c.args.write.index.signed x.width (number_at e d x.node) in
    (λ r. tried g (number_at e d o.node) (j -ℤ z r) (end r))
    ∙ tried_all g (number_at e d o.node) (j -ℤ c.args.from) o.width (past_above c.bits_are_written.ensures.others (j -ℤ c.args.from) o.width b.width (number_at e d b.node) (number_at e d o.node)))
