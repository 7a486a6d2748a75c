use Rattle.std.proofs.Common.{◌≡◌, ◌+◌, ◌-◌, ◌%◌, ◌^◌, ◌+ℤ◌, ◌-ℤ◌, pos, ℤ, ◌∙◌, to_z, of_z, arith}
use mir.Syntax.{w128}
use Rattle.std.proofs.lemmas.Int.{ints}
use Rattle.std.specs.Prelude.{if◌then◌else◌}
use Rattle.vlog_tree.specs.Value.{integer, moved_down}
use Rattle.elab_step_expr.specs.Indexed.{is_same}
use Rattle.elab_step_expr.specs.Nodes.{number_at}
use Rattle.elab_step_expr.proofs.Kept.{made_same, made_number, number_kept, number_fits, keeps_then}
use Rattle.elab_step_expr.proofs.Codes.{tried, tried_none, tried_all, tried_next}
use Rattle.elab_step_expr.proofs.indexed.indexed.Goals as goal

pub loop-step-init : goal.loop-step-init
loop-step-init c =
    let d = c.args.dag.now in
    let x = c.args.index.wire in
    record {
      keeps = c.in_ok-bits.ensures.keeps;
      bits = made_same c.constant.new.dag c.in_ok-bits.bits c.args.width _ _ c.in_ok-bits.ensures.makes
          (λ e. tried_none (integer c.args.index.signed x.width (number_at e d x.node) -ℤ to_z w128 (of_z w128 c.args.from)) (number_at e d c.args.a.node) c.args.width c.requires.some);
    }

pub returns-in_err-bits-2-clause-keeps : goal.returns-in_err-bits-2-clause-keeps
returns-in_err-bits-2-clause-keeps c = keeps_then c.args.dag.now c.loop-step.dag c.with_position.new.dag c.loop-step.invariant.keeps c.with_position.ensures.keeps

pub loop-step-preserved : goal.loop-step-preserved
loop-step-preserved c =
    let d = c.args.dag.now in
    let x = c.args.index.wire in
    let a = c.args.a in
    let now = c.loop-step.dag in
    let k = c.loop-step.invariant.keeps in
    let w = c.args.width in
    let f : ℤ = to_z w128 (of_z w128 c.args.from) in
    let s = c.args.index.signed in
    let at : ℤ = pos c.loop-step.step -ℤ pos (w - 1) in
    let next : pos (c.loop-step.step + 1) -ℤ pos (w - 1) ≡ at +ℤ pos 1 = omega (arith, ints) in
    record {
      keeps = keeps_then d now c.with_position.new.dag k c.in_ok-bits-2.ensures.keeps;
      bits = made_same c.with_position.new.dag c.in_ok-bits-2.bits w _ _ c.in_ok-bits-2.ensures.makes
          (λ e.
          let i = number_kept e d now x.node x.width k c.requires.index in
          let v = number_kept e d now a.node a.width k c.requires.node in
          let b = made_number e now c.loop-step.bits w _ c.loop-step.invariant.bits in
          (λ r. if is_same (integer s x.width (i r)) (f +ℤ at) then moved_down at (v r) % 2 ^ w else b r)
          ∙ tried_next (integer s x.width (number_at e d x.node)) f at (pos (c.loop-step.step + 1) -ℤ pos (w - 1)) (number_at e d a.node) w next);
    }

pub returns-clause-makes : goal.returns-clause-makes
returns-clause-makes c =
    let d = c.args.dag.now in
    let x = c.args.index.wire in
    let a = c.args.a in
    let z : to_z w128 (of_z w128 c.args.from) ≡ c.args.from = omega (arith, ints) in
    let end : pos c.loop-step.step -ℤ pos (c.args.width - 1) ≡ pos a.width = omega (arith, ints, c.loop-step-test.false, c.loop-step.auto.step-end, c.length_of-length.ensures.same, c.requires.some) in
    made_same c.loop-step.dag c.loop-step.bits c.args.width _ _ c.loop-step.invariant.bits
    (λ e.
    let j = integer c.args.index.signed x.width (number_at e d x.node) in
    (λ r. tried (j -ℤ z r) (end r) (number_at e d a.node) c.args.width)
    ∙ tried_all (j -ℤ c.args.from) (number_at e d a.node) a.width c.args.width (number_fits e d a.node a.width c.length_of-length.ensures.fit c.requires.node))
