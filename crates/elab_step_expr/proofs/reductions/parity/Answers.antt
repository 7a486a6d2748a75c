use Rattle.std.proofs.Common.{◌≡◌, ◌+◌, ◌/◌, ◌%◌, ◌^◌, ap, ◌∙◌, arith}
use Rattle.std.specs.Prelude.{bit_xor, count_ones}
use Rattle.elab_step_expr.specs.Nodes.{number_at}
use Rattle.elab_step_expr.proofs.Kept.{made_same, made_number, number_kept, number_fits, keeps_then}
use Rattle.elab_step_expr.proofs.Parity.{first_bit, next_bit, last_bit}
use Rattle.elab_step_expr.proofs.reductions.parity.Goals as goal

pub loop-i-init : goal.loop-i-init
loop-i-init c = record {
  keeps = c.in_ok-odd.ensures.keeps;
  odd = made_same c.slice.new.dag c.in_ok-odd.odd 1 _ _ c.in_ok-odd.ensures.makes (λ e. first_bit (number_at e c.args.dag.now c.args.a.node));
}

pub loop-i-preserved : goal.loop-i-preserved
loop-i-preserved c =
    let d = c.args.dag.now in
    let a = c.args.a in
    let now = c.loop-i.dag in
    let i = c.loop-i.i in
    record {
      keeps = keeps_then d now c.with_bit.new.dag c.loop-i.invariant.keeps c.in_ok-odd-2.ensures.keeps;
      odd = made_same c.with_bit.new.dag c.in_ok-odd-2.odd 1 _ _ c.in_ok-odd-2.ensures.makes
          (λ e. ap (λ n. bit_xor n (number_at e now a.node / 2 ^ i % 2 ^ 1)) (made_number e now c.loop-i.odd 1 _ c.loop-i.invariant.odd)
          ∙ ap (λ n. bit_xor ((count_ones (number_at e d a.node) + count_ones (number_at e d a.node / 2 ^ i)) % 2) (n / 2 ^ i % 2 ^ 1)) (number_kept e d now a.node a.width c.loop-i.invariant.keeps c.requires)
          ∙ next_bit (count_ones (number_at e d a.node)) (number_at e d a.node) i);
    }

pub returns-clause-makes : goal.returns-clause-makes
returns-clause-makes c =
    let d = c.args.dag.now in
    let a = c.args.a in
    let whole : c.loop-i.i ≡ a.width = omega (arith, c.loop-i-test.false, c.loop-i.auto.i-end, c.length_of-width.ensures.same, c.length_of-width.ensures.long.0) in
    made_same c.loop-i.dag c.loop-i.odd 1 _ _ c.loop-i.invariant.odd
    (λ e. ap (λ k. (count_ones (number_at e d a.node) + count_ones (number_at e d a.node / 2 ^ k)) % 2) whole
    ∙ last_bit (number_at e d a.node) a.width (number_fits e d a.node a.width c.length_of-width.ensures.fit c.requires))
