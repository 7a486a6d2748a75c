use Rattle.std.proofs.Common.{◌≡◌, ◌+◌, ℕ, suc, subst, arith}
use Rattle.elab_step_expr.proofs.Kept.{grows_then}
use Rattle.unroll.specs.Copies.{CopiedBefore}
use Rattle.unroll.specs.Unrolled.{IsSourceWord}
use Rattle.unroll.proofs.Sourcing.{frees_again}
use Rattle.unroll.proofs.rows.reset_nodes.Goals as goal

pub loop-position-preserved : goal.loop-position-preserved
loop-position-preserved c =
    let b = c.args.bound.now in
    let next : suc c.loop-position.position ≡ c.loop-position.position + 1 = omega arith in
    record {
      grows = grows_then c.args.dag.now c.loop-position.dag c.cycle_nodes.new.dag c.loop-position.invariant.grows c.in_ok-copies.ensures.grows;
      frees = frees_again (IsSourceWord b.design) c.args.dag.now c.loop-position.dag c.cycle_nodes.new.dag c.loop-position.invariant.frees c.in_ok-copies.ensures.frees;
      copied = subst (λ (i : ℕ). CopiedBefore b.design b.set c.args.resets i c.cycle_nodes.new.dag c.in_ok-copies.copies.items) next c.in_ok-copies.ensures.copied;
    }
