use Rattle.std.proofs.Common.{arith, refl}
use Rattle.elab_step_expr.proofs.Kept.{keeps_then}
use Rattle.elab_step_copies.proofs.Rows.{reached_copies, reached_push}
use Rattle.elab_step_copies.proofs.copier.Copier.copy_each.Goals as goal

pub returns-in_err-copy-clause-keeps : goal.returns-in_err-copy-clause-keeps
returns-in_err-copy-clause-keeps c = keeps_then c.args.dag.now c.loop-root.dag c.reach.new.dag c.loop-root.invariant.keeps c.in_err-copy.ensures.keeps

pub returns-in_err-push-clause-keeps : goal.returns-in_err-push-clause-keeps
returns-in_err-push-clause-keeps c = keeps_then c.args.dag.now c.loop-root.dag c.reach.new.dag c.loop-root.invariant.keeps c.in_ok-copy.ensures.keeps

pub loop-root-preserved : goal.loop-root-preserved
loop-root-preserved c =
    reached_push c.args.leaves.now c.args.self.now c.args.dag.now c.args.roots.now c.loop-root.self c.loop-root.dag c.loop-root.made.items c.loop-root.root-index c.loop-root.invariant
    c.reach.new.self c.reach.new.dag _ c.in_ok-copy.copy c.push.new.self.items c.in_ok-copy.ensures.keeps c.in_ok-copy.ensures.later c.in_ok-copy.ensures.copy refl c.in_ok-push.ensures.items

pub returns-clause-each : goal.returns-clause-each
returns-clause-each c =
    reached_copies c.args.leaves.now c.args.self.now c.args.dag.now c.args.roots.now c.loop-root.self c.loop-root.dag c.loop-root.made.items c.loop-root.root-index c.loop-root.invariant (omega arith) c.nodes-fit.ensures.fit
