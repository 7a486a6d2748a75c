use Rattle.std.proofs.Common.{subst, sym}
use Rattle.vlog_tree.specs.declared.stmt.Lval.TheVariants as l
use Rattle.elab_step_blocks.specs.Lefts.{IsPart}
use Rattle.elab_step_blocks.proofs.left.part.Goals as goal

pub returns-in_ok-target-in-Fixed-clause-part : goal.returns-in_ok-target-in-Fixed-clause-part
returns-in_ok-target-in-Fixed-clause-part c =
    subst (λ z. IsPart c.args.leaves.now c.args.dag.now c.in_ok-target-in-Fixed.target (l.Part c.args.name.now z c.args.bounds.a.now c.args.bounds.b.now)) (sym c.in-Fixed.is) (c.in_ok-target-in-Fixed.ensures c.args.dag.now)
