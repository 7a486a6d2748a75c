use Rattle.std.proofs.Common.{length, ap, ◌∙◌}
use Rattle.std.specs.Prelude.{nat_eq}
use Rattle.elab_step_flow.proofs.Casing.{reads_tell}
use Rattle.elab_step_flow.proofs.cases.is_constant.Goals as goal

pub returns : goal.returns
returns c = reads_tell c.is_empty.result c.in_ok-reads.reads.items c.args.expr.now (c.is_empty.ensures ∙ ap (λ xs. nat_eq (length xs) 0) c.as_slice.ensures.value) c.in_ok-reads.ensures
