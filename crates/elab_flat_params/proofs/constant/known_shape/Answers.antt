use Rattle.std.proofs.Common.{sym, ◌∙◌}
use Rattle.elab_flat_params.proofs.Known.{familiar, strange}
use Rattle.elab_flat_faults.specs.Constants.{BoundsDefined}
use Rattle.elab_flat_params.proofs.Divisors.{decided_true, decided_false}
use Rattle.elab_flat_params.proofs.constant.known_shape.Goals as goal

pub returns-then-is_some-clause-err : goal.returns-then-is_some-clause-err
returns-then-is_some-clause-err c = λ n. strange c.args.params.now c.args.expr.now c.stranger_in.result c.stranger_in.ensures (sym c.is_some.ensures ∙ c.if-is_some.true)

pub returns-in-Some-clause-ok : goal.returns-in-Some-clause-ok
returns-in-Some-clause-ok c =
    let shape = rw c.in-Some.is at c.in_ok-shape.ensures.some in
    record {
      names = familiar c.args.params.now c.args.expr.now c.stranger_in.result c.stranger_in.ensures (sym c.is_some.ensures ∙ c.if-is_some.false);
      formed = shape.formed;
      width = shape.width;
      sign = shape.sign;
      length = shape.length;
    }

pub returns-then-defined-clause-err : goal.returns-then-defined-clause-err
returns-then-defined-clause-err c = λ n. (
  familiar c.args.params.now c.args.expr.now c.stranger_in.result c.stranger_in.ensures (sym c.is_some.ensures ∙ c.if-is_some.false),
  decided_true (BoundsDefined c.args.params.now c.args.expr.now) c.in_ok-defined-in-None.defined c.in_ok-defined-in-None.ensures c.if-defined.true,
  rw c.in-None.is at c.in_ok-shape.ensures.none,
)

pub returns-else-defined-clause-err : goal.returns-else-defined-clause-err
returns-else-defined-clause-err c = λ n. (
  familiar c.args.params.now c.args.expr.now c.stranger_in.result c.stranger_in.ensures (sym c.is_some.ensures ∙ c.if-is_some.false),
  λ h. decided_false (BoundsDefined c.args.params.now c.args.expr.now) c.in_ok-defined-in-None.defined c.in_ok-defined-in-None.ensures c.if-defined.false h.0,
)
