use Rattle.std.proofs.Common.{drop}
use Rattle.elab_flat_params.proofs.Divisors.{IsLeft}
use Rattle.elab_flat_params.proofs.bounds.+bounds.Given as goal

abbrev pub invariant-all_defined-loop-expr : goal.invariant-all_defined-loop-expr
invariant-all_defined-loop-expr l = IsLeft l.valuation l.exprs (drop l.expr-index l.exprs)
