use Rattle.std.proofs.Common.{◌≡◌, ◌++◌, drop, map}
use Rattle.set_read_lookup.specs.Tests.{present}
use Rattle.set_read_lookup.proofs.present.+present.Given as goal

abbrev pub invariant-row-loop-expr : goal.invariant-row-loop-expr
invariant-row-loop-expr l = l.all ++ map present (drop l.expr-index l.exprs) ≡ map present l.exprs
