use Rattle.std.proofs.Common.{◌≡◌, drop}
use Rattle.std.specs.List.{list_all}
use Rattle.set_read_lookup.specs.Tests.{has_constant_parts}
use Rattle.set_read_lookup.proofs.constant.+constant.Given as goal

abbrev pub invariant-all_have_constant_parts-loop-expr : goal.invariant-all_have_constant_parts-loop-expr
invariant-all_have_constant_parts-loop-expr l = list_all has_constant_parts (drop l.expr-index l.exprs) ≡ list_all has_constant_parts l.exprs
