use Rattle.std.proofs.Common.{◌≡◌, nat_eq, length, drop}
use Rattle.std.specs.List.{flat_map}
use Rattle.elab_flat_faults.specs.Texts.{names_in}
use Rattle.mem_flat.proofs.index.+constant.Given as goal

abbrev pub invariant-are_constant-loop-expr : goal.invariant-are_constant-loop-expr
invariant-are_constant-loop-expr l = nat_eq (length (flat_map names_in (drop l.expr-index l.exprs))) 0 ≡ nat_eq (length (flat_map names_in l.exprs)) 0
