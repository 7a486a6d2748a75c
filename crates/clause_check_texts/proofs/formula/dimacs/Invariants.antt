use Rattle.std.proofs.Common.{◌≡◌, ◌++◌, take}
use Rattle.std.specs.List.{flat_map}
use Rattle.clause_check_texts.specs.Dimacs.{clause_line, head_line}
use Rattle.clause_check_texts.proofs.formula.dimacs.Given as goal

abbrev pub invariant-loop-number : goal.invariant-loop-number
invariant-loop-number l = l.out.items ≡ head_line l.cnf ++ flat_map clause_line (take l.number l.cnf.clauses)
