use Rattle.std.specs.Prelude.{List}
use Rattle.clause_check.specs.declared.literal.Lit.{Lit}
use Rattle.clause_check.specs.Derivations.{clauses_of}
use Rattle.cdcl.specs.declared.trail.Entry.{Entry}
use Rattle.cdcl.specs.declared.reasons.Reasons.{Reasons}

-- the clauses of the formula, and after them those of the steps
abbrev pub clauses_in : Reasons → List (List Lit)
clauses_in r = clauses_of r.cnf.now.clauses r.steps.now

abbrev pub entries_in : Reasons → List Entry
entries_in r = r.trail.now.entries
