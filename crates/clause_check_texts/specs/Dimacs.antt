-- Formulas in DIMACS, the text form of the SAT competitions.
use Rattle.std.specs.Prelude.{ℕ, ◌+◌, List, [], ◌++◌, length, codes, if◌then◌else◌}
use Rattle.std.specs.List.{flat_map}
use Rattle.std.specs.Fmt.{decimal}
use Rattle.clause_check.specs.declared.literal.Lit.{Lit}
use Rattle.clause_check.specs.declared.formula.Cnf.{Cnf}

-- variable v is v + 1, with a minus in front where it is negative; a blank follows
abbrev pub lit_word : Lit → List ℕ
lit_word l = (if l.negative then codes "-" else []) ++ decimal (l.var + 1) ++ codes " "

-- the literals and a 0
abbrev pub clause_line : List Lit → List ℕ
clause_line clause = flat_map lit_word clause ++ codes "0\n"

-- how many variables and how many clauses there are
abbrev pub head_line : Cnf → List ℕ
head_line cnf = codes "p cnf " ++ decimal cnf.vars ++ codes " " ++ decimal (length cnf.clauses) ++ codes "\n"

abbrev pub dimacs : Cnf → List ℕ
dimacs cnf = head_line cnf ++ flat_map clause_line cnf.clauses
