use Rattle.std.proofs.Common.{rules, ◌<◌, false, length, arith}
use Rattle.clause_check.specs.declared.literal.Lit.{Lit}
use Rattle.cnf_build.proofs.Whole.{clause_of, parts_of, tidy_whole}
use Rattle.cnf_build.proofs.tidy.+is_tidy.Goals as goal

none : Lit
none = record { var = 0; negative = false }

pub returns-then-lacks-clause-clause : goal.returns-then-lacks-clause-clause
unfolding none
returns-then-lacks-clause-clause t c =
    let lits = c.args.lits.now in
    let some : 0 < length lits = omega (arith, c.in-len1-up.len_at_least) in (
      λ rest. clause_of lits none some (c.lacks.ensures.0 c.if-lacks.true) (c.is_tidy.ensures.clause.0 rest),
      λ whole. c.is_tidy.ensures.clause.1 (parts_of lits none some whole).1,
    )

pub returns-then-lacks-clause-tidy : goal.returns-then-lacks-clause-tidy
unfolding none
returns-then-lacks-clause-tidy t c =
    let lits = c.args.lits.now in
    let some : 0 < length lits = omega (arith, c.in-len1-up.len_at_least) in
    λ rest. tidy_whole lits (clause_of lits none some (c.lacks.ensures.0 c.if-lacks.true) (c.is_tidy.ensures.clause.0 rest))

pub returns-else-lacks-clause-clause : goal.returns-else-lacks-clause-clause
unfolding none
returns-else-lacks-clause-clause t c =
    let lits = c.args.lits.now in
    let some : 0 < length lits = omega (arith, c.in-len1-up.len_at_least) in (
      λ no. search rules,
      λ whole. c.lacks.ensures.1 (parts_of lits none some whole).0,
    )
