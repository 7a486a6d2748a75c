use Rattle.std.proofs.Common.{Vec, Global, rules, ◌≡◌, ◌<◌, ◌+◌, false, true, length, get_or, sym, subst, arith}
use Rattle.clause_check.specs.declared.literal.Lit.{Lit}
use Rattle.clause_check.specs.Clauses.{negated}
use Rattle.cnf_build.specs.Literals.{has_lit}
use Rattle.cnf_build.proofs.Tidying.{TidyLoop, tidy_new, tidy_again}
use Rattle.cnf_build.proofs.tidy.tidy_clause.Goals as goal
use Rattle.cnf_build.proofs.tidy.tidy_clause.Goals.{then-not-has+in_ok-push, else-not-has}

none : Lit
none = record { var = 0; negative = false }

pub loop-i-preserved : goal.loop-i-preserved
unfolding none
loop-i-preserved c =
    let kept = c.loop-i.kept.items in
    let lits = c.args.lits.now in
    let i = c.loop-i.i in
    let lt : i < length lits = omega arith in
    let apart : has_lit kept (negated (get_or lits i none)) ≡ false = search rules in
    elim c.if-not-has.branch [
      | then-not-has+in_ok-push w ↦
          let fresh : has_lit kept (get_or lits i none) ≡ false = search rules in
          let step = tidy_new kept lits w.push.new.self.items i none lt apart fresh w.in_ok-push.ensures.items c.loop-i.invariant in
          subst (λ (k : Vec Lit Global). TidyLoop k.items lits (i + 1)) (sym w.kept-is) step
      | else-not-has w ↦
          let again : has_lit kept (get_or lits i none) ≡ true = search rules in
          let step = tidy_again kept lits i none lt apart again c.loop-i.invariant in
          subst (λ (k : Vec Lit Global). TidyLoop k.items lits (i + 1)) (sym w.kept-is) step
    ]
