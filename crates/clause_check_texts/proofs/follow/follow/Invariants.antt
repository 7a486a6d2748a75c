use Rattle.clause_check.specs.Clauses.{IsInRange}
use Rattle.clause_check.specs.Derivations.{clauses_of}
use Rattle.clause_check_texts.proofs.FollowLemmas.{Following}
use Rattle.clause_check_texts.proofs.follow.follow.Given as goal

abbrev pub invariant-loop-i : goal.invariant-loop-i
invariant-loop-i l = record {
  following : Following (clauses_of l.cnf.clauses l.steps) l.fn.known.items l.hints l.i l.values l.known.items;
  in_range : IsInRange l.cnf.vars l.known.items;
}
