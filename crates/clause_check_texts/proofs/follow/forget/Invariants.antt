use Rattle.std.proofs.Common.{drop}
use Rattle.clause_check_texts.proofs.FollowLemmas.{Covers}
use Rattle.clause_check_texts.proofs.follow.forget.Given as goal

abbrev pub invariant-loop-lit : goal.invariant-loop-lit
invariant-loop-lit l = Covers (drop l.lit-index l.known) l.values
