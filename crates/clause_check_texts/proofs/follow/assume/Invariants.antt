use Rattle.std.proofs.Common.{take}
use Rattle.clause_check_texts.proofs.FollowLemmas.{Assumed}
use Rattle.clause_check_texts.proofs.follow.assume.Given as goal

abbrev pub invariant-loop-number : goal.invariant-loop-number
invariant-loop-number l = Assumed l.vars (take l.number-index l.numbers) l.values l.known.items
