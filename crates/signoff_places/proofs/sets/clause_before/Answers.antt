use Rattle.std.proofs.Common.{ap, ◌∙◌, [], arith}
use Rattle.std.specs.List.{fold}
use Rattle.signoff_places.specs.Sets.{clause_behind}
use Rattle.signoff_places.proofs.Clauses.{clause_next, clause_end}
use Rattle.signoff_places.proofs.sets.clause_before.Goals as goal

pub loop-token-preserved : goal.loop-token-preserved
loop-token-preserved c =
    clause_next _ c.loop-token.token-index _ _ c.token-item.result (omega arith) c.loop-token.invariant c.token-item.is c.clause_behind-clause.ensures

pub returns : goal.returns
returns c = clause_end _ c.loop-token.token-index _ (omega arith) c.loop-token.invariant ∙ ap (fold clause_behind []) c.around.ensures.before
