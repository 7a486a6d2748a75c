use Rattle.std.proofs.Common.{arith, sym, ◌∙◌}
use Rattle.signoff_places.specs.Sets.{again_in}
use Rattle.signoff_places.proofs.FirstGiven.{given_found, given_later, given_none}
use Rattle.signoff_places.proofs.sets.next_again.Goals as goal

pub returns-then-is_some : goal.returns-then-is_some
returns-then-is_some c =
    given_found (again_in c.args.name.now) c.args.set.now c.loop-at.at _ c.loop-at.invariant c.again_in-again.result (omega arith) c.again_in-again.ensures (sym c.is_some.ensures ∙ c.if-is_some.true)

pub loop-at-preserved : goal.loop-at-preserved
loop-at-preserved c =
    given_later (again_in c.args.name.now) c.args.set.now c.loop-at.at _ c.loop-at.invariant c.again_in-again.result c.again_in-again.ensures (sym c.is_some.ensures ∙ c.if-is_some.false)

pub returns : goal.returns
returns c = given_none (again_in c.args.name.now) c.args.set.now c.loop-at.at _ c.loop-at.invariant (omega arith)
