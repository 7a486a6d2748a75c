use Rattle.std.proofs.Common.{sym, ◌∙◌, arith}
use Rattle.signoff_places.specs.Tokens.{begins}
use Rattle.signoff_places.proofs.Firsts.{first_found, first_later, first_none}
use Rattle.signoff_places.proofs.tokens.first.Goals as goal

pub returns-then-stands : goal.returns-then-stands
returns-then-stands c = first_found (begins c.args.word.now) c.args.tokens.now c.loop-at.at _ c.loop-at.invariant (omega arith) (sym c.stands.ensures ∙ c.if-stands.true)

pub loop-at-preserved : goal.loop-at-preserved
loop-at-preserved c = first_later (begins c.args.word.now) c.args.tokens.now c.loop-at.at _ c.loop-at.invariant (sym c.stands.ensures ∙ c.if-stands.false)

pub returns : goal.returns
returns c = first_none (begins c.args.word.now) c.args.tokens.now c.loop-at.at _ c.loop-at.invariant (omega arith)
