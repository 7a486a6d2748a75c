use Rattle.std.proofs.Common.{sym, ◌∙◌, arith}
use Rattle.signoff_places.specs.Sets.{covers}
use Rattle.signoff_places.proofs.Firsts.{first_found, first_later, first_none}
use Rattle.signoff_places.proofs.sets.cover_in.Goals as goal

pub returns-then-covers : goal.returns-then-covers
returns-then-covers c = first_found (covers c.args.output.now) c.args.property.now c.loop-at.at _ c.loop-at.invariant (omega arith) (sym c.covers.ensures ∙ c.if-covers.true)

pub loop-at-preserved : goal.loop-at-preserved
loop-at-preserved c = first_later (covers c.args.output.now) c.args.property.now c.loop-at.at _ c.loop-at.invariant (sym c.covers.ensures ∙ c.if-covers.false)

pub returns : goal.returns
returns c = first_none (covers c.args.output.now) c.args.property.now c.loop-at.at _ c.loop-at.invariant (omega arith)
