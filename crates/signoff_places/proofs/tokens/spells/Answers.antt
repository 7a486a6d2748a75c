use Rattle.std.proofs.Common.{sym, ◌∙◌, ◌+◌}
use Rattle.signoff_places.proofs.Dots.{spells_stops, spells_later, spells_ends, spells_fails, shorter}
use Rattle.signoff_places.proofs.tokens.spells.Goals as goal

pub returns-then-not-stand_both : goal.returns-then-not-stand_both
returns-then-not-stand_both c = spells_stops c.loop-dot.rest.now c.loop-dot.here.now _ c.loop-dot.invariant.same c.in-Some.dot c.in-Some.ensures.exact (sym c.stand_both.ensures ∙ c.if-not-stand_both.true)

pub loop-dot-preserved : goal.loop-dot-preserved
loop-dot-preserved c = record {
  same = spells_later c.loop-dot.rest.now c.loop-dot.here.now _ c.loop-dot.invariant.same c.in-Some.dot _ c.in-Some.ensures.exact (sym c.stand_both.ensures ∙ c.if-not-stand_both.false) c.behind-here.ensures;
  shorter = shorter c.loop-dot.rest.now (c.in-Some.dot + 1) _ c.loop-dot.invariant.shorter;
}

pub returns-then-stands : goal.returns-then-stands
returns-then-stands c = spells_ends c.loop-dot.rest.now c.loop-dot.here.now _ c.loop-dot.invariant.same _ c.in_default.ensures.exact (sym c.stands.ensures ∙ c.if-stands.true) c.stands-then-stands.ensures

pub returns-else-stands : goal.returns-else-stands
returns-else-stands c = c.if-stands.false ∙ spells_fails c.loop-dot.rest.now c.loop-dot.here.now _ c.loop-dot.invariant.same c.in_default.ensures.exact (sym c.stands.ensures ∙ c.if-stands.false)
