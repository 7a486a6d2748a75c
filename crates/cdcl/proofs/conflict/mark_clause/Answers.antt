use Rattle.std.proofs.Common.{◌<◌, ◌+◌, subst, sym, arith, take, length}
use Rattle.cdcl.specs.Marking.{Marks}
use Rattle.cdcl.proofs.MarkLemmas.{marks_more}
use Rattle.cdcl.proofs.conflict.mark_clause.Goals as goal

pub loop-lit-preserved : goal.loop-lit-preserved
loop-lit-preserved c =
    let at = c.place.ensures.is in
    let within : c.place.result < length c.loop-lit.seen = let w = at.within in omega arith in
    record {
      marks =
          subst (Marks c.args.trail.now.entries (take (c.loop-lit.lit-index + 1) c.args.clause.now) c.args.seen.now) (sym c.mark_place-count.ensures.seen)
          (marks_more c.args.trail.now.entries c.args.clause.now c.loop-lit.lit-index _ c.loop-lit-test.true c.args.seen.now c.loop-lit.seen c.place.result within at c.place.ensures.only c.loop-lit.invariant.marks);
      counted = omega (arith, c.mark_place-count.ensures.count, c.loop-lit.invariant.counted);
      small = omega (arith, c.mark_place-count.ensures.small, c.loop-lit.invariant.small);
    }
