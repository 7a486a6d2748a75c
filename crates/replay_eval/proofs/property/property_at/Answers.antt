use Rattle.std.proofs.Common.{arith}
use Rattle.replay_eval.proofs.Properties.{known_first, known_later}
use Rattle.replay_eval.proofs.property.property_at.Goals as goal

pub returns-then-at-eq0-clause-reads : goal.returns-then-at-eq0-clause-reads
returns-then-at-eq0-clause-reads c = (known_first c.args.set.now c.set-set.result.now c.set-set.ensures.value c.set-set.ensures.sound c.set-set.ensures.formed).reads

pub returns-else-at-eq0-clause-reads : goal.returns-else-at-eq0-clause-reads
returns-else-at-eq0-clause-reads c = (known_later c.args.set.now c.set-set.result.now c.as_slice.result.now c.args.at c.index-as_slice-at.result c.set-set.ensures.value c.as_slice.ensures c.set-set.ensures.sound c.set-set.ensures.formed c.requires (omega (arith, c.if-at-eq0.false)) c.index-as_slice-at.is).reads

pub returns-else-at-eq0-clause-length : goal.returns-else-at-eq0-clause-length
returns-else-at-eq0-clause-length c = (known_later c.args.set.now c.set-set.result.now c.as_slice.result.now c.args.at c.index-as_slice-at.result c.set-set.ensures.value c.as_slice.ensures c.set-set.ensures.sound c.set-set.ensures.formed c.requires (omega (arith, c.if-at-eq0.false)) c.index-as_slice-at.is).span

pub returns-else-at-eq0-clause-small : goal.returns-else-at-eq0-clause-small
returns-else-at-eq0-clause-small c = (known_later c.args.set.now c.set-set.result.now c.as_slice.result.now c.args.at c.index-as_slice-at.result c.set-set.ensures.value c.as_slice.ensures c.set-set.ensures.sound c.set-set.ensures.formed c.requires (omega (arith, c.if-at-eq0.false)) c.index-as_slice-at.is).small
