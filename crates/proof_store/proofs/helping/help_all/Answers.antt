use Rattle.std.proofs.Common.{arith, rules}
use Rattle.std.specs.Vec.Iter.{into_iter_items}
use Rattle.proof_store.proofs.Asking.{none_falls_on, none_falls_same}
use Rattle.proof_store.proofs.Helps.{all_helped, help_more, help_start, helpers_rose}
use Rattle.proof_store.proofs.Pieces.{few_within, joined, next_piece, no_pieces, pieces_start}
use Rattle.proof_store.proofs.helping.help_all.Goals as goal

pub returns-in_err-few-items-clause-asked : goal.returns-in_err-few-items-clause-asked
returns-in_err-few-items-clause-asked g c = none_falls_same _

pub loop-few-init : goal.loop-few-init
loop-few-init g c = help_start c.args.obs.now _ _ _ (pieces_start c.args.obs.now c.in_ok-few-items.few-items.items (into_iter_items c.into_iter-few-iterator.result) c.in_ok-few-items.ensures (search rules)) c.new-helped.ensures.items

pub help_few-requires-after_bounds : goal.help_few-requires-after_bounds
help_few-requires-after_bounds g c κs within =
    let is = next_piece (into_iter_items c.loop-few.few-iterator) (into_iter_items c.next.new.self) c.in-Some.few (search rules) in
    let short = few_within c.args.obs.now c.loop-few.invariant.before _ c.in-Some.few.now _ c.loop-few.invariant.split is in
    omega (arith, c.requires, short)

pub returns-in_err-more-clause-asked : goal.returns-in_err-more-clause-asked
returns-in_err-more-clause-asked g c = none_falls_on _ _ _ c.loop-few.invariant.rose.none_falls c.help_few.ensures.asked

pub returns-in_err-append-clause-asked : goal.returns-in_err-append-clause-asked
returns-in_err-append-clause-asked g c = none_falls_on _ _ _ c.loop-few.invariant.rose.none_falls c.help_few.ensures.asked

pub loop-few-preserved : goal.loop-few-preserved
loop-few-preserved g c =
    let is = next_piece (into_iter_items c.loop-few.few-iterator) (into_iter_items c.next.new.self) c.in-Some.few (search rules) in
    help_more c.args.obs.now _ c.in-Some.few.now (joined (into_iter_items c.next.new.self)) c.loop-few.helped.items c.in_ok-more.more.items c.append.new.self.items _ _ _ c.loop-few.invariant is c.in_ok-more.ensures.helped c.in_ok-more.ensures.first c.in_ok-append.ensures.items

pub returns-clause-helped : goal.returns-clause-helped
returns-clause-helped g c = all_helped c.args.obs.now _ c.loop-few.helped.items _ _ c.loop-few.invariant (no_pieces (into_iter_items c.loop-few.few-iterator) (search rules))

pub returns-clause-first : goal.returns-clause-first
returns-clause-first g c = helpers_rose c.args.obs.now _ c.loop-few.helped.items _ _ c.loop-few.invariant (no_pieces (into_iter_items c.loop-few.few-iterator) (search rules))

pub returns-clause-asked : goal.returns-clause-asked
returns-clause-asked g c = c.loop-few.invariant.rose.none_falls
