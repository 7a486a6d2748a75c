use Rattle.std.proofs.Common.{rules}
use Rattle.std.specs.Vec.Iter.{into_iter_items}
use Rattle.proof_store.proofs.Asking.{none_falls_on}
use Rattle.proof_store.proofs.Helps.{ask_more, ask_start}
use Rattle.proof_store.proofs.helping.ask_each.Goals as goal

pub loop-ready-init : goal.loop-ready-init
loop-ready-init g c = ask_start c.args.all.items _ _ _ (search rules) c.new-helped.ensures.items c.requires.ready

pub returns-in_err-evidence-clause-asked : goal.returns-in_err-evidence-clause-asked
returns-in_err-evidence-clause-asked g c = none_falls_on _ _ _ c.loop-ready.invariant.rose.none_falls c.ask.ensures.asked

pub returns-in_err-push-clause-asked : goal.returns-in_err-push-clause-asked
returns-in_err-push-clause-asked g c = none_falls_on _ _ _ c.loop-ready.invariant.rose.none_falls c.ask.ensures.asked

pub loop-ready-preserved : goal.loop-ready-preserved
loop-ready-preserved g c =
    ask_more c.args.all.items (into_iter_items c.loop-ready.ready-iterator) (into_iter_items c.next.new.self) c.in-Some.ready c.loop-ready.helped.items _ c.in_ok-evidence.evidence _ _ _
    c.loop-ready.invariant (search rules) c.in_ok-evidence.ensures.shown c.in_ok-evidence.ensures.first c.in_ok-push.ensures.items
