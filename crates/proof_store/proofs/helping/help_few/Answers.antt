use Rattle.std.proofs.lemmas.Result.{IfOk-weaker}
use Rattle.proof_store.proofs.Asking.{none_falls_same}
use Rattle.proof_store.proofs.Helps.{all_ready, are_helped, rose_as}
use Rattle.proof_store.proofs.helping.help_few.Goals as goal

pub returns-in_err-all-clause-asked : goal.returns-in_err-all-clause-asked
returns-in_err-all-clause-asked g c = none_falls_same _

pub ask_each-requires-clause-ready : goal.ask_each-requires-clause-ready
ask_each-requires-clause-ready g c κs within = all_ready c.args.obs.now c.in_ok-all.all.items c.in_ok-all.ensures

pub returns-clause-helped : goal.returns-clause-helped
returns-clause-helped g c = IfOk-weaker c.ask_each.result _ _ (λ helped. are_helped c.args.obs.now c.in_ok-all.all.items helped.items c.in_ok-all.ensures) c.ask_each.ensures.shown

pub returns-clause-first : goal.returns-clause-first
returns-clause-first g c = IfOk-weaker c.ask_each.result _ _ (λ _. rose_as c.args.obs.now c.in_ok-all.all.items _ _ c.in_ok-all.ensures) c.ask_each.ensures.first
