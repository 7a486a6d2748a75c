use Rattle.std.proofs.Common.{◌∙◌, ap}
use Rattle.set_tree.specs.declared.set.Set.{Set}
use Rattle.desk_core_commands.specs.declared.which.Which.TheVariants as w
use Rattle.signoff_call.specs.Tasks.{machine_shown}
use Rattle.signoff_call.specs.Bound.{SaysMachine}
use Rattle.signoff_call.proofs.Walking.{says_machine, says_report}
use Rattle.signoff_call.proofs.paths.machine_shown.Goals as goal

pub returns-in_ok-bytes-in-Ok-clause-answer : goal.returns-in_ok-bytes-in-Ok-clause-answer
returns-in_ok-bytes-in-Ok-clause-answer g c =
    let set = c.args.bound.now.set in
    says_report c.args.bound.now _ _ _ _ c.where_signed.result w.All (SaysMachine set c.args.form) c.in-Ok.report _ c.in-Ok.ensures.lines c.in-Ok.ensures.report c.in-Ok.ensures.least c.in-Ok.ensures.settled
    (says_machine c.where_signed.result set c.args.form c.in_ok-bytes-in-Ok.bytes c.in-Ok.report (c.in_ok-bytes-in-Ok.ensures ∙ ap (λ (z : Set). machine_shown z c.args.form) c.set.ensures) c.where_signed.ensures)
