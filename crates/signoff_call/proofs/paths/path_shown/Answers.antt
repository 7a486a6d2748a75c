use Rattle.std.proofs.Common.{◌∙◌, ap, subst}
use Rattle.set_tree.specs.declared.set.Set.{Set}
use Rattle.set_tree.specs.Formulas.{meaning_of}
use Rattle.set_tree.specs.Paths.{IsPath}
use Rattle.path_machine.specs.Texts.{path_text}
use Rattle.desk_core_commands.specs.declared.which.Which.TheVariants as w
use Rattle.signoff_call.specs.Bound.{SaysPath}
use Rattle.signoff_call.specs.Tasks.{signed_text}
use Rattle.signoff_call.proofs.Walking.{says_path, says_report}
use Rattle.signoff_call.proofs.paths.path_shown.Goals as goal

pub returns-in_ok-bytes-in-Ok-clause-answer : goal.returns-in_ok-bytes-in-Ok-clause-answer
returns-in_ok-bytes-in-Ok-clause-answer g c =
    let set = c.args.bound.now.set in
    let trace = c.args.trace.now.rows in
    let path = c.in_ok-path-in-Ok.path in
    let is = subst (λ (z : Set). IsPath (meaning_of z) z trace path) c.set.ensures c.in_ok-path-in-Ok.ensures in
    let text = c.in_ok-text-in-Ok.ensures ∙ ap (λ (z : Set). path_text z path) c.set-in-Ok.ensures in
    let bytes = c.in_ok-bytes-in-Ok.ensures ∙ ap signed_text text in
    says_report c.args.bound.now _ _ _ _ c.where_signed.result w.All (SaysPath set trace) c.in-Ok.report _ c.in-Ok.ensures.lines c.in-Ok.ensures.report c.in-Ok.ensures.least c.in-Ok.ensures.settled
    (says_path c.where_signed.result set trace path c.in_ok-bytes-in-Ok.bytes c.in-Ok.report is bytes c.where_signed.ensures)
