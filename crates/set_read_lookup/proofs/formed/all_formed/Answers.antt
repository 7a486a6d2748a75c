use Rattle.std.proofs.Common.{subst, ap, ◌∙◌}
use Rattle.std.specs.Result.{IfOk}
use Rattle.set_read_lookup.specs.Formed.{formulas_in}
use Rattle.set_read_lookup.specs.Tests.{declared_entries, IsPresent, Judges}
use Rattle.set_read_lookup.proofs.formed.all_formed.Goals as goal

pub returns : goal.returns
returns c =
    subst (λ v. IfOk c.text_is.result (Judges (IsPresent v) (formulas_in c.args.text.now))) (c.in_ok-valuation.ensures ∙ ap declared_entries c.as_slice.ensures) c.text_is.ensures
