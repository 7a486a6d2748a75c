use Rattle.std.proofs.Common.{ap, sym, ◌∙◌}
use Rattle.std.specs.Prelude.{unwrap_or}
use Rattle.elab_flat_scopes.proofs.Finding.{got}
use Rattle.path_machine.proofs.Driving.{given_nowhere, given_there, index_is}
use Rattle.path_machine.proofs.stimulus.given.Goals as goal

pub returns-in_default : goal.returns-in_default
returns-in_default c = given_nowhere 0 c.args.inputs.now c.args.row.now c.args.name.now (sym c.place.ensures ∙ c.in_default.is)

pub returns : goal.returns
returns c =
    c.unwrap_or.ensures ∙ (ap (λ o. unwrap_or o 0) (c.copied.ensures ∙ got c.args.row.now c.in-Some.place c.get.result c.get.ensures.lookup)
    ∙ (index_is c.args.row.now c.in-Some.place ∙ given_there c.in-Some.place c.args.inputs.now c.args.row.now c.args.name.now (sym c.place.ensures ∙ c.in-Some.is)))
