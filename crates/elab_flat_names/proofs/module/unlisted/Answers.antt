use Rattle.std.proofs.Common.{map, ap, ◌∙◌}
use Rattle.std.specs.Option.{option_copied}
use Rattle.elab_flat_scopes.specs.Borrowed.{name_meant}
use Rattle.elab_flat_names.proofs.Ports.{unlisted_found}
use Rattle.elab_flat_names.proofs.module.unlisted.Goals as goal

pub returns : goal.returns
returns c =
    unlisted_found c.args.text.now (map name_meant c.deref.result.now) c.in_ok-ports.ports
    (ap (map name_meant) c.deref.ensures.value ∙ c.in_ok-directed.ensures) (c.in_ok-ports.ensures ∙ c.in_ok-port_names.ensures) (option_copied c.absent.result) c.absent.ensures
