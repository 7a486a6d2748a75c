use Rattle.std.proofs.Common.{map, ap, ◌∙◌}
use Rattle.std.specs.List.{flat_map}
use Rattle.std.specs.Option.{option_copied}
use Rattle.elab_flat_faults.specs.Texts.{names_in}
use Rattle.elab_flat_scopes.specs.Borrowed.{name_meant}
use Rattle.elab_flat_names.specs.Exprs.{expr_meant}
use Rattle.elab_flat_names.proofs.Ports.{read_found}
use Rattle.elab_flat_names.proofs.module.undeclared.Goals as goal

pub returns : goal.returns
returns c =
    read_found c.args.text.now (map expr_meant c.in_ok-exprs.exprs.items) c.in_ok-exprs.ensures (map name_meant c.deref-2.result.now) c.args.declared.now
    (ap (map name_meant) c.deref-2.ensures.value ∙ (c.in_ok-names.ensures ∙ ap (λ xs. flat_map names_in (map expr_meant xs)) c.deref.ensures.value)) (option_copied c.absent.result) c.absent.ensures
