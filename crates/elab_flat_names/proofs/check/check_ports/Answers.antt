use Rattle.std.proofs.Common.{⊎_elim}
use Rattle.elab_flat_faults.specs.Declaring.{LacksDirection, IsUnlisted}
use Rattle.elab_flat_names.proofs.Searches.{none_found}
use Rattle.elab_flat_names.proofs.check.check_ports.Goals as goal

pub returns-clause-ok : goal.returns-clause-ok
returns-clause-ok c = λ x h.
    let m = c.args.scope.now.text.now in
    ⊎_elim (λ a. none_found (LacksDirection m) c.in_ok-name.field-0 c.in_ok-name.ensures c.in_default.not-Some x a)
    (λ b. none_found (IsUnlisted m) c.in_ok-name-2.field-0 c.in_ok-name-2.ensures c.in_default-2.not-Some x b) h
