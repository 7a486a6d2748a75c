use Rattle.std.proofs.Common.{sym, subst}
use Rattle.elab_flat_scopes.specs.Borrowed.{decl_meant}
use Rattle.elab_flat_widths.specs.Ranges.{BreaksDecl}
use Rattle.elab_flat_widths.specs.Taken.{Fails}
use Rattle.elab_flat_widths.proofs.Ranges.{bad_signal}
use Rattle.elab_flat_widths.proofs.declared.declared.Goals as goal

pub returns-in-Err-clause-err : goal.returns-in-Err-clause-err
returns-in-Err-clause-err c =
    let v = c.args.params.now in
    let d = decl_meant c.args.decl.now in
    subst (Fails (BreaksDecl v d)) (sym c.signal_violation.ensures) (bad_signal v d c.in-Err.cause c.in-Err.ensures.err)
