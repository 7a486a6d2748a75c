use Rattle.std.proofs.Common.{◌≡◌, ◌∙◌, true, false, not, sym, ap}
use Rattle.std.specs.Option.{is_some}
use Rattle.cdcl.proofs.EndLemmas.{assigned_from_value}
use Rattle.cdcl.proofs.solver.bump_reason.Goals as goal

pub place-requires : goal.place-requires
place-requires c =
    assigned_from_value c.values.result.now c.args.reasons.now.trail.now.entries c.values.ensures.shows c.args.var
    (λ none. let e : false ≡ true = sym (ap is_some none) ∙ (c.is_none.ensures ∙ ap not c.if-is_none.false) in cc)
