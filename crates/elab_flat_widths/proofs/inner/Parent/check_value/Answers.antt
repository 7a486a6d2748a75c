use Rattle.std.proofs.Common.{ℕ, Option, List, sym, subst}
use Rattle.std.specs.Prelude.{IfErr}
use Rattle.vlog_tree.specs.declared.valuation.Entry.{Entry}
use Rattle.vlog_tree_runs.specs.Scopes.{place_of}
use Rattle.elab_flat_faults.specs.Constants.{stored}
use Rattle.elab_flat_params.specs.Constants.{is_known}
use Rattle.elab_flat_instances.specs.Unfolding.{scope_meant}
use Rattle.elab_flat_widths.specs.Taken.{Breaks, Fails}
use Rattle.elab_flat_widths.specs.Texts.{BreaksGiven}
use Rattle.elab_flat_widths.proofs.inner.Parent.check_value.Goals as goal

pub returns-in-Some-clause-err : goal.returns-in-Some-clause-err
returns-in-Some-clause-err c =
    let p = place_of (scope_meant c.args.self.now.scope.now) in
    let test = is_known c.args.self.now.scope.now.params in
    let r = c.check_stored.result in
    let a = c.args.value.now in
    let n = c.in-Some.least in
    subst (λ (o : Option ℕ). IfErr r (Fails (BreaksGiven p a o))) (sym c.in-Some.is) (subst (λ (v : List Entry). IfErr r (Fails (Breaks test v (stored v n a)))) c.requires.rest c.check_stored.ensures.err)
