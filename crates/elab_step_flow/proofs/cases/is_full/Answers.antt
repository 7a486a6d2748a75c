use Rattle.std.proofs.Common.{map, sym, subst}
use Rattle.vlog_tree.specs.declared.valuation.Entry.{Entry}
use Rattle.std.specs.Prelude.{List, MatchBool}
use Rattle.elab_flat_faults.specs.Paths.{IsFull, CoversAll}
use Rattle.elab_step_laws.specs.Laws.{place_over}
use Rattle.elab_step_flow.specs.Cases.{expr_meant}
use Rattle.elab_step_flow.proofs.Casing.{told_true, told_false, told_else, all_constant, each_constant}
use Rattle.elab_step_flow.proofs.cases.is_full.Goals as goal

pub returns-then-not-branch : goal.returns-then-not-branch
returns-then-not-branch c = λ h.
    let p = place_over c.args.scope.now in
    let labels = map expr_meant c.args.labels.now in
    let k = subst (λ z. IsFull p z c.args.subject.now labels) c.in-Case.is h in
    told_false _ _ _ c.if-not-branch.true c.in_ok-are_constant-in-Case.ensures (λ b m. (each_constant p labels b k.0 m).0)

pub returns-in_ok-covered-in-Case : goal.returns-in_ok-covered-in-Case
returns-in_ok-covered-in-Case c =
    let p = place_over c.args.scope.now in
    let a = c.args.subject.now in
    let labels = map expr_meant c.args.labels.now in
    let constant = all_constant p labels (told_true _ _ _ c.if-not-branch.false c.in_ok-are_constant-in-Case.ensures) (λ b k. (k, tt)) in
    let covers = subst (λ (v : List Entry). MatchBool c.in_ok-covered-in-Case.covered (CoversAll v a labels) (CoversAll v a labels → ⊥)) c.at_rest.ensures c.in_ok-covered-in-Case.ensures in
    subst (λ z. MatchBool c.in_ok-covered-in-Case.covered (IsFull p z a labels) (IsFull p z a labels → ⊥)) (sym c.in-Case.is)
    (told_else c.in_ok-covered-in-Case.covered _ _ _ _ (λ h. (constant, h)) (λ f h. f h.1) covers)
