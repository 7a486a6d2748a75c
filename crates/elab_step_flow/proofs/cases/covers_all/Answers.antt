use Rattle.std.proofs.Common.{◌≡◌, ℕ, ◌≤◌, ◌&&◌, Bool, max, map, arith, ap, ◌∙◌}
use Rattle.std.specs.Prelude.{nat_eq}
use Rattle.std.specs.HashSet.{contains}
use Rattle.vlog_tree.specs.Value.{width_of}
use Rattle.vlog_tree_runs.specs.Blocks.{widest, all_signed}
use Rattle.elab_step_flow.specs.Cases.{expr_meant}
use Rattle.elab_step_flow.proofs.Casing.{widest_of, told_true, told_false, told_else, wide_covers, narrow_covers, covers_one}
use Rattle.elab_step_flow.proofs.cases.covers_all.Goals as goal

pub values_of-requires-clause-long : goal.values_of-requires-clause-long
values_of-requires-clause-long c = λ b m.
    let v = c.args.valuation.now in
    let labels = map expr_meant c.args.labels.now in
    let h : width_of v b ≤ widest v labels = widest_of v labels b m in
    let e : c.in_ok-common.common.0 ≡ max c.in_ok-own.own.0 (widest v labels) = c.in_ok-common.ensures.width in
    omega arith

pub returns-then-has_all : goal.returns-then-has_all
returns-then-has_all c =
    let v = c.args.valuation.now in
    let a = c.args.subject.now in
    let labels = map expr_meant c.args.labels.now in
    wide_covers v a labels (λ x. contains nat_eq c.in_ok-values.values x) c.in_ok-common.common.0 c.in_ok-own.own.0 c.in_ok-common.common.1
    (c.in_ok-common.ensures.width ∙ ap (λ k. max k (widest v labels)) c.in_ok-own.ensures.width) (c.in_ok-common.ensures.sign ∙ ap (λ k. k && all_signed v labels) c.in_ok-own.ensures.sign) c.in_ok-own.ensures.width
    c.in_ok-values.ensures (told_true _ _ _ c.if-has_all.true c.has_all.ensures)

pub returns-then-not-is_simple : goal.returns-then-not-is_simple
returns-then-not-is_simple c = λ h.
    let v = c.args.valuation.now in
    let a = c.args.subject.now in
    let labels = map expr_meant c.args.labels.now in
    told_false _ _ _ c.if-not-is_simple.true c.is_simple.ensures
    (covers_one v a labels (λ x. contains nat_eq c.in_ok-values.values x) c.in_ok-common.common.0 c.in_ok-own.own.0 c.in_ok-common.common.1
    (c.in_ok-common.ensures.width ∙ ap (λ k. max k (widest v labels)) c.in_ok-own.ensures.width) (c.in_ok-common.ensures.sign ∙ ap (λ k. k && all_signed v labels) c.in_ok-own.ensures.sign) c.in_ok-own.ensures.width
    c.in_ok-values.ensures (told_false _ _ _ c.if-has_all.false c.has_all.ensures) h).0

pub returns : goal.returns
returns c =
    let v = c.args.valuation.now in
    let a = c.args.subject.now in
    let labels = map expr_meant c.args.labels.now in
    let set : ℕ → Bool = λ x. contains nat_eq c.in_ok-values.values x in
    let n = c.in_ok-common.common.0 in
    let w = c.in_ok-own.own.0 in
    let signed = c.in_ok-common.common.1 in
    let width = c.in_ok-common.ensures.width ∙ ap (λ k. max k (widest v labels)) c.in_ok-own.ensures.width in
    let sign = c.in_ok-common.ensures.sign ∙ ap (λ k. k && all_signed v labels) c.in_ok-own.ensures.sign in
    let fails = told_false _ _ _ c.if-has_all.false c.has_all.ensures in
    told_else c.has_all-2.result _ _ _ _
    (narrow_covers v a labels set n w signed width sign c.in_ok-own.ensures.width c.in_ok-values.ensures (told_true _ _ _ c.if-not-is_simple.false c.is_simple.ensures))
    (λ f h. f (covers_one v a labels set n w signed width sign c.in_ok-own.ensures.width c.in_ok-values.ensures fails h).1) c.has_all-2.ensures
