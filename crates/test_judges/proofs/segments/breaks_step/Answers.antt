use Rattle.std.proofs.Common.{◌≡◌, ◌∙◌, true, length, List, Some, sym, ap, subst, arith}
use Rattle.std.specs.Prelude.{slice_get}
use Rattle.std.proofs.lemmas.List.{length-drop}
use Rattle.set_tree.specs.declared.set.Set.{Set}
use Rattle.set_tree.specs.Formulas.{meaning_of}
use Rattle.set_tree.specs.Meaning.{Row, holds}
use Rattle.test_judges.proofs.Exact.{step_exact}
use Rattle.test_judges.proofs.Invariants.{readable_at}
use Rattle.test_judges.proofs.segments.breaks_step.Goals as goal

pub holds-requires-clause-readable : goal.holds-requires-clause-readable
holds-requires-clause-readable c =
    let met : c.in_ok-segment.segment ≡ true = cc in
    let size = (c.in_ok-segment.ensures.0 met).window.size in
    let rest = ap (λ (rows : List Row). length rows) c.after_first.ensures in
    let long = length-drop 1 c.args.rows.now in
    readable_at c.args.set.now c.set.result.now c.args.at (length c.after_first.result.now) c.in-Some.rule.now c.set.ensures.value (sym c.in-Some.ensures.value) c.set.ensures.sound c.set.ensures.formed (omega (arith, size, rest, long))

pub returns : goal.returns
returns c =
    let met : c.in_ok-segment.segment ≡ true = cc in
    let there = subst (λ (s : Set). slice_get s.invariants c.args.at ≡ Some c.in-Some.rule.now) c.set.ensures.value (sym c.in-Some.ensures.value) in
    let is = c.in_ok-kept.ensures ∙ ap (λ (rows : List Row). holds (meaning_of c.args.set.now) c.in-Some.rule.now.formula rows) c.after_first.ensures in
    step_exact c.args.set.now c.args.at c.in-Some.rule.now c.args.rows.now c.in_ok-kept.kept there (c.in_ok-segment.ensures.0 met) is
