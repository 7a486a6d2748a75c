use Rattle.std.proofs.Common.{◌≡◌, true, length, Some, sym, subst, arith}
use Rattle.std.specs.Prelude.{slice_get}
use Rattle.set_tree.specs.declared.set.Set.{Set}
use Rattle.test_judges.proofs.Exact.{base_exact}
use Rattle.test_judges.proofs.Invariants.{readable_at}
use Rattle.test_judges.proofs.segments.breaks_base.Goals as goal

pub holds-requires-clause-readable : goal.holds-requires-clause-readable
holds-requires-clause-readable c =
    let met : c.in_ok-window.window ≡ true = cc in
    let size = (c.in_ok-window.ensures.0 met).size in
    readable_at c.args.set.now c.set.result.now c.args.at (length c.args.rows.now) c.in-Some.rule.now c.set.ensures.value (sym c.in-Some.ensures.value) c.set.ensures.sound c.set.ensures.formed (omega (arith, size))

pub returns : goal.returns
returns c =
    let met : c.in_ok-window.window ≡ true = cc in
    let there = subst (λ (s : Set). slice_get s.invariants c.args.at ≡ Some c.in-Some.rule.now) c.set.ensures.value (sym c.in-Some.ensures.value) in
    base_exact c.args.set.now c.args.at c.in-Some.rule.now c.args.rows.now c.in_ok-held.held there (c.in_ok-window.ensures.0 met) c.in_ok-held.ensures
