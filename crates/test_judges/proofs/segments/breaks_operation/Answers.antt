use Rattle.std.proofs.Common.{◌≡◌, ◌∙◌, ℕ, true, refl, sym, subst}
use Rattle.set_tree.specs.Formulas.{meaning_of}
use Rattle.test_judges.specs.Breaking.{AreSegmentRows}
use Rattle.test_judges.proofs.Exact.{operation_exact}
use Rattle.test_judges.proofs.segments.breaks_operation.Goals as goal

pub returns : goal.returns
returns c =
    let set = c.args.set.now in
    let met : c.in_ok-segment.segment ≡ true = cc in
    let assumes : c.in_ok-assumed.assumed ≡ true = cc in
    let segment = subst (λ (k : ℕ). AreSegmentRows (meaning_of set) set k c.args.rows.now) c.window-end.ensures.window (c.in_ok-segment.ensures.0 met) in
    operation_exact set c.args.at c.args.rows.now c.in_ok-committed.committed (c.if-not-is_operation.ensures.0 refl) segment (sym c.in_ok-assumed.ensures ∙ assumes) c.in_ok-committed.ensures
