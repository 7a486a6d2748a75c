use Rattle.std.proofs.Common.{arith, ◌≡◌, ◌≤◌, ◌<◌, ◌+◌, ◌⊎◌, ap, sym, subst, ◌∙◌}
use Rattle.std.specs.Prelude.{slice_index}
use Rattle.std.specs.Ordering.{nat_cmp, ord_max}
use Rattle.elab_flat_graphs.proofs.Searching.{among_item}
use Rattle.elab_flat_graphs.proofs.Levelling.{highest, still_above}
use Rattle.elab_flat_graphs.proofs.levels.level_above.Goals as goal

pub loop-i-preserved : goal.loop-i-preserved
loop-i-preserved c =
    let levels = c.args.levels.now in
    let vertices = c.args.vertices.now in
    let level = c.loop-i.level in
    let own = slice_index levels (slice_index vertices c.loop-i.i) + 1 in
    let h = highest level own in
    let e : c.max-level.result ≡ ord_max nat_cmp level own = c.max-level.ensures ∙ ap (λ z. ord_max nat_cmp level (z + 1)) c.number_of.ensures in
    still_above levels vertices c.loop-i.i level c.max-level.result c.loop-i-test.true c.loop-i.invariant.0 c.loop-i.invariant.1
    (subst (λ z. level ≤ z) (sym e) h.0) (subst (λ z. own ≤ z) (sym e) h.1) (subst (λ z. (z ≡ level) ⊎ (z ≡ own)) (sym e) h.2)

pub returns-clause-above : goal.returns-clause-above
returns-clause-above c w m =
    let i = among_item c.args.vertices.now w m in
    let l = i.1 in
    let e = c.loop-i-test.false in
    subst (λ z. slice_index c.args.levels.now z < c.loop-i.level) i.2 (c.loop-i.invariant.0 i.0 (omega (arith, l, e)))
