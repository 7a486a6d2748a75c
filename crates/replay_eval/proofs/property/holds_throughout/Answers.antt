use Rattle.std.proofs.Common.{◌≡◌, ◌-◌, ◌<◌, ℕ, length, true, false, arith, drop}
use Rattle.set_tree.specs.Formulas.{meaning_of, largest_offset}
use Rattle.set_tree.specs.Meaning.{holds}
use Rattle.replay_eval.proofs.Properties.{below_breaks, below_next, held_later}
use Rattle.replay_eval.proofs.property.holds_throughout.Goals as goal

pub returns-then-not-holds : goal.returns-then-not-holds
returns-then-not-holds c =
    let fails : c.in_ok-holds.holds ≡ false = cc in
    let lt : c.loop-t.t < length c.args.rows.now - largest_offset c.args.formula.now = omega (arith, c.saturating_sub-count.ensures, c.largest.ensures) in
    below_breaks (length c.args.rows.now - largest_offset c.args.formula.now) (λ (t : ℕ). holds (meaning_of c.args.set.now) c.args.formula.now (drop t c.args.rows.now)) c.loop-t.t lt
    (held_later (meaning_of c.args.set.now) c.args.formula.now c.loop-t.t c.args.rows.now c.rows_from-later.result.now c.in_ok-holds.holds false c.rows_from-later.ensures c.in_ok-holds.ensures fails)

pub loop-t-preserved : goal.loop-t-preserved
loop-t-preserved c =
    let met : c.in_ok-holds.holds ≡ true = cc in
    below_next c.loop-t.t (λ (t : ℕ). holds (meaning_of c.args.set.now) c.args.formula.now (drop t c.args.rows.now)) c.loop-t.invariant
    (held_later (meaning_of c.args.set.now) c.args.formula.now c.loop-t.t c.args.rows.now c.rows_from-later.result.now c.in_ok-holds.holds true c.rows_from-later.ensures c.in_ok-holds.ensures met)
