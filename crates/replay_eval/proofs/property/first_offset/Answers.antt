use Rattle.std.proofs.Common.{◌∙◌, ℕ, sym, ap, arith, drop, true, false}
use Rattle.set_tree.specs.Formulas.{meaning_of}
use Rattle.replay_eval.proofs.Properties.{first_here, first_later, held_later}
use Rattle.replay_eval.proofs.property.first_offset.Goals as goal

pub returns-then-holds : goal.returns-then-holds
returns-then-holds c = sym (first_here (meaning_of c.args.set.now) c.args.formula.now c.args.rows.now c.loop-offset.offset c.args.span.now.high (omega arith)
    (held_later (meaning_of c.args.set.now) c.args.formula.now c.loop-offset.offset c.args.rows.now c.rows_from-later.result.now c.in_ok-holds.holds true (c.rows_from-later.ensures ∙ ap (λ (k : ℕ). drop k c.args.rows.now) c.from.ensures) c.in_ok-holds.ensures c.if-holds.true)) ∙ c.loop-offset.invariant

pub loop-offset-preserved : goal.loop-offset-preserved
loop-offset-preserved c = sym (first_later (meaning_of c.args.set.now) c.args.formula.now c.args.rows.now c.loop-offset.offset c.args.span.now.high (omega arith)
    (held_later (meaning_of c.args.set.now) c.args.formula.now c.loop-offset.offset c.args.rows.now c.rows_from-later.result.now c.in_ok-holds.holds false (c.rows_from-later.ensures ∙ ap (λ (k : ℕ). drop k c.args.rows.now) c.from.ensures) c.in_ok-holds.ensures c.if-holds.false)) ∙ c.loop-offset.invariant
