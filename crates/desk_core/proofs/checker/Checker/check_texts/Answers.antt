use Rattle.std.proofs.Common.{Some, List, ℕ, map, sym, subst, ap, ◌∙◌}
use Rattle.desk_core_goals.specs.Settled.{AreSettled}
use Rattle.proof_store.proofs.Turns.{proceeds_on}
use Rattle.desk_core.proofs.Checked.{left_after, left_then, refuses_texts, reports}
use Rattle.desk_core.proofs.checker.Checker.check_texts.Goals as goal

pub returns-in-Ok-clause-step : goal.returns-in-Ok-clause-step
returns-in-Ok-clause-step g c =
    reports c.args.self.now.prover.settings.budget c.args.self.now.prover.settings.workers c.args.name.now c.args.block c.bytes.result.now c.bytes-2.result.now
    (c.in-Some.is ∙ ap (λ (x : List ℕ). Some x) (sym c.bytes.ensures)) (c.in-Some-set.is ∙ ap (λ (x : List ℕ). Some x) (sym c.bytes-2.ensures))
    c.put_checked.result c.in-Ok.report c.args.self.now.book.now c.check.new.self.book.now c.put_checked.new.self.book.now _ _ (g.K.Keeper.tables c.args.self.now.prover.keeper.now) (g.K.Keeper.tables c.check.new.self.prover.keeper.now) (g.K.Keeper.tables c.put_checked.new.self.prover.keeper.now)
    c.in-Ok.ensures.report (subst (λ (xs : List ℕ). AreSettled c.args.self.now.prover.settings.workers c.check.new.self.book.now (g.K.Keeper.tables c.args.self.now.prover.keeper.now) (g.K.Keeper.tables c.check.new.self.prover.keeper.now) (map g.H.Helper.asked c.args.self.now.prover.helpers.now.items) xs) (sym c.put_checked.ensures.asked) c.in-Ok.ensures.settled)
    c.put_checked.ensures.answer c.put_checked.ensures.ok c.put_checked.ensures.book

pub returns-in-Ok-clause-left : goal.returns-in-Ok-clause-left
returns-in-Ok-clause-left g c =
    left_after c.args.self.now.prover.settings.budget c.args.self.now.prover.settings.workers c.args.name.now c.args.block c.bytes.result.now c.bytes-2.result.now
    (c.in-Some.is ∙ ap (λ (x : List ℕ). Some x) (sym c.bytes.ensures)) (c.in-Some-set.is ∙ ap (λ (x : List ℕ). Some x) (sym c.bytes-2.ensures))
    c.put_checked.result (g.K.Keeper.tables c.args.self.now.prover.keeper.now) (g.K.Keeper.tables c.check.new.self.prover.keeper.now) (g.K.Keeper.tables c.put_checked.new.self.prover.keeper.now) c.check.ensures.left c.put_checked.ensures.err

pub returns-in-Ok-clause-proceeds : goal.returns-in-Ok-clause-proceeds
returns-in-Ok-clause-proceeds g c = proceeds_on _ _ _ _ _ c.check.ensures.proceeds c.put_checked.ensures.proceeds

pub returns-in-Err-clause-step : goal.returns-in-Err-clause-step
returns-in-Err-clause-step g c =
    refuses_texts c.args.self.now.prover.settings.budget c.args.self.now.prover.settings.workers c.args.name.now c.args.block c.bytes.result.now c.bytes-2.result.now
    (c.in-Some.is ∙ ap (λ (x : List ℕ). Some x) (sym c.bytes.ensures)) (c.in-Some-set.is ∙ ap (λ (x : List ℕ). Some x) (sym c.bytes-2.ensures))
    c.refused_by.result c.in-Err.fault c.in-Err.ensures.refuses c.refused_by.ensures.line _ _ c.args.self.now.book.now c.check.new.self.book.now c.in-Err.ensures.empty
    (g.K.Keeper.tables c.args.self.now.prover.keeper.now) (g.K.Keeper.tables c.check.new.self.prover.keeper.now) c.in-Err.ensures.left

pub returns-in-Err-clause-left : goal.returns-in-Err-clause-left
returns-in-Err-clause-left g c =
    left_then c.args.self.now.prover.settings.budget c.args.self.now.prover.settings.workers c.args.name.now c.args.block c.bytes.result.now c.bytes-2.result.now
    (c.in-Some.is ∙ ap (λ (x : List ℕ). Some x) (sym c.bytes.ensures)) (c.in-Some-set.is ∙ ap (λ (x : List ℕ). Some x) (sym c.bytes-2.ensures))
    c.refused_by.result (g.K.Keeper.tables c.args.self.now.prover.keeper.now) (g.K.Keeper.tables c.check.new.self.prover.keeper.now) c.in-Err.ensures.left
