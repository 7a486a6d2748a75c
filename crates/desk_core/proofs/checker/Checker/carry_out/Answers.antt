use Rattle.desk_core_commands.specs.declared.command.Command.TheVariants as command
use Rattle.std.proofs.Common.{ℕ, List, sym, ap, ap₂, ◌∙◌}
use Rattle.desk_core.proofs.Carrying.{carried}
use Rattle.desk_core.proofs.checker.Checker.carry_out.Goals as goal

pub returns-in-PutModule-clause-step : goal.returns-in-PutModule-clause-step
returns-in-PutModule-clause-step g c =
    carried c.args.self.now.prover.settings.budget c.args.self.now.prover.settings.workers c.args.command.now (command.PutModule c.bytes.result.now c.bytes-in-PutModule.result.now) c.put_module.result (g.K.Keeper.tables c.args.self.now.prover.keeper.now) (g.K.Keeper.tables c.put_module.new.keeper) _ c.args.self.now.book.now
    (c.in-PutModule.is ∙ ap₂ (λ (x y : List ℕ). command.PutModule x y) (sym c.bytes.ensures) (sym c.bytes-in-PutModule.ensures)) c.put_module.ensures.step

pub returns-in-PutSet-clause-step : goal.returns-in-PutSet-clause-step
returns-in-PutSet-clause-step g c =
    carried c.args.self.now.prover.settings.budget c.args.self.now.prover.settings.workers c.args.command.now (command.PutSet c.bytes-in-PutSet.result.now c.bytes-in-PutSet-2.result.now) c.put_set.result (g.K.Keeper.tables c.args.self.now.prover.keeper.now) (g.K.Keeper.tables c.put_set.new.keeper) _ c.args.self.now.book.now
    (c.in-PutSet.is ∙ ap₂ (λ (x y : List ℕ). command.PutSet x y) (sym c.bytes-in-PutSet.ensures) (sym c.bytes-in-PutSet-2.ensures)) c.put_set.ensures.step

pub returns-in-GetReport-clause-step : goal.returns-in-GetReport-clause-step
returns-in-GetReport-clause-step g c =
    carried c.args.self.now.prover.settings.budget c.args.self.now.prover.settings.workers c.args.command.now (command.GetReport c.bytes-in-GetReport.result.now) c.report_of_block.result (g.K.Keeper.tables c.args.self.now.prover.keeper.now) (g.K.Keeper.tables c.report_of_block.new.keeper) _ c.args.self.now.book.now
    (c.in-GetReport.is ∙ ap (λ (x : List ℕ). command.GetReport x) (sym c.bytes-in-GetReport.ensures)) c.report_of_block.ensures.step

pub returns-in-GetTrace-clause-step : goal.returns-in-GetTrace-clause-step
returns-in-GetTrace-clause-step g c =
    carried c.args.self.now.prover.settings.budget c.args.self.now.prover.settings.workers c.args.command.now (command.GetTrace c.bytes-in-GetTrace.result.now c.in-GetTrace.line) c.trace_of_block.result (g.K.Keeper.tables c.args.self.now.prover.keeper.now) (g.K.Keeper.tables c.trace_of_block.new.keeper) _ c.args.self.now.book.now
    (c.in-GetTrace.is ∙ ap (λ (x : List ℕ). command.GetTrace x c.in-GetTrace.line) (sym c.bytes-in-GetTrace.ensures)) c.trace_of_block.ensures.step

pub returns-in-SignOff-clause-step : goal.returns-in-SignOff-clause-step
returns-in-SignOff-clause-step g c =
    carried c.args.self.now.prover.settings.budget c.args.self.now.prover.settings.workers c.args.command.now (command.SignOff c.bytes-in-SignOff.result.now) c.sign_off.result (g.K.Keeper.tables c.args.self.now.prover.keeper.now) (g.K.Keeper.tables c.sign_off.new.keeper) _ c.args.self.now.book.now
    (c.in-SignOff.is ∙ ap (λ (x : List ℕ). command.SignOff x) (sym c.bytes-in-SignOff.ensures)) c.sign_off.ensures.step

pub returns-in-Blocks-clause-step : goal.returns-in-Blocks-clause-step
returns-in-Blocks-clause-step g c =
    carried c.args.self.now.prover.settings.budget c.args.self.now.prover.settings.workers c.args.command.now command.Blocks c.list_blocks.result (g.K.Keeper.tables c.args.self.now.prover.keeper.now) (g.K.Keeper.tables c.list_blocks.new.keeper) _ c.args.self.now.book.now
    c.in-Blocks.is c.list_blocks.ensures.step

pub returns-in-Signoffs-clause-step : goal.returns-in-Signoffs-clause-step
returns-in-Signoffs-clause-step g c =
    carried c.args.self.now.prover.settings.budget c.args.self.now.prover.settings.workers c.args.command.now command.Signoffs c.list_signs.result (g.K.Keeper.tables c.args.self.now.prover.keeper.now) (g.K.Keeper.tables c.list_signs.new.keeper) _ c.args.self.now.book.now
    c.in-Signoffs.is c.list_signs.ensures.step
