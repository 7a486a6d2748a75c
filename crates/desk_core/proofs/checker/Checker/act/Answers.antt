use Rattle.desk_core.proofs.Carrying.{answer_keeps, fault_keeps}
use Rattle.desk_core.proofs.checker.Checker.act.Goals as goal

pub returns-in-Ok-clause-desk : goal.returns-in-Ok-clause-desk
returns-in-Ok-clause-desk g c =
    answer_keeps c.args.self.now.prover.settings.budget c.args.self.now.prover.settings.workers c.args.command.now c.in-Ok.answer (g.K.Keeper.tables c.args.self.now.prover.keeper.now) (g.K.Keeper.tables c.carry_out.new.self.prover.keeper.now) _ _ c.args.self.now.book.now c.carry_out.new.self.book.now c.in-Ok.ensures.step

pub returns-in-Err-Keeper-clause-desk : goal.returns-in-Err-Keeper-clause-desk
returns-in-Err-Keeper-clause-desk g c = fault_keeps c.args.command.now (g.K.Keeper.tables c.args.self.now.prover.keeper.now) (g.K.Keeper.tables c.carry_out.new.self.prover.keeper.now) c.in-Err-Keeper.ensures.left

pub returns-in-Err-Memory-clause-desk : goal.returns-in-Err-Memory-clause-desk
returns-in-Err-Memory-clause-desk g c = fault_keeps c.args.command.now (g.K.Keeper.tables c.args.self.now.prover.keeper.now) (g.K.Keeper.tables c.carry_out.new.self.prover.keeper.now) c.in-Err-Memory.ensures.left
