use Rattle.desk_core.specs.Steps.{SignsBlock}
use Rattle.desk_core.proofs.Telling.{quiet_of_found}
use Rattle.desk_core.proofs.signing.sign_off.Goals as goal

pub returns-in-Some-clause-step : goal.returns-in-Some-clause-step
returns-in-Some-clause-step g c =
    quiet_of_found (SignsBlock c.args.name.now) c.sign_block.result c.args.name.now c.in_ok-block.field-0 c.in-Some.block (g.K.Keeper.tables c.args.keeper.now) (g.K.Keeper.tables c.block.new.self)
    (g.K.Keeper.tables c.sign_block.new.keeper) c.in_ok-block.ensures.row c.block.ensures.same c.in-Some.is c.sign_block.ensures.step
