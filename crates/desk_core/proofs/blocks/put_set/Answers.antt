use Rattle.desk_core_stages.specs.Texts.{RefusesSet}
use Rattle.desk_core.specs.Steps.{PutsSet}
use Rattle.desk_core.proofs.Refusing.{refused_quietly}
use Rattle.desk_core.proofs.blocks.put_set.Goals as goal

pub returns-in-Err-clause-step : goal.returns-in-Err-clause-step
returns-in-Err-clause-step g c =
    refused_quietly (RefusesSet c.args.text.now) (PutsSet c.args.name.now c.args.text.now) (λ line d e r s. (r, s)) c.in-Err.fault c.in-Err.ensures.err c.refused_by.result c.refused_by.ensures.line
    (g.K.Keeper.tables c.args.keeper.now)
