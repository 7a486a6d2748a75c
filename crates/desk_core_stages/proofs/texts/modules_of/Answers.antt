use Rattle.desk_core_stage_laws.proofs.Reading.{texts_plain}
use Rattle.desk_core_stages.proofs.texts.modules_of.Goals as goal

pub returns-in-Ok-clause-plain : goal.returns-in-Ok-clause-plain
returns-in-Ok-clause-plain c = texts_plain c.args.text.now c.in-Ok.modules.items c.in-Ok.ensures.ok
