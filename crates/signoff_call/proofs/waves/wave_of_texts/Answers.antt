use Rattle.desk_core_commands.specs.declared.which.Which.TheVariants as w
use Rattle.desk_core.specs.Checks.{AreObsOfTexts, Refuses}
use Rattle.desk_core.proofs.Reporting.{stage_refuses}
use Rattle.signoff_call.proofs.Answering.{adds_none, turned_answered}
use Rattle.signoff_call.proofs.Walking.{bound_as, refuses_as, wave_answered}
use Rattle.signoff_call.proofs.waves.wave_of_texts.Goals as goal

pub returns-in-Ok-clause-answer : goal.returns-in-Ok-clause-answer
returns-in-Ok-clause-answer g c =
    let m = c.args.module.now in
    let s = c.args.set.now in
    let from = bound_as c.bytes.result.now m c.bytes-2.result.now s c.in-Ok.bound c.bytes.ensures c.bytes-2.ensures c.in-Ok.ensures.ok in
    wave_answered m s c.in-Ok.bound from _ _ _ _ c.wave_shown-answer.result c.args.name.now c.wave_shown-answer.ensures.answer

pub returns-in-Err-clause-answer : goal.returns-in-Err-clause-answer
returns-in-Err-clause-answer g c =
    let m = c.args.module.now in
    let s = c.args.set.now in
    let refuses = refuses_as c.bytes.result.now m c.bytes-2.result.now s c.in-Err.fault c.bytes.ensures c.bytes-2.ensures c.in-Err.ensures.err in
    turned_answered c.turned_down.result (Refuses m s (w.One c.args.name.now)) (AreObsOfTexts m s (w.One c.args.name.now)) _ c.args.checker.now.book.now _ c.in-Err.fault (stage_refuses m s (w.One c.args.name.now) c.in-Err.fault refuses) c.requires.empty (adds_none _ _)
    c.turned_down.ensures.memory c.turned_down.ensures.line
