use Rattle.signoff_call.proofs.Answering.{meet_answered, task_answered}
use Rattle.signoff_call.proofs.texts.judged.Goals as goal

pub returns-in-Decide-clause-answer : goal.returns-in-Decide-clause-answer
returns-in-Decide-clause-answer g c = task_answered c.decided.result c.args.job.now.task _ _ _ _ _ _ _ _ c.in-Decide.is c.decided.ensures.answer

pub returns-in-Meet-clause-answer : goal.returns-in-Meet-clause-answer
returns-in-Meet-clause-answer g c = meet_answered c.met_in.result c.args.job.now.task c.in-Meet.name _ _ _ _ _ _ _ _ c.in-Meet.is c.as_ref.ensures.value c.met_in.ensures.answer
