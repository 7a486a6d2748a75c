use Rattle.signoff_call.proofs.Answering.{read_left, texts_answered}
use Rattle.signoff_call.proofs.run.job_answer.Goals as goal

pub returns-in-All-clause-answer : goal.returns-in-All-clause-answer
returns-in-All-clause-answer g c = texts_answered c.judged.result c.args.job.now c.args.read.now _ _ _ c.in-All.is c.judged.ensures.answer

pub returns-in-All-clause-left : goal.returns-in-All-clause-left
returns-in-All-clause-left g c = read_left c.args.job.now c.args.read.now _ _ _ c.in-All.is c.judged.ensures.left
