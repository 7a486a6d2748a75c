use Rattle.set_read.proofs.Answers.{text_refuses}
use Rattle.set_read.proofs.read.of_list.Goals as goal

pub returns-in-Err-clause-err : goal.returns-in-Err-clause-err
returns-in-Err-clause-err c = c.of_text.ensures.refused c.args.tokens.now (text_refuses c.args.tokens.now c.in-Err.fault c.in-Err.ensures.only c.in-Err.ensures.long)

pub returns-in-Err-clause-within : goal.returns-in-Err-clause-within
returns-in-Err-clause-within c = c.of_text.ensures.within

pub returns-in-Ok-clause-within : goal.returns-in-Ok-clause-within
returns-in-Ok-clause-within c = λ size placed. c.looked.ensures.within size
