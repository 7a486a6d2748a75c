use Rattle.vlog_read.proofs.read.modules_of.Goals as goal

pub returns-in-Err-clause-err : goal.returns-in-Err-clause-err
returns-in-Err-clause-err c = c.by_bytes.ensures.refused c.args.tokens.now c.in-Err.ensures.err

pub returns-in-Err-clause-within : goal.returns-in-Err-clause-within
returns-in-Err-clause-within c = λ size placed. c.by_bytes.ensures.within c.args.tokens.now size c.in-Err.ensures.err placed
