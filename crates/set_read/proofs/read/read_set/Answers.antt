use Rattle.std.proofs.Common.{length, sym, subst, true}
use Rattle.vlog_read_lex.specs.Tokens.{Lexes, LieWithin}
use Rattle.set_read.specs.Read.{NamesByte, Refuses}
use Rattle.set_read.proofs.PlainNumbers.{small_at}
use Rattle.set_read.proofs.Answers.{lex_names, lex_refuses, tokens_err}
use Rattle.set_read.proofs.Formed.{result_formed}
use Rattle.set_read.proofs.read.read_set.Goals as goal

pub of_list-requires : goal.of_list-requires
of_list-requires c = small_at true c.args.bytes.now c.deref.result.now (subst (Lexes true c.args.bytes.now) (sym c.deref.ensures.value) c.in-Ok.ensures.ok)

pub returns-in-Err-clause-err : goal.returns-in-Err-clause-err
returns-in-Err-clause-err c =
    subst (Refuses c.args.bytes.now) (sym c.of_tokens.ensures) (lex_refuses c.args.bytes.now c.in-Err.fault c.in-Err.ensures.err)

pub returns-in-Ok-clause-err : goal.returns-in-Ok-clause-err
returns-in-Ok-clause-err c =
    tokens_err c.args.bytes.now c.deref.result.now (subst (Lexes true c.args.bytes.now) (sym c.deref.ensures.value) c.in-Ok.ensures.ok) c.of_list.result c.of_list.ensures.err

pub returns-in-Ok-clause-formed : goal.returns-in-Ok-clause-formed
returns-in-Ok-clause-formed c = result_formed c.deref.result.now c.of_list.result c.of_list.ensures.ok

pub returns-in-Err-clause-within : goal.returns-in-Err-clause-within
returns-in-Err-clause-within c =
    subst (NamesByte (length c.args.bytes.now)) (sym c.of_tokens.ensures) (lex_names (length c.args.bytes.now) c.in-Err.fault c.in-Err.ensures.within)

pub returns-in-Ok-clause-within : goal.returns-in-Ok-clause-within
returns-in-Ok-clause-within c =
    c.of_list.ensures.within (length c.args.bytes.now) (subst (LieWithin (length c.args.bytes.now)) (sym c.deref.ensures.value) c.in-Ok.ensures.placed)
