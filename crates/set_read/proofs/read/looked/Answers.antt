use Rattle.std.proofs.Common.{sym, subst}
use Rattle.set_read.specs.Read.{NamesByte, RefusesTokens}
use Rattle.set_read.proofs.SmallNumbers.{text_small}
use Rattle.set_read.proofs.Answers.{wrong_names, wrong_refuses}
use Rattle.set_read.proofs.read.looked.Goals as goal

pub look_up-requires : goal.look_up-requires
look_up-requires c = text_small c.args.tokens.now c.requires.digits c.args.text c.requires.spelt

pub returns-in-Ok-clause-ok : goal.returns-in-Ok-clause-ok
returns-in-Ok-clause-ok c = record {
  spelling = c.args.text;
  spelt = c.requires.spelt;
  low = c.requires.low;
  valid = c.in-Ok.ensures.valid;
  means = c.in-Ok.ensures.means;
}

pub returns-in-Err-clause-err : goal.returns-in-Err-clause-err
returns-in-Err-clause-err c =
    subst (RefusesTokens c.args.tokens.now) (sym c.of_wrong.ensures) (wrong_refuses c.args.tokens.now c.args.text c.requires.spelt c.requires.low c.in-Err.wrong c.in-Err.ensures.err)

pub returns-in-Err-clause-within : goal.returns-in-Err-clause-within
returns-in-Err-clause-within c = λ size. subst (NamesByte size) (sym c.of_wrong.ensures) (wrong_names size c.in-Err.wrong)
