use Rattle.twin_tests.proofs.Undivided.{undivided}
use Rattle.replay_eval.proofs.formula.formula_value.Goals as goal

pub own_number-requires-clause-defined : goal.own_number-requires-clause-defined
own_number-requires-clause-defined c = undivided c.in_ok-entries.entries c.args.formula.now _ _ c.requires.readable.formed.undivided
