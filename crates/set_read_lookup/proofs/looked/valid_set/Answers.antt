use Rattle.std.proofs.Common.{arith, subst}
use Rattle.std.specs.Option.{MatchOption}
use Rattle.set_read_lookup.specs.Meaning.{Means, MeansNothing}
use Rattle.set_read_lookup.proofs.Meant.{few_cycles, few_names, few_operations, meant, none_leaves}
use Rattle.set_read_lookup.proofs.looked.valid_set.Goals as goal

pub set_of-requires-clause-cycles : goal.set_of-requires-clause-cycles
set_of-requires-clause-cycles c = let v = c.requires.valid in omega (arith, few_cycles c.args.text (none_leaves c.args.text v))

pub set_of-requires-clause-declarations : goal.set_of-requires-clause-declarations
set_of-requires-clause-declarations c = let v = c.requires.valid in omega (arith, few_names c.args.text (none_leaves c.args.text v))

pub set_of-requires-clause-operations : goal.set_of-requires-clause-operations
set_of-requires-clause-operations c = let v = c.requires.valid in omega (arith, few_operations c.args.text (none_leaves c.args.text v))

pub unreachable-requires : goal.unreachable-requires
unreachable-requires c =
    meant c.args.text c.requires.valid c.requires.numbers (subst (λ o. MatchOption o (MeansNothing c.args.text) (Means c.args.text)) c.in-None.is c.in_ok-set.ensures)
