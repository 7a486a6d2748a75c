use Rattle.std.proofs.Common.{sym, ◌∙◌}
use Rattle.set_read_lookup.proofs.Searches.{signal_stands, property_stands, twice_ok, none_is}
use Rattle.set_read_lookup.proofs.twice.twice_of.Goals as goal

pub returns-in-Some : goal.returns-in-Some
returns-in-Some c = signal_stands c.args.text.now c.in-Some.name (sym c.in-Some.is ∙ c.in_ok-name.ensures)

pub returns-in-Some-2 : goal.returns-in-Some-2
returns-in-Some-2 c = property_stands c.args.text.now c.in-Some-2.name (sym c.in-Some-2.is ∙ c.in_ok-name-2.ensures)

pub returns : goal.returns
returns c =
    twice_ok c.args.text.now (none_is c.in_ok-name.field-0 _ c.in_ok-name.ensures c.in_default.not-Some) (none_is c.in_ok-name-2.field-0 _ c.in_ok-name-2.ensures c.in_default-2.not-Some)
    c.successor_twice.result c.successor_twice.ensures
