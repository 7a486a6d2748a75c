use Rattle.std.specs.Option.{option_copied}
use Rattle.set_read_lookup.proofs.Searches.{undeclared_stands, uncovered_stands, unknown_all, none_copied}
use Rattle.set_read_lookup.proofs.unknown.unknown_of.Goals as goal

pub returns-in-Some : goal.returns-in-Some
returns-in-Some c = undeclared_stands c.args.text.now c.as_slice.result c.in-Some.name.now c.as_slice.ensures c.in-Some.ensures

pub returns-in-Some-uncovered : goal.returns-in-Some-uncovered
returns-in-Some-uncovered c = uncovered_stands c.args.text.now c.in-Some-uncovered.name.now c.in-Some-uncovered.ensures

pub returns : goal.returns
returns c =
    unknown_all c.args.text.now c.as_slice.result c.as_slice.ensures (none_copied c.in_text.result _ c.in_text.ensures c.in_default.not-Some)
    (none_copied c.uncovered.result _ c.uncovered.ensures c.in_default-uncovered.not-Some) (option_copied c.nowhere.result) c.nowhere.ensures
