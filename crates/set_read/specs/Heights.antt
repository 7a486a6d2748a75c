-- The heights of a set's text: the set is a node, and so is each of its declarations, rules and properties.
use Rattle.std.specs.Prelude.{ℕ, ◌+◌, max}
use Rattle.vlog_tree.specs.Lists.{highest, highest_of}
use Rattle.vlog_tree.specs.Spelling.{height}
use Rattle.set_tree.specs.declared.text.Declaration.{Declaration}
use Rattle.set_tree.specs.declared.text.LengthText.{LengthText}
use Rattle.set_tree.specs.declared.text.PropertyText.{PropertyText}
use Rattle.set_tree.specs.declared.text.RuleText.{RuleText}
use Rattle.set_tree.specs.declared.text.SetText.{SetText}
use Rattle.set_tree.specs.declared.text.Until.{Until}

abbrev pub declaration_height : Declaration → ℕ
declaration_height x = highest_of height x.domain + 1

abbrev pub rule_height : RuleText → ℕ
rule_height x = height x.formula + 1

abbrev pub until_height : Until → ℕ
until_height x = height x.condition

abbrev pub length_height : LengthText → ℕ
length_height x = highest_of until_height x.until

abbrev pub property_height : PropertyText → ℕ
property_height x = max (length_height x.length) (max (highest height x.assume) (max (highest height x.commit) (highest height x.hand))) + 1

abbrev pub set_height : SetText → ℕ
set_height x = max (highest declaration_height x.declarations) (max (highest rule_height x.rules) (max (property_height x.first) (highest property_height x.operations))) + 1
