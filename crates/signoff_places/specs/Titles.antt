-- The names of what a set's positions stand for: no bytes where nothing stands.
use Rattle.std.specs.Prelude.{ℕ, ◌-◌, ◌==◌, ◌++◌, if◌then◌else◌, List, [], codes, slice_get}
use Rattle.std.specs.Option.{option_map_or}
use Rattle.set_tree.specs.declared.set.Name.{Name}
use Rattle.set_tree.specs.declared.set.Property.{Property}
use Rattle.set_tree.specs.declared.set.Rule.{Rule}
use Rattle.set_tree.specs.declared.set.Set.{Set}

abbrev pub name_of_property : Property → List ℕ
name_of_property p = p.name

abbrev pub name_of_rule : Rule → List ℕ
name_of_rule r = r.name

abbrev pub name_of_name : Name → List ℕ
name_of_name n = n.name

-- position 0 is the reset property's, which is called `reset`
abbrev pub property_name : Set → ℕ → List ℕ
property_name set at = if at == 0 then codes "reset" else option_map_or name_of_property (slice_get set.operations (at - 1)) []

-- how a sentence names the property
abbrev pub title_of : Set → ℕ → List ℕ
title_of set at = (if at == 0 then codes "property " else codes "operation ") ++ property_name set at

abbrev pub invariant_name : Set → ℕ → List ℕ
invariant_name set at = option_map_or name_of_rule (slice_get set.invariants at) []

abbrev pub declared_name : Set → ℕ → List ℕ
declared_name set at = option_map_or name_of_name (slice_get set.names at) []
