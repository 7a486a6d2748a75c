use Rattle.std.proofs.Common.{◌≡◌, drop}
use Rattle.std.specs.List.{find, flat_map}
use Rattle.std.specs.Option.{option_to_list}
use Rattle.set_read_lookup.specs.Faults.{names_in, is_wanted}
use Rattle.set_read_lookup.proofs.unknown.in_domains.Given as goal

abbrev pub invariant-loop-declaration : goal.invariant-loop-declaration
invariant-loop-declaration l = find (is_wanted l.wanted) (flat_map (λ d. flat_map names_in (option_to_list d.domain)) (drop l.declaration-index l.declarations)) ≡ find (is_wanted l.wanted) (flat_map (λ d. flat_map names_in (option_to_list d.domain)) l.declarations)
