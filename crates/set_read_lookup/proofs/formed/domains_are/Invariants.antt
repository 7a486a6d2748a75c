use Rattle.std.proofs.Common.{drop}
use Rattle.std.specs.List.{flat_map}
use Rattle.std.specs.Option.{option_to_list}
use Rattle.set_read_lookup.specs.Tests.{IsPresent}
use Rattle.set_read_lookup.proofs.Judged.{Decides}
use Rattle.set_read_lookup.proofs.formed.domains_are.Given as goal

abbrev pub invariant-loop-declaration : goal.invariant-loop-declaration
invariant-loop-declaration l = Decides (IsPresent l.valuation) (flat_map (λ d. option_to_list d.domain) (drop l.declaration-index l.declarations)) (flat_map (λ d. option_to_list d.domain) l.declarations)
