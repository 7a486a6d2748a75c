use Rattle.std.specs.List.{flat_map}
use Rattle.std.specs.Option.{option_to_list}
use Rattle.set_read_lookup.specs.Faults.{names_in, is_wanted}
use Rattle.set_read_lookup.proofs.Searches.{passes_at, stops_at}
use Rattle.set_read_lookup.proofs.unknown.in_domains.Goals as goal

pub returns-in-Some : goal.returns-in-Some
returns-in-Some c =
    stops_at (λ d. flat_map names_in (option_to_list d.domain)) (is_wanted c.args.wanted.now) c.args.declarations.now c.loop-declaration.declaration-index c.declaration-item.result c.loop-declaration-test.true c.declaration-item.is _ c.in-Some.name.now
    c.loop-declaration.invariant c.in-Some.ensures

pub loop-declaration-preserved : goal.loop-declaration-preserved
loop-declaration-preserved c =
    passes_at (λ d. flat_map names_in (option_to_list d.domain)) (is_wanted c.args.wanted.now) c.args.declarations.now c.loop-declaration.declaration-index c.declaration-item.result c.loop-declaration-test.true c.declaration-item.is _ c.in_option.result
    c.loop-declaration.invariant c.in_option.ensures c.in_default.not-Some
