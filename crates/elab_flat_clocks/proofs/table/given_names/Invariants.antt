use Rattle.std.proofs.Common.{◌≡◌, ◌++◌, drop, map}
use Rattle.elab_flat_scopes.specs.Borrowed.{name_meant, given_meant}
use Rattle.elab_flat_params.specs.Parameters.{given_name}
use Rattle.elab_flat_clocks.proofs.table.given_names.Given as goal

abbrev pub invariant-loop-gift : goal.invariant-loop-gift
invariant-loop-gift l = map name_meant l.all.items ++ map given_name (map given_meant (drop l.gift-index l.given)) ≡ map given_name (map given_meant l.given)
