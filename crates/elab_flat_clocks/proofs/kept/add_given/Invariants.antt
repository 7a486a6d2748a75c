use Rattle.std.proofs.Common.{◌≡◌, ◌++◌, drop, map}
use Rattle.std.specs.List.{flat_map}
use Rattle.elab_flat_scopes.specs.Borrowed.{given_meant}
use Rattle.elab_flat_instances.specs.Unfolding.{scope_meant}
use Rattle.elab_flat_names.specs.Exprs.{expr_meant}
use Rattle.elab_flat_clocks.specs.Passing.{kept_given}
use Rattle.elab_flat_clocks.proofs.kept.add_given.Given as goal

abbrev pub invariant-loop-gift : goal.invariant-loop-gift
invariant-loop-gift l =
    map expr_meant l.all.items ++ flat_map (kept_given (scope_meant l.scope)) (map given_meant (drop l.gift-index l.given))
    ≡ map expr_meant l.initial.all.items ++ flat_map (kept_given (scope_meant l.scope)) (map given_meant l.given)
