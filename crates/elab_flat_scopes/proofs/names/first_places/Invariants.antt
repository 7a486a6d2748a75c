use Rattle.std.proofs.Common.{◌≡◌, drop, map}
use Rattle.std.specs.Borrow.{Bor}
use Rattle.std.specs.HashMap.{get}
use Rattle.std.specs.Option.{option_or}
use Rattle.std.specs.Str.{bytes_eq}
use Rattle.vlog_tree_runs.specs.Places.{Name}
use Rattle.elab_flat_scopes.specs.Borrowed.{name_meant}
use Rattle.elab_flat_scopes.specs.Finding.{place_from, place_in}
use Rattle.elab_flat_scopes.proofs.names.first_places.Given as goal

abbrev pub invariant-loop-name : goal.invariant-loop-name
invariant-loop-name l = record {
  found : (q : Bor Name) → option_or (get (λ a b. bytes_eq a.now b.now) l.first q) (place_from l.at (map name_meant (drop l.name-index l.names)) q.now) ≡ place_in (map name_meant l.names) q.now;
  same : l.at ≡ l.name-index;
}
