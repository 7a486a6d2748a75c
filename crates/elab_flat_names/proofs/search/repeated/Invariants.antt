use Rattle.std.proofs.Common.{◌≡◌, List, drop, map}
use Rattle.std.specs.Borrow.{Bor}
use Rattle.std.specs.HashSet.{contains}
use Rattle.std.specs.Str.{bytes_eq}
use Rattle.vlog_tree_runs.specs.Places.{Name}
use Rattle.vlog_tree_runs.specs.Contents.{is_among}
use Rattle.elab_flat_faults.specs.Declaring.{Repeats}
use Rattle.elab_flat_scopes.specs.Borrowed.{name_meant}
use Rattle.elab_flat_names.proofs.Searches.{Again}
use Rattle.elab_flat_names.proofs.search.repeated.Given as goal

abbrev pub invariant-loop-name : goal.invariant-loop-name
invariant-loop-name l =
    (before : List Name) × ((q : Bor Name) → contains (λ a b. bytes_eq a.now b.now) l.done q ≡ is_among before q.now)
    × ((x : Name) → Repeats (map name_meant l.names) x → Again before (map name_meant (drop l.name-index l.names)) x)
    × ((x : Name) → Again before (map name_meant (drop l.name-index l.names)) x → Repeats (map name_meant l.names) x)
