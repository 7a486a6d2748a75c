use Rattle.std.proofs.Common.{◌≡◌, List, drop, map}
use Rattle.std.specs.Borrow.{Bor}
use Rattle.std.specs.HashSet.{contains}
use Rattle.std.specs.Str.{bytes_eq}
use Rattle.vlog_tree_runs.specs.Places.{Name}
use Rattle.vlog_tree_runs.specs.Contents.{is_among}
use Rattle.elab_flat_faults.specs.Declaring.{Repeats}
use Rattle.elab_flat_scopes.specs.Finding.{module_name}
use Rattle.elab_flat_names.proofs.Searches.{Again}
use Rattle.elab_flat.proofs.module.named_twice.Given as goal

abbrev pub invariant-loop-text : goal.invariant-loop-text
invariant-loop-text l =
    (before : List Name) × ((q : Bor Name) → contains (λ a b. bytes_eq a.now b.now) l.done q ≡ is_among before q.now)
    × ((x : Name) → Repeats (map module_name l.modules) x → Again before (map module_name (drop l.text-index l.modules)) x)
    × ((x : Name) → Again before (map module_name (drop l.text-index l.modules)) x → Repeats (map module_name l.modules) x)
