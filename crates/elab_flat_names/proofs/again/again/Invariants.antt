use Rattle.std.proofs.Common.{◌≡◌, ◌++◌, [], List, drop, map}
use Rattle.std.specs.Borrow.{Bor}
use Rattle.std.specs.HashSet.{contains}
use Rattle.std.specs.Str.{bytes_eq}
use Rattle.vlog_tree_runs.specs.Places.{Name}
use Rattle.vlog_tree_runs.specs.Contents.{is_among}
use Rattle.elab_flat_scopes.specs.Borrowed.{decl_meant}
use Rattle.elab_flat_names.specs.Rows.{again}
use Rattle.elab_flat_names.proofs.again.again.Given as goal

abbrev pub invariant-loop-decl : goal.invariant-loop-decl
invariant-loop-decl l =
    (before : List Name) × ((q : Bor Name) → contains (λ a b. bytes_eq a.now b.now) l.done q ≡ is_among before q.now)
    × (map decl_meant l.all.items ++ again before (map decl_meant (drop l.decl-index l.decls)) ≡ again [] (map decl_meant l.decls))
