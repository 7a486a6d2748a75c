-- The first place of a name in a list of names.
use Rattle.std.specs.Prelude.{ℕ, suc, List, [], ◌∷◌, Option, Some, None, if◌then◌else◌}
use Rattle.std.specs.Str.{bytes_eq}
use Rattle.vlog_tree.specs.declared.module.Module.{Module}
use Rattle.vlog_tree_runs.specs.Places.{Name}
use Rattle.vlog_tree_runs.specs.Contents.{Decl}

-- places are counted from i on
abbrev pub place_from : ℕ → List Name → Name → Option ℕ
place_from i [] x = None
place_from i (y ∷ ys) x = if bytes_eq y x then Some i else place_from (suc i) ys x

abbrev pub place_in : List Name → Name → Option ℕ
place_in ys x = place_from 0 ys x

abbrev pub module_name : Module → Name
module_name m = m.name

abbrev pub decl_name : Decl → Name
decl_name d = d.name
