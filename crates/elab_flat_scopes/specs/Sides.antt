-- Which of a signal's declarations say that it is an input, an output or a register.
use Rattle.std.specs.Prelude.{◌≡◌, Bool, List, filter, map}
use Rattle.vlog_tree_runs.specs.Places.{Name}
use Rattle.vlog_tree_runs.specs.Contents.{Decl}
use Rattle.elab_flat_scopes.specs.declared.signal.Side.{Side}
use Rattle.elab_flat_scopes.specs.declared.signal.Side.TheVariants as w
use Rattle.elab_flat_scopes.specs.declared.signal.Sides.{Sides}
use Rattle.elab_flat_scopes.specs.Finding.{decl_name}

abbrev pub is_on : Side → Decl → Bool
is_on w.Input d = d.input
is_on w.Output d = d.output
is_on w.Register d = d.reg

-- the names of the declarations that say so
abbrev pub names_on : Side → List Decl → List Name
names_on side ds = map decl_name (filter (is_on side) ds)

pub record AreSides (ds : List Decl) (s : Sides) : Type 0 where
  pub inputs : s.inputs ≡ names_on w.Input ds
  pub outputs : s.outputs ≡ names_on w.Output ds
  pub registers : s.registers ≡ names_on w.Register ds
