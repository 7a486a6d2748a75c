-- The segments of a design as nodes.
use Rattle.std.specs.Prelude.{◌≡◌, ℕ, ℤ, ◌<◌, List, length}
use Rattle.set_tree.specs.declared.set.Set.{Set}
use Rattle.set_tree.specs.Parts.{IsPosition, window_of}
use Rattle.vlog_tree_runs.specs.Places.{Among}
use Rattle.word_dag.specs.declared.node.Node.{Node}
use Rattle.word_dag.specs.declared.node.Node.TheVariants.{Free}
use Rattle.elab_step_design.specs.declared.design.Net.{Net}
use Rattle.elab_step_design.specs.Designs.{Parts, sources}
use Rattle.unroll_laws.specs.Tests.{rows_from}
use Rattle.twin_tests.specs.Building.{Shows}
use Rattle.unroll.specs.declared.segment.Segments.{Segments}

-- a node is the free word of a register or an input in some cycle
abbrev pub IsSourceWord : Parts → Node → Type 0
IsSourceWord d n = (s : Net) × (t : ℤ) × Among (sources d) s × (n ≡ Free s.name s.width 0 t)

-- the rows of both kinds of segments, which reach as far as any line of the design does
pub record AreSegments (d : Parts) (set : Set) (nodes : List Node) (segments : Segments) : Type 0 where
  pub after_reset : Shows set.names nodes segments.after_reset.items (λ e. rows_from d set set.cycles e set.cycles (length segments.after_reset.items))
  pub plain : Shows set.names nodes segments.plain.items (λ e. rows_from d set 0 e 0 (length segments.plain.items))
  pub reset_reach : window_of set 0 < length segments.after_reset.items
  pub step_reach : 1 < length segments.plain.items
  pub plain_reach : (p : ℕ) → IsPosition set p → window_of set p < length segments.plain.items
