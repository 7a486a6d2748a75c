-- The segments of a design as nodes, as far as the largest window.
use Rattle.std.specs.Prelude.{List}
use Rattle.set_tree.specs.declared.set.Set.{Set}
use Rattle.set_tree.specs.Parts.{largest_window}
use Rattle.word_dag.specs.declared.node.Node.{Node}
use Rattle.elab_step_design.specs.Designs.{Parts}
use Rattle.unroll_laws.specs.Tests.{segment_rows}
use Rattle.twin_tests.specs.Building.{Shows}
use Rattle.meet_lines.specs.declared.segments.Segments.{Segments}

-- the rows of both kinds of segments
pub record AreSegments (d : Parts) (set : Set) (nodes : List Node) (segments : Segments) : Type 0 where
  pub after_reset : Shows set.names nodes segments.after_reset.items (λ e. segment_rows d set set.cycles e (largest_window set))
  pub plain : Shows set.names nodes segments.plain.items (λ e. segment_rows d set 0 e (largest_window set))
