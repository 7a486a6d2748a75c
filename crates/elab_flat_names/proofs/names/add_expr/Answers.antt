use Rattle.std.proofs.Common.{◌++◌, map, refl, ap, ◌∙◌}
use Rattle.std.specs.List.{flat_map}
use Rattle.vlog_tree_runs.specs.Blocks.{left_names}
use Rattle.elab_flat_scopes.specs.Borrowed.{name_meant}
use Rattle.elab_flat_drivers.specs.Parts.{part_meant}
use Rattle.elab_flat_names.proofs.Reading.{reads_names}
use Rattle.elab_flat_drivers.proofs.Growing.{ended}
use Rattle.elab_flat_names.proofs.names.add_expr.Goals as goal

pub returns : goal.returns
returns c =
    ended (λ xs. flat_map left_names (map part_meant xs)) c.deref-part-items.result.now c.loop-part.part-index (map name_meant c.loop-part.all.items) (map name_meant c.args.all.now.items) (flat_map left_names (map part_meant c.deref-part-items.result.now)) refl c.loop-part-test.false c.loop-part.invariant
    ∙ ap (λ z. map name_meant c.args.all.now.items ++ z) (ap (λ xs. flat_map left_names (map part_meant xs)) c.deref-part-items.ensures.value ∙ (ap (flat_map left_names) c.in_ok-parts.ensures ∙ reads_names c.args.expr.now))
