use Rattle.std.proofs.Common.{◌≡◌, true, false, map, sym, ap, ◌∙◌}
use Rattle.std.specs.List.{flat_map, list_any}
use Rattle.vlog_tree_runs.specs.Blocks.{left_names}
use Rattle.vlog_tree_runs.specs.Contents.{is_among}
use Rattle.elab_flat_drivers.specs.Parts.{part_meant}
use Rattle.mem_faults.proofs.Surveying.{any_here, any_later, any_nowhere}
use Rattle.mem_faults.proofs.Wholes.{reads_names}
use Rattle.mem_faults.proofs.survey.names_memory.Goals as goal

pub returns-then-has : goal.returns-then-has
returns-then-has c =
    let ms = c.args.memories.now in
    let same : is_among ms c.name_of.result.now ≡ true = ap (is_among ms) (sym c.bytes.ensures) ∙ (sym c.has.ensures ∙ c.if-has.true) in
    any_here ms c.deref-part-items.result.now c.loop-part.part-index c.part-item.result c.name_of.result.now _ c.loop-part-test.true c.part-item.is c.name_of.ensures.names same c.loop-part.invariant
    ∙ (ap (λ z. list_any (is_among ms) (flat_map left_names z)) (ap (map part_meant) c.deref-part-items.ensures.value ∙ c.in_ok-parts.ensures) ∙ ap (list_any (is_among ms)) (reads_names c.args.expr.now))

pub loop-part-preserved : goal.loop-part-preserved
loop-part-preserved c =
    let ms = c.args.memories.now in
    let same : is_among ms c.name_of.result.now ≡ false = ap (is_among ms) (sym c.bytes.ensures) ∙ (sym c.has.ensures ∙ c.if-has.false) in
    any_later ms c.deref-part-items.result.now c.loop-part.part-index c.part-item.result c.name_of.result.now _ c.loop-part-test.true c.part-item.is c.name_of.ensures.names same c.loop-part.invariant

pub returns : goal.returns
returns c =
    let ms = c.args.memories.now in
    any_nowhere ms c.deref-part-items.result.now c.loop-part.part-index _ c.loop-part-test.false c.loop-part.invariant
    ∙ (ap (λ z. list_any (is_among ms) (flat_map left_names z)) (ap (map part_meant) c.deref-part-items.ensures.value ∙ c.in_ok-parts.ensures) ∙ ap (list_any (is_among ms)) (reads_names c.args.expr.now))
