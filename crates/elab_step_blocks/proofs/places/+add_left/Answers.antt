use Rattle.std.proofs.Common.{◌<◌, length, arith}
use Rattle.std.proofs.lemmas.Result.{IfOk-weaker}
use Rattle.elab_step_expr.specs.Leaves.{declared}
use Rattle.elab_step_blocks.specs.Sparing.{EachSparesLeft, SparesLeft}
use Rattle.elab_step_blocks.proofs.Sides.{each_ready, concat_ready}
use Rattle.elab_step_blocks.proofs.Sparing.{gathers_as, spares_name, spares_select, spares_part, spares_concat, lefts_next}
use Rattle.elab_step_blocks.proofs.places.+add_left.Goals as goal

pub add_left-row-requires : goal.add_left-row-requires
add_left-row-requires t c = concat_ready (declared c.args.leaves.now) c.in-Concat.lefts c.args.left.now c.in-Concat.is c.requires.left

pub add_left-returns-in-Name : goal.add_left-returns-in-Name
add_left-returns-in-Name t c =
    let ls = c.args.leaves.now in
    IfOk-weaker c.add_name.result _ _ (λ u h. gathers_as ls c.args.places.now.items c.add_name.new.places.items _ (SparesLeft ls c.args.left.now) (λ x ne. spares_name ls c.in-Name.name c.args.left.now x c.in-Name.is ne) h) c.add_name.ensures

pub add_left-returns-in-Select : goal.add_left-returns-in-Select
add_left-returns-in-Select t c =
    let ls = c.args.leaves.now in
    IfOk-weaker c.add_name-in-Select.result _ _
    (λ u h. gathers_as ls c.args.places.now.items c.add_name-in-Select.new.places.items _ (SparesLeft ls c.args.left.now) (λ x ne. spares_select ls c.in-Select.name c.in-Select.field-1 c.args.left.now x c.in-Select.is ne) h) c.add_name-in-Select.ensures

pub add_left-returns-in-Part : goal.add_left-returns-in-Part
add_left-returns-in-Part t c =
    let ls = c.args.leaves.now in
    IfOk-weaker c.add_name-in-Part.result _ _
    (λ u h. gathers_as ls c.args.places.now.items c.add_name-in-Part.new.places.items _ (SparesLeft ls c.args.left.now)
    (λ x ne. spares_part ls c.in-Part.name c.in-Part.field-1 c.in-Part.field-2 c.in-Part.field-3 c.args.left.now x c.in-Part.is ne) h) c.add_name-in-Part.ensures

pub add_left-returns-in-Concat : goal.add_left-returns-in-Concat
add_left-returns-in-Concat t c =
    let ls = c.args.leaves.now in
    IfOk-weaker c.add_lefts.result _ _
    (λ u h. gathers_as ls c.args.places.now.items c.add_lefts.new.places.items (EachSparesLeft ls c.row.result.now) (SparesLeft ls c.args.left.now)
    (λ x k. spares_concat ls c.in-Concat.lefts c.row.result.now c.args.left.now x c.in-Concat.is c.row.ensures.same k) h) c.add_lefts.ensures

pub add_lefts-one-requires : goal.add_lefts-one-requires
add_lefts-one-requires t c =
    let lt : c.loop-left.left-index < length c.args.lefts.now = omega (arith, c.loop-left-test.true, c.loop-left.auto.left-index-end) in
    each_ready (declared c.args.leaves.now) c.args.lefts.now c.loop-left.left-index c.left-item.result _ c.requires.lefts lt c.left-item.is

pub add_lefts-loop-left-preserved : goal.add_lefts-loop-left-preserved
add_lefts-loop-left-preserved t c =
    let lt : c.loop-left.left-index < length c.args.lefts.now = omega (arith, c.loop-left-test.true, c.loop-left.auto.left-index-end) in
    lefts_next c.args.leaves.now c.args.lefts.now c.loop-left.left-index c.left-item.result c.one.result.now _ c.args.places.now.items c.loop-left.places.items c.add_left.new.places.items lt c.left-item.is c.one.ensures.same
    c.loop-left.invariant c.in_ok-add_left.ensures
