use Rattle.std.proofs.Common.{◌∙◌, ap, refl, subst, map, arith}
use Rattle.std.specs.Prelude.{nat_lt, if◌then◌else◌}
use Rattle.std.specs.Str.{bytes_eq}
use Rattle.set_tree.specs.declared.set.Set.{Set}
use Rattle.elab_step_design.specs.Designs.{source}
use Rattle.unroll_laws.specs.Segments.{cycle_number}
use Rattle.unroll_laws.specs.Tests.{level}
use Rattle.unroll_laws.proofs.Holding.{input_source}
use Rattle.unroll.specs.Copies.{IsWordAt}
use Rattle.unroll.proofs.Leaving.{input_held, inputs_more, item_among, leaf_start, leaf_step, registers_among, source_below, source_wide}
use Rattle.unroll.proofs.leaves.put_inputs.Goals as goal

pub loop-input-init : goal.loop-input-init
loop-input-init c =
    let b = c.args.bound.now in
    leaf_start b.design b.set c.args.moment.resets c.args.moment.position c.args.dag.now c.args.leaves.now (map source b.design.registers) _ refl (registers_among b.design.registers b.design.inputs) c.requires.leaves

pub input_node-requires-clause-some : goal.input_node-requires-clause-some
input_node-requires-clause-some c =
    let d = c.args.bound.now.design in
    let listed = c.inputs-input-items.ensures ∙ ap (λ p. p.inputs) c.design.ensures.value in
    let n = c.input-item.result in
    (source_wide d c.requires.design n (input_source d n (item_among c.inputs-input-items.result.now d.inputs c.loop-input.input-index n listed c.loop-input-test.true c.input-item.is))).0

pub input_node-requires-clause-most : goal.input_node-requires-clause-most
input_node-requires-clause-most c =
    let d = c.args.bound.now.design in
    let listed = c.inputs-input-items.ensures ∙ ap (λ p. p.inputs) c.design.ensures.value in
    let n = c.input-item.result in
    (source_wide d c.requires.design n (input_source d n (item_among c.inputs-input-items.result.now d.inputs c.loop-input.input-index n listed c.loop-input-test.true c.input-item.is))).1

pub bounds-leaves-input : goal.bounds-leaves-input
bounds-leaves-input c =
    let d = c.args.bound.now.design in
    let listed = c.inputs-input-items.ensures ∙ ap (λ p. p.inputs) c.design.ensures.value in
    let n = c.input-item.result in
    let m = item_among c.inputs-input-items.result.now d.inputs c.loop-input.input-index n listed c.loop-input-test.true c.input-item.is in
    source_below d c.requires.design c.loop-input.leaves n (input_source d n m) c.loop-input.invariant.shows.count

pub offset_bounds-leaves-input : goal.offset_bounds-leaves-input
offset_bounds-leaves-input c =
    let d = c.args.bound.now.design in
    let listed = c.inputs-input-items.ensures ∙ ap (λ p. p.inputs) c.design.ensures.value in
    let n = c.input-item.result in
    let m = item_among c.inputs-input-items.result.now d.inputs c.loop-input.input-index n listed c.loop-input-test.true c.input-item.is in
    let below = source_below d c.requires.design c.loop-input.leaves n (input_source d n m) c.loop-input.invariant.shows.count in
    omega (arith, below)

pub loop-input-preserved : goal.loop-input-preserved
loop-input-preserved c =
    let b = c.args.bound.now in
    let d = b.design in
    let listed = c.inputs-input-items.ensures ∙ ap (λ p. p.inputs) c.design.ensures.value in
    let n = c.input-item.result in
    let j = c.loop-input.input-index in
    let xs = c.inputs-input-items.result.now in
    let t = c.args.moment in
    let m = item_among xs d.inputs j n listed c.loop-input-test.true c.input-item.is in
    let same = c.set-set.ensures.value ∙ c.set.ensures in
    let word = input_held d c.requires.design b.set c.requires.fits t.resets t.position c.input_node.new.dag c.in_ok-node.node n m (subst (λ (z : Set). IsWordAt c.input_node.new.dag c.in_ok-node.node n.width (λ e. if bytes_eq n.name z.reset then level z (nat_lt t.position t.resets) else e n.name 0 (cycle_number t.resets t.position))) same c.in_ok-node.ensures.word) in
    leaf_step d c.requires.design b.set t.resets t.position c.args.dag.now c.loop-input.dag c.input_node.new.dag c.loop-input.leaves _ _ _ n c.in_ok-node.node (input_source d n m) (inputs_more (map source d.registers) xs d.inputs j n listed c.loop-input-test.true c.input-item.is) c.in_ok-node.ensures.grows c.in_ok-node.ensures.frees c.in_ok-node.ensures.node word refl c.loop-input.invariant
