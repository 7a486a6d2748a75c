use Rattle.std.proofs.Common.{◌≡◌, Bool, List, length, refl, sym, ap, ◌∙◌}
use Rattle.std.specs.List.{flat_map}
use Rattle.std.proofs.lemmas.List.{length-map}
use Rattle.vlog_tree_runs.specs.declared.flat.Signal.{Signal}
use Rattle.vlog_tree_runs.specs.Places.{Name}
use Rattle.vlog_tree_runs.specs.Contents.{is_among}
use Rattle.elab_step_design.specs.Designs.{Parts}
use Rattle.elab_step_nets.specs.Boards.{groups_of}
use Rattle.elab_step_nets.specs.Solving.{joined}
use Rattle.elab_step_nets.proofs.Boards.{leaves_long, same_leaves}
use Rattle.elab_step.specs.Parts.{input_of, output_of}
use Rattle.elab_step.specs.Sources.{signal_names, clocked_names, flags_among}
use Rattle.elab_step.proofs.Designing.{design_made}
use Rattle.elab_step.proofs.design.design_of.Goals as goal

flags_long : (ts : List Bool) (xs : List Name) (gs : List Signal) → ts ≡ flags_among xs gs → length ts ≡ length gs
flags_long ts xs gs e = ap length e ∙ length-map gs (λ (g : Signal). is_among xs g.name)

pub registers_of-requires-clause-begun : goal.registers_of-requires-clause-begun
registers_of-requires-clause-begun c =
    let gs = c.args.flat.now.signals in
    leaves_long gs c.args.solution.begun c.requires.solution.first_board.leaves ∙ sym (flags_long c.deref.result.now (clocked_names c.args.flat.now) gs (c.deref.ensures.value ∙ c.in_ok-registers.ensures))

pub registers_of-requires-clause-next : goal.registers_of-requires-clause-next
registers_of-requires-clause-next c =
    let gs = c.args.flat.now.signals in
    let is = c.requires.solution in
    leaves_long gs c.args.solution.next (same_leaves gs c.args.solution.now c.args.solution.next (sym is.set.same) is.board.leaves) ∙ sym (flags_long c.deref.result.now (clocked_names c.args.flat.now) gs (c.deref.ensures.value ∙ c.in_ok-registers.ensures))

pub inputs_of-requires : goal.inputs_of-requires
inputs_of-requires c =
    let gs = c.args.flat.now.signals in
    ap length (c.in_ok-names.ensures ∙ ap signal_names c.as_slice.ensures) ∙ length-map gs (λ (g : Signal). g.name) ∙ sym (leaves_long gs c.args.solution.begun c.requires.solution.first_board.leaves)

pub nets_of-requires-clause-begun : goal.nets_of-requires-clause-begun
nets_of-requires-clause-begun c =
    let gs = c.args.flat.now.signals in
    leaves_long gs c.args.solution.begun c.requires.solution.first_board.leaves ∙ sym (flags_long c.args.nets.now (joined (groups_of gs c.args.groups.now)) gs c.requires.nets)

pub nets_of-requires-clause-solved : goal.nets_of-requires-clause-solved
nets_of-requires-clause-solved c =
    let gs = c.args.flat.now.signals in
    leaves_long gs c.args.solution.now c.requires.solution.board.leaves ∙ sym (flags_long c.args.nets.now (joined (groups_of gs c.args.groups.now)) gs c.requires.nets)

pub new-requires : goal.new-requires
new-requires c =
    let f = c.args.flat.now in
    let r = c.requires in
    let n = c.nodes-nodes.ensures in
    let names = c.in_ok-names.ensures ∙ ap signal_names c.as_slice.ensures in
    let registers = c.deref.ensures.value ∙ c.in_ok-registers.ensures in
    let first = c.args.solution.begun in
    let d : Parts = record { nodes = c.args.solution.dag; registers = c.in_ok-all_registers.all_registers.items; inputs = c.in_ok-all_inputs.all_inputs.items; nets = c.in_ok-all_nets.all_nets.items; outputs = c.in_ok-outputs.outputs.items; clock = c.in_ok-clock.clock; asyncs = c.in_ok-asyncs.asyncs.items } in
    let e : d ≡ d = refl in
    (design_made f (groups_of f.signals c.args.groups.now) c.args.solution.dag c.args.nets.now c.deref.result.now first c.args.solution.now c.args.solution.next r.can r.order r.solution r.nets registers n.fit n.distinct r.apart
    d (ap (λ (z : Parts). z.nodes) e) (ap (λ (z : Parts). z.registers) e ∙ c.in_ok-all_registers.ensures)
    (ap (λ (z : Parts). z.inputs) e ∙ c.in_ok-all_inputs.ensures ∙ (λ i. flat_map (input_of (names i) first) (c.as_slice-2.ensures i)))
    (ap (λ (z : Parts). z.nets) e ∙ c.in_ok-all_nets.ensures) (ap (λ (z : Parts). z.outputs) e ∙ c.in_ok-outputs.ensures ∙ ap (flat_map output_of) c.as_slice-3.ensures)
    (ap (λ (z : Parts). z.clock) e ∙ c.in_ok-clock.ensures) (ap (λ (z : Parts). z.asyncs) e ∙ c.in_ok-asyncs.ensures ∙ c.as_slice-4.ensures)).0

pub returns-clause-solved : goal.returns-clause-solved
returns-clause-solved c =
    let f = c.args.flat.now in
    let r = c.requires in
    let n = c.nodes-nodes.ensures in
    let names = c.in_ok-names.ensures ∙ ap signal_names c.as_slice.ensures in
    let registers = c.deref.ensures.value ∙ c.in_ok-registers.ensures in
    let first = c.args.solution.begun in
    let d : Parts = c.new.result in
    let e = c.new.ensures in
    (design_made f (groups_of f.signals c.args.groups.now) c.args.solution.dag c.args.nets.now c.deref.result.now first c.args.solution.now c.args.solution.next r.can r.order r.solution r.nets registers n.fit n.distinct r.apart
    d (ap (λ (z : Parts). z.nodes) e) (ap (λ (z : Parts). z.registers) e ∙ c.in_ok-all_registers.ensures)
    (ap (λ (z : Parts). z.inputs) e ∙ c.in_ok-all_inputs.ensures ∙ (λ i. flat_map (input_of (names i) first) (c.as_slice-2.ensures i)))
    (ap (λ (z : Parts). z.nets) e ∙ c.in_ok-all_nets.ensures) (ap (λ (z : Parts). z.outputs) e ∙ c.in_ok-outputs.ensures ∙ ap (flat_map output_of) c.as_slice-3.ensures)
    (ap (λ (z : Parts). z.clock) e ∙ c.in_ok-clock.ensures) (ap (λ (z : Parts). z.asyncs) e ∙ c.in_ok-asyncs.ensures ∙ c.as_slice-4.ensures)).1

pub returns-clause-signals : goal.returns-clause-signals
returns-clause-signals c =
    let f = c.args.flat.now in
    let r = c.requires in
    let n = c.nodes-nodes.ensures in
    let names = c.in_ok-names.ensures ∙ ap signal_names c.as_slice.ensures in
    let registers = c.deref.ensures.value ∙ c.in_ok-registers.ensures in
    let first = c.args.solution.begun in
    let d : Parts = c.new.result in
    let e = c.new.ensures in
    (design_made f (groups_of f.signals c.args.groups.now) c.args.solution.dag c.args.nets.now c.deref.result.now first c.args.solution.now c.args.solution.next r.can r.order r.solution r.nets registers n.fit n.distinct r.apart
    d (ap (λ (z : Parts). z.nodes) e) (ap (λ (z : Parts). z.registers) e ∙ c.in_ok-all_registers.ensures)
    (ap (λ (z : Parts). z.inputs) e ∙ c.in_ok-all_inputs.ensures ∙ (λ i. flat_map (input_of (names i) first) (c.as_slice-2.ensures i)))
    (ap (λ (z : Parts). z.nets) e ∙ c.in_ok-all_nets.ensures) (ap (λ (z : Parts). z.outputs) e ∙ c.in_ok-outputs.ensures ∙ ap (flat_map output_of) c.as_slice-3.ensures)
    (ap (λ (z : Parts). z.clock) e ∙ c.in_ok-clock.ensures) (ap (λ (z : Parts). z.asyncs) e ∙ c.in_ok-asyncs.ensures ∙ c.as_slice-4.ensures)).2
