use Rattle.std.proofs.Common.{◌≡◌, ℕ, List, length, map, drop, subst, sym, ap, ◌∙◌, arith}
use Rattle.std.specs.List.{flat_map}
use Rattle.vlog_tree_runs.specs.declared.flat.Signal.{Signal}
use Rattle.vlog_tree_runs.specs.Places.{Name}
use Rattle.vlog_tree_runs.specs.Cycles.{IsRegister}
use Rattle.elab_flat_scopes.specs.Borrowed.{name_meant}
use Rattle.elab_flat_drivers.specs.Spots.{signal_name}
use Rattle.elab_flat_drivers.specs.declared.names.Form.TheVariants as v
use Rattle.elab_flat_drivers.specs.Names.{chosen_names}
use Rattle.std.specs.Prelude.{true}
use Rattle.elab_step_flow.specs.Sets.{Has}
use Rattle.elab_step_flow.specs.Marks.{Adds}
use Rattle.elab_step_flow.specs.Shows.{Marks}
use Rattle.elab_step_flow.proofs.Marking.{none_in}
use Rattle.elab_step_flow.proofs.Setting.{written_back}
use Rattle.elab_step_flow.proofs.Placing.{adds_marks}
use Rattle.elab_step_flow.proofs.Depending.{registers_marked}
use Rattle.elab_step_flow.proofs.graph.registers.Goals as goal

pub returns-clause-marks : goal.returns-clause-marks
returns-clause-marks c =
    let m = c.args.flat.now in
    let gs = m.signals in
    let new = c.mark_names.new.set in
    let xs : List Name = map name_meant c.deref.result.now in
    let fits : c.in_ok-set.set.len ≡ length new = omega arith in
    let back = written_back c.in_ok-set.set.len new (drop (length new) c.in_ok-set.set.items) fits in
    let items = c.deref_mut.ensures.value ∙ c.in_ok-set.ensures.items in
    let none : (i : ℕ) → Has c.deref_mut.result.now i → ⊥ = λ i h. none_in (length c.list.result.now) i (subst (λ s. Has s i) items h) in
    let names = c.names.ensures ∙ ap (map signal_name) c.requires.scope in
    let marks = adds_marks gs c.requires.can.signals.distinct xs c.deref_mut.result.now new none (subst (λ ns. Adds ns xs c.deref_mut.result.now new) names c.mark_names.ensures) in
    let all = ap (map name_meant) c.deref.ensures.value ∙ (c.in_ok-assigned.ensures ∙ ap (flat_map (chosen_names true v.Any)) c.as_slice.ensures) in
    subst (λ s. Marks c.args.scope.now s (λ x. IsRegister m x)) (sym back)
    (subst (λ (ls : List Signal). Marks ls new (λ x. IsRegister m x)) (sym c.requires.scope) (registers_marked m c.requires.can new xs all marks))
