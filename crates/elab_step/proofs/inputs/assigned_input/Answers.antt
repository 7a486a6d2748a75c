use Rattle.std.proofs.Common.{◌≡◌, sym, ap, ◌∙◌, subst}
use Rattle.std.specs.List.{flat_map}
use Rattle.vlog_tree_runs.specs.Places.{Among}
use Rattle.vlog_tree_runs.specs.Cycles.{IsInput, IsRegister}
use Rattle.elab_step.specs.Parts.{input_name}
use Rattle.elab_step.specs.Sources.{clocked_names, edge_names}
use Rattle.elab_step.proofs.Judging.{taken, none_taken}
use Rattle.elab_step.proofs.inputs.assigned_input.Goals as goal

pub returns-in-Some-clause-some : goal.returns-in-Some-clause-some
returns-in-Some-clause-some c =
    let m = c.args.flat.now in
    let named : c.in_ok-registers.registers ≡ clocked_names m = c.in_ok-registers.ensures ∙ c.in_ok-assigned.ensures ∙ ap (flat_map edge_names) c.as_slice.ensures in
    let s = c.in-Some.ensures.some in
    let x = c.in-Some.name.now in
    let is : c.in_ok-copy-in-Some.field-0 ≡ x = c.in_ok-copy-in-Some.ensures ∙ c.bytes.ensures in
    subst (λ y. IsInput m y × IsRegister m y) (sym is)
    (taken m c.requires x (subst (λ ps. Among (flat_map input_name ps) x) c.as_slice-2.ensures s.0) (subst (λ ns. Among ns x) named s.1))

pub returns-clause-none : goal.returns-clause-none
returns-clause-none c =
    let m = c.args.flat.now in
    let named : c.in_ok-registers.registers ≡ clocked_names m = c.in_ok-registers.ensures ∙ c.in_ok-assigned.ensures ∙ ap (flat_map edge_names) c.as_slice.ensures in
    none_taken m c.requires (λ x i r. c.in-None.ensures.none x (subst (λ ps. Among (flat_map input_name ps) x) (sym c.as_slice-2.ensures) i) (subst (λ ns. Among ns x) (sym named) r))
