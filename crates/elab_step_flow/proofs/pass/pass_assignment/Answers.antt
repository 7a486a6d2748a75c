use Rattle.std.proofs.Common.{ℕ, List, ◌∷◌, sym, subst}
use Rattle.elab_flat_faults.specs.Texts.{numbers_in}
use Rattle.elab_flat_drivers.proofs.Growing.{ok_then}
use Rattle.elab_flat_faults.specs.Drivers.{parts_of}
use Rattle.elab_step_flow.specs.Sets.{tables}
use Rattle.elab_step_flow.specs.Passes.{ReadsAt, CountTo}
use Rattle.elab_step_flow.proofs.Assigning.{assigned, assignment_changes}
use Rattle.elab_step_flow.proofs.pass.pass_assignment.Goals as goal

pub returns-clause-assigned : goal.returns-clause-assigned
returns-clause-assigned c =
    let gs = c.args.scope.now in
    let around = c.args.around.now in
    let left = c.args.left.now in
    let right = c.args.right.now in
    let read = c.deref.result.now in
    let before = tables c.args.flow.now in
    ok_then c.assign_left.result _ _ c.assign_left.ensures.set
    (λ h. assigned gs c.requires.distinct c.requires.narrow around read c.deref-2.result.now left right before (tables c.enter.new.self) (tables c.assign_left.new.flow)
    (subst (λ z. ReadsAt gs (right ∷ numbers_in left) z) (sym c.deref.ensures.value) c.in_ok-read.ensures) c.in_ok-sources.ensures.reads
    (subst (λ (z : List ℕ). CountTo around read before z) (sym c.deref-2.ensures.value) c.in_ok-sources.ensures.counts) h)

pub returns-clause-changes : goal.returns-clause-changes
returns-clause-changes c =
    let s = tables c.args.flow.now in
    let t = tables c.enter.new.self in
    let grows = c.in_ok-sources.ensures.grows in
    let reads = c.in_ok-sources.ensures.reads in
    ok_then c.assign_left.result _ _ c.assign_left.ensures.set
    (λ h. assignment_changes c.args.scope.now (parts_of c.args.left.now) c.deref-2.result.now grows.0 s t (tables c.assign_left.new.flow) reads.unset reads.through grows.1 h)
