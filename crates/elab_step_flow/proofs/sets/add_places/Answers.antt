use Rattle.std.proofs.Common.{List, ℕ, inl, inr, sym, subst}
use Rattle.vlog_tree_runs.specs.Places.{Among}
use Rattle.elab_flat_laws.proofs.Lists.{among_append, append_left, append_right}
use Rattle.elab_step_flow.proofs.sets.add_places.Goals as goal

pub returns : goal.returns
returns c = λ i.
    let old = c.args.all.now.items in
    let places = c.args.places.now in
    let same = c.put_in_order.ensures.same i in
    let put = c.in_ok-extend_from_slice.ensures.items in (
      λ h. among_append old places i (subst (λ (z : List ℕ). Among z i) put (same.0 h)),
      λ h. same.1 (subst (λ (z : List ℕ). Among z i) (sym put) (elim h [ inl f ↦ append_left old places i f | inr f ↦ append_right old places i f ])),
    )
