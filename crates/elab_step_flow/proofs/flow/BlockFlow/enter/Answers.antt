use Rattle.std.proofs.Common.{◌≡◌, ◌<◌, ◌↔◌, ◌⊎◌, ℕ, List, length, get_or, true, inl, inr, refl, sym, subst}
use Rattle.vlog_tree_runs.specs.Places.{Among}
use Rattle.elab_step_flow.specs.Sets.{is_open}
use Rattle.elab_step_flow.proofs.flow.BlockFlow.enter.Goals as goal

pub add_open-requires : goal.add_open-requires
add_open-requires c = λ i m. subst (λ (ws : List ℕ). i < length ws) (sym c.deref.ensures.value) (c.requires.within i m)

pub returns-clause-counts : goal.returns-clause-counts
returns-clause-counts c = λ z.
    let same = c.put_in_order.ensures.same z in
    let counts = c.in_ok-add_counts.ensures z in
    let copied = c.in_ok-inner.ensures.items_if_clones_equal (λ x y e. e) in (
      λ h. elim (counts.0 (same.0 h)) [ inl f ↦ inr (subst (λ (xs : List ℕ). Among xs z) copied f) | inr f ↦ inl f ],
      λ h. same.1 (counts.1 (elim h [ inl f ↦ inr f | inr f ↦ inl (subst (λ (xs : List ℕ). Among xs z) (sym copied) f) ])),
    )

pub returns-clause-reads : goal.returns-clause-reads
returns-clause-reads c = record {
  unset = refl;
  through = refl;
  outside = λ i.
      subst (λ (ws : List ℕ). Among c.add_open.new.all.items i ↔ (Among c.args.self.now.outside.items i ⊎ (Among c.args.read.now i × (is_open (get_or ws i 0) ≡ true)))) c.deref.ensures.value (c.in_ok-add_open.ensures.opens i);
}
