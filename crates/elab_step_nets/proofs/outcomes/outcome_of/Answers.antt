use Rattle.std.proofs.Common.{◌≡◌, List, ℕ, None, map, refl, sym, ap, ◌∙◌, subst}
use Rattle.std.specs.Prelude.{◌↔◌}
use Rattle.vlog_tree_runs.specs.Places.{Among}
use Rattle.elab_step_expr.specs.declared.leaves.Leaf.{Leaf}
use Rattle.elab_step_expr.specs.Leaves.{declared}
use Rattle.elab_step_blocks.specs.Runs.{AreSet}
use Rattle.elab_step_blocks.specs.Saving.{node_at, places_of, put_back, AreWithin}
use Rattle.elab_step_blocks.specs.Standing.{AreShown}
use Rattle.elab_step_blocks.proofs.Saving.{back_declared}
use Rattle.elab_step_nets.proofs.Leaving.{rising_within, still_within, back_set, back_shown, outcome_is}
use Rattle.elab_step_nets.proofs.outcomes.outcome_of.Goals as goal

pub nodes_at-requires : goal.nodes_at-requires
nodes_at-requires c =
    let ls = c.args.leaves.now in
    let ms = c.run.new.state in
    let same : (i : ℕ) → Among c.in_ok-places.places.items i ↔ Among (places_of c.in_ok-before.before.items) i = λ i. subst (λ z. Among c.in_ok-places.places.items i ↔ Among (places_of z) i) c.deref.ensures.value (c.in_ok-places.ensures.same i) in
    subst (AreWithin ms) (sym c.deref-2.ensures.value) (rising_within ls ms c.in_ok-places.places.items (places_of c.in_ok-before.before.items) c.in_ok-run.ensures.same same c.in_ok-before.ensures.saved.within)

pub put_back-requires : goal.put_back-requires
put_back-requires c =
    let ls = c.args.leaves.now in
    let ms = c.run.new.state in
    subst (λ z. AreWithin ms (places_of z)) (sym c.deref-3.ensures.value) (still_within ls ms (places_of c.in_ok-before.before.items) c.in_ok-run.ensures.same c.in_ok-before.ensures.saved.within)

pub returns-clause-same : goal.returns-clause-same
returns-clause-same c = ap declared c.put_back.ensures ∙ (back_declared c.run.new.state c.deref-3.result.now ∙ c.in_ok-run.ensures.same)

pub returns-clause-set : goal.returns-clause-set
returns-clause-set c =
    let ms = c.run.new.state in
    let before = c.in_ok-before.before.items in
    let e : c.put_back.new.leaves ≡ put_back ms before = c.put_back.ensures ∙ ap (put_back ms) c.deref-3.ensures.value in
    subst (λ (z : List Leaf). AreSet None z c.run.new.dag) (sym e)
    (back_set c.args.body.now c.args.leaves.now ms c.args.source.now c.run.new.dag before c.in_ok-places.places.items c.in_ok-nodes.nodes.items c.requires.set c.in_ok-run.ensures.keeps c.in_ok-run.ensures.same c.in_ok-run.ensures.set c.in_ok-run.ensures.runs
    c.in_ok-before.ensures.saved c.in_ok-before.ensures.covers)

pub returns-clause-back : goal.returns-clause-back
returns-clause-back c = λ gs f d are h.
    let ms = c.run.new.state in
    let before = c.in_ok-before.before.items in
    let e : c.put_back.new.leaves ≡ put_back ms before = c.put_back.ensures ∙ ap (put_back ms) c.deref-3.ensures.value in
    subst (λ (z : List Leaf). AreShown f c.run.new.dag z d) (sym e)
    (back_shown c.args.body.now c.args.leaves.now ms c.args.source.now c.run.new.dag before c.in_ok-places.places.items c.in_ok-nodes.nodes.items c.requires.set c.in_ok-run.ensures.keeps c.in_ok-run.ensures.same c.in_ok-run.ensures.set c.in_ok-run.ensures.runs
    c.in_ok-before.ensures.saved c.in_ok-before.ensures.covers gs f d are h)

pub returns-clause-outcome : goal.returns-clause-outcome
returns-clause-outcome c =
    let ms = c.run.new.state in
    let before = c.in_ok-before.before.items in
    let places = c.in_ok-places.places.items in
    let same : (i : ℕ) → Among places i ↔ Among (places_of before) i = λ i. subst (λ z. Among places i ↔ Among (places_of z) i) c.deref.ensures.value (c.in_ok-places.ensures.same i) in
    let nodes : c.in_ok-nodes.nodes.items ≡ map (node_at ms) places = c.in_ok-nodes.ensures ∙ ap (map (node_at ms)) c.deref-2.ensures.value in
    outcome_is c.args.body.now c.args.leaves.now ms c.args.source.now c.run.new.dag before places c.in_ok-nodes.nodes.items c.requires.set c.in_ok-run.ensures.keeps c.in_ok-run.ensures.same c.in_ok-run.ensures.set c.in_ok-run.ensures.runs
    c.in_ok-before.ensures.saved c.in_ok-before.ensures.covers (record { places = c.in_ok-places.places; nodes = c.in_ok-nodes.nodes }) refl refl c.in_ok-places.ensures.rises same nodes
