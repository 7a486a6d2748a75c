use Rattle.std.proofs.Common.{◌≡◌, ℕ, Option, None, Some, refl, sym, subst, ◌∙◌}
use Rattle.std.specs.List.{slice_get}
use Rattle.elab_flat_graphs.specs.Search.{Has}
use Rattle.elab_flat_graphs.proofs.Rounds.{no_cycle}
use Rattle.elab_flat_graphs.proofs.Turns.{all_left}
use Rattle.elab_flat_graphs.proofs.cycles.cycle_from.Goals as goal

none_of : (o : Option ℕ) → ((x : ℕ) → o ≡ Some x → ⊥) → o ≡ None
none_of None h = refl
none_of (Some x) h = absurd (h x refl)

pub returns : goal.returns
returns c walk back is =
    let s = c.loop-node.search in
    let q = c.loop-node.invariant.search in
    let none : slice_get s.stack 0 ≡ None = sym c.top.ensures ∙ none_of c.top.result c.in_default.not-Some in
    let h : Has q.order c.args.start = subst (Has q.order) c.loop-node.invariant.start (all_left c.args.graph.now s.start s.left.items q.order s.stack q.lies none) in
    no_cycle c.args.graph.now q.order q.state.sorted c.args.start h walk back is
