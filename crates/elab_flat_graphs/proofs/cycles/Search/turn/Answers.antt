use Rattle.std.proofs.Common.{◌≡◌, ◌+◌, ◌-◌, ◌<◌, ◌≤◌, ◌∷◌, ℕ, List, false, ap, sym, subst, arith, get_or, length}
use Rattle.std.proofs.Math.ListN.{set}
use Rattle.elab_flat_graphs.specs.Walks.{targets_of}
use Rattle.elab_flat_graphs.specs.Search.{IsState, IsStack, Leads}
use Rattle.elab_flat_graphs.proofs.Turns.{followed, left_behind, top_turn, top_inside}
use Rattle.std.proofs.lemmas.List.{get_or_default}
use Rattle.elab_flat_graphs.proofs.cycles.Search.turn.Goals as goal

pub returns-then-left-eq0-clause-none : goal.returns-then-left-eq0-clause-none
returns-then-left-eq0-clause-none c =
    let g = c.args.graph.now in
    let s = c.args.self.now in
    let q = c.requires.search in
    let x = c.args.node in
    let w : ℕ = c.index.result.now - 1 in
    let some : 1 ≤ get_or s.left.items x 0 = top_turn g s.start s.left.items q.order s.stack x q.lies c.requires.top in
    let inside : x < length s.left.items = top_inside g s.start s.left.items s.marks.items q.order s.stack x q.state c.requires.top in
    let one : w + 1 ≡ get_or s.left.items x 0 = omega (arith, c.index.ensures, get_or_default s.left.items x c.index.result.now 0 inside) in
    let r = left_behind g s.start s.left.items s.marks.items q.order x w one s.stack q.state q.lies c.requires.top c.if-left-eq0.true in
    record {
      order = x ∷ q.order;
      state = subst (λ stack. IsState g stack (set s.left.items x w) (set s.marks.items x false) (x ∷ q.order)) (sym c.pop.ensures) r.0;
      lies = subst (λ stack. IsStack g s.start (set s.left.items x w) (x ∷ q.order) stack) (sym c.pop.ensures) r.1;
    }

pub returns-clause-some : goal.returns-clause-some
returns-clause-some c =
    let g = c.args.graph.now in
    let s = c.args.self.now in
    let q = c.requires.search in
    let x = c.args.node in
    let w : ℕ = c.index.result.now - 1 in
    let some : 1 ≤ get_or s.left.items x 0 = top_turn g s.start s.left.items q.order s.stack x q.lies c.requires.top in
    let inside : x < length s.left.items = top_inside g s.start s.left.items s.marks.items q.order s.stack x q.state c.requires.top in
    let one : w + 1 ≡ get_or s.left.items x 0 = omega (arith, c.index.ensures, get_or_default s.left.items x c.index.result.now 0 inside) in
    let r = followed g s.start s.left.items s.marks.items q.order x w one s.stack q.state q.lies c.requires.top c.if-left-eq0.false in
    let to : get_or (targets_of g x) (length (targets_of g x) - w) 0 ≡ get_or c.targets-targets.result.now (length c.targets-targets.result.now - w) 0 =
    ap (λ (ts : List ℕ). get_or ts (length ts - w) 0) (sym c.targets-targets.ensures) in
    record {
      order = q.order;
      state = r.0;
      lies = subst (λ t. Leads g s.start (set s.left.items x w) q.order t s.stack) to r.1;
      some = r.2;
      is_node = subst (λ t. t < length g) to r.3;
    }
