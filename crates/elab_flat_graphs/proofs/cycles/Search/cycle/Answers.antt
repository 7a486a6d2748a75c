use Rattle.std.proofs.Common.{◌≡◌, ◌<◌, ◌≤◌, ℕ, List, drop, length, get_or, sym, subst, ◌∙◌, rules, vec_len, inl, Some}
use Rattle.std.proofs.lemmas.List.{get_or_default, drop_all}
use Rattle.elab_flat_graphs.specs.Search.{Has}
use Rattle.elab_flat_graphs.specs.Walks.{walk_end}
use Rattle.elab_flat_graphs.proofs.Closing.{IsWalk, IsMet, leads_walk, has_reversed, next_rest, met_here, met_later, met_all}
use Rattle.elab_flat_graphs.proofs.cycles.Search.cycle.Goals as goal
use Rattle.elab_flat_graphs.proofs.cycles.Search.cycle.Goals.{then-node-target, else-node-target}

pub loop-node-init : goal.loop-node-init
loop-node-init c =
    let g = c.args.graph.now in
    let s = c.args.self.now in
    let q = c.requires.followed in
    let h = leads_walk g s.start s.left.items q.order c.args.target s.stack q.state.within q.lies in
    let on = q.state.on c.args.target q.is_node c.requires.on in
    record {
      rest = subst (λ (walk : List ℕ). IsWalk g s.left.items (walk_end g (Some s.start) walk) c.args.target c.nodes-node-items.result.now) (sym c.new-walk.ensures.items)
          (subst (IsWalk g s.left.items (Some s.start) c.args.target) (sym c.nodes-node-items.ensures) h);
      met = inl (subst (λ (ns : List ℕ). Has ns c.args.target) (sym c.nodes-node-items.ensures) (has_reversed c.args.target s.stack on));
    }

pub loop-node-preserved : goal.loop-node-preserved
loop-node-preserved c =
    let g = c.args.graph.now in
    let s = c.args.self.now in
    let t = c.args.target in
    let left = s.left.items in
    let nodes = c.nodes-node-items.result.now in
    let i = c.loop-node.node-index in
    let x : ℕ = get_or nodes i 0 in
    let lt : i < length nodes = c.loop-node-test.true in
    let is : x ≡ get_or nodes i x = get_or_default nodes i 0 x lt in
    let walk = c.loop-node.walk.items in
    let rest = c.loop-node.invariant.rest in
    let long : vec_len c.loop-node.walk ≡ length walk = search rules in
    let grown = c.in_ok-push.ensures.items in
    record {
      rest = next_rest g s.start t left nodes i x lt is walk rest c.edge.result c.push.new.self.items c.edge.ensures grown;
      met = elim c.if-node-target.branch [
        | then-node-target w ↦ met_here g s.start t left nodes i x lt is walk rest c.edge.result c.push.new.self.items c.if-node-target.back w.if-node-target.true (w.back-is ∙ (w.len-back.ensures ∙ long)) grown
        | else-node-target w ↦ met_later g s.start t left nodes i x lt is walk rest c.edge.result c.push.new.self.items c.if-node-target.back w.if-node-target.false grown
            (subst (λ (b : ℕ). IsMet g s.start walk b t (drop i nodes)) (sym w.back-is) c.loop-node.invariant.met)
      ];
    }

pub returns : goal.returns
returns c =
    let nodes = c.nodes-node-items.result.now in
    let past : length nodes ≤ c.loop-node.node-index = c.loop-node-test.false in
    met_all c.args.graph.now c.args.self.now.start c.args.target c.args.self.now.left.items c.loop-node.walk.items c.loop-node.back (drop c.loop-node.node-index nodes)
    (drop_all c.loop-node.node-index nodes past) c.loop-node.invariant.rest c.loop-node.invariant.met
