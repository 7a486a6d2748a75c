-- A cycle in the graph of modules is a module that contains itself.
use Rattle.std.proofs.Common.{ℕ, suc, ◌≡◌, ◌+◌, ◌<◌, List, [], ◌∷◌, length, map, take, drop, get_or, Option, Some, None, refl, sym, ap, subst, ◌∙◌, arith, length-drop, add-one}
use Rattle.std.specs.Option.{option_map}
use Rattle.std.specs.List.{slice_get}
use Rattle.std.proofs.lemmas.List.{take-append-drop}
use Rattle.std.proofs.lemmas.Option.{slice_get_within}
use Rattle.std.proofs.Math.Seq.{drop-cons}
use Rattle.vlog_tree.specs.declared.module.Module.{Module}
use Rattle.vlog_tree_runs.specs.Places.{Name}
use Rattle.vlog_tree_runs.specs.Contents.{Inner, instances_in}
use Rattle.vlog_tree_runs.specs.Scopes.{Scope, scope_from, scope_at, top_scope, inner_prefix, params_of}
use Rattle.elab_flat_faults.specs.FlatStands.{IsRecursive, path_name}
use Rattle.elab_flat_scopes.specs.Finding.{place_in, module_name}
use Rattle.elab_flat_graphs.specs.Walks.{targets_of, walk_end, IsCycle}
use Rattle.elab_flat_graphs.proofs.Closing.{walk-append}
use Rattle.elab_flat_instances.specs.Graph.{inner_name, graph_of}
use Rattle.elab_flat_instances.specs.Naming.{IsAtNode, LeadsToModule, LeadsHere, prefix_name}
use Rattle.elab_flat_instances.proofs.Places.{module_placed, nodes, place_within, counted}
use Rattle.elab_flat_instances.proofs.Walks.{same_some, nowhere, begins, begins_by, walk_leads, node_step}
use Rattle.elab_flat_instances.proofs.Names.{named_by_prefix}

module _ (ms : List Module) (top : Name) where
  abbrev g : List (List ℕ)
  g = graph_of ms

  pub start_within : (start : ℕ) → place_in (map module_name ms) top ≡ Some start → start < length g
  start_within start place =
      let r = place_within 0 start (map module_name ms) top place in
      omega (arith, nodes ms, counted ms)

  pub start_at : (start : ℕ) → place_in (map module_name ms) top ≡ Some start → IsAtNode ms top [] start
  start_at start place =
      let r = module_placed ms top start place in
      record {
        path = [];
        scope = record { prefix = []; module' = r.0; params = params_of r.0 [] [] };
        reached = ap top_scope r.3;
        prefix_is = refl;
        node = r.1;
      }

  round_of : (start : ℕ) (walk : List ℕ) (back : ℕ) (c : IsCycle g start walk back) → walk_end g (Some c.node) (drop back walk) ≡ Some c.node
  round_of start walk back c =
      ap (λ o. walk_end g o (drop back walk)) (sym c.reached)
      ∙ (sym (walk-append g (Some start) (take back walk) (drop back walk)) ∙ (ap (walk_end g (Some start)) (take-append-drop back walk) ∙ c.again))

  some_round : (start : ℕ) (walk : List ℕ) (back : ℕ) → IsCycle g start walk back → 0 < length (drop back walk)
  some_round start walk back c = omega (arith, length-drop back walk, c.some)

  node_by : (n : ℕ) (round : List ℕ) → 0 < length round → walk_end g (Some n) round ≡ Some n → n < length ms
  node_by n [] some e = absurd (omega arith)
  node_by n (i ∷ round) some e = begins_by ms n i round n (slice_get (targets_of g n) i) refl e

  pub way_leads : (start : ℕ) (walk : List ℕ) (back : ℕ) → IsCycle g start walk back → LeadsToModule ms start (take back walk)
  way_leads start walk back c = record {
    last = c.node;
    ends = c.reached;
    there = node_by c.node (drop back walk) (some_round start walk back c) (round_of start walk back c);
  }

  recursive_by : (path : List Name) (s t : Scope) (down : List Name) → scope_at ms top path ≡ Some s → scope_from ms (Some s) down ≡ Some t → 0 < length down → t.module' ≡ s.module' →
      IsRecursive ms top path
  recursive_by path s t [] at is some same = absurd (omega arith)
  recursive_by path s t (x ∷ down) at is some same = (s, at, x, down, t, is, ap (λ (m : Module). m.name) same)

  pub cycle_recursion : (start : ℕ) (walk : List ℕ) (back : ℕ) (prefix name : Name) → IsCycle g start walk back → LeadsHere ms top start (take back walk) prefix → name ≡ prefix_name top prefix →
      (path : List Name) × IsRecursive ms top path × (name ≡ path_name top path)
  cycle_recursion start walk back prefix name c here is =
      let at = here.at in
      let same : c.node ≡ here.last = same_some (walk_end g (Some start) (take back walk)) c.node here.last c.reached here.ends in
      let node : slice_get ms c.node ≡ Some at.scope.module' = ap (slice_get ms) same ∙ at.node in
      let there = node_by c.node (drop back walk) (some_round start walk back c) (round_of start walk back c) in
      let r = walk_leads ms (drop back walk) at.scope c.node c.node node there (round_of start walk back c) in
      let some : 0 < length r.path = omega (arith, r.long, some_round start walk back c) in
      let twin : r.scope.module' ≡ at.scope.module' = same_some (slice_get ms c.node) r.scope.module' at.scope.module' r.node node in (
        at.path,
        recursive_by at.path at.scope r.scope r.path at.reached r.reached some twin,
        is ∙ (ap (prefix_name top) (sym at.prefix_is) ∙ named_by_prefix ms top at.path at.scope at.reached),
      )

  -- ---- along a walk

  cut : (xs : List ℕ) (i x : ℕ) → i < length xs → x ≡ get_or xs i x → drop i xs ≡ x ∷ drop (suc i) xs
  cut xs i x lt is = drop-cons xs i x lt ∙ ap (λ z. z ∷ drop (suc i) xs) (sym is)

  module _ (prefix : Name) (n : ℕ) (at : IsAtNode ms top prefix n) (walk : List ℕ) (i e : ℕ) (lt : i < length walk) (is : e ≡ get_or walk i e) (whole : Option ℕ)
      (rest : walk_end g (Some n) (drop i walk) ≡ whole) (last : ℕ) (ends : whole ≡ Some last) (there : last < length ms) where
    here : walk_end g (slice_get (targets_of g n) e) (drop (suc i) walk) ≡ Some last
    here = ap (walk_end g (Some n)) (sym (cut walk i e lt is)) ∙ (rest ∙ ends)

    abbrev Goes : Type 0
    Goes = (t : ℕ) × (slice_get (targets_of g n) e ≡ Some t) × (t < length ms)

    goes_by : (o : Option ℕ) → slice_get (targets_of g n) e ≡ o → walk_end g o (drop (suc i) walk) ≡ Some last → Goes
    goes_by None f h = let z : None ≡ Some last = sym (nowhere ms (drop (suc i) walk)) ∙ h in cc
    goes_by (Some t) f h = (t, f, begins ms t (drop (suc i) walk) last h there)

    pub goes : Goes
    goes = goes_by (slice_get (targets_of g n) e) refl here

    pub node_within : n < length ms
    node_within = slice_get_within ms n at.scope.module' at.node

    pub node_in_graph : n < length g
    node_in_graph = let lt = node_within in omega (arith, nodes ms)

    pub edge_within : e < length (targets_of g n)
    edge_within = slice_get_within (targets_of g n) e goes.0 goes.1

    step : (j : Inner) × (m : Module) × (slice_get ms n ≡ Some m) × (slice_get (instances_in m) e ≡ Some j) × IsAtNode ms top (inner_prefix prefix j.name) goes.0
    step = node_step ms top prefix n e goes.0 at goes.1 goes.2

    pub inner_within : (m : Module) → slice_get ms n ≡ Some m → e < length (instances_in m)
    inner_within m f =
        let same : m ≡ step.1 = same_some (slice_get ms n) m step.1 f step.2 in
        slice_get_within (instances_in m) e step.0 (ap (λ u. slice_get (instances_in u) e) same ∙ step.3)

    pub next_at : (m : Module) (name prefix' : Name) (t : ℕ) → slice_get ms n ≡ Some m → option_map inner_name (slice_get (instances_in m) e) ≡ Some name → prefix' ≡ inner_prefix prefix name →
        slice_get (targets_of g n) e ≡ Some t → IsAtNode ms top prefix' t
    next_at m name prefix' t f named put to =
        let same : m ≡ step.1 = same_some (slice_get ms n) m step.1 f step.2 in
        let at_e : slice_get (instances_in m) e ≡ Some step.0 = ap (λ u. slice_get (instances_in u) e) same ∙ step.3 in
        let name_is : Some step.0.name ≡ Some name = ap (option_map inner_name) (sym at_e) ∙ named in
        let name_same : step.0.name ≡ name = cc in
        let node_same : goes.0 ≡ t = same_some (slice_get (targets_of g n) e) goes.0 t goes.1 to in
        subst (λ p. IsAtNode ms top p t) (ap (inner_prefix prefix) name_same ∙ sym put) (subst (IsAtNode ms top (inner_prefix prefix step.0.name)) node_same step.4)

    pub next_rest : (t : ℕ) → slice_get (targets_of g n) e ≡ Some t → walk_end g (Some t) (drop (i + 1) walk) ≡ whole
    next_rest t to = rw add-one (ap (λ o. walk_end g o (drop (suc i) walk)) (sym to) ∙ (here ∙ sym ends))
