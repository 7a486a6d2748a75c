use Rattle.std.proofs.Common.{◌≡◌, [], List, ℕ, Vec, Global, length, replicate, sym, ap, ◌∙◌}
use Rattle.std.proofs.lemmas.List.{length-map, length-replicate}
use Rattle.vlog_tree_runs.specs.declared.flat.Flat.{Flat}
use Rattle.vlog_tree_runs.specs.declared.flat.Signal.{Signal}
use Rattle.vlog_tree_runs.specs.Places.{Name}
use Rattle.elab_flat_graphs.specs.Graphs.{graph_of}
use Rattle.elab_step.specs.Placing.{assigns_placed, blocks_placed, places_in}
use Rattle.elab_step.specs.Sources.{signal_names}
use Rattle.elab_step.proofs.Placing.{placed_long}
use Rattle.elab_step.proofs.Standing.{places_are}
use Rattle.elab_step.proofs.places.places_of.Goals as goal

-- as many lists as names
same_count : (f : Flat) (lists : List (Vec ℕ Global)) (names : List Name) → graph_of lists ≡ replicate (length f.signals) [] → names ≡ signal_names f.signals → length lists ≡ length names
same_count f lists names are named =
    sym (placed_long lists) ∙ ap length are ∙ length-replicate (length f.signals) [] ∙ sym (ap length named ∙ length-map f.signals (λ (g : Signal). g.name))

none_placed : (f : Flat) (signals : List Signal) (lists : List (Vec ℕ Global)) → signals ≡ f.signals → graph_of lists ≡ replicate (length signals) [] → graph_of lists ≡ replicate (length f.signals) []
none_placed f signals lists same are = are ∙ ap (λ (gs : List Signal). let r : List (List ℕ) = replicate (length gs) [] in r) same

pub add_assigns-requires : goal.add_assigns-requires
add_assigns-requires c =
    let f = c.args.flat.now in
    same_count f c.in_ok-places.places.items c.in_ok-names.names (none_placed f _ _ c.as_slice-signals.ensures c.in_ok-places.ensures) (c.in_ok-names.ensures ∙ ap signal_names c.as_slice-signals.ensures)

pub add_blocks-requires-clause-same : goal.add_blocks-requires-clause-same
add_blocks-requires-clause-same c =
    let f = c.args.flat.now in
    c.in_ok-add_assigns.ensures.same
    ∙ same_count f c.in_ok-places.places.items c.in_ok-names.names (none_placed f _ _ c.as_slice-signals.ensures c.in_ok-places.ensures) (c.in_ok-names.ensures ∙ ap signal_names c.as_slice-signals.ensures)

pub returns : goal.returns
returns c =
    let f = c.args.flat.now in
    let names = c.in_ok-names.ensures ∙ ap signal_names c.as_slice-signals.ensures in
    let none = none_placed f _ _ c.as_slice-signals.ensures c.in_ok-places.ensures in
    let first = c.in_ok-add_assigns.ensures.placed ∙ (λ i. assigns_placed (names i) 0 (c.as_slice-assigns.ensures i) (none i)) in
    let all : graph_of c.add_blocks.new.lists.items ≡ places_in f = c.in_ok-add_blocks.ensures.placed ∙ (λ i. blocks_placed (names i) (length (c.as_slice-assigns.ensures i)) (c.as_slice-blocks.ensures i) (first i)) in
    places_are f c.requires.distinct c.add_blocks.new.lists.items all
