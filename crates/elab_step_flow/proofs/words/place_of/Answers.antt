use Rattle.std.proofs.Common.{◌≡◌, ◌+◌, ◌<◌, length, map, Some, None, Option, ℕ, sym, ◌∙◌, arith, List}
use Rattle.std.specs.Prelude.{IfSome}
use Rattle.vlog_tree_runs.specs.declared.flat.Signal.{Signal}
use Rattle.vlog_tree_runs.specs.Places.{Name}
use Rattle.elab_flat_scopes.specs.Finding.{place_in}
use Rattle.elab_flat_drivers.specs.Spots.{signal_name}
use Rattle.elab_step_flow.proofs.Marking.{place_below}
use Rattle.elab_step_flow.proofs.Setting.{names_length}
use Rattle.elab_step_flow.proofs.words.place_of.Goals as goal

below : (gs : List Signal) (x : Name) (o : Option ℕ) → o ≡ place_in (map signal_name gs) x → IfSome o (λ i. i < length gs)
below gs x None e = tt
below gs x (Some i) e =
    let h : i < 0 + length (map signal_name gs) = place_below 0 (map signal_name gs) x i (sym e) in
    let same : length (map signal_name gs) ≡ length gs = names_length gs in
    omega arith

pub returns : goal.returns
returns c =
    let e = c.place.ensures ∙ (λ i. place_in (c.requires i) ((c.bytes.ensures ∙ c.name_of.ensures.name) i)) in
    record { place = e; within = below c.args.signals.now _ c.place.result e }
