use Rattle.std.proofs.Common.{◌++◌, map, refl, ◌∙◌}
use Rattle.std.specs.List.{flat_map}
use Rattle.vlog_tree_runs.specs.declared.flat.Signal.{Signal}
use Rattle.elab_flat_faults.specs.Declaring.{words_of}
use Rattle.mem_laws.specs.Spread.{assigned_in, keeper}
use Rattle.mem_faults.specs.Held.{idle_of}
use Rattle.mem_faults.proofs.Growing.{next, ended}
use Rattle.mem_faults.proofs.Keeping.{keepers_more}
use Rattle.mem_flat.proofs.idle.keepers.Goals as goal

pub loop-signal-preserved : goal.loop-signal-preserved
loop-signal-preserved c =
    let ns = assigned_in c.args.blocks.now in
    let g = c.signal-item.result in
    next (λ zs. map keeper (idle_of ns (flat_map words_of zs))) c.args.signals.now c.loop-signal.signal-index g _ _ _ (map keeper (idle_of ns (words_of g))) c.loop-signal-test.true c.signal-item.is (λ zs. keepers_more ns g zs)
    (c.in_ok-add_keepers.ensures ∙ (λ i. c.loop-signal.all ++ map keeper (idle_of (c.in_ok-names.ensures i) (map (λ (w : Signal). w.name) ((c.as_slice.ensures ∙ c.in_ok-words.ensures) i))))) c.loop-signal.invariant

pub returns : goal.returns
returns c =
    let ns = assigned_in c.args.blocks.now in
    ended (λ zs. map keeper (idle_of ns (flat_map words_of zs))) c.args.signals.now c.loop-signal.signal-index _ _ refl c.loop-signal-test.false c.loop-signal.invariant
