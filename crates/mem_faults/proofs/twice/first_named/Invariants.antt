use Rattle.std.proofs.Common.{drop, map}
use Rattle.vlog_tree_runs.specs.declared.flat.Signal.{Signal}
use Rattle.vlog_tree_runs.specs.Places.{Name, Among}
use Rattle.mem_faults.proofs.twice.first_named.Given as goal

abbrev pub invariant-loop-signal : goal.invariant-loop-signal
invariant-loop-signal l =
    (x : Name) → Among (map (λ (g : Signal). g.name) l.signals) x → Among l.names x → Among (map (λ (g : Signal). g.name) (drop l.signal-index l.signals)) x
