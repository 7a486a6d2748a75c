use Rattle.std.proofs.Common.{◌≡◌, ◌++◌, drop, map}
use Rattle.std.specs.List.{flat_map}
use Rattle.elab_flat_faults.specs.Declaring.{words_of}
use Rattle.mem_laws.specs.Spread.{assigned_in, keeper}
use Rattle.mem_faults.specs.Held.{idle_of}
use Rattle.mem_flat.proofs.idle.keepers.Given as goal

abbrev pub invariant-loop-signal : goal.invariant-loop-signal
invariant-loop-signal l =
    l.all ++ map keeper (idle_of (assigned_in l.blocks) (flat_map words_of (drop l.signal-index l.signals))) ≡ map keeper (idle_of (assigned_in l.blocks) (flat_map words_of l.signals))
