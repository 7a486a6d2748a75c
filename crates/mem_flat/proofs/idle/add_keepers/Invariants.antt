use Rattle.std.proofs.Common.{◌≡◌, ◌++◌, drop, map}
use Rattle.mem_laws.specs.Spread.{keeper}
use Rattle.mem_faults.specs.Held.{idle_of}
use Rattle.mem_flat.proofs.idle.add_keepers.Given as goal

abbrev pub invariant-loop-word : goal.invariant-loop-word
invariant-loop-word l = l.all ++ map keeper (idle_of l.names (map (λ w. w.name) (drop l.word-index l.words))) ≡ l.initial.all ++ map keeper (idle_of l.names (map (λ w. w.name) l.words))
