use Rattle.std.proofs.Common.{◌≡◌, ◌<◌, ◌+◌, ◌⊎◌, ℕ}
use Rattle.std.specs.Prelude.{slice_index}
use Rattle.elab_flat_graphs.specs.Graphs.{Among}
use Rattle.elab_flat_graphs.proofs.levels.level_above.Given as goal

abbrev pub invariant-loop-i : goal.invariant-loop-i
invariant-loop-i l =
    ((k : ℕ) → k < l.i → slice_index l.levels (slice_index l.vertices k) < l.level)
    × ((l.level ≡ 0) ⊎ ((w : ℕ) × Among l.vertices w × (l.level ≡ slice_index l.levels w + 1)))
