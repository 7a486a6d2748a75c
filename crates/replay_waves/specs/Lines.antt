-- A counterexample as a waveform.
use Rattle.std.specs.Prelude.{List, [], ◌∷◌, map, ℕ}
use Rattle.std.specs.Option.{option_map}
use Rattle.set_tree.specs.declared.set.Name.{Name}
use Rattle.unroll_binding.specs.Binding.{Pair}
use Rattle.elab_step_design.specs.declared.design.Register.{Register}
use Rattle.replay.specs.declared.shown.Shown.{Shown}
use Rattle.replay.specs.declared.shown.Start.{Start}
use Rattle.replay.specs.declared.shown.Trace.{Trace}
use Rattle.replay_waves.specs.declared.wave.First.{First}
use Rattle.replay_waves.specs.declared.wave.Signal.{Signal}
use Rattle.replay_waves.specs.declared.wave.Wave.{Wave}

abbrev pub signal_of : Name → Signal
signal_of n = record { name = n.name; width = n.width }

-- the registers with their first values, where these are shown
abbrev pub firsts_of : List Register → List Start → List First
firsts_of [] starts = []
firsts_of (r ∷ rs) [] = []
firsts_of (r ∷ rs) (s ∷ ss) = record { name = s.name; width = r.width; value = s.value } ∷ firsts_of rs ss

abbrev pub rows_of : Trace → List (List ℕ)
rows_of trace = trace.rows

-- the declared names of the set over the cycles that are shown, and the first values of the design's registers
abbrev pub wave_of : Pair → Shown → Wave
wave_of b shown = record {
  clock = b.set.clock;
  signals = map signal_of b.set.names;
  firsts = firsts_of b.design.registers shown.start;
  before = shown.before;
  first = rows_of shown.first;
  second = option_map rows_of shown.second;
}
