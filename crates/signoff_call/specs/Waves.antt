-- What is shown as a waveform.
use Rattle.std.specs.Prelude.{ℕ, List, [], ◌∷◌, Option, Some, None}
use Rattle.unroll_binding.specs.Binding.{Pair}
use Rattle.replay.specs.declared.shown.Shown.{Shown}
use Rattle.desk_core_reports.specs.declared.book.Line.{Line}
use Rattle.replay_waves.specs.Waves.{wave_text}
use Rattle.replay_waves.specs.Lines.{wave_of}

-- a counterexample's waveform, and where there is none this text
abbrev pub waved : Pair → Option Shown → List ℕ → List ℕ
waved b None text = text
waved b (Some shown) text = wave_text (wave_of b shown)

abbrev pub first_waved : Pair → List Line → List ℕ → List ℕ
first_waved b [] text = text
first_waved b (l ∷ lines) text = waved b l.trace text
