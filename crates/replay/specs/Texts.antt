-- The text of a counterexample.
use Rattle.std.specs.Prelude.{ℕ, suc, ◌-◌, nat_lt, List, [], ◌∷◌, ◌++◌, codes, map, Option, Some, None, if◌then◌else◌}
use Rattle.std.specs.Fmt.{decimal}
use Rattle.std.specs.List.{flat_map}
use Rattle.word_dag.specs.Text.{line}
use Rattle.replay.specs.declared.shown.Shown.{Shown}
use Rattle.replay.specs.declared.shown.Start.{Start}
use Rattle.replay.specs.declared.shown.Trace.{Trace}

-- the number of a cycle: reset cycles are numbered from -k to -1
abbrev pub cycle_number : ℕ → ℕ → List ℕ
cycle_number before i = if nat_lt i before then 45 ∷ decimal (before - i) else decimal (i - before)

-- a cycle: its number and the values
abbrev pub row_line : ℕ → ℕ → List ℕ → List ℕ
row_line before i row = line (cycle_number before i) (map decimal row)

-- the cycles, the first of which has this place
abbrev pub row_lines : ℕ → ℕ → List (List ℕ) → List ℕ
row_lines before i [] = []
row_lines before i (row ∷ rows) = row_line before i row ++ row_lines before (suc i) rows

-- a trace: `cycle` and the names, and then a line for each cycle
abbrev pub table : ℕ → Trace → List ℕ
table before trace = line (codes "cycle") trace.names ++ row_lines before 0 trace.rows

-- a register's first value
abbrev pub start_line : Start → List ℕ
start_line start = line (codes "start") (start.name ∷ decimal start.value ∷ [])

abbrev pub start_lines : List Start → List ℕ
start_lines starts = flat_map start_line starts

-- one trace, or two under their names
abbrev pub tables : ℕ → Trace → Option Trace → List ℕ
tables before first None = table before first
tables before first (Some second) = codes "first" ++ (10 ∷ table before first) ++ (codes "second" ++ (10 ∷ table 0 second))

-- what is shown: the registers' first values, and the traces
abbrev pub shown_text : Shown → List ℕ
shown_text shown = start_lines shown.start ++ tables shown.before shown.first shown.second

-- the whole text: the line that is refuted, and what is shown of it
abbrev pub trace_text : List ℕ → Shown → List ℕ
trace_text name shown = line (codes "refuted") (name ∷ []) ++ shown_text shown
