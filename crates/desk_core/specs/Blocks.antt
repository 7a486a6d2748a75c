-- Blocks at the desk: their texts, and what was reported of them.
use Rattle.std.specs.Prelude.{ℕ, suc, nat_eq, Bool, false, List, [], ◌∷◌, ◌++◌, codes, find, Option, Some, None, option_map, unwrap_or, if◌then◌else◌}
use Rattle.std.specs.FinMap.{get}
use Rattle.std.specs.List.{ends_with}
use Rattle.std.specs.Str.{bytes_eq}
use Rattle.outside.specs.declared.rows.Block.{Block}
use Rattle.outside.specs.declared.rows.TraceText.{TraceText}
use Rattle.outside.specs.Tables.{Tables, with_block}
use Rattle.replay.specs.declared.shown.Shown.{Shown}
use Rattle.replay.specs.Texts.{trace_text}
use Rattle.desk_core_reports.specs.declared.book.Line.{Line}

-- a block with these texts, of which nothing is reported
abbrev pub unreported : Option (List ℕ) → Option (List ℕ) → Block
unreported m s = record { «module» = m; set = s; report = None; traces = [] }

-- the block of a name; where there is none, one without texts
abbrev pub block_at : List ℕ → Tables → Block
block_at name t = unwrap_or (get t.blocks name) (unreported None None)

abbrev pub is_text : List ℕ → Option (List ℕ) → Bool
is_text text None = false
is_text text (Some held) = bytes_eq held text

-- a text that isn't the block's already takes the place of that one, and report and traces are taken away
abbrev pub with_module : List ℕ → List ℕ → Tables → Tables
with_module name text t =
    if is_text text (block_at name t).module then t else with_block name (unreported (Some text) (block_at name t).set) t

abbrev pub with_set : List ℕ → List ℕ → Tables → Tables
with_set name text t =
    if is_text text (block_at name t).set then t else with_block name (unreported (block_at name t).module (Some text)) t

-- the traces of lines that have one; the first line has this number
abbrev pub trace_of : ℕ → List ℕ → Option Shown → List TraceText
trace_of n name None = []
trace_of n name (Some shown) = record { line = n; text = trace_text name shown } ∷ []

abbrev pub traces_from : ℕ → List Line → List TraceText
traces_from n [] = []
traces_from n (l ∷ ls) = trace_of n l.name l.trace ++ traces_from (suc n) ls

-- the trace of the line of this number
abbrev pub trace_at : ℕ → List TraceText → Option (List ℕ)
trace_at n traces = option_map (λ t. t.text) (find (λ t. nat_eq t.line n) traces)

-- the block with what was reported of these lines
abbrev pub reported : Block → List ℕ → List Line → Block
reported b text lines = record b { report = Some text; traces = traces_from 1 lines }

-- the last line of a report is `signed off`
abbrev pub is_signed_off : List ℕ → Bool
is_signed_off text = ends_with nat_eq text (codes "\nsigned off\n")
