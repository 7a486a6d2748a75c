-- What is said, and with which status.
use Rattle.std.specs.Prelude.{ℕ, Bool, true, false, List, [], ◌∷◌, ◌++◌, length, count_by, Option, Some, None, codes, if◌then◌else◌}
use Rattle.std.specs.Fmt.{decimal}
use Rattle.std.specs.List.{list_any}
use Rattle.least_trace.specs.declared.ends.LeastEnd.{LeastEnd}
use Rattle.least_trace.specs.declared.ends.LeastEnd.TheVariants.{Found, Stopped}
use Rattle.proof_store.specs.declared.moving.Moved.{Moved}
use Rattle.replay.specs.declared.shown.Shown.{Shown}
use Rattle.replay.specs.Texts.{trace_text}
use Rattle.desk_core_reports.specs.declared.book.Book.{Book}
use Rattle.desk_core_reports.specs.declared.book.Line.{Line}
use Rattle.desk_core_reports.specs.declared.book.Verdict.{Verdict}
use Rattle.desk_core_reports.specs.declared.book.Verdict.TheVariants as v
use Rattle.desk_core_reports.specs.declared.report.Report.{Report}
use Rattle.desk_core_commands.specs.declared.which.Which.{Which}
use Rattle.desk_core_commands.specs.declared.which.Which.TheVariants as w
use Rattle.desk_core_reports.specs.Lines.{is_proved}
use Rattle.desk_core_reports.specs.Reports.{last_line}
use Rattle.signoff_call.specs.declared.answer.Answer.{Answer}
use Rattle.signoff_call.specs.declared.texts.Counts.{Counts}

-- ---- reports

abbrev pub is_refuted : Verdict → Bool
is_refuted v.Proved = false
is_refuted v.Refuted = true
is_refuted v.Spent = false

abbrev pub is_spent : Verdict → Bool
is_spent v.Proved = false
is_spent v.Refuted = false
is_spent v.Spent = true

-- 1 where a line is refuted, else 10 where one is spent, else 0
abbrev pub status_from : List Verdict → ℕ
status_from vs = if list_any is_refuted vs then 1 else if list_any is_spent vs then 10 else 0

-- a refuted line's counterexample stands for the report
abbrev pub traced : Option Shown → List ℕ → List ℕ → List ℕ
traced None name text = text
traced (Some shown) name text = trace_text name shown

abbrev pub first_traced : List Line → List ℕ → List ℕ
first_traced [] text = text
first_traced (l ∷ lines) text = traced l.trace l.name text

-- whether what is shown is the least counterexample
abbrev pub least_line : Option LeastEnd → List ℕ
least_line None = []
least_line (Some (Found values excluded)) = codes "least\n"
least_line (Some (Stopped values bit chain)) = codes "not least\n"

abbrev pub report_bytes : Which → Book → Report → List ℕ
report_bytes w.Ops book r = r.text
report_bytes w.All book r = r.text
report_bytes (w.One name) book r = first_traced book.lines.items r.text
report_bytes (w.Least name) book r = first_traced book.lines.items r.text ++ least_line book.least

-- a number and a word
abbrev pub counted_word : ℕ → List ℕ → List ℕ
counted_word n word = decimal n ++ word

-- the summary of a generated check
abbrev pub summary_line : ℕ → List Verdict → List ℕ
summary_line n vs =
    (((((codes "demo " ++ counted_word n (codes ": ")) ++ counted_word (length vs) (codes " lines, ")) ++ counted_word (count_by is_proved vs) (codes " proved, "))
    ++ counted_word (count_by is_refuted vs) (codes " refuted, ")) ++ counted_word (count_by is_spent vs) (codes " spent\n"))

abbrev pub summary : ℕ → Report → List ℕ
summary n r = summary_line n r.verdicts.items ++ last_line w.All r.complete

abbrev pub counted : List Verdict → Counts
counted vs = record { proved = count_by is_proved vs; refuted = count_by is_refuted vs; spent = count_by is_spent vs }

-- what became of the rows of kept proofs
abbrev pub moved_line : Moved → List ℕ
moved_line m =
    counted_word m.moved (codes ", left ") ++ (counted_word m.left (codes "\n") ++ (if m.more then codes "more\n" else []))

abbrev pub moved_text : Moved → List ℕ
moved_text m = codes "migrated " ++ moved_line m

-- ---- answers

abbrev pub refusal : ℕ → List ℕ → Answer
refusal status line = record { status = status; bytes = line ++ 10 ∷ []; reports = false }

abbrev pub reported : List Verdict → List ℕ → Answer
reported vs bytes = record { status = status_from vs; bytes = bytes; reports = true }

-- 1 where a line is met by nothing, else 10 where one is spent, else 0
abbrev pub meet_status : List Verdict → ℕ
meet_status vs = if list_any is_proved vs then 1 else if list_any is_spent vs then 10 else 0

-- what is said of what can be met
abbrev pub met : Report → Answer
met r = record { status = meet_status r.verdicts.items; bytes = r.text; reports = true }

-- status 0 and these bytes
abbrev pub done : List ℕ → Answer
done bytes = record { status = 0; bytes = bytes; reports = true }
