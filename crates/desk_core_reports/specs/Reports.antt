-- The text of a report.
use Rattle.std.specs.Prelude.{ℕ, ◌&&◌, Bool, true, false, List, [], ◌∷◌, ◌++◌, codes, if◌then◌else◌}
use Rattle.std.specs.List.{flat_map}
use Rattle.desk_core_reports.specs.declared.book.Line.{Line}
use Rattle.desk_core_reports.specs.declared.book.Verdict.{Verdict}
use Rattle.desk_core_reports.specs.declared.book.Verdict.TheVariants as v
use Rattle.desk_core_commands.specs.declared.which.Which.{Which}
use Rattle.desk_core_commands.specs.declared.which.Which.TheVariants as w
use Rattle.desk_core_reports.specs.Lines.{all_proved}

abbrev pub verdict_word : Verdict → List ℕ
verdict_word v.Proved = codes "proved "
verdict_word v.Refuted = codes "refuted "
verdict_word v.Spent = codes "spent "

abbrev pub line_text : Line → List ℕ
line_text l = verdict_word l.verdict ++ (l.name ++ 10 ∷ [])

-- what all lines together come to; one line alone says nothing more
abbrev pub last_line : Which → Bool → List ℕ
last_line w.Ops b = if b then codes "satisfied\n" else codes "not satisfied\n"
last_line w.All b = if b then codes "signed off\n" else codes "not signed off\n"
last_line (w.One name) b = []
last_line (w.Least name) b = []

abbrev pub report_text : Which → List Line → List ℕ
report_text which lines = flat_map line_text lines ++ last_line which (all_proved lines)

abbrev pub is_all : Which → Bool
is_all w.Ops = false
is_all w.All = true
is_all (w.One name) = false
is_all (w.Least name) = false

-- all lines of the report were asked for and proved
abbrev pub is_complete : Which → List Line → Bool
is_complete which lines = is_all which && all_proved lines
