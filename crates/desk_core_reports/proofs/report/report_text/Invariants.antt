use Rattle.std.proofs.Common.{◌≡◌, take}
use Rattle.std.specs.List.{flat_map}
use Rattle.desk_core_reports.specs.Reports.{line_text}
use Rattle.desk_core_reports.proofs.report.report_text.Given as goal

-- the text so far
abbrev pub invariant-loop-line : goal.invariant-loop-line
invariant-loop-line l = l.text.items ≡ flat_map line_text (take l.line-index l.lines)
