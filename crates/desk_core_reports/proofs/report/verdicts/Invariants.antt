use Rattle.std.proofs.Common.{◌≡◌, map, take}
use Rattle.desk_core_reports.proofs.report.verdicts.Given as goal

-- the verdicts so far
abbrev pub invariant-loop-line : goal.invariant-loop-line
invariant-loop-line l = l.all.items ≡ map (λ d. d.verdict) (take l.line-index l.lines)
