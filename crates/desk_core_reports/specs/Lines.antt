-- How lines were decided.
use Rattle.std.specs.Prelude.{Bool, true, false, List}
use Rattle.std.specs.List.{list_all}
use Rattle.job_pool.specs.declared.evidence.Evidence.{Evidence}
use Rattle.job_pool.specs.declared.evidence.Evidence.TheVariants as e
use Rattle.desk_core_reports.specs.declared.book.Line.{Line}
use Rattle.desk_core_reports.specs.declared.book.Verdict.{Verdict}
use Rattle.desk_core_reports.specs.declared.book.Verdict.TheVariants as v

abbrev pub verdict_of : Evidence → Verdict
verdict_of (e.Derivation steps) = v.Proved
verdict_of (e.Values us) = v.Refuted
verdict_of (e.Chain steps) = v.Spent

abbrev pub is_proved : Verdict → Bool
is_proved v.Proved = true
is_proved v.Refuted = false
is_proved v.Spent = false

abbrev pub all_proved : List Line → Bool
all_proved lines = list_all (λ l. is_proved l.verdict) lines
