use Rattle.std.proofs.Common.{◌≡◌, ◌+◌, ◌≤◌, drop}
use Rattle.std.specs.Prelude.{count_by}
use Rattle.desk_core_reports.specs.Lines.{is_proved}
use Rattle.signoff_call.specs.Answers.{is_refuted, is_spent}
use Rattle.signoff_call.proofs.texts.count_verdicts.Given as goal

-- those counted so far, with those that are left, are all
abbrev pub invariant-loop-verdict : goal.invariant-loop-verdict
invariant-loop-verdict l = record {
  proved : l.proved + count_by is_proved (drop l.verdict-index l.verdicts) ≡ count_by is_proved l.verdicts;
  refuted : l.refuted + count_by is_refuted (drop l.verdict-index l.verdicts) ≡ count_by is_refuted l.verdicts;
  spent : l.spent + count_by is_spent (drop l.verdict-index l.verdicts) ≡ count_by is_spent l.verdicts;
  few_proved : l.proved ≤ l.verdict-index;
  few_refuted : l.refuted ≤ l.verdict-index;
  few_spent : l.spent ≤ l.verdict-index;
}
