use Rattle.std.proofs.Common.{List, map, ap, ◌∙◌}
use Rattle.std.proofs.lemmas.Result.{IfOk-weaker}
use Rattle.set_tree.specs.declared.set.Set.{Set}
use Rattle.set_tree.specs.Report.{set_lines}
use Rattle.twin_tests.specs.declared.set_line.SetLine.{SetLine}
use Rattle.twin_tests.specs.Ordering.{line_of as set_line_of}
use Rattle.desk_core_goals.proofs.goals.set_lines.Goals as goal

pub returns : goal.returns
returns c =
    IfOk-weaker c.told_of_set.result _ _ (λ lines told.
    told ∙ (ap (λ (ls : List SetLine). map set_line_of ls) c.as_slice.ensures.value ∙ (c.in_ok-lines.ensures ∙ ap (λ (z : Set). set_lines z) (c.set-2.ensures.value ∙ c.set.ensures)))) c.told_of_set.ensures
