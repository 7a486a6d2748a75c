use Rattle.std.proofs.Common.{List, map, ap, ◌∙◌}
use Rattle.std.proofs.lemmas.Result.{IfOk-weaker}
use Rattle.set_tree.specs.declared.set.Set.{Set}
use Rattle.set_tree.specs.Report.{design_lines}
use Rattle.unroll.specs.declared.design_line.DesignLine.{DesignLine}
use Rattle.unroll.specs.Named.{line_of as design_line_of}
use Rattle.desk_core_goals.proofs.goals.design_lines.Goals as goal

pub returns : goal.returns
returns c =
    IfOk-weaker c.told_of_design.result _ _ (λ lines told.
    told ∙ (ap (λ (ls : List DesignLine). map design_line_of ls) c.as_slice.ensures.value ∙ (c.in_ok-lines.ensures ∙ ap (λ (z : Set). design_lines z) (c.set-2.ensures.value ∙ c.set.ensures)))) c.told_of_design.ensures
