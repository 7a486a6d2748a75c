use Rattle.meet_lines.proofs.Testing.{met_lines_have_values, values_meet_lines}
use Rattle.meet_lines.proofs.laws.met_lines_have_values.Goals as goal

pub returns-clause-named : goal.returns-clause-named
returns-clause-named c = met_lines_have_values

pub returns-clause-met : goal.returns-clause-met
returns-clause-met c = values_meet_lines
