use Rattle.vlog_read_lex.proofs.LongestLemmas.{first_places, runs_are_longest, signs_are_longest, signs_stand}
use Rattle.vlog_read_lex.proofs.law.longest.Goals as goal

pub returns-clause-first : goal.returns-clause-first
returns-clause-first c = first_places

pub returns-clause-runs : goal.returns-clause-runs
returns-clause-runs c = runs_are_longest

pub returns-clause-signs : goal.returns-clause-signs
returns-clause-signs c = signs_are_longest

pub returns-clause-stand : goal.returns-clause-stand
returns-clause-stand c = signs_stand
