use Rattle.std.proofs.Common.{◌∙◌}
use Rattle.std.proofs.lemmas.Result.{IfOk-weaker}
use Rattle.twin_tests_laws.proofs.Roots.{tests_are_of_lines}
use Rattle.word_dag.proofs.Taken.{obligations_have_one_word_each}
use Rattle.twin_tests.proofs.Told.{ok_two}
use Rattle.twin_tests.proofs.obligation.obligation_of.Goals as goal

pub returns-clause-of_line : goal.returns-clause-of_line
returns-clause-of_line c =
    IfOk-weaker c.extract.result _ _ (λ i made m set line order test. tests_are_of_lines m set line order i.nodes i.root (λ e. made e ∙ test e)) c.extract.ensures.value

pub returns-clause-words : goal.returns-clause-words
returns-clause-words c = ok_two c.extract.result _ _ _ (λ i exact distinct. obligations_have_one_word_each c.args.dag.now c.args.root i exact distinct) c.extract.ensures.exact c.extract.ensures.distinct
