use Rattle.std.proofs.Common.{arith}
use Rattle.std.specs.Prelude.{nat_eq}
use Rattle.clause_check_texts.proofs.WordLemmas.{most_before}
use Rattle.clause_check_texts.proofs.ids.clause_number.Goals as goal

pub overflow_add-result-else-hint-inputs : goal.overflow_add-result-else-hint-inputs
overflow_add-result-else-hint-inputs c = omega (arith, c.place_of.ensures, most_before (λ j. nat_eq j c.args.hint.size) c.args.ids.now)
