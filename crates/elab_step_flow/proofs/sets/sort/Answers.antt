use Rattle.std.proofs.lemmas.List.Sorted.{IsPermutation-trans}
use Rattle.elab_step_flow.proofs.sets.sort.Goals as goal

pub returns-in-Err-clause-permutation : goal.returns-in-Err-clause-permutation
returns-in-Err-clause-permutation c = IsPermutation-trans _ _ _ c.sort.ensures.permutation c.sort_unstable.ensures.permutation
