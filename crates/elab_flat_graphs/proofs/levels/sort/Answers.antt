use Rattle.std.proofs.Common.{rules, arith, ◌≡◌, ◌+◌}
use Rattle.std.specs.Prelude.{slice_index}
use Rattle.std.proofs.lemmas.Fn.{always_returns_same}
use Rattle.std.proofs.lemmas.List.Sorted.{IsPermutation-trans, IsNonDecreasingBy-from_sort_by_key, ties_still_rise}
use Rattle.elab_flat_graphs.proofs.Levelling.{stand_by}
use Rattle.elab_flat_graphs.proofs.levels.sort.Goals as goal

pub returns-clause-same : goal.returns-clause-same
returns-clause-same c = IsPermutation-trans _ _ _ c.in_ok-sort_by_key.ensures.permutation c.sort_by_key-2.ensures.permutation

pub returns-clause-rises : goal.returns-clause-rises
returns-clause-rises c = IsNonDecreasingBy-from_sort_by_key (λ v. slice_index c.args.levels.now v) _ c.in_ok-sort_by_key-2.ensures.sorted (λ a r q h. search rules)

pub returns-clause-sorted : goal.returns-clause-sorted
returns-clause-sorted c k l =
    let keys = c.args.keys.now in
    let levels = c.args.levels.now in
    let by_keys = c.in_ok-sort_by_key.ensures.sorted (λ v. slice_index keys v) (always_returns_same _ (λ a r. r ≡ slice_index keys a.0.now) _ (λ a r q h. search rules)) in
    let stable = c.sort_by_key-2.ensures.stable (λ v. slice_index levels v) (always_returns_same _ (λ a r. r ≡ slice_index levels a.0.now) _ (λ a r q h. search rules)) in
    let rises = IsNonDecreasingBy-from_sort_by_key (λ v. slice_index levels v) _ c.in_ok-sort_by_key-2.ensures.sorted (λ a r q h. search rules) in
    stand_by levels keys _ _ (rises k (k + 1) 0 (omega arith) l) (λ e. ties_still_rise (λ v. slice_index keys v) (λ v. slice_index levels v) _ _ by_keys stable k 0 l e)
