use Rattle.std.proofs.lemmas.List.Filters.{dedup_is}
use Rattle.std.proofs.lemmas.List.Kept.{Contains-dedup_nat, Contains-from_dedup}
use Rattle.std.proofs.lemmas.List.Sorted.{Contains-permutation, IsPermutation-sym}
use Rattle.std.proofs.lemmas.Map.Keys.{IsStrictlyIncreasing-dedup}
use Rattle.elab_step_flow.proofs.Rising.{contains_among, among_contains}
use Rattle.elab_step_flow.proofs.sets.put_in_order.Goals as goal

pub returns : goal.returns
returns c =
    let is = dedup_is _ _ _ c.dedup.ensures.filtered in
    let moved = c.sort.ensures.permutation in
    record {
      rises = rw is (IsStrictlyIncreasing-dedup _ c.sort.ensures.sorted);
      same = λ i. (
        λ h. contains_among _ i (Contains-permutation _ _ i (IsPermutation-sym _ _ moved) (Contains-from_dedup _ _ i (rw is at (among_contains _ i h)))),
        λ h. contains_among _ i (rw is (Contains-dedup_nat _ i (Contains-permutation _ _ i moved (among_contains _ i h)))),
      );
    }
