use Rattle.std.proofs.Common.{◌≡◌, eqb, sym, subst}
use Rattle.std.specs.List.{Contains, dedup}
use Rattle.std.proofs.lemmas.List.Filters.{dedup_is}
use Rattle.std.proofs.lemmas.List.Kept.{Contains-dedup_nat, Contains-from_dedup}
use Rattle.std.proofs.lemmas.List.Sorted.{Contains-permutation, IsPermutation-sym}
use Rattle.elab_step_blocks.proofs.places.distinct.Goals as goal

pub returns : goal.returns
returns c =
    let xs = c.args.numbers.items in
    let ys = c.sort.new.self.items in
    let zs = c.dedup.new.self.items in
    let moved = c.in_ok-sort.ensures.permutation in
    let is : zs ≡ dedup eqb ys = dedup_is eqb ys zs c.dedup.ensures.filtered in
    λ k. (
      λ m. Contains-permutation ys xs k (IsPermutation-sym xs ys moved) (Contains-from_dedup eqb ys k (subst (λ r. Contains r k) is m)),
      λ m. subst (λ r. Contains r k) (sym is) (Contains-dedup_nat ys k (Contains-permutation xs ys k moved m)),
    )
