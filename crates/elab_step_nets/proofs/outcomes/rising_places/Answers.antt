use Rattle.std.proofs.Common.{◌≡◌, ◌≤◌, ℕ, List, eqb, length, arith, sym, ap, ◌∙◌, subst}
use Rattle.std.specs.List.{Contains, dedup}
use Rattle.std.proofs.lemmas.List.{take_all}
use Rattle.std.proofs.lemmas.List.Filters.{dedup_is}
use Rattle.std.proofs.lemmas.List.Kept.{Contains-dedup_nat, Contains-from_dedup}
use Rattle.std.proofs.lemmas.List.Sorted.{Contains-permutation, IsPermutation-sym}
use Rattle.std.proofs.lemmas.Map.Keys.{IsStrictlyIncreasing-dedup}
use Rattle.vlog_tree_runs.specs.Places.{Among}
use Rattle.elab_step_blocks.specs.Saving.{places_of}
use Rattle.elab_step_flow.proofs.Rising.{contains_among, among_contains}
use Rattle.elab_step_nets.proofs.outcomes.rising_places.Goals as goal

pub returns-clause-rises : goal.returns-clause-rises
returns-clause-rises c =
    let is = dedup_is _ _ _ c.dedup.ensures.filtered in
    rw is (IsStrictlyIncreasing-dedup _ c.in_ok-sort.ensures.sorted)

pub returns-clause-same : goal.returns-clause-same
returns-clause-same c =
    let ss = c.args.saved.now in
    let xs = c.loop-one.places.items in
    let ys = c.sort.new.self.items in
    let zs = c.dedup.new.self.items in
    let moved = c.in_ok-sort.ensures.permutation in
    let is : zs ≡ dedup eqb ys = dedup_is eqb ys zs c.dedup.ensures.filtered in
    let le : length ss ≤ c.loop-one.one-index = omega arith in
    let all : xs ≡ places_of ss = c.loop-one.invariant ∙ ap places_of (take_all c.loop-one.one-index ss le) in
    λ i. (
      λ h. subst (λ (r : List ℕ). Among r i) all (contains_among xs i (Contains-permutation ys xs i (IsPermutation-sym xs ys moved) (Contains-from_dedup eqb ys i (subst (λ r. Contains r i) is (among_contains zs i h))))),
      λ h. contains_among zs i (subst (λ r. Contains r i) (sym is) (Contains-dedup_nat ys i (Contains-permutation xs ys i moved (among_contains xs i (subst (λ (r : List ℕ). Among r i) (sym all) h))))),
    )
