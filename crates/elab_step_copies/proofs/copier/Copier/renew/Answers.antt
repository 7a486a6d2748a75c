use Rattle.std.proofs.Common.{List, ℕ, ◌≤◌, length, get_or, take, arith, sym, subst}
use Rattle.std.proofs.lemmas.List.{take_more}
use Rattle.elab_step_blocks.proofs.Joins.{take_all}
use Rattle.elab_step_copies.proofs.Forgetting.{Renewing, renewing_end, renewing_next, renewing_start}
use Rattle.elab_step_copies.proofs.copier.Copier.renew.Goals as goal

pub loop-place-init : goal.loop-place-init
loop-place-init c = renewing_start c.args.self.now c.args.leaves.now c.requires.sound

pub loop-place-preserved : goal.loop-place-preserved
loop-place-preserved c =
    let k = c.args.self.now in
    let ls = c.args.leaves.now in
    let places = c.args.places.now in
    let i = c.loop-place.place-index in
    let m = c.renew_leaf.new.self in
    subst (λ (z : List ℕ). Renewing k m ls z) (sym (take_more places i 0 c.loop-place-test.true)) (renewing_next k c.loop-place.self m ls (take i places) (get_or places i 0) c.loop-place.invariant c.in_ok-renew_leaf.ensures)

pub returns-clause-copies : goal.returns-clause-copies
returns-clause-copies c us a b copies moved =
    let k = c.args.self.now in
    let l = c.loop-place.self in
    let ls = c.args.leaves.now in
    let places = c.args.places.now in
    let le : length places ≤ c.loop-place.place-index = omega (arith, c.loop-place-test.false) in
    renewing_end k l us ls places a b (subst (λ (z : List ℕ). Renewing k l ls z) (take_all places c.loop-place.place-index le) c.loop-place.invariant) copies moved
