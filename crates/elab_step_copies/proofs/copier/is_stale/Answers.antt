use Rattle.std.proofs.Common.{ℕ, List, ◌≤◌, length, get_or, refl, sym, subst}
use Rattle.vlog_tree_runs.specs.Places.{Among}
use Rattle.elab_step_blocks.proofs.Joins.{take_all}
use Rattle.elab_step_copies.proofs.Forgetting.{fresh_more, number_among}
use Rattle.elab_step_copies.proofs.copier.is_stale.Goals as goal

pub is_other-requires : goal.is_other-requires
is_other-requires c = c.requires _ (number_among c.args.numbers.now c.loop-number.number-index 0 c.loop-number-test.true)

pub loop-number-preserved : goal.loop-number-preserved
loop-number-preserved c =
    let k = c.loop-number.number-index in
    fresh_more c.args.copies.now c.args.numbers.now k (get_or c.args.numbers.now k 0) c.args.node c.loop-number-test.true refl (c.is_other.ensures c.if-is_other.false) c.loop-number.invariant

pub returns : goal.returns
returns c none n i m is =
    let le : length c.args.numbers.now ≤ c.loop-number.number-index = c.loop-number-test.false in
    c.loop-number.invariant n i (subst (λ (z : List ℕ). Among z n) (sym (take_all c.args.numbers.now c.loop-number.number-index le)) m) is
