use Rattle.std.proofs.Common.{◌+◌, ◌∷◌, [], get_or, drop, arith, refl}
use Rattle.std.proofs.lemmas.List.{drop_more, drop_all}
use Rattle.std.proofs.lemmas.Slice.{pushed}
use Rattle.proof_store_records.proofs.DistanceLemmas.{hints_more, hints_stuck, hints_all}
use Rattle.proof_store_records.proofs.hints.told_hints.Goals as goal

pub returns-in_default-hint_after : goal.returns-in_default-hint_after
returns-in_default-hint_after c =
    let later = c.in-Some.later.now in
    let i = c.loop-number.number-index in
    hints_stuck c.args.numbers.now (drop i later) (drop (i + 1) later) c.loop-number.hints.items c.loop-number.before (get_or later i 0) c.loop-number.invariant (drop_more later i 0 (omega arith)) c.in_default-hint_after.ensures

pub loop-number-preserved : goal.loop-number-preserved
loop-number-preserved c =
    let later = c.in-Some.later.now in
    let i = c.loop-number.number-index in
    let hint = c.in-Some-hint_after.hint in
    let items = pushed (hint ∷ []) refl c.in_ok-push-2.was c.push-in-loop-number.ensures.items in
    rw items (hints_more c.args.numbers.now (drop i later) (drop (i + 1) later) c.loop-number.hints.items c.loop-number.before (get_or later i 0) hint c.loop-number.invariant (drop_more later i 0 (omega arith))
    c.in-Some-hint_after.ensures.0 c.in-Some-hint_after.ensures.1)

pub returns : goal.returns
returns c =
    let later = c.in-Some.later.now in
    let i = c.loop-number.number-index in
    (c.loop-number.invariant.below, hints_all c.args.numbers.now (drop i later) c.loop-number.hints.items c.loop-number.before c.loop-number.invariant (drop_all i later (omega arith)))
