use Rattle.std.proofs.Common.{◌≡◌, ◌<◌, ℕ, false, refl, subst, sym, ap, arith}
use Rattle.std.proofs.lemmas.Result.{IfOk-weaker}
use Rattle.set_tree.specs.declared.set.Property.{Property}
use Rattle.set_tree.specs.Parts.{property_at}
use Rattle.replay_eval.specs.Judging.{IsSized}
use Rattle.replay_eval.proofs.Exact.{answered, refused, split_sized, split_exact, split_late}
use Rattle.replay_eval.proofs.Properties.{next_positions, last_listed}
use Rattle.replay_eval.proofs.judge.violates_split.Goals as goal

pub returns-then-n-property : goal.returns-then-n-property
returns-then-n-property c =
    let same : c.property_at-property.result.now.length.high ≡ (property_at c.args.set.now c.args.at).length.high = ap (λ (p : Property). p.length.high) c.property_at-property.ensures.same in
    let lt : (property_at c.args.set.now c.args.at).length.high < c.args.n = omega (arith, same, c.if-n-property.true) in
    (λ t. cc, λ v. absurd (split_late c.args.set.now c.args.at c.args.n c.args.rows.now c.property_at-property.ensures.structure.sound c.requires lt v))

pub last_row-end-requires-clause-positions : goal.last_row-end-requires-clause-positions
last_row-end-requires-clause-positions c =
    next_positions c.args.set.now c.property_at-property.result.now c.args.at c.as_slice.result.now c.property_at-property.ensures.structure c.requires c.property_at-property.ensures.same c.as_slice.ensures

pub returns-then-not-is_sized : goal.returns-then-not-is_sized
returns-then-not-is_sized c =
    let missed : c.is_sized.result ≡ false = cc in
    let end = last_listed c.args.set.now c.property_at-property.result.now c.args.at c.args.n c.last_row-end.result c.as_slice.result.now c.property_at-property.ensures.same c.as_slice.ensures c.last_row-end.ensures.last in
    refused c.is_sized.result _ _ c.is_sized.ensures missed (λ v. subst (λ (k : ℕ). IsSized c.args.set.now k c.args.rows.now) (sym end) (split_sized c.args.set.now c.args.at c.args.n c.args.rows.now v))

pub is_split-requires-clause-size : goal.is_split-requires-clause-size
is_split-requires-clause-size c =
    let end = last_listed c.args.set.now c.property_at-property.result.now c.args.at c.args.n c.last_row-end.result c.as_slice.result.now c.property_at-property.ensures.same c.as_slice.ensures c.last_row-end.ensures.last in
    let size = (c.if-not-is_sized.ensures.0 refl).size in
    omega (arith, end, size)

pub returns : goal.returns
returns c =
    IfOk-weaker c.is_split.result _ _ (λ i made.
    let end = last_listed c.args.set.now c.property_at-property.result.now c.args.at c.args.n c.last_row-end.result c.as_slice.result.now c.property_at-property.ensures.same c.as_slice.ensures c.last_row-end.ensures.last in
    answered _ _ _ made (split_exact c.args.set.now c.args.at c.args.n c.args.rows.now (subst (λ (k : ℕ). IsSized c.args.set.now k c.args.rows.now) end (c.if-not-is_sized.ensures.0 refl)))) c.is_split.ensures
