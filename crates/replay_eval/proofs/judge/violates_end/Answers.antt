use Rattle.std.proofs.Common.{refl, ◌≡◌, ℕ, false, subst, sym}
use Rattle.std.proofs.lemmas.Result.{IfOk-weaker}
use Rattle.replay_eval.specs.Judging.{IsSized}
use Rattle.replay_eval.proofs.Exact.{answered, refused, end_sized, end_exact}
use Rattle.replay_eval.proofs.judge.violates_end.Goals as goal

pub returns-then-not-is_sized : goal.returns-then-not-is_sized
returns-then-not-is_sized c =
    let missed : c.is_sized.result ≡ false = cc in
    refused c.is_sized.result _ _ c.is_sized.ensures missed (λ v. subst (λ (k : ℕ). IsSized c.args.set.now k c.args.rows.now) (sym c.window-end.ensures.window) (end_sized c.args.set.now c.args.at c.args.rows.now v))

pub returns : goal.returns
returns c = IfOk-weaker c.is_endless.result _ _ (λ i made. answered _ _ _ made (end_exact c.args.set.now c.args.at c.args.rows.now (subst (λ (k : ℕ). IsSized c.args.set.now k c.args.rows.now) c.window-end.ensures.window (c.if-not-is_sized.ensures.0 refl)))) c.is_endless.ensures
