use Rattle.std.proofs.Common.{refl, ◌≡◌, ℕ, false, subst, sym}
use Rattle.std.proofs.lemmas.Result.{IfOk-weaker}
use Rattle.replay_eval.specs.Judging.{AreSized}
use Rattle.replay_eval.proofs.Exact.{answered, refused, same_end_sized, same_end_exact}
use Rattle.replay_eval.proofs.judge.Windows.violates_same_end.Goals as goal

pub returns-then-not-are_sized : goal.returns-then-not-are_sized
returns-then-not-are_sized c =
    let missed : c.are_sized.result ≡ false = cc in
    refused c.are_sized.result _ _ c.are_sized.ensures missed (λ v. subst (λ (k : ℕ). AreSized c.args.self.now.set.now k c.args.self.now.one.now c.args.self.now.other.now) (sym c.window-end.ensures.window) (same_end_sized c.args.self.now.set.now c.args.at c.args.self.now.one.now c.args.self.now.other.now v))

pub returns : goal.returns
returns c = IfOk-weaker c.end_apart.result _ _ (λ i made. answered _ _ _ made (same_end_exact c.args.self.now.set.now c.args.at c.args.self.now.one.now c.args.self.now.other.now (subst (λ (k : ℕ). AreSized c.args.self.now.set.now k c.args.self.now.one.now c.args.self.now.other.now) c.window-end.ensures.window (c.if-not-are_sized.ensures.0 refl)))) c.end_apart.ensures
