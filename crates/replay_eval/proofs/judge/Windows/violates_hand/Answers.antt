use Rattle.std.proofs.Common.{refl, ◌≡◌, ℕ, false, subst, sym}
use Rattle.std.proofs.lemmas.Result.{IfOk-weaker}
use Rattle.replay_eval.specs.Judging.{AreSized}
use Rattle.replay_eval.proofs.Exact.{answered, refused, hand_sized, hand_exact}
use Rattle.replay_eval.proofs.judge.Windows.violates_hand.Goals as goal

pub returns-then-not-are_sized : goal.returns-then-not-are_sized
returns-then-not-are_sized c =
    let missed : c.are_sized.result ≡ false = cc in
    refused c.are_sized.result _ _ c.are_sized.ensures missed (λ v. subst (λ (k : ℕ). AreSized c.args.self.now.set.now k c.args.self.now.one.now c.args.self.now.other.now) (sym c.edge-end.ensures.edge) (hand_sized c.args.self.now.set.now c.args.at c.args.next c.args.n c.args.self.now.one.now c.args.self.now.other.now v))

pub returns : goal.returns
returns c = IfOk-weaker c.hands_apart.result _ _ (λ i made. answered _ _ _ made (hand_exact c.args.self.now.set.now c.args.at c.args.next c.args.n c.args.self.now.one.now c.args.self.now.other.now (subst (λ (k : ℕ). AreSized c.args.self.now.set.now k c.args.self.now.one.now c.args.self.now.other.now) c.edge-end.ensures.edge (c.if-not-are_sized.ensures.0 refl)))) c.hands_apart.ensures
