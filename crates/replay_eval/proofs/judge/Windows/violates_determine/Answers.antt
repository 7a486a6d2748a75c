use Rattle.std.proofs.Common.{◌≡◌, ◌<◌, ℕ, false, refl, subst, sym, ap, arith}
use Rattle.std.proofs.lemmas.Result.{IfOk-weaker}
use Rattle.set_tree.specs.declared.set.Property.{Property}
use Rattle.set_tree.specs.Parts.{property_at}
use Rattle.replay_eval.specs.Judging.{AreSized}
use Rattle.replay_eval.proofs.Exact.{answered, refused, determine_sized, determine_exact, determine_late}
use Rattle.replay_eval.proofs.judge.Windows.violates_determine.Goals as goal

pub returns-then-n-property : goal.returns-then-n-property
returns-then-n-property c =
    let same : c.property_at-property.result.now.length.high ≡ (property_at c.args.self.now.set.now c.args.at).length.high = ap (λ (p : Property). p.length.high) c.property_at-property.ensures.same in
    let lt : (property_at c.args.self.now.set.now c.args.at).length.high < c.args.n = omega (arith, same, c.if-n-property.true) in
    (λ t. cc, λ v. absurd (determine_late c.args.self.now.set.now c.args.at c.args.n c.args.self.now.one.now c.args.self.now.other.now c.property_at-property.ensures.structure.sound c.requires lt v))

pub returns-then-not-are_sized : goal.returns-then-not-are_sized
returns-then-not-are_sized c =
    let missed : c.are_sized.result ≡ false = cc in
    refused c.are_sized.result _ _ c.are_sized.ensures missed (λ v. subst (λ (k : ℕ). AreSized c.args.self.now.set.now k c.args.self.now.one.now c.args.self.now.other.now) (sym c.window-end.ensures.window) (determine_sized c.args.self.now.set.now c.args.at c.args.n c.args.self.now.one.now c.args.self.now.other.now v))

pub returns : goal.returns
returns c = IfOk-weaker c.ends_undetermined.result _ _ (λ i made. answered _ _ _ made (determine_exact c.args.self.now.set.now c.args.at c.args.n c.args.self.now.one.now c.args.self.now.other.now (subst (λ (k : ℕ). AreSized c.args.self.now.set.now k c.args.self.now.one.now c.args.self.now.other.now) c.window-end.ensures.window (c.if-not-are_sized.ensures.0 refl)))) c.ends_undetermined.ensures
