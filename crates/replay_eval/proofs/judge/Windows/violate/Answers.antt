use Rattle.std.proofs.Common.{◌≡◌, true, false, refl, sym, ◌∙◌}
use Rattle.std.proofs.lemmas.Result.{IfOk-weaker}
use Rattle.replay_eval.proofs.judge.Windows.violate.Goals as goal

pub returns-then-not-names_properties : goal.returns-then-not-names_properties
returns-then-not-names_properties c =
    let missed : c.names_properties.result ≡ false = cc in
    (λ t. cc, λ v. let t : c.names_properties.result ≡ true = c.names_properties.ensures.1 v.0 in let clash : true ≡ false = sym t ∙ missed in cc)

pub returns : goal.returns
returns c = IfOk-weaker c.violate_known.result _ _ (λ i made. (λ t. (c.if-not-names_properties.ensures.0 refl, made.0 t), λ v. made.1 v.1)) c.violate_known.ensures
