use Rattle.std.proofs.Common.{◌≡◌, ℕ, ℤ, ap, ◌∙◌, to_z, of_z, w16}
use Rattle.std.specs.HashMap.{get}
use Rattle.std.specs.Prelude.{unwrap_or}
use Rattle.std.proofs.lemmas.Int.{to_z-of_z}
use Rattle.replay.specs.declared.values.Word.{Word}
use Rattle.replay.specs.Values.{same_word}
use Rattle.replay.proofs.values.value_at.Goals as goal

pub returns : goal.returns
returns c = λ e named.
    let word : ℤ → Word = λ t. record { name = c.args.name; side = c.args.side; cycle = t } in
    let found : ℤ → ℕ = λ t. unwrap_or (get same_word c.args.values.now.words (word t)) 0 in
    let back : to_z w16 (of_z w16 c.args.cycle) ≡ c.args.cycle = to_z-of_z w16 c.args.cycle c.ranges.cycle in
    c.unwrap_or.ensures ∙ (ap (λ o. unwrap_or o 0) (c.copied.ensures ∙ c.get.ensures.value) ∙ (ap found back ∙ named (word c.args.cycle)))
