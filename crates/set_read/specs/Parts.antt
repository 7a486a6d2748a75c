-- Parts that the reader holds on their own, what spells them, and their heights.
use Rattle.std.specs.Prelude.{ℕ, ◌+◌, ◌<◌, ◌≡◌, max, List, Bool, true, codes}
use Rattle.vlog_tree.specs.declared.token.Token.{Token}
use Rattle.vlog_tree.specs.Lists.{highest}
use Rattle.vlog_tree.specs.Signs.{IsWord}
use Rattle.vlog_tree.specs.Spelling.{IsNamed, height}
use Rattle.set_tree.specs.declared.text.SetText.{SetText}
use Rattle.set_tree.specs.Spelling.{SpellsTail, SpellsConditions, SpellsHead, SpellsSet, level_word}
use Rattle.set_read.specs.declared.fault.TextFault.{TextFault}
use Rattle.set_read.specs.declared.property.Tail.{Tail}
use Rattle.set_read.specs.declared.property.Conditions.{Conditions}
use Rattle.set_read.specs.declared.property.SetHead.{SetHead}
use Rattle.set_read.specs.Answers.{Denies}
use Rattle.set_read.specs.Heights.{length_height, set_height}

abbrev pub tail_height : Tail → ℕ
tail_height x = highest height x.hand

abbrev pub conditions_height : Conditions → ℕ
conditions_height x = max (length_height x.length) (max (highest height x.assume) (highest height x.commit))

module _ (ts : List Token) where
  abbrev pub SpellsTailOf : ℕ → Tail → ℕ → Type 0
  SpellsTailOf i x j = SpellsTail ts i x.hand x.covers x.next j

  abbrev pub SpellsConditionsOf : ℕ → Conditions → ℕ → Type 0
  SpellsConditionsOf i x j = SpellsConditions ts i x.length x.window x.assume x.commit j

  abbrev pub SpellsHeadOf : ℕ → SetHead → ℕ → Type 0
  SpellsHeadOf i x j = SpellsHead ts i x.block x.clock x.reset x.high x.cycles j

  -- `operation name`
  abbrev pub SpellsOperationHead : ℕ → List ℕ → ℕ → Type 0
  SpellsOperationHead i name j = IsWord ts i (codes "operation") × IsNamed true ts (i + 1) name (i + 2) × (j ≡ i + 2)

  -- `property reset`
  abbrev pub SpellsResetHead : ℕ → Type 0
  SpellsResetHead i = IsWord ts i (codes "property") × IsWord ts (i + 1) (codes "reset")

  abbrev pub SpellsLevel : ℕ → Bool → ℕ → Type 0
  SpellsLevel i high j = IsWord ts i (level_word high) × (j ≡ i + 1)

  -- each set that is spelt is refused
  abbrev pub DeniesSets : TextFault → Type 0
  DeniesSets fault = (t : SetText) → SpellsSet ts t → Denies (500 < set_height t) fault
