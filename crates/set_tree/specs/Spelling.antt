-- Which sets a list of tokens spells: P i x j says that the tokens from place i up to place j spell x. The words of this
-- grammar are words only where they stand here; elsewhere they are names.
use Rattle.std.specs.Prelude.{ℕ, ◌+◌, ◌≡◌, ◌⊎◌, List, [], ◌∷◌, Option, Some, None, Bool, true, false, codes, length}
use Rattle.vlog_tree.specs.declared.token.Kind.TheVariants as k
use Rattle.vlog_tree.specs.declared.token.Number.{Number}
use Rattle.vlog_tree.specs.declared.token.Token.{Token}
use Rattle.vlog_tree.specs.declared.expr.Expr.{Expr}
use Rattle.vlog_tree.specs.Lists.{Maybe, Sequence, Separated, Comma}
use Rattle.vlog_tree.specs.Signs.{kind_at, IsSign, IsWord}
use Rattle.vlog_tree.specs.Spelling.{IsNamed, IsPath, Spells}
use Rattle.set_tree.specs.declared.set.Role.{Role}
use Rattle.set_tree.specs.declared.set.Role.TheVariants as role
use Rattle.set_tree.specs.declared.text.Bits.{Bits}
use Rattle.set_tree.specs.declared.text.CoverText.{CoverText}
use Rattle.set_tree.specs.declared.text.Declaration.{Declaration}
use Rattle.set_tree.specs.declared.text.EndText.{EndText}
use Rattle.set_tree.specs.declared.text.EndText.TheVariants as to
use Rattle.set_tree.specs.declared.text.LengthText.{LengthText}
use Rattle.set_tree.specs.declared.text.PropertyText.{PropertyText}
use Rattle.set_tree.specs.declared.text.RuleKind.{RuleKind}
use Rattle.set_tree.specs.declared.text.RuleKind.TheVariants as rule
use Rattle.set_tree.specs.declared.text.RuleText.{RuleText}
use Rattle.set_tree.specs.declared.text.SetText.{SetText}
use Rattle.set_tree.specs.declared.text.Until.{Until}

abbrev pub role_word : Role → List ℕ
role_word role.Input = codes "input"
role_word role.Output = codes "output"
role_word role.State = codes "state"

abbrev pub rule_word : RuleKind → List ℕ
rule_word rule.Constraint = codes "constraint"
rule_word rule.Invariant = codes "invariant"

abbrev pub level_word : Bool → List ℕ
level_word true = codes "high"
level_word false = codes "low"

module _ (ts : List Token) where
  -- decimal digits alone
  abbrev pub IsDigits : ℕ → ℕ → ℕ → Type 0
  IsDigits i v j = (n : Number) × (kind_at ts i ≡ Some (k.Number n)) × (n.plain ≡ true) × (v ≡ n.value) × (j ≡ i + 1)

  -- a word, what belongs to it, and a semicolon
  abbrev pub Clause : {A : Type 0} → List ℕ → (ℕ → A → ℕ → Type 0) → ℕ → A → ℕ → Type 0
  Clause word P i x j = (m : ℕ) × IsWord ts i word × P (i + 1) x m × IsSign ts m (codes ";") × (j ≡ m + 1)

  -- straight after the role, `signed` is the word of the grammar
  abbrev pub SpellsSigned : ℕ → Bool → ℕ → Type 0
  SpellsSigned i true j = IsWord ts i (codes "signed") × (j ≡ i + 1)
  SpellsSigned i false j = (IsWord ts i (codes "signed") → ⊥) × (i ≡ j)

  abbrev pub SpellsBits : ℕ → Bits → ℕ → Type 0
  SpellsBits i x j = IsSign ts i (codes "[") × IsDigits (i + 1) x.high (i + 2) × IsSign ts (i + 2) (codes ":") × IsDigits (i + 3) x.low (i + 4) × IsSign ts (i + 4) (codes "]") × (j ≡ i + 5)

  abbrev pub SpellsDomain : ℕ → Expr → ℕ → Type 0
  SpellsDomain i x j = IsWord ts i (codes "when") × Spells true ts (i + 1) x j

  -- an output alone may have a domain
  abbrev pub SpellsDomainOf : Role → ℕ → Option Expr → ℕ → Type 0
  SpellsDomainOf role.Output i x j = Maybe SpellsDomain i x j
  SpellsDomainOf role.Input i x j = (x ≡ None) × (i ≡ j)
  SpellsDomainOf role.State i x j = (x ≡ None) × (i ≡ j)

  abbrev pub SpellsDeclaration : ℕ → Declaration → ℕ → Type 0
  SpellsDeclaration i x j =
      (a b c d : ℕ) × IsWord ts i (role_word x.role) × SpellsSigned (i + 1) x.signed a × Maybe SpellsBits a x.bits b
      × IsPath ts b x.name c × SpellsDomainOf x.role c x.domain d × IsSign ts d (codes ";") × (j ≡ d + 1)

  abbrev pub SpellsRule : ℕ → RuleText → ℕ → Type 0
  SpellsRule i x j =
      (m : ℕ) × IsWord ts i (rule_word x.kind) × IsNamed true ts (i + 1) x.name (i + 2) × IsSign ts (i + 2) (codes ":")
      × Spells true ts (i + 3) x.formula m × IsSign ts m (codes ";") × (j ≡ m + 1)

  abbrev pub SpellsUntil : ℕ → Until → ℕ → Type 0
  SpellsUntil i x j = IsWord ts i (codes "to") × IsDigits (i + 1) x.high (i + 2) × IsWord ts (i + 2) (codes "until") × Spells true ts (i + 3) x.condition j

  abbrev pub SpellsLength : ℕ → LengthText → ℕ → Type 0
  SpellsLength i x j = IsDigits i x.low (i + 1) × Maybe SpellsUntil (i + 1) x.until j

  -- `+` and digits, or nothing for 0
  abbrev pub SpellsDistance : ℕ → ℕ → ℕ → Type 0
  SpellsDistance i d j = ((d ≡ 0) × (i ≡ j)) ⊎ (IsSign ts i (codes "+") × IsDigits (i + 1) d j)

  abbrev pub SpellsEnd : ℕ → EndText → ℕ → Type 0
  SpellsEnd i (to.At r) j = IsDigits i r j
  SpellsEnd i (to.AfterEnd d) j = IsWord ts i (codes "end") × SpellsDistance (i + 1) d j

  abbrev pub SpellsCover : ℕ → CoverText → ℕ → Type 0
  SpellsCover i x j =
      (m o : ℕ) × IsWord ts i (codes "cover") × IsPath ts (i + 1) x.output m × IsWord ts m (codes "from") × IsDigits (m + 1) x.from (m + 2)
      × IsWord ts (m + 2) (codes "to") × SpellsEnd (m + 3) x.to o × IsSign ts o (codes ";") × (j ≡ o + 1)

  -- what is handed over: nothing, or one formula or more
  abbrev pub SpellsHand : ℕ → List Expr → ℕ → Type 0
  SpellsHand i [] j = i ≡ j
  SpellsHand i (x ∷ xs) j = Clause (codes "hand") (Separated (Comma ts) (Spells true ts)) i (x ∷ xs) j

  -- the hand-over, the covers, the successors and the closing brace
  abbrev pub SpellsTail : ℕ → List Expr → List CoverText → List (List ℕ) → ℕ → Type 0
  SpellsTail i hand covers next j =
      (a b c : ℕ) × SpellsHand i hand a × Sequence SpellsCover a covers b
      × Clause (codes "next") (Separated (Comma ts) (IsNamed true ts)) b next c × IsSign ts c (codes "}") × (j ≡ c + 1)

  -- the length, the window, the assumption and the commitment
  abbrev pub SpellsConditions : ℕ → LengthText → Option ℕ → List Expr → List Expr → ℕ → Type 0
  SpellsConditions i length window assume commit j =
      (a b c : ℕ) × Clause (codes "length") SpellsLength i length a × Maybe (Clause (codes "window") IsDigits) a window b
      × Sequence (Clause (codes "assume") (Spells true ts)) b assume c × Sequence (Clause (codes "commit") (Spells true ts)) c commit j

  -- from the opening brace on
  abbrev pub SpellsProperty : ℕ → PropertyText → ℕ → Type 0
  SpellsProperty i x j =
      (m : ℕ) × IsSign ts i (codes "{") × SpellsConditions (i + 1) x.length x.window x.assume x.commit m
      × SpellsTail m x.hand x.covers x.next j

  -- the reset property has a fixed length and assumes nothing
  abbrev pub SpellsReset : ℕ → PropertyText → ℕ → Type 0
  SpellsReset i x j =
      IsWord ts i (codes "property") × IsWord ts (i + 1) (codes "reset") × (x.name ≡ codes "reset") × (x.length.until ≡ None)
      × (x.assume ≡ []) × SpellsProperty (i + 2) x j

  abbrev pub SpellsOperation : ℕ → PropertyText → ℕ → Type 0
  SpellsOperation i x j = IsWord ts i (codes "operation") × IsNamed true ts (i + 1) x.name (i + 2) × SpellsProperty (i + 2) x j

  -- `word name;`
  abbrev pub SpellsNamed : List ℕ → ℕ → List ℕ → ℕ → Type 0
  SpellsNamed word i x j = IsWord ts i word × IsNamed true ts (i + 1) x (i + 2) × IsSign ts (i + 2) (codes ";") × (j ≡ i + 3)

  -- the block, its clock, its reset with its level and for how many cycles it is active
  abbrev pub SpellsHead : ℕ → List ℕ → List ℕ → List ℕ → Bool → ℕ → ℕ → Type 0
  SpellsHead i block clock reset high cycles j =
      SpellsNamed (codes "block") i block (i + 3) × SpellsNamed (codes "clock") (i + 3) clock (i + 6)
      × IsWord ts (i + 6) (codes "reset") × IsNamed true ts (i + 7) reset (i + 8) × IsWord ts (i + 8) (level_word high)
      × IsDigits (i + 9) cycles (i + 10) × IsSign ts (i + 10) (codes ";") × (j ≡ i + 11)

  -- a whole text
  abbrev pub SpellsSet : SetText → Type 0
  SpellsSet x =
      (a b c : ℕ) × SpellsHead 0 x.block x.clock x.reset x.high x.cycles 11 × Sequence SpellsDeclaration 11 x.declarations a × Sequence SpellsRule a x.rules b
      × SpellsReset b x.first c × Sequence SpellsOperation c x.operations (length ts)
