-- What the readers of a set's parts answer: where a part ends, or why none is there.
use Rattle.std.specs.Prelude.{ℕ, ◌+◌, ◌<◌, ◌≡◌, ◌⊎◌, List, length, Result, Ok, Err, codes}
use Rattle.vlog_tree.specs.declared.token.Token.{Token}
use Rattle.vlog_tree.specs.Signs.{IsSign, IsWord}
use Rattle.vlog_read_lex.specs.declared.error.ReadFault.{ReadFault}
use Rattle.vlog_read_lex.specs.declared.error.ReadFault.TheVariants as lex
use Rattle.set_tree.specs.declared.set.Role.{Role}
use Rattle.set_tree.specs.declared.text.RuleKind.{RuleKind}
use Rattle.set_tree.specs.Spelling.{role_word, rule_word}
use Rattle.set_read.specs.declared.fault.TextFault.{TextFault}
use Rattle.set_read.specs.declared.fault.TextFault.TheVariants as text

-- why what is spelt is refused: it is too high, or there is no memory
abbrev pub Denies : Type 0 → TextFault → Type 0
Denies High (text.Syntax at) = ⊥
Denies High text.Deep = High
Denies High text.Memory = Unit {0}

-- x is spelt up to j: the reader ends there, or refuses it as too high
abbrev pub Agrees : {A : Type 0} → (A → ℕ) → ℕ → A → ℕ → Result (A × ℕ) TextFault → Type 0
Agrees h depth x j (Ok read) = j ≡ read.1
Agrees h depth x j (Err fault) = Denies (depth < h x) fault

-- so does the reader with whatever P spells at i before F
abbrev pub Answers : {A : Type 0} → (ℕ → A → ℕ → Type 0) → (ℕ → Type 0) → (A → ℕ) → ℕ → ℕ → Result (A × ℕ) TextFault → Type 0
Answers {A} P F h depth i result = (x : A) (j : ℕ) → P i x j → F j → Agrees h depth x j result

-- P spells nothing at i
abbrev pub Lacks : {A : Type 0} → (ℕ → A → ℕ → Type 0) → ℕ → Type 0
Lacks {A} P i = (x : A) (j : ℕ) → P i x j → ⊥

-- whatever P spells at i ends there
abbrev pub Ended : {A : Type 0} → (ℕ → A → ℕ → Type 0) → ℕ → ℕ → Type 0
Ended {A} P i end = (x : A) (j : ℕ) → P i x j → j ≡ end

abbrev pub IsSyntax : TextFault → Type 0
IsSyntax fault = (at : ℕ) × (fault ≡ text.Syntax at)

-- never for its height
abbrev pub IsFlat : TextFault → Type 0
IsFlat fault = fault ≡ text.Deep → ⊥

-- too high only where more tokens stand than a formula's height
abbrev pub IsLong : List Token → ℕ → TextFault → Type 0
IsLong ts i fault = fault ≡ text.Deep → i + 498 < length ts

-- the refusal of the reader of expressions
abbrev pub IsOf : ReadFault → TextFault → Type 0
IsOf lex.Deep fault = fault ≡ text.Deep
IsOf lex.Memory fault = fault ≡ text.Memory
IsOf (lex.Syntax at) fault = IsSyntax fault
IsOf (lex.Bytes at) fault = IsSyntax fault
IsOf (lex.Number at) fault = IsSyntax fault
IsOf (lex.Outside at) fault = IsSyntax fault

abbrev pub Always : ℕ → Type 0
Always j = Unit {0}

abbrev pub NoSign : List ℕ → List Token → ℕ → Type 0
NoSign sign ts j = IsSign ts j sign → ⊥

abbrev pub NoWord : List ℕ → List Token → ℕ → Type 0
NoWord word ts j = IsWord ts j word → ⊥

abbrev pub Semicolon : List Token → ℕ → Type 0
Semicolon ts j = IsSign ts j (codes ";")

-- what follows a formula
abbrev pub Ends : List Token → ℕ → Type 0
Ends ts j = IsSign ts j (codes ",") ⊎ Semicolon ts j

-- no declaration begins there
abbrev pub NoRole : List Token → ℕ → Type 0
NoRole ts j = (role : Role) → IsWord ts j (role_word role) → ⊥

-- no rule begins there
abbrev pub NoRule : List Token → ℕ → Type 0
NoRule ts j = (kind : RuleKind) → IsWord ts j (rule_word kind) → ⊥

-- what follows the conditions of a property
abbrev pub IsTail : List Token → ℕ → Type 0
IsTail ts j = IsWord ts j (codes "hand") ⊎ (IsWord ts j (codes "cover") ⊎ IsWord ts j (codes "next"))

-- no name is high
abbrev pub flat : {A : Type 0} → A → ℕ
flat x = 0
