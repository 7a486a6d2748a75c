-- The modules that a text spells, and why a text is refused.
use Rattle.std.specs.Prelude.{ℕ, ◌<◌, List, length, false}
use Rattle.vlog_tree.specs.declared.token.Token.{Token}
use Rattle.vlog_tree.specs.declared.module.Module.{Module}
use Rattle.vlog_tree.specs.Modules.{SpellsFile, file_height}
use Rattle.vlog_read_lex.specs.Tokens.{Lexes, HasFault}
use Rattle.vlog_read_lex.specs.declared.error.ReadFault.{ReadFault}
use Rattle.vlog_read_lex.specs.declared.error.ReadFault.TheVariants as f

-- the text spells tokens, and they spell modules
abbrev pub SpellsModules : List ℕ → List Module → Type 0
SpellsModules bytes modules = (ts : List Token) × Lexes false bytes ts × SpellsFile ts modules

-- there are more than 500 tokens, and each list of modules that they spell is higher than 500
pub record IsTooHigh (ts : List Token) : Type 0 where
  pub higher : (modules : List Module) → SpellsFile ts modules → 500 < file_height modules
  pub more : 500 < length ts

-- the tokens spell no modules, or modules that are too high
abbrev pub RefusesTokens : List Token → ReadFault → Type 0
RefusesTokens ts (f.Syntax at) = (modules : List Module) → SpellsFile ts modules → ⊥
RefusesTokens ts f.Deep = IsTooHigh ts
RefusesTokens ts f.Memory = Unit {0}
RefusesTokens ts (f.Bytes at) = ⊥
RefusesTokens ts (f.Number at) = ⊥
RefusesTokens ts (f.Outside at) = ⊥

-- a text is refused at the first fault of its tokens, or else for what they spell
abbrev pub RefusesText : List ℕ → ReadFault → Type 0
RefusesText bytes (f.Syntax at) = (ts : List Token) × Lexes false bytes ts × ((modules : List Module) → SpellsFile ts modules → ⊥)
RefusesText bytes f.Deep = (ts : List Token) × Lexes false bytes ts × IsTooHigh ts
RefusesText bytes f.Memory = Unit {0}
RefusesText bytes (f.Bytes at) = HasFault false bytes (f.Bytes at)
RefusesText bytes (f.Number at) = HasFault false bytes (f.Number at)
RefusesText bytes (f.Outside at) = HasFault false bytes (f.Outside at)
