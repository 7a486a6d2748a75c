-- A text is refused for its tokens, or for what they spell.
use Rattle.std.proofs.Common.{ℕ, ◌≡◌, List, false, refl}
use Rattle.vlog_tree.specs.declared.token.Token.{Token}
use Rattle.vlog_read_lex.specs.Tokens.{Lexes, HasFault, NamesByte}
use Rattle.vlog_read_lex.specs.declared.error.ReadFault.{ReadFault}
use Rattle.vlog_read_lex.specs.declared.error.ReadFault.TheVariants as f
use Rattle.vlog_read.specs.Texts.{RefusesTokens, RefusesText}

pub token_faults : (bytes : List ℕ) (fault : ReadFault) → HasFault false bytes fault → RefusesText bytes fault
token_faults bytes (f.Syntax at) u = absurd u
token_faults bytes f.Deep u = absurd u
token_faults bytes f.Memory u = tt
token_faults bytes (f.Bytes at) u = u
token_faults bytes (f.Number at) u = u
token_faults bytes (f.Outside at) u = u

pub module_faults : (bytes : List ℕ) (ts : List Token) → Lexes false bytes ts → (fault : ReadFault) → RefusesTokens ts fault → RefusesText bytes fault
module_faults bytes ts spelt (f.Syntax at) u = (ts, spelt, u)
module_faults bytes ts spelt f.Deep u = (ts, spelt, u)
module_faults bytes ts spelt f.Memory u = tt
module_faults bytes ts spelt (f.Bytes at) u = absurd u
module_faults bytes ts spelt (f.Number at) u = absurd u
module_faults bytes ts spelt (f.Outside at) u = absurd u

-- a fault that names no token
pub others_name : (ts : List Token) (size : ℕ) (fault : ReadFault) → ((at : ℕ) → fault ≡ f.Syntax at → ⊥) → RefusesTokens ts fault → NamesByte size fault
others_name ts size (f.Syntax at) other u = absurd (other at refl)
others_name ts size f.Deep other u = tt
others_name ts size f.Memory other u = tt
others_name ts size (f.Bytes at) other u = absurd u
others_name ts size (f.Number at) other u = absurd u
others_name ts size (f.Outside at) other u = absurd u
