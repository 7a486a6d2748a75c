-- The set that a text spells is well formed.
use Rattle.std.proofs.Common.{List, ℕ, Result, Ok, Err}
use Rattle.std.specs.Prelude.{IfOk}
use Rattle.vlog_tree.specs.declared.token.Token.{Token}
use Rattle.set_tree.specs.declared.set.Set.{Set}
use Rattle.set_tree_structure.specs.Condition.{IsWellFormed}
use Rattle.set_read_lookup.proofs.WellFormed.{well_formed}
use Rattle.set_read_lookup.proofs.Undivided.{is_spelt}
use Rattle.set_read.specs.declared.fault.SetFault.{SetFault}
use Rattle.set_read.specs.Read.{SpellsTokens}

tokens_formed : (ts : List Token) (s : Set) → SpellsTokens ts s → IsWellFormed s
tokens_formed ts s h = well_formed h.spelling s (is_spelt ts h.spelling h.spelt) h.valid h.means

pub result_formed : (ts : List Token) (r : Result Set SetFault) → IfOk r (SpellsTokens ts) → IfOk r IsWellFormed
result_formed ts (Ok s) h = tokens_formed ts s h
result_formed ts (Err e) h = h
