-- What the reader answers.
use Rattle.std.proofs.Common.{◌≡◌, ℕ, ◌≤◌, List, true, Result, Ok, Err, refl, arith}
use Rattle.std.specs.Prelude.{IfOk, IfErr}
use Rattle.vlog_tree.specs.declared.token.Token.{Token}
use Rattle.vlog_read_lex.specs.declared.error.ReadFault.{ReadFault}
use Rattle.vlog_read_lex.specs.declared.error.ReadFault.TheVariants as lex
use Rattle.vlog_read_lex.specs.declared.piece.Piece.{Piece}
use Rattle.vlog_read_lex.specs.declared.piece.Piece.TheVariants as piece
use Rattle.vlog_read_lex.specs.Pieces.{plain_at, seen, piece_at}
use Rattle.vlog_read_lex.specs.Tokens.{Lexes, HasFault}
use Rattle.vlog_read_lex.specs.Tokens.{NamesByte as LexNamesByte}
use Rattle.set_tree.specs.declared.set.Set.{Set}
use Rattle.set_tree.specs.declared.text.SetText.{SetText}
use Rattle.set_tree.specs.Spelling.{SpellsSet}
use Rattle.set_read_lookup.specs.declared.wrong.Wrong.{Wrong}
use Rattle.set_read_lookup.specs.declared.wrong.Wrong.TheVariants as wrong
use Rattle.set_read_lookup.specs.Faults.{Stands}
use Rattle.set_read.specs.Answers.{IsLong}
use Rattle.set_read.specs.Heights.{set_height}
use Rattle.set_read.specs.Parts.{DeniesSets}
use Rattle.set_read.specs.declared.fault.SetFault.{SetFault}
use Rattle.set_read.specs.declared.fault.SetFault.TheVariants as f
use Rattle.set_read.specs.declared.fault.TextFault.{TextFault}
use Rattle.set_read.specs.declared.fault.TextFault.TheVariants as text
use Rattle.set_read.specs.Read.{of_tokens, of_text, of_wrong, NamesByte, Refuses, RefusesTokens, Spells, SpellsTokens}

-- what the language leaves out is a token of a set, and no fault
seen_outside : (p : Piece) (j : ℕ) → seen true p ≡ piece.Outside j → ⊥
seen_outside (piece.Outside i) j h = cc
seen_outside (piece.Token kind i) j h = cc
seen_outside (piece.Gap i) j h = cc
seen_outside piece.NoNumber j h = cc
seen_outside piece.NoToken j h = cc

no_outside : (bs : List ℕ) (i j : ℕ) → piece_at true bs i ≡ piece.Outside j → ⊥
unfolding piece_at
no_outside bs i j h = seen_outside (plain_at true bs i) j h

pub lex_refuses : (bs : List ℕ) (fault : ReadFault) → HasFault true bs fault → Refuses bs (of_tokens fault)
lex_refuses bs (lex.Bytes at) h = h
lex_refuses bs (lex.Number at) h = h
lex_refuses bs (lex.Outside at) h = absurd (no_outside bs at h.0 h.1.is)
lex_refuses bs (lex.Syntax at) h = absurd h
lex_refuses bs lex.Deep h = absurd h
lex_refuses bs lex.Memory h = tt

pub lex_names : (size : ℕ) (fault : ReadFault) → LexNamesByte size fault → NamesByte size (of_tokens fault)
lex_names size (lex.Bytes at) h = h
lex_names size (lex.Number at) h = h
lex_names size (lex.Outside at) h = h
lex_names size (lex.Syntax at) h = h
lex_names size lex.Deep h = tt
lex_names size lex.Memory h = tt

pub wrong_names : (size : ℕ) (w : Wrong) → NamesByte size (of_wrong w)
wrong_names size (wrong.Unknown n) = tt
wrong_names size (wrong.Twice n) = tt
wrong_names size (wrong.Limit quantity) = tt
wrong_names size wrong.Memory = tt

pub wrong_refuses : (ts : List Token) (t : SetText) → SpellsSet ts t → set_height t ≤ 500 → (w : Wrong) → Stands t w → RefusesTokens ts (of_wrong w)
wrong_refuses ts t s l (wrong.Unknown n) h = (t, s, l, h)
wrong_refuses ts t s l (wrong.Twice n) h = (t, s, l, h)
wrong_refuses ts t s l (wrong.Limit quantity) h = (t, s, l, h)
wrong_refuses ts t s l wrong.Memory h = tt

pub tokens_refuse : (bs : List ℕ) (ts : List Token) → Lexes true bs ts → (fault : SetFault) → RefusesTokens ts fault → Refuses bs fault
tokens_refuse bs ts l (f.Unknown n) h = (ts, l, h)
tokens_refuse bs ts l (f.Twice n) h = (ts, l, h)
tokens_refuse bs ts l (f.Limit quantity) h = (ts, l, h)
tokens_refuse bs ts l (f.Syntax at) h = (ts, l, h)
tokens_refuse bs ts l f.Deep h = (ts, l, h)
tokens_refuse bs ts l f.Memory h = tt
tokens_refuse bs ts l (f.Bytes at) h = absurd h
tokens_refuse bs ts l (f.Number at) h = absurd h

pub text_refuses : (ts : List Token) (fault : TextFault) → DeniesSets ts fault → IsLong ts 2 fault → RefusesTokens ts (of_text fault)
text_refuses ts (text.Syntax at) denies long = denies
text_refuses ts text.Deep denies long = record { higher = denies; more = omega (arith, long refl) }
text_refuses ts text.Memory denies long = tt

pub tokens_ok : (bs : List ℕ) (ts : List Token) → Lexes true bs ts → (r : Result Set SetFault) → IfOk r (SpellsTokens ts) → IfOk r (Spells bs)
tokens_ok bs ts l (Ok s) h = (ts, l, h)
tokens_ok bs ts l (Err e) h = h

pub tokens_err : (bs : List ℕ) (ts : List Token) → Lexes true bs ts → (r : Result Set SetFault) → IfErr r (RefusesTokens ts) → IfErr r (Refuses bs)
tokens_err bs ts l (Ok s) h = h
tokens_err bs ts l (Err e) h = tokens_refuse bs ts l e h
