-- One reading, one fault, longest runs and signs.
use Rattle.std.proofs.Common.{◌≡◌, ℕ, ◌<◌, Bool, List, length, ap, sym, ◌∙◌, arith}
use Rattle.vlog_tree.specs.declared.token.Token.{Token}
use Rattle.vlog_read_lex.specs.declared.error.ReadFault.TheVariants as fault
use Rattle.vlog_read_lex.specs.declared.piece.Piece.{Piece}
use Rattle.vlog_read_lex.specs.declared.piece.Piece.TheVariants as piece
use Rattle.vlog_read_lex.specs.Pieces.{piece_at}
use Rattle.vlog_read_lex.specs.Tokens.{Lexes, StopsAt}
use Rattle.vlog_read_lex.specs.Laws.{SpellsOneList, SpellsOrFaults, HasOneFault}
use Rattle.vlog_read_lex.proofs.PieceLemmas.{NoMore, one_reading, end_stops, fault_stops}

pub one_list : SpellsOneList
one_list set bs ts us a b = (one_reading set bs 0 (length bs) (length bs) ts us a (end_stops set bs) b (end_stops set bs)).0

stop_bytes : (set : Bool) (bs : List ℕ) (at : ℕ) → StopsAt set bs at piece.NoToken → NoMore set bs at
stop_bytes set bs at s = fault_stops set bs at piece.NoToken s.is (λ m e. cc) (λ k m e. cc)

stop_number : (set : Bool) (bs : List ℕ) (at : ℕ) → StopsAt set bs at piece.NoNumber → NoMore set bs at
stop_number set bs at s = fault_stops set bs at piece.NoNumber s.is (λ m e. cc) (λ k m e. cc)

stop_outside : (set : Bool) (bs : List ℕ) (at j : ℕ) → StopsAt set bs at (piece.Outside j) → NoMore set bs at
stop_outside set bs at j s = fault_stops set bs at (piece.Outside j) s.is (λ m e. cc) (λ k m e. cc)

no_end : (set : Bool) (bs : List ℕ) (ts : List Token) (at : ℕ) (p : Piece) → Lexes set bs ts → StopsAt set bs at p → NoMore set bs at → ⊥
no_end set bs ts at p a s stops =
    let r : length bs ≡ at = (one_reading set bs 0 (length bs) at ts s.tokens a (end_stops set bs) s.before stops).1 in
    let lt : at < length bs = s.within in absurd (omega (arith, r, lt))

pub spells_or_faults : SpellsOrFaults
spells_or_faults set bs ts (fault.Bytes at) a text s = no_end set bs ts at piece.NoToken a s (stop_bytes set bs at s)
spells_or_faults set bs ts (fault.Number at) a text s = no_end set bs ts at piece.NoNumber a s (stop_number set bs at s)
spells_or_faults set bs ts (fault.Outside at) a text s = no_end set bs ts at (piece.Outside s.0) a s.1 (stop_outside set bs at s.0 s.1)
spells_or_faults set bs ts (fault.Syntax at) a text s = s
spells_or_faults set bs ts fault.Deep a text s = s
spells_or_faults set bs ts fault.Memory a text s = text

one_place : (set : Bool) (bs : List ℕ) (i j : ℕ) (p q : Piece) → StopsAt set bs i p → NoMore set bs i → StopsAt set bs j q → NoMore set bs j → i ≡ j
one_place set bs i j p q a x b y = (one_reading set bs 0 i j a.tokens b.tokens a.before x b.before y).1

one_piece : (set : Bool) (bs : List ℕ) (i j : ℕ) (p q : Piece) → StopsAt set bs i p → StopsAt set bs j q → i ≡ j → p ≡ q
one_piece set bs i j p q a b e = sym a.is ∙ ap (λ k. piece_at set bs k) e ∙ b.is

pub one_fault : HasOneFault
one_fault set bs (fault.Bytes at) (fault.Bytes to) x y s t = ap (λ (k : ℕ). fault.Bytes k) (one_place set bs at to piece.NoToken piece.NoToken s (stop_bytes set bs at s) t (stop_bytes set bs to t))
one_fault set bs (fault.Bytes at) (fault.Number to) x y s t =
    let e : piece.NoToken ≡ piece.NoNumber = one_piece set bs at to piece.NoToken piece.NoNumber s t (one_place set bs at to piece.NoToken piece.NoNumber s (stop_bytes set bs at s) t (stop_number set bs to t)) in cc
one_fault set bs (fault.Bytes at) (fault.Outside to) x y s t =
    let e : piece.NoToken ≡ (piece.Outside t.0) = one_piece set bs at to piece.NoToken (piece.Outside t.0) s t.1 (one_place set bs at to piece.NoToken (piece.Outside t.0) s (stop_bytes set bs at s) t.1 (stop_outside set bs to t.0 t.1)) in cc
one_fault set bs (fault.Number at) (fault.Bytes to) x y s t =
    let e : piece.NoNumber ≡ piece.NoToken = one_piece set bs at to piece.NoNumber piece.NoToken s t (one_place set bs at to piece.NoNumber piece.NoToken s (stop_number set bs at s) t (stop_bytes set bs to t)) in cc
one_fault set bs (fault.Number at) (fault.Number to) x y s t = ap (λ (k : ℕ). fault.Number k) (one_place set bs at to piece.NoNumber piece.NoNumber s (stop_number set bs at s) t (stop_number set bs to t))
one_fault set bs (fault.Number at) (fault.Outside to) x y s t =
    let e : piece.NoNumber ≡ (piece.Outside t.0) = one_piece set bs at to piece.NoNumber (piece.Outside t.0) s t.1 (one_place set bs at to piece.NoNumber (piece.Outside t.0) s (stop_number set bs at s) t.1 (stop_outside set bs to t.0 t.1)) in cc
one_fault set bs (fault.Outside at) (fault.Bytes to) x y s t =
    let e : (piece.Outside s.0) ≡ piece.NoToken = one_piece set bs at to (piece.Outside s.0) piece.NoToken s.1 t (one_place set bs at to (piece.Outside s.0) piece.NoToken s.1 (stop_outside set bs at s.0 s.1) t (stop_bytes set bs to t)) in cc
one_fault set bs (fault.Outside at) (fault.Number to) x y s t =
    let e : (piece.Outside s.0) ≡ piece.NoNumber = one_piece set bs at to (piece.Outside s.0) piece.NoNumber s.1 t (one_place set bs at to (piece.Outside s.0) piece.NoNumber s.1 (stop_outside set bs at s.0 s.1) t (stop_number set bs to t)) in cc
one_fault set bs (fault.Outside at) (fault.Outside to) x y s t = ap (λ (k : ℕ). fault.Outside k) (one_place set bs at to (piece.Outside s.0) (piece.Outside t.0) s.1 (stop_outside set bs at s.0 s.1) t.1 (stop_outside set bs to t.0 t.1))
one_fault set bs (fault.Syntax at) g x y s t = absurd s
one_fault set bs fault.Deep g x y s t = absurd s
one_fault set bs fault.Memory g x y s t = absurd x
one_fault set bs (fault.Bytes at) (fault.Syntax to) x y s t = absurd t
one_fault set bs (fault.Bytes at) fault.Deep x y s t = absurd t
one_fault set bs (fault.Bytes at) fault.Memory x y s t = absurd y
one_fault set bs (fault.Number at) (fault.Syntax to) x y s t = absurd t
one_fault set bs (fault.Number at) fault.Deep x y s t = absurd t
one_fault set bs (fault.Number at) fault.Memory x y s t = absurd y
one_fault set bs (fault.Outside at) (fault.Syntax to) x y s t = absurd t
one_fault set bs (fault.Outside at) fault.Deep x y s t = absurd t
one_fault set bs (fault.Outside at) fault.Memory x y s t = absurd y
