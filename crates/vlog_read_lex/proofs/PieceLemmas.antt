-- Pieces one behind the other: one more at the end, and that there is one reading alone.
use Rattle.std.proofs.Common.{◌≡◌, ℕ, ◌<◌, ◌≤◌, Bool, List, [], ◌∷◌, ◌++◌, length, refl, subst, sym, ◌∙◌, arith}
use Rattle.std.specs.Prelude.{Option, Some, None, IfSome}
use Rattle.std.proofs.lemmas.List.Elements.{All-push}
use Rattle.vlog_tree.specs.declared.token.Token.{Token}
use Rattle.vlog_tree.specs.declared.token.Kind.{Kind}
use Rattle.vlog_read_lex.specs.declared.piece.Piece.{Piece}
use Rattle.vlog_read_lex.specs.declared.piece.Piece.TheVariants as piece
use Rattle.vlog_read_lex.specs.Pieces.{piece_at, IsWithin, gap_to}
use Rattle.vlog_read_lex.specs.Tokens.{Pieces, LiesWithin, LieWithin}
use Rattle.vlog_read_lex.specs.Tokens.Pieces.{none, gap, token}

pub more_gap : (set : Bool) (bs : List ℕ) (i j m : ℕ) (ts : List Token) → Pieces set bs i ts j → j < length bs → piece_at set bs j ≡ piece.Gap m → Pieces set bs i ts m
more_gap set bs i j m ts none lt e = gap lt e none
more_gap set bs i j m ts (gap l p rest) lt e = gap l p (more_gap set bs _ j m ts rest lt e)
more_gap set bs i j m ts (token t l at p rest) lt e = token t l at p (more_gap set bs _ j m _ rest lt e)

pub more_token : (set : Bool) (bs : List ℕ) (i j : ℕ) (ts : List Token) (t : Token) → Pieces set bs i ts j → j < length bs → t.at ≡ j
    → piece_at set bs j ≡ piece.Token t.kind t.end → Pieces set bs i (ts ++ t ∷ []) t.end
more_token set bs i j ts t none lt at e = token t lt at e none
more_token set bs i j ts t (gap l p rest) lt at e = gap l p (more_token set bs _ j ts t rest lt at e)
more_token set bs i j ts t (token u l ua p rest) lt at e = token u l ua p (more_token set bs _ j _ t rest lt at e)

pub placed_more : (n : ℕ) (ts : List Token) (t : Token) → LieWithin n ts → t.at ≤ n → t.end ≤ n → LieWithin n (ts ++ t ∷ [])
placed_more n ts t placed at end = All-push (LiesWithin n) ts t placed (at, end)

-- a comment ends behind its beginning
pub gap_within : (i from n : ℕ) (o : Option ℕ) → i < from → IfSome o (λ j. (from < j) × (j ≤ n)) → IsWithin i n (gap_to o)
gap_within i from n (Some j) lt h = (omega (arith, h.0), h.1)
gap_within i from n None lt h = tt

-- neither a gap nor a token begins at j
pub record NoMore (set : Bool) (bs : List ℕ) (j : ℕ) : Type 0 where
  pub no_gap : (m : ℕ) → j < length bs → piece_at set bs j ≡ piece.Gap m → ⊥
  pub no_token : (k : Kind) (m : ℕ) → j < length bs → piece_at set bs j ≡ piece.Token k m → ⊥

same_token : (t u : Token) → t.at ≡ u.at → t.end ≡ u.end → t.kind ≡ u.kind → t ≡ u
same_token t u p q r = λ i. record { at = p i; end = q i; kind = r i }

same_gap_end : (p : Piece) (m n : ℕ) → p ≡ piece.Gap m → p ≡ piece.Gap n → m ≡ n
same_gap_end p m n a b = cc

same_token_end : (p : Piece) (k l : Kind) (m n : ℕ) → p ≡ piece.Token k m → p ≡ piece.Token l n → m ≡ n
same_token_end p k l m n a b = cc

same_kind : (p : Piece) (k l : Kind) (m n : ℕ) → p ≡ piece.Token k m → p ≡ piece.Token l n → k ≡ l
same_kind p k l m n a b = cc

not_both : (p : Piece) (k : Kind) (m n : ℕ) → p ≡ piece.Gap m → p ≡ piece.Token k n → ⊥
not_both p k m n a b = cc

moved : (set : Bool) (bs : List ℕ) (k : ℕ) (ts : List Token) (m n : ℕ) → m ≡ n → Pieces set bs m ts k → Pieces set bs n ts k
moved set bs k ts m n e r = subst (λ (x : ℕ). Pieces set bs x ts k) e r

-- two readings that cannot go on are one
pub one_reading : (set : Bool) (bs : List ℕ) (i j k : ℕ) (ts us : List Token) → Pieces set bs i ts j → NoMore set bs j → Pieces set bs i us k
    → NoMore set bs k → (ts ≡ us) × (j ≡ k)
one_reading set bs i j k ts us none a none b = (refl, refl)
one_reading set bs i j k ts us none a (gap l p rest) b = absurd (a.no_gap _ l p)
one_reading set bs i j k ts us none a (token t l at p rest) b = absurd (a.no_token _ _ l p)
one_reading set bs i j k ts us (gap l p rest) a none b = absurd (b.no_gap _ l p)
one_reading set bs i j k ts us (gap {m = m} l p rest) a (gap {m = n} l' p' rest') b =
    one_reading set bs m j k ts us rest a (moved set bs k us n m (same_gap_end (piece_at set bs i) n m p' p) rest') b
one_reading set bs i j k ts us (gap l p rest) a (token t l' at p' rest') b = absurd (not_both _ _ _ _ p p')
one_reading set bs i j k ts us (token t l at p rest) a none b = absurd (b.no_token _ _ l p)
one_reading set bs i j k ts us (token t l at p rest) a (gap l' p' rest') b = absurd (not_both _ _ _ _ p' p)
one_reading set bs i j k ts us (token {ts = tail} t l at p rest) a (token {ts = other} u l' at' p' rest') b =
    let end = same_token_end (piece_at set bs i) t.kind u.kind t.end u.end p p' in
    let r = one_reading set bs t.end j k tail other rest a (moved set bs k other u.end t.end (sym end) rest') b in
    let s = same_token t u (at ∙ sym at') end (same_kind (piece_at set bs i) t.kind u.kind t.end u.end p p') in
    ((λ z. s z ∷ r.0 z), r.1)

-- at the end nothing goes on
pub end_stops : (set : Bool) (bs : List ℕ) → NoMore set bs (length bs)
end_stops set bs = record {
  no_gap = λ m lt p. let h : length bs < length bs = lt in absurd (omega (arith, h));
  no_token = λ k m lt p. let h : length bs < length bs = lt in absurd (omega (arith, h));
}

-- a piece that is no gap and no token stops
pub fault_stops : (set : Bool) (bs : List ℕ) (j : ℕ) (f : Piece) → piece_at set bs j ≡ f → ((m : ℕ) → f ≡ piece.Gap m → ⊥)
    → ((k : Kind) (m : ℕ) → f ≡ piece.Token k m → ⊥) → NoMore set bs j
fault_stops set bs j f e g t = record {
  no_gap = λ m lt p. g m (sym e ∙ p);
  no_token = λ k m lt p. t k m (sym e ∙ p);
}
