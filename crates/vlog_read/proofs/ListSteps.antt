-- Lists as they grow: what is read of them, and why no whole list is there.
use Rattle.std.proofs.Common.{ℕ, ◌+◌, ◌≡◌, ◌<◌, ◌≤◌, max, inl, inr, List, [], ◌∷◌, ◌++◌, length, false, refl, sym, ap, subst, arith}
use Rattle.std.specs.Prelude.{codes}
use Rattle.vlog_tree.specs.declared.token.Token.{Token}
use Rattle.vlog_tree.specs.declared.token.Kind.TheVariants as k
use Rattle.vlog_tree.specs.Signs.{on_sign, infix_of}
use Rattle.vlog_tree.specs.Lists.{Comma, More, Separated, highest}
use Rattle.vlog_tree.specs.Statements.{OrComma}
use Rattle.vlog_read_spelling.proofs.Tokens.{Stops, kind_within, stops_comma, stops_paren, stops_semicolon, two_signs}
use Rattle.vlog_read_lex.specs.declared.error.ReadFault.{ReadFault}
use Rattle.vlog_read_expr.specs.Answers.{Refusal}
use Rattle.vlog_read_expr.proofs.Steps.{Has, passes}
use Rattle.vlog_read_stmt.proofs.Passing.{highest-append}
use Rattle.vlog_read.specs.declared.part.Found.{Found}
use Rattle.vlog_read.specs.Answers.{IsFound, Before, Closes, Follows, NoSign}

module _ (ts : List Token) where
  -- what follows a part of a list stops an expression
  pub stops_follow : (j : ℕ) → Follows ts j → Stops false ts j
  stops_follow j (inl p) = stops_comma false ts j p
  stops_follow j (inr (inl p)) = record {
    no_infix = ap (on_sign (infix_of false)) p;
    alone = record { no_select = λ q. cc; no_dot = λ q. cc; no_at = λ q. cc };
  }
  stops_follow j (inr (inr (inl p))) = stops_paren false ts j p
  stops_follow j (inr (inr (inr p))) = stops_semicolon false ts j p

  pub closes_follow : (j : ℕ) → Closes ts j → Follows ts j
  closes_follow j p = inr (inr p)

  pub follow_within : (j : ℕ) → Follows ts j → j < length ts
  follow_within j (inl p) = kind_within ts j (k.Sign (codes ",")) p
  follow_within j (inr (inl p)) = kind_within ts j (k.Word (codes "or")) p
  follow_within j (inr (inr (inl p))) = kind_within ts j (k.Sign (codes ")")) p
  follow_within j (inr (inr (inr p))) = kind_within ts j (k.Sign (codes ";")) p

  pub follow_no_open : (j : ℕ) → Follows ts j → NoSign (codes "[") ts j
  follow_no_open j p = (stops_follow j p).alone.no_select

  pub follow_no_value : (j : ℕ) → Follows ts j → NoSign (codes "=") ts j
  follow_no_value j (inl p) q = two_signs ts j (codes ",") (codes "=") refl p q
  follow_no_value j (inr (inl p)) q = cc
  follow_no_value j (inr (inr (inl p))) q = two_signs ts j (codes ")") (codes "=") refl p q
  follow_no_value j (inr (inr (inr p))) q = two_signs ts j (codes ";") (codes "=") refl p q

  -- what stands between the parts of a list
  pub record Separates (sep : ℕ → Type 0) : Type 0 where
    pub follows : (j : ℕ) → sep j → Follows ts j
    pub differ : (j : ℕ) → sep j → Closes ts j → ⊥

  pub comma_separates : Separates (Comma ts)
  comma_separates = record { follows = λ j p. inl p; differ = differ }
    where
      differ : (j : ℕ) → Comma ts j → Closes ts j → ⊥
      differ j p (inl q) = two_signs ts j (codes ",") (codes ")") refl p q
      differ j p (inr q) = two_signs ts j (codes ",") (codes ";") refl p q

  pub or_separates : Separates (OrComma ts)
  or_separates = record { follows = follows; differ = differ }
    where
      follows : (j : ℕ) → OrComma ts j → Follows ts j
      follows j (inl p) = inr (inl p)
      follows j (inr p) = inl p

      differ : (j : ℕ) → OrComma ts j → Closes ts j → ⊥
      differ j (inl p) (inl q) = cc
      differ j (inl p) (inr q) = cc
      differ j (inr p) (inl q) = two_signs ts j (codes ",") (codes ")") refl p q
      differ j (inr p) (inr q) = two_signs ts j (codes ",") (codes ";") refl p q

module _ {A : Type 0} (sep : ℕ → Type 0) (P : ℕ → A → ℕ → Type 0) where
  more_snoc : (xs : List A) (i m : ℕ) (x : A) (j : ℕ) → More sep P i xs m → sep m → P (m + 1) x j → More sep P i (xs ++ x ∷ []) j
  more_snoc [] i m x j p s q = (j, subst sep (sym p) s, subst (λ z. P (z + 1) x j) (sym p) q, refl)
  more_snoc (y ∷ ys) i m x j p s q = (p.0, p.1, p.2, more_snoc ys p.0 m x j p.3 s q)

  separated_snoc : (xs : List A) (i m : ℕ) (x : A) (j : ℕ) → Separated sep P i xs m → sep m → P (m + 1) x j → Separated sep P i (xs ++ x ∷ []) j
  separated_snoc [] i m x j p s q = absurd p
  separated_snoc (y ∷ ys) i m x j p s q = (p.0, p.1, more_snoc ys p.0 m x j p.2 s q)

module _ {A : Type 0} (ts : List Token) (h : A → ℕ) (sep : ℕ → Type 0) (P : ℕ → A → ℕ → Type 0) (i depth : ℕ) where
  abbrev pub Part : ℕ → A → ℕ → Type 0
  Part = Before P (Follows ts)

  abbrev pub Whole : ℕ → List A → ℕ → Type 0
  Whole = Before (Separated sep P) (Closes ts)

  -- what is read of a list so far, and how each whole list goes on
  pub record SoFar (items : List A) (tall end : ℕ) : Type 0 where
    pub spelt : Separated sep P i items end
    pub rest : (ys : List A) (j : ℕ) → Whole i ys j → (xs : List A) × More sep P end xs j × (highest h xs ≤ highest h ys)
    pub height_is : tall ≡ highest h items
    pub low : tall ≤ depth
    pub past : i < end
    pub within : end ≤ max i (length ts)

  module _ (signs : Separates ts sep) where
    after : (xs : List A) (m j : ℕ) → More sep P m xs j → Closes ts j → Follows ts m
    after [] m j p c = closes_follow ts m (subst (Closes ts) (sym p) c)
    after (x ∷ xs) m j p c = signs.follows m p.1

    pub begins : (p : Found A) → IsFound ts h P Part i depth p → i < p.end → (items : List A) → items ≡ p.tree ∷ [] → SoFar items p.height p.end
    begins p f forward items is = record {
      spelt = subst (λ z. Separated sep P i z p.end) (sym is) (p.end, f.spelt, refl);
      rest = rest;
      height_is = omega (arith, f.height_is, ap (highest h) is);
      low = f.low;
      past = forward;
      within = f.within;
    }
      where
        rest : (ys : List A) (j : ℕ) → Whole i ys j → (xs : List A) × More sep P p.end xs j × (highest h xs ≤ highest h ys)
        rest [] j q = absurd q.0
        rest (y ∷ ys) j q =
            let e : q.0.0 ≡ p.end = f.only y q.0.0 (q.0.1, after ys q.0.0 j q.0.2 q.1) in (ys, subst (λ z. More sep P z ys j) e q.0.2, omega arith)

    pub first_refuses : (fault : ReadFault) → Refusal h (Part i) ts i depth fault → Refusal (highest h) (Whole i) ts i depth fault
    first_refuses fault r = passes h (Part i) (highest h) (Whole i) ts i depth i depth 0 first_part (omega arith) (omega arith) fault r
      where
        first_part : (ys : List A) (j : ℕ) → Whole i ys j → Has h (Part i) 0 (highest h ys)
        first_part [] j q = absurd q.0
        first_part (y ∷ ys) j q = record { part = y; end = q.0.0; holds = (q.0.1, after ys q.0.0 j q.0.2 q.1); lower = omega arith }

    module _ (items : List A) (tall end : ℕ) (b : SoFar items tall end) where
      pub grows : sep end → end < length ts → (p : Found A) → IsFound ts h P Part (end + 1) depth p → (new : List A) → new ≡ items ++ p.tree ∷ []
          → (tall' : ℕ) → tall' ≡ max tall p.height → SoFar new tall' p.end
      grows s short p f new is tall' t = record {
        spelt = subst (λ z. Separated sep P i z p.end) (sym is) (separated_snoc sep P items i end p.tree p.end b.spelt s f.spelt);
        rest = λ ys j q. let o = b.rest ys j q in next ys j q o.0 o.1 o.2;
        height_is = omega (arith, t, b.height_is, f.height_is, ap (highest h) is, highest-append h items (p.tree ∷ []));
        low = omega (arith, t, b.low, f.low);
        past = omega (arith, b.past, f.past);
        within = omega (arith, f.within, short);
      }
        where
          next : (ys : List A) (j : ℕ) → Whole i ys j → (xs : List A) → More sep P end xs j → highest h xs ≤ highest h ys
              → (xs : List A) × More sep P p.end xs j × (highest h xs ≤ highest h ys)
          next ys j q [] m low = absurd (signs.differ end s (subst (Closes ts) (sym m) q.1))
          next ys j q (x ∷ xs) m low =
              let e : m.0 ≡ p.end = f.only x m.0 (m.2, after xs m.0 j m.3 q.1) in (xs, subst (λ z. More sep P z xs j) e m.3, omega (arith, low))

      pub item_refuses : sep end → (fault : ReadFault) → Refusal h (Part (end + 1)) ts (end + 1) depth fault → Refusal (highest h) (Whole i) ts i depth fault
      item_refuses s fault r =
          passes h (Part (end + 1)) (highest h) (Whole i) ts (end + 1) depth i depth 0 (λ ys j q. let o = b.rest ys j q in next ys j q o.0 o.1 o.2) (omega (arith, b.past)) (omega arith) fault r
        where
          next : (ys : List A) (j : ℕ) → Whole i ys j → (xs : List A) → More sep P end xs j → highest h xs ≤ highest h ys → Has h (Part (end + 1)) 0 (highest h ys)
          next ys j q [] m low = absurd (signs.differ end s (subst (Closes ts) (sym m) q.1))
          next ys j q (x ∷ xs) m low = record { part = x; end = m.0; holds = (m.2, after xs m.0 j m.3 q.1); lower = omega (arith, low) }

      pub ends : (sep end → ⊥) → (new : Found (List A)) → new.tree ≡ items → new.height ≡ tall → new.end ≡ end → IsFound ts (highest h) (Separated sep P) Whole i depth new
      ends last new is t e = record {
        spelt = subst (λ z. Separated sep P i z new.end) (sym is) (subst (λ z. Separated sep P i items z) (sym e) b.spelt);
        only = λ ys j q. let o = b.rest ys j q in only j o.0 o.1;
        height_is = omega (arith, t, b.height_is, ap (highest h) is);
        low = omega (arith, t, b.low);
        past = omega (arith, e, b.past);
        within = omega (arith, e, b.within);
      }
        where
          only : (j : ℕ) → (xs : List A) → More sep P end xs j → j ≡ new.end
          only j [] m = omega (arith, m, e)
          only j (x ∷ xs) m = absurd (last m.1)
