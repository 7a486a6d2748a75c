-- The parts of items: at one place stands at most one of each.
use Rattle.std.proofs.Common.{ℕ, ◌+◌, ◌≡◌, ◌<◌, ◌≤◌, ◌⊎◌, inl, inr, List, [], ◌∷◌, Option, Some, None, Bool, true, false, refl, sym, ap, subst, ◌∙◌, arith}
use Rattle.std.specs.Prelude.{codes}
use Rattle.std.specs.Str.{bytes_eq}
use Rattle.vlog_tree.specs.declared.token.Token.{Token}
use Rattle.vlog_tree.specs.declared.expr.Expr.{Expr}
use Rattle.vlog_tree.specs.Signs.{IsSign, IsWord, infix_of}
use Rattle.vlog_tree.specs.Spelling.{IsIdentifier, Spells}
use Rattle.vlog_read_spelling.proofs.Tokens.{Stops, stops_paren, stops_bracket, stops_comma, stops_colon, stops_semicolon, two_signs, two_words}
use Rattle.vlog_read_spelling.proofs.Names.{one_identifier, one_named}
use Rattle.vlog_read_spelling.proofs.Reading.{unique, stop_ends, level_pos}
use Rattle.vlog_tree.specs.Lists.{Maybe, Separated, Comma, InParens, UpToEnd}
use Rattle.vlog_tree.specs.Spelling.{IsNamed}
use Rattle.vlog_tree.specs.Modules.{SpellsRange, SpellsValue, SpellsWire, SpellsRegister, SpellsParameter, SpellsConnection}
use Rattle.vlog_tree.specs.declared.item.Range.{Range}
use Rattle.vlog_tree.specs.declared.item.Wire.{Wire}
use Rattle.vlog_tree.specs.declared.item.Register.{Register}
use Rattle.vlog_tree.specs.declared.item.Parameter.{Parameter}
use Rattle.vlog_tree.specs.declared.item.Connection.{Connection}
use Rattle.vlog_read_spelling.proofs.Lists.{one_separated}

module _ (ts : List Token) where
  pub one_expr : (i : ℕ) (a : Expr) (j : ℕ) (b : Expr) (m : ℕ) → Spells false ts i a j → Stops false ts j → Spells false ts i b m → Stops false ts m → (a ≡ b) × (j ≡ m)
  one_expr i a j b m p u q v =
      unique false ts 1 i a j b m (record { spelt = p; binds = level_pos a; ends = stop_ends false ts 1 j u }) (record { spelt = q; binds = level_pos b; ends = stop_ends false ts 1 m v })

  pub one_range : (i : ℕ) (x : Range) (j : ℕ) (y : Range) (k : ℕ) → SpellsRange ts i x j → SpellsRange ts i y k → (x ≡ y) × (j ≡ k)
  one_range i x j y k p q =
      let a : (x.high ≡ y.high) × (p.0 ≡ q.0) = one_expr (i + 1) x.high p.0 y.high q.0 p.3 (stops_colon false ts p.0 p.4) q.3 (stops_colon false ts q.0 q.4) in
      let b : (x.low ≡ y.low) × (p.1 ≡ q.1) =
      one_expr (p.0 + 1) x.low p.1 y.low q.1 p.5 (stops_bracket false ts p.1 p.6) (subst (λ z. Spells false ts (z + 1) y.low q.1) (sym a.1) q.5) (stops_bracket false ts q.1 q.6) in
      ((λ r. record { high = a.0 r; low = b.0 r }), omega (arith, p.7, q.7, b.1))

  -- what follows a part of a list: a comma or a closing sign
  abbrev pub Part : List ℕ → ℕ → Type 0
  Part close j = Comma ts j ⊎ IsSign ts j close

  module _ (close : List ℕ) (stops : (j : ℕ) → IsSign ts j close → Stops false ts j) (no_value : bytes_eq close (codes "=") ≡ false) (no_comma : bytes_eq (codes ",") close ≡ false) where
    stop : (j : ℕ) → Part close j → Stops false ts j
    stop j (inl p) = stops_comma false ts j p
    stop j (inr p) = stops j p

    no_equals : (j : ℕ) → Part close j → IsSign ts j (codes "=") → ⊥
    no_equals j (inl p) h = two_signs ts j (codes ",") (codes "=") refl p h
    no_equals j (inr p) h = two_signs ts j close (codes "=") no_value p h

    differ : (j : ℕ) → Comma ts j → IsSign ts j close → ⊥
    differ j p q = two_signs ts j (codes ",") close no_comma p q

    pub one_value : (i : ℕ) (x : Expr) (j : ℕ) (y : Expr) (k : ℕ) → SpellsValue ts i x j → Part close j → SpellsValue ts i y k → Part close k → (x ≡ y) × (j ≡ k)
    one_value i x j y k p u q v = one_expr (i + 1) x j y k p.1 (stop j u) q.1 (stop k v)

    maybe_value : (i : ℕ) (x : Option Expr) (j : ℕ) (y : Option Expr) (k : ℕ) → Maybe (SpellsValue ts) i x j → Part close j → Maybe (SpellsValue ts) i y k → Part close k
        → (x ≡ y) × (j ≡ k)
    maybe_value i None j None k p u q v = (refl, sym p ∙ q)
    maybe_value i None j (Some y) k p u q v = absurd (no_equals j u (subst (λ z. IsSign ts z (codes "=")) p q.0))
    maybe_value i (Some x) j None k p u q v = absurd (no_equals k v (subst (λ z. IsSign ts z (codes "=")) q p.0))
    maybe_value i (Some x) j (Some y) k p u q v = let r : (x ≡ y) × (j ≡ k) = one_value i x j y k p u q v in (ap Some r.0, r.1)

    maybe_range : (i : ℕ) (x : Option Range) (j : ℕ) (y : Option Range) (k : ℕ) → Maybe (SpellsRange ts) i x j → Part close j → Maybe (SpellsRange ts) i y k → Part close k
        → (x ≡ y) × (j ≡ k)
    maybe_range i None j None k p u q v = (refl, sym p ∙ q)
    maybe_range i None j (Some y) k p u q v = absurd ((stop j u).alone.no_select (subst (λ z. IsSign ts z (codes "[")) p q.2))
    maybe_range i (Some x) j None k p u q v = absurd ((stop k v).alone.no_select (subst (λ z. IsSign ts z (codes "[")) q p.2))
    maybe_range i (Some x) j (Some y) k p u q v = let r : (x ≡ y) × (j ≡ k) = one_range i x j y k p q in (ap Some r.0, r.1)

    pub one_wire : (i : ℕ) (x : Wire) (j : ℕ) (y : Wire) (k : ℕ) → SpellsWire ts i x j → Part close j → SpellsWire ts i y k → Part close k → (x ≡ y) × (j ≡ k)
    one_wire i x j y k p u q v =
        let n : x.name ≡ y.name = one_identifier false ts i x.name y.name p.0 q.0 in
        let r : (x.value ≡ y.value) × (j ≡ k) = maybe_value (i + 1) x.value j y.value k p.1 u q.1 v in
        ((λ z. record { name = n z; value = r.0 z }), r.1)

    pub one_register : (i : ℕ) (x : Register) (j : ℕ) (y : Register) (k : ℕ) → SpellsRegister ts i x j → Part close j → SpellsRegister ts i y k → Part close k → (x ≡ y) × (j ≡ k)
    one_register i x j y k p u q v =
        let n : x.name ≡ y.name = one_identifier false ts i x.name y.name p.0 q.0 in
        let r : (x.words ≡ y.words) × (j ≡ k) = maybe_range (i + 1) x.words j y.words k p.1 u q.1 v in
        ((λ z. record { name = n z; words = r.0 z }), r.1)

    pub one_parameter : (i : ℕ) (x : Parameter) (j : ℕ) (y : Parameter) (k : ℕ) → SpellsParameter ts i x j → Part close j → SpellsParameter ts i y k → Part close k → (x ≡ y) × (j ≡ k)
    one_parameter i x j y k p u q v =
        let n : x.name ≡ y.name = one_identifier false ts i x.name y.name p.0 q.0 in
        let r : (x.value ≡ y.value) × (j ≡ k) = one_value (i + 1) x.value j y.value k p.1 u q.1 v in
        ((λ z. record { name = n z; value = r.0 z }), r.1)

  -- a list up to its semicolon
  no_value_after : bytes_eq (codes ";") (codes "=") ≡ false
  no_value_after = refl

  pub one_list_of : {A : Type 0} (P : ℕ → A → ℕ → Type 0)
      (one : (i : ℕ) (a : A) (j : ℕ) (b : A) (k : ℕ) → P i a j → Part (codes ";") j → P i b k → Part (codes ";") k → (a ≡ b) × (j ≡ k))
      (i : ℕ) (xs : List A) (j : ℕ) (ys : List A) (k : ℕ) → UpToEnd ts P i xs j → UpToEnd ts P i ys k → (xs ≡ ys) × (j ≡ k)
  one_list_of P one i xs j ys k p q =
      let r : (xs ≡ ys) × (p.0 ≡ q.0) =
      one_separated (Comma ts) (λ z. IsSign ts z (codes ";")) P one (λ z c d. two_signs ts z (codes ",") (codes ";") refl c d) xs ys i p.0 q.0 p.1 p.2 q.1 q.2 in
      (r.0, omega (arith, p.3, q.3, r.1))

  pub one_wires : (i : ℕ) (xs : List Wire) (j : ℕ) (ys : List Wire) (k : ℕ) → UpToEnd ts (SpellsWire ts) i xs j → UpToEnd ts (SpellsWire ts) i ys k → (xs ≡ ys) × (j ≡ k)
  one_wires = one_list_of (SpellsWire ts) (one_wire (codes ";") (stops_semicolon false ts) refl refl)

  pub one_registers : (i : ℕ) (xs : List Register) (j : ℕ) (ys : List Register) (k : ℕ) → UpToEnd ts (SpellsRegister ts) i xs j → UpToEnd ts (SpellsRegister ts) i ys k → (xs ≡ ys) × (j ≡ k)
  one_registers = one_list_of (SpellsRegister ts) (one_register (codes ";") (stops_semicolon false ts) refl refl)

  pub one_parameters : (i : ℕ) (xs : List Parameter) (j : ℕ) (ys : List Parameter) (k : ℕ) → UpToEnd ts (SpellsParameter ts) i xs j → UpToEnd ts (SpellsParameter ts) i ys k
      → (xs ≡ ys) × (j ≡ k)
  one_parameters = one_list_of (SpellsParameter ts) (one_parameter (codes ";") (stops_semicolon false ts) refl refl)

  -- a named connection
  pub maybe_expr : (i : ℕ) (x : Option Expr) (j : ℕ) (y : Option Expr) (k : ℕ) → Maybe (Spells false ts) i x j → IsSign ts j (codes ")") → Maybe (Spells false ts) i y k → IsSign ts k (codes ")")
      → ((a : Expr) (m : ℕ) → Spells false ts i a m → IsSign ts i (codes ")") → ⊥) → (x ≡ y) × (j ≡ k)
  maybe_expr i None j None k p u q v begins = (refl, sym p ∙ q)
  maybe_expr i None j (Some y) k p u q v begins = absurd (begins y k q (subst (λ z. IsSign ts z (codes ")")) (sym p) u))
  maybe_expr i (Some x) j None k p u q v begins = absurd (begins x j p (subst (λ z. IsSign ts z (codes ")")) (sym q) v))
  maybe_expr i (Some x) j (Some y) k p u q v begins =
      let r : (x ≡ y) × (j ≡ k) = one_expr i x j y k p (stops_paren false ts j u) q (stops_paren false ts k v) in (ap Some r.0, r.1)
