-- Whole declarations: at one place stands at most one of each word.
use Rattle.std.proofs.Common.{ℕ, ◌+◌, ◌≡◌, ◌<◌, ◌≤◌, ◌⊎◌, inl, inr, List, [], ◌∷◌, Option, Some, None, Bool, true, false, refl, sym, ap, subst, ◌∙◌, arith}
use Rattle.std.specs.Prelude.{codes}
use Rattle.vlog_tree.specs.declared.token.Token.{Token}
use Rattle.vlog_tree.specs.Signs.{IsSign, IsWord, is_reserved, is_keyword}
use Rattle.vlog_tree.specs.Spelling.{IsIdentifier, IsNamed}
use Rattle.vlog_read_spelling.proofs.Tokens.{two_signs, two_words, stops_semicolon}
use Rattle.vlog_tree.specs.Lists.{Maybe, Flag, Separated, Comma, UpToEnd}
use Rattle.vlog_tree.specs.Modules.{SpellsRange, SpellsShape, SpellsAssign, SpellsValue, SpellsWire, SpellsRegister, SpellsParameter, Declares}
use Rattle.vlog_tree.specs.declared.item.Range.{Range}
use Rattle.vlog_tree.specs.declared.item.Shape.{Shape}
use Rattle.vlog_tree.specs.declared.item.Assign.{Assign}
use Rattle.vlog_tree.specs.declared.item.Wire.{Wire}
use Rattle.vlog_tree.specs.declared.item.Register.{Register}
use Rattle.vlog_tree.specs.declared.item.Parameter.{Parameter}
use Rattle.vlog_read_spelling.proofs.Parts.{Part, one_range, one_value, one_list_of, one_wires, one_registers, one_parameters}
use Rattle.vlog_read_spelling.proofs.Lvals.{one_lval}
use Rattle.vlog_read_spelling.proofs.Names.{one_named}

module _ (ts : List Token) where
  -- an assignment: its left side ends at the sign
  pub one_assign : (i : ℕ) (x : Assign) (j : ℕ) (y : Assign) (k : ℕ) → SpellsAssign ts i x j → Part ts (codes ";") j → SpellsAssign ts i y k → Part ts (codes ";") k → (x ≡ y) × (j ≡ k)
  one_assign i x j y k p u q v =
      let l : (x.left ≡ y.left) × (p.0 ≡ q.0) =
      one_lval ts x.left i p.0 y.left q.0 p.1 (λ h. two_signs ts p.0 (codes "=") (codes "[") refl p.2.0 h) q.1 (λ h. two_signs ts q.0 (codes "=") (codes "[") refl q.2.0 h) in
      let r : (x.right ≡ y.right) × (j ≡ k) =
      one_value ts (codes ";") (stops_semicolon false ts) refl refl p.0 x.right j y.right k p.2 u (subst (λ z. SpellsValue ts z y.right k) (sym l.1) q.2) v in
      ((λ z. record { left = l.0 z; right = r.0 z }), r.1)

  pub one_names : (i : ℕ) (xs : List (List ℕ)) (j : ℕ) (ys : List (List ℕ)) (k : ℕ) → UpToEnd ts (IsNamed false ts) i xs j → UpToEnd ts (IsNamed false ts) i ys k → (xs ≡ ys) × (j ≡ k)
  one_names = one_list_of ts (IsNamed false ts) (λ i x j y k p u q v. one_named false ts i x j y k p q)

  -- a word that a name at the same place excludes
  no_name : (i : ℕ) (n : List ℕ) (w : List ℕ) → IsIdentifier false ts i n → IsWord ts i w → is_reserved false w ≡ true → ⊥
  no_name i n w p h r = let q = p.stands in let e : n ≡ w = cc in let x : is_reserved false n ≡ true = ap (is_reserved false) e ∙ r in let y = p.free in cc

  name_no_bracket : (i : ℕ) (n : List ℕ) → IsIdentifier false ts i n → IsSign ts i (codes "[") → ⊥
  name_no_bracket i n p h = let q = p.stands in cc

  word_no_bracket : (i : ℕ) (w : List ℕ) → IsWord ts i w → IsSign ts i (codes "[") → ⊥
  word_no_bracket i w p h = cc

  -- no range and no sign at the place of a name
  module _ (w : List ℕ) (reserved : is_reserved false w ≡ true) where
    pub absent : (i : ℕ) (x : Option Range) (j : ℕ) (n : List ℕ) → Maybe (SpellsRange ts) i x j → IsIdentifier false ts j n → IsWord ts i w → ⊥
    absent i None j n p q h = no_name i n w (subst (λ z. IsIdentifier false ts z n) (sym p) q) h reserved
    absent i (Some x) j n p q h = word_no_bracket i w h p.2

  maybe_range : (i : ℕ) (x : Option Range) (j : ℕ) (m : List ℕ) (y : Option Range) (k : ℕ) (n : List ℕ) → Maybe (SpellsRange ts) i x j → IsIdentifier false ts j m → Maybe (SpellsRange ts) i y k → IsIdentifier false ts k n
      → (x ≡ y) × (j ≡ k)
  maybe_range i None j m None k n p u q v = (refl, sym p ∙ q)
  maybe_range i None j m (Some y) k n p u q v = absurd (name_no_bracket i m (subst (λ z. IsIdentifier false ts z m) (sym p) u) q.2)
  maybe_range i (Some x) j m None k n p u q v = absurd (name_no_bracket i n (subst (λ z. IsIdentifier false ts z n) (sym q) v) p.2)
  maybe_range i (Some x) j m (Some y) k n p u q v = let r : (x ≡ y) × (j ≡ k) = one_range ts i x j y k p q in (ap Some r.0, r.1)

  pub signed_reserved : is_reserved false (codes "signed") ≡ true
  unfolding is_reserved is_keyword
  signed_reserved = refl

  -- sign and range, before a name
  shape_by : (i : ℕ) (a b : Bool) (mid mid' : ℕ) (x : Option Range) (j : ℕ) (m : List ℕ) (y : Option Range) (k : ℕ) (n : List ℕ)
      → Flag ts (codes "signed") i a mid → Maybe (SpellsRange ts) mid x j → IsIdentifier false ts j m → Flag ts (codes "signed") i b mid' → Maybe (SpellsRange ts) mid' y k → IsIdentifier false ts k n
      → (a ≡ b) × (x ≡ y) × (j ≡ k)
  shape_by i true true mid mid' x j m y k n f p u g q v =
      let r : (x ≡ y) × (j ≡ k) = maybe_range mid x j m y k n p u (subst (λ z. Maybe (SpellsRange ts) z y k) (g.1 ∙ sym f.1) q) v in (refl, r.0, r.1)
  shape_by i false false mid mid' x j m y k n f p u g q v =
      let r : (x ≡ y) × (j ≡ k) = maybe_range mid x j m y k n p u (subst (λ z. Maybe (SpellsRange ts) z y k) (sym g ∙ f) q) v in (refl, r.0, r.1)
  shape_by i true false mid mid' x j m y k n f p u g q v =
      absurd (absent (codes "signed") signed_reserved mid' y k n q v (subst (λ z. IsWord ts z (codes "signed")) g f.0))
  shape_by i false true mid mid' x j m y k n f p u g q v =
      absurd (absent (codes "signed") signed_reserved mid x j m p u (subst (λ z. IsWord ts z (codes "signed")) f g.0))

  pub one_shape : (i : ℕ) (x : Shape) (j : ℕ) (m : List ℕ) (y : Shape) (k : ℕ) (n : List ℕ) → SpellsShape ts i x j → IsIdentifier false ts j m → SpellsShape ts i y k → IsIdentifier false ts k n → (x ≡ y) × (j ≡ k)
  one_shape i x j m y k n p u q v =
      let r = shape_by i x.signed y.signed p.0 q.0 x.range j m y.range k n p.1 p.2 u q.1 q.2 v in ((λ z. record { signed = r.0 z; range = r.1 z }), r.2)

  -- a whole declaration, where each part of its list begins with a name
  module _ {A : Type 0} (word : List ℕ) (P : ℕ → A → ℕ → Type 0) (name : A → List ℕ) (begins : (i : ℕ) (a : A) (j : ℕ) → P i a j → IsIdentifier false ts i (name a))
      (one : (i : ℕ) (xs : List A) (j : ℕ) (ys : List A) (k : ℕ) → UpToEnd ts P i xs j → UpToEnd ts P i ys k → (xs ≡ ys) × (j ≡ k)) where
    named : (i : ℕ) (xs : List A) (j : ℕ) → UpToEnd ts P i xs j → (n : List ℕ) × IsIdentifier false ts i n
    named i [] j p = absurd p.1
    named i (x ∷ xs) j p = (name x, begins i x p.1.0 p.1.1)

    pub one_declares : (i : ℕ) (s : Shape) (xs : List A) (j : ℕ) (t : Shape) (ys : List A) (k : ℕ) → Declares ts word P i s xs j → Declares ts word P i t ys k
        → (s ≡ t) × (xs ≡ ys) × (j ≡ k)
    one_declares i s xs j t ys k p q =
        let m = named p.0 xs j p.3 in let n = named q.0 ys k q.3 in
        let h : (s ≡ t) × (p.0 ≡ q.0) = one_shape (i + 1) s p.0 m.0 t q.0 n.0 p.2 m.1 q.2 n.1 in
        let r : (xs ≡ ys) × (j ≡ k) = one p.0 xs j ys k p.3 (subst (λ z. UpToEnd ts P z ys k) (sym h.1) q.3) in (h.0, r.0, r.1)

  pub one_wire_item : (i : ℕ) (s : Shape) (xs : List Wire) (j : ℕ) (t : Shape) (ys : List Wire) (k : ℕ) → Declares ts (codes "wire") (SpellsWire ts) i s xs j
      → Declares ts (codes "wire") (SpellsWire ts) i t ys k → (s ≡ t) × (xs ≡ ys) × (j ≡ k)
  one_wire_item = one_declares (codes "wire") (SpellsWire ts) (λ x. x.name) (λ i x j p. p.0) (one_wires ts)

  pub one_reg_item : (i : ℕ) (s : Shape) (xs : List Register) (j : ℕ) (t : Shape) (ys : List Register) (k : ℕ) → Declares ts (codes "reg") (SpellsRegister ts) i s xs j
      → Declares ts (codes "reg") (SpellsRegister ts) i t ys k → (s ≡ t) × (xs ≡ ys) × (j ≡ k)
  one_reg_item = one_declares (codes "reg") (SpellsRegister ts) (λ x. x.name) (λ i x j p. p.0) (one_registers ts)

  pub one_assign_item : (i : ℕ) (xs : List Assign) (j : ℕ) (ys : List Assign) (k : ℕ) → UpToEnd ts (SpellsAssign ts) i xs j → UpToEnd ts (SpellsAssign ts) i ys k → (xs ≡ ys) × (j ≡ k)
  one_assign_item = one_list_of ts (SpellsAssign ts) one_assign

  pub one_parameter_item : (w : List ℕ) (i : ℕ) (s : Shape) (xs : List Parameter) (j : ℕ) (t : Shape) (ys : List Parameter) (k : ℕ) → Declares ts w (SpellsParameter ts) i s xs j
      → Declares ts w (SpellsParameter ts) i t ys k → (s ≡ t) × (xs ≡ ys) × (j ≡ k)
  one_parameter_item w = one_declares w (SpellsParameter ts) (λ x. x.name) (λ i x j p. p.0) (one_parameters ts)
