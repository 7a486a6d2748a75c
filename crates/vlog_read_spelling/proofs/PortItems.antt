-- The kind of a port, and a port item: at one place stands at most one.
use Rattle.std.proofs.Common.{ℕ, ◌+◌, ◌≡◌, ◌<◌, ◌≤◌, ◌⊎◌, inl, inr, List, [], ◌∷◌, Option, Some, None, Bool, true, false, refl, sym, ap, subst, ◌∙◌, arith}
use Rattle.std.specs.Prelude.{codes}
use Rattle.std.specs.Str.{bytes_eq}
use Rattle.vlog_tree.specs.declared.token.Token.{Token}
use Rattle.vlog_tree.specs.Signs.{IsSign, IsWord, is_reserved, is_keyword}
use Rattle.vlog_tree.specs.Spelling.{IsIdentifier, IsNamed}
use Rattle.vlog_read_spelling.proofs.Tokens.{two_words}
use Rattle.vlog_tree.specs.Lists.{Maybe, Flag, UpToEnd}
use Rattle.vlog_tree.specs.Modules.{SpellsRange, SpellsShape, SpellsKind}
use Rattle.vlog_tree.specs.declared.item.Range.{Range}
use Rattle.vlog_tree.specs.declared.item.Shape.{Shape}
use Rattle.vlog_tree.specs.declared.item.PortKind.{PortKind}
use Rattle.vlog_tree.specs.declared.item.PortKind.TheVariants as p
use Rattle.vlog_read_spelling.proofs.Declarations.{absent, one_shape, one_names}

wire_reserved : is_reserved false (codes "wire") ≡ true
unfolding is_reserved is_keyword
wire_reserved = refl

reg_reserved : is_reserved false (codes "reg") ≡ true
unfolding is_reserved is_keyword
reg_reserved = refl

module _ (ts : List Token) where
  -- a word that neither sign nor range nor name is
  shape_absent : (w : List ℕ) → is_reserved false w ≡ true → bytes_eq w (codes "signed") ≡ false → (i : ℕ) (b : Bool) (mid : ℕ) (x : Option Range) (j : ℕ) (n : List ℕ)
      → Flag ts (codes "signed") i b mid → Maybe (SpellsRange ts) mid x j → IsIdentifier false ts j n → IsWord ts i w → ⊥
  shape_absent w r other i true mid x j n f q v h = two_words ts i w (codes "signed") other h f.0
  shape_absent w r other i false mid x j n f q v h = absent ts w r mid x j n q v (subst (λ z. IsWord ts z w) f h)

  no_word : (w : List ℕ) → is_reserved false w ≡ true → bytes_eq w (codes "signed") ≡ false → (i : ℕ) (x : Shape) (j : ℕ) (n : List ℕ) → SpellsShape ts i x j → IsIdentifier false ts j n → IsWord ts i w → ⊥
  no_word w r other i x j n q v h = shape_absent w r other i x.signed q.0 x.range j n q.1 q.2 v h

  -- `wire` or nothing, before sign, range and name
  flags : (i : ℕ) (a b : Bool) (m k : ℕ) (x : Shape) (j : ℕ) (n : List ℕ) (y : Shape) (l : ℕ) (n' : List ℕ) → Flag ts (codes "wire") i a m → SpellsShape ts m x j → IsIdentifier false ts j n
      → Flag ts (codes "wire") i b k → SpellsShape ts k y l → IsIdentifier false ts l n' → m ≡ k
  flags i true true m k x j n y l n' f s u g t v = f.1 ∙ sym g.1
  flags i false false m k x j n y l n' f s u g t v = sym f ∙ g
  flags i true false m k x j n y l n' f s u g t v = absurd (no_word (codes "wire") wire_reserved refl k y l n' t v (subst (λ z. IsWord ts z (codes "wire")) g f.0))
  flags i false true m k x j n y l n' f s u g t v = absurd (no_word (codes "wire") wire_reserved refl m x j n s u (subst (λ z. IsWord ts z (codes "wire")) f g.0))

  no_reg : (i : ℕ) (a : Bool) (m : ℕ) (x : Shape) (j : ℕ) (n : List ℕ) → Flag ts (codes "wire") i a m → SpellsShape ts m x j → IsIdentifier false ts j n → IsWord ts i (codes "reg") → ⊥
  no_reg i true m x j n f s u h = two_words ts i (codes "wire") (codes "reg") refl f.0 h
  no_reg i false m x j n f s u h = no_word (codes "reg") reg_reserved refl m x j n s u (subst (λ z. IsWord ts z (codes "reg")) f h)

  apart : (i : ℕ) → IsWord ts i (codes "input") → IsWord ts i (codes "output") → ⊥
  apart i h g = two_words ts i (codes "input") (codes "output") refl h g

  pub one_kind : (i : ℕ) (a : PortKind) (m : ℕ) (b : PortKind) (k : ℕ) (x : Shape) (j : ℕ) (n : List ℕ) (y : Shape) (l : ℕ) (n' : List ℕ)
      → SpellsKind ts i a m → SpellsShape ts m x j → IsIdentifier false ts j n → SpellsKind ts i b k → SpellsShape ts k y l → IsIdentifier false ts l n' → (a ≡ b) × (m ≡ k)
  one_kind i p.Input m p.Input k x j n y l n' f s u g t v = (refl, flags (i + 1) f.0 g.0 m k x j n y l n' f.2 s u g.2 t v)
  one_kind i p.Output m p.Output k x j n y l n' f s u g t v = (refl, flags (i + 1) f.0 g.0 m k x j n y l n' f.2 s u g.2 t v)
  one_kind i p.OutputReg m p.OutputReg k x j n y l n' f s u g t v = (refl, f.2 ∙ sym g.2)
  one_kind i p.Input m p.Output k x j n y l n' f s u g t v = absurd (apart i f.1 g.1)
  one_kind i p.Output m p.Input k x j n y l n' f s u g t v = absurd (apart i g.1 f.1)
  one_kind i p.Input m p.OutputReg k x j n y l n' f s u g t v = absurd (apart i f.1 g.0)
  one_kind i p.OutputReg m p.Input k x j n y l n' f s u g t v = absurd (apart i g.1 f.0)
  one_kind i p.Output m p.OutputReg k x j n y l n' f s u g t v = absurd (no_reg (i + 1) f.0 m x j n f.2 s u g.1)
  one_kind i p.OutputReg m p.Output k x j n y l n' f s u g t v = absurd (no_reg (i + 1) g.0 k y l n' g.2 t v f.1)

  first_name : (i : ℕ) (xs : List (List ℕ)) (j : ℕ) → UpToEnd ts (IsNamed false ts) i xs j → (n : List ℕ) × IsIdentifier false ts i n
  first_name i [] j q = absurd q.1
  first_name i (x ∷ xs) j q = (x, q.1.1.0)

  pub one_port_item : (i : ℕ) (a : PortKind) (s : Shape) (xs : List (List ℕ)) (m o j : ℕ) (b : PortKind) (t : Shape) (ys : List (List ℕ)) (m' o' k : ℕ)
      → SpellsKind ts i a m → SpellsShape ts m s o → UpToEnd ts (IsNamed false ts) o xs j → SpellsKind ts i b m' → SpellsShape ts m' t o' → UpToEnd ts (IsNamed false ts) o' ys k
      → (a ≡ b) × (s ≡ t) × (xs ≡ ys) × (j ≡ k)
  one_port_item i a s xs m o j b t ys m' o' k f g h f' g' h' =
      let n = first_name o xs j h in let n' = first_name o' ys k h' in
      let c : (a ≡ b) × (m ≡ m') = one_kind i a m b m' s o n.0 t o' n'.0 f g n.1 f' g' n'.1 in
      let d : (s ≡ t) × (o ≡ o') = one_shape ts m s o n.0 t o' n'.0 g n.1 (subst (λ z. SpellsShape ts z t o') (sym c.1) g') n'.1 in
      let r : (xs ≡ ys) × (j ≡ k) = one_names ts o xs j ys k h (subst (λ z. UpToEnd ts (IsNamed false ts) z ys k) (sym d.1) h') in
      (c.0, d.0, r.0, r.1)
