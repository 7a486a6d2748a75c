-- What is given to pieces, bit by bit.
use Rattle.std.proofs.Common.{arith, ◌≡◌, ℕ, ◌+◌, ◌-◌, ◌/◌, ◌^◌, ◌<◌, ◌≤◌, Bool, true, false, List, [], ◌∷◌, ◌++◌, sym, ap, ◌∙◌, refl, ◌⊎◌, inl, inr, ⊎_elim, ℤ, pos, negsuc}
use Rattle.std.specs.Prelude.{nat_lt, if◌then◌else◌}
use Rattle.std.specs.Int.{bit_at}
use Rattle.std.specs.Str.{bytes_eq}
use Rattle.std.proofs.lemmas.Bool.{ltb-true, ltb-false}
use Rattle.std.proofs.lemmas.Int.{ints}
use Rattle.std.proofs.lemmas.Slice.Eq.{bytes_eq-Decides}
use Rattle.vlog_tree_runs.specs.Places.{Name, Cycle, Piece, total, write_bits, put, give}
use Rattle.vlog_tree_runs.specs.Blocks.{IsWithin}
use Rattle.vlog_tree_runs.specs.Laws.{WritesInside, WritesNothingElse, WritesFromTheFirst}
use Rattle.elab_flat_laws.proofs.Lists.{bool_cases}

pub less_or : (j b : ℕ) → (j < b) ⊎ (b ≤ j)
less_or j b = ⊎_elim (λ (e : nat_lt j b ≡ true). inl (ltb-true j b e)) (λ (e : nat_lt j b ≡ false). inr (ltb-false j b e)) (bool_cases (nat_lt j b))

-- the laws of writing
pub record Writes : Type 0 where
  pub inside : WritesInside
  pub others : WritesNothingElse
  pub below : WritesFromTheFirst

-- bit b of a signal is one of a piece's
abbrev pub Covers : Piece → Name → ℕ → Type 0
Covers q x b = (q.name ≡ x) × IsWithin q.from q.count b × (b < q.size)

abbrev pub AnyCovers : List Piece → Name → ℕ → Type 0
AnyCovers [] x b = ⊥
AnyCovers (q ∷ qs) x b = Covers q x b ⊎ AnyCovers qs x b

pub covers_append : (xs ys : List Piece) (x : Name) (b : ℕ) → AnyCovers (xs ++ ys) x b → AnyCovers xs x b ⊎ AnyCovers ys x b
covers_append [] ys x b h = inr h
covers_append (q ∷ xs) ys x b h =
    ⊎_elim (λ e. inl (inl e)) (λ m. ⊎_elim (λ a. inl (inr a)) (λ k. inr k) (covers_append xs ys x b m)) h

pub covers_left : (xs ys : List Piece) (x : Name) (b : ℕ) → AnyCovers xs x b → AnyCovers (xs ++ ys) x b
covers_left [] ys x b h = absurd h
covers_left (q ∷ xs) ys x b h = ⊎_elim (λ e. inl e) (λ m. inr (covers_left xs ys x b m)) h

pub covers_right : (xs ys : List Piece) (x : Name) (b : ℕ) → AnyCovers ys x b → AnyCovers (xs ++ ys) x b
covers_right [] ys x b h = h
covers_right (q ∷ xs) ys x b h = inr (covers_right xs ys x b h)

-- ---- which bits a piece has can be told

pub within_or : (i : ℤ) (n b : ℕ) → IsWithin i n b ⊎ (IsWithin i n b → ⊥)
within_or (pos a) n b =
    ⊎_elim (λ (l : b < a). inr (λ h. omega (arith, ints, l, h)))
    (λ (l : a ≤ b). ⊎_elim (λ (k : b < a + n). inl (omega (arith, ints, l, k), omega (arith, ints, l, k))) (λ (k : a + n ≤ b). inr (λ h. omega (arith, ints, k, h))) (less_or b (a + n)))
    (less_or b a)
within_or (negsuc a) n b =
    ⊎_elim (λ (l : b + a + 1 < n). inl (omega (arith, ints, l), omega (arith, ints, l))) (λ (l : n ≤ b + a + 1). inr (λ h. omega (arith, ints, l, h))) (less_or (b + a + 1) n)

covers_or : (q : Piece) (x : Name) (b : ℕ) → Covers q x b ⊎ (Covers q x b → ⊥)
covers_or q x b =
    ⊎_elim
    (λ (t : bytes_eq q.name x ≡ true). ⊎_elim
    (λ (h : IsWithin q.from q.count b). ⊎_elim (λ (l : b < q.size). inl ((bytes_eq-Decides q.name x).0 t, h, l)) (λ (l : q.size ≤ b). inr (λ k. omega (arith, l, k.2))) (less_or b q.size))
    (λ (n : IsWithin q.from q.count b → ⊥). inr (λ k. n k.1))
    (within_or q.from q.count b))
    (λ (t : bytes_eq q.name x ≡ false). inr (λ k. let u : bytes_eq q.name x ≡ true = (bytes_eq-Decides q.name x).1 k.0 in cc))
    (bool_cases (bytes_eq q.name x))

pub any_covers_or : (qs : List Piece) (x : Name) (b : ℕ) → AnyCovers qs x b ⊎ (AnyCovers qs x b → ⊥)
any_covers_or [] x b = inr (λ h. h)
any_covers_or (q ∷ qs) x b =
    ⊎_elim (λ h. inl (inl h))
    (λ (n : Covers q x b → ⊥). ⊎_elim (λ h. inl (inr h)) (λ (m : AnyCovers qs x b → ⊥). inr (λ k. ⊎_elim n m k)) (any_covers_or qs x b))
    (covers_or q x b)

module _ (w : Writes) where
  -- ---- the bits of a number

  -- those that are written don't depend on what was there
  bits_given : (size : ℕ) (i : ℤ) (n t x y b : ℕ) → IsWithin i n b → b < size → bit_at (write_bits size i n t x) b ≡ bit_at (write_bits size i n t y) b
  bits_given size (pos a) n t x y b h l =
      let k : a ≤ b = omega (arith, ints, h) in
      let m : b < a + n = omega (arith, ints, h) in
      w.inside size a n t x b k m l ∙ sym (w.inside size a n t y b k m l)
  bits_given size (negsuc a) n t x y b h l =
      let m : b < 0 + (n - (a + 1)) = omega (arith, ints, h) in
      let s : 0 ≤ b = omega arith in
      ap (λ z. bit_at z b) (w.below size a n t x)
      ∙ (w.inside size 0 (n - (a + 1)) (t / 2 ^ (a + 1)) x b s m l ∙ sym (ap (λ z. bit_at z b) (w.below size a n t y) ∙ w.inside size 0 (n - (a + 1)) (t / 2 ^ (a + 1)) y b s m l))

  -- the others stay
  apart : (size a n b : ℕ) → (a ≤ b → b < a + n → b < size → ⊥) → (b < a) ⊎ ((a + n ≤ b) ⊎ (size ≤ b))
  apart size a n b h =
      ⊎_elim (λ l. inl l)
      (λ (l : a ≤ b). ⊎_elim (λ (k : b < a + n). ⊎_elim (λ (m : b < size). absurd (h l k m)) (λ m. inr (inr m)) (less_or b size)) (λ k. inr (inl k)) (less_or b (a + n)))
      (less_or b a)

  bits_kept : (size : ℕ) (i : ℤ) (n t x b : ℕ) → (IsWithin i n b → b < size → ⊥) → bit_at (write_bits size i n t x) b ≡ bit_at x b
  bits_kept size (pos a) n t x b h =
      w.others size a n t x b (apart size a n b (λ (l : a ≤ b) (k : b < a + n) m. h (omega (arith, ints, l, k), omega (arith, ints, l, k)) m))
  bits_kept size (negsuc a) n t x b h =
      ap (λ z. bit_at z b) (w.below size a n t x)
      ∙ w.others size 0 (n - (a + 1)) (t / 2 ^ (a + 1)) x b
      (apart size 0 (n - (a + 1)) b (λ l (k : b < 0 + (n - (a + 1))) m. h (omega (arith, ints, k), omega (arith, ints, k)) m))

  -- ---- one piece

  put_given : (q : Piece) (t : ℕ) (c e : Cycle) (x : Name) (b : ℕ) → Covers q x b → bit_at (put q t c x) b ≡ bit_at (put q t e x) b
  put_given q t c e x b h =
      let k : bytes_eq q.name x ≡ true = (bytes_eq-Decides q.name x).1 h.0 in
      ap (λ (z : Bool). bit_at (if z then write_bits q.size q.from q.count t (c x) else c x) b) k
      ∙ (bits_given q.size q.from q.count t (c x) (e x) b h.1 h.2 ∙ sym (ap (λ (z : Bool). bit_at (if z then write_bits q.size q.from q.count t (e x) else e x) b) k))

  put_kept : (q : Piece) (t : ℕ) (c : Cycle) (x : Name) (b : ℕ) → (Covers q x b → ⊥) → bit_at (put q t c x) b ≡ bit_at (c x) b
  put_kept q t c x b n =
      ⊎_elim
      (λ (k : bytes_eq q.name x ≡ true). ap (λ (z : Bool). bit_at (if z then write_bits q.size q.from q.count t (c x) else c x) b) k
      ∙ bits_kept q.size q.from q.count t (c x) b (λ h l. n ((bytes_eq-Decides q.name x).0 k, h, l)))
      (λ (k : bytes_eq q.name x ≡ false). ap (λ (z : Bool). bit_at (if z then write_bits q.size q.from q.count t (c x) else c x) b) k)
      (bool_cases (bytes_eq q.name x))

  put_apart : (q : Piece) (t : ℕ) (c e : Cycle) (x : Name) (b : ℕ) → bit_at (c x) b ≡ bit_at (e x) b → bit_at (put q t c x) b ≡ bit_at (put q t e x) b
  put_apart q t c e x b h =
      ⊎_elim (λ k. put_given q t c e x b k) (λ (n : Covers q x b → ⊥). put_kept q t c x b n ∙ (h ∙ sym (put_kept q t e x b n))) (covers_or q x b)

  -- ---- several pieces

  pub give_apart : (qs : List Piece) (t : ℕ) (c e : Cycle) (x : Name) (b : ℕ) → bit_at (c x) b ≡ bit_at (e x) b → bit_at (give qs t c x) b ≡ bit_at (give qs t e x) b
  give_apart [] t c e x b h = h
  give_apart (q ∷ qs) t c e x b h = give_apart qs t (put q (t / 2 ^ total qs) c) (put q (t / 2 ^ total qs) e) x b (put_apart q (t / 2 ^ total qs) c e x b h)

  pub give_given : (qs : List Piece) (t : ℕ) (c e : Cycle) (x : Name) (b : ℕ) → AnyCovers qs x b → bit_at (give qs t c x) b ≡ bit_at (give qs t e x) b
  give_given [] t c e x b h = absurd h
  give_given (q ∷ qs) t c e x b h =
      ⊎_elim
      (λ k. give_apart qs t (put q (t / 2 ^ total qs) c) (put q (t / 2 ^ total qs) e) x b (put_given q (t / 2 ^ total qs) c e x b k))
      (λ k. give_given qs t (put q (t / 2 ^ total qs) c) (put q (t / 2 ^ total qs) e) x b k)
      h

  pub give_kept : (qs : List Piece) (t : ℕ) (c : Cycle) (x : Name) (b : ℕ) → (AnyCovers qs x b → ⊥) → bit_at (give qs t c x) b ≡ bit_at (c x) b
  give_kept [] t c x b n = refl
  give_kept (q ∷ qs) t c x b n =
      give_kept qs t (put q (t / 2 ^ total qs) c) x b (λ k. n (inr k)) ∙ put_kept q (t / 2 ^ total qs) c x b (λ k. n (inl k))
