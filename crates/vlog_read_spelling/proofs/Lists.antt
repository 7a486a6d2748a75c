-- Lists with separators between, whatever their parts are: P i x j says that the tokens from i up to j read as x, and are the only ones that do.
use Rattle.std.proofs.Common.{ℕ, ◌+◌, ◌≡◌, ◌≤◌, max, ◌⊎◌, inl, inr, List, [], ◌∷◌, ◌++◌, refl, sym, ap, subst, ◌∙◌, append_assoc, arith}
use Rattle.vlog_tree.specs.Lists.{More, Separated, Sequence, Maybe, highest}
use Rattle.vlog_read_spelling.specs.Growing.{ReadsMore, ReadsList}
use Rattle.std.specs.Prelude.{Option, Some, None}

module _ {A : Type 0} (h : A → ℕ) (sep : ℕ → Type 0) (P : ℕ → A → ℕ → Type 0)
    (unique : (i : ℕ) (a : A) (j : ℕ) (b : A) (k : ℕ) → P i a j → P i b k → (a ≡ b) × (j ≡ k)) where
  pub more_reads : (xs : List A) (i j : ℕ) → More sep P i xs j → (sep j → ⊥) → ReadsMore sep P i xs j
  more_reads [] i j p last = (p, λ s. last (subst sep p s))
  more_reads (x ∷ xs) i j p last = (p.0, p.1, p.2, more_reads xs p.0 j p.3 last)

  pub reads_more : (xs : List A) (i j : ℕ) → ReadsMore sep P i xs j → More sep P i xs j
  reads_more [] i j p = p.0
  reads_more (x ∷ xs) i j p = (p.0, p.1, p.2, reads_more xs p.0 j p.3)

  pub one_more : (xs ys : List A) (i j k : ℕ) → ReadsMore sep P i xs j → ReadsMore sep P i ys k → (xs ≡ ys) × (j ≡ k)
  one_more [] [] i j k p q = (refl, sym p.0 ∙ q.0)
  one_more [] (y ∷ ys) i j k p q = absurd (p.1 q.1)
  one_more (x ∷ xs) [] i j k p q = absurd (q.1 p.1)
  one_more (x ∷ xs) (y ∷ ys) i j k p q =
      let u : (x ≡ y) × (p.0 ≡ q.0) = unique (i + 1) x p.0 y q.0 p.2 q.2 in
      let r : (xs ≡ ys) × (j ≡ k) = one_more xs ys p.0 j k p.3 (subst (λ z. ReadsMore sep P z ys k) (sym u.1) q.3) in
      ((λ z. u.0 z ∷ r.0 z), r.1)

  pub one_list : (xs ys : List A) (i j k : ℕ) → ReadsList sep P i xs j → ReadsList sep P i ys k → (xs ≡ ys) × (j ≡ k)
  one_list [] ys i j k p q = absurd p
  one_list (x ∷ xs) [] i j k p q = absurd q
  one_list (x ∷ xs) (y ∷ ys) i j k p q =
      let u : (x ≡ y) × (p.0 ≡ q.0) = unique i x p.0 y q.0 p.1 q.1 in
      let r : (xs ≡ ys) × (j ≡ k) = one_more xs ys p.0 j k p.2 (subst (λ z. ReadsMore sep P z ys k) (sym u.1) q.2) in
      ((λ z. u.0 z ∷ r.0 z), r.1)

  pub highest-append : (xs ys : List A) → highest h (xs ++ ys) ≡ max (highest h xs) (highest h ys)
  highest-append [] ys = omega arith
  highest-append (x ∷ xs) ys = omega (arith, highest-append xs ys)

  append_nil : (xs : List A) → xs ++ [] ≡ xs
  append_nil [] = refl
  append_nil (x ∷ xs) = ap (λ z. x ∷ z) (append_nil xs)

  -- what is read of a list so far
  pub record Started (i : ℕ) (items : List A) (end : ℕ) : Type 0 where
    pub whole : (xs : List A) (j : ℕ) → ReadsMore sep P end xs j → ReadsList sep P i (items ++ xs) j
    pub only : (ys : List A) (j : ℕ) → ReadsList sep P i ys j → (xs : List A) × ReadsMore sep P end xs j × (ys ≡ items ++ xs)

  pub starts : (i : ℕ) (a : A) (end : ℕ) → P i a end → Started i (a ∷ []) end
  starts i a end p = record { whole = λ xs j q. (end, p, q); only = only }
    where
      only : (ys : List A) (j : ℕ) → ReadsList sep P i ys j → (xs : List A) × ReadsMore sep P end xs j × (ys ≡ (a ∷ []) ++ xs)
      only [] j q = absurd q
      only (y ∷ ys) j q =
          let u : (y ≡ a) × (q.0 ≡ end) = unique i y q.0 a end q.1 p in (ys, subst (λ z. ReadsMore sep P z ys j) u.1 q.2, ap (λ z. z ∷ ys) u.0)

  pub stops : (i : ℕ) (items : List A) (end : ℕ) → Started i items end → (sep end → ⊥) → ReadsList sep P i items end
  stops i items end s last = subst (λ z. ReadsList sep P i z end) (append_nil items) (s.whole [] end (refl, last))

  pub grows : (i : ℕ) (items : List A) (end : ℕ) → Started i items end → sep end → (a : A) (at : ℕ) → P (end + 1) a at → Started i (items ++ a ∷ []) at
  grows i items end s comma a at p = record {
    whole = λ xs j q. subst (λ z. ReadsList sep P i z j) (sym (append_assoc items (a ∷ []) xs)) (s.whole (a ∷ xs) j (at, comma, p, q));
    only = λ ys j q. let o = s.only ys j q in next ys j o.0 o.1 o.2;
  }
    where
      next : (ys : List A) (j : ℕ) (xs : List A) → ReadsMore sep P end xs j → ys ≡ items ++ xs → (xs : List A) × ReadsMore sep P at xs j × (ys ≡ (items ++ a ∷ []) ++ xs)
      next ys j [] q e = absurd (q.1 comma)
      next ys j (x ∷ xs) q e =
          let u : (x ≡ a) × (q.0 ≡ at) = unique (end + 1) x q.0 a at q.2 p in
          (xs, subst (λ z. ReadsMore sep P z xs j) u.1 q.3, e ∙ (ap (λ z. items ++ z ∷ xs) u.0 ∙ sym (append_assoc items (a ∷ []) xs)))

  -- after a separator each list has one more part there
  pub another : (i : ℕ) (items : List A) (end : ℕ) → Started i items end → sep end → (ys : List A) (j : ℕ) → ReadsList sep P i ys j
      → (a : A) × (k : ℕ) × P (end + 1) a k × (h a ≤ highest h ys)
  another i items end s comma ys j q = let o = s.only ys j q in by o.0 o.1 o.2
    where
      by : (xs : List A) → ReadsMore sep P end xs j → ys ≡ items ++ xs → (a : A) × (k : ℕ) × P (end + 1) a k × (h a ≤ highest h ys)
      by [] q e = absurd (q.1 comma)
      by (x ∷ xs) q e = (x, q.0, q.2, omega (arith, ap (highest h) e, highest-append items (x ∷ xs)))

-- one after another, up to a word of their own
module _ {A : Type 0} (stop : ℕ → Type 0) (P : ℕ → A → ℕ → Type 0)
    (unique : (i : ℕ) (a : A) (j : ℕ) (b : A) (k : ℕ) → P i a j → P i b k → (a ≡ b) × (j ≡ k))
    (begins : (i : ℕ) (a : A) (j : ℕ) → P i a j → stop i → ⊥) where
  pub one_sequence : (xs ys : List A) (i j k : ℕ) → Sequence P i xs j → stop j → Sequence P i ys k → stop k → (xs ≡ ys) × (j ≡ k)
  one_sequence [] [] i j k p s q t = (refl, sym p ∙ q)
  one_sequence [] (y ∷ ys) i j k p s q t = absurd (begins i y q.0 q.1 (subst stop (sym p) s))
  one_sequence (x ∷ xs) [] i j k p s q t = absurd (begins i x p.0 p.1 (subst stop (sym q) t))
  one_sequence (x ∷ xs) (y ∷ ys) i j k p s q t =
      let u : (x ≡ y) × (p.0 ≡ q.0) = unique i x p.0 y q.0 p.1 q.1 in
      let r : (xs ≡ ys) × (j ≡ k) = one_sequence xs ys p.0 j k p.2 s (subst (λ z. Sequence P z ys k) (sym u.1) q.2) t in
      ((λ z. u.0 z ∷ r.0 z), r.1)

-- what may stand, where its first token tells
module _ {A : Type 0} (P : ℕ → A → ℕ → Type 0)
    (unique : (i : ℕ) (a : A) (j : ℕ) (b : A) (k : ℕ) → P i a j → P i b k → (a ≡ b) × (j ≡ k))
    (starts : ℕ → Type 0) (begins : (i : ℕ) (a : A) (j : ℕ) → P i a j → starts i) where
  pub one_maybe : (x y : Option A) (i j k : ℕ) → Maybe P i x j → (starts j → ⊥) → Maybe P i y k → (starts k → ⊥) → (x ≡ y) × (j ≡ k)
  one_maybe None None i j k p s q t = (refl, sym p ∙ q)
  one_maybe None (Some y) i j k p s q t = absurd (s (subst starts p (begins i y k q)))
  one_maybe (Some x) None i j k p s q t = absurd (t (subst starts q (begins i x j p)))
  one_maybe (Some x) (Some y) i j k p s q t = let u : (x ≡ y) × (j ≡ k) = unique i x j y k p q in (ap Some u.0, u.1)

-- a list up to a closing token: each part is followed by a separator or by that token
module _ {A : Type 0} (sep close : ℕ → Type 0) (P : ℕ → A → ℕ → Type 0)
    (unique : (i : ℕ) (a : A) (j : ℕ) (b : A) (k : ℕ) → P i a j → sep j ⊎ close j → P i b k → sep k ⊎ close k → (a ≡ b) × (j ≡ k))
    (differ : (j : ℕ) → sep j → close j → ⊥) where
  followed : (xs : List A) (i j : ℕ) → More sep P i xs j → close j → sep i ⊎ close i
  followed [] i j p c = inr (subst close (sym p) c)
  followed (x ∷ xs) i j p c = inl p.1

  one_rest : (xs ys : List A) (i j k : ℕ) → More sep P i xs j → close j → More sep P i ys k → close k → (xs ≡ ys) × (j ≡ k)
  one_rest [] [] i j k p c q d = (refl, sym p ∙ q)
  one_rest [] (y ∷ ys) i j k p c q d = absurd (differ i q.1 (subst close (sym p) c))
  one_rest (x ∷ xs) [] i j k p c q d = absurd (differ i p.1 (subst close (sym q) d))
  one_rest (x ∷ xs) (y ∷ ys) i j k p c q d =
      let u : (x ≡ y) × (p.0 ≡ q.0) = unique (i + 1) x p.0 y q.0 p.2 (followed xs p.0 j p.3 c) q.2 (followed ys q.0 k q.3 d) in
      let r : (xs ≡ ys) × (j ≡ k) = one_rest xs ys p.0 j k p.3 c (subst (λ z. More sep P z ys k) (sym u.1) q.3) d in
      ((λ z. u.0 z ∷ r.0 z), r.1)

  pub one_separated : (xs ys : List A) (i j k : ℕ) → Separated sep P i xs j → close j → Separated sep P i ys k → close k → (xs ≡ ys) × (j ≡ k)
  one_separated [] ys i j k p c q d = absurd p
  one_separated (x ∷ xs) [] i j k p c q d = absurd q
  one_separated (x ∷ xs) (y ∷ ys) i j k p c q d =
      let u : (x ≡ y) × (p.0 ≡ q.0) = unique i x p.0 y q.0 p.1 (followed xs p.0 j p.2 c) q.1 (followed ys q.0 k q.2 d) in
      let r : (xs ≡ ys) × (j ≡ k) = one_rest xs ys p.0 j k p.2 c (subst (λ z. More sep P z ys k) (sym u.1) q.2) d in
      ((λ z. u.0 z ∷ r.0 z), r.1)
