-- An expression reads the bits of its parts.
use Rattle.std.proofs.Common.{ℕ, ◌⊎◌, inl, inr, List, [], ◌∷◌, ◌++◌, refl, sym, subst}
use Rattle.vlog_tree.specs.declared.expr.Expr.{Expr, Row_of-Expr, end_of-Expr, more_of-Expr}
use Rattle.vlog_tree.specs.declared.expr.Expr.TheVariants as e
use Rattle.vlog_tree.specs.declared.stmt.Lval.{Lval}
use Rattle.vlog_tree.specs.declared.stmt.Lval.TheVariants as l
use Rattle.vlog_tree_runs.specs.Places.{Name, Place}
use Rattle.vlog_tree_runs.specs.Blocks.{Drives}
use Rattle.elab_flat_laws.proofs.Lists.{among_append, append_left, append_right}
use Rattle.elab_flat_faults.specs.Drivers.{ReadsBit, AnyReadsBit}
use Rattle.elab_flat_drivers.specs.Parts.{reads_of, row_reads}
use Rattle.elab_flat_drivers.proofs.Parting.{AnyPart}

module _ (p : Place) (x : Name) (b : ℕ) where
  abbrev Any : List Lval → Type 0
  Any qs = AnyPart p x b qs

  pub in_left : (qs rs : List Lval) → Any qs → Any (qs ++ rs)
  in_left qs rs (q, h, d) = (q, append_left qs rs q h, d)

  pub in_right : (qs rs : List Lval) → Any rs → Any (qs ++ rs)
  in_right qs rs (q, h, d) = (q, append_right qs rs q h, d)

  pub in_either : (qs rs : List Lval) → Any (qs ++ rs) → Any qs ⊎ Any rs
  in_either qs rs (q, h, d) = elim (among_append qs rs q h) [ inl f ↦ inl (q, f, d) | inr f ↦ inr (q, f, d) ]

  pub first_or : (q : Lval) (qs : List Lval) → Any (q ∷ qs) → Drives p q x b ⊎ Any qs
  first_or q qs (r, inl f, d) = inl (subst (λ z. Drives p z x b) (sym f) d)
  first_or q qs (r, inr f, d) = inr (r, f, d)

  pub is_first : (q : Lval) (qs : List Lval) → Drives p q x b → Any (q ∷ qs)
  is_first q qs d = (q, inl refl, d)

  pub is_later : (q : Lval) (qs : List Lval) → Any qs → Any (q ∷ qs)
  is_later q qs (r, f, d) = (r, inr f, d)

  none : Any [] → ⊥
  none (q, h, d) = absurd h

  mutual
    pub reads_parts : (a : Expr) → ReadsBit p a x b → Any (reads_of a)
    reads_parts (e.Number n) h = absurd h
    reads_parts (e.Name y) h = is_first (l.Name y.text) [] h
    reads_parts (e.Select' y g (more_of-Expr a end_of-Expr)) (inl h) = is_first (l.Select y.text a) (reads_of a) h
    reads_parts (e.Select' y g (more_of-Expr a end_of-Expr)) (inr h) = is_later (l.Select y.text a) (reads_of a) (reads_parts a h)
    reads_parts (e.Part' y span g (more_of-Expr a end_of-Expr) i (more_of-Expr c end_of-Expr)) (inl h) = is_first (l.Part y.text span a c) (reads_of a ++ reads_of c) h
    reads_parts (e.Part' y span g (more_of-Expr a end_of-Expr) i (more_of-Expr c end_of-Expr)) (inr (inl h)) =
        is_later (l.Part y.text span a c) (reads_of a ++ reads_of c) (in_left (reads_of a) (reads_of c) (reads_parts a h))
    reads_parts (e.Part' y span g (more_of-Expr a end_of-Expr) i (more_of-Expr c end_of-Expr)) (inr (inr h)) =
        is_later (l.Part y.text span a c) (reads_of a ++ reads_of c) (in_right (reads_of a) (reads_of c) (reads_parts c h))
    reads_parts (e.ConstantSelect' k g (more_of-Expr a end_of-Expr)) h = reads_parts a h
    reads_parts (e.ConstantPart' k span g (more_of-Expr a end_of-Expr) i (more_of-Expr c end_of-Expr)) (inl h) = in_left (reads_of a) (reads_of c) (reads_parts a h)
    reads_parts (e.ConstantPart' k span g (more_of-Expr a end_of-Expr) i (more_of-Expr c end_of-Expr)) (inr h) = in_right (reads_of a) (reads_of c) (reads_parts c h)
    reads_parts (e.Cast' cast g (more_of-Expr a end_of-Expr)) h = reads_parts a h
    reads_parts (e.Paren' g (more_of-Expr a end_of-Expr)) h = reads_parts a h
    reads_parts (e.Concat' g row) h = row_reads_parts row h
    reads_parts (e.Repeat' g (more_of-Expr a end_of-Expr) i row) (inl h) = in_left (reads_of a) (row_reads row) (reads_parts a h)
    reads_parts (e.Repeat' g (more_of-Expr a end_of-Expr) i row) (inr h) = in_right (reads_of a) (row_reads row) (row_reads_parts row h)
    reads_parts (e.Unary' op g (more_of-Expr a end_of-Expr)) h = reads_parts a h
    reads_parts (e.Binary' op g (more_of-Expr a end_of-Expr) i (more_of-Expr c end_of-Expr)) (inl h) = in_left (reads_of a) (reads_of c) (reads_parts a h)
    reads_parts (e.Binary' op g (more_of-Expr a end_of-Expr) i (more_of-Expr c end_of-Expr)) (inr h) = in_right (reads_of a) (reads_of c) (reads_parts c h)
    reads_parts (e.Choice' g (more_of-Expr d end_of-Expr) i (more_of-Expr a end_of-Expr) j (more_of-Expr c end_of-Expr)) (inl h) =
        in_left (reads_of d) (reads_of a ++ reads_of c) (reads_parts d h)
    reads_parts (e.Choice' g (more_of-Expr d end_of-Expr) i (more_of-Expr a end_of-Expr) j (more_of-Expr c end_of-Expr)) (inr (inl h)) =
        in_right (reads_of d) (reads_of a ++ reads_of c) (in_left (reads_of a) (reads_of c) (reads_parts a h))
    reads_parts (e.Choice' g (more_of-Expr d end_of-Expr) i (more_of-Expr a end_of-Expr) j (more_of-Expr c end_of-Expr)) (inr (inr h)) =
        in_right (reads_of d) (reads_of a ++ reads_of c) (in_right (reads_of a) (reads_of c) (reads_parts c h))

    row_reads_parts : {m : _} (row : Row_of-Expr m) → AnyReadsBit p row x b → Any (row_reads row)
    row_reads_parts end_of-Expr h = absurd h
    row_reads_parts (more_of-Expr a rest) (inl h) = in_left (reads_of a) (row_reads rest) (reads_parts a h)
    row_reads_parts (more_of-Expr a rest) (inr h) = in_right (reads_of a) (row_reads rest) (row_reads_parts rest h)

  or_later : {A B C : Type 0} → A ⊎ B → (B → C) → A ⊎ C
  or_later (inl h) f = inl h
  or_later (inr h) f = inr (f h)

  either : {A B C D : Type 0} → A ⊎ B → (A → C) → (B → D) → C ⊎ D
  either (inl h) f g = inl (f h)
  either (inr h) f g = inr (g h)

  mutual
    pub parts_read : (a : Expr) → Any (reads_of a) → ReadsBit p a x b
    parts_read (e.Number n) h = none h
    parts_read (e.Name y) h = elim (first_or (l.Name y.text) [] h) [ inl f ↦ f | inr f ↦ absurd (none f) ]
    parts_read (e.Select' y g (more_of-Expr a end_of-Expr)) h = or_later (first_or (l.Select y.text a) (reads_of a) h) (parts_read a)
    parts_read (e.Part' y span g (more_of-Expr a end_of-Expr) i (more_of-Expr c end_of-Expr)) h =
        or_later (first_or (l.Part y.text span a c) (reads_of a ++ reads_of c) h) (λ k. either (in_either (reads_of a) (reads_of c) k) (parts_read a) (parts_read c))
    parts_read (e.ConstantSelect' k g (more_of-Expr a end_of-Expr)) h = parts_read a h
    parts_read (e.ConstantPart' k span g (more_of-Expr a end_of-Expr) i (more_of-Expr c end_of-Expr)) h = either (in_either (reads_of a) (reads_of c) h) (parts_read a) (parts_read c)
    parts_read (e.Cast' cast g (more_of-Expr a end_of-Expr)) h = parts_read a h
    parts_read (e.Paren' g (more_of-Expr a end_of-Expr)) h = parts_read a h
    parts_read (e.Concat' g row) h = row_parts_read row h
    parts_read (e.Repeat' g (more_of-Expr a end_of-Expr) i row) h = either (in_either (reads_of a) (row_reads row) h) (parts_read a) (row_parts_read row)
    parts_read (e.Unary' op g (more_of-Expr a end_of-Expr)) h = parts_read a h
    parts_read (e.Binary' op g (more_of-Expr a end_of-Expr) i (more_of-Expr c end_of-Expr)) h = either (in_either (reads_of a) (reads_of c) h) (parts_read a) (parts_read c)
    parts_read (e.Choice' g (more_of-Expr d end_of-Expr) i (more_of-Expr a end_of-Expr) j (more_of-Expr c end_of-Expr)) h =
        either (in_either (reads_of d) (reads_of a ++ reads_of c) h) (parts_read d) (λ k. either (in_either (reads_of a) (reads_of c) k) (parts_read a) (parts_read c))

    row_parts_read : {m : _} (row : Row_of-Expr m) → Any (row_reads row) → AnyReadsBit p row x b
    row_parts_read end_of-Expr h = none h
    row_parts_read (more_of-Expr a rest) h = either (in_either (reads_of a) (row_reads rest) h) (parts_read a) (row_parts_read rest)
