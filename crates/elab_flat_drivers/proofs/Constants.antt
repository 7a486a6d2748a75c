-- An expression that reads nothing has no names.
use Rattle.std.proofs.Common.{◌≡◌, true, false, List, [], ◌∷◌, ◌++◌, refl, ap, ◌∙◌}
use Rattle.vlog_tree.specs.declared.expr.Expr.{Expr, Row_of-Expr, end_of-Expr, more_of-Expr}
use Rattle.vlog_tree.specs.declared.expr.Expr.TheVariants as e
use Rattle.vlog_tree.specs.Value.{NamesOnly, AllNamesOnly}
use Rattle.elab_flat_drivers.specs.Parts.{reads_of, row_reads}
use Rattle.elab_flat_drivers.specs.Claims.{nothing}

none_of : {A : Type 0} (xs ys : List A) → xs ++ ys ≡ [] → (xs ≡ []) × (ys ≡ [])
none_of [] ys h = (refl, h)
none_of (x ∷ xs) ys h = cc

mutual
  pub no_names : (a : Expr) → reads_of a ≡ [] → NamesOnly nothing a
  no_names (e.Number n) h = tt
  no_names (e.Name y) h = cc
  no_names (e.Select' y g (more_of-Expr a end_of-Expr)) h = cc
  no_names (e.Part' y span g (more_of-Expr a end_of-Expr) i (more_of-Expr c end_of-Expr)) h = cc
  no_names (e.ConstantSelect' k g (more_of-Expr a end_of-Expr)) h = no_names a h
  no_names (e.ConstantPart' k span g (more_of-Expr a end_of-Expr) i (more_of-Expr c end_of-Expr)) h =
      let r = none_of (reads_of a) (reads_of c) h in (no_names a r.0, no_names c r.1)
  no_names (e.Cast' cast g (more_of-Expr a end_of-Expr)) h = no_names a h
  no_names (e.Paren' g (more_of-Expr a end_of-Expr)) h = no_names a h
  no_names (e.Concat' g row) h = no_row_names row h
  no_names (e.Repeat' g (more_of-Expr a end_of-Expr) i row) h = let r = none_of (reads_of a) (row_reads row) h in (no_names a r.0, no_row_names row r.1)
  no_names (e.Unary' op g (more_of-Expr a end_of-Expr)) h = no_names a h
  no_names (e.Binary' op g (more_of-Expr a end_of-Expr) i (more_of-Expr c end_of-Expr)) h =
      let r = none_of (reads_of a) (reads_of c) h in (no_names a r.0, no_names c r.1)
  no_names (e.Choice' g (more_of-Expr d end_of-Expr) i (more_of-Expr a end_of-Expr) j (more_of-Expr c end_of-Expr)) h =
      let r = none_of (reads_of d) (reads_of a ++ reads_of c) h in let q = none_of (reads_of a) (reads_of c) r.1 in (no_names d r.0, no_names a q.0, no_names c q.1)

  no_row_names : {m : _} (row : Row_of-Expr m) → row_reads row ≡ [] → AllNamesOnly nothing row
  no_row_names end_of-Expr h = tt
  no_row_names (more_of-Expr a rest) h = let r = none_of (reads_of a) (row_reads rest) h in (no_names a r.0, no_row_names rest r.1)

both : {A : Type 0} (xs ys : List A) → xs ≡ [] → ys ≡ [] → xs ++ ys ≡ []
both xs ys f g = ap (λ z. z ++ ys) f ∙ g

mutual
  pub no_reads : (a : Expr) → NamesOnly nothing a → reads_of a ≡ []
  no_reads (e.Number n) h = refl
  no_reads (e.Name y) h = let z : false ≡ true = h in cc
  no_reads (e.Select' y g (more_of-Expr a end_of-Expr)) h = let z : false ≡ true = h.0 in cc
  no_reads (e.Part' y span g (more_of-Expr a end_of-Expr) i (more_of-Expr c end_of-Expr)) h = let z : false ≡ true = h.0 in cc
  no_reads (e.ConstantSelect' k g (more_of-Expr a end_of-Expr)) h = no_reads a h
  no_reads (e.ConstantPart' k span g (more_of-Expr a end_of-Expr) i (more_of-Expr c end_of-Expr)) h =
      both (reads_of a) (reads_of c) (no_reads a h.0) (no_reads c h.1)
  no_reads (e.Cast' cast g (more_of-Expr a end_of-Expr)) h = no_reads a h
  no_reads (e.Paren' g (more_of-Expr a end_of-Expr)) h = no_reads a h
  no_reads (e.Concat' g row) h = no_row_reads row h
  no_reads (e.Repeat' g (more_of-Expr a end_of-Expr) i row) h = both (reads_of a) (row_reads row) (no_reads a h.0) (no_row_reads row h.1)
  no_reads (e.Unary' op g (more_of-Expr a end_of-Expr)) h = no_reads a h
  no_reads (e.Binary' op g (more_of-Expr a end_of-Expr) i (more_of-Expr c end_of-Expr)) h =
      both (reads_of a) (reads_of c) (no_reads a h.0) (no_reads c h.1)
  no_reads (e.Choice' g (more_of-Expr d end_of-Expr) i (more_of-Expr a end_of-Expr) j (more_of-Expr c end_of-Expr)) h =
      both (reads_of d) (reads_of a ++ reads_of c) (no_reads d h.0) (both (reads_of a) (reads_of c) (no_reads a h.1) (no_reads c h.2))

  no_row_reads : {m : _} (row : Row_of-Expr m) → AllNamesOnly nothing row → row_reads row ≡ []
  no_row_reads end_of-Expr h = refl
  no_row_reads (more_of-Expr a rest) h = both (reads_of a) (row_reads rest) (no_reads a h.0) (no_row_reads rest h.1)
