-- An expression names parameters alone where a search for another name finds none.
use Rattle.std.proofs.Common.{◌≡◌, Bool, true, false, cond, not, List, [], ◌∷◌, ◌++◌, Option, Some, None, Bor, is_some, refl, sym, ap, ◌∙◌}
use Rattle.std.specs.Prelude.{IsTrue}
use Rattle.std.specs.List.{find}
use Rattle.std.specs.Option.{option_copied, option_or}
use Rattle.std.proofs.lemmas.List.Folds.{find-append}
use Rattle.vlog_tree.specs.declared.expr.Expr.{Expr, Row_of-Expr, end_of-Expr, more_of-Expr}
use Rattle.vlog_tree.specs.declared.expr.Expr.TheVariants as e
use Rattle.vlog_tree.specs.declared.valuation.Entry.{Entry}
use Rattle.vlog_tree.specs.Value.{NamesOnly, AllNamesOnly}
use Rattle.vlog_tree_runs.specs.Places.{Name}
use Rattle.elab_flat_faults.specs.Texts.{names_in, row_names_in}
use Rattle.elab_flat_params.specs.Constants.{is_known, is_strange}

module _ (p : Name → Bool) where
  abbrev other : Name → Bool
  other x = not (p x)

  abbrev Passes : List Name → Type 0
  Passes xs = find other xs ≡ None

  -- the search through two lists
  both_or : (a b : Option Name) → option_or a b ≡ None → (a ≡ None) × (b ≡ None)
  both_or None b e = (refl, e)
  both_or (Some x) b e = cc

  both : (xs ys : List Name) → Passes (xs ++ ys) → Passes xs × Passes ys
  both xs ys e = both_or (find other xs) (find other ys) (sym (find-append other xs ys) ∙ e)

  all_of : (xs ys : List Name) → Passes xs → Passes ys → Passes (xs ++ ys)
  all_of xs ys f g = find-append other xs ys ∙ (ap (λ o. option_or o (find other ys)) f ∙ g)

  first_is : (b : Bool) (x : Name) (o : Option Name) → cond (not b) (Some x) o ≡ None → IsTrue b × (o ≡ None)
  first_is true x o e = (refl, e)
  first_is false x o e = cc

  first : (x : Name) (xs : List Name) → Passes (x ∷ xs) → IsTrue (p x) × Passes xs
  first x xs e = first_is (p x) x (find other xs) e

  put_is : (b : Bool) (x : Name) (o : Option Name) → IsTrue b → o ≡ None → cond (not b) (Some x) o ≡ None
  put_is true x o t e = e
  put_is false x o t e = cc

  put : (x : Name) (xs : List Name) → IsTrue (p x) → Passes xs → Passes (x ∷ xs)
  put x xs t e = put_is (p x) x (find other xs) t e

  mutual
    pub names_only : (a : Expr) → Passes (names_in a) → NamesOnly p a
    names_only (e.Number n) h = tt
    names_only (e.Name x) h = (first x.text [] h).0
    names_only (e.Select' x g (more_of-Expr a end_of-Expr)) h = let f = first x.text (names_in a) h in (f.0, names_only a f.1)
    names_only (e.Part' x span g (more_of-Expr a end_of-Expr) i (more_of-Expr b end_of-Expr)) h =
        let f = first x.text (names_in a ++ names_in b) h in let r = both (names_in a) (names_in b) f.1 in (f.0, names_only a r.0, names_only b r.1)
    names_only (e.ConstantSelect' k g (more_of-Expr a end_of-Expr)) h = names_only a h
    names_only (e.ConstantPart' k span g (more_of-Expr a end_of-Expr) i (more_of-Expr b end_of-Expr)) h =
        let r = both (names_in a) (names_in b) h in (names_only a r.0, names_only b r.1)
    names_only (e.Cast' cast g (more_of-Expr a end_of-Expr)) h = names_only a h
    names_only (e.Paren' g (more_of-Expr a end_of-Expr)) h = names_only a h
    names_only (e.Concat' g row) h = row_only row h
    names_only (e.Repeat' g (more_of-Expr a end_of-Expr) i row) h = let r = both (names_in a) (row_names_in row) h in (names_only a r.0, row_only row r.1)
    names_only (e.Unary' op g (more_of-Expr a end_of-Expr)) h = names_only a h
    names_only (e.Binary' op g (more_of-Expr a end_of-Expr) i (more_of-Expr b end_of-Expr)) h =
        let r = both (names_in a) (names_in b) h in (names_only a r.0, names_only b r.1)
    names_only (e.Choice' g (more_of-Expr c end_of-Expr) i (more_of-Expr a end_of-Expr) j (more_of-Expr b end_of-Expr)) h =
        let f = both (names_in c ++ names_in a) (names_in b) h in let r = both (names_in c) (names_in a) f.0 in (names_only c r.0, names_only a r.1, names_only b f.1)

    pub row_only : {m : _} (row : Row_of-Expr m) → Passes (row_names_in row) → AllNamesOnly p row
    row_only end_of-Expr h = tt
    row_only (more_of-Expr a rest) h = let r = both (names_in a) (row_names_in rest) h in (names_only a r.0, row_only rest r.1)

  mutual
    pub names_pass : (a : Expr) → NamesOnly p a → Passes (names_in a)
    names_pass (e.Number n) h = refl
    names_pass (e.Name x) h = put x.text [] h refl
    names_pass (e.Select' x g (more_of-Expr a end_of-Expr)) h = put x.text (names_in a) h.0 (names_pass a h.1)
    names_pass (e.Part' x span g (more_of-Expr a end_of-Expr) i (more_of-Expr b end_of-Expr)) h =
        put x.text (names_in a ++ names_in b) h.0 (all_of (names_in a) (names_in b) (names_pass a h.1) (names_pass b h.2))
    names_pass (e.ConstantSelect' k g (more_of-Expr a end_of-Expr)) h = names_pass a h
    names_pass (e.ConstantPart' k span g (more_of-Expr a end_of-Expr) i (more_of-Expr b end_of-Expr)) h =
        all_of (names_in a) (names_in b) (names_pass a h.0) (names_pass b h.1)
    names_pass (e.Cast' cast g (more_of-Expr a end_of-Expr)) h = names_pass a h
    names_pass (e.Paren' g (more_of-Expr a end_of-Expr)) h = names_pass a h
    names_pass (e.Concat' g row) h = row_pass row h
    names_pass (e.Repeat' g (more_of-Expr a end_of-Expr) i row) h = all_of (names_in a) (row_names_in row) (names_pass a h.0) (row_pass row h.1)
    names_pass (e.Unary' op g (more_of-Expr a end_of-Expr)) h = names_pass a h
    names_pass (e.Binary' op g (more_of-Expr a end_of-Expr) i (more_of-Expr b end_of-Expr)) h =
        all_of (names_in a) (names_in b) (names_pass a h.0) (names_pass b h.1)
    names_pass (e.Choice' g (more_of-Expr c end_of-Expr) i (more_of-Expr a end_of-Expr) j (more_of-Expr b end_of-Expr)) h =
        all_of (names_in c ++ names_in a) (names_in b) (all_of (names_in c) (names_in a) (names_pass c h.0) (names_pass a h.1)) (names_pass b h.2)

    pub row_pass : {m : _} (row : Row_of-Expr m) → AllNamesOnly p row → Passes (row_names_in row)
    row_pass end_of-Expr h = refl
    row_pass (more_of-Expr a rest) h = all_of (names_in a) (row_names_in rest) (names_pass a h.0) (row_pass rest h.1)

module _ (v : List Entry) (a : Expr) where
  -- what the search says
  pub familiar : (o : Option (Bor Name)) → option_copied o ≡ find (is_strange v) (names_in a) → is_some o ≡ false → NamesOnly (is_known v) a
  familiar None is e = names_only (is_known v) a (sym is)
  familiar (Some x) is e = cc

  pub strange : (o : Option (Bor Name)) → option_copied o ≡ find (is_strange v) (names_in a) → is_some o ≡ true → NamesOnly (is_known v) a → ⊥
  strange None is e h = cc
  strange (Some x) is e h = let z : Some x.now ≡ None = is ∙ names_pass (is_known v) a h in cc
