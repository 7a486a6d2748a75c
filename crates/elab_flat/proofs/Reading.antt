-- Expressions, left sides and statements over names that pass tests.
use Rattle.std.proofs.Common.{◌≡◌, Bool, true, List, [], ◌∷◌, ◌++◌, inl, inr, refl, sym, subst}
use Rattle.vlog_tree.specs.declared.expr.Expr.{Expr, Row_of-Expr, end_of-Expr, more_of-Expr}
use Rattle.vlog_tree.specs.declared.expr.Expr.TheVariants as e
use Rattle.vlog_tree.specs.declared.item.Assign.{Assign}
use Rattle.vlog_tree.specs.declared.stmt.Lval.{Lval, Row_of-Lval, end_of-Lval, more_of-Lval, items-the_row-Lval, items_hidden-the_row-Lval-0}
use Rattle.vlog_tree.specs.declared.stmt.Lval.TheVariants as l
use Rattle.vlog_tree.specs.declared.stmt.Lval.TheBlock.{shape-the_row-Lval-0, hidden-the_row-Lval-0}
use Rattle.vlog_tree.specs.declared.stmt.Stmt.{Stmt, Row_of-Stmt, end_of-Stmt, more_of-Stmt, Row_of-CaseItem, end_of-CaseItem, more_of-CaseItem}
use Rattle.vlog_tree.specs.declared.stmt.Stmt.TheVariants as s
use Rattle.vlog_tree.specs.Value.{NamesOnly, AllNamesOnly}
use Rattle.vlog_tree_runs.specs.Places.{Name, Among, Place}
use Rattle.vlog_tree_runs.specs.Blocks.{exprs_in, left_names, row_names, lefts, row_lefts, case_lefts}
use Rattle.vlog_tree_runs.specs.Scopes.{left_of, row_left}
use Rattle.elab_flat_laws.specs.Uses.{has_signal, is_declared, IsSignal, AllPresent, UsesDeclared, AllUseDeclared, AssignsSignals, AllAssignSignals, IsDeclared, AreDeclared, AreItemsDeclared}
use Rattle.elab_flat_laws.proofs.Lists.{append_left, append_right}
use Rattle.elab_flat_faults.specs.Declaring.{IsAssignable, AreAssignable}
use Rattle.elab_flat_faults.specs.Texts.{names_in, row_names_in, numbers_in, row_numbers_in, alone_in, row_alone_in, case_alone_in, Compared, compared_in, row_compared_in, case_compared_in, all_labels_in, compared_exprs, stores_in, row_stores_in, case_stores_in}
use denote.Hole.Carrier

-- ---- expressions

module _ (test : Name → Bool) where
  mutual
    pub names_only : (a : Expr) → ((x : Name) → Among (names_in a) x → test x ≡ true) → NamesOnly test a
    names_only (e.Number n) h = tt
    names_only (e.Name x) h = h x.text (inl refl)
    names_only (e.Select' x k (more_of-Expr a end_of-Expr)) h = (h x.text (inl refl), names_only a (λ y m. h y (inr m)))
    names_only (e.Part' x span k (more_of-Expr a end_of-Expr) g (more_of-Expr b end_of-Expr)) h = (
      h x.text (inl refl),
      names_only a (λ y m. h y (inr (append_left (names_in a) (names_in b) y m))),
      names_only b (λ y m. h y (inr (append_right (names_in a) (names_in b) y m))),
    )
    names_only (e.ConstantSelect' c k (more_of-Expr a end_of-Expr)) h = names_only a h
    names_only (e.ConstantPart' c span k (more_of-Expr a end_of-Expr) g (more_of-Expr b end_of-Expr)) h =
        (names_only a (λ y m. h y (append_left (names_in a) (names_in b) y m)), names_only b (λ y m. h y (append_right (names_in a) (names_in b) y m)))
    names_only (e.Cast' cast k (more_of-Expr a end_of-Expr)) h = names_only a h
    names_only (e.Paren' k (more_of-Expr a end_of-Expr)) h = names_only a h
    names_only (e.Concat' k row) h = row_only row h
    names_only (e.Repeat' k (more_of-Expr a end_of-Expr) g row) h =
        (names_only a (λ y m. h y (append_left (names_in a) (row_names_in row) y m)), row_only row (λ y m. h y (append_right (names_in a) (row_names_in row) y m)))
    names_only (e.Unary' op k (more_of-Expr a end_of-Expr)) h = names_only a h
    names_only (e.Binary' op k (more_of-Expr a end_of-Expr) g (more_of-Expr b end_of-Expr)) h =
        (names_only a (λ y m. h y (append_left (names_in a) (names_in b) y m)), names_only b (λ y m. h y (append_right (names_in a) (names_in b) y m)))
    names_only (e.Choice' k (more_of-Expr c end_of-Expr) g (more_of-Expr a end_of-Expr) i (more_of-Expr b end_of-Expr)) h = (
      names_only c (λ y m. h y (append_left (names_in c ++ names_in a) (names_in b) y (append_left (names_in c) (names_in a) y m))),
      names_only a (λ y m. h y (append_left (names_in c ++ names_in a) (names_in b) y (append_right (names_in c) (names_in a) y m))),
      names_only b (λ y m. h y (append_right (names_in c ++ names_in a) (names_in b) y m)),
    )

    row_only : {m : _} (row : Row_of-Expr m) → ((x : Name) → Among (row_names_in row) x → test x ≡ true) → AllNamesOnly test row
    row_only end_of-Expr h = tt
    row_only (more_of-Expr a rest) h =
        (names_only a (λ y m. h y (append_left (names_in a) (row_names_in rest) y m)), row_only rest (λ y m. h y (append_right (names_in a) (row_names_in rest) y m)))

module _ (p : Place) where
  -- ---- left sides

  mutual
    pub left_assigns : (left : Lval) → ((x : Name) → Among (left_names left) x → IsSignal p x) → ((a : Expr) → Among (numbers_in left) a → UsesDeclared p a) → AssignsSignals p left
    left_assigns (l.Name x) h g = h x (inl refl)
    left_assigns (l.Select x a) h g = (h x (inl refl), g a (inl refl))
    left_assigns (l.Part x span a b) h g = (h x (inl refl), g a (inl refl), g b (inr (inl refl)))
    left_assigns (l.Concat' k row) h g = row_assigns row h g

    row_assigns : {m : _} (row : Row_of-Lval m) → ((x : Name) → Among (row_names row) x → IsSignal p x) → ((a : Expr) → Among (row_numbers_in row) a → UsesDeclared p a) → AllAssignSignals p row
    row_assigns end_of-Lval h g = tt
    row_assigns (more_of-Lval a rest) h g = (
      left_assigns a (λ x m. h x (append_left (left_names a) (row_names rest) x m)) (λ b m. g b (append_left (numbers_in a) (row_numbers_in rest) b m)),
      row_assigns rest (λ x m. h x (append_right (left_names a) (row_names rest) x m)) (λ b m. g b (append_right (numbers_in a) (row_numbers_in rest) b m)),
    )

  -- each left side of a list
  abbrev EachAssigns : List Lval → Type 0
  EachAssigns [] = Unit {0}
  EachAssigns (a ∷ as') = AssignsSignals p a × EachAssigns as'

  each_row : (m : _) (row : Row_of-Lval m) → EachAssigns (items-the_row-Lval m row) → AllAssignSignals p row
  each_row m end_of-Lval h = tt
  each_row m (more_of-Lval a rest) h = (h.0, each_row _ rest h.1)

  concat_assigns : (xs : List Lval) → EachAssigns xs → AssignsSignals p (l.Concat xs)
  unfolding shape-the_row-Lval-0 hidden-the_row-Lval-0 denote.Hole.Carrier.hidden
  concat_assigns xs h = each_row _ (hidden-the_row-Lval-0 xs) (subst EachAssigns (sym (items_hidden-the_row-Lval-0 xs)) h)

  -- an expression that can be assigned, as a left side
  module _ (signal : (x : Name) → has_signal p.signals x ≡ true → IsSignal p x) where
    mutual
      pub output_assigns : (a : Expr) → IsAssignable p a → UsesDeclared p a → AssignsSignals p (left_of a)
      output_assigns (e.Name x) h u = signal x.text h
      output_assigns (e.Select' x k (more_of-Expr a end_of-Expr)) h u = (signal x.text h, (u.0.1, u.1.1))
      output_assigns (e.Part' x span k (more_of-Expr a end_of-Expr) g (more_of-Expr b end_of-Expr)) h u = (signal x.text h, (u.0.1, u.1.1), (u.0.2, u.1.2))
      output_assigns (e.Concat' k row) h u = concat_assigns (row_left row) (outputs_assign row h u.0 u.1)
      output_assigns (e.Number n) h u = absurd h
      output_assigns (e.ConstantSelect' c k row) h u = absurd h
      output_assigns (e.ConstantPart' c span k row i row') h u = absurd h
      output_assigns (e.Cast' c k row) h u = absurd h
      output_assigns (e.Paren' k row) h u = absurd h
      output_assigns (e.Repeat' k row i row') h u = absurd h
      output_assigns (e.Unary' op k row) h u = absurd h
      output_assigns (e.Binary' op k row i row') h u = absurd h
      output_assigns (e.Choice' k row i row' j row'') h u = absurd h

      outputs_assign : {m : _} (row : Row_of-Expr m) → AreAssignable p row → AllNamesOnly (is_declared p) row → AllPresent row → EachAssigns (row_left row)
      outputs_assign end_of-Expr h n q = tt
      outputs_assign (more_of-Expr a rest) h n q = (output_assigns a h.0 (n.0, q.0), outputs_assign rest h.1 n.1 q.1)

  -- ---- statements

  -- the expressions are over declared names, and the left sides name signals
  pub record Covers (as' : List Expr) (cs : List Compared) (ss : List Assign) (ls : List Lval) : Type 0 where
    pub alone : (a : Expr) → Among as' a → UsesDeclared p a
    pub compared : (c : Compared) → Among cs c → (a : Expr) → Among (compared_exprs c) a → UsesDeclared p a
    pub stored : (a : Assign) → Among ss a → UsesDeclared p a.right
    pub named : (a : Lval) → Among ls a → (x : Name) → Among (left_names a) x → IsSignal p x

  behind : (a : Expr) (as' : List Expr) (cs : List Compared) (ss : List Assign) (ls : List Lval) → Covers (a ∷ as') cs ss ls → Covers as' cs ss ls
  behind a as' cs ss ls h = record { alone = λ b m. h.alone b (inr m); compared = h.compared; stored = h.stored; named = h.named }

  first_part : (as' bs : List Expr) (cs ds : List Compared) (ss ts : List Assign) (ls ms : List Lval) → Covers (as' ++ bs) (cs ++ ds) (ss ++ ts) (ls ++ ms) → Covers as' cs ss ls
  first_part as' bs cs ds ss ts ls ms h = record {
    alone = λ a m. h.alone a (append_left as' bs a m);
    compared = λ c m. h.compared c (append_left cs ds c m);
    stored = λ a m. h.stored a (append_left ss ts a m);
    named = λ a m. h.named a (append_left ls ms a m);
  }

  other_part : (as' bs : List Expr) (cs ds : List Compared) (ss ts : List Assign) (ls ms : List Lval) → Covers (as' ++ bs) (cs ++ ds) (ss ++ ts) (ls ++ ms) → Covers bs ds ts ms
  other_part as' bs cs ds ss ts ls ms h = record {
    alone = λ a m. h.alone a (append_right as' bs a m);
    compared = λ c m. h.compared c (append_right cs ds c m);
    stored = λ a m. h.stored a (append_right ss ts a m);
    named = λ a m. h.named a (append_right ls ms a m);
  }

  all_use : (as' : List Expr) → ((a : Expr) → Among as' a → UsesDeclared p a) → AllUseDeclared p as'
  all_use [] h = tt
  all_use (a ∷ as') h = (h a (inl refl), all_use as' (λ b m. h b (inr m)))

  store_uses : (left : Lval) (right : Expr) → Covers (numbers_in left) [] (record { left = left; right = right } ∷ []) (left ∷ []) → AssignsSignals p left × UsesDeclared p right
  store_uses left right h = (left_assigns left (h.named left (inl refl)) h.alone, h.stored (record { left = left; right = right }) (inl refl))

  mutual
    pub body_declared : (t : Stmt) → Covers (alone_in t) (compared_in t) (stores_in t) (lefts t) → IsDeclared p t
    body_declared s.Empty h = tt
    body_declared (s.Block' n k row) h = rows_declared row h
    body_declared (s.If' a k (more_of-Stmt x end_of-Stmt)) h = (h.alone a (inl refl), body_declared x (behind a (alone_in x) (compared_in x) (stores_in x) (lefts x) h))
    body_declared (s.IfElse' a k (more_of-Stmt x end_of-Stmt) g (more_of-Stmt y end_of-Stmt)) h =
        let both = behind a (alone_in x ++ alone_in y) (compared_in x ++ compared_in y) (stores_in x ++ stores_in y) (lefts x ++ lefts y) h in (
          h.alone a (inl refl),
          body_declared x (first_part (alone_in x) (alone_in y) (compared_in x) (compared_in y) (stores_in x) (stores_in y) (lefts x) (lefts y) both),
          body_declared y (other_part (alone_in x) (alone_in y) (compared_in x) (compared_in y) (stores_in x) (stores_in y) (lefts x) (lefts y) both),
        )
    body_declared (s.Case' kind a k row) h =
        let c : Compared = record { value = a; labels = all_labels_in row } in (
          h.compared c (inl refl) a (inl refl),
          items_declared row (λ b m. h.compared c (inl refl) b (inr m)) (record { alone = h.alone; compared = λ d m. h.compared d (inr m); stored = h.stored; named = h.named }),
        )
    body_declared (s.Blocking left right) h = store_uses left right h
    body_declared (s.Nonblocking left right) h = store_uses left right h

    rows_declared : {m : _} (row : Row_of-Stmt m) → Covers (row_alone_in row) (row_compared_in row) (row_stores_in row) (row_lefts row) → AreDeclared p row
    rows_declared end_of-Stmt h = tt
    rows_declared (more_of-Stmt a rest) h = (
      body_declared a (first_part (alone_in a) (row_alone_in rest) (compared_in a) (row_compared_in rest) (stores_in a) (row_stores_in rest) (lefts a) (row_lefts rest) h),
      rows_declared rest (other_part (alone_in a) (row_alone_in rest) (compared_in a) (row_compared_in rest) (stores_in a) (row_stores_in rest) (lefts a) (row_lefts rest) h),
    )

    items_declared : {m : _} (row : Row_of-CaseItem m) → ((a : Expr) → Among (all_labels_in row) a → UsesDeclared p a) →
        Covers (case_alone_in row) (case_compared_in row) (case_stores_in row) (case_lefts row) → AreItemsDeclared p row
    items_declared end_of-CaseItem g h = tt
    items_declared (more_of-CaseItem labels body rest) g h = (
      all_use (exprs_in labels) (λ a m. g a (append_left (exprs_in labels) (all_labels_in rest) a m)),
      body_declared body (first_part (alone_in body) (case_alone_in rest) (compared_in body) (case_compared_in rest) (stores_in body) (case_stores_in rest) (lefts body) (case_lefts rest) h),
      items_declared rest (λ a m. g a (append_right (exprs_in labels) (all_labels_in rest) a m))
          (other_part (alone_in body) (case_alone_in rest) (compared_in body) (case_compared_in rest) (stores_in body) (case_stores_in rest) (lefts body) (case_lefts rest) h),
    )
