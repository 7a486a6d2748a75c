-- The expressions in a statement are those of what it does.
use Rattle.std.proofs.Common.{◌≡◌, ◌⊎◌, inl, inr, List, [], ◌∷◌, ◌++◌, map, sym, subst}
use Rattle.std.specs.List.{flat_map}
use Rattle.vlog_tree.specs.declared.expr.Expr.{Expr}
use Rattle.vlog_tree.specs.declared.item.Assign.{Assign}
use Rattle.vlog_tree.specs.declared.stmt.Lval.{Lval}
use Rattle.vlog_tree.specs.declared.stmt.Stmt.{Stmt, Row_of-Stmt, end_of-Stmt, more_of-Stmt, Row_of-CaseItem, end_of-CaseItem, more_of-CaseItem}
use Rattle.vlog_tree.specs.declared.stmt.Stmt.TheVariants as s
use Rattle.vlog_tree_runs.specs.Places.{Among}
use Rattle.vlog_tree_runs.specs.Blocks.{exprs_in}
use Rattle.elab_flat_laws.proofs.Lists.{among_append, append_left, append_right, flat_append, map_append}
use Rattle.elab_flat_faults.specs.Texts.{Compared, numbers_in, alone_in, row_alone_in, case_alone_in, compared_in, row_compared_in, case_compared_in, all_labels_in, stores_in, row_stores_in, case_stores_in, compared_exprs}
use Rattle.elab_flat_drivers.specs.Pieces.{Action, Tests, Assigns, Schedules, actions, row_actions, case_actions}

abbrev pub action_exprs : Action → List Expr
action_exprs (Tests a) = a ∷ []
action_exprs (Assigns left right) = numbers_in left ++ right ∷ []
action_exprs (Schedules left right) = numbers_in left ++ right ∷ []

right_of : Assign → Expr
right_of a = a.right

-- an expression stands alone, is compared, or is on the right of an assignment
abbrev pub Stands : List Expr → List Compared → List Assign → Expr → Type 0
Stands as' cs ws c = Among as' c ⊎ (Among (flat_map compared_exprs cs) c ⊎ Among (map (λ (a : Assign). a.right) ws) c)

module _ (c : Expr) where
  stands_left : (as' bs : List Expr) (cs ds : List Compared) (ws vs : List Assign) → Stands as' cs ws c → Stands (as' ++ bs) (cs ++ ds) (ws ++ vs) c
  stands_left as' bs cs ds ws vs (inl h) = inl (append_left as' bs c h)
  stands_left as' bs cs ds ws vs (inr (inl h)) = inr (inl (subst (λ z. Among z c) (sym (flat_append compared_exprs cs ds)) (append_left (flat_map compared_exprs cs) (flat_map compared_exprs ds) c h)))
  stands_left as' bs cs ds ws vs (inr (inr h)) =
      inr (inr (subst (λ z. Among z c) (sym (map_append (λ (a : Assign). a.right) ws vs)) (append_left (map (λ (a : Assign). a.right) ws) (map (λ (a : Assign). a.right) vs) c h)))

  stands_right : (as' bs : List Expr) (cs ds : List Compared) (ws vs : List Assign) → Stands bs ds vs c → Stands (as' ++ bs) (cs ++ ds) (ws ++ vs) c
  stands_right as' bs cs ds ws vs (inl h) = inl (append_right as' bs c h)
  stands_right as' bs cs ds ws vs (inr (inl h)) = inr (inl (subst (λ z. Among z c) (sym (flat_append compared_exprs cs ds)) (append_right (flat_map compared_exprs cs) (flat_map compared_exprs ds) c h)))
  stands_right as' bs cs ds ws vs (inr (inr h)) =
      inr (inr (subst (λ z. Among z c) (sym (map_append (λ (a : Assign). a.right) ws vs)) (append_right (map (λ (a : Assign). a.right) ws) (map (λ (a : Assign). a.right) vs) c h)))

  stands_either : (as' bs : List Expr) (cs ds : List Compared) (ws vs : List Assign) → Stands (as' ++ bs) (cs ++ ds) (ws ++ vs) c → Stands as' cs ws c ⊎ Stands bs ds vs c
  stands_either as' bs cs ds ws vs (inl h) = elim (among_append as' bs c h) [ inl k ↦ inl (inl k) | inr k ↦ inr (inl k) ]
  stands_either as' bs cs ds ws vs (inr (inl h)) =
      elim (among_append (flat_map compared_exprs cs) (flat_map compared_exprs ds) c (subst (λ z. Among z c) (flat_append compared_exprs cs ds) h)) [ inl k ↦ inl (inr (inl k)) | inr k ↦ inr (inr (inl k)) ]
  stands_either as' bs cs ds ws vs (inr (inr h)) =
      elim (among_append (map (λ (a : Assign). a.right) ws) (map (λ (a : Assign). a.right) vs) c (subst (λ z. Among z c) (map_append (λ (a : Assign). a.right) ws vs) h)) [ inl k ↦ inl (inr (inr k)) | inr k ↦ inr (inr (inr k)) ]

  abbrev InDeeds : List Action → Type 0
  InDeeds ds = Among (flat_map action_exprs ds) c

  actions_either : (xs ys : List Action) → InDeeds (xs ++ ys) → InDeeds xs ⊎ InDeeds ys
  actions_either xs ys h = among_append (flat_map action_exprs xs) (flat_map action_exprs ys) c (subst (λ z. Among z c) (flat_append action_exprs xs ys) h)

  actions_left : (xs ys : List Action) → InDeeds xs → InDeeds (xs ++ ys)
  actions_left xs ys h = subst (λ z. Among z c) (sym (flat_append action_exprs xs ys)) (append_left (flat_map action_exprs xs) (flat_map action_exprs ys) c h)

  actions_right : (xs ys : List Action) → InDeeds ys → InDeeds (xs ++ ys)
  actions_right xs ys h = subst (λ z. Among z c) (sym (flat_append action_exprs xs ys)) (append_right (flat_map action_exprs xs) (flat_map action_exprs ys) c h)

  tests_are : (as' : List Expr) → InDeeds (map Tests as') → Among as' c
  tests_are [] h = h
  tests_are (a ∷ as') (inl h) = inl h
  tests_are (a ∷ as') (inr h) = inr (tests_are as' h)

  are_tests : (as' : List Expr) → Among as' c → InDeeds (map Tests as')
  are_tests [] h = h
  are_tests (a ∷ as') (inl h) = inl h
  are_tests (a ∷ as') (inr h) = inr (are_tests as' h)

  -- an assignment
  store_told : (left : Lval) (right : Expr) (rest : List Expr) → Among ((numbers_in left ++ right ∷ []) ++ []) c → Stands (numbers_in left) [] (record { left = left; right = right } ∷ []) c
  store_told left right rest h = elim (among_append (numbers_in left ++ right ∷ []) [] c h) [
    | inl k ↦ elim (among_append (numbers_in left) (right ∷ []) c k) [ inl g ↦ inl g | inr g ↦ inr (inr g) ]
    | inr k ↦ absurd k
  ]

  told_store : (left : Lval) (right : Expr) → Stands (numbers_in left) [] (record { left = left; right = right } ∷ []) c → Among ((numbers_in left ++ right ∷ []) ++ []) c
  told_store left right (inl h) = append_left (numbers_in left ++ right ∷ []) [] c (append_left (numbers_in left) (right ∷ []) c h)
  told_store left right (inr (inl h)) = absurd h
  told_store left right (inr (inr h)) = append_left (numbers_in left ++ right ∷ []) [] c (append_right (numbers_in left) (right ∷ []) c h)

  abbrev StandsIn : Stmt → Type 0
  StandsIn t = Stands (alone_in t) (compared_in t) (stores_in t) c

  abbrev StandsInItems : {m : _} → Row_of-CaseItem m → Type 0
  StandsInItems row = Among (all_labels_in row) c ⊎ Stands (case_alone_in row) (case_compared_in row) (case_stores_in row) c

  first_too : (a : Expr) (as' : List Expr) (cs : List Compared) (ws : List Assign) → (a ≡ c) ⊎ Stands as' cs ws c → Stands (a ∷ as') cs ws c
  first_too a as' cs ws (inl e) = inl (inl e)
  first_too a as' cs ws (inr (inl h)) = inl (inr h)
  first_too a as' cs ws (inr (inr h)) = inr h

  or_first : (a : Expr) (as' : List Expr) (cs : List Compared) (ws : List Assign) → Stands (a ∷ as') cs ws c → (a ≡ c) ⊎ Stands as' cs ws c
  or_first a as' cs ws (inl (inl e)) = inl e
  or_first a as' cs ws (inl (inr h)) = inr (inl h)
  or_first a as' cs ws (inr h) = inr (inr h)

  case_too : (a : Expr) (labels : List Expr) (as' : List Expr) (cs : List Compared) (ws : List Assign) → (a ≡ c) ⊎ (Among labels c ⊎ Stands as' cs ws c) → Stands as' (record { value = a; labels = labels } ∷ cs) ws c
  case_too a labels as' cs ws (inl e) = inr (inl (inl e))
  case_too a labels as' cs ws (inr (inl h)) = inr (inl (inr (append_left labels (flat_map compared_exprs cs) c h)))
  case_too a labels as' cs ws (inr (inr (inl h))) = inl h
  case_too a labels as' cs ws (inr (inr (inr (inl h)))) = inr (inl (inr (append_right labels (flat_map compared_exprs cs) c h)))
  case_too a labels as' cs ws (inr (inr (inr (inr h)))) = inr (inr h)

  or_case : (a : Expr) (labels : List Expr) (as' : List Expr) (cs : List Compared) (ws : List Assign) → Stands as' (record { value = a; labels = labels } ∷ cs) ws c → (a ≡ c) ⊎ (Among labels c ⊎ Stands as' cs ws c)
  or_case a labels as' cs ws (inl h) = inr (inr (inl h))
  or_case a labels as' cs ws (inr (inl (inl e))) = inl e
  or_case a labels as' cs ws (inr (inl (inr h))) = elim (among_append labels (flat_map compared_exprs cs) c h) [ inl k ↦ inr (inl k) | inr k ↦ inr (inr (inr (inl k))) ]
  or_case a labels as' cs ws (inr (inr h)) = inr (inr (inr (inr h)))

  either : {A B C D : Type 0} → A ⊎ B → (A → C) → (B → D) → C ⊎ D
  either (inl h) f g = inl (f h)
  either (inr h) f g = inr (g h)

  join : {A B C : Type 0} → A ⊎ B → (A → C) → (B → C) → C
  join (inl h) f g = f h
  join (inr h) f g = g h

  mutual
    pub actions_stand : (t : Stmt) → InDeeds (actions t) → StandsIn t
    actions_stand s.Empty h = absurd h
    actions_stand (s.Block' n g row) h = rows_stand row h
    actions_stand (s.If' a g (more_of-Stmt x end_of-Stmt)) h = first_too a (alone_in x) (compared_in x) (stores_in x) (either h (λ k. k) (actions_stand x))
    actions_stand (s.IfElse' a g (more_of-Stmt x end_of-Stmt) i (more_of-Stmt y end_of-Stmt)) h =
        first_too a (alone_in x ++ alone_in y) (compared_in x ++ compared_in y) (stores_in x ++ stores_in y)
        (either h (λ k. k) (λ k. join (actions_either (actions x) (actions y) k)
        (λ r. stands_left (alone_in x) (alone_in y) (compared_in x) (compared_in y) (stores_in x) (stores_in y) (actions_stand x r))
        (λ r. stands_right (alone_in x) (alone_in y) (compared_in x) (compared_in y) (stores_in x) (stores_in y) (actions_stand y r))))
    actions_stand (s.Case' kind a g row) h = case_too a (all_labels_in row) (case_alone_in row) (case_compared_in row) (case_stores_in row) (either h (λ k. k) (items_stand row))
    actions_stand (s.Blocking left right) h = store_told left right [] h
    actions_stand (s.Nonblocking left right) h = store_told left right [] h

    rows_stand : {m : _} (row : Row_of-Stmt m) → InDeeds (row_actions row) → Stands (row_alone_in row) (row_compared_in row) (row_stores_in row) c
    rows_stand end_of-Stmt h = absurd h
    rows_stand (more_of-Stmt a rest) h =
        join (actions_either (actions a) (row_actions rest) h)
        (λ r. stands_left (alone_in a) (row_alone_in rest) (compared_in a) (row_compared_in rest) (stores_in a) (row_stores_in rest) (actions_stand a r))
        (λ r. stands_right (alone_in a) (row_alone_in rest) (compared_in a) (row_compared_in rest) (stores_in a) (row_stores_in rest) (rows_stand rest r))

    items_stand : {m : _} (row : Row_of-CaseItem m) → InDeeds (case_actions row) → StandsInItems row
    items_stand end_of-CaseItem h = absurd h
    items_stand (more_of-CaseItem labels body rest) h =
        join (actions_either (map Tests (exprs_in labels) ++ actions body) (case_actions rest) h)
        (λ r. join (actions_either (map Tests (exprs_in labels)) (actions body) r)
        (λ q. inl (append_left (exprs_in labels) (all_labels_in rest) c (tests_are (exprs_in labels) q)))
        (λ q. inr (stands_left (alone_in body) (case_alone_in rest) (compared_in body) (case_compared_in rest) (stores_in body) (case_stores_in rest) (actions_stand body q))))
        (λ r. either (items_stand rest r) (append_right (exprs_in labels) (all_labels_in rest) c)
        (stands_right (alone_in body) (case_alone_in rest) (compared_in body) (case_compared_in rest) (stores_in body) (case_stores_in rest)))

  mutual
    pub stand_actions : (t : Stmt) → StandsIn t → InDeeds (actions t)
    stand_actions s.Empty (inl h) = absurd h
    stand_actions s.Empty (inr (inl h)) = absurd h
    stand_actions s.Empty (inr (inr h)) = absurd h
    stand_actions (s.Block' n g row) h = stand_rows row h
    stand_actions (s.If' a g (more_of-Stmt x end_of-Stmt)) h = either (or_first a (alone_in x) (compared_in x) (stores_in x) h) (λ k. k) (stand_actions x)
    stand_actions (s.IfElse' a g (more_of-Stmt x end_of-Stmt) i (more_of-Stmt y end_of-Stmt)) h =
        either (or_first a (alone_in x ++ alone_in y) (compared_in x ++ compared_in y) (stores_in x ++ stores_in y) h) (λ k. k)
        (λ k. join (stands_either (alone_in x) (alone_in y) (compared_in x) (compared_in y) (stores_in x) (stores_in y) k)
        (λ r. actions_left (actions x) (actions y) (stand_actions x r)) (λ r. actions_right (actions x) (actions y) (stand_actions y r)))
    stand_actions (s.Case' kind a g row) h = either (or_case a (all_labels_in row) (case_alone_in row) (case_compared_in row) (case_stores_in row) h) (λ k. k) (stand_items row)
    stand_actions (s.Blocking left right) h = told_store left right h
    stand_actions (s.Nonblocking left right) h = told_store left right h

    stand_rows : {m : _} (row : Row_of-Stmt m) → Stands (row_alone_in row) (row_compared_in row) (row_stores_in row) c → InDeeds (row_actions row)
    stand_rows end_of-Stmt (inl h) = absurd h
    stand_rows end_of-Stmt (inr (inl h)) = absurd h
    stand_rows end_of-Stmt (inr (inr h)) = absurd h
    stand_rows (more_of-Stmt a rest) h =
        join (stands_either (alone_in a) (row_alone_in rest) (compared_in a) (row_compared_in rest) (stores_in a) (row_stores_in rest) h)
        (λ r. actions_left (actions a) (row_actions rest) (stand_actions a r)) (λ r. actions_right (actions a) (row_actions rest) (stand_rows rest r))

    stand_items : {m : _} (row : Row_of-CaseItem m) → StandsInItems row → InDeeds (case_actions row)
    stand_items end_of-CaseItem (inl h) = absurd h
    stand_items end_of-CaseItem (inr (inl h)) = absurd h
    stand_items end_of-CaseItem (inr (inr (inl h))) = absurd h
    stand_items end_of-CaseItem (inr (inr (inr h))) = absurd h
    stand_items (more_of-CaseItem labels body rest) (inl h) =
        join (among_append (exprs_in labels) (all_labels_in rest) c h)
        (λ k. actions_left (map Tests (exprs_in labels) ++ actions body) (case_actions rest) (actions_left (map Tests (exprs_in labels)) (actions body) (are_tests (exprs_in labels) k)))
        (λ k. actions_right (map Tests (exprs_in labels) ++ actions body) (case_actions rest) (stand_items rest (inl k)))
    stand_items (more_of-CaseItem labels body rest) (inr h) =
        join (stands_either (alone_in body) (case_alone_in rest) (compared_in body) (case_compared_in rest) (stores_in body) (case_stores_in rest) h)
        (λ k. actions_left (map Tests (exprs_in labels) ++ actions body) (case_actions rest) (actions_right (map Tests (exprs_in labels)) (actions body) (stand_actions body k)))
        (λ k. actions_right (map Tests (exprs_in labels) ++ actions body) (case_actions rest) (stand_items rest (inr k)))
