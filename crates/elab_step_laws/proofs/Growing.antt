-- What a pass through a statement keeps and adds.
use Rattle.std.proofs.Common.{◌≡◌, ℕ, List, [], ◌∷◌, ◌++◌, sym, refl, ◌⊎◌, inl, inr, ⊎_elim, subst}
use Rattle.std.specs.List.{flat_map}
use Rattle.std.proofs.lemmas.Nat.{pow_pos}
use Rattle.vlog_tree.specs.declared.expr.Expr.{Expr}
use Rattle.vlog_tree.specs.declared.stmt.CaseKind.{CaseKind}
use Rattle.vlog_tree.specs.declared.stmt.CaseKind.TheVariants as k
use Rattle.vlog_tree.specs.declared.stmt.Lval.{Lval, Row_of-Lval, end_of-Lval, more_of-Lval}
use Rattle.vlog_tree.specs.declared.stmt.Lval.TheVariants as l
use Rattle.vlog_tree.specs.declared.stmt.Stmt.{Stmt, Row_of-Stmt, end_of-Stmt, more_of-Stmt, Row_of-CaseItem, end_of-CaseItem, more_of-CaseItem}
use Rattle.vlog_tree.specs.declared.stmt.Stmt.TheVariants as s
use Rattle.vlog_tree_runs.specs.Places.{Name, Among, Place}
use Rattle.vlog_tree_runs.specs.Blocks.{labels_in, left_names, row_names, lefts, row_lefts, case_lefts}
use Rattle.elab_flat_faults.specs.Paths.{Sets, AnySets, IsFull, HasDefault}
use Rattle.elab_flat_laws.proofs.Lists.{among_append, append_left, append_right, flat_append}
use Rattle.elab_step_laws.specs.Flows.{Flow, after_reads, within, flow, row_flow, items_flow}

-- ---- names that are assigned

-- x is assigned by left sides
abbrev pub Names : List Lval → Name → Type 0
Names ls x = Among (flat_map left_names ls) x

pub names_or : (ks ls : List Lval) (x : Name) → Names (ks ++ ls) x → Names ks x ⊎ Names ls x
names_or ks ls x h = among_append (flat_map left_names ks) (flat_map left_names ls) x (subst (λ xs. Among xs x) (flat_append left_names ks ls) h)

pub names_left : (ks ls : List Lval) (x : Name) → Names ks x → Names (ks ++ ls) x
names_left ks ls x h = subst (λ xs. Among xs x) (sym (flat_append left_names ks ls)) (append_left (flat_map left_names ks) (flat_map left_names ls) x h)

pub names_right : (ks ls : List Lval) (x : Name) → Names ls x → Names (ks ++ ls) x
names_right ks ls x h = subst (λ xs. Among xs x) (sym (flat_append left_names ks ls)) (append_right (flat_map left_names ks) (flat_map left_names ls) x h)

pub name_of_one : (left : Lval) (x : Name) → Names (left ∷ []) x → Among (left_names left) x
name_of_one left x h = ⊎_elim (λ m. m) (λ n. absurd n) (among_append (left_names left) [] x h)

pub one_of_name : (left : Lval) (x : Name) → Among (left_names left) x → Names (left ∷ []) x
one_of_name left x h = append_left (left_names left) [] x h

mutual
  pub sets_name : (p : Place) (left : Lval) (x : Name) (b : ℕ) → Sets p left x b → Among (left_names left) x
  sets_name p (l.Name y) x b h = inl h
  sets_name p (l.Select y a) x b h = inl h.0
  sets_name p (l.Part y span a a') x b h = inl h.0
  sets_name p (l.Concat' g row) x b h = sets_names p row x b h

  sets_names : {n : _} (p : Place) (row : Row_of-Lval n) (x : Name) (b : ℕ) → AnySets p row x b → Among (row_names row) x
  sets_names p end_of-Lval x b h = absurd h
  sets_names p (more_of-Lval a rest) x b h =
      ⊎_elim (λ m. append_left (left_names a) (row_names rest) x (sets_name p a x b m)) (λ m. append_right (left_names a) (row_names rest) x (sets_names p rest x b m)) h

-- ---- a case statement without items

abbrev pub IsBare : {n : _} → Row_of-CaseItem n → Type 0
IsBare row = (labels_in row ≡ []) × (HasDefault row → ⊥)

-- a path leads past the items
abbrev pub LeadsPast : {n : _} → Place → CaseKind → Expr → Row_of-CaseItem n → Type 0
LeadsPast p kind a row = (HasDefault row → ⊥) × (IsFull p kind a (labels_in row) → ⊥)

none_full : (p : Place) (kind : CaseKind) (a : Expr) → IsFull p kind a [] → ⊥
none_full p k.Case a h = ⊎_elim (λ f. (f 0 (pow_pos _)).1) (λ f. (f.1 0 (pow_pos _)).1) h.1
none_full p k.Casez a h = h

pub bare_leads : {n : _} (p : Place) (kind : CaseKind) (a : Expr) (row : Row_of-CaseItem n) → IsBare row → LeadsPast p kind a row
bare_leads p kind a row h = (h.1, λ f. none_full p kind a (subst (λ ls. IsFull p kind a ls) h.0 f))

module _ (p : Place) where
  -- ---- what is depended on stays so

  mutual
    pub through_grows : (body : Stmt) (around : Name → Type 0) (w : Flow) (x z : Name) → w.through x z → (flow p around body w).through x z
    through_grows s.Empty around w x z t = t
    through_grows (s.Block' n g row) around w x z t = row_grows row around w x z t
    through_grows (s.If' a g (more_of-Stmt body end_of-Stmt)) around w x z t = inr t
    through_grows (s.IfElse' a g (more_of-Stmt body end_of-Stmt) f (more_of-Stmt other end_of-Stmt)) around w x z t =
        inl (through_grows body (within p around w (a ∷ [])) (after_reads p (a ∷ []) w) x z t)
    through_grows (s.Case' kind a g row) around w x z t =
        ⊎_elim (λ e. inr (bare_leads p kind a row e, t)) (λ m. inl m) (items_grow row (within p around w (a ∷ labels_in row)) (after_reads p (a ∷ labels_in row) w) x z t)
    through_grows (s.Blocking left right) around w x z t = inr t
    through_grows (s.Nonblocking left right) around w x z t = inr t

    row_grows : {n : _} (row : Row_of-Stmt n) (around : Name → Type 0) (w : Flow) (x z : Name) → w.through x z → (row_flow p around row w).through x z
    row_grows end_of-Stmt around w x z t = t
    row_grows (more_of-Stmt a rest) around w x z t = row_grows rest around (flow p around a w) x z (through_grows a around w x z t)

    items_grow : {n : _} (row : Row_of-CaseItem n) (around : Name → Type 0) (w : Flow) (x z : Name) → w.through x z → IsBare row ⊎ (items_flow p around row w).through x z
    items_grow end_of-CaseItem around w x z t = inl (refl, λ d. d)
    items_grow (more_of-CaseItem labels body rest) around w x z t = inr (inl (through_grows body around w x z t))

  -- ---- a bit of a name that isn't assigned stays unset

  mutual
    pub unset_stays : (body : Stmt) (around : Name → Type 0) (w : Flow) (x : Name) (b : ℕ) → (Names (lefts body) x → ⊥) → w.unset x b → (flow p around body w).unset x b
    unset_stays s.Empty around w x b n u = u
    unset_stays (s.Block' m g row) around w x b n u = row_stays row around w x b n u
    unset_stays (s.If' a g (more_of-Stmt body end_of-Stmt)) around w x b n u = inr u
    unset_stays (s.IfElse' a g (more_of-Stmt body end_of-Stmt) f (more_of-Stmt other end_of-Stmt)) around w x b n u =
        inl (unset_stays body (within p around w (a ∷ [])) (after_reads p (a ∷ []) w) x b (λ m. n (names_left (lefts body) (lefts other) x m)) u)
    unset_stays (s.Case' kind a g row) around w x b n u =
        ⊎_elim (λ e. inr (bare_leads p kind a row e, u)) (λ m. inl m) (items_stay row (within p around w (a ∷ labels_in row)) (after_reads p (a ∷ labels_in row) w) x b n u)
    unset_stays (s.Blocking left right) around w x b n u = (u, λ k. n (one_of_name left x (sets_name p left x b k)))
    unset_stays (s.Nonblocking left right) around w x b n u = (u, λ k. n (one_of_name left x (sets_name p left x b k)))

    row_stays : {m : _} (row : Row_of-Stmt m) (around : Name → Type 0) (w : Flow) (x : Name) (b : ℕ) → (Names (row_lefts row) x → ⊥) → w.unset x b → (row_flow p around row w).unset x b
    row_stays end_of-Stmt around w x b n u = u
    row_stays (more_of-Stmt a rest) around w x b n u =
        row_stays rest around (flow p around a w) x b (λ m. n (names_right (lefts a) (row_lefts rest) x m))
        (unset_stays a around w x b (λ m. n (names_left (lefts a) (row_lefts rest) x m)) u)

    items_stay : {m : _} (row : Row_of-CaseItem m) (around : Name → Type 0) (w : Flow) (x : Name) (b : ℕ) → (Names (case_lefts row) x → ⊥) → w.unset x b →
        IsBare row ⊎ (items_flow p around row w).unset x b
    items_stay end_of-CaseItem around w x b n u = inl (refl, λ d. d)
    items_stay (more_of-CaseItem labels body rest) around w x b n u = inr (inl (unset_stays body around w x b (λ m. n (names_left (lefts body) (case_lefts rest) x m)) u))

  -- ---- what conditions around an assignment count as is depended on

  mutual
    pub reaches : (body : Stmt) (around : Name → Type 0) (w : Flow) (x z : Name) → Names (lefts body) x → around z → (flow p around body w).through x z
    reaches s.Empty around w x z m c = absurd m
    reaches (s.Block' n g row) around w x z m c = row_reaches row around w x z m c
    reaches (s.If' a g (more_of-Stmt body end_of-Stmt)) around w x z m c =
        inl (reaches body (within p around w (a ∷ [])) (after_reads p (a ∷ []) w) x z m (inr c))
    reaches (s.IfElse' a g (more_of-Stmt body end_of-Stmt) f (more_of-Stmt other end_of-Stmt)) around w x z m c =
        ⊎_elim
        (λ k. inl (reaches body (within p around w (a ∷ [])) (after_reads p (a ∷ []) w) x z k (inr c)))
        (λ k. inr (reaches other (within p around w (a ∷ [])) (after_reads p (a ∷ []) w) x z k (inr c)))
        (names_or (lefts body) (lefts other) x m)
    reaches (s.Case' kind a g row) around w x z m c = inl (items_reach row (within p around w (a ∷ labels_in row)) (after_reads p (a ∷ labels_in row) w) x z m (inr c))
    reaches (s.Blocking left right) around w x z m c = inl (name_of_one left x m, inr c)
    reaches (s.Nonblocking left right) around w x z m c = inl (name_of_one left x m, inr c)

    row_reaches : {n : _} (row : Row_of-Stmt n) (around : Name → Type 0) (w : Flow) (x z : Name) → Names (row_lefts row) x → around z → (row_flow p around row w).through x z
    row_reaches end_of-Stmt around w x z m c = absurd m
    row_reaches (more_of-Stmt a rest) around w x z m c =
        ⊎_elim
        (λ k. row_grows rest around (flow p around a w) x z (reaches a around w x z k c))
        (λ k. row_reaches rest around (flow p around a w) x z k c)
        (names_or (lefts a) (row_lefts rest) x m)

    pub items_reach : {n : _} (row : Row_of-CaseItem n) (around : Name → Type 0) (w : Flow) (x z : Name) → Names (case_lefts row) x → around z → (items_flow p around row w).through x z
    items_reach end_of-CaseItem around w x z m c = absurd m
    items_reach (more_of-CaseItem labels body rest) around w x z m c =
        ⊎_elim (λ k. inl (reaches body around w x z k c)) (λ k. inr (items_reach rest around w x z k c)) (names_or (lefts body) (case_lefts rest) x m)
