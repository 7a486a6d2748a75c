-- The pass through a statement says what the paths through it do.
use Rattle.std.proofs.Common.{◌≡◌, ℕ, suc, List, [], ◌∷◌, ◌++◌, reverse, sym, ap, ◌∙◌, refl, ◌⊎◌, ◌↔◌, inl, inr, ⊎_elim, subst}
use Rattle.std.specs.List.{flat_map}
use Rattle.std.proofs.lemmas.List.{append_assoc, append-nil, reverse-append}
use Rattle.vlog_tree.specs.declared.expr.Expr.{Expr}
use Rattle.vlog_tree.specs.declared.stmt.Lval.{Lval}
use Rattle.vlog_tree.specs.declared.stmt.Stmt.{Stmt, Row_of-Stmt, end_of-Stmt, more_of-Stmt, Row_of-CaseItem, end_of-CaseItem, more_of-CaseItem}
use Rattle.vlog_tree.specs.declared.stmt.Stmt.TheVariants as s
use Rattle.vlog_tree_runs.specs.Places.{Name, Among, Place}
use Rattle.vlog_tree_runs.specs.Blocks.{labels_in, left_names}
use Rattle.elab_flat_faults.specs.Texts.{names_in}
use Rattle.elab_flat_faults.specs.Paths.{Step, Reads, Enters, Leaves, Assigns, reads_in, branch, assignment, IsFull, HasDefault, IsPath, IsRowPath, IsItemPath, IsSetBy, IsAllSet, Through, Around, DependsAt}
use Rattle.elab_step_laws.specs.Flows.{Flow, at_start, either, after_reads, within, flow, row_flow, items_flow, block_flow}
use Rattle.elab_step_laws.specs.Laws.{place_over, AreOfPaths, PassesArePaths, BitsFollow}
use Rattle.elab_step_laws.proofs.Giving.{Writes}
use Rattle.elab_step_laws.proofs.Following.{flow_follows}
use Rattle.elab_step_laws.proofs.Growing.{IsBare, bare_leads}
use Rattle.elab_step_laws.proofs.Passing.{onto, onto_append, Histories, OnSome, Then, Behind, InBranch, branch_onto, ReadsOpen, Shows, Conditions, shows_same, shows_enters, conditions_enter, shows_assignment, shows_none, shows_past, shows_nowhere, shows_either, shows_sequence, shows_branch}

-- ---- a path leads through every statement

mutual
  has_path : (p : Place) (body : Stmt) → (steps : List Step) × IsPath p body steps
  has_path p s.Empty = ([], refl)
  has_path p (s.Block' n g row) = has_row_path p row
  has_path p (s.If' a g (more_of-Stmt body end_of-Stmt)) = (branch (a ∷ []) [], ([], refl, inl refl))
  has_path p (s.IfElse' a g (more_of-Stmt body end_of-Stmt) i (more_of-Stmt other end_of-Stmt)) =
      let r = has_path p body in (branch (a ∷ []) r.0, (r.0, refl, inl r.1))
  has_path p (s.Case' kind a g row) =
      ⊎_elim (λ e. let l = bare_leads p kind a row e in (branch (a ∷ labels_in row) [], ([], refl, inr (refl, l.0, l.1))))
      (λ r. (branch (a ∷ labels_in row) r.0, (r.0, refl, inl r.1)))
      (has_item_path p row)
  has_path p (s.Blocking left right) = (assignment left right, refl)
  has_path p (s.Nonblocking left right) = (assignment left right, refl)

  has_row_path : {n : _} (p : Place) (row : Row_of-Stmt n) → (steps : List Step) × IsRowPath p row steps
  has_row_path p end_of-Stmt = ([], refl)
  has_row_path p (more_of-Stmt a rest) = let r = has_path p a in let t = has_row_path p rest in (r.0 ++ t.0, (r.0, t.0, refl, r.1, t.1))

  has_item_path : {n : _} (p : Place) (row : Row_of-CaseItem n) → IsBare row ⊎ ((steps : List Step) × IsItemPath p row steps)
  has_item_path p end_of-CaseItem = inl (refl, λ h. h)
  has_item_path p (more_of-CaseItem labels body rest) = let r = has_path p body in inr (r.0, inl r.1)

-- ---- after a statement the conditions around it stand as before

module _ (p : Place) where
  abbrev Keeps : Histories → Type 0
  Keeps I = (steps : List Step) → I steps → (n : ℕ) (e : List Step) (z : Name) → Around p n (onto steps e) z ↔ Around p n e z

  keeps_none : Keeps (λ steps. steps ≡ [])
  keeps_none steps h n e z = subst (λ t. Around p n (onto t e) z ↔ Around p n e z) (sym h) (λ a. a, λ a. a)

  keeps_assignment : (left : Lval) (right : Expr) → Keeps (λ steps. steps ≡ assignment left right)
  keeps_assignment left right steps h n e z = subst (λ t. Around p n (onto t e) z ↔ Around p n e z) (sym h) (λ a. a, λ a. a)

  keeps_branch : (as' : List Expr) (I : Histories) → Keeps I → Keeps (InBranch p as' I)
  keeps_branch as' I k steps h n e z =
      let r = k h.0 h.2 (suc n) (Enters as' ∷ e) z in
      subst (λ t. Around p n t z ↔ Around p n e z) (sym (ap (λ t. onto t e) h.1 ∙ branch_onto p as' h.0 e)) (λ a. r.0 a, λ a. r.1 a)

  mutual
    keeps : (body : Stmt) → Keeps (IsPath p body)
    keeps s.Empty = keeps_none
    keeps (s.Block' n g row) = row_keeps row
    keeps (s.If' a g (more_of-Stmt body end_of-Stmt)) =
        keeps_branch (a ∷ []) (λ t. (t ≡ []) ⊎ IsPath p body t) (λ t h. ⊎_elim (λ i. keeps_none t i) (λ i. keeps body t i) h)
    keeps (s.IfElse' a g (more_of-Stmt body end_of-Stmt) i (more_of-Stmt other end_of-Stmt)) =
        keeps_branch (a ∷ []) (λ t. IsPath p body t ⊎ IsPath p other t) (λ t h. ⊎_elim (λ k. keeps body t k) (λ k. keeps other t k) h)
    keeps (s.Case' kind a g row) =
        keeps_branch (a ∷ labels_in row) (λ t. IsItemPath p row t ⊎ ((t ≡ []) × (HasDefault row → ⊥) × (IsFull p kind a (labels_in row) → ⊥)))
        (λ t h. ⊎_elim (λ k. items_keep row t k) (λ k. keeps_none t k.0) h)
    keeps (s.Blocking left right) = keeps_assignment left right
    keeps (s.Nonblocking left right) = keeps_assignment left right

    row_keeps : {m : _} (row : Row_of-Stmt m) → Keeps (IsRowPath p row)
    row_keeps end_of-Stmt = keeps_none
    row_keeps (more_of-Stmt a rest) = λ steps h n e z.
        let f = keeps a h.0 h.3 n e z in
        let g = row_keeps rest h.1 h.4 n (onto h.0 e) z in
        subst (λ t. Around p n t z ↔ Around p n e z) (sym (ap (λ t. onto t e) h.2 ∙ onto_append h.0 h.1 e)) (λ a. f.0 (g.0 a), λ a. g.1 (f.1 a))

    items_keep : {m : _} (row : Row_of-CaseItem m) → Keeps (IsItemPath p row)
    items_keep end_of-CaseItem = λ steps h n e z. absurd h
    items_keep (more_of-CaseItem labels body rest) = λ steps h. ⊎_elim (λ k. keeps body steps k) (λ k. items_keep rest steps k) h

  conditions_after : (B : Histories) (around : Name → Type 0) (body : Stmt) → Conditions p B around → Conditions p (Behind (IsPath p body) B) around
  conditions_after B around body h z = (
    λ u. let r = (h z).0 u in let t = has_path p body in
        (onto t.0 r.0, (r.0, t.0, r.1, t.1, refl), (keeps body t.0 t.1 0 r.0 z).1 r.2),
    λ r. (h z).1 (r.1.0, r.1.2, (keeps body r.1.1 r.1.3 0 r.1.0 z).0 (subst (λ t. Around p 0 t z) (sym r.1.4) r.2)),
  )

  -- ---- the pass

  turned : (B I J : Histories) (v w : Flow) → Shows p (Behind I B) v → Shows p (Behind J B) w → Shows p (Behind (λ t. J t ⊎ I t) B) (either v w)
  turned B I J v w h k =
      shows_same p (Behind (λ t. I t ⊎ J t) B) (Behind (λ t. J t ⊎ I t) B) (either v w)
      (λ e m. (m.0, m.1, m.2, ⊎_elim (λ i. inr i) (λ j. inl j) m.3, m.4)) (λ e m. (m.0, m.1, m.2, ⊎_elim (λ i. inr i) (λ j. inl j) m.3, m.4)) (shows_either p B I J v w h k)

  mutual
    passes : (body : Stmt) (B : Histories) (around : Name → Type 0) (w : Flow) → Conditions p B around → Shows p B w → Shows p (Behind (IsPath p body) B) (flow p around body w)
    passes s.Empty B around w h k = shows_none p B w k
    passes (s.Block' n g row) B around w h k = row_passes row B around w h k
    passes (s.If' a g (more_of-Stmt body end_of-Stmt)) B around w h k =
        let B' : Histories = Then (Enters (a ∷ [])) B in
        let read = shows_enters p B w (a ∷ []) k in
        shows_branch p B (λ t. (t ≡ []) ⊎ IsPath p body t) (a ∷ []) _
        (turned B' (IsPath p body) (λ t. t ≡ []) _ _
        (passes body B' (within p around w (a ∷ [])) (after_reads p (a ∷ []) w) (conditions_enter p B around w (a ∷ []) h k) read)
        (shows_none p B' (after_reads p (a ∷ []) w) read))
    passes (s.IfElse' a g (more_of-Stmt body end_of-Stmt) i (more_of-Stmt other end_of-Stmt)) B around w h k =
        let B' : Histories = Then (Enters (a ∷ [])) B in
        let read = shows_enters p B w (a ∷ []) k in
        let c = conditions_enter p B around w (a ∷ []) h k in
        shows_branch p B (λ t. IsPath p body t ⊎ IsPath p other t) (a ∷ []) _
        (shows_either p B' (IsPath p body) (IsPath p other) _ _
        (passes body B' (within p around w (a ∷ [])) (after_reads p (a ∷ []) w) c read)
        (passes other B' (within p around w (a ∷ [])) (after_reads p (a ∷ []) w) c read))
    passes (s.Case' kind a g row) B around w h k =
        let as' : List Expr = a ∷ labels_in row in
        let B' : Histories = Then (Enters as') B in
        let read = shows_enters p B w as' k in
        shows_branch p B (λ t. IsItemPath p row t ⊎ ((t ≡ []) × (HasDefault row → ⊥) × (IsFull p kind a (labels_in row) → ⊥))) as' _
        (shows_either p B' (IsItemPath p row) (λ t. (t ≡ []) × (HasDefault row → ⊥) × (IsFull p kind a (labels_in row) → ⊥)) _ _
        (items_pass row B' (within p around w as') (after_reads p as' w) (conditions_enter p B around w as' h k) read)
        (shows_past p B' (after_reads p as' w) (HasDefault row → ⊥) (IsFull p kind a (labels_in row) → ⊥) read))
    passes (s.Blocking left right) B around w h k = shows_assignment p B around w left right h k
    passes (s.Nonblocking left right) B around w h k = shows_assignment p B around w left right h k

    row_passes : {n : _} (row : Row_of-Stmt n) (B : Histories) (around : Name → Type 0) (w : Flow) → Conditions p B around → Shows p B w →
        Shows p (Behind (IsRowPath p row) B) (row_flow p around row w)
    row_passes end_of-Stmt B around w h k = shows_none p B w k
    row_passes (more_of-Stmt a rest) B around w h k =
        shows_sequence p B (IsPath p a) (IsRowPath p rest) _
        (row_passes rest (Behind (IsPath p a) B) around (flow p around a w) (conditions_after B around a h) (passes a B around w h k))

    items_pass : {n : _} (row : Row_of-CaseItem n) (B : Histories) (around : Name → Type 0) (w : Flow) → Conditions p B around → Shows p B w →
        Shows p (Behind (IsItemPath p row) B) (items_flow p around row w)
    items_pass end_of-CaseItem B around w h k = shows_nowhere p B
    items_pass (more_of-CaseItem labels body rest) B around w h k =
        shows_either p B (IsPath p body) (IsItemPath p rest) _ _ (passes body B around w h k) (items_pass rest B around w h k)

  -- ---- a whole block

  abbrev Only : Histories
  Only e = e ≡ []

  starts : Shows p Only at_start
  starts = record {
    unset = λ x b. (λ u. ([], refl, λ h. h), λ r. tt);
    through = λ y z. (λ u. absurd u, λ r. subst (λ e. Through p e y z) r.1 r.2);
    outside = λ x. (λ u. absurd u, λ r. subst (λ e. ReadsOpen p e x) r.1 r.2);
  }

  alone : Conditions p Only (λ z. ⊥)
  alone z = (λ u. absurd u, λ r. subst (λ e. Around p 0 e z) r.1 r.2)

  -- histories of a block are its paths turned round
  on_paths : (body : Stmt) (Q : Histories) → OnSome (Behind (IsPath p body) Only) Q ↔ ((steps : List Step) × IsPath p body steps × Q (onto steps []))
  on_paths body Q = (
    λ r. (r.1.1, r.1.3, subst Q (sym (ap (λ e. onto r.1.1 e) (sym r.1.2) ∙ r.1.4)) r.2),
    λ r. (onto r.0 [], ([], r.0, refl, r.1, refl), r.2),
  )

  set_onto : (steps e : List Step) (x : Name) (b : ℕ) → IsSetBy p (onto steps e) x b ↔ (IsSetBy p steps x b ⊎ IsSetBy p e x b)
  set_onto [] e x b = (λ h. inr h, λ h. ⊎_elim (λ n. absurd n) (λ k. k) h)
  set_onto (Reads as' ∷ steps) e x b = set_onto steps (Reads as' ∷ e) x b
  set_onto (Enters as' ∷ steps) e x b = set_onto steps (Enters as' ∷ e) x b
  set_onto (Leaves ∷ steps) e x b = set_onto steps (Leaves ∷ e) x b
  set_onto (Assigns left as' ∷ steps) e x b =
      let r = set_onto steps (Assigns left as' ∷ e) x b in (
        λ h. ⊎_elim (λ k. inl (inr k)) (λ k. ⊎_elim (λ t. inl (inl t)) (λ t. inr t) k) (r.0 h),
        λ h. r.1 (⊎_elim (λ k. ⊎_elim (λ t. inr (inl t)) (λ t. inl t) k) (λ t. inr (inr t)) h),
      )

  -- an assignment to y in steps behind a history depends on z
  abbrev Assigned : List Step → List Step → Name → Name → Type 0
  Assigned steps e y z =
      (before after : List Step) × (left : Lval) × (as' : List Expr) × (steps ≡ before ++ Assigns left as' ∷ after) × Among (left_names left) y × DependsAt p (onto before e) as' z

  further : (k : Step) (steps e : List Step) (y z : Name) → Assigned steps (k ∷ e) y z → Assigned (k ∷ steps) e y z
  further k steps e y z h = (k ∷ h.0, h.1, h.2, h.3, ap (λ t. k ∷ t) h.4, h.5, h.6)

  through_to : (steps e : List Step) (y z : Name) → Through p (onto steps e) y z → Assigned steps e y z ⊎ Through p e y z
  through_to [] e y z h = inr h
  through_to (Reads as' ∷ steps) e y z h = ⊎_elim (λ k. inl (further (Reads as') steps e y z k)) (λ k. inr k) (through_to steps (Reads as' ∷ e) y z h)
  through_to (Enters as' ∷ steps) e y z h = ⊎_elim (λ k. inl (further (Enters as') steps e y z k)) (λ k. inr k) (through_to steps (Enters as' ∷ e) y z h)
  through_to (Leaves ∷ steps) e y z h = ⊎_elim (λ k. inl (further Leaves steps e y z k)) (λ k. inr k) (through_to steps (Leaves ∷ e) y z h)
  through_to (Assigns left as' ∷ steps) e y z h =
      ⊎_elim (λ k. inl (further (Assigns left as') steps e y z k)) (λ k. ⊎_elim (λ t. inl ([], steps, left, as', refl, t.0, t.1)) (λ t. inr t) k)
      (through_to steps (Assigns left as' ∷ e) y z h)

  through_later : (steps e : List Step) (y z : Name) → Through p e y z → Through p (onto steps e) y z
  through_later [] e y z h = h
  through_later (Reads as' ∷ steps) e y z h = through_later steps (Reads as' ∷ e) y z h
  through_later (Enters as' ∷ steps) e y z h = through_later steps (Enters as' ∷ e) y z h
  through_later (Leaves ∷ steps) e y z h = through_later steps (Leaves ∷ e) y z h
  through_later (Assigns left as' ∷ steps) e y z h = through_later steps (Assigns left as' ∷ e) y z (inr h)

  through_from : (steps e : List Step) (y z : Name) → Assigned steps e y z → Through p (onto steps e) y z
  through_from steps e y z h =
      subst (λ t. Through p (onto t e) y z) (sym h.4)
      (subst (λ t. Through p t y z) (sym (onto_append h.0 (Assigns h.2 h.3 ∷ h.1) e)) (through_later h.1 (Assigns h.2 h.3 ∷ onto h.0 e) y z (inl (h.5, h.6))))

  -- a step behind a history reads x before all of it is set
  abbrev Read : List Step → List Step → Name → Type 0
  Read steps e x =
      (before after : List Step) × (step : Step) × (steps ≡ before ++ step ∷ after) × Among (flat_map names_in (reads_in step)) x × (IsAllSet p (onto before e) x → ⊥)

  read_to : (steps e : List Step) (x : Name) → ReadsOpen p (onto steps e) x → Read steps e x ⊎ ReadsOpen p e x
  read_to [] e x h = inr h
  read_to (k ∷ steps) e x h =
      ⊎_elim (λ t. inl (k ∷ t.0, t.1, t.2, ap (λ ks. k ∷ ks) t.3, t.4, t.5)) (λ t. ⊎_elim (λ i. inl ([], steps, k, refl, i.0, i.1)) (λ i. inr i) t) (read_to steps (k ∷ e) x h)

  read_later : (steps e : List Step) (x : Name) → ReadsOpen p e x → ReadsOpen p (onto steps e) x
  read_later [] e x h = h
  read_later (k ∷ steps) e x h = read_later steps (k ∷ e) x (inr h)

  read_from : (steps e : List Step) (x : Name) → Read steps e x → ReadsOpen p (onto steps e) x
  read_from steps e x h =
      subst (λ t. ReadsOpen p (onto t e) x) (sym h.3)
      (subst (λ t. ReadsOpen p t x) (sym (onto_append h.0 (h.2 ∷ h.1) e)) (read_later h.1 (h.2 ∷ onto h.0 e) x (inl (h.4, h.5))))

  onto_nothing : (steps : List Step) → onto steps [] ≡ reverse steps
  onto_nothing steps = behind steps [] ∙ append-nil (reverse steps)
    where
      behind : (steps e : List Step) → onto steps e ≡ reverse steps ++ e
      behind [] e = refl
      behind (k ∷ ks) e = behind ks (k ∷ e) ∙ (sym (append_assoc (reverse ks) (k ∷ []) e) ∙ ap (λ t. t ++ e) (sym (reverse-append (k ∷ []) ks)))

  same_set : (steps : List Step) (x : Name) (b : ℕ) → IsSetBy p (onto steps []) x b ↔ IsSetBy p steps x b
  same_set steps x b = let r = set_onto steps [] x b in (λ h. ⊎_elim (λ k. k) (λ n. absurd n) (r.0 h), λ h. r.1 (inl h))

  pub of_paths : (body : Stmt) → AreOfPaths p body (block_flow p body)
  of_paths body =
      let h = passes body Only (λ z. ⊥) at_start alone starts in
      record {
        unset = λ x b. (
          λ u. let r = (on_paths body (λ e. IsSetBy p e x b → ⊥)).0 ((h.unset x b).0 u) in (r.0, r.1, λ t. r.2 ((same_set r.0 x b).1 t)),
          λ r. (h.unset x b).1 ((on_paths body (λ e. IsSetBy p e x b → ⊥)).1 (r.0, r.1, λ t. r.2 ((same_set r.0 x b).0 t))),
        );
        through = λ y z. (
          λ u. let r = (on_paths body (λ e. Through p e y z)).0 ((h.through y z).0 u) in
              ⊎_elim (λ t. (t.0, t.1, t.2, t.3, subst (λ ks. IsPath p body ks) t.4 r.1, t.5, subst (λ e. DependsAt p e t.3 z) (onto_nothing t.0) t.6)) (λ n. absurd n) (through_to r.0 [] y z r.2),
          λ t. (h.through y z).1 ((on_paths body (λ e. Through p e y z)).1
              (t.0 ++ Assigns t.2 t.3 ∷ t.1, t.4, through_from (t.0 ++ Assigns t.2 t.3 ∷ t.1) [] y z (t.0, t.1, t.2, t.3, refl, t.5, subst (λ e. DependsAt p e t.3 z) (sym (onto_nothing t.0)) t.6))),
        );
        outside = λ x. (
          λ u. let r = (on_paths body (λ e. ReadsOpen p e x)).0 ((h.outside x).0 u) in
              ⊎_elim (λ t. (t.0, t.1, t.2, subst (λ ks. IsPath p body ks) t.3 r.1, t.4, λ all. t.5 (λ b l. (same_set t.0 x b).1 (all b l)))) (λ n. absurd n) (read_to r.0 [] x r.2),
          λ t. (h.outside x).1 ((on_paths body (λ e. ReadsOpen p e x)).1
              (t.0 ++ t.2 ∷ t.1, t.3, read_from (t.0 ++ t.2 ∷ t.1) [] x (t.0, t.1, t.2, refl, t.4, λ all. t.5 (λ b l. (same_set t.0 x b).0 (all b l))))),
        );
      }

pub passes_are_paths : PassesArePaths
passes_are_paths p body = of_paths p body

pub bits_follow : Writes → BitsFollow
bits_follow w gs body c d x b vectors fixed fc fd l set agree =
    let r = of_paths (place_over gs) body in
    flow_follows w gs body c d x b vectors fixed fc fd l (λ z t. agree z ((r.through x z).0 t)) (λ u. let k = (r.unset x b).0 u in absurd (set k.0 k.1 k.2))
