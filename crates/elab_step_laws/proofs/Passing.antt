-- One pass for all paths: a flow says what some of many histories does, a history being the steps so far, the last one first.
use Rattle.std.proofs.Common.{◌≡◌, ℕ, List, [], ◌∷◌, ◌++◌, sym, ap, ◌∙◌, refl, ◌⊎◌, ◌↔◌, inl, inr, ⊎_elim, subst}
use Rattle.std.specs.List.{flat_map}
use Rattle.vlog_tree.specs.declared.expr.Expr.{Expr}
use Rattle.vlog_tree.specs.declared.stmt.Lval.{Lval}
use Rattle.vlog_tree_runs.specs.Places.{Name, Among, Place}
use Rattle.vlog_tree_runs.specs.Blocks.{left_names}
use Rattle.elab_flat_faults.specs.Texts.{names_in, numbers_in}
use Rattle.elab_flat_faults.specs.Paths.{Sets, Step, Reads, Enters, Leaves, Assigns, reads_in, branch, assignment, IsSetBy, IsAllSet, Counts, Through, Around}
use Rattle.elab_step_laws.specs.Flows.{Flow, nowhere, either, only_if, IsUnset, Uses, after_reads, after_assignment, within}
use Rattle.elab_step_laws.proofs.Deciding.{one_unset}

-- ---- histories

-- steps behind a history
abbrev pub onto : List Step → List Step → List Step
onto [] e = e
onto (k ∷ ks) e = onto ks (k ∷ e)

pub onto_append : (xs ys e : List Step) → onto (xs ++ ys) e ≡ onto ys (onto xs e)
onto_append [] ys e = refl
onto_append (x ∷ xs) ys e = onto_append xs ys (x ∷ e)

abbrev pub Histories : Type 1
Histories = List Step → Type 0

abbrev pub OnSome : Histories → Histories → Type 0
OnSome B Q = (e : List Step) × B e × Q e

-- those with one more step
abbrev pub Then : Step → Histories → Histories
Then k B e' = (e : List Step) × B e × (k ∷ e ≡ e')

-- those with steps more that are so
abbrev pub Behind : Histories → Histories → Histories
Behind I B e' = (e steps : List Step) × B e × I steps × (onto steps e ≡ e')

then_to : (k : Step) (B Q : Histories) → OnSome (Then k B) Q → OnSome B (λ e. Q (k ∷ e))
then_to k B Q h = (h.1.0, h.1.1, subst Q (sym h.1.2) h.2)

then_from : (k : Step) (B Q : Histories) → OnSome B (λ e. Q (k ∷ e)) → OnSome (Then k B) Q
then_from k B Q h = (k ∷ h.0, (h.0, h.1, refl), h.2)

-- ---- what a history does

module _ (p : Place) where
  -- it reads x before all of x is set
  abbrev pub ReadsOpen : List Step → Name → Type 0
  ReadsOpen [] x = ⊥
  ReadsOpen (k ∷ e) x = (Among (flat_map names_in (reads_in k)) x × (IsAllSet p e x → ⊥)) ⊎ ReadsOpen e x

  -- expressions read after it count as z
  abbrev pub CountsAs : List Step → List Expr → Name → Type 0
  CountsAs e as' z = (y : Name) × Among (flat_map names_in as') y × Counts p e y z (Through p e y z)

  -- a flow says what some of the histories do
  pub record Shows (B : Histories) (w : Flow) : Type 0 where
    pub unset : (x : Name) (b : ℕ) → w.unset x b ↔ OnSome B (λ e. IsSetBy p e x b → ⊥)
    pub through : (y z : Name) → w.through y z ↔ OnSome B (λ e. Through p e y z)
    pub outside : (x : Name) → w.outside x ↔ OnSome B (λ e. ReadsOpen e x)

  -- the conditions around what follows some of them
  abbrev pub Conditions : Histories → (Name → Type 0) → Type 0
  Conditions B around = (z : Name) → around z ↔ OnSome B (λ e. Around p 0 e z)

  open_is : (B : Histories) (w : Flow) → Shows B w → (x : Name) → IsUnset p w x ↔ OnSome B (λ e. IsAllSet p e x → ⊥)
  open_is B w h x = (
    λ o. let r = (h.unset x o.0).0 o.2 in (r.0, r.1, λ all. r.2 (all o.0 o.1)),
    λ r. let o = one_unset p r.0 x r.2 in (o.0, o.1, (h.unset x o.0).1 (r.0, r.1, o.2)),
  )

  uses_are : (B : Histories) (w : Flow) → Shows B w → (as' : List Expr) (z : Name) → Uses p w as' z ↔ OnSome B (λ e. CountsAs e as' z)
  uses_are B w h as' z = (
    λ u. ⊎_elim
        (λ o. let r = (open_is B w h u.0).0 o.1 in (r.0, r.1, (u.0, u.1, inl (o.0, r.2))))
        (λ t. let r = (h.through u.0 z).0 t in (r.0, r.1, (u.0, u.1, inr r.2)))
        u.2,
    λ r. ⊎_elim
        (λ o. (r.2.0, r.2.1, inl (o.0, (open_is B w h r.2.0).1 (r.0, r.1, o.1))))
        (λ t. (r.2.0, r.2.1, inr ((h.through r.2.0 z).1 (r.0, r.1, t))))
        r.2.2,
  )

  pub shows_same : (B B' : Histories) (w : Flow) → ((e : List Step) → B e → B' e) → ((e : List Step) → B' e → B e) → Shows B w → Shows B' w
  shows_same B B' w f g h = record {
    unset = λ x b. (λ u. let r = (h.unset x b).0 u in (r.0, f r.0 r.1, r.2), λ r. (h.unset x b).1 (r.0, g r.0 r.1, r.2));
    through = λ y z. (λ u. let r = (h.through y z).0 u in (r.0, f r.0 r.1, r.2), λ r. (h.through y z).1 (r.0, g r.0 r.1, r.2));
    outside = λ x. (λ u. let r = (h.outside x).0 u in (r.0, f r.0 r.1, r.2), λ r. (h.outside x).1 (r.0, g r.0 r.1, r.2));
  }

  -- ---- one more step

  -- reads, as such or as a condition
  read_outside : (B : Histories) (w : Flow) (as' : List Expr) → Shows B w → (x : Name) →
      (after_reads p as' w).outside x ↔ OnSome B (λ e. (Among (flat_map names_in as') x × (IsAllSet p e x → ⊥)) ⊎ ReadsOpen e x)
  read_outside B w as' h x = (
    λ o. ⊎_elim (λ a. let r = (open_is B w h x).0 a.1 in (r.0, r.1, inl (a.0, r.2))) (λ a. let r = (h.outside x).0 a in (r.0, r.1, inr r.2)) o,
    λ r. ⊎_elim (λ a. inl (a.0, (open_is B w h x).1 (r.0, r.1, a.1))) (λ a. inr ((h.outside x).1 (r.0, r.1, a))) r.2,
  )

  pub shows_reads : (B : Histories) (w : Flow) (as' : List Expr) → Shows B w → Shows (Then (Reads as') B) (after_reads p as' w)
  shows_reads B w as' h = record {
    unset = λ x b. (λ u. then_from (Reads as') B (λ e. IsSetBy p e x b → ⊥) ((h.unset x b).0 u), λ r. (h.unset x b).1 (then_to (Reads as') B (λ e. IsSetBy p e x b → ⊥) r));
    through = λ y z. (λ u. then_from (Reads as') B (λ e. Through p e y z) ((h.through y z).0 u), λ r. (h.through y z).1 (then_to (Reads as') B (λ e. Through p e y z) r));
    outside = λ x. let k = read_outside B w as' h x in
        (λ u. then_from (Reads as') B (λ e. ReadsOpen e x) (k.0 u), λ r. k.1 (then_to (Reads as') B (λ e. ReadsOpen e x) r));
  }

  pub shows_enters : (B : Histories) (w : Flow) (as' : List Expr) → Shows B w → Shows (Then (Enters as') B) (after_reads p as' w)
  shows_enters B w as' h = record {
    unset = λ x b. (λ u. then_from (Enters as') B (λ e. IsSetBy p e x b → ⊥) ((h.unset x b).0 u), λ r. (h.unset x b).1 (then_to (Enters as') B (λ e. IsSetBy p e x b → ⊥) r));
    through = λ y z. (λ u. then_from (Enters as') B (λ e. Through p e y z) ((h.through y z).0 u), λ r. (h.through y z).1 (then_to (Enters as') B (λ e. Through p e y z) r));
    outside = λ x. let k = read_outside B w as' h x in
        (λ u. then_from (Enters as') B (λ e. ReadsOpen e x) (k.0 u), λ r. k.1 (then_to (Enters as') B (λ e. ReadsOpen e x) r));
  }

  -- a step that reads nothing
  quiet_outside : (B : Histories) (w : Flow) → Shows B w → (x : Name) → w.outside x ↔ OnSome B (λ e. (⊥ × (IsAllSet p e x → ⊥)) ⊎ ReadsOpen e x)
  quiet_outside B w h x = (
    λ o. let r = (h.outside x).0 o in (r.0, r.1, inr r.2),
    λ r. ⊎_elim (λ a. absurd a.0) (λ a. (h.outside x).1 (r.0, r.1, a)) r.2,
  )

  pub shows_leaves : (B : Histories) (w : Flow) → Shows B w → Shows (Then Leaves B) w
  shows_leaves B w h = record {
    unset = λ x b. (λ u. then_from Leaves B (λ e. IsSetBy p e x b → ⊥) ((h.unset x b).0 u), λ r. (h.unset x b).1 (then_to Leaves B (λ e. IsSetBy p e x b → ⊥) r));
    through = λ y z. (λ u. then_from Leaves B (λ e. Through p e y z) ((h.through y z).0 u), λ r. (h.through y z).1 (then_to Leaves B (λ e. Through p e y z) r));
    outside = λ x. let k = quiet_outside B w h x in
        (λ u. then_from Leaves B (λ e. ReadsOpen e x) (k.0 u), λ r. k.1 (then_to Leaves B (λ e. ReadsOpen e x) r));
  }

  -- an assignment, whose expressions are read
  pub conditions_read : (B : Histories) (around : Name → Type 0) (as' : List Expr) → Conditions B around → Conditions (Then (Reads as') B) around
  conditions_read B around as' h z = (λ u. then_from (Reads as') B (λ e. Around p 0 e z) ((h z).0 u), λ r. (h z).1 (then_to (Reads as') B (λ e. Around p 0 e z) r))

  pub conditions_enter : (B : Histories) (around : Name → Type 0) (w : Flow) (as' : List Expr) → Conditions B around → Shows B w → Conditions (Then (Enters as') B) (within p around w as')
  conditions_enter B around w as' h k z = (
    λ u. then_from (Enters as') B (λ e. Around p 0 e z)
        (⊎_elim (λ a. let r = (uses_are B w k as' z).0 a in (r.0, r.1, inl r.2)) (λ a. let r = (h z).0 a in (r.0, r.1, inr r.2)) u),
    λ r. let t = then_to (Enters as') B (λ e. Around p 0 e z) r in
        ⊎_elim (λ a. inl ((uses_are B w k as' z).1 (t.0, t.1, a))) (λ a. inr ((h z).1 (t.0, t.1, a))) t.2,
  )

  module _ (B : Histories) (around : Name → Type 0) (w : Flow) (left : Lval) (as' : List Expr) (h : Conditions B around) (k : Shows B w) where
    assigned_unset : (x : Name) (b : ℕ) → (w.unset x b × (Sets p left x b → ⊥)) ↔ OnSome B (λ e. Sets p left x b ⊎ IsSetBy p e x b → ⊥)
    assigned_unset x b = (
      λ u. let r = (k.unset x b).0 u.0 in (r.0, r.1, λ t. ⊎_elim u.1 r.2 t),
      λ r. ((k.unset x b).1 (r.0, r.1, λ t. r.2 (inr t)), λ t. r.2 (inl t)),
    )

    assigned_through : (y z : Name) → ((Among (left_names left) y × (Uses p w as' z ⊎ around z)) ⊎ w.through y z) ↔ OnSome B (λ e. (Among (left_names left) y × (CountsAs e as' z ⊎ Around p 0 e z)) ⊎ Through p e y z)
    assigned_through y z = (
      λ u. ⊎_elim
          (λ a. ⊎_elim (λ t. let r = (uses_are B w k as' z).0 t in (r.0, r.1, inl (a.0, inl r.2))) (λ t. let r = (h z).0 t in (r.0, r.1, inl (a.0, inr r.2))) a.1)
          (λ t. let r = (k.through y z).0 t in (r.0, r.1, inr r.2))
          u,
      λ r. ⊎_elim
          (λ a. inl (a.0, ⊎_elim (λ t. inl ((uses_are B w k as' z).1 (r.0, r.1, t))) (λ t. inr ((h z).1 (r.0, r.1, t))) a.1))
          (λ t. inr ((k.through y z).1 (r.0, r.1, t)))
          r.2,
    )

    shows_assigns : Shows (Then (Assigns left as') B)
        (record { unset = λ x b. w.unset x b × (Sets p left x b → ⊥); through = λ y z. (Among (left_names left) y × (Uses p w as' z ⊎ around z)) ⊎ w.through y z; outside = w.outside })
    shows_assigns = record {
      unset = λ x b. let t = assigned_unset x b in
          (λ u. then_from (Assigns left as') B (λ e. IsSetBy p e x b → ⊥) (t.0 u), λ r. t.1 (then_to (Assigns left as') B (λ e. IsSetBy p e x b → ⊥) r));
      through = λ y z. let t = assigned_through y z in
          (λ u. then_from (Assigns left as') B (λ e. Through p e y z) (t.0 u), λ r. t.1 (then_to (Assigns left as') B (λ e. Through p e y z) r));
      outside = λ x. let t = quiet_outside B w k x in
          (λ u. then_from (Assigns left as') B (λ e. ReadsOpen e x) (t.0 u), λ r. t.1 (then_to (Assigns left as') B (λ e. ReadsOpen e x) r));
    }

  pub shows_assignment : (B : Histories) (around : Name → Type 0) (w : Flow) (left : Lval) (right : Expr) → Conditions B around → Shows B w →
      Shows (Behind (λ steps. steps ≡ assignment left right) B) (after_assignment p around left right w)
  shows_assignment B around w left right h k =
      let as' : List Expr = right ∷ numbers_in left in
      shows_same (Then (Assigns left as') (Then (Reads as') B)) (Behind (λ steps. steps ≡ assignment left right) B) (after_assignment p around left right w)
      (λ e m. (m.1.0, assignment left right, m.1.1, refl, ap (λ t. Assigns left as' ∷ t) m.1.2 ∙ m.2))
      (λ e m. (Reads as' ∷ m.0, (m.0, m.2, refl), ap (λ t. onto t m.0) (sym m.3) ∙ m.4))
      (shows_assigns (Then (Reads as') B) around (after_reads p as' w) left as' (conditions_read B around as' h) (shows_reads B w as' k))

  -- ---- several ways on

  pub shows_none : (B : Histories) (w : Flow) → Shows B w → Shows (Behind (λ steps. steps ≡ []) B) w
  shows_none B w h = shows_same B (Behind (λ steps. steps ≡ []) B) w (λ e m. (e, [], m, refl, refl)) (λ e m. subst B (ap (λ t. onto t m.0) (sym m.3) ∙ m.4) m.2) h

  -- not at all, where a condition holds
  pub shows_past : (B : Histories) (w : Flow) (D F : Type 0) → Shows B w → Shows (Behind (λ steps. (steps ≡ []) × D × F) B) (only_if (D × F) w)
  shows_past B w D F h = record {
    unset = λ x b. (λ u. let r = (h.unset x b).0 u.1 in (r.0, (r.0, [], r.1, (refl, u.0.0, u.0.1), refl), r.2), λ r. ((r.1.3.1, r.1.3.2), (h.unset x b).1 (r.0, before r.0 r.1, r.2)));
    through = λ y z. (λ u. let r = (h.through y z).0 u.1 in (r.0, (r.0, [], r.1, (refl, u.0.0, u.0.1), refl), r.2), λ r. ((r.1.3.1, r.1.3.2), (h.through y z).1 (r.0, before r.0 r.1, r.2)));
    outside = λ x. (λ u. let r = (h.outside x).0 u.1 in (r.0, (r.0, [], r.1, (refl, u.0.0, u.0.1), refl), r.2), λ r. ((r.1.3.1, r.1.3.2), (h.outside x).1 (r.0, before r.0 r.1, r.2)));
  }
    where
      before : (e : List Step) → Behind (λ steps. (steps ≡ []) × D × F) B e → B e
      before e m = subst B (ap (λ t. onto t m.0) (sym m.3.0) ∙ m.4) m.2

  pub shows_nowhere : (B : Histories) → Shows (Behind (λ steps. ⊥) B) nowhere
  shows_nowhere B = record {
    unset = λ x b. (λ u. absurd u, λ r. r.1.3);
    through = λ y z. (λ u. absurd u, λ r. r.1.3);
    outside = λ x. (λ u. absurd u, λ r. r.1.3);
  }

  pub shows_either : (B I J : Histories) (v w : Flow) → Shows (Behind I B) v → Shows (Behind J B) w → Shows (Behind (λ steps. I steps ⊎ J steps) B) (either v w)
  shows_either B I J v w h k = record {
    unset = λ x b. both (h.unset x b) (k.unset x b);
    through = λ y z. both (h.through y z) (k.through y z);
    outside = λ x. both (h.outside x) (k.outside x);
  }
    where
      both : {C D : Type 0} {Q : Histories} → C ↔ OnSome (Behind I B) Q → D ↔ OnSome (Behind J B) Q → (C ⊎ D) ↔ OnSome (Behind (λ steps. I steps ⊎ J steps) B) Q
      both f g = (
        λ u. ⊎_elim (λ a. let r = f.0 a in (r.0, (r.1.0, r.1.1, r.1.2, inl r.1.3, r.1.4), r.2)) (λ a. let r = g.0 a in (r.0, (r.1.0, r.1.1, r.1.2, inr r.1.3, r.1.4), r.2)) u,
        λ r. ⊎_elim (λ i. inl (f.1 (r.0, (r.1.0, r.1.1, r.1.2, i, r.1.4), r.2))) (λ j. inr (g.1 (r.0, (r.1.0, r.1.1, r.1.2, j, r.1.4), r.2))) r.1.3,
      )

  -- one after the other
  pub shows_sequence : (B I J : Histories) (w : Flow) → Shows (Behind J (Behind I B)) w → Shows (Behind (λ steps. (first second : List Step) × (steps ≡ first ++ second) × I first × J second) B) w
  shows_sequence B I J w h =
      shows_same (Behind J (Behind I B)) (Behind (λ steps. (first second : List Step) × (steps ≡ first ++ second) × I first × J second) B) w
      (λ e m. (m.2.0, m.2.1 ++ m.1, m.2.2, (m.2.1, m.1, refl, m.2.3, m.3), onto_append m.2.1 m.1 m.2.0 ∙ (ap (λ t. onto m.1 t) m.2.4 ∙ m.4)))
      (λ e m. (onto m.3.0 m.0, m.3.1, (m.0, m.3.0, m.2, m.3.3, refl), m.3.4, sym (onto_append m.3.0 m.3.1 m.0) ∙ (ap (λ t. onto t m.0) (sym m.3.2) ∙ m.4)))
      h

  -- in a branch
  abbrev pub InBranch : List Expr → Histories → Histories
  InBranch as' I steps = (inner : List Step) × (steps ≡ branch as' inner) × I inner

  pub branch_onto : (as' : List Expr) (inner e : List Step) → onto (branch as' inner) e ≡ Leaves ∷ onto inner (Enters as' ∷ e)
  branch_onto as' inner e = onto_append inner (Leaves ∷ []) (Enters as' ∷ e)

  pub shows_branch : (B I : Histories) (as' : List Expr) (w : Flow) → Shows (Behind I (Then (Enters as') B)) w → Shows (Behind (InBranch as' I) B) w
  shows_branch B I as' w h =
      shows_same (Then Leaves (Behind I (Then (Enters as') B))) (Behind (InBranch as' I) B) w
      (λ e m. (m.1.2.0, branch as' m.1.1, m.1.2.1, (m.1.1, refl, m.1.3), branch_onto as' m.1.1 m.1.2.0 ∙ (ap (λ t. Leaves ∷ onto m.1.1 t) m.1.2.2 ∙ (ap (λ t. Leaves ∷ t) m.1.4 ∙ m.2))))
      (λ e m. (onto m.3.0 (Enters as' ∷ m.0), (Enters as' ∷ m.0, m.3.0, (m.0, m.2, refl), m.3.2, refl), sym (branch_onto as' m.3.0 m.0) ∙ (ap (λ t. onto t m.0) (sym m.3.1) ∙ m.4)))
      (shows_leaves (Behind I (Then (Enters as') B)) w h)
