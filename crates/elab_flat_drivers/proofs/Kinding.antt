-- Wrong forms of assignments are names that two lists share, or that stand in one.
use Rattle.std.proofs.Common.{◌≡◌, Bool, true, false, cond, not, inl, inr, List, [], ◌∷◌, map, Bor, refl, sym, ap, ◌∙◌, subst}
use Rattle.std.specs.Prelude.{Option, Some, None, IfSome, IfNone}
use Rattle.std.specs.List.{flat_map}
use Rattle.vlog_tree.specs.declared.item.Assign.{Assign}
use Rattle.vlog_tree_runs.specs.declared.flat.Always.{Always}
use Rattle.vlog_tree_runs.specs.declared.flat.Flat.{Flat}
use Rattle.vlog_tree_runs.specs.declared.flat.Signal.{Signal}
use Rattle.vlog_tree_runs.specs.Places.{Name, Among}
use Rattle.vlog_tree_runs.specs.Blocks.{left_names}
use Rattle.elab_flat_laws.proofs.Lists.{among_flat, flat_among}
use Rattle.elab_flat_scopes.specs.Borrowed.{name_meant}
use Rattle.elab_flat_faults.specs.ElabStands.{Names, IsWronglyAssigned}
use Rattle.elab_flat_drivers.specs.declared.names.Form.{Form}
use Rattle.elab_flat_drivers.specs.declared.names.Form.TheVariants as v
use Rattle.elab_flat_drivers.specs.Names.{is_same, form_lefts, chosen_names, declared_names}
use Rattle.elab_flat_drivers.specs.Kinds.{IsWired, IsMisplaced, IsMisdeclared, IsMisformed, IsMixed}

same_is : (a b : Bool) → is_same a b ≡ true → b ≡ a
same_is true b e = e
same_is false true e = sym e
same_is false false e = refl

is_self : (a b : Bool) → b ≡ a → is_same a b ≡ true
is_self true b e = e
is_self false b e = ap not e

module _ {X : Type 0} (xs : List X) (x : X) where
  pub in_chosen : (t : Bool) → Among (cond t xs []) x → (t ≡ true) × Among xs x
  in_chosen true h = (refl, h)
  in_chosen false h = absurd h

  pub chosen_in : (t : Bool) → t ≡ true → Among xs x → Among (cond t xs []) x
  chosen_in t e h = subst (λ b. Among (cond b xs []) x) (sym e) h

module _ (m : Flat) (x : Name) where
  abbrev pub assigned : List Name
  assigned = flat_map (λ (a : Assign). left_names a.left) m.assigns

  abbrev pub declared : Bool → List Name
  declared reg = flat_map (declared_names reg) m.signals

  abbrev pub blocked : Bool → Form → List Name
  blocked clocked form = flat_map (chosen_names clocked form) m.blocks

  abbrev IsDeclared : Bool → Type 0
  IsDeclared reg = (g : Signal) × Among m.signals g × (g.name ≡ x) × (g.reg ≡ reg)

  declared_is : (reg : Bool) → Among (declared reg) x → IsDeclared reg
  declared_is reg h =
      let r = among_flat (declared_names reg) m.signals x h in
      let q = in_chosen (r.0.name ∷ []) x (is_same reg r.0.reg) r.2 in
      (r.0, r.1, only r.0.name q.1, same_is reg r.0.reg q.0)
    where
      only : (y : Name) → Among (y ∷ []) x → y ≡ x
      only y (inl e) = e
      only y (inr h) = absurd h

  is_declared : (reg : Bool) → IsDeclared reg → Among (declared reg) x
  is_declared reg (g, a, e, f) = flat_among (declared_names reg) m.signals g x a (chosen_in (g.name ∷ []) x (is_same reg g.reg) (is_self reg g.reg f) (inl e))

  abbrev pub IsBlocked : Bool → Form → Type 0
  IsBlocked clocked form = (k : Always) × Among m.blocks k × (k.clocked ≡ clocked) × Names (form_lefts form k.body) x

  pub blocked_is : (clocked : Bool) (form : Form) → Among (blocked clocked form) x → IsBlocked clocked form
  blocked_is clocked form h =
      let r = among_flat (chosen_names clocked form) m.blocks x h in
      let q = in_chosen (flat_map left_names (form_lefts form r.0.body)) x (is_same clocked r.0.clocked) r.2 in
      (r.0, r.1, same_is clocked r.0.clocked q.0, q.1)

  pub is_blocked : (clocked : Bool) (form : Form) → IsBlocked clocked form → Among (blocked clocked form) x
  is_blocked clocked form (k, a, e, h) =
      flat_among (chosen_names clocked form) m.blocks k x a (chosen_in (flat_map left_names (form_lefts form k.body)) x (is_same clocked k.clocked) (is_self clocked k.clocked e) h)

  pub misformed_blocking : Among (blocked true v.Blocking) x → IsMisformed m x
  misformed_blocking h = inl (blocked_is true v.Blocking h)

  pub misformed_nonblocking : Among (blocked false v.Nonblocking) x → IsMisformed m x
  misformed_nonblocking h = inr (blocked_is false v.Nonblocking h)

  pub well_formed : (Among (blocked true v.Blocking) x → ⊥) → (Among (blocked false v.Nonblocking) x → ⊥) → IsMisformed m x → ⊥
  well_formed f g (inl h) = f (is_blocked true v.Blocking h)
  well_formed f g (inr h) = g (is_blocked false v.Nonblocking h)

  pub mixed : Among (blocked true v.Any) x → Among (blocked false v.Any) x → IsMixed m x
  mixed f g = let r = blocked_is true v.Any f in let q = blocked_is false v.Any g in (r.0, q.0, r.1, q.1, r.2, q.2, r.3, q.3)

  pub whole : (Among (blocked true v.Any) x → Among (blocked false v.Any) x → ⊥) → IsMixed m x → ⊥
  whole f (k, j, a, b, e, g, n, o) = f (is_blocked true v.Any (k, a, e, n)) (is_blocked false v.Any (j, b, g, o))

  pub rightly : (IsMisdeclared m x → ⊥) → (IsMisformed m x → ⊥) → (IsMixed m x → ⊥) → IsWronglyAssigned m x → ⊥
  rightly f g h (inl d) = f (inl d)
  rightly f g h (inr (inl d)) = f (inr d)
  rightly f g h (inr (inr (inl d))) = g (inl d)
  rightly f g h (inr (inr (inr (inl d)))) = g (inr d)
  rightly f g h (inr (inr (inr (inr d)))) = h d

-- a list of names that the code made
pub made : {A : Type 0} (f : A → List Name) (xs ys : List A) (slice items : List (Bor Name)) → slice ≡ items → map name_meant items ≡ flat_map f xs → xs ≡ ys → map name_meant slice ≡ flat_map f ys
made f xs ys slice items e g h = ap (map name_meant) e ∙ (g ∙ ap (flat_map f) h)

module _ (m : Flat) where
  abbrev Wired : List Name → Type 0
  Wired xs = xs ≡ flat_map (λ (a : Assign). left_names a.left) m.assigns

  abbrev Declared : Bool → List Name → Type 0
  Declared reg xs = xs ≡ flat_map (declared_names reg) m.signals

  abbrev Blocked : Bool → Form → List Name → Type 0
  Blocked clocked form xs = xs ≡ flat_map (chosen_names clocked form) m.blocks

  pub wired_by : (xs ys : List Name) → Wired xs → Declared true ys → (x : Name) → Among xs x × Among ys x → IsWired m x
  wired_by xs ys e f x h =
      let r = among_flat (λ (a : Assign). left_names a.left) m.assigns x (subst (λ z. Among z x) e h.0) in
      (r.0, r.1, r.2, declared_is m x true (subst (λ z. Among z x) f h.1))

  pub none_wired : (xs ys : List Name) → Wired xs → Declared true ys → ((x : Name) → Among xs x → Among ys x → ⊥) → (x : Name) → IsWired m x → ⊥
  none_wired xs ys e f h x (a, i, n, d) =
      h x (subst (λ z. Among z x) (sym e) (flat_among (λ (a : Assign). left_names a.left) m.assigns a x i n)) (subst (λ z. Among z x) (sym f) (is_declared m x true d))

  pub misplaced_by : (clocked : Bool) (xs ys : List Name) → Blocked clocked v.Any xs → Declared false ys → (x : Name) → Among xs x × Among ys x → IsMisplaced m clocked x
  misplaced_by clocked xs ys e f x h =
      let r = blocked_is m x clocked v.Any (subst (λ z. Among z x) e h.0) in
      (r.0, r.1, r.2, r.3, declared_is m x false (subst (λ z. Among z x) f h.1))

  pub none_misplaced : (clocked : Bool) (xs ys : List Name) → Blocked clocked v.Any xs → Declared false ys → ((x : Name) → Among xs x → Among ys x → ⊥) → (x : Name) → IsMisplaced m clocked x → ⊥
  none_misplaced clocked xs ys e f h x (k, a, c, n, d) =
      h x (subst (λ z. Among z x) (sym e) (is_blocked m x clocked v.Any (k, a, c, n))) (subst (λ z. Among z x) (sym f) (is_declared m x false d))

  pub misplaced : (clocked : Bool) (x : Name) → IsMisplaced m clocked x → IsMisdeclared m x
  misplaced clocked x (k, a, c, n, d) = inr (k, a, n, d)

  pub declared_by : ((x : Name) → IsWired m x → ⊥) → ((x : Name) → IsMisplaced m true x → ⊥) → ((x : Name) → IsMisplaced m false x → ⊥) → (x : Name) → IsMisdeclared m x → ⊥
  declared_by f g h x (inl d) = f x d
  declared_by f g h x (inr (k, a, n, d)) = by_kind k.clocked refl
    where
      by_kind : (b : Bool) → k.clocked ≡ b → ⊥
      by_kind true e = g x (k, a, e, n, d)
      by_kind false e = h x (k, a, e, n, d)

  pub blocking_by : (xs : List Name) → Blocked true v.Blocking xs → (x : Name) → Among xs x → IsMisformed m x
  blocking_by xs e x h = misformed_blocking m x (subst (λ z. Among z x) e h)

  pub nonblocking_by : (xs : List Name) → Blocked false v.Nonblocking xs → (x : Name) → Among xs x → IsMisformed m x
  nonblocking_by xs e x h = misformed_nonblocking m x (subst (λ z. Among z x) e h)

  pub formed_by : (xs ys : List Name) → Blocked true v.Blocking xs → Blocked false v.Nonblocking ys → xs ≡ [] → ys ≡ [] → (x : Name) → IsMisformed m x → ⊥
  formed_by xs ys e f g h x = well_formed m x (λ i. subst (λ z. Among z x) (sym e ∙ g) i) (λ i. subst (λ z. Among z x) (sym f ∙ h) i)

  pub mixed_by : (xs ys : List Name) → Blocked true v.Any xs → Blocked false v.Any ys → (x : Name) → Among xs x × Among ys x → IsMixed m x
  mixed_by xs ys e f x h = mixed m x (subst (λ z. Among z x) e h.0) (subst (λ z. Among z x) f h.1)

  pub whole_by : (xs ys : List Name) → Blocked true v.Any xs → Blocked false v.Any ys → ((x : Name) → Among xs x → Among ys x → ⊥) → (x : Name) → IsMixed m x → ⊥
  whole_by xs ys e f g x = whole m x (λ i j. g x (subst (λ z. Among z x) (sym e) i) (subst (λ z. Among z x) (sym f) j))

pub empty : (slice : List (Bor Name)) → slice ≡ [] → map name_meant slice ≡ []
empty slice e = ap (map name_meant) e

-- what an option says
pub some_then : {A : Type 0} (o : Option A) (P Q : A → Type 0) → IfSome o P → ((x : A) → P x → Q x) → IfSome o Q
some_then (Some x) P Q h f = f x h
some_then None P Q h f = tt

pub none_then : {A : Type 0} (o : Option A) (P Q : Type 0) → IfNone o P → (P → Q) → IfNone o Q
none_then (Some x) P Q h f = tt
none_then None P Q h f = f h

pub none_is : {A : Type 0} (o : Option A) (P : Type 0) → ((x : A) → o ≡ Some x → ⊥) → IfNone o P → P
none_is (Some x) P n h = absurd (n x refl)
none_is None P n h = h

pub some_at : {A : Type 0} (o : Option A) (P : A → Type 0) (x : A) → IfSome o P → o ≡ Some x → P x
some_at o P x h e = let k : IfSome (Some x) P = subst (λ z. IfSome z P) e h in k

pub none_at : {A : Type 0} (o : Option A) (P : Type 0) → IfNone o P → o ≡ None → P
none_at {A} o P h e = let none : Option A = None in let k : IfNone none P = subst (λ z. IfNone z P) e h in k
