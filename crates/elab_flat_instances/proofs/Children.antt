-- The instances of a scope, one after another.
use Rattle.std.proofs.Common.{ℕ, zero, suc, ◌≡◌, ◌+◌, ◌<◌, Bool, true, false, List, [], ◌∷◌, ◌++◌, length, map, take, get_or, Some, inl, inr, ⊎_elim, refl, sym, ap, subst, ◌∙◌, arith, add-zero, length-take}
use Rattle.std.specs.Prelude.{IsTrue, ◌↔◌}
use Rattle.std.specs.List.{slice_get}
use Rattle.std.specs.Str.{bytes_eq}
use Rattle.std.proofs.lemmas.Bool.{cases_Bool}
use Rattle.std.proofs.lemmas.Slice.Eq.{bytes_eq-Decides}
use Rattle.std.proofs.lemmas.Option.{slice_get_read, slice_get-map}
use Rattle.std.specs.Option.{option_map}
use Rattle.std.proofs.lemmas.List.{take_more, length-map}
use Rattle.vlog_tree.specs.declared.module.Module.{Module}
use Rattle.vlog_tree_runs.specs.Places.{Name, Among}
use Rattle.vlog_tree_runs.specs.Contents.{Inner, instances_in, params_in, signals_in}
use Rattle.vlog_tree_runs.specs.Scopes.{Scope, child, instance_at}
use Rattle.elab_flat_laws.proofs.Lists.{append_left, map_append}
use Rattle.elab_flat_faults.specs.declared.flattening.FlatFault.{FlatFault}
use Rattle.elab_flat_faults.specs.declared.flattening.FlatFault.TheVariants as f
use Rattle.elab_flat_faults.specs.Declaring.{Repeats}
use Rattle.elab_flat_faults.specs.FlatStands.{Refuses}
use Rattle.elab_flat_scopes.specs.declared.inner.Inner.{Inner as View}
use Rattle.elab_flat_scopes.specs.Borrowed.{inner_meant}
use Rattle.elab_flat_scopes.specs.Finding.{place_from, place_in}
use Rattle.elab_flat_instances.specs.Graph.{inner_name, instance_names}
use Rattle.elab_flat_instances.specs.Unfolding.{StandsIn, StandsNear, StandsBelow, IsChild, AreChildren}
use Rattle.elab_flat_instances.proofs.Places.{instance_placed}

-- a name that stands at a place and isn't first there stands twice
pub repeats_at : (from : ℕ) (xs : List Name) (x : Name) (at : ℕ) → slice_get xs at ≡ Some x → (place_from from xs x ≡ Some (from + at) → ⊥) → Repeats xs x
repeats_at from [] x at e no' = cc
repeats_at from (y ∷ ys) x zero e no' =
    let same : y ≡ x = cc in
    absurd (no' (rw ((bytes_eq-Decides y x).1 same) (ap Some (omega arith))))
repeats_at from (y ∷ ys) x (suc k) e no' = elim (cases_Bool (bytes_eq y x)) [
  | inl t ↦ inl ((bytes_eq-Decides y x).0 t, among_at ys k e)
  | inr n ↦ inr (repeats_at (suc from) ys x k e (λ h. no' (rw n (h ∙ ap Some (omega arith)))))
]
  where
    among_at : (zs : List Name) (k : ℕ) → slice_get zs k ≡ Some x → Among zs x
    among_at [] k e = cc
    among_at (z ∷ zs) zero e = let same : z ≡ x = cc in inl same
    among_at (z ∷ zs) (suc k) e = inr (among_at zs k e)

repeats_left : (xs ys : List Name) (x : Name) → Repeats xs x → Repeats (xs ++ ys) x
repeats_left [] ys x h = absurd h
repeats_left (z ∷ xs) ys x h = ⊎_elim (λ p. inl (p.0, append_left xs ys x p.1)) (λ r. inr (repeats_left xs ys x r)) h

repeats_right : (xs ys : List Name) (x : Name) → Repeats ys x → Repeats (xs ++ ys) x
repeats_right [] ys x h = h
repeats_right (z ∷ xs) ys x h = inr (repeats_right xs ys x h)

pub twice : (ms : List Module) (s : Scope) (x : Name) → Repeats (map (λ i. i.name) (instances_in s.module')) x → StandsIn ms s (f.Twice (s.prefix ++ x))
twice ms s x h = λ path. inl (
  x,
  inr (inl (repeats_left (map (λ p. p.name) (params_in s.module') ++ map (λ i. i.name) (instances_in s.module')) (map (λ d. d.name) (signals_in s.module')) x
      (repeats_right (map (λ p. p.name) (params_in s.module')) (map (λ i. i.name) (instances_in s.module')) x h))),
  refl,
)

module _ (ms : List Module) (s : Scope) where
  -- one instance more
  pub children_more : (k : ℕ) (is : List Inner) (ts : List Scope) (i : Inner) (t : Scope) → AreChildren ms s k is ts → place_in (instance_names s.module') i.name ≡ Some (k + length is) →
      instance_at (instances_in s.module') i.name ≡ Some i → IsChild ms s i t → AreChildren ms s k (is ++ i ∷ []) (ts ++ t ∷ [])
  children_more k [] [] i t h first found is = (first ∙ ap Some (add-zero k), found, is, tt)
  children_more k (j ∷ js) (u ∷ us) i t h first found is =
      let far : k + suc (length js) ≡ suc k + length js = omega arith in
      (h.0, h.1, h.2, children_more (suc k) js us i t h.3 (first ∙ ap Some far) found is)
  children_more k [] (u ∷ us) i t h first found is = absurd h
  children_more k (j ∷ js) [] i t h first found is = absurd h

  pub below_of : (i : Inner) → instance_at (instances_in s.module') i.name ≡ Some i → (fault : FlatFault) → StandsNear ms s i fault → StandsBelow ms s fault
  below_of i found fault h = ⊎_elim (λ a. inl a) (λ b. inr (i, found, b.0, b.1, b.2)) h

-- a refusal of one kind is one of a wider kind
pub refuses_map : (P Q : FlatFault → Type 0) → ((fault : FlatFault) → P fault → Q fault) → (fault : FlatFault) → Refuses P fault → Refuses Q fault
refuses_map P Q g f.NoTop h = g f.NoTop h
refuses_map P Q g (f.Unknown n) h = g (f.Unknown n) h
refuses_map P Q g (f.Twice n) h = g (f.Twice n) h
refuses_map P Q g (f.Port n) h = g (f.Port n) h
refuses_map P Q g (f.Recursion n) h = g (f.Recursion n) h
refuses_map P Q g f.Instances h = g f.Instances h
refuses_map P Q g (f.Constant n) h = g (f.Constant n) h
refuses_map P Q g (f.Width n) h = g (f.Width n) h
refuses_map P Q g (f.Clock n) h = g (f.Clock n) h
refuses_map P Q g f.Memory h = tt

pub among_get : {X : Type 0} (xs : List X) (k : ℕ) (x : X) → slice_get xs k ≡ Some x → Among xs x
among_get [] k x e = cc
among_get (z ∷ zs) zero x e = let same : z ≡ x = cc in inl same
among_get (z ∷ zs) (suc k) x e = inr (among_get zs k x e)

module _ (ms : List Module) (s : Scope) (views : List View) (k : ℕ) (v : View) (lt : k < length views) (is : v ≡ get_or views k v) (all : map inner_meant views ≡ instances_in s.module')
    (names : List Name) (named : names ≡ map inner_name (map inner_meant views)) where
  abbrev i : Inner
  i = inner_meant v

  at_k : slice_get (instances_in s.module') k ≡ Some i
  at_k = ap (λ js. slice_get js k) (sym all) ∙ (slice_get-map inner_meant views k ∙ ap (option_map inner_meant) (slice_get_read views (length views) k v refl lt is))

  pub among_here : Among (instances_in s.module') i
  among_here = among_get (instances_in s.module') k i at_k

  names_are : names ≡ instance_names s.module'
  names_are = named ∙ ap (map inner_name) all

  pub found_here : place_in names i.name ≡ Some k → instance_at (instances_in s.module') i.name ≡ Some i
  found_here e = instance_placed (instances_in s.module') i k (ap (λ ns. place_in ns i.name) (sym names_are) ∙ e) at_k

  pub twice_here : (place_in names i.name ≡ Some k → ⊥) → StandsBelow ms s (f.Twice (s.prefix ++ i.name))
  twice_here not_first =
      let at_name : slice_get (instance_names s.module') k ≡ Some i.name = slice_get-map inner_name (instances_in s.module') k ∙ ap (option_map inner_name) at_k in
      inl (twice ms s i.name (repeats_at 0 (instance_names s.module') i.name k at_name (λ h. not_first (ap (λ ns. place_in ns i.name) names_are ∙ (h ∙ ap Some (omega arith))))))

  pub next_made : (ts ts' : List Scope) (t : Scope) → AreChildren ms s 0 (map inner_meant (take k views)) ts → place_in names i.name ≡ Some k → IsChild ms s i t → ts' ≡ ts ++ t ∷ [] →
      AreChildren ms s 0 (map inner_meant (take (k + 1) views)) ts'
  next_made ts ts' t made first child grown =
      let long : k ≡ 0 + length (map inner_meant (take k views)) = omega (arith, length-map (take k views) inner_meant, length-take k views) in
      let more : map inner_meant (take (k + 1) views) ≡ map inner_meant (take k views) ++ i ∷ [] =
      ap (map inner_meant) (take_more views k v lt ∙ ap (λ z. take k views ++ z ∷ []) (sym is)) ∙ map_append inner_meant (take k views) (v ∷ []) in
      subst (λ js. AreChildren ms s 0 js ts') (sym more) (subst (AreChildren ms s 0 (map inner_meant (take k views) ++ i ∷ [])) (sym grown)
      (children_more ms s 0 (map inner_meant (take k views)) ts i t made (ap (λ ns. place_in ns i.name) (sym names_are) ∙ (first ∙ ap Some long)) (found_here first) child))

-- what the test of a first place says
pub first_of : (names : List Name) (bytes name : Name) (at k : ℕ) (r : Bool) → (IsTrue r ↔ (place_in names bytes ≡ Some at)) → bytes ≡ name → at ≡ k → r ≡ true → place_in names name ≡ Some k
first_of names bytes name at k r is same there yes' = ap (place_in names) (sym same) ∙ (is.0 yes' ∙ ap Some there)

pub not_first_of : (names : List Name) (bytes name : Name) (at k : ℕ) (r : Bool) → (IsTrue r ↔ (place_in names bytes ≡ Some at)) → bytes ≡ name → at ≡ k → r ≡ false → place_in names name ≡ Some k → ⊥
not_first_of names bytes name at k r is same there never e =
    let z : true ≡ false = sym (is.1 (ap (place_in names) same ∙ (e ∙ ap Some (sym there)))) ∙ never in cc
