-- Scopes one after another, with their paths.
use Rattle.std.proofs.Common.{ℕ, zero, suc, ◌≡◌, ◌+◌, ◌≤◌, ◌<◌, List, [], ◌∷◌, ◌++◌, length, map, take, Option, Some, None, inl, inr, ⊎_elim, refl, sym, ap, subst, ◌∙◌, arith, append-nil}
use Rattle.std.specs.List.{slice_get, flat_map}
use Rattle.std.specs.Option.{option_map}
use Rattle.std.proofs.lemmas.List.{append_assoc, take_more, take_all, take-append-le, length-map}
use Rattle.std.proofs.lemmas.Option.{slice_get-map, slice_get_within, get_or_from_slice_get}
use Rattle.vlog_tree.specs.declared.module.Module.{Module}
use Rattle.vlog_tree_runs.specs.Places.{Name, Among}
use Rattle.vlog_tree_runs.specs.Contents.{Inner, instances_in}
use Rattle.vlog_tree_runs.specs.Scopes.{Scope, child, child_by, step, instance_at, scope_from, scope_at}
use Rattle.elab_flat_laws.specs.Flattened.{AreScopes}
use Rattle.elab_flat_laws.proofs.Lists.{among_append, among_map, map_among, among_flat, flat_among, map_append, flat_append}
use Rattle.elab_flat_laws.proofs.Apart.{none_stays, instance_found}
use Rattle.elab_flat_laws.proofs.Listed.{IsClosed, are_scopes, one_more}
use Rattle.elab_flat_faults.specs.FlatStands.{AreDistinct, HasMore}
use Rattle.elab_flat_faults.specs.Handed.{longer, below}
use Rattle.elab_flat_instances.specs.Unfolding.{AreChildren, IsSoundInner, HasSoundInners, AreUnfolded}
use Rattle.elab_flat_scopes.specs.Finding.{place_in}
use Rattle.elab_flat_instances.specs.Graph.{instance_names}

-- the scopes with their paths, of which the first k are unfolded: their instances are among them, and none is told twice
pub record IsUnfolding (ms : List Module) (top : Name) (ss : List Scope) (k : ℕ) : Type 0 where
  pub paths : List (List Name)
  pub scopes : map Some ss ≡ map (scope_at ms top) paths
  pub unfolded : paths ≡ [] ∷ flat_map (below ms top) (take k paths)
  pub distinct : AreDistinct paths
  pub sound : (s : Scope) → Among (take k ss) s → HasSoundInners ms s

-- ---- paths that are one instance longer

last_of : (p q : List Name) (x y : Name) → p ++ x ∷ [] ≡ q ++ y ∷ [] → (p ≡ q) × (x ≡ y)
last_of [] [] x y e = (refl, cc)
last_of [] (b ∷ []) x y e = cc
last_of [] (b ∷ c ∷ q) x y e = cc
last_of (a ∷ []) [] x y e = cc
last_of (a ∷ b ∷ p) [] x y e = cc
last_of (a ∷ p) (b ∷ q) x y e =
    let head : a ≡ b = cc in
    let tail : p ++ x ∷ [] ≡ q ++ y ∷ [] = cc in
    let r = last_of p q x y tail in
    ((λ k. head k ∷ r.0 k), r.1)

not_empty : (p : List Name) (x : Name) → p ++ x ∷ [] ≡ [] → ⊥
not_empty [] x e = cc
not_empty (a ∷ p) x e = cc

distinct_append : (xs ys : List (List Name)) → AreDistinct xs → AreDistinct ys → ((z : List Name) → Among xs z → Among ys z → ⊥) → AreDistinct (xs ++ ys)
distinct_append [] ys h k apart = k
distinct_append (x ∷ xs) ys h k apart =
    ((λ m. ⊎_elim (λ a. h.0 a) (λ b. apart x (inl refl) b) (among_append xs ys x m)), distinct_append xs ys h.1 k (λ z a b. apart z (inr a) b))

among_take : {X : Type 0} (xs : List X) (k : ℕ) (x : X) → Among (take k xs) x → Among xs x
among_take [] zero x h = h
among_take [] (suc k) x h = h
among_take (y ∷ ys) zero x h = absurd h
among_take (y ∷ ys) (suc k) x h = ⊎_elim (λ e. inl e) (λ m. inr (among_take ys k x m)) h

-- what stands at a place isn't among those before it
before_apart : (xs : List (List Name)) (k : ℕ) (x : List Name) → AreDistinct xs → slice_get xs k ≡ Some x → Among (take k xs) x → ⊥
before_apart [] zero x d e h = h
before_apart [] (suc k) x d e h = h
before_apart (y ∷ ys) zero x d e h = h
before_apart (y ∷ ys) (suc k) x d e h = ⊎_elim (λ s. d.0 (subst (Among ys) (sym s) (at ys k e))) (λ m. before_apart ys k x d.1 e m) h
  where
    at : (zs : List (List Name)) (k : ℕ) → slice_get zs k ≡ Some x → Among zs x
    at [] k e = cc
    at (z ∷ zs) zero e = let same : z ≡ x = cc in inl same
    at (z ∷ zs) (suc k) e = inr (at zs k e)

-- ---- different elements of a list are no more than its elements

abbrev without : (ys : List (List Name)) (y : List Name) → Among ys y → List (List Name)
without [] y m = []
without (z ∷ zs) y (inl e) = zs
without (z ∷ zs) y (inr m) = z ∷ without zs y m

shorter : (ys : List (List Name)) (y : List Name) (m : Among ys y) → suc (length (without ys y m)) ≡ length ys
shorter [] y m = absurd m
shorter (z ∷ zs) y (inl e) = refl
shorter (z ∷ zs) y (inr m) = ap suc (shorter zs y m)

still : (ys : List (List Name)) (y : List Name) (m : Among ys y) (x : List Name) → Among ys x → (x ≡ y → ⊥) → Among (without ys y m) x
still [] y m x h ne = absurd m
still (z ∷ zs) y (inl e) x (inl f) ne = absurd (ne (sym f ∙ e))
still (z ∷ zs) y (inl e) x (inr a) ne = a
still (z ∷ zs) y (inr m) x (inl f) ne = inl f
still (z ∷ zs) y (inr m) x (inr a) ne = inr (still zs y m x a ne)

at_most : (xs ys : List (List Name)) → AreDistinct xs → ((x : List Name) → Among xs x → Among ys x) → length xs ≤ length ys
at_most [] ys d h = omega arith
at_most (x ∷ xs) ys d h =
    let m = h x (inl refl) in
    let r = at_most xs (without ys x m) d.1 (λ z a. still ys x m z (h z (inr a)) (λ e. d.0 (subst (Among xs) e a))) in
    let s = shorter ys x m in
    omega arith

-- ---- one scope's instances

module _ (ms : List Module) (top : Name) (path : List Name) (s : Scope) (at : scope_at ms top path ≡ Some s) where
  abbrev grown : Inner → List Name
  grown i = path ++ i.name ∷ []

  pub child_at : (i : Inner) (t : Scope) → instance_at (instances_in s.module') i.name ≡ Some i → child ms s i ≡ Some t → scope_at ms top (grown i) ≡ Some t
  child_at i t found is = one_more ms (scope_at ms top []) path i.name ∙ (ap (λ o. step ms o i.name) at ∙ (ap (child_by ms s) found ∙ is))

  pub new_scopes : (k : ℕ) (is : List Inner) (ts : List Scope) → AreChildren ms s k is ts → map Some ts ≡ map (scope_at ms top) (map grown is)
  new_scopes k [] [] h = refl
  new_scopes k (i ∷ is) (t ∷ ts) h =
      let head : Some t ≡ scope_at ms top (grown i) = sym (child_at i t h.1 h.2.child_is) in
      let tail = new_scopes (suc k) is ts h.3 in
      λ z. head z ∷ tail z
  new_scopes k [] (t ∷ ts) h = absurd h
  new_scopes k (i ∷ is) [] h = absurd h

  later_place : (k : ℕ) (is : List Inner) (ts : List Scope) (x : Name) → AreChildren ms s k is ts → Among (map grown is) (path ++ x ∷ []) → (j : ℕ) × (k ≤ j) × (place_in (instance_names s.module') x ≡ Some j)
  later_place k [] ts x h m = absurd m
  later_place k (i ∷ is) [] x h m = absurd h
  later_place k (i ∷ is) (t ∷ ts) x h m =
      ⊎_elim (λ e. (k, omega arith, ap (place_in (instance_names s.module')) (sym (last_of path path i.name x e).1) ∙ h.0))
      (λ a. let r = later_place (suc k) is ts x h.3 a in let le : suc k ≤ r.0 = r.1 in (r.0, omega arith, r.2)) m

  pub new_distinct : (k : ℕ) (is : List Inner) (ts : List Scope) → AreChildren ms s k is ts → AreDistinct (map grown is)
  new_distinct k [] ts h = tt
  new_distinct k (i ∷ is) [] h = absurd h
  new_distinct k (i ∷ is) (t ∷ ts) h = (
    λ m. let r = later_place (suc k) is ts i.name h.3 m in
        let z : Some k ≡ Some r.0 = sym h.0 ∙ r.2 in
        let same : k ≡ r.0 = cc in
        let le : suc k ≤ r.0 = r.1 in absurd (omega arith),
    new_distinct (suc k) is ts h.3,
  )

  pub sound_inner : (k : ℕ) (is : List Inner) (ts : List Scope) → AreChildren ms s k is ts → (i : Inner) → Among is i → IsSoundInner ms s i
  sound_inner k [] ts h i m = absurd m
  sound_inner k (j ∷ is) [] h i m = absurd h
  sound_inner k (j ∷ is) (t ∷ ts) h i m =
      ⊎_elim (λ e. subst (IsSoundInner ms s) e (record { found = h.1; scope = t; is_child = h.2 })) (λ a. sound_inner (suc k) is ts h.3 i a) m

-- ---- the list of scopes

module _ (ms : List Module) (top : Name) where
  some_at : (o : Option (List Name)) (s : Scope) → option_map (scope_at ms top) o ≡ Some (Some s) → (path : List Name) × (o ≡ Some path) × (scope_at ms top path ≡ Some s)
  some_at None s e = cc
  some_at (Some path) s e = (path, refl, cc)

  module _ (ss : List Scope) (k : ℕ) (u : IsUnfolding ms top ss k) where
    pub path_at : (j : ℕ) (s : Scope) → slice_get ss j ≡ Some s → (path : List Name) × (slice_get u.paths j ≡ Some path) × (scope_at ms top path ≡ Some s)
    path_at j s e =
        some_at (slice_get u.paths j) s
        (sym (slice_get-map (scope_at ms top) u.paths j) ∙ (ap (λ xs. slice_get xs j) (sym u.scopes) ∙ (slice_get-map Some ss j ∙ ap (option_map Some) e)))

    module _ (s : Scope) (at : slice_get ss k ≡ Some s) (ts : List Scope) (made : AreChildren ms s 0 (instances_in s.module') ts) where
      abbrev p : List Name
      p = (path_at k s at).0

      reached : scope_at ms top p ≡ Some s
      reached = (path_at k s at).2

      abbrev new : List (List Name)
      new = map (λ i. p ++ i.name ∷ []) (instances_in s.module')

      new_below : below ms top p ≡ new
      new_below = ap (longer p) reached

      apart : (z : List Name) → Among u.paths z → Among new z → ⊥
      apart z old fresh =
          let n = among_map (λ i. p ++ i.name ∷ []) (instances_in s.module') z fresh in
          ⊎_elim (λ e. not_empty p n.0.name (n.2 ∙ sym e))
          (λ m. let q = among_flat (below ms top) (take k u.paths) z m in not_before q.0 q.1 (longer_at q.0 z (scope_at ms top q.0) q.2) n.0.name n.2)
          (subst (λ xs. Among xs z) u.unfolded old)
        where
          longer_at : (q z : List Name) (o : Option Scope) → Among (longer q o) z → (x : Name) × (q ++ x ∷ [] ≡ z)
          longer_at q z None h = absurd h
          longer_at q z (Some t) h = let r = among_map (λ i. q ++ i.name ∷ []) (instances_in t.module') z h in (r.0.name, r.2)

          not_before : (q : List Name) → Among (take k u.paths) q → (x : Name) × (q ++ x ∷ [] ≡ z) → (y : Name) → p ++ y ∷ [] ≡ z → ⊥
          not_before q early g y e =
              let same : q ≡ p = (last_of q p g.0 y (g.1 ∙ sym e)).0 in
              before_apart u.paths k p u.distinct (path_at k s at).1 (subst (Among (take k u.paths)) same early)

      pub more_distinct : AreDistinct (u.paths ++ new)
      more_distinct = distinct_append u.paths new u.distinct (new_distinct ms top p s reached 0 (instances_in s.module') ts made) apart

      pub more_scopes : map Some (ss ++ ts) ≡ map (scope_at ms top) (u.paths ++ new)
      more_scopes =
          let fresh = new_scopes ms top p s reached 0 (instances_in s.module') ts made in
          map_append Some ss ts ∙ ((λ z. u.scopes z ++ fresh z) ∙ sym (map_append (scope_at ms top) u.paths new))

      one_more_taken : {X : Type 0} (xs ys : List X) (x : X) → slice_get xs k ≡ Some x → take (k + 1) (xs ++ ys) ≡ take k xs ++ x ∷ []
      one_more_taken xs ys x e =
          let lt : k < length xs = slice_get_within xs k x e in
          let le : k + 1 ≤ length xs = omega arith in
          take-append-le (k + 1) xs ys le ∙ (take_more xs k x lt ∙ ap (λ z. take k xs ++ z ∷ []) (get_or_from_slice_get xs k x x e))

      pub unfold_next : IsUnfolding ms top (ss ++ ts) (k + 1)
      unfold_next = record {
        paths = u.paths ++ new;
        scopes = more_scopes;
        unfolded =
            let kids : flat_map (below ms top) (take (k + 1) (u.paths ++ new)) ≡ flat_map (below ms top) (take k u.paths) ++ new =
            ap (flat_map (below ms top)) (one_more_taken u.paths new p (path_at k s at).1)
            ∙ (flat_append (below ms top) (take k u.paths) (p ∷ []) ∙ ap (λ z. flat_map (below ms top) (take k u.paths) ++ z) (append-nil (below ms top p) ∙ new_below)) in
            ap (λ ps. ps ++ new) u.unfolded ∙ ap (λ z. [] ∷ z) (sym kids);
        distinct = more_distinct;
        sound = λ x h.
            ⊎_elim (λ a. u.sound x a) (λ b. ⊎_elim (λ e. subst (HasSoundInners ms) e (sound_inner ms top p s reached 0 (instances_in s.module') ts made)) (λ z. absurd z) b)
            (among_append (take k ss) (s ∷ []) x (subst (λ xs. Among xs x) (one_more_taken ss ts s at) h));
      }

      leads : (q : List Name) → Among (u.paths ++ new) q → (t : Scope) × (scope_at ms top q ≡ Some t)
      leads q m =
          let r = among_map Some (ss ++ ts) (scope_at ms top q) (subst (λ xs. Among xs (scope_at ms top q)) (sym more_scopes) (map_among (scope_at ms top) (u.paths ++ new) q m)) in
          (r.0, sym r.2)

      -- they are too many
      pub too_many : (n : ℕ) → n < length (ss ++ ts) → HasMore ms top n
      too_many n more =
          let same : length (ss ++ ts) ≡ length (u.paths ++ new) = sym (length-map (ss ++ ts) Some) ∙ (ap length more_scopes ∙ length-map (u.paths ++ new) (scope_at ms top)) in
          (u.paths ++ new, more_distinct, subst (λ z. n < z) same more, leads)

  pub unfold_top : (s : Scope) → scope_at ms top [] ≡ Some s → IsUnfolding ms top (s ∷ []) 0
  unfold_top s at = record {
    paths = [] ∷ [];
    scopes = λ z. sym at z ∷ [];
    unfolded = refl;
    distinct = ((λ h. h), tt);
    sound = λ x h. absurd h;
  }

  -- ---- all of them

  module _ (ss : List Scope) (k : ℕ) (u : IsUnfolding ms top ss k) (done : length ss ≤ k) where
    same_length : length ss ≡ length u.paths
    same_length = sym (length-map ss Some) ∙ (ap length u.scopes ∙ length-map u.paths (scope_at ms top))

    all_unfolded : u.paths ≡ [] ∷ flat_map (below ms top) u.paths
    all_unfolded = let most : length u.paths ≤ k = omega (arith, same_length) in u.unfolded ∙ ap (λ ps. [] ∷ flat_map (below ms top) ps) (take_all k u.paths most)

    sound_all : (s : Scope) → Among ss s → HasSoundInners ms s
    sound_all s h = u.sound s (subst (λ xs. Among xs s) (sym (take_all k ss done)) h)

    listed : (q : List Name) (s : Scope) → Among u.paths q → scope_at ms top q ≡ Some s → Among ss s
    listed q s m e =
        let r = among_map Some ss (Some s) (subst (λ xs. Among xs (Some s)) (sym u.scopes) (subst (Among (map (scope_at ms top) u.paths)) e (map_among (scope_at ms top) u.paths q m))) in
        let same : r.0 ≡ s = cc in
        subst (Among ss) same r.1

    has_path : (s : Scope) → Among ss s → (q : List Name) × Among u.paths q × (scope_at ms top q ≡ Some s)
    has_path s h = among_map (scope_at ms top) u.paths (Some s) (subst (λ xs. Among xs (Some s)) u.scopes (map_among Some ss s h))

    first_path : Among u.paths []
    first_path = subst (λ ps. Among ps []) (sym all_unfolded) (inl refl)

    longer_path : (q : List Name) (s : Scope) (i : Inner) → Among u.paths q → scope_at ms top q ≡ Some s → Among (instances_in s.module') i → Among u.paths (q ++ i.name ∷ [])
    longer_path q s i m e among =
        subst (λ ps. Among ps (q ++ i.name ∷ [])) (sym all_unfolded)
        (inr (flat_among (below ms top) u.paths q (q ++ i.name ∷ []) m (subst (λ o. Among (longer q o) (q ++ i.name ∷ [])) (sym e) (map_among (λ j. q ++ j.name ∷ []) (instances_in s.module') i among))))

    closed : IsClosed ms ss
    closed s t i h among is =
        let q = has_path s h in
        let inner = sound_all s h i among in
        listed (q.0 ++ i.name ∷ []) t (longer_path q.0 s i q.1 q.2 among) (child_at ms top q.0 s q.2 i t inner.found is)

    pub scopes_are : AreScopes ms top ss
    scopes_are = are_scopes ms top ss (λ s e. listed [] s first_path e) closed (λ s h. let q = has_path s h in (q.0, q.2))

    pub are_unfolded : AreUnfolded ms top ss
    are_unfolded = record {
      scopes = scopes_are;
      sound = sound_all;
      paths = u.paths;
      lead = u.scopes;
      in_order = all_unfolded;
      distinct = u.distinct;
    }

    -- each path that leads to a scope is one of theirs
    path_by : (b : List Name) (s : Scope) (x : Name) (rest : List Name) (t : Scope) → Among u.paths b → scope_at ms top b ≡ Some s →
        ((c : List Name) (v : Scope) → Among u.paths c → scope_at ms top c ≡ Some v → scope_from ms (Some v) rest ≡ Some t → Among u.paths (c ++ rest)) →
        (i : Option Inner) → instance_at (instances_in s.module') x ≡ i → (v : Option Scope) → child_by ms s i ≡ v → scope_from ms v rest ≡ Some t → Among u.paths (b ++ x ∷ rest)
    path_by b s x rest t m e next i found None is end = let z : None ≡ Some t = sym (none_stays ms rest) ∙ end in cc
    path_by b s x rest t m e next None found (Some v) is end = cc
    path_by b s x rest t m e next (Some i) found (Some v) is end =
        let f = instance_found (instances_in s.module') x i found in
        let again : instance_at (instances_in s.module') i.name ≡ Some i = ap (instance_at (instances_in s.module')) f.1 ∙ found in
        let r = next (b ++ i.name ∷ []) v (longer_path b s i m e f.0) (child_at ms top b s e i v again is) end in
        subst (Among u.paths) (append_assoc b (i.name ∷ []) rest ∙ ap (λ n. b ++ n ∷ rest) f.1) r

    path_from : (rest : List Name) (b : List Name) (s t : Scope) → Among u.paths b → scope_at ms top b ≡ Some s → scope_from ms (Some s) rest ≡ Some t → Among u.paths (b ++ rest)
    path_from [] b s t m e end = subst (Among u.paths) (sym (append-nil b)) m
    path_from (x ∷ rest) b s t m e end =
        path_by b s x rest t m e (λ c v a k h. path_from rest c v t a k h) (instance_at (instances_in s.module') x) refl (step ms (Some s) x) refl end

    path_top : (o : Option Scope) → scope_at ms top [] ≡ o → (q : List Name) (t : Scope) → scope_from ms o q ≡ Some t → Among u.paths q
    path_top None e q t end = let z : None ≡ Some t = sym (none_stays ms q) ∙ end in cc
    path_top (Some s) e q t end = path_from q [] s t first_path e end

    pub not_more : (n : ℕ) → length ss ≤ n → HasMore ms top n → ⊥
    not_more n few h =
        let most : length h.0 ≤ length u.paths = at_most h.0 u.paths h.1 (λ q m. let r = h.3 q m in path_top (scope_at ms top []) refl q r.0 r.1) in
        let more = h.2 in
        omega (arith, same_length, more)
