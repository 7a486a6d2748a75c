-- The paths of scopes: those one instance longer stand behind one another, in the order of the scopes.
use Rattle.std.proofs.Common.{ℕ, zero, suc, ◌≡◌, ◌+◌, ◌≤◌, ◌<◌, List, [], ◌∷◌, ◌++◌, length, map, take, drop, Option, Some, None, inl, inr, ⊎_elim, refl, sym, ap, subst, ◌∙◌, arith, append-nil, length-append}
use Rattle.std.specs.List.{slice_get, flat_map}
use Rattle.std.specs.Option.{option_map}
use Rattle.std.proofs.lemmas.Bool.{cases_lt}
use Rattle.std.proofs.lemmas.List.{append_assoc, take_more, take-append-drop, take_at, drop_at, take-map, drop-map, drop_all, length-map, length-drop}
use Rattle.std.proofs.lemmas.Option.{slice_get-map, slice_get_within, get_or_from_slice_get}
use Rattle.vlog_tree.specs.declared.module.Module.{Module}
use Rattle.vlog_tree_runs.specs.Places.{Name, Among}
use Rattle.vlog_tree_runs.specs.Contents.{Inner, instances_in}
use Rattle.vlog_tree_runs.specs.Scopes.{Scope, child, child_by, step, instance_at, scope_from, scope_at}
use Rattle.elab_flat_laws.proofs.Lists.{among_map, map_among, among_flat, flat_among, flat_append}
use Rattle.elab_flat_laws.proofs.Apart.{none_stays, instance_found}
use Rattle.elab_flat_laws.proofs.Listed.{one_more}
use Rattle.elab_flat_faults.specs.Handed.{longer, below}
use Rattle.elab_flat_instances.specs.Unfolding.{AreUnfolded, HasSoundInners}
use Rattle.elab_flat_instances.proofs.Children.{among_get}

longer_is : (q z : List Name) (o : Option Scope) → Among (longer q o) z → (x : Name) × (q ++ x ∷ [] ≡ z)
longer_is q z None h = absurd h
longer_is q z (Some s) h = let r = among_map (λ i. q ++ i.name ∷ []) (instances_in s.module') z h in (r.0.name, r.2)

-- ---- what stands at a place of two lists

pub got_left : {X : Type 0} (xs ys : List X) (k : ℕ) → k < length xs → slice_get (xs ++ ys) k ≡ slice_get xs k
got_left [] ys k lt = absurd (omega arith)
got_left (x ∷ xs) ys zero lt = refl
got_left (x ∷ xs) ys (suc k) lt = got_left xs ys k (omega arith)

pub got_within : {X : Type 0} (xs : List X) (k : ℕ) → k < length xs → (x : X) × (slice_get xs k ≡ Some x)
got_within [] k lt = absurd (omega arith)
got_within (x ∷ xs) zero lt = (x, refl)
got_within (x ∷ xs) (suc k) lt = got_within xs k (omega arith)

pub place_of_among : {X : Type 0} (xs : List X) (x : X) → Among xs x → (k : ℕ) × (slice_get xs k ≡ Some x)
place_of_among [] x a = absurd a
place_of_among (y ∷ ys) x a = ⊎_elim (λ e. (0, ap Some e)) (λ m. let r = place_of_among ys x m in (suc r.0, r.1)) a

module _ (ms : List Module) (top : Name) where
  -- paths that are all one instance longer than some of them are none
  long : (qs : List (List Name)) → qs ≡ flat_map (below ms top) qs → (n : ℕ) (q : List Name) → Among qs q → n ≤ length q
  long qs same zero q a = omega arith
  long qs same (suc n) q a =
      let r = among_flat (below ms top) qs q (subst (λ xs. Among xs q) same a) in
      let l = longer_is r.0 q (scope_at ms top r.0) r.2 in
      let shorter : n ≤ length r.0 = long qs same n r.0 r.1 in
      let counted : length (r.0 ++ l.0 ∷ []) ≡ length q = ap length l.1 in
      omega (arith, length-append r.0 (l.0 ∷ []), counted, shorter)

  endless : (qs : List (List Name)) → qs ≡ flat_map (below ms top) qs → (q : List Name) → Among qs q → ⊥
  endless qs same q a = let more : suc (length q) ≤ length q = long qs same (suc (length q)) q a in omega (arith, more)

  -- the paths of the first k scopes' instances, behind the top's
  abbrev pub known : List (List Name) → ℕ → List (List Name)
  known ps k = [] ∷ flat_map (below ms top) (take k ps)

  module _ (ss : List Scope) (u : AreUnfolded ms top ss) where
    split : (k : ℕ) → u.paths ≡ known u.paths k ++ flat_map (below ms top) (drop k u.paths)
    split k =
        u.in_order
        ∙ ap (λ ps. [] ∷ ps) (ap (flat_map (below ms top)) (sym (take-append-drop k u.paths)) ∙ flat_append (below ms top) (take k u.paths) (drop k u.paths))

    pub same_length : length ss ≡ length u.paths
    same_length = sym (length-map ss Some) ∙ (ap length u.lead ∙ length-map u.paths (scope_at ms top))

    pub path_at : (k : ℕ) (s : Scope) → slice_get ss k ≡ Some s → (path : List Name) × (slice_get u.paths k ≡ Some path) × (scope_at ms top path ≡ Some s)
    path_at k s e =
        by (slice_get u.paths k) refl (sym (slice_get-map (scope_at ms top) u.paths k) ∙ (ap (λ xs. slice_get xs k) (sym u.lead) ∙ (slice_get-map Some ss k ∙ ap (option_map Some) e)))
      where
        by : (o : Option (List Name)) → slice_get u.paths k ≡ o → option_map (scope_at ms top) o ≡ Some (Some s) → (path : List Name) × (slice_get u.paths k ≡ Some path) × (scope_at ms top path ≡ Some s)
        by None at h = cc
        by (Some path) at h = (path, at, cc)

    -- there is always a path of which the table is known
    pub ahead : (k : ℕ) → k < length u.paths → k ≤ length (known u.paths k) → k < length (known u.paths k)
    ahead k lt le =
        ⊎_elim (λ h. h)
        (λ ge. let exact : length (known u.paths k) ≡ k = omega (arith, le, ge) in
        let rest : drop k u.paths ≡ flat_map (below ms top) (drop k u.paths) = ap (drop k) (split k) ∙ drop_at (known u.paths k) (flat_map (below ms top) (drop k u.paths)) k exact in
        let some : 0 < length (drop k u.paths) = omega (arith, length-drop k u.paths, lt) in
        let first = got_within (drop k u.paths) 0 some in
        absurd (endless (drop k u.paths) rest first.0 (among_get (drop k u.paths) 0 first.0 first.1)))
        (cases_lt k (length (known u.paths k)))

    pub known_first : (k : ℕ) → k < length (known u.paths k) → slice_get (known u.paths k) k ≡ slice_get u.paths k
    known_first k lt = sym (got_left (known u.paths k) (flat_map (below ms top) (drop k u.paths)) k lt) ∙ ap (λ ps. slice_get ps k) (sym (split k))

    pub all_known : (k : ℕ) → length u.paths ≤ k → known u.paths k ≡ u.paths
    all_known k done =
        sym (append-nil (known u.paths k)) ∙ (ap (λ ps. known u.paths k ++ flat_map (below ms top) ps) (sym (drop_all k u.paths done)) ∙ sym (split k))

    module _ (k : ℕ) (s : Scope) (at : slice_get ss k ≡ Some s) where
      abbrev pub p : List Name
      p = (path_at k s at).0

      pub reached : scope_at ms top p ≡ Some s
      reached = (path_at k s at).2

      pub there : slice_get u.paths k ≡ Some p
      there = (path_at k s at).1

      pub sound : HasSoundInners ms s
      sound = u.sound s (among_get ss k s at)

      abbrev pub grown : Inner → List Name
      grown i = p ++ i.name ∷ []

      abbrev pub new : List (List Name)
      new = map grown (instances_in s.module')

      pub within : k < length u.paths
      within = slice_get_within u.paths k p there

      pub next_known : known u.paths (k + 1) ≡ known u.paths k ++ new
      next_known =
          ap (λ ps. [] ∷ ps)
          (ap (flat_map (below ms top)) (take_more u.paths k p within ∙ ap (λ z. take k u.paths ++ z ∷ []) (get_or_from_slice_get u.paths k p p there))
          ∙ (flat_append (below ms top) (take k u.paths) (p ∷ []) ∙ ap (λ z. flat_map (below ms top) (take k u.paths) ++ z) (append-nil (below ms top p) ∙ ap (longer p) reached)))

      pub behind : u.paths ≡ known u.paths k ++ (new ++ flat_map (below ms top) (drop (k + 1) u.paths))
      behind =
          split (k + 1)
          ∙ (ap (λ ps. ps ++ flat_map (below ms top) (drop (k + 1) u.paths)) next_known ∙ append_assoc (known u.paths k) new (flat_map (below ms top) (drop (k + 1) u.paths)))

      pub fits : length (known u.paths k) + length (instances_in s.module') ≤ length ss
      fits =
          omega (
            arith,
            same_length,
            ap length behind,
            length-append (known u.paths k) (new ++ flat_map (below ms top) (drop (k + 1) u.paths)),
            length-append new (flat_map (below ms top) (drop (k + 1) u.paths)),
            length-map (instances_in s.module') grown,
          )

      pub child_path : (i : Inner) → Among (instances_in s.module') i → scope_at ms top (grown i) ≡ child ms s i
      child_path i a =
          one_more ms (scope_at ms top []) p i.name ∙ (ap (λ o. step ms o i.name) reached ∙ ap (child_by ms s) (sound i a).found)

      children_at : (is : List Inner) → ((i : Inner) → Among is i → Among (instances_in s.module') i) → map (scope_at ms top) (map grown is) ≡ map (child ms s) is
      children_at [] all = refl
      children_at (i ∷ is) all = λ z. child_path i (all i (inl refl)) z ∷ children_at is (λ j a. all j (inr a)) z

      -- the scopes of its instances
      pub children_are : map Some (take (length (instances_in s.module')) (drop (length (known u.paths k)) ss)) ≡ map (child ms s) (instances_in s.module')
      children_are =
          let n = length (known u.paths k) in
          let m = length (instances_in s.module') in
          let rest = flat_map (below ms top) (drop (k + 1) u.paths) in
          sym (take-map Some m (drop n ss))
          ∙ (ap (take m) (sym (drop-map Some n ss) ∙ (ap (drop n) u.lead ∙ drop-map (scope_at ms top) n u.paths))
          ∙ (take-map (scope_at ms top) m (drop n u.paths)
          ∙ (ap (map (scope_at ms top)) (ap (take m) (ap (drop n) behind ∙ drop_at (known u.paths k) (new ++ rest) n refl) ∙ take_at new rest m (length-map (instances_in s.module') grown))
          ∙ children_at (instances_in s.module') (λ i a. a))))

    -- ---- each path that leads to a scope is one of theirs

    first_path : Among u.paths []
    first_path = subst (λ ps. Among ps []) (sym u.in_order) (inl refl)

    longer_path : (q : List Name) (s : Scope) (i : Inner) → Among u.paths q → scope_at ms top q ≡ Some s → Among (instances_in s.module') i → Among u.paths (q ++ i.name ∷ [])
    longer_path q s i m e among =
        subst (λ ps. Among ps (q ++ i.name ∷ [])) (sym u.in_order)
        (inr (flat_among (below ms top) u.paths q (q ++ i.name ∷ []) m (subst (λ o. Among (longer q o) (q ++ i.name ∷ [])) (sym e) (map_among (λ j. q ++ j.name ∷ []) (instances_in s.module') i among))))

    path_by : (b : List Name) (s : Scope) (x : Name) (rest : List Name) (t : Scope) → Among u.paths b → scope_at ms top b ≡ Some s →
        ((c : List Name) (v : Scope) → Among u.paths c → scope_at ms top c ≡ Some v → scope_from ms (Some v) rest ≡ Some t → Among u.paths (c ++ rest)) →
        (i : Option Inner) → instance_at (instances_in s.module') x ≡ i → (v : Option Scope) → child_by ms s i ≡ v → scope_from ms v rest ≡ Some t → Among u.paths (b ++ x ∷ rest)
    path_by b s x rest t m e next i found None is end = let z : None ≡ Some t = sym (none_stays ms rest) ∙ end in cc
    path_by b s x rest t m e next None found (Some v) is end = cc
    path_by b s x rest t m e next (Some i) found (Some v) is end =
        let f = instance_found (instances_in s.module') x i found in
        let at : scope_at ms top (b ++ i.name ∷ []) ≡ Some v =
        one_more ms (scope_at ms top []) b i.name ∙ (ap (λ o. step ms o i.name) e ∙ (ap (λ n. child_by ms s (instance_at (instances_in s.module') n)) f.1 ∙ (ap (child_by ms s) found ∙ is))) in
        let r = next (b ++ i.name ∷ []) v (longer_path b s i m e f.0) at end in
        subst (Among u.paths) (append_assoc b (i.name ∷ []) rest ∙ ap (λ n. b ++ n ∷ rest) f.1) r

    path_from : (rest : List Name) (b : List Name) (s t : Scope) → Among u.paths b → scope_at ms top b ≡ Some s → scope_from ms (Some s) rest ≡ Some t → Among u.paths (b ++ rest)
    path_from [] b s t m e end = subst (Among u.paths) (sym (append-nil b)) m
    path_from (x ∷ rest) b s t m e end =
        path_by b s x rest t m e (λ c v a k h. path_from rest c v t a k h) (instance_at (instances_in s.module') x) refl (step ms (Some s) x) refl end

    path_top : (o : Option Scope) → scope_at ms top [] ≡ o → (q : List Name) (t : Scope) → scope_from ms o q ≡ Some t → Among u.paths q
    path_top None e q t end = let z : None ≡ Some t = sym (none_stays ms q) ∙ end in cc
    path_top (Some s) e q t end = path_from q [] s t first_path e end

    pub path_known : (q : List Name) (t : Scope) → scope_at ms top q ≡ Some t → Among u.paths q
    path_known q t at = path_top (scope_at ms top []) refl q t at
