-- The scopes of the instances of each scope, cut out of the list of all scopes.
use Rattle.std.proofs.Common.{ℕ, zero, suc, ◌≡◌, ◌+◌, ◌-◌, ◌<◌, ◌≤◌, List, [], ◌∷◌, ◌++◌, length, map, take, drop, get_or, slice_range, add-one, Some, refl, sym, ap, ◌∙◌, arith, length-append}
use Rattle.std.specs.List.{flat_map}
use Rattle.std.proofs.lemmas.List.{append_assoc, length-map, length-drop, length-take-le}
use Rattle.vlog_tree.specs.declared.item.Assign.{Assign}
use Rattle.vlog_tree.specs.declared.module.Module.{Module}
use Rattle.vlog_tree_runs.specs.Contents.{assigns_in, instances_in}
use Rattle.vlog_tree_runs.specs.Scopes.{Scope, place_of, child, connections, own_link, inner_links}
use Rattle.elab_flat_laws.specs.Flattened.{moved_link, flat_assigns}
use Rattle.elab_flat_laws.proofs.Lists.{map_append}
use Rattle.elab_flat_scopes.specs.declared.inner.Inner.{Inner as View}
use Rattle.elab_flat_scopes.specs.Borrowed.{inner_meant}
use Rattle.elab_flat_scopes.proofs.Finding.{cut}
use Rattle.elab_flat_instances.specs.declared.scope.Scope.{Scope as Instance}
use Rattle.elab_flat_instances.specs.Unfolding.{scope_meant}
use Rattle.elab_flat.specs.Following.{inner_scopes, AreFollowed}
use Rattle.elab_flat.proofs.Making.{next_parts}

-- a list whose images stand before others, cut there
split_maps : {X Y Z : Type 0} (f : X → Y) (g : Y → Z) (xs : List X) (ys zs : List Z) → map g (map f xs) ≡ ys ++ zs →
    (map g (map f (take (length ys) xs)) ≡ ys) × (map g (map f (drop (length ys) xs)) ≡ zs)
split_maps f g xs [] zs e = (refl, e)
split_maps f g [] (y ∷ ys) zs e = cc
split_maps f g (x ∷ xs) (y ∷ ys) zs e =
    let head : g (f x) ≡ y = cc in
    let tail : map g (map f xs) ≡ ys ++ zs = cc in
    let r = split_maps f g xs ys zs tail in
    ((λ i. head i ∷ r.0 i), r.1)

abbrev nothing : {X : Type 0} → List X
nothing = []

drop_nil : {X : Type 0} (n : ℕ) → drop n (nothing {X = X}) ≡ nothing
drop_nil zero = refl
drop_nil (suc n) = refl

drop_twice : {X : Type 0} (xs : List X) (i j : ℕ) → drop j (drop i xs) ≡ drop (i + j) xs
drop_twice xs zero j = let e : j ≡ 0 + j = omega arith in ap (λ k. drop k xs) e
drop_twice [] (suc i) j = drop_nil j ∙ sym (drop_nil (suc i + j))
drop_twice (x ∷ xs) (suc i) j = let e : suc (i + j) ≡ suc i + j = omega arith in drop_twice xs i j ∙ ap (λ k. drop k (x ∷ xs)) e

-- ---- the instances of one scope

module _ (s : Scope) (instances : List View) (inners : List Instance) (k : ℕ) (v : View) (t : Instance) (lt : k < length instances) (is : v ≡ get_or instances k v) (within : k < length inners)
    (at : t ≡ get_or inners k t) (ms : List Module)
    (rest : map Some (map scope_meant (drop k inners)) ≡ map (child ms s) (map inner_meant (drop k instances))) where
  both : Some (scope_meant t) ∷ map Some (map scope_meant (drop (suc k) inners)) ≡ child ms s (inner_meant v) ∷ map (child ms s) (map inner_meant (drop (suc k) instances))
  both =
      sym (ap (λ xs. map Some (map scope_meant xs)) (cut inners k t within at))
      ∙ (rest ∙ ap (λ xs. map (child ms s) (map inner_meant xs)) (cut instances k v lt is))

  pub here_child : Some (scope_meant t) ≡ child ms s (inner_meant v)
  here_child = let e = both in cc

  pub rest_child : map Some (map scope_meant (drop (k + 1) inners)) ≡ map (child ms s) (map inner_meant (drop (k + 1) instances))
  rest_child = rw add-one (let e = both in cc)

  pub next_links : (all whole new : List Assign) → all ++ map moved_link (flat_map (inner_links ms s) (map inner_meant (drop k instances))) ≡ whole →
      new ≡ all ++ map moved_link (connections (place_of s) (inner_meant v) (Some (scope_meant t))) →
      new ++ map moved_link (flat_map (inner_links ms s) (map inner_meant (drop (k + 1) instances))) ≡ whole
  next_links all whole new inv put =
      next_parts (λ xs. map moved_link (flat_map (inner_links ms s) (map inner_meant xs))) (λ x. map moved_link (inner_links ms s (inner_meant x)))
      (λ x xs. map_append moved_link (inner_links ms s (inner_meant x)) (flat_map (inner_links ms s) (map inner_meant xs))) instances k v lt is all whole new inv
      (put ∙ ap (λ o. all ++ map moved_link (connections (place_of s) (inner_meant v) o)) here_child)

-- ---- all scopes

module _ (scopes : List Instance) (k next : ℕ) (x : Instance) (lt : k < length scopes) (is : x ≡ get_or scopes k x) (ms : List Module)
    (follow : map Some (map scope_meant (drop next scopes)) ≡ flat_map (inner_scopes ms) (map scope_meant (drop k scopes))) where
  abbrev s : Scope
  s = scope_meant x

  abbrev count : ℕ
  count = length (inner_scopes ms s)

  parts : map Some (map scope_meant (drop next scopes)) ≡ inner_scopes ms s ++ flat_map (inner_scopes ms) (map scope_meant (drop (suc k) scopes))
  parts = follow ∙ ap (λ xs. flat_map (inner_scopes ms) (map scope_meant xs)) (cut scopes k x lt is)

  pub many : count ≡ length (instances_in s.module')
  many = length-map (instances_in s.module') (child ms s)

  pub enough : count ≤ length (drop next scopes)
  enough =
      omega (
        arith,
        ap length parts,
        length-append (inner_scopes ms s) (flat_map (inner_scopes ms) (map scope_meant (drop (suc k) scopes))),
        length-map (map scope_meant (drop next scopes)) Some,
        length-map (drop next scopes) scope_meant,
      )

  pub these : map Some (map scope_meant (take count (drop next scopes))) ≡ inner_scopes ms s
  these = (split_maps scope_meant Some (drop next scopes) (inner_scopes ms s) (flat_map (inner_scopes ms) (map scope_meant (drop (suc k) scopes))) parts).0

  pub those : map Some (map scope_meant (drop (next + count) scopes)) ≡ flat_map (inner_scopes ms) (map scope_meant (drop (k + 1) scopes))
  those =
      rw add-one
      (sym (ap (λ xs. map Some (map scope_meant xs)) (drop_twice scopes next count))
      ∙ (split_maps scope_meant Some (drop next scopes) (inner_scopes ms s) (flat_map (inner_scopes ms) (map scope_meant (drop (suc k) scopes))) parts).1)

  pub next_assigns : (all whole own new : List Assign) → all ++ flat_map (flat_assigns ms) (map scope_meant (drop k scopes)) ≡ whole →
      own ≡ all ++ map moved_link (map (own_link (place_of s)) (assigns_in s.module')) → new ≡ own ++ map moved_link (flat_map (inner_links ms s) (instances_in s.module')) →
      new ++ flat_map (flat_assigns ms) (map scope_meant (drop (k + 1) scopes)) ≡ whole
  next_assigns all whole own new inv first then =
      next_parts (λ xs. flat_map (flat_assigns ms) (map scope_meant xs)) (λ z. flat_assigns ms (scope_meant z)) (λ z xs. refl) scopes k x lt is all whole new inv
      (then
      ∙ (ap (λ ys. ys ++ map moved_link (flat_map (inner_links ms s) (instances_in s.module'))) first
      ∙ (append_assoc all (map moved_link (map (own_link (place_of s)) (assigns_in s.module'))) (map moved_link (flat_map (inner_links ms s) (instances_in s.module')))
      ∙ ap (λ ys. all ++ ys) (sym (map_append moved_link (map (own_link (place_of s)) (assigns_in s.module')) (flat_map (inner_links ms s) (instances_in s.module')))))))

  -- with the instances of the scope as the code has them
  module _ (views : List View) (are : map inner_meant views ≡ instances_in s.module') where
    many_views : count ≡ length views
    many_views = many ∙ (ap length (sym are) ∙ length-map views inner_meant)

    pub room : next ≤ length scopes → next + length views ≤ length scopes
    room within = omega (arith, within, enough, many_views, length-drop next scopes)

    pub these_views : map Some (map scope_meant (slice_range scopes next (next + length views))) ≡ map (child ms s) (map inner_meant views)
    these_views =
        let n : (next + length views) - next ≡ count = omega (arith, many_views) in
        ap (λ k. map Some (map scope_meant (take k (drop next scopes)))) n ∙ (these ∙ ap (map (child ms s)) (sym are))

    pub those_views : map Some (map scope_meant (drop (next + length views) scopes)) ≡ flat_map (inner_scopes ms) (map scope_meant (drop (k + 1) scopes))
    those_views = ap (λ n. map Some (map scope_meant (drop (next + n) scopes))) (sym many_views) ∙ those

    pub slice_length : next ≤ length scopes → length (slice_range scopes next (next + length views)) ≡ length views
    slice_length within =
        let n : (next + length views) - next ≡ length views = omega arith in
        let le : length views ≤ length (drop next scopes) = omega (arith, enough, many_views) in
        ap (λ k. length (take k (drop next scopes))) n ∙ length-take-le (length views) (drop next scopes) le

-- the first scope and those behind it
pub some_scope : (scopes : List Instance) (ms : List Module) → AreFollowed ms (map scope_meant scopes) → 1 ≤ length scopes
some_scope scopes ms h =
    omega (arith, ap length h.1, length-map (map scope_meant scopes) Some, length-map scopes scope_meant)

pub behind_first : (scopes : List Instance) (ms : List Module) → AreFollowed ms (map scope_meant scopes) →
    map Some (map scope_meant (drop 1 scopes)) ≡ flat_map (inner_scopes ms) (map scope_meant scopes)
behind_first [] ms h = cc
behind_first (x ∷ xs) ms h = let e = h.1 in cc
