-- The walk that takes an obligation out of a dag.
use Rattle.std.proofs.Common.{◌^◌, ◌≡◌, ◌≢◌, ℕ, zero, suc, ◌+◌, ◌-◌, ◌*◌, ◌<◌, ◌≤◌, false, List, [], ◌∷◌, ◌++◌, length, get_or, take, Some, None, refl, sym, ap, ◌∙◌, subst, arith, inl, inr, length-append, length-take-le, set, get_or-set_same, get_or-set_other, length-set}
use Rattle.std.specs.Prelude.{slice_index, ◌==◌, map, ◌⊎◌, if◌then◌else◌}
use Rattle.std.proofs.lemmas.Bool.Decides.{nat_tests}
use Rattle.word_dag.specs.declared.node.Node.{Node}
use Rattle.word_dag.specs.Nodes.{FitFrom, width_of, width_at, node_value, word_at, named, dag_values, IsOb, IsSmall, AreSmall}
use Rattle.word_dag.specs.Walks.{operands, renumbered, place_of, first_open, Each, MeansSame}
use Rattle.word_dag.proofs.NodeValues.{operands_at, fits_at, renumbered_fits, renumbered_value, value_equation, dag_values-push, length-dag_values, word_at-front, word_at-last, width_renumbered, FitFrom-push, width_at-front, width_at-last, width_at-node, width_at-map, width_at-take, length-widths, Each-map, Each-both}

-- node i of the dag is node p of the obligation
pub record IsPlaced (dag nodes : List Node) (i p : ℕ) : Type 0 where
  pub below : p < length nodes
  pub wide : width_at nodes p ≡ width_at dag i
  pub means : MeansSame dag i nodes p

-- what is placed so far, and the path of open nodes from the root down
pub record Walk (dag nodes : List Node) (places stack : List ℕ) (root : ℕ) : Type 0 where
  pub long : length places ≡ length dag
  pub fit : FitFrom [] nodes
  pub placed : (i p : ℕ) → slice_index places i ≡ suc p → IsPlaced dag nodes i p
  pub within : (j : ℕ) → j < length stack → slice_index stack j < length dag
  pub are_open : (j : ℕ) → j < length stack → slice_index places (slice_index stack j) ≡ 0
  pub falls : (j k : ℕ) → j < k → k < length stack → slice_index stack k < slice_index stack j
  pub bottom : 0 < length stack → slice_index stack 0 ≡ root
  pub done : length stack ≡ 0 → 0 < slice_index places root

-- how many nodes have no place
abbrev pub opens : List ℕ → ℕ
opens [] = 0
opens (zero ∷ ps) = suc (opens ps)
opens (suc p ∷ ps) = opens ps

pub opens-set : (ps : List ℕ) (i p : ℕ) → i < length ps → slice_index ps i ≡ 0 → suc (opens (set ps i (suc p))) ≡ opens ps
opens-set [] i p lt e = absurd (omega arith)
opens-set (zero ∷ ps) zero p lt e = refl
opens-set (suc q ∷ ps) zero p lt e = absurd (omega arith)
opens-set (zero ∷ ps) (suc i) p lt e = ap suc (opens-set ps i p (omega arith) e)
opens-set (suc q ∷ ps) (suc i) p lt e = opens-set ps i p (omega arith) e

at_front : (xs ys : List ℕ) (i : ℕ) → i < length xs → slice_index (xs ++ ys) i ≡ slice_index xs i
at_front [] ys i lt = absurd (omega arith)
at_front (x ∷ xs) ys zero lt = refl
at_front (x ∷ xs) ys (suc i) lt = at_front xs ys i (omega arith)

at_last : (xs : List ℕ) (y : ℕ) → slice_index (xs ++ y ∷ []) (length xs) ≡ y
at_last [] y = refl
at_last (x ∷ xs) y = at_last xs y

at_take : (xs : List ℕ) (n i : ℕ) → i < n → slice_index (take n xs) i ≡ slice_index xs i
at_take xs zero i lt = absurd (omega arith)
at_take [] (suc n) i lt = refl
at_take (x ∷ xs) (suc n) zero lt = refl
at_take (x ∷ xs) (suc n) (suc i) lt = at_take xs n i (omega arith)

not_zero : (m p : ℕ) → m ≡ suc p → (m == 0) ≡ false
not_zero m p e = grind (arith, nat_tests)

-- what the search for an open operand says
pub none_open : (places xs : List ℕ) → first_open places xs ≡ None → Each (λ a. 0 < slice_index places a) xs
none_open places [] e = tt
none_open places (x ∷ xs) e = by_place (slice_index places x) refl (none_open places xs)
  where
    by_place : (p : ℕ) → slice_index places x ≡ p → (first_open places xs ≡ None → Each (λ a. 0 < slice_index places a) xs) → Each (λ a. 0 < slice_index places a) (x ∷ xs)
    by_place zero f rest = let g : first_open places (x ∷ xs) ≡ Some x = ap (λ k. if k == 0 then Some x else first_open places xs) f in cc
    by_place (suc p) f rest = let t : (slice_index places x == 0) ≡ false = not_zero (slice_index places x) p f in let g : first_open places (x ∷ xs) ≡ first_open places xs = ap (λ b. if b then Some x else first_open places xs) t in (omega arith, rest (sym g ∙ e))

pub open_found : (P : ℕ → Type 0) (places xs : List ℕ) (a : ℕ) → first_open places xs ≡ Some a → Each P xs → P a × (slice_index places a ≡ 0)
open_found P places [] a e h = cc
open_found P places (x ∷ xs) a e h = by_place (slice_index places x) refl (λ g. open_found P places xs a g h.1)
  where
    by_place : (p : ℕ) → slice_index places x ≡ p → (first_open places xs ≡ Some a → P a × (slice_index places a ≡ 0)) → P a × (slice_index places a ≡ 0)
    by_place zero f rest =
        let g : first_open places (x ∷ xs) ≡ Some x = ap (λ k. if k == 0 then Some x else first_open places xs) f in
        let same : x ≡ a = cc in
        (subst P same h.0, ap (slice_index places) (sym same) ∙ f)
    by_place (suc p) f rest = let t : (slice_index places x == 0) ≡ false = not_zero (slice_index places x) p f in let g : first_open places (x ∷ xs) ≡ first_open places xs = ap (λ b. if b then Some x else first_open places xs) t in rest (sym g ∙ e)

-- the last of the path
abbrev pub top_of : List ℕ → ℕ
top_of stack = slice_index stack (length stack - 1)

same_or : (i j : ℕ) → (i ≡ j) ⊎ (i ≢ j)
same_or i j = grind arith

split_at : (j n : ℕ) → (j < n) ⊎ (n ≤ j)
split_at j n = grind arith

-- an index of a list with one more
by_end : {Q : Type 0} (stack : List ℕ) (x j : ℕ) → j < length (stack ++ x ∷ []) → (j < length stack → Q) → (j ≡ length stack → Q) → Q
by_end stack x j lt f g =
    elim (split_at j (length stack)) [ inl q ↦ f q | inr q ↦ g (omega (arith, length-append stack (x ∷ []))) ]

pub walk_push : (dag nodes : List Node) (places stack : List ℕ) (root x : ℕ) → 0 < length stack → x < top_of stack → slice_index places x ≡ 0 → Walk dag nodes places stack root → Walk dag nodes places (stack ++ x ∷ []) root
walk_push dag nodes places stack root x some lt open_x w = record {
  long = w.long;
  fit = w.fit;
  placed = w.placed;
  within = λ j p. by_end stack x j p (λ q. omega (arith, w.within j q, at_front stack (x ∷ []) j q)) (λ q. omega (arith, lt, w.within (length stack - 1) (omega arith), ap (slice_index (stack ++ x ∷ [])) q, at_last stack x));
  are_open = λ j p. by_end stack x j p (λ q. ap (slice_index places) (at_front stack (x ∷ []) j q) ∙ w.are_open j q) (λ q. ap (slice_index places) (ap (slice_index (stack ++ x ∷ [])) q ∙ at_last stack x) ∙ open_x);
  falls = λ j k jk p. by_end stack x k p (λ q. omega (arith, w.falls j k jk q, at_front stack (x ∷ []) k q, at_front stack (x ∷ []) j (omega arith))) (λ q. under_top j k jk q);
  bottom = λ p. at_front stack (x ∷ []) 0 some ∙ w.bottom some;
  done = λ e. absurd (omega (arith, length-append stack (x ∷ [])));
}
  where
    under_top : (j k : ℕ) → j < k → k ≡ length stack → slice_index (stack ++ x ∷ []) k < slice_index (stack ++ x ∷ []) j
    under_top j k jk q =
        let new : slice_index (stack ++ x ∷ []) k ≡ x = ap (slice_index (stack ++ x ∷ [])) q ∙ at_last stack x in
        let old : slice_index (stack ++ x ∷ []) j ≡ slice_index stack j = at_front stack (x ∷ []) j (omega arith) in
        elim (split_at j (length stack - 1)) [ inl l ↦ omega (arith, lt, w.falls j (length stack - 1) l (omega arith), new, old) | inr g ↦ (let e : j ≡ length stack - 1 = omega arith in omega (arith, lt, ap (slice_index stack) e, new, old)) ]

module _ (dag nodes : List Node) (places stack : List ℕ) (root : ℕ) (n : Node) (w : Walk dag nodes places stack root) (some : 0 < length stack) (fitd : FitFrom [] dag) (at : n ≡ get_or dag (top_of stack) n) (ready : Each (λ a. 0 < slice_index places a) (operands n)) where
  top_in : top_of stack < length dag
  top_in = w.within (length stack - 1) (omega arith)

  ops_placed : Each (λ a. IsPlaced dag nodes a (place_of places a)) (operands n)
  ops_placed = Each-map (λ a. 0 < slice_index places a) (λ a. IsPlaced dag nodes a (place_of places a)) (operands n) (λ a p. w.placed a (place_of places a) (omega arith)) ready

  fit_more : FitFrom [] (nodes ++ renumbered (place_of places) n ∷ [])
  fit_more =
      let both = Each-both (λ a. IsPlaced dag nodes a (place_of places a)) (λ a. a < top_of stack) (operands n) ops_placed (operands_at dag (top_of stack) n fitd top_in at) in
      let facts = Each-map (λ a. IsPlaced dag nodes a (place_of places a) × (a < top_of stack)) (λ a. (place_of places a < length (map width_of nodes)) × (slice_index (map width_of nodes) (place_of places a) ≡ slice_index (map width_of (take (top_of stack) dag)) a)) (operands n) (λ a f. (omega (arith, f.0.below, length-widths nodes), width_at-map nodes (place_of places a) ∙ f.0.wide ∙ sym (width_at-take dag (top_of stack) a f.1) ∙ sym (width_at-map (take (top_of stack) dag) a))) both in
      FitFrom-push [] nodes (renumbered (place_of places) n) w.fit (renumbered_fits (map width_of (take (top_of stack) dag)) (map width_of nodes) (place_of places) n facts (fits_at [] dag (top_of stack) n fitd top_in at))

  new_means : MeansSame dag (top_of stack) (nodes ++ renumbered (place_of places) n ∷ []) (length nodes)
  new_means e =
      let old = dag_values e [] nodes in
      let v = node_value (named e (renumbered (place_of places) n)) old (renumbered (place_of places) n) in
      let long : length old ≡ length nodes = omega (arith, length-dag_values e [] nodes) in
      let operands_mean = Each-map (λ a. IsPlaced dag nodes a (place_of places a)) (λ a. word_at old (place_of places a) ≡ word_at (dag_values e [] dag) a) (operands n) (λ a f. f.means e) ops_placed in
      let zero_plus : 0 + top_of stack ≡ top_of stack = omega arith in
      ap (λ k. word_at k (length nodes)) (dag_values-push e [] nodes (renumbered (place_of places) n)) ∙ ap (word_at (old ++ v ∷ [])) (sym long) ∙ word_at-last old v ∙ renumbered_value e old (dag_values e [] dag) (place_of places) n operands_mean ∙ sym (value_equation e [] [] dag (top_of stack) n refl fitd top_in at) ∙ ap (word_at (dag_values e [] dag)) zero_plus

  placed_more : (i p : ℕ) → slice_index (set places (top_of stack) (suc (length nodes))) i ≡ suc p → IsPlaced dag (nodes ++ renumbered (place_of places) n ∷ []) i p
  placed_more i p e = elim (same_or i (top_of stack)) [ inl q ↦ here q | inr q ↦ there q ]
    where
      here : i ≡ top_of stack → IsPlaced dag (nodes ++ renumbered (place_of places) n ∷ []) i p
      here q =
          let lt : top_of stack < length places = omega (arith, w.long, top_in) in
          let value : slice_index (set places (top_of stack) (suc (length nodes))) (top_of stack) ≡ suc (length nodes) = get_or-set_same places (top_of stack) (suc (length nodes)) 0 lt in
          let is_new : p ≡ length nodes = omega (arith, e, value, ap (slice_index (set places (top_of stack) (suc (length nodes)))) q) in
          let long = length-append nodes (renumbered (place_of places) n ∷ []) in
          let new : IsPlaced dag (nodes ++ renumbered (place_of places) n ∷ []) (top_of stack) (length nodes) = record { below = omega (arith, long); wide = width_at-last nodes (renumbered (place_of places) n) ∙ width_renumbered (place_of places) n ∙ sym (width_at-node dag (top_of stack) n top_in at); means = new_means } in
          rw (q, is_new) new

      there : i ≢ top_of stack → IsPlaced dag (nodes ++ renumbered (place_of places) n ∷ []) i p
      there q =
          let old = w.placed i p (sym (get_or-set_other places (top_of stack) i (suc (length nodes)) 0 q) ∙ e) in
          let long = length-append nodes (renumbered (place_of places) n ∷ []) in
          record {
            below = omega (arith, long, old.below);
            wide = width_at-front nodes (renumbered (place_of places) n ∷ []) p old.below ∙ old.wide;
            means = λ v. ap (λ k. word_at k p) (dag_values-push v [] nodes (renumbered (place_of places) n)) ∙ word_at-front (dag_values v [] nodes) (node_value (named v (renumbered (place_of places) n)) (dag_values v [] nodes) (renumbered (place_of places) n) ∷ []) p (omega (arith, length-dag_values v [] nodes, old.below)) ∙ old.means v;
          }

  pub walk_emit : Walk dag (nodes ++ renumbered (place_of places) n ∷ []) (set places (top_of stack) (suc (length nodes))) (take (length stack - 1) stack) root
  walk_emit =
      let short : length (take (length stack - 1) stack) ≡ length stack - 1 = length-take-le (length stack - 1) stack (omega arith) in
      record {
        long = length-set places (top_of stack) (suc (length nodes)) ∙ w.long;
        fit = fit_more;
        placed = placed_more;
        within = λ j p. omega (arith, w.within j (omega (arith, short)), at_take stack (length stack - 1) j (omega (arith, short)));
        are_open = λ j p.
            let same = at_take stack (length stack - 1) j (omega (arith, short)) in
            let above = w.falls j (length stack - 1) (omega (arith, short)) (omega arith) in
            let other : slice_index (take (length stack - 1) stack) j ≢ top_of stack = omega (arith, same, above) in
            get_or-set_other places (top_of stack) (slice_index (take (length stack - 1) stack) j) (suc (length nodes)) 0 other ∙ ap (slice_index places) same ∙ w.are_open j (omega (arith, short));
        falls = λ j k jk p. omega (arith, w.falls j k jk (omega (arith, short)), at_take stack (length stack - 1) k (omega (arith, short)), at_take stack (length stack - 1) j (omega (arith, short)));
        bottom = λ p. at_take stack (length stack - 1) 0 (omega (arith, short)) ∙ w.bottom some;
        done = λ e.
            let one : length stack - 1 ≡ 0 = sym short ∙ e in
            let is_root : top_of stack ≡ root = ap (slice_index stack) one ∙ w.bottom some in
            let lt : top_of stack < length places = omega (arith, w.long, top_in) in
            let value = get_or-set_same places (top_of stack) (suc (length nodes)) 0 lt in
            omega (arith, value, ap (slice_index (set places (top_of stack) (suc (length nodes)))) is_root);
      }

pub walk_start : (dag : List Node) (places : List ℕ) (root : ℕ) → length places ≡ length dag → ((i : ℕ) → slice_index places i ≡ 0) → root < length dag → Walk dag [] places (root ∷ []) root
walk_start dag places root long none lt = record {
  long = long;
  fit = tt;
  placed = λ i p e. absurd (omega (arith, none i, e));
  within = λ j p. let z : j ≡ 0 = omega arith in omega (arith, ap (slice_index (root ∷ [])) z);
  are_open = λ j p. none (slice_index (root ∷ []) j);
  falls = λ j k jk p. absurd (omega arith);
  bottom = λ p. refl;
  done = λ e. absurd (omega arith);
}

-- the new nodes have numbers of 64 bits
pub record Small (nodes : List Node) : Type 0 where
  pub each : AreSmall nodes
  pub count : length nodes < 2 ^ 64

small_append : (ns : List Node) (n : Node) → AreSmall ns → IsSmall n → AreSmall (ns ++ n ∷ [])
small_append [] n h s = (s, tt)
small_append (x ∷ ns) n h s = (h.0, small_append ns n h.1 s)

pub small_push : (ns more : List Node) (n : Node) (k : ℕ) → Small ns → IsSmall n → more ≡ ns ++ n ∷ [] → k ≡ length more → k < 2 ^ 64 → Small more
small_push ns more n k h s e ek lt =
    record { each = subst AreSmall (sym e) (small_append ns n h.each s); count = omega (arith, ek, lt) }

pub walk_end : (dag nodes : List Node) (places stack view : List ℕ) (root r : ℕ) → width_at dag root ≡ 1 → length stack ≤ 0 → view ≡ places → r ≡ place_of view root → Walk dag nodes places stack root → Small nodes → IsOb nodes r × MeansSame dag root nodes r
walk_end dag nodes places stack view root r one empty ev er w sm =
    let p : 0 < slice_index places root = w.done (omega arith) in
    let is : r ≡ place_of places root = er ∙ ap (λ k. place_of k root) ev in
    let at : slice_index places root ≡ suc r = omega (arith, is, p) in
    let found = w.placed root r at in
    (record { fit = w.fit; root_in = found.below; one_bit = found.wide ∙ one; small = sm.each; count = sm.count }, found.means)

-- the last of the path, as the code reads it
pub is_top : (stack view : List ℕ) (t : ℕ) → view ≡ stack → 0 < length view → ((d : ℕ) → t ≡ get_or view (length view - 1) d) → (0 < length stack) × (t ≡ top_of stack)
is_top stack view t e some h =
    (omega (arith, some, ap length e), h 0 ∙ ap (λ k. slice_index k (length k - 1)) e)

-- one turn of the walk, at the node n of number t
module _ (dag nodes : List Node) (places stack : List ℕ) (root t : ℕ) (n : Node) (w : Walk dag nodes places stack root) (some : 0 < length stack) (et : t ≡ top_of stack) (fitd : FitFrom [] dag) (at : n ≡ get_or dag t n) where
  at_top : n ≡ get_or dag (top_of stack) n
  at_top = at ∙ ap (λ k. get_or dag k n) et

  ops_small : Each (λ a. a < top_of stack) (operands n)
  ops_small = operands_at dag (top_of stack) n fitd (w.within (length stack - 1) (omega arith)) at_top

  pub ops_below : (view : List ℕ) → view ≡ places → Each (λ a. a < length view) (operands n)
  ops_below view e =
      Each-map (λ a. a < top_of stack) (λ a. a < length view) (operands n) (λ a p. omega (arith, ap length e, w.long, w.within (length stack - 1) (omega arith))) ops_small

  found : (x : ℕ) (view : List ℕ) → view ≡ places → Some x ≡ first_open view (operands n) → (x < top_of stack) × (slice_index places x ≡ 0)
  found x view e f =
      open_found (λ a. a < top_of stack) places (operands n) x (ap (λ k. first_open k (operands n)) (sym e) ∙ sym f) ops_small

  pub found_open : (x : ℕ) (view : List ℕ) → view ≡ places → Some x ≡ first_open view (operands n) → (x < length dag) × (slice_index places x ≡ 0)
  found_open x view e f = let h = found x view e f in (omega (arith, h.0, w.within (length stack - 1) (omega arith)), h.1)

  pub push_walk : (x : ℕ) (more view : List ℕ) → view ≡ places → more ≡ stack ++ x ∷ [] → Some x ≡ first_open view (operands n) → Walk dag nodes places more root
  push_walk x more view e em f =
      let h = found x view e f in
      subst (λ k. Walk dag nodes places k root) (sym em) (walk_push dag nodes places stack root x some h.0 h.1 w)

  pub push_less : (x : ℕ) (more view : List ℕ) → view ≡ places → more ≡ stack ++ x ∷ [] → Some x ≡ first_open view (operands n) → opens places * (length dag + 1) + top_of more < opens places * (length dag + 1) + top_of stack
  push_less x more view e em f =
      let h = found x view e f in
      let long : length (stack ++ x ∷ []) - 1 ≡ length stack = omega (arith, length-append stack (x ∷ [])) in
      let new : top_of more ≡ x = ap top_of em ∙ ap (slice_index (stack ++ x ∷ [])) long ∙ at_last stack x in
      omega (arith, new, h.0)

  pub emit_walk : (seen view : List ℕ) (more : List Node) (rest : List ℕ) (k : ℕ) → seen ≡ places → view ≡ places → None ≡ first_open seen (operands n) → more ≡ nodes ++ renumbered (place_of view) n ∷ [] → k ≡ length more → rest ≡ take (length stack - 1) stack → Walk dag more (set places t k) rest root
  emit_walk seen view more rest k es e f em ek er =
      let ready = none_open places (operands n) (ap (λ v. first_open v (operands n)) (sym es) ∙ sym f) in
      let emitted = walk_emit dag nodes places stack root n w some fitd at_top ready in
      let more_is : more ≡ nodes ++ renumbered (place_of places) n ∷ [] = em ∙ ap (λ v. nodes ++ renumbered (place_of v) n ∷ []) e in
      let k_is : k ≡ suc (length nodes) = omega (arith, ek, ap length em, length-append nodes (renumbered (place_of view) n ∷ [])) in
      rw (more_is, et, k_is, er) emitted

  pub emit_less : (seen view : List ℕ) (more : List Node) (rest : List ℕ) (k : ℕ) → seen ≡ places → view ≡ places → None ≡ first_open seen (operands n) → more ≡ nodes ++ renumbered (place_of view) n ∷ [] → k ≡ length more → rest ≡ take (length stack - 1) stack → opens (set places t k) * (length dag + 1) + top_of rest < opens places * (length dag + 1) + top_of stack
  emit_less seen view more rest k es e f em ek er =
      let k_is : k ≡ suc (length nodes) = omega (arith, ek, ap length em, length-append nodes (renumbered (place_of view) n ∷ [])) in
      let lt : t < length places = omega (arith, et, w.long, w.within (length stack - 1) (omega arith)) in
      let is_open : slice_index places t ≡ 0 = ap (slice_index places) et ∙ w.are_open (length stack - 1) (omega arith) in
      let fewer : suc (opens (set places t k)) ≡ opens places = ap (λ v. suc (opens (set places t v))) k_is ∙ opens-set places t (length nodes) lt is_open in
      let after = emit_walk seen view more rest k es e f em ek er in
      let small = top_small rest (length dag) after.within in
      let times : (suc (opens (set places t k))) * (length dag + 1) ≡ opens places * (length dag + 1) = ap (λ v. v * (length dag + 1)) fewer in
      omega (arith, times, small)
    where
      top_small : (xs : List ℕ) (m : ℕ) → ((j : ℕ) → j < length xs → slice_index xs j < m) → top_of xs ≤ m
      top_small [] m h = omega arith
      top_small (x ∷ xs) m h = omega (arith, h (length (x ∷ xs) - 1) (omega arith))
