-- The walk that makes copies.
use Rattle.std.proofs.Common.{◌≡◌, ◌≢◌, ℕ, zero, suc, ◌+◌, ◌-◌, ◌*◌, ◌<◌, ◌≤◌, true, false, List, [], ◌∷◌, Option, Some, None, refl, sym, ap, ◌∙◌, subst, arith, inl, inr, ◌⊎◌, length, take, set, get_or-set_same, get_or-set_other, length-set, length-take-le}
use Rattle.std.specs.Prelude.{slice_index, is_some, is_none, MatchOption, if◌then◌else◌}
use Rattle.std.proofs.lemmas.List.{get_or-take}
use Rattle.word_dag.specs.declared.node.Node.{Node}
use Rattle.word_dag.specs.Adding.{IsAt, Keeps}
use Rattle.word_dag.specs.Nodes.{FitFrom}
use Rattle.word_dag.specs.Order.{operands_of}
use Rattle.word_dag.specs.Walks.{Each, operands}
use Rattle.word_dag.proofs.NodeValues.{operands_at}
use Rattle.word_dag.proofs.Walking.{top_of}
use Rattle.elab_step_expr.specs.declared.leaves.Leaf.{Leaf}
use Rattle.elab_step_expr.specs.Leaves.{AreReady}
use Rattle.elab_step_expr.proofs.Kept.{keeps_then, ready_kept}
use Rattle.elab_step_copies.specs.declared.copier.Copier.{Copier}
use Rattle.elab_step_copies.specs.Copies.{HasCopy, HaveCopies, made_at}
use Rattle.elab_step_copies.specs.Walks.{IsLater, MakesOne, first_unmade}
use Rattle.elab_step_copies.proofs.Making.{operands_are}

-- ---- which operand has no copy

some_or : (o : Option ℕ) → (is_none o ≡ true) × (o ≡ None) ⊎ (is_none o ≡ false) × (is_some o ≡ true)
some_or None = inl (refl, refl)
some_or (Some m) = inr (refl, refl)

-- what the search for an operand without a copy says
abbrev pub Tells : (ℕ → Type 0) → List (Option ℕ) → List ℕ → Option ℕ → Type 0
Tells P ms xs found = MatchOption found (HaveCopies ms xs) (λ a. P a × (made_at ms a ≡ None))

first_tells : (P : ℕ → Type 0) (ms : List (Option ℕ)) (xs : List ℕ) → Each P xs → Tells P ms xs (first_unmade ms xs)
first_tells P ms [] h = tt
first_tells P ms (x ∷ xs) h = elim (some_or (made_at ms x)) [
  | inl none ↦ subst (λ b. Tells P ms (x ∷ xs) (if b then Some x else first_unmade ms xs)) (sym none.0) (h.0, none.1)
  | inr some ↦ subst (λ b. Tells P ms (x ∷ xs) (if b then Some x else first_unmade ms xs)) (sym some.0) (more (first_unmade ms xs) some.1 (first_tells P ms xs h.1))
]
  where
    more : (found : Option ℕ) → HasCopy ms x → Tells P ms xs found → Tells P ms (x ∷ xs) found
    more None c t = (c, t)
    more (Some a) c t = t

pub unmade_tells : (source : List Node) (ms : List (Option ℕ)) (n : ℕ) (k : Node) (found : Option ℕ) → FitFrom [] source → IsAt source n k → found ≡ first_unmade ms (operands k) →
    MatchOption found (HaveCopies ms (operands_of source n)) (λ a. (a < n) × (made_at ms a ≡ None))
unmade_tells source ms n k found fit at e =
    let t = first_tells (λ a. a < n) ms (operands k) (operands_at source n k fit at.0 at.1) in
    let P : List ℕ → Type 0 = λ xs. MatchOption found (HaveCopies ms xs) (λ a. (a < n) × (made_at ms a ≡ None)) in
    subst P (sym (operands_are source n k at)) (subst (λ (o : Option ℕ). Tells (λ a. a < n) ms (operands k) o) (sym e) t)

-- ---- the path of nodes without copies, from the root down

pub record IsPath (ms : List (Option ℕ)) (stack : List ℕ) (root : ℕ) : Type 0 where
  pub within : (j : ℕ) → j < length stack → slice_index stack j < length ms
  pub are_open : (j : ℕ) → j < length stack → made_at ms (slice_index stack j) ≡ None
  pub falls : (j k : ℕ) → j < k → k < length stack → slice_index stack k < slice_index stack j
  pub bottom : 0 < length stack → slice_index stack 0 ≡ root
  pub done : length stack ≡ 0 → HasCopy ms root

-- how many nodes have no copy
abbrev pub unmade_in : List (Option ℕ) → ℕ
unmade_in [] = 0
unmade_in (None ∷ ms) = suc (unmade_in ms)
unmade_in (Some m ∷ ms) = unmade_in ms

unmade_set : (ms : List (Option ℕ)) (i : ℕ) (m : ℕ) → i < length ms → made_at ms i ≡ None → suc (unmade_in (set ms i (Some m))) ≡ unmade_in ms
unmade_set [] i m lt e = absurd (omega arith)
unmade_set (None ∷ ms) zero m lt e = refl
unmade_set (Some q ∷ ms) zero m lt e = cc
unmade_set (None ∷ ms) (suc i) m lt e = ap suc (unmade_set ms i m (omega arith) e)
unmade_set (Some q ∷ ms) (suc i) m lt e = unmade_set ms i m (omega arith) e

module _ (ms : List (Option ℕ)) (stack : List ℕ) (root : ℕ) (m : ℕ) (some : 0 < length stack) (w : IsPath ms stack root) where
  short : length (take (length stack - 1) stack) ≡ length stack - 1
  short = length-take-le (length stack - 1) stack (omega arith)

  at_take : (j : ℕ) → j < length stack - 1 → slice_index (take (length stack - 1) stack) j ≡ slice_index stack j
  at_take j lt = get_or-take (length stack - 1) stack j 0 lt

  top_in : top_of stack < length ms
  top_in = w.within (length stack - 1) (omega arith)

  left_within : (j : ℕ) → j < length (take (length stack - 1) stack) → slice_index (take (length stack - 1) stack) j < length (set ms (top_of stack) (Some m))
  left_within j p = omega (arith, w.within j (omega (arith, short)), at_take j (omega (arith, short)), length-set ms (top_of stack) (Some m))

  left_open : (j : ℕ) → j < length (take (length stack - 1) stack) → made_at (set ms (top_of stack) (Some m)) (slice_index (take (length stack - 1) stack) j) ≡ None
  left_open j p =
      let same = at_take j (omega (arith, short)) in
      let above = w.falls j (length stack - 1) (omega (arith, short)) (omega arith) in
      let other : slice_index (take (length stack - 1) stack) j ≢ top_of stack = omega (arith, same, above) in
      get_or-set_other ms (top_of stack) (slice_index (take (length stack - 1) stack) j) (Some m) None other ∙ (ap (made_at ms) same ∙ w.are_open j (omega (arith, short)))

  left_falls : (j k : ℕ) → j < k → k < length (take (length stack - 1) stack) → slice_index (take (length stack - 1) stack) k < slice_index (take (length stack - 1) stack) j
  left_falls j k jk p = omega (arith, w.falls j k jk (omega (arith, short)), at_take k (omega (arith, short)), at_take j (omega (arith, short)))

  left_done : length (take (length stack - 1) stack) ≡ 0 → HasCopy (set ms (top_of stack) (Some m)) root
  left_done e =
      let one : length stack - 1 ≡ 0 = sym short ∙ e in
      let is_root : top_of stack ≡ root = ap (slice_index stack) one ∙ w.bottom some in
      ap (λ i. is_some (made_at (set ms (top_of stack) (Some m)) i)) (sym is_root) ∙ ap (λ (o : Option ℕ). is_some o) (get_or-set_same ms (top_of stack) (Some m) None top_in)

  path_pop : IsPath (set ms (top_of stack) (Some m)) (take (length stack - 1) stack) root
  path_pop = record {
    within = left_within;
    are_open = left_open;
    falls = left_falls;
    bottom = λ p. at_take 0 (omega (arith, short)) ∙ w.bottom some;
    done = left_done;
  }

  top_small : (xs : List ℕ) (n : ℕ) → ((j : ℕ) → j < length xs → slice_index xs j < n) → top_of xs ≤ n
  top_small [] n h = omega arith
  top_small (x ∷ xs) n h = omega (arith, h (length (x ∷ xs) - 1) (omega arith))

  -- one more node has a copy
  pop_falls : unmade_in (set ms (top_of stack) (Some m)) * (length ms + 1) + top_of (take (length stack - 1) stack) < unmade_in ms * (length ms + 1) + top_of stack
  pop_falls =
      let fewer = unmade_set ms (top_of stack) m top_in (w.are_open (length stack - 1) (omega arith)) in
      let times : suc (unmade_in (set ms (top_of stack) (Some m))) * (length ms + 1) ≡ unmade_in ms * (length ms + 1) = ap (λ v. v * (length ms + 1)) fewer in
      let long = length-set ms (top_of stack) (Some m) in
      let small : top_of (take (length stack - 1) stack) ≤ length ms = top_small (take (length stack - 1) stack) (length ms) (λ j p. omega (arith, left_within j p, long)) in
      omega (arith, times, small)

-- ---- the walk

pub later_then : (k l m : Copier) (ls : List Leaf) (a b : List Node) → IsLater k l ls a → IsLater l m ls b → IsLater k m ls b
later_then k l m ls a b h g = record {
  source = g.source ∙ h.source;
  kept = λ n i is. g.kept n i (h.kept n i is);
  copies = g.copies;
}

abbrev pub measure : Copier → List ℕ → ℕ
measure k stack = unmade_in k.copies.items * (length k.copies.items + 1) + top_of stack

-- a walk from a copier and a dag on
pub record Walk (ls : List Leaf) (first : Copier) (start : List Node) (root : ℕ) (k : Copier) (ns : List Node) (stack : List ℕ) : Type 0 where
  pub keeps : Keeps start ns
  pub ready : AreReady ls ns
  pub later : IsLater first k ls ns
  pub path : IsPath k.copies.items stack root

module _ (ls : List Leaf) (first : Copier) (start : List Node) (root : ℕ) (k : Copier) (ns : List Node) (stack : List ℕ) (t : ℕ) (w : Walk ls first start root k ns stack) (some : 0 < length stack) (et : t ≡ top_of stack) where
  module _ (l : Copier) (b : List Node) (rest : List ℕ) (keeps : Keeps ns b) (makes : MakesOne k l ls b t) (is : rest ≡ take (length stack - 1) stack) where
    pub walk_pop : Walk ls first start root l b rest
    walk_pop =
        let path = path_pop k.copies.items stack root makes.one.0 some w.path in
        record {
          keeps = keeps_then start ns b w.keeps keeps;
          ready = ready_kept ls ns b keeps w.ready;
          later = later_then first k l ls ns b w.later makes.later;
          path = rw (makes.one.1, et, is) path;
        }

    pub pop_less : measure l rest < measure k stack
    pop_less =
        let m = makes.one.0 in
        let less = pop_falls k.copies.items stack root m some w.path in
        let long = length-set k.copies.items (top_of stack) (Some m) in
        rw (makes.one.1, et, is, long) less
