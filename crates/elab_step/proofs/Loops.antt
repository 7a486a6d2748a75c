-- An order of the dependences leaves no loop.
use Rattle.std.proofs.Common.{◌≡◌, ℕ, zero, suc, ◌<◌, List, [], ◌∷◌, ◌++◌, length, arith, refl, sym, subst, inl, inr, ⊎_elim}
use Rattle.vlog_tree.specs.declared.expr.Expr.{Expr}
use Rattle.vlog_tree.specs.declared.stmt.Lval.{Lval}
use Rattle.vlog_tree.specs.declared.stmt.Stmt.{Stmt, Row_of-Stmt, end_of-Stmt, more_of-Stmt, Row_of-CaseItem, end_of-CaseItem, more_of-CaseItem}
use Rattle.vlog_tree.specs.declared.stmt.Stmt.TheVariants as s
use Rattle.vlog_tree_runs.specs.declared.flat.Flat.{Flat}
use Rattle.vlog_tree_runs.specs.declared.flat.Signal.{Signal}
use Rattle.vlog_tree_runs.specs.Places.{Name, Among, Place}
use Rattle.vlog_tree_runs.specs.Blocks.{lefts, row_lefts, case_lefts, left_names, labels_in}
use Rattle.vlog_tree_runs.specs.Cycles.{flat_place}
use Rattle.elab_flat_laws.proofs.Lists.{among_append, append_left, append_right, flat_among}
use Rattle.elab_flat_faults.specs.Paths.{Step, Leaves, Assigns, branch, assignment, IsPath, IsRowPath, IsItemPath}
use Rattle.elab_flat_faults.specs.Drivers.{DependsOn, IsChain}
use Rattle.elab_flat_graphs.specs.Graphs.{successors, IsOrder, IsPathTo, AreAfter, Among as Lists, AreDistinct as AreApart}
use Rattle.elab_step_flow.specs.Edges.{AreDependences}
use Rattle.elab_step_flow.specs.Shows.{IsAt}
use Rattle.elab_step_nets.specs.Asked.{CanElaborate}
use Rattle.elab_step_nets.proofs.Elaborating.{IsText}
use Rattle.elab_step_nets.proofs.Texts.{text_is}
use Rattle.elab_step.proofs.Passing.{place_of}

-- ---- what a path assigns is on a left side

module _ (left : Lval) (as' : List Expr) where
  abbrev Has : List Step → Type 0
  Has steps = Among steps (Assigns left as')

  in_branch : (cs : List Expr) (inner : List Step) → Has (branch cs inner) → Has inner
  in_branch cs inner (inl i) = cc
  in_branch cs inner (inr m) = ⊎_elim (λ n. n) (λ n. last n) (among_append inner (Leaves ∷ []) (Assigns left as') m)
    where
      last : Has (Leaves ∷ []) → Has inner
      last (inl i) = cc
      last (inr u) = absurd u

  in_assignment : (to : Lval) (from : Expr) → Has (assignment to from) → Among (to ∷ []) left
  in_assignment to from (inl i) = cc
  in_assignment to from (inr (inl i)) = inl cc
  in_assignment to from (inr (inr u)) = absurd u

  mutual
    on_left : (p : Place) (body : Stmt) (steps : List Step) → IsPath p body steps → Has steps → Among (lefts body) left
    on_left p s.Empty steps h m = subst Has h m
    on_left p (s.Block' n k row) steps h m = row_left p row steps h m
    on_left p (s.If' a k (more_of-Stmt x end_of-Stmt)) steps h m =
        let i = in_branch (a ∷ []) h.0 (subst Has h.1 m) in
        ⊎_elim (λ (n : h.0 ≡ []). let none : Has [] = subst Has n i in absurd none) (λ r. on_left p x h.0 r i) h.2
    on_left p (s.IfElse' a k (more_of-Stmt x end_of-Stmt) g (more_of-Stmt y end_of-Stmt)) steps h m =
        let i = in_branch (a ∷ []) h.0 (subst Has h.1 m) in
        ⊎_elim (λ r. append_left (lefts x) (lefts y) left (on_left p x h.0 r i)) (λ r. append_right (lefts x) (lefts y) left (on_left p y h.0 r i)) h.2
    on_left p (s.Case' kind a k row) steps h m =
        let i = in_branch (a ∷ labels_in row) h.0 (subst Has h.1 m) in
        ⊎_elim (λ r. item_left p row h.0 r i) (λ n. let none : Has [] = subst Has n.0 i in absurd none) h.2
    on_left p (s.Blocking to from) steps h m = in_assignment to from (subst Has h m)
    on_left p (s.Nonblocking to from) steps h m = in_assignment to from (subst Has h m)

    row_left : {n : _} (p : Place) (row : Row_of-Stmt n) (steps : List Step) → IsRowPath p row steps → Has steps → Among (row_lefts row) left
    row_left p end_of-Stmt steps h m = subst Has h m
    row_left p (more_of-Stmt a rest) steps h m =
        ⊎_elim (λ i. append_left (lefts a) (row_lefts rest) left (on_left p a h.0 h.3 i)) (λ i. append_right (lefts a) (row_lefts rest) left (row_left p rest h.1 h.4 i))
        (among_append h.0 h.1 (Assigns left as') (subst Has h.2 m))

    item_left : {n : _} (p : Place) (row : Row_of-CaseItem n) (steps : List Step) → IsItemPath p row steps → Has steps → Among (case_lefts row) left
    item_left p end_of-CaseItem steps h m = absurd h
    item_left p (more_of-CaseItem labels body rest) steps h m =
        ⊎_elim (λ r. append_left (lefts body) (case_lefts rest) left (on_left p body steps r m)) (λ r. append_right (lefts body) (case_lefts rest) left (item_left p rest steps r m)) h

-- ---- paths in an order

module _ (g : List (List ℕ)) where
  -- the successors of listed vertices are listed
  abbrev IsClosed : List ℕ → Type 0
  IsClosed vs = (v w : ℕ) → Lists vs v → Lists (successors g v) w → Lists vs w

  stays : (vs : List ℕ) → IsClosed vs → (v : ℕ) (ws : List ℕ) (t : ℕ) → Lists vs v → IsPathTo g (v ∷ ws) t → Lists vs t
  stays vs c v [] t m h = c v t m h
  stays vs c v (w ∷ ws) t m h = stays vs c w ws t (c v w m h.0) h.1

  -- a vertex all of whose successors are listed earlier has no path back
  no_way_back : (vs : List ℕ) → IsClosed vs → (v : ℕ) → ((w : ℕ) → Lists (successors g v) w → Lists vs w) → (Lists vs v → ⊥) → (ws : List ℕ) → IsPathTo g (v ∷ ws) v → ⊥
  no_way_back vs c v h n [] p = n (h v p)
  no_way_back vs c v h n (w ∷ ws) p = n (stays vs c w ws v (h w p.0) p.1)

  no_cycle : (earlier vs : List ℕ) → IsClosed earlier → AreAfter g earlier vs → AreApart vs → ((w : ℕ) → Lists earlier w → Lists vs w → ⊥) → (v : ℕ) → Lists vs v → (ws : List ℕ) → IsPathTo g (v ∷ ws) v → ⊥
  no_cycle earlier [] c a d apart v m ws p = m
  no_cycle earlier (u ∷ vs) c a d apart v (inl i) ws p =
      let back : IsPathTo g (u ∷ ws) u = subst (λ z. IsPathTo g (z ∷ ws) z) (sym i) p in no_way_back earlier c u a.0 (λ k. apart u k (inl refl)) ws back
  no_cycle earlier (u ∷ vs) c a d apart v (inr m) ws p =
      no_cycle (u ∷ earlier) vs
      (λ x y i j. inr (⊎_elim (λ (q : u ≡ x). a.0 y (subst (λ z. Lists (successors g z) y) (sym q) j)) (λ n. c x y n j) i))
      a.1 d.1
      (λ w i n. ⊎_elim (λ (q : u ≡ w). d.0 (subst (λ z. Lists vs z) (sym q) n)) (λ k. apart w k (inr n)) i)
      v m ws p

-- ---- no loop

module _ (f : Flat) (can : CanElaborate f) (g : List (List ℕ)) (long : length g ≡ length f.signals) (depends : AreDependences f g) where
  abbrev gs : List Signal
  gs = f.signals

  -- what depends on something is a signal
  place_for : (y z : Name) → DependsOn f y z → (i : ℕ) × IsAt gs i y
  place_for y z h =
      let text : IsText f = text_is f can in
      ⊎_elim
      (λ a. let r = text.assigned a.0 y a.1 a.2 in place_of gs r.0 y r.1 r.2)
      (λ k.
      let d = k.3 in
      let step = append_right d.0 (Assigns d.2 d.3 ∷ d.1) (Assigns d.2 d.3) (inl refl) in
      let left = on_left d.2 d.3 (flat_place f) k.0.body (d.0 ++ Assigns d.2 d.3 ∷ d.1) d.4 step in
      let r = text.blocked k.0 y k.1 (flat_among left_names (lefts k.0.body) d.2 y left d.5) in place_of gs r.0 y r.1 r.2)
      h.1

  within : (vs : List Signal) (i : ℕ) (x : Name) → IsAt vs i x → i < length vs
  within [] i x h = absurd h
  within (u ∷ vs) zero x h = omega arith
  within (u ∷ vs) (suc i) x h = let r = within vs i x h in omega (arith, r)

  first : (y : Name) (ys : List Name) (z : Name) → IsChain f y ys z → (i : ℕ) × IsAt gs i y
  first y [] z h = place_for y z h
  first y (x ∷ xs) z h = place_for y x h.0

  path : (y : Name) (ys : List Name) (z : Name) (i j : ℕ) → IsChain f y ys z → IsAt gs i y → IsAt gs j z → (is : List ℕ) × IsPathTo g (i ∷ is) j
  path y [] z i j h m n = ([], (depends i j y z m n).1 h)
  path y (x ∷ xs) z i j h m n =
      let k = first x xs z h.1 in
      let r = path x xs z k.0 j h.1 k.1 n in
      (k.0 ∷ r.0, ((depends i k.0 y x m k.1).1 h.0, r.1))

  pub no_loop : (vs : List ℕ) → IsOrder g vs → (x : Name) (xs : List Name) → IsChain f x xs x → ⊥
  no_loop vs is x xs h =
      let i = first x xs x h in
      let r = path x xs x i.0 i.0 h i.1 i.1 in
      let l = within gs i.0 x i.1 in
      let there : Lists vs i.0 = is.each i.0 (omega (arith, l, long)) in
      no_cycle g [] vs (λ v w m n. m) is.after is.once (λ w m n. m) i.0 there r.0 r.1
