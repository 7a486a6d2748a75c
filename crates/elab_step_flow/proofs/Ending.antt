-- The places that the parts of a statement assign, and where its branches end.
use Rattle.std.proofs.Common.{◌≡◌, ℕ, ◌<◌, ◌↔◌, inl, inr, Bool, true, false, List, [], ◌∷◌, ◌++◌, map, length, refl, sym, ◌∙◌, subst}
use Rattle.std.specs.Prelude.{MatchBool}
use Rattle.std.specs.List.{flat_map}
use Rattle.std.proofs.lemmas.List.{append-nil}
use Rattle.std.proofs.lemmas.Nat.{pow_pos}
use Rattle.vlog_tree.specs.declared.expr.Expr.{Expr}
use Rattle.vlog_tree.specs.declared.stmt.CaseItem.{CaseItem}
use Rattle.vlog_tree.specs.declared.stmt.CaseKind.{CaseKind}
use Rattle.vlog_tree.specs.declared.stmt.CaseKind.TheVariants as c
use Rattle.vlog_tree.specs.declared.stmt.Stmt.{Stmt, Row_of-Stmt, end_of-Stmt, more_of-Stmt, items-the_row-Stmt, items_hidden-the_row-Stmt-0, Row_of-CaseItem, end_of-CaseItem, more_of-CaseItem, items-the_row-CaseItem, items_hidden-the_row-CaseItem-2}
use Rattle.vlog_tree.specs.declared.stmt.Stmt.TheVariants as s
use Rattle.vlog_tree.specs.declared.stmt.Stmt.TheBlock.{shape-the_row-Stmt-1, hidden-the_row-Stmt-1, hidden-the_row-Stmt-0, hidden-the_row-CaseItem-2}
use Rattle.vlog_tree_runs.specs.declared.flat.Signal.{Signal}
use Rattle.vlog_tree_runs.specs.Places.{Among, Place}
use Rattle.vlog_tree_runs.specs.Blocks.{exprs_in}
use Rattle.elab_flat_laws.proofs.Lists.{append_left, append_right, among_flat, flat_among}
use Rattle.elab_flat_drivers.specs.Pieces.{Action, Tests, actions, row_actions, case_actions}
use Rattle.elab_flat_drivers.specs.Spots.{signal_name}
use Rattle.elab_flat_faults.specs.Paths.{IsFull}
use Rattle.elab_step_laws.specs.Laws.{place_over}
use Rattle.elab_step_flow.specs.Assigned.{assigned_by, assigned_in, AnyAt, IsAssigned}
use Rattle.elab_step_flow.specs.Branches.{AreInside, AnyAssigned, BranchTo, Gathered, EndTo, bodies_of}
use Rattle.elab_step_flow.specs.declared.branches.Branches.{Branches}
use Rattle.elab_step_flow.specs.Edges.{part_place}
use Rattle.elab_step_flow.specs.Passes.{MeetTo, LeadsPastEach}
use Rattle.elab_step_flow.specs.Sets.{Tables, ChangesAt}
use Rattle.elab_step_flow.proofs.Assigning.{any_within}
use Rattle.elab_step_flow.proofs.Blocks.{PastEach}
use Rattle.elab_step_flow.proofs.Branching.{gathered_none, gathered_next, past_met, all_met, ended_changes, changes_more}
use denote.Hole.Carrier

-- ---- what the parts of a statement assign

module _ (gs : List Signal) where
  moved : (cs ds : List Action) → ((x : Action) → Among cs x → Among ds x) → (i : ℕ) → AnyAt gs (flat_map assigned_by cs) i → AnyAt gs (flat_map assigned_by ds) i
  moved cs ds f i h =
      let r = among_flat (part_place (map signal_name gs)) (flat_map assigned_by cs) i h in
      let a = among_flat assigned_by cs r.0 r.1 in
      flat_among (part_place (map signal_name gs)) (flat_map assigned_by ds) r.0 i (flat_among assigned_by ds a.0 r.0 (f a.0 a.1) a.2) r.2

  row_action : {m : _} (row : Row_of-Stmt m) (a : Stmt) → Among (items-the_row-Stmt m row) a → (x : Action) → Among (actions a) x → Among (row_actions row) x
  row_action end_of-Stmt a m x h = absurd m
  row_action (more_of-Stmt b rest) a (inl e) x h = append_left (actions b) (row_actions rest) x (subst (λ z. Among (actions z) x) (sym e) h)
  row_action (more_of-Stmt b rest) a (inr m) x h = append_right (actions b) (row_actions rest) x (row_action rest a m x h)

  case_action : {m : _} (row : Row_of-CaseItem m) (a : Stmt) → Among (bodies_of (items-the_row-CaseItem m row)) a → (x : Action) → Among (actions a) x → Among (case_actions row) x
  case_action end_of-CaseItem a m x h = absurd m
  case_action (more_of-CaseItem labels body rest) a (inl e) x h =
      append_left (map Tests (exprs_in labels) ++ actions body) (case_actions rest) x (append_right (map Tests (exprs_in labels)) (actions body) x (subst (λ z. Among (actions z) x) (sym e) h))
  case_action (more_of-CaseItem labels body rest) a (inr m) x h = append_right (map Tests (exprs_in labels) ++ actions body) (case_actions rest) x (case_action rest a m x h)

  pub block_assigns : (n : _) (xs ys : List Stmt) (tree : Stmt) → tree ≡ s.Block n xs → ys ≡ xs → (i : ℕ) → AnyAssigned gs ys i → IsAssigned gs tree i
  block_assigns n xs ys tree is same i (a, m, h) =
      let k : Among (items-the_row-Stmt _ (hidden-the_row-Stmt-0 xs)) a = subst (λ z. Among z a) (same ∙ sym (items_hidden-the_row-Stmt-0 xs)) m in
      let g : AnyAt gs (flat_map assigned_by (row_actions (hidden-the_row-Stmt-0 xs))) i = moved (actions a) (row_actions (hidden-the_row-Stmt-0 xs)) (λ x q. row_action (hidden-the_row-Stmt-0 xs) a k x q) i h in
      subst (λ z. IsAssigned gs z i) (sym is) g

  pub if_assigns : (a : Expr) (body tree : Stmt) → tree ≡ s.If a body → (i : ℕ) → IsAssigned gs body i → IsAssigned gs tree i
  unfolding shape-the_row-Stmt-1 hidden-the_row-Stmt-1 denote.Hole.Carrier.hidden
  if_assigns a body tree is i h = subst (λ z. IsAssigned gs z i) (sym is) h

  pub body_assigns : (a : Expr) (body other tree : Stmt) → tree ≡ s.IfElse a body other → (i : ℕ) → IsAssigned gs body i → IsAssigned gs tree i
  unfolding shape-the_row-Stmt-1 hidden-the_row-Stmt-1 denote.Hole.Carrier.hidden
  body_assigns a body other tree is i h = subst (λ z. IsAssigned gs z i) (sym is) (moved (actions body) (actions body ++ actions other) (λ x q. append_left (actions body) (actions other) x q) i h)

  pub other_assigns : (a : Expr) (body other tree : Stmt) → tree ≡ s.IfElse a body other → (i : ℕ) → IsAssigned gs other i → IsAssigned gs tree i
  unfolding shape-the_row-Stmt-1 hidden-the_row-Stmt-1 denote.Hole.Carrier.hidden
  other_assigns a body other tree is i h = subst (λ z. IsAssigned gs z i) (sym is) (moved (actions other) (actions body ++ actions other) (λ x q. append_right (actions body) (actions other) x q) i h)

  pub case_assigns : (kind : CaseKind) (a : Expr) (xs : List CaseItem) (tree b : Stmt) → tree ≡ s.Case kind a xs → Among (bodies_of xs) b → (i : ℕ) → IsAssigned gs b i → IsAssigned gs tree i
  case_assigns kind a xs tree b is m i h =
      let row = hidden-the_row-CaseItem-2 xs in
      let k : Among (bodies_of (items-the_row-CaseItem _ row)) b = subst (λ z. Among (bodies_of z) b) (sym (items_hidden-the_row-CaseItem-2 xs)) m in
      let g : AnyAt gs (flat_map assigned_by (case_actions row)) i = moved (actions b) (case_actions row) (λ x q. case_action row b k x q) i h in
      subst (λ z. IsAssigned gs z i) (sym is) g

  -- ---- where the branches end

  clash : true ≡ false → ⊥
  clash e = cc

  inside : (bodies : List Stmt) (t : Tables) (us : List Tables) (start : List ℕ) (y : Branches) → Gathered gs bodies t us start y → ((i : ℕ) → Among start i → i < length gs) → AreInside (length gs) y
  inside bodies t us start y h f = record {
    common = λ i m. f i ((h.common i).0 m).0;
    spots = λ x m. let r = h.spotted x.place (x, m, refl) in any_within gs (assigned_in r.0) x.place r.2;
  }

  -- the one branch of an `if` without `else`
  module _ (a : Expr) (body tree : Stmt) (is : tree ≡ s.If a body) (t u w : Tables) (x y : Branches) (none : x.spots.items ≡ []) (common : (i : ℕ) → Among x.common.items i ↔ ((true ≡ false) × IsAssigned gs tree i))
      (quiet : x.outside.items ≡ []) (one : BranchTo gs body t u x y) where
    gathered : Gathered gs (body ∷ []) t (u ∷ []) x.common.items y
    gathered = gathered_next gs [] body t u [] x.common.items x y (gathered_none gs t x.common.items x none refl quiet) one

    pub if_inside : AreInside (length gs) y
    if_inside = inside (body ∷ []) t (u ∷ []) x.common.items y gathered (λ i m. any_within gs (assigned_in tree) i ((common i).0 m).1)

    pub if_meets : EndTo y t w → MeetTo (u ∷ t ∷ []) w
    if_meets end' = past_met gs (body ∷ []) t w (u ∷ []) x.common.items y gathered end' (λ i m. clash ((common i).0 m).0)

    pub if_changes : EndTo y t w → ChangesAt (λ i. IsAssigned gs tree i) t w
    if_changes end' = ended_changes gs (body ∷ []) t w (u ∷ []) x.common.items y gathered end' (λ i. IsAssigned gs tree i) (λ i m. ((common i).0 m).1) (λ b m i h. if_assigns a body tree is i (mine b m i h))
      where
        mine : (b : Stmt) → Among (body ∷ []) b → (i : ℕ) → IsAssigned gs b i → IsAssigned gs body i
        mine b (inl e) i h = subst (λ z. IsAssigned gs z i) (sym e) h
        mine b (inr e) i h = absurd e

  -- the two of one with `else`
  module _ (a : Expr) (body other tree : Stmt) (is : tree ≡ s.IfElse a body other) (t u u' w : Tables) (x y z : Branches) (none : x.spots.items ≡ [])
      (common : (i : ℕ) → Among x.common.items i ↔ ((false ≡ false) × IsAssigned gs tree i)) (quiet : x.outside.items ≡ []) (one : BranchTo gs body t u x y) (two : BranchTo gs other t u' y z) where
    gathered_two : Gathered gs (body ∷ other ∷ []) t (u ∷ u' ∷ []) x.common.items z
    gathered_two =
        gathered_next gs (body ∷ []) other t u' (u ∷ []) x.common.items y z (gathered_next gs [] body t u [] x.common.items x y (gathered_none gs t x.common.items x none refl quiet) one) two

    pub if_else_inside : AreInside (length gs) z
    if_else_inside = inside (body ∷ other ∷ []) t (u ∷ u' ∷ []) x.common.items z gathered_two (λ i m. any_within gs (assigned_in tree) i ((common i).0 m).1)

    pub if_else_meets : EndTo z t w → MeetTo (u ∷ u' ∷ []) w
    if_else_meets end' =
        all_met gs (body ∷ other ∷ []) t w (u ∷ u' ∷ []) x.common.items z gathered_two end' (body, inl refl) (λ i h. (common i).1 (refl, body_assigns a body other tree is i (h body (inl refl))))

    pub if_else_changes : EndTo z t w → ChangesAt (λ i. IsAssigned gs tree i) t w
    if_else_changes end' =
        ended_changes gs (body ∷ other ∷ []) t w (u ∷ u' ∷ []) x.common.items z gathered_two end' (λ i. IsAssigned gs tree i) (λ i m. ((common i).0 m).1) ours
      where
        ours : (b : Stmt) → Among (body ∷ other ∷ []) b → (i : ℕ) → IsAssigned gs b i → IsAssigned gs tree i
        ours b (inl e) i h = body_assigns a body other tree is i (subst (λ z. IsAssigned gs z i) (sym e) h)
        ours b (inr (inl e)) i h = other_assigns a body other tree is i (subst (λ z. IsAssigned gs z i) (sym e) h)
        ours b (inr (inr e)) i h = absurd e

  -- those of a case statement
  never_full : (p : Place) (kind : CaseKind) (a : Expr) → IsFull p kind a [] → ⊥
  never_full p c.Case a (all, inl f) = (f 0 (pow_pos _)).1
  never_full p c.Case a (all, inr f) = (f.1 0 (pow_pos _)).1
  never_full p c.Casez a h = h

  some_body : (kind : CaseKind) (a : Expr) (xs : List CaseItem) → (LeadsPastEach gs kind a xs → ⊥) → (b : Stmt) × Among (bodies_of xs) b
  some_body kind a [] h = absurd (h (λ d. d.1, λ f. never_full (place_over gs) kind a f))
  some_body kind a (x ∷ xs) h = (x.body, inl refl)

  module _ (kind : CaseKind) (a : Expr) (xs : List CaseItem) (tree : Stmt) (is : tree ≡ s.Case kind a xs) (t w : Tables) (us : List Tables) (start : List ℕ) (y : Branches) (r : Bool)
      (common : (i : ℕ) → Among start i ↔ ((r ≡ false) × IsAssigned gs tree i)) (all : Gathered gs (bodies_of xs) t us start y) where
    pub case_inside : AreInside (length gs) y
    case_inside = inside (bodies_of xs) t us start y all (λ i m. any_within gs (assigned_in tree) i ((common i).0 m).1)

    pub case_meets : EndTo y t w → MatchBool r (LeadsPastEach gs kind a xs) (LeadsPastEach gs kind a xs → ⊥) → (past : List Tables) × PastEach gs kind a xs t past × MeetTo (us ++ past) w
    case_meets end' h = by_past r refl h
      where
        by_past : (b : Bool) → r ≡ b → MatchBool b (LeadsPastEach gs kind a xs) (LeadsPastEach gs kind a xs → ⊥) → (past : List Tables) × PastEach gs kind a xs t past × MeetTo (us ++ past) w
        by_past true e k = (t ∷ [], inl (k, refl), past_met gs (bodies_of xs) t w us start y all end' (λ i m. clash (sym e ∙ ((common i).0 m).0)))
        by_past false e k =
            let b = some_body kind a xs k in
            let m = all_met gs (bodies_of xs) t w us start y all end' b (λ i f. (common i).1 (e, case_assigns kind a xs tree b.0 is b.1 i (f b.0 b.1))) in
            ([], inr (k, refl), subst (λ (z : List Tables). MeetTo z w) (sym (append-nil us)) m)

    pub case_changes : EndTo y t w → ChangesAt (λ i. IsAssigned gs tree i) t w
    case_changes end' = ended_changes gs (bodies_of xs) t w us start y all end' (λ i. IsAssigned gs tree i) (λ i m. ((common i).0 m).1) (λ b m i h. case_assigns kind a xs tree b is m i h)

  -- after what is read before the branches
  pub after_reads : (tree : Stmt) (v t w : Tables) → ChangesAt (λ i. ⊥) v t → ChangesAt (λ i. IsAssigned gs tree i) t w → ChangesAt (λ i. IsAssigned gs tree i) v w
  after_reads tree v t w h k = changes_more (λ i. ⊥) (λ i. IsAssigned gs tree i) (λ i. IsAssigned gs tree i) v t w (λ i f. absurd f) (λ i f. f) h k
