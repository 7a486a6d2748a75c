-- Statements with branches, by copies of their parts.
use Rattle.std.proofs.Common.{◌≡◌, ℕ, ◌+◌, ◌<◌, ◌≤◌, ◌↔◌, Bool, true, false, List, [], ◌∷◌, ◌++◌, length, take, get_or, sym, ◌∙◌, subst}
use Rattle.std.specs.Prelude.{MatchBool}
use Rattle.std.proofs.lemmas.List.{map-append}
use Rattle.vlog_tree.specs.declared.expr.Expr.{Expr}
use Rattle.vlog_tree.specs.declared.stmt.CaseItem.{CaseItem}
use Rattle.vlog_tree.specs.declared.stmt.CaseKind.{CaseKind}
use Rattle.vlog_tree.specs.declared.stmt.Stmt.{Stmt}
use Rattle.vlog_tree.specs.declared.stmt.Stmt.TheVariants as s
use Rattle.vlog_tree_runs.specs.declared.flat.Signal.{Signal}
use Rattle.vlog_tree_runs.specs.Places.{Among}
use Rattle.elab_step_flow.specs.Assigned.{IsAssigned}
use Rattle.elab_step_flow.specs.Branches.{AreInside, BranchTo, Gathered, EndTo, bodies_of}
use Rattle.elab_step_flow.specs.Cases.{labels_of}
use Rattle.elab_step_flow.specs.declared.branches.Branches.{Branches}
use Rattle.elab_step_flow.specs.Passes.{EnterTo, LeadsPastEach, Passes, EachItemPasses}
use Rattle.elab_step_flow.specs.Sets.{Tables, ChangesAt}
use Rattle.elab_step_flow.proofs.Blocks.{if_passes, if_else_passes, case_passes, items_more}
use Rattle.elab_step_flow.proofs.Branching.{gathered_next}
use Rattle.elab_step_flow.proofs.Listing.{take_next}
use Rattle.elab_step_flow.proofs.Ending.{if_inside, if_else_inside, case_inside, if_meets, if_changes, if_else_meets, if_else_changes, case_meets, case_changes, after_reads}

module _ (gs : List Signal) (tree : Stmt) (v t : Tables) where
  -- a branch that was passed through
  abbrev pub Branched : List ℕ → Stmt → Tables → Branches → Branches → Type 0
  Branched inner body s x y = (u : Tables) × Passes gs inner body s u × BranchTo gs body s u x y

  branched_copy : (inner inner' : List ℕ) (body body' : Stmt) (s s' : Tables) (x y : Branches) → inner' ≡ inner → body' ≡ body → s' ≡ s → Branched inner' body' s' x y → Branched inner body s x y
  branched_copy inner inner' body body' s s' x y e f g h =
      subst (λ z. Branched inner body z x y) g (subst (λ z. Branched inner z s' x y) f (subst (λ (z : List ℕ). Branched z body' s' x y) e h))

  -- ---- `if` without `else`

  module _ (a : Expr) (body body' : Stmt) (inner inner' : List ℕ) (back w : Tables) (x y : Branches) (is : tree ≡ s.If a body) (e : inner' ≡ inner) (f : body' ≡ body) (g : back ≡ t) (none : x.spots.items ≡ [])
      (common : (i : ℕ) → Among x.common.items i ↔ ((true ≡ false) × IsAssigned gs tree i)) (quiet : x.outside.items ≡ []) (one : Branched inner' body' t x y) where
    abbrev one' : Branched inner body t x y
    one' = branched_copy inner inner' body body' t t x y e f (λ r. t) one

    pub if_inside_done : AreInside (length gs) y
    if_inside_done = if_inside gs a body tree is t one'.0 w x y none common quiet one'.2

    pub if_done : EndTo y back w → (around : List ℕ) → EnterTo gs around (a ∷ []) v t inner → Passes gs around tree v w
    if_done end' around enters =
        if_passes gs around inner a body tree v t one'.0 w is enters one'.1 (if_meets gs a body tree is t one'.0 w x y none common quiet one'.2 (subst (λ z. EndTo y z w) g end'))

    pub if_done_changes : EndTo y back w → ChangesAt (λ i. ⊥) v t → ChangesAt (λ i. IsAssigned gs tree i) v w
    if_done_changes end' h = after_reads gs tree v t w h (if_changes gs a body tree is t one'.0 w x y none common quiet one'.2 (subst (λ z. EndTo y z w) g end'))

  -- ---- `if` with `else`

  module _ (a : Expr) (body body' other other' : Stmt) (inner inner' inner'' : List ℕ) (back last w : Tables) (x y z : Branches) (is : tree ≡ s.IfElse a body other) (e : inner' ≡ inner) (e' : inner'' ≡ inner) (f : body' ≡ body) (f' : other' ≡ other)
      (g : back ≡ t) (g' : last ≡ back) (none : x.spots.items ≡ []) (common : (i : ℕ) → Among x.common.items i ↔ ((false ≡ false) × IsAssigned gs tree i)) (quiet : x.outside.items ≡ []) (one : Branched inner' body' t x y)
      (two : Branched inner'' other' back y z) where
    abbrev first : Branched inner body t x y
    first = branched_copy inner inner' body body' t t x y e f (λ r. t) one

    abbrev second : Branched inner other t y z
    second = branched_copy inner inner'' other other' t back y z e' f' g two

    abbrev ended : EndTo z last w → EndTo z t w
    ended end' = subst (λ q. EndTo z q w) (g' ∙ g) end'

    pub if_else_inside_done : AreInside (length gs) z
    if_else_inside_done = if_else_inside gs a body other tree is t first.0 second.0 w x y z none common quiet first.2 second.2

    pub if_else_done : EndTo z last w → (around : List ℕ) → EnterTo gs around (a ∷ []) v t inner → Passes gs around tree v w
    if_else_done end' around enters =
        if_else_passes gs around inner a body other tree v t first.0 second.0 w is enters first.1 second.1 (if_else_meets gs a body other tree is t first.0 second.0 w x y z none common quiet first.2 second.2 (ended end'))

    pub if_else_done_changes : EndTo z last w → ChangesAt (λ i. ⊥) v t → ChangesAt (λ i. IsAssigned gs tree i) v w
    if_else_done_changes end' h = after_reads gs tree v t w h (if_else_changes gs a body other tree is t first.0 second.0 w x y z none common quiet first.2 second.2 (ended end'))

  -- ---- case statements

  abbrev pub Collected : List ℕ → List CaseItem → Branches → Branches → Type 0
  Collected inner xs x y = (us : List Tables) × EachItemPasses gs inner xs t us × Gathered gs (bodies_of xs) t us x.common.items y

  module _ (kind : CaseKind) (a : Expr) (xs ys : List CaseItem) (inner inner' : List ℕ) (back w : Tables) (x y : Branches) (r : Bool) (is : tree ≡ s.Case kind a xs) (e : inner' ≡ inner) (f : ys ≡ xs) (g : back ≡ t)
      (common : (i : ℕ) → Among x.common.items i ↔ ((r ≡ false) × IsAssigned gs tree i)) (all : Collected inner' ys x y) where
    abbrev all' : Collected inner xs x y
    all' = subst (λ z. Collected inner z x y) f (subst (λ (z : List ℕ). Collected z ys x y) e all)

    abbrev ended' : EndTo y back w → EndTo y t w
    ended' end' = subst (λ z. EndTo y z w) g end'

    pub case_inside_done : AreInside (length gs) y
    case_inside_done = case_inside gs kind a xs tree is t w all'.0 x.common.items y r common all'.2

    pub case_done : EndTo y back w → (around : List ℕ) → EnterTo gs around (a ∷ labels_of xs) v t inner → MatchBool r (LeadsPastEach gs kind a ys) (LeadsPastEach gs kind a ys → ⊥) → Passes gs around tree v w
    case_done end' around enters leads =
        let m = case_meets gs kind a xs tree is t w all'.0 x.common.items y r common all'.2 (ended' end') (subst (λ z. MatchBool r (LeadsPastEach gs kind a z) (LeadsPastEach gs kind a z → ⊥)) f leads) in
        case_passes gs around inner kind a xs tree v t all'.0 m.0 w is enters m.1 all'.1 m.2

    pub case_done_changes : EndTo y back w → ChangesAt (λ i. ⊥) v t → ChangesAt (λ i. IsAssigned gs tree i) v w
    case_done_changes end' h = after_reads gs tree v t w h (case_changes gs kind a xs tree is t w all'.0 x.common.items y r common all'.2 (ended' end'))

-- ---- items, one after another

module _ (gs : List Signal) (t : Tables) (start inner : List ℕ) where
  abbrev pub Gathering : List CaseItem → Branches → Type 0
  Gathering xs y = (us : List Tables) × EachItemPasses gs inner xs t us × Gathered gs (bodies_of xs) t us start y

  pub gathering_next : (xs : List CaseItem) (k : ℕ) (x : CaseItem) (s : Tables) (y z : Branches) → k < length xs → x ≡ get_or xs k x → s ≡ t → Gathering (take k xs) y → ((u : Tables) × Passes gs inner x.body s u × BranchTo gs x.body s u y z) → Gathering (take (k + 1) xs) z
  gathering_next xs k x s y z lt is same (us, passes, all) h =
      let one : (u : Tables) × Passes gs inner x.body t u × BranchTo gs x.body t u y z = subst (λ q. (u : Tables) × Passes gs inner x.body q u × BranchTo gs x.body q u y z) same h in
      let more : Gathered gs (bodies_of (take k xs) ++ x.body ∷ []) t (us ++ one.0 ∷ []) start z = gathered_next gs (bodies_of (take k xs)) x.body t one.0 us start y z all one.2 in
      subst (λ q. Gathering q z) (take_next xs k x lt is) (
        us ++ one.0 ∷ [],
        items_more gs inner (take k xs) x t one.0 us passes one.1,
        subst (λ q. Gathered gs q t (us ++ one.0 ∷ []) start z) (sym (map-append (λ (i : CaseItem). i.body) (take k xs) (x ∷ []))) more,
      )
