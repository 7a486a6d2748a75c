-- What drives and what reads the bits of a module that can be made a design can be told.
use Rattle.std.proofs.Common.{◌≡◌, ℕ, Bool, true, false, List, [], ◌∷◌, ◌++◌, map, sym, subst, inl, inr, ⊎_elim}
use Rattle.std.specs.Prelude.{if◌then◌else◌}
use Rattle.std.specs.List.{flat_map}
use Rattle.vlog_tree.specs.declared.expr.Expr.{Expr}
use Rattle.vlog_tree.specs.declared.item.Assign.{Assign}
use Rattle.vlog_tree.specs.declared.stmt.Lval.{Lval, Row_of-Lval, end_of-Lval, more_of-Lval}
use Rattle.vlog_tree.specs.declared.stmt.Lval.TheVariants as l
use Rattle.vlog_tree.specs.declared.stmt.Stmt.{Stmt, Row_of-Stmt, end_of-Stmt, more_of-Stmt, Row_of-CaseItem, end_of-CaseItem, more_of-CaseItem}
use Rattle.vlog_tree.specs.declared.stmt.Stmt.TheVariants as s
use Rattle.vlog_tree.specs.declared.valuation.Entry.{Entry}
use Rattle.vlog_tree.specs.Value.{IsFormed, IsDefined, width_of, sign_of}
use Rattle.vlog_tree_runs.specs.declared.flat.Always.{Always}
use Rattle.vlog_tree_runs.specs.declared.flat.Flat.{Flat}
use Rattle.vlog_tree_runs.specs.declared.flat.TopPort.{TopPort}
use Rattle.vlog_tree_runs.specs.Places.{Among}
use Rattle.vlog_tree_runs.specs.Blocks.{lefts, labels_in, exprs_in, case_width, case_sign}
use Rattle.elab_flat_laws.proofs.Lists.{among_append, append_left, append_right, among_flat, among_map}
use Rattle.elab_flat_faults.specs.Drivers.{Driver, Input, Part, Block, parts_of, row_parts_of, input_drivers, drivers_of}
use Rattle.elab_flat_drivers.specs.declared.names.Form.TheVariants as m
use Rattle.elab_flat_drivers.specs.Claims.{IsPartReady}
use Rattle.elab_flat_drivers.specs.Driving.{AreNarrow, IsDriverReady, CanDrive}
use Rattle.elab_flat_drivers.specs.Names.{action_lefts}
use Rattle.elab_flat_drivers.specs.Parts.{reads_of}
use Rattle.elab_flat_drivers.specs.Pieces.{Action, Tests, Assigns, Schedules, actions, row_actions, case_actions}
use Rattle.elab_flat_drivers.specs.Wanting.{CanTell, part_reads, left_reads, action_reads, assign_reads, block_reads, output_parts, wanted_parts}
use Rattle.elab_flat_drivers.proofs.Naming.{actions_lefts}
use Rattle.elab_step_blocks.specs.Ready.{IsPlaced, IsSingle, IsReadyLeft, AreReadyLefts, IsReadyStore, ArePlaced, IsReadyStmt, AreReadyStmts, AreReadyItems}
use Rattle.elab_step_nets.specs.Asked.{CanElaborate, at_rest}
use Rattle.elab_step_nets.proofs.Cycles.{plain_signal}
use Rattle.elab_flat_faults.specs.Handed.{AreNumbered}
use Rattle.elab_step.proofs.Reading.{evaluable, reads_ready}

-- ---- parts of left sides

-- the numbers of a part may be taken by themselves
abbrev IsSinglePart : List Entry → Lval → Type 0
IsSinglePart v (l.Name x) = Unit {0}
IsSinglePart v (l.Select x a) = IsSingle v a
IsSinglePart v (l.Part x span a b) = IsSingle v a × IsSingle v b
IsSinglePart v (l.Concat' h row) = ⊥

mutual
  left_part : (v : List Entry) (left q : Lval) → IsReadyLeft v left → Among (parts_of left) q → IsSinglePart v q
  left_part v (l.Name x) q h (inl i) = subst (IsSinglePart v) i tt
  left_part v (l.Name x) q h (inr n) = absurd n
  left_part v (l.Select x a) q h (inl i) = subst (IsSinglePart v) i h.1
  left_part v (l.Select x a) q h (inr n) = absurd n
  left_part v (l.Part x span a b) q h (inl i) = subst (IsSinglePart v) i (h.1, h.2)
  left_part v (l.Part x span a b) q h (inr n) = absurd n
  left_part v (l.Concat' g row) q h n = row_part v row q h n

  row_part : {m : _} (v : List Entry) (row : Row_of-Lval m) (q : Lval) → AreReadyLefts v row → Among (row_parts_of row) q → IsSinglePart v q
  row_part v end_of-Lval q h n = absurd n
  row_part v (more_of-Lval a rest) q h n = ⊎_elim (λ k. left_part v a q h.0 k) (λ k. row_part v rest q h.1 k) (among_append (parts_of a) (row_parts_of rest) q n)

single : (v : List Entry) (a : Expr) (q : Lval) → IsSingle v a → Among (reads_of a) q → IsPartReady q
single v a q h n = reads_ready v a (width_of v a) (sign_of v a) q h.formed h.defined n

part_ready : (v : List Entry) (q : Lval) → IsSinglePart v q → IsPartReady q
part_ready v (l.Name x) h = tt
part_ready v (l.Select x a) h = evaluable v a h.formed h.defined
part_ready v (l.Part x span a b) h = (evaluable v a h.0.formed h.0.defined, evaluable v b h.1.formed h.1.defined)
part_ready v (l.Concat' g row) h = absurd h

part_read : (v : List Entry) (q r : Lval) → IsSinglePart v q → Among (part_reads q) r → IsPartReady r
part_read v (l.Name x) r h n = absurd n
part_read v (l.Select x a) r h n = single v a r h n
part_read v (l.Part x span a b) r h n = ⊎_elim (λ k. single v a r h.0 k) (λ k. single v b r h.1 k) (among_append (reads_of a) (reads_of b) r n)
part_read v (l.Concat' g row) r h n = absurd h

pub left_ready : (v : List Entry) (left q : Lval) → IsReadyLeft v left → Among (parts_of left) q → IsPartReady q
left_ready v left q h n = part_ready v q (left_part v left q h n)

left_read : (v : List Entry) (left r : Lval) → IsReadyLeft v left → Among (left_reads left) r → IsPartReady r
left_read v left r h n = let q = among_flat part_reads (parts_of left) r n in part_read v q.0 r (left_part v left q.0 h q.1) q.2

store_read : (v : List Entry) (left : Lval) (right : Expr) (r : Lval) → IsReadyStore v left right → Among (left_reads left ++ reads_of right) r → IsPartReady r
store_read v left right r h n =
    ⊎_elim (λ k. left_read v left r h.left_side k) (λ k. reads_ready v right _ _ r h.right_side.ready.formed h.right_side.defined k) (among_append (left_reads left) (reads_of right) r n)

-- ---- what stands in a statement

abbrev IsReadyAction : List Entry → Action → Type 0
IsReadyAction v (Tests a) = (L : ℕ) × (sign : Bool) × IsFormed v a × IsDefined v a L sign
IsReadyAction v (Assigns left right) = IsReadyStore v left right
IsReadyAction v (Schedules left right) = IsReadyStore v left right

tested : (v : List Entry) (a : Expr) → IsSingle v a → IsReadyAction v (Tests a)
tested v a h = (width_of v a, sign_of v a, h.formed, h.defined)

compared : (v : List Entry) (a : Expr) (L : ℕ) (sign : Bool) → IsPlaced v a L sign → IsReadyAction v (Tests a)
compared v a L sign h = (L, sign, h.ready.formed, h.defined)

pub each_placed : (v : List Entry) (as' : List Expr) (L : ℕ) (sign : Bool) (a : Expr) → ArePlaced v as' L sign → Among as' a → IsPlaced v a L sign
each_placed v [] L sign a h n = absurd n
each_placed v (b ∷ as') L sign a h (inl i) = subst (λ z. IsPlaced v z L sign) i h.0
each_placed v (b ∷ as') L sign a h (inr n) = each_placed v as' L sign a h.1 n

mutual
  action_ready : (v : List Entry) (body : Stmt) (d : Action) → IsReadyStmt v body → Among (actions body) d → IsReadyAction v d
  action_ready v s.Empty d h n = absurd n
  action_ready v (s.Block' j k row) d h n = row_action v row d h n
  action_ready v (s.If' a k (more_of-Stmt x end_of-Stmt)) d h n = ⊎_elim (λ i. subst (IsReadyAction v) i (tested v a h.0)) (λ u. action_ready v x d h.1 u) n
  action_ready v (s.IfElse' a k (more_of-Stmt x end_of-Stmt) g (more_of-Stmt y end_of-Stmt)) d h n =
      ⊎_elim (λ i. subst (IsReadyAction v) i (tested v a h.0))
      (λ u. ⊎_elim (λ r. action_ready v x d h.1 r) (λ r. action_ready v y d h.2 r) (among_append (actions x) (actions y) d u)) n
  action_ready v (s.Case' kind a k row) d h n =
      let L = case_width v a (labels_in row) in
      let sign = case_sign v a (labels_in row) in
      ⊎_elim (λ i. subst (IsReadyAction v) i (compared v a L sign h.0.0)) (λ u. item_action v row L sign d (λ b r. each_placed v (labels_in row) L sign b h.0.1 r) h.1 u) n
  action_ready v (s.Blocking left right) d h n = ⊎_elim (λ (i : Assigns left right ≡ d). subst (IsReadyAction v) i h) (λ u. absurd u) n
  action_ready v (s.Nonblocking left right) d h n = ⊎_elim (λ (i : Schedules left right ≡ d). subst (IsReadyAction v) i h) (λ u. absurd u) n

  row_action : {m : _} (v : List Entry) (row : Row_of-Stmt m) (d : Action) → AreReadyStmts v row → Among (row_actions row) d → IsReadyAction v d
  row_action v end_of-Stmt d h n = absurd n
  row_action v (more_of-Stmt a rest) d h n = ⊎_elim (λ u. action_ready v a d h.0 u) (λ u. row_action v rest d h.1 u) (among_append (actions a) (row_actions rest) d n)

  item_action : {m : _} (v : List Entry) (row : Row_of-CaseItem m) (L : ℕ) (sign : Bool) (d : Action) → ((b : Expr) → Among (labels_in row) b → IsPlaced v b L sign) → AreReadyItems v row → Among (case_actions row) d → IsReadyAction v d
  item_action v end_of-CaseItem L sign d p h n = absurd n
  item_action v (more_of-CaseItem labels body rest) L sign d p h n =
      ⊎_elim
      (λ u. ⊎_elim
      (λ r. let b = among_map Tests (exprs_in labels) d r in subst (IsReadyAction v) b.2 (compared v b.0 L sign (p b.0 (append_left (exprs_in labels) (labels_in rest) b.0 b.1))))
      (λ r. action_ready v body d h.0 r) (among_append (map Tests (exprs_in labels)) (actions body) d u))
      (λ u. item_action v rest L sign d (λ b r. p b (append_right (exprs_in labels) (labels_in rest) b r)) h.1 u)
      (among_append (map Tests (exprs_in labels) ++ actions body) (case_actions rest) d n)

action_read : (v : List Entry) (d : Action) (r : Lval) → IsReadyAction v d → Among (action_reads d) r → IsPartReady r
action_read v (Tests a) r h n = reads_ready v a h.0 h.1 r h.2 h.3 n
action_read v (Assigns left right) r h n = store_read v left right r h n
action_read v (Schedules left right) r h n = store_read v left right r h n

action_left : (v : List Entry) (d : Action) (left : Lval) → IsReadyAction v d → Among (action_lefts m.Any d) left → IsReadyLeft v left
action_left v (Tests a) left h n = absurd n
action_left v (Assigns to from) left h n = ⊎_elim (λ (i : to ≡ left). subst (IsReadyLeft v) i h.left_side) (λ u. absurd u) n
action_left v (Schedules to from) left h n = ⊎_elim (λ (i : to ≡ left). subst (IsReadyLeft v) i h.left_side) (λ u. absurd u) n

body_left : (v : List Entry) (body : Stmt) (left : Lval) → IsReadyStmt v body → Among (lefts body) left → IsReadyLeft v left
body_left v body left h n =
    let d = among_flat (action_lefts m.Any) (actions body) left (subst (λ z. Among z left) (sym (actions_lefts m.Any body)) n) in
    action_left v d.0 left (action_ready v body d.0 h d.1) d.2

-- ---- modules

input_ready : (ps : List TopPort) (d : Driver) → Among (input_drivers ps) d → IsDriverReady d
input_ready [] d n = absurd n
input_ready (p ∷ ps) d n = by p.output n (λ u. input_ready ps d u)
  where
    by : (b : Bool) → Among (if b then input_drivers ps else Input p.name ∷ input_drivers ps) d → (Among (input_drivers ps) d → IsDriverReady d) → IsDriverReady d
    by true u rest = rest u
    by false (inl i) rest = subst IsDriverReady i tt
    by false (inr u) rest = rest u

output_ready : (p : TopPort) (q : Lval) → Among (output_parts p) q → IsPartReady q
output_ready p q n = by p.output n
  where
    by : (b : Bool) → Among (if b then l.Name p.name ∷ [] else []) q → IsPartReady q
    by true (inl i) = subst IsPartReady i tt
    by true (inr u) = absurd u
    by false u = absurd u

pub narrow_signals : (f : Flat) → CanElaborate f → AreNumbered f → AreNarrow f.signals
narrow_signals f can numbers g n = record { width = (can.wide g n).1; numbers = numbers g n; depth = plain_signal f.signals g can.plain n }

module _ (f : Flat) (can : CanElaborate f) where
  driver_ready : (d : Driver) → Among (drivers_of f) d → IsDriverReady d
  driver_ready d n =
      ⊎_elim
      (λ u. ⊎_elim (λ r. input_ready f.ports d r)
      (λ r.
      let a = among_flat (λ (b : Assign). map Part (parts_of b.left)) f.assigns d r in
      let q = among_map Part (parts_of a.0.left) d a.2 in
      subst IsDriverReady q.2 (left_ready (at_rest f) a.0.left q.0 (can.assigns a.0 a.1).left_side q.1))
      (among_append (input_drivers f.ports) (flat_map (λ (b : Assign). map Part (parts_of b.left)) f.assigns) d u))
      (λ u.
      let k = among_map (λ (b : Always). Block (lefts b.body)) f.blocks d u in
      subst IsDriverReady k.2 (λ left i q j. left_ready (at_rest f) left q (body_left (at_rest f) k.0.body left (can.blocks k.0 k.1) i) j))
      (among_append (input_drivers f.ports ++ flat_map (λ (b : Assign). map Part (parts_of b.left)) f.assigns) (map (λ (b : Always). Block (lefts b.body)) f.blocks) d n)

  wanted_ready : (q : Lval) → Among (wanted_parts f) q → IsPartReady q
  wanted_ready q n =
      ⊎_elim
      (λ u. ⊎_elim (λ r. let p = among_flat output_parts f.ports q r in output_ready p.0 q p.2)
      (λ r. let a = among_flat assign_reads f.assigns q r in store_read (at_rest f) a.0.left a.0.right q (can.assigns a.0 a.1) a.2)
      (among_append (flat_map output_parts f.ports) (flat_map assign_reads f.assigns) q u))
      (λ u.
      let k = among_flat block_reads f.blocks q u in
      let d = among_flat action_reads (actions k.0.body) q k.2 in
      action_read (at_rest f) d.0 q (action_ready (at_rest f) k.0.body d.0 (can.blocks k.0 k.1) d.1) d.2)
      (among_append (flat_map output_parts f.ports ++ flat_map assign_reads f.assigns) (flat_map block_reads f.blocks) q n)

  pub can_drive : AreNumbered f → CanDrive f
  can_drive numbers = record { narrow = narrow_signals f can numbers; ready = driver_ready }

  pub can_tell : AreNumbered f → CanTell f
  can_tell numbers = record { drives = can_drive numbers; wants = wanted_ready }
