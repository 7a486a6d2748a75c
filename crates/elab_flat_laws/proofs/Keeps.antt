-- The module without instances has the cycles of the list of modules, and the same cycles follow.
use Rattle.std.proofs.Common.{◌≡◌, ℕ, ◌%◌, ◌^◌, ◌<◌, max, Bool, true, false, nat_eq, List, [], ◌∷◌, ◌++◌, Option, Some, None, sym, ap, ◌∙◌, refl, inl, inr, ⊎_elim, ◌⊎◌, map, subst}
use Rattle.std.specs.Int.{bit_at}
use Rattle.std.specs.List.{flat_map}
use Rattle.std.proofs.lemmas.List.{append_cancel_left}
use Rattle.vlog_tree.specs.declared.expr.Expr.TheVariants as e
use Rattle.vlog_tree.specs.declared.item.Assign.{Assign}
use Rattle.vlog_tree.specs.declared.module.Module.{Module}
use Rattle.vlog_tree.specs.declared.stmt.Lval.{Lval, Row_of-Lval, end_of-Lval, more_of-Lval}
use Rattle.vlog_tree.specs.declared.stmt.Lval.TheVariants as l
use Rattle.vlog_tree.specs.declared.stmt.Stmt.{Stmt, Row_of-Stmt, end_of-Stmt, more_of-Stmt, Row_of-CaseItem, end_of-CaseItem, more_of-CaseItem}
use Rattle.vlog_tree.specs.declared.stmt.Stmt.TheVariants as s
use Rattle.vlog_tree.specs.Valuation.{word_name}
use Rattle.vlog_tree_runs.specs.declared.flat.Always.{Always}
use Rattle.vlog_tree_runs.specs.declared.flat.Flat.{Flat}
use Rattle.vlog_tree_runs.specs.declared.flat.Signal.{Signal}
use Rattle.vlog_tree_runs.specs.Places.{read, Name, Cycle, Among, Place, holders, total, give}
use Rattle.vlog_tree_runs.specs.Blocks.{run, lefts, row_lefts, case_lefts, left_names, row_names, Drives, Stores}
use Rattle.vlog_tree_runs.specs.Contents.{Decl, Block, blocks_in, is_clocked, Inner, instances_in, signals_in, port_names, assigns_in}
use Rattle.vlog_tree_runs.specs.Scopes.{Scope, place_of, Link, links_of, own_link, inner_links, child, connections, connection, port_links, port_link, Given, given_to, decl_at, left_of}
use Rattle.vlog_tree_runs.specs.Cycles.{linked, IsAssigned, DrivesBit, DrivesWord, DrivesFull, IsRegisterFrom, IsDrivenFrom, IsCycleFrom, IsClockedFrom, FollowsFrom, flat_place, IsRegister, IsDriven, IsInput, IsCycle, IsClocked, Follows}
use Rattle.elab_flat_laws.specs.Moved.{moved_left, moved_stmt, moved_signal}
use Rattle.elab_flat_laws.specs.Uses.{IsSignal, AssignsSignals, AllAssignSignals, IsDeclared, AreDeclared, AreItemsDeclared, known, names_of}
use Rattle.elab_flat_laws.specs.Flattened.{moved_link, moved_block, flat_signals, flat_assigns, flat_blocks, IsFlatOf, AreScopes, IsLinkDeclared, CanFlatten, KeepsRuns}
use Rattle.elab_flat_laws.specs.Laws.{MovesInto}
use Rattle.elab_flat_laws.proofs.Lists.{among_map, map_among, among_flat, flat_among, among_append}
use Rattle.elab_flat_laws.proofs.Sides.{pieces_moved, expr_moved, word_under}
use Rattle.elab_flat_laws.proofs.Statements.{run_moved}
use Rattle.elab_flat_laws.proofs.Finding.{bare, signal_known}
use Rattle.elab_flat_laws.proofs.Lows.{scope_moves}
use Rattle.elab_flat_laws.proofs.Driving.{drives_to, drives_from, drives_named, stores_to, stores_from, lefts_moved, assigned_names, holders_moved}

-- ---- links

-- both texts of a link are scopes'
record LinkAt (ss : List Scope) (k : Link) : Type 0 where
  into : (u : Scope) × Among ss u × (k.into ≡ place_of u)
  from : (u : Scope) × Among ss u × (k.from ≡ place_of u)

abbrev in_link : Place → Place → Given → Link
in_link r p g = record { into = p; left = l.Name g.name; from = r; right = g.value }

abbrev out_link : Place → Place → Given → Link
out_link r p g = record { into = r; left = left_of g.value; from = p; right = e.Name (read g.name) }

port_in : (r p : Place) (g : Given) (d : Decl) (i o : Bool) → d.input ≡ i → d.output ≡ o → (k : Link) → Among (port_link r p g d) k → (in_link r p g ≡ k) ⊎ (out_link r p g ≡ k)
port_in r p g d true o e f k h =
    let z : Among (in_link r p g ∷ []) k = rw e at h in ⊎_elim (λ i. inl i) (λ z. absurd z) z
port_in r p g d false true e f k h =
    let z : Among (out_link r p g ∷ []) k = rw (e, f) at h in ⊎_elim (λ i. inr i) (λ z. absurd z) z
port_in r p g d false false e f k h = let z : Among [] k = rw (e, f) at h in absurd z

link_at : (ss : List Scope) (s t : Scope) → Among ss s → Among ss t → (k : Link) → k.into ≡ place_of t → k.from ≡ place_of s → LinkAt ss k
link_at ss s t hs ht k i j = record { into = (t, ht, i); from = (s, hs, j) }

ports_at : (ss : List Scope) (s t : Scope) → Among ss s → Among ss t → (g : Given) (o : Option Decl) (k : Link) → Among (port_links (place_of s) (place_of t) g o) k → LinkAt ss k
ports_at ss s t hs ht g None k h = absurd h
ports_at ss s t hs ht g (Some d) k h =
    ⊎_elim (λ (i : in_link (place_of s) (place_of t) g ≡ k). link_at ss s t hs ht k (ap (λ (u : Link). u.into) (sym i)) (ap (λ (u : Link). u.from) (sym i)))
    (λ (i : out_link (place_of s) (place_of t) g ≡ k). link_at ss t s ht hs k (ap (λ (u : Link). u.into) (sym i)) (ap (λ (u : Link). u.from) (sym i)))
    (port_in (place_of s) (place_of t) g d d.input d.output refl refl k h)

instance_at' : (ss : List Scope) (s : Scope) (i : Inner) → Among ss s → (o : Option Scope) → ((t : Scope) → o ≡ Some t → Among ss t) → (k : Link) → Among (connections (place_of s) i o) k → LinkAt ss k
instance_at' ss s i hs None kids k h = absurd h
instance_at' ss s i hs (Some t) kids k h =
    let f = among_flat (connection (place_of s) t) (given_to (port_names t.module') i.args) k h in
    ports_at ss s t hs (kids t refl) f.0 (decl_at (signals_in t.module') f.0.name) k f.2

links_at : (ms : List Module) (top : Name) (ss : List Scope) → AreScopes ms top ss → (s : Scope) → Among ss s → (k : Link) → Among (links_of ms s) k → LinkAt ss k
links_at ms top ss are s h k m =
    ⊎_elim
    (λ (a : Among (map (own_link (place_of s)) (assigns_in s.module')) k).
    let f = among_map (own_link (place_of s)) (assigns_in s.module') k a in
    subst (λ (u : Link). LinkAt ss u) f.2 (record { into = (s, h, refl); from = (s, h, refl) }))
    (λ (b : Among (flat_map (inner_links ms s) (instances_in s.module')) k).
    let f = among_flat (inner_links ms s) (instances_in s.module') k b in
    instance_at' ss s f.0 h (child ms s f.0) (λ t e. are.inner s t f.0 h f.1 e) k f.2)
    (among_append (map (own_link (place_of s)) (assigns_in s.module')) (flat_map (inner_links ms s) (instances_in s.module')) k m)

moved_linked : (k : Link) (q : Place) (c : Cycle) → MovesInto k.into q → MovesInto k.from q → IsLinkDeclared k → linked (own_link q (moved_link k)) c ≡ linked k c
moved_linked k q c m n d =
    let s = pieces_moved k.into q c k.left m d.left in
    let a = expr_moved k.from q c k.right n d.right in
    λ r. λ (x : Name). give (s r) ((a r).value (max (a r).width (total (s r))) (a r).signed % 2 ^ total (s r)) c x

-- ---- what is assigned has signals' names

mutual
  names_are : (p : Place) (left : Lval) → AssignsSignals p left → (y : Name) → Among (left_names left) y → IsSignal p y
  names_are p (l.Name x) d y h = ⊎_elim (λ (i : x ≡ y). subst (λ z. IsSignal p z) i d) (λ z. absurd z) h
  names_are p (l.Select x a) d y h = ⊎_elim (λ (i : x ≡ y). subst (λ z. IsSignal p z) i d.0) (λ z. absurd z) h
  names_are p (l.Part x span a b) d y h = ⊎_elim (λ (i : x ≡ y). subst (λ z. IsSignal p z) i d.0) (λ z. absurd z) h
  names_are p (l.Concat' q row) d y h = row_are p row d y h

  row_are : {n : _} (p : Place) (row : Row_of-Lval n) → AllAssignSignals p row → (y : Name) → Among (row_names row) y → IsSignal p y
  row_are p end_of-Lval d y h = absurd h
  row_are p (more_of-Lval a rest) d y h =
      ⊎_elim (λ z. names_are p a d.0 y z) (λ z. row_are p rest d.1 y z) (among_append (left_names a) (row_names rest) y h)

mutual
  lefts_are : (p : Place) (body : Stmt) → IsDeclared p body → (left : Lval) → Among (lefts body) left → AssignsSignals p left
  lefts_are p s.Empty d left h = absurd h
  lefts_are p (s.Block' n q row) d left h = seq_are p row d left h
  lefts_are p (s.If' a q (more_of-Stmt x end_of-Stmt)) d left h = lefts_are p x d.1 left h
  lefts_are p (s.IfElse' a q (more_of-Stmt x end_of-Stmt) g (more_of-Stmt y end_of-Stmt)) d left h =
      ⊎_elim (λ z. lefts_are p x d.1 left z) (λ z. lefts_are p y d.2 left z) (among_append (lefts x) (lefts y) left h)
  lefts_are p (s.Case' kind a q row) d left h = cases_are p row d.1 left h
  lefts_are p (s.Blocking a b) d left h = ⊎_elim (λ (i : a ≡ left). subst (λ z. AssignsSignals p z) i d.0) (λ z. absurd z) h
  lefts_are p (s.Nonblocking a b) d left h = ⊎_elim (λ (i : a ≡ left). subst (λ z. AssignsSignals p z) i d.0) (λ z. absurd z) h

  seq_are : {n : _} (p : Place) (row : Row_of-Stmt n) → AreDeclared p row → (left : Lval) → Among (row_lefts row) left → AssignsSignals p left
  seq_are p end_of-Stmt d left h = absurd h
  seq_are p (more_of-Stmt a rest) d left h =
      ⊎_elim (λ z. lefts_are p a d.0 left z) (λ z. seq_are p rest d.1 left z) (among_append (lefts a) (row_lefts rest) left h)

  cases_are : {n : _} (p : Place) (row : Row_of-CaseItem n) → AreItemsDeclared p row → (left : Lval) → Among (case_lefts row) left → AssignsSignals p left
  cases_are p end_of-CaseItem d left h = absurd h
  cases_are p (more_of-CaseItem labels body rest) d left h =
      ⊎_elim (λ z. lefts_are p body d.1 left z) (λ z. cases_are p rest d.2 left z) (among_append (lefts body) (case_lefts rest) left h)

body_names_are : (p : Place) (body : Stmt) → IsDeclared p body → (y : Name) → Among (flat_map left_names (lefts body)) y → IsSignal p y
body_names_are p body d y h = let f = among_flat left_names (lefts body) y h in names_are p f.0 (lefts_are p body d f.0 f.1) y f.2

first_name : (g : Signal) (b : Bool) → nat_eq g.depth 0 ≡ b → Among (names_of g) g.name
first_name g true e = rw e (inl refl)
first_name g false e = rw e (inl refl)

name_known : (gs : List Signal) (g : Signal) → Among gs g → Among (known gs) g.name
name_known gs g h = flat_among names_of gs g g.name h (first_name g (nat_eq g.depth 0) refl)

-- ---- one list of modules and its scopes

module _ (ms : List Module) (top : Name) (ss : List Scope) (f : Flat) (of : IsFlatOf ms top ss f) (are : AreScopes ms top ss) (can : CanFlatten ms ss) where
  moves_in : (u : Scope) → Among ss u → MovesInto (place_of u) (flat_place f)
  moves_in u h = subst (λ gs. MovesInto (place_of u) (bare gs)) (sym of.signals) (scope_moves ss can.apart u h (can.usable u h).constants (can.usable u h).distinct)

  signal_in : (u : Scope) (g : Signal) → Among ss u → Among (place_of u).signals g → Among f.signals (moved_signal u.prefix g)
  signal_in u g h k = subst (λ gs. Among gs (moved_signal u.prefix g)) (sym of.signals) (flat_among flat_signals ss u (moved_signal u.prefix g) h (map_among (moved_signal u.prefix) (place_of u).signals g k))

  signal_of' : (g : Signal) → Among f.signals g → (u : Scope) × Among ss u × (k : Signal) × Among (place_of u).signals k × (moved_signal u.prefix k ≡ g)
  signal_of' g h =
      let r = among_flat flat_signals ss g (subst (λ gs. Among gs g) of.signals h) in
      let q = among_map (moved_signal r.0.prefix) (place_of r.0).signals g r.2 in
      (r.0, r.1, q.0, q.1, q.2)

  block_in : (u : Scope) (b : Block) → Among ss u → Among (blocks_in u.module') b → Among f.blocks (moved_block (place_of u) b)
  block_in u b h k = subst (λ bs. Among bs (moved_block (place_of u) b)) (sym of.blocks) (flat_among flat_blocks ss u (moved_block (place_of u) b) h (map_among (moved_block (place_of u)) (blocks_in u.module') b k))

  block_of : (b : Always) → Among f.blocks b → (u : Scope) × Among ss u × (k : Block) × Among (blocks_in u.module') k × (moved_block (place_of u) k ≡ b)
  block_of b h =
      let r = among_flat flat_blocks ss b (subst (λ bs. Among bs b) of.blocks h) in
      let q = among_map (moved_block (place_of r.0)) (blocks_in r.0.module') b r.2 in
      (r.0, r.1, q.0, q.1, q.2)

  assign_in : (u : Scope) (k : Link) → Among ss u → Among (links_of ms u) k → Among f.assigns (moved_link k)
  assign_in u k h m = subst (λ as'. Among as' (moved_link k)) (sym of.assigns) (flat_among (flat_assigns ms) ss u (moved_link k) h (map_among moved_link (links_of ms u) k m))

  assign_of' : (a : Assign) → Among f.assigns a → (u : Scope) × Among ss u × (k : Link) × Among (links_of ms u) k × (moved_link k ≡ a)
  assign_of' a h =
      let r = among_flat (flat_assigns ms) ss a (subst (λ as'. Among as' a) of.assigns h) in
      let q = among_map moved_link (links_of ms r.0) a r.2 in
      (r.0, r.1, q.0, q.1, q.2)

  -- a signal of the whole list whose name is one of a scope's stands in the scope
  own_signal : (u : Scope) → Among ss u → (y : Name) → IsSignal (place_of u) y → (g : Signal) → Among f.signals g → g.name ≡ u.prefix ++ y →
      (k : Signal) × Among (place_of u).signals k × (k.name ≡ y) × (moved_signal u.prefix k ≡ g)
  own_signal u h y d g m e =
      let r = signal_of' g m in
      let n : r.0.prefix ++ r.2.name ≡ u.prefix ++ y = ap (λ (z : Signal). z.name) r.4 ∙ e in
      let same : r.0 ≡ u = can.apart u r.0 h r.1 y r.2.name (signal_known (place_of u).signals y d.1) (name_known (place_of r.0).signals r.2 r.3) n in
      own_by u y g r.0 r.2 r.3 n r.4 same
    where
      own_by : (u : Scope) (y : Name) (g : Signal) (t : Scope) (k : Signal) → Among (place_of t).signals k → t.prefix ++ k.name ≡ u.prefix ++ y → moved_signal t.prefix k ≡ g → t ≡ u →
          (k : Signal) × Among (place_of u).signals k × (k.name ≡ y) × (moved_signal u.prefix k ≡ g)
      own_by u y g t k m n e same =
          let p : t.prefix ≡ u.prefix = ap (λ (z : Scope). z.prefix) same in
          (k, subst (λ (z : Scope). Among (place_of z).signals k) same m, append_cancel_left u.prefix k.name y (sym (ap (λ z. z ++ k.name) p) ∙ n), sym (ap (λ z. moved_signal z k) p) ∙ e)

  -- ---- what drives

  full_to : (u : Scope) → Among ss u → (left : Lval) → AssignsSignals (place_of u) left → (x : Name) (b : ℕ) →
      DrivesFull (place_of u) left x b → DrivesFull (flat_place f) (moved_left u.prefix u.params left) x b
  full_to u h left d x b k =
      ⊎_elim
      (λ (i : DrivesBit (place_of u) left x b). inl (
        moved_signal u.prefix i.0,
        signal_in u i.0 h i.1,
        i.2,
        i.3,
        drives_to (place_of u) f.signals (moves_in u h) (can.usable u h).constants left d (u.prefix ++ i.0.name) i.0.name b refl i.4,
      ))
      (λ (w : DrivesWord (place_of u) left x). inr (
        moved_signal u.prefix w.0,
        signal_in u w.0 h w.1,
        w.2,
        w.3,
        w.4,
        stores_to (place_of u) f.signals (can.usable u h).constants left d (u.prefix ++ w.0.name) w.0.name w.3 refl w.5,
        w.6 ∙ sym (word_under u.prefix w.0.name w.3),
      ))
      k

  full_from : (u : Scope) → Among ss u → (left : Lval) → AssignsSignals (place_of u) left → (x : Name) (b : ℕ) →
      DrivesFull (flat_place f) (moved_left u.prefix u.params left) x b → DrivesFull (place_of u) left x b
  full_from u h left d x b k =
      ⊎_elim
      (λ (i : DrivesBit (flat_place f) (moved_left u.prefix u.params left) x b).
      let r = drives_from (place_of u) f.signals (moves_in u h) (can.usable u h).constants left d i.0.name b i.4 in
      let o = own_signal u h r.0 (names_are (place_of u) left d r.0 (drives_named (place_of u) left r.0 b r.2)) i.0 i.1 r.1 in
      let plain : nat_eq o.0.depth 0 ≡ true = ap (λ (z : Signal). nat_eq z.depth 0) o.3 ∙ i.2 in
      let same : i.0.name ≡ u.prefix ++ o.0.name = r.1 ∙ ap (λ y. u.prefix ++ y) (sym o.2) in
      inl (o.0, o.1, plain, i.3 ∙ same, subst (λ y. Drives (place_of u) left y b) (sym o.2) r.2))
      (λ (w : DrivesWord (flat_place f) (moved_left u.prefix u.params left) x).
      let n = stores_from (place_of u) f.signals (can.usable u h).constants left d w.0.name w.3 w.5 in
      let o = own_signal u h n.0 (names_are (place_of u) left d n.0 n.2) w.0 w.1 n.1 in
      let deep : nat_eq o.0.depth 0 ≡ false = ap (λ (z : Signal). nat_eq z.depth 0) o.3 ∙ w.2 in
      let below : w.3 < o.0.depth = subst (λ (z : Signal). w.3 < z.depth) (sym o.3) w.4 in
      let word : x ≡ u.prefix ++ (word_name (read o.0.name) w.3).text = w.6 ∙ ap (λ (z : Signal). (word_name (read z.name) w.3).text) (sym o.3) ∙ word_under u.prefix o.0.name w.3 in
      inr (o.0, o.1, deep, w.3, below, subst (λ y. Stores (place_of u) left y w.3) (sym o.2) n.3, word))
      k

  -- ---- registers

  assigned_to : (u : Scope) → Among ss u → (body : Stmt) → (x : Name) → IsAssigned (place_of u) body x → IsAssigned (flat_place f) (moved_stmt u.prefix u.params body) x
  assigned_to u h body x a = (
    u.prefix ++ a.0,
    subst (λ xs. Among xs (u.prefix ++ a.0)) (sym (assigned_names u.prefix u.params body)) (map_among (λ y. u.prefix ++ y) (flat_map left_names (lefts body)) a.0 a.1),
    moved_signal u.prefix a.2,
    signal_in u a.2 h a.3,
    (
      ap (λ y. u.prefix ++ y) a.4.0,
      moved_signal u.prefix a.4.1,
      subst (λ gs. Among gs (moved_signal u.prefix a.4.1)) (sym (holders_moved u.prefix a.2)) (map_among (moved_signal u.prefix) (holders a.2) a.4.1 a.4.2),
      a.4.3,
    ),
  )

  assigned_from : (u : Scope) → Among ss u → (body : Stmt) → IsDeclared (place_of u) body → (x : Name) → IsAssigned (flat_place f) (moved_stmt u.prefix u.params body) x → IsAssigned (place_of u) body x
  assigned_from u h body d x a =
      let n = among_map (λ y. u.prefix ++ y) (flat_map left_names (lefts body)) a.0 (subst (λ xs. Among xs a.0) (assigned_names u.prefix u.params body) a.1) in
      let o = own_signal u h n.0 (body_names_are (place_of u) body d n.0 n.1) a.2 a.3 (a.4.0 ∙ sym n.2) in
      let ws = among_map (moved_signal u.prefix) (holders o.0) a.4.1
      (subst (λ gs. Among gs a.4.1) (holders_moved u.prefix o.0) (subst (λ (z : Signal). Among (holders z) a.4.1) (sym o.3) a.4.2)) in
      (n.0, n.1, o.0, o.1, (o.2, ws.0, ws.1, a.4.3 ∙ sym (ap (λ (z : Signal). z.name) ws.2)))

  -- ---- what drives, over all scopes

  link_of : (k : Link) (u : Scope) → Among ss u → k.into ≡ place_of u → AssignsSignals k.into k.left → (x : Name) (b : ℕ) →
      (DrivesFull k.into k.left x b → DrivesFull (flat_place f) (moved_left k.into.prefix k.into.params k.left) x b)
      × (DrivesFull (flat_place f) (moved_left k.into.prefix k.into.params k.left) x b → DrivesFull k.into k.left x b)
  link_of k u h e d x b =
      subst (λ (p : Place). AssignsSignals p k.left → (DrivesFull p k.left x b → DrivesFull (flat_place f) (moved_left p.prefix p.params k.left) x b)
      × (DrivesFull (flat_place f) (moved_left p.prefix p.params k.left) x b → DrivesFull p k.left x b)) (sym e)
      (λ z. (full_to u h k.left z x b, full_from u h k.left z x b)) d

  driven_from : (x : Name) (b : ℕ) → IsDriven f x b → IsDrivenFrom ms top x b
  driven_from x b h =
      ⊎_elim
      (λ (a : (a : Assign) × Among f.assigns a × DrivesFull (flat_place f) a.left x b).
      let r = assign_of' a.0 a.1 in
      let at = links_at ms top ss are r.0 r.1 r.2 r.3 in
      let d = (can.usable r.0 r.1).links r.2 r.3 in
      (r.0, are.only r.0 r.1, inl (r.2, r.3, (link_of r.2 at.into.0 at.into.1 at.into.2 d.left x b).1 (subst (λ (u : Assign). DrivesFull (flat_place f) u.left x b) (sym r.4) a.2))))
      (λ (c : (c : Always) × Among f.blocks c × (c.clocked ≡ false) × (left : Lval) × Among (lefts c.body) left × DrivesFull (flat_place f) left x b).
      let r = block_of c.0 c.1 in
      let m = among_map (moved_left r.0.prefix r.0.params) (lefts r.2.body) c.3
      (subst (λ ls. Among ls c.3) (lefts_moved r.0.prefix r.0.params r.2.body) (subst (λ (u : Always). Among (lefts u.body) c.3) (sym r.4) c.4)) in (
        r.0,
        are.only r.0 r.1,
        inr (
          r.2,
          r.3,
          ap (λ (u : Always). u.clocked) r.4 ∙ c.2,
          m.0,
          m.1,
          full_from r.0 r.1 m.0 (lefts_are (place_of r.0) r.2.body ((can.usable r.0 r.1).blocks r.2 r.3) m.0 m.1) x b (subst (λ a. DrivesFull (flat_place f) a x b) (sym m.2) c.5),
        ),
      ))
      h

  driven_to : (x : Name) (b : ℕ) → IsDrivenFrom ms top x b → IsDriven f x b
  driven_to x b h =
      let here = are.each h.0 h.1 in
      ⊎_elim
      (λ (a : (k : Link) × Among (links_of ms h.0) k × DrivesFull k.into k.left x b).
      let at = links_at ms top ss are h.0 here a.0 a.1 in
      let d = (can.usable h.0 here).links a.0 a.1 in
      inl (moved_link a.0, assign_in h.0 a.0 here a.1, (link_of a.0 at.into.0 at.into.1 at.into.2 d.left x b).0 a.2))
      (λ (c : (c : Block) × Among (blocks_in h.0.module') c × (is_clocked c.events ≡ false) × (left : Lval) × Among (lefts c.body) left × DrivesFull (place_of h.0) left x b).
      inr (
        moved_block (place_of h.0) c.0,
        block_in h.0 c.0 here c.1,
        c.2,
        moved_left h.0.prefix h.0.params c.3,
        subst (λ ls. Among ls (moved_left h.0.prefix h.0.params c.3)) (sym (lefts_moved h.0.prefix h.0.params c.0.body)) (map_among (moved_left h.0.prefix h.0.params) (lefts c.0.body) c.3 c.4),
        full_to h.0 here c.3 (lefts_are (place_of h.0) c.0.body ((can.usable h.0 here).blocks c.0 c.1) c.3 c.4) x b c.5,
      ))
      h.2

  clocked_from' : (x : Name) (b : ℕ) → IsClocked f x b → IsClockedFrom ms top x b
  clocked_from' x b c =
      let r = block_of c.0 c.1 in
      let m = among_map (moved_left r.0.prefix r.0.params) (lefts r.2.body) c.3
      (subst (λ ls. Among ls c.3) (lefts_moved r.0.prefix r.0.params r.2.body) (subst (λ (u : Always). Among (lefts u.body) c.3) (sym r.4) c.4)) in (
        r.0,
        are.only r.0 r.1,
        r.2,
        r.3,
        ap (λ (u : Always). u.clocked) r.4 ∙ c.2,
        m.0,
        m.1,
        full_from r.0 r.1 m.0 (lefts_are (place_of r.0) r.2.body ((can.usable r.0 r.1).blocks r.2 r.3) m.0 m.1) x b (subst (λ a. DrivesFull (flat_place f) a x b) (sym m.2) c.5),
      )

  clocked_to : (x : Name) (b : ℕ) → IsClockedFrom ms top x b → IsClocked f x b
  clocked_to x b h =
      let here = are.each h.0 h.1 in (
        moved_block (place_of h.0) h.2,
        block_in h.0 h.2 here h.3,
        h.4,
        moved_left h.0.prefix h.0.params h.5,
        subst (λ ls. Among ls (moved_left h.0.prefix h.0.params h.5)) (sym (lefts_moved h.0.prefix h.0.params h.2.body)) (map_among (moved_left h.0.prefix h.0.params) (lefts h.2.body) h.5 h.6),
        full_to h.0 here h.5 (lefts_are (place_of h.0) h.2.body ((can.usable h.0 here).blocks h.2 h.3) h.5 h.6) x b h.7,
      )

  register_from : (x : Name) → IsRegister f x → IsRegisterFrom ms top x
  register_from x h =
      let r = block_of h.0 h.1 in (
        r.0,
        are.only r.0 r.1,
        r.2,
        r.3,
        ap (λ (u : Always). u.clocked) r.4 ∙ h.2,
        assigned_from r.0 r.1 r.2.body ((can.usable r.0 r.1).blocks r.2 r.3) x (subst (λ (u : Always). IsAssigned (flat_place f) u.body x) (sym r.4) h.3),
      )

  register_to : (x : Name) → IsRegisterFrom ms top x → IsRegister f x
  register_to x h =
      let here = are.each h.0 h.1 in
      (moved_block (place_of h.0) h.2, block_in h.0 h.2 here h.3, h.4, assigned_to h.0 here h.2.body x h.5)

  -- ---- cycles

  links_same : (c : Cycle) (u : Scope) → Among ss u → (k : Link) → Among (links_of ms u) k → linked (own_link (flat_place f) (moved_link k)) c ≡ linked k c
  links_same c u h k m =
      let at = links_at ms top ss are u h k m in
      moved_linked k (flat_place f) c
      (subst (λ (p : Place). MovesInto p (flat_place f)) (sym at.into.2) (moves_in at.into.0 at.into.1))
      (subst (λ (p : Place). MovesInto p (flat_place f)) (sym at.from.2) (moves_in at.from.0 at.from.1))
      ((can.usable u h).links k m)

  runs_same : (t : Bool) (c d : Cycle) (u : Scope) → Among ss u → (b : Block) → Among (blocks_in u.module') b → run t (flat_place f) (moved_stmt u.prefix u.params b.body) c d ≡ run t (place_of u) b.body c d
  runs_same t c d u h b m = run_moved t (place_of u) (flat_place f) b.body c d (moves_in u h) ((can.usable u h).blocks b m)

  cycle_from : (c : Cycle) → IsCycle f c → IsCycleFrom ms top c
  cycle_from c h = record {
    fits = λ u is g w k m.
        h.fits (moved_signal u.prefix g) (moved_signal u.prefix w) (signal_in u g (are.each u is) k)
        (subst (λ gs. Among gs (moved_signal u.prefix w)) (sym (holders_moved u.prefix g)) (map_among (moved_signal u.prefix) (holders g) w m));
    links = λ u is k m x. sym (ap (λ (d : Cycle). d x) (links_same c u (are.each u is) k m)) ∙ h.links (moved_link k) (assign_in u k (are.each u is) m) x;
    blocks = λ u is b m comb x.
        sym (ap (λ (d : Cycle). d x) (runs_same true c c u (are.each u is) b m)) ∙ h.blocks (moved_block (place_of u) b) (block_in u b (are.each u is) m) comb x;
    unset = λ u is g w b k m nd nr ni.
        h.unset (moved_signal u.prefix g) (moved_signal u.prefix w) b (signal_in u g (are.each u is) k)
        (subst (λ gs. Among gs (moved_signal u.prefix w)) (sym (holders_moved u.prefix g)) (map_among (moved_signal u.prefix) (holders g) w m))
        (λ z. nd (driven_from (u.prefix ++ w.name) b z)) (λ z. nr (register_from (u.prefix ++ w.name) z)) (λ z. ni ((of.inputs (u.prefix ++ w.name)).0 z));
  }

  cycle_to : (c : Cycle) → IsCycleFrom ms top c → IsCycle f c
  cycle_to c h = record {
    fits = λ g w k m.
        let r = signal_of' g k in
        let ws = among_map (moved_signal r.0.prefix) (holders r.2) w (subst (λ gs. Among gs w) (holders_moved r.0.prefix r.2) (subst (λ (z : Signal). Among (holders z) w) (sym r.4) m)) in
        subst (λ (z : Signal). c z.name < 2 ^ z.width) ws.2 (h.fits r.0 (are.only r.0 r.1) r.2 ws.0 r.3 ws.1);
    links = λ a k x.
        let r = assign_of' a k in
        subst (λ (u : Assign). linked (own_link (flat_place f) u) c x ≡ c x) r.4 (ap (λ (d : Cycle). d x) (links_same c r.0 r.1 r.2 r.3) ∙ h.links r.0 (are.only r.0 r.1) r.2 r.3 x);
    blocks = λ b k comb x.
        let r = block_of b k in
        subst (λ (u : Always). run true (flat_place f) u.body c c x ≡ c x) r.4
        (ap (λ (d : Cycle). d x) (runs_same true c c r.0 r.1 r.2 r.3) ∙ h.blocks r.0 (are.only r.0 r.1) r.2 r.3 (ap (λ (u : Always). u.clocked) r.4 ∙ comb) x);
    unset = λ g w b k m nd nr ni.
        let r = signal_of' g k in
        let ws = among_map (moved_signal r.0.prefix) (holders r.2) w (subst (λ gs. Among gs w) (holders_moved r.0.prefix r.2) (subst (λ (z : Signal). Among (holders z) w) (sym r.4) m)) in
        let n : r.0.prefix ++ ws.0.name ≡ w.name = ap (λ (z : Signal). z.name) ws.2 in
        sym (ap (λ y. bit_at (c y) b) n)
        ∙ h.unset r.0 (are.only r.0 r.1) r.2 ws.0 b r.3 ws.1
        (λ z. nd (subst (λ y. IsDriven f y b) n (driven_to (r.0.prefix ++ ws.0.name) b z)))
        (λ z. nr (subst (λ y. IsRegister f y) n (register_to (r.0.prefix ++ ws.0.name) z)))
        (λ z. ni (subst (λ y. IsInput f y) n ((of.inputs (r.0.prefix ++ ws.0.name)).1 z)));
  }

  -- ---- what follows

  follows_from : (c d : Cycle) → Follows f c d → FollowsFrom ms top c d
  follows_from c d h = record {
    driven = λ u is k m clocked left n x b z.
        let here = are.each u is in
        h.driven (moved_block (place_of u) k) (block_in u k here m) clocked (moved_left u.prefix u.params left)
        (subst (λ ls. Among ls (moved_left u.prefix u.params left)) (sym (lefts_moved u.prefix u.params k.body)) (map_among (moved_left u.prefix u.params) (lefts k.body) left n)) x b
        (full_to u here left (lefts_are (place_of u) k.body ((can.usable u here).blocks k m) left n) x b z)
        ∙ ap (λ (e : Cycle). bit_at (e x) b) (runs_same false c c u here k m);
    kept = λ x b r n. h.kept x b (register_to x r) (λ z. n (clocked_from' x b z));
  }

  follows_to : (c d : Cycle) → FollowsFrom ms top c d → Follows f c d
  follows_to c d h = record {
    driven = λ a k clocked left n x b z.
        let r = block_of a k in
        let m = among_map (moved_left r.0.prefix r.0.params) (lefts r.2.body) left
        (subst (λ ls. Among ls left) (lefts_moved r.0.prefix r.0.params r.2.body) (subst (λ (u : Always). Among (lefts u.body) left) (sym r.4) n)) in
        let w = full_from r.0 r.1 m.0 (lefts_are (place_of r.0) r.2.body ((can.usable r.0 r.1).blocks r.2 r.3) m.0 m.1) x b (subst (λ q. DrivesFull (flat_place f) q x b) (sym m.2) z) in
        h.driven r.0 (are.only r.0 r.1) r.2 r.3 (ap (λ (u : Always). u.clocked) r.4 ∙ clocked) m.0 m.1 x b w
        ∙ (sym (ap (λ (e : Cycle). bit_at (e x) b) (runs_same false c c r.0 r.1 r.2 r.3))
        ∙ ap (λ (u : Always). bit_at (run false (flat_place f) u.body c c x) b) r.4);
    kept = λ x b r n. h.kept x b (register_from x r) (λ z. n (clocked_to x b z));
  }

  pub keeps : KeepsRuns ms top f
  keeps = record { cycle = λ c. (cycle_from c, cycle_to c); follows = λ c d. (follows_from c d, follows_to c d) }
