-- Whole texts by their continuous assignments, blocks and connections.
use Rattle.std.proofs.Common.{◌≡◌, ℕ, Bool, true, false, List, [], ◌∷◌, ◌++◌, map, Option, Some, None, ◌⊎◌, inl, inr, ⊎_elim, refl, sym, subst, if◌then◌else◌}
use Rattle.std.specs.List.{flat_map}
use Rattle.vlog_tree.specs.declared.expr.Expr.{Expr}
use Rattle.vlog_tree.specs.declared.item.Assign.{Assign}
use Rattle.vlog_tree.specs.declared.module.Module.{Module}
use Rattle.vlog_tree.specs.declared.stmt.Lval.{Lval}
use Rattle.vlog_tree.specs.declared.stmt.Stmt.{Stmt}
use Rattle.vlog_tree.specs.declared.valuation.Entry.{Entry}
use Rattle.vlog_tree_runs.specs.Places.{Name, Among, Place}
use Rattle.vlog_tree_runs.specs.Blocks.{is_parameter, lefts}
use Rattle.vlog_tree_runs.specs.Contents.{Decl, signals_in, port_names, assigns_in, Block, blocks_in, Inner, instances_in}
use Rattle.vlog_tree_runs.specs.Scopes.{Scope, place_of, Given, given_to, left_of, child, decl_at, signal_of}
use Rattle.elab_flat_laws.proofs.Lists.{among_append, append_left, append_right, among_map, map_among, among_flat, flat_among}
use Rattle.elab_flat_faults.specs.Constants.{Taken, at_rest, alone, stored, assigned_to, compared, HasConstantNumbers, HasConstantSpans}
use Rattle.elab_flat_faults.specs.Texts.{Compared, numbers_in, alone_in, compared_in, stores_in}
use Rattle.elab_flat_faults.specs.FlatStands.{assigns_taken, block_taken, port_taken, port_left, inner_taken, inner_lefts, all_taken, fixed_lefts, block_lefts}
use Rattle.elab_flat_widths.specs.declared.violation.Violation.{Violation}
use Rattle.elab_flat_widths.specs.declared.violation.Violation.TheVariants as b
use Rattle.elab_flat_widths.specs.declared.side.Side.TheVariants as d
use Rattle.elab_flat_widths.specs.Taken.{IsSound, AllSound, SomeBreaks}
use Rattle.elab_flat_widths.specs.Stores.{NamesSignals, BreaksSize, IsSoundLeft, BreaksLeft, IsSoundStore, BreaksStore}
use Rattle.elab_flat_widths.specs.Usages.{Usage, Tests, Compares, Stores, usages, IsSoundUsage, BreaksUsage, IsSoundBody, BreaksBody}
use Rattle.elab_flat_widths.specs.Texts.{IsSoundGiven, BreaksGiven, IsSoundConnection, BreaksConnection, AreSoundConnections, SomeConnectionBreaks}
use Rattle.elab_flat_widths.proofs.Takes.{all_keep}
use Rattle.elab_flat_widths.proofs.Usages.{alones_of, compares_of, stores_of, alone_are, compared_are, stores_are, lefts_are}

-- the expressions and the left sides of a scope's text keep the rules
pub record IsSoundText (ms : List Module) (s : Scope) : Type 0 where
  pub assigns : (a : Assign) → Among (assigns_in s.module') a → IsSoundStore d.Continuous (place_of s) a
  pub blocks : (k : Block) → Among (blocks_in s.module') k → IsSoundBody (place_of s) k.body
  pub inners : (i : Inner) → Among (instances_in s.module') i → (t : Scope) → child ms s i ≡ Some t → AreSoundConnections (place_of s) t i

-- an expression or a left side of a scope's text breaks a rule
abbrev pub BreaksText : List Module → Scope → Violation → Type 0
BreaksText ms s b.Constant =
    SomeBreaks (is_parameter (place_of s)) (at_rest (place_of s)) (all_taken ms s) b.Constant
    ⊎ ((left : Lval)
    × ((Among (fixed_lefts ms s) left × (HasConstantNumbers (is_parameter (place_of s)) left → ⊥)) ⊎ (Among (block_lefts s) left × (HasConstantSpans (is_parameter (place_of s)) left → ⊥))))
BreaksText ms s b.Length =
    SomeBreaks (is_parameter (place_of s)) (at_rest (place_of s)) (all_taken ms s) b.Length
    ⊎ ((left : Lval) × Among (fixed_lefts ms s ++ block_lefts s) left × NamesSignals (place_of s) left × BreaksSize (place_of s) left)
BreaksText ms s b.Memory = ⊥

-- a continuous assignment's expressions in their places
abbrev assign_taken : Place → Assign → List Taken
assign_taken p a = assigned_to p a ∷ map (alone (at_rest p)) (numbers_in a.left)

module _ (p : Place) where
  abbrev v : List Entry
  v = at_rest p

  abbrev test : Name → Bool
  test = is_parameter p

  -- ---- usages of statements

  stored_usage : (u : Usage) (a : Assign) → Among (stores_of u) a → IsSoundUsage p u → IsSoundStore d.Procedural p a
  stored_usage (Tests c) a k h = absurd k
  stored_usage (Compares c) a k h = absurd k
  stored_usage (Stores c) a (inl e) h = subst (IsSoundStore d.Procedural p) e h
  stored_usage (Stores c) a (inr k) h = absurd k

  alone_usage : (u : Usage) (a : Expr) → Among (alones_of u) a → IsSoundUsage p u → IsSound test v (alone v a)
  alone_usage (Tests c) a (inl e) h = subst (λ z. IsSound test v (alone v z)) e h
  alone_usage (Tests c) a (inr k) h = absurd k
  alone_usage (Compares c) a k h = absurd k
  alone_usage (Stores c) a k h = h.left.good.numbers (alone v a) (map_among (alone v) (numbers_in c.left) a k)

  compared_usage : (u : Usage) (c : Compared) → Among (compares_of u) c → IsSoundUsage p u → AllSound test v (compared v c)
  compared_usage (Tests a) c k h = absurd k
  compared_usage (Compares a) c (inl e) h = subst (λ z. AllSound test v (compared v z)) e h
  compared_usage (Compares a) c (inr k) h = absurd k
  compared_usage (Stores a) c k h = absurd k

  abbrev body_taken : Stmt → List Taken
  body_taken t = map (assigned_to p) (stores_in t) ++ map (alone v) (alone_in t) ++ flat_map (compared v) (compared_in t)

  module _ (t : Stmt) where
    abbrev us : List Usage
    us = usages t

    store_sound : IsSoundBody p t → (a : Assign) → Among (stores_in t) a → IsSoundStore d.Procedural p a
    store_sound h a k = let r = among_flat stores_of us a (subst (λ zs. Among zs a) (stores_are t) k) in stored_usage r.0 a r.2 (h r.0 r.1)

    pub body_sound : IsSoundBody p t → AllSound test v (body_taken t)
    body_sound h x k = ⊎_elim
        (λ g. ⊎_elim
        (λ i. let r = among_map (assigned_to p) (stores_in t) x i in subst (IsSound test v) r.2 (store_sound h r.0 r.1).right)
        (λ i. let r = among_map (alone v) (alone_in t) x i in
        let q = among_flat alones_of us r.0 (subst (λ zs. Among zs r.0) (alone_are t) r.1) in
        subst (IsSound test v) r.2 (alone_usage q.0 r.0 q.2 (h q.0 q.1)))
        (among_append (map (assigned_to p) (stores_in t)) (map (alone v) (alone_in t)) x g))
        (λ g. let r = among_flat (compared v) (compared_in t) x g in
        let q = among_flat compares_of us r.0 (subst (λ zs. Among zs r.0) (compared_are t) r.1) in
        compared_usage q.0 r.0 q.2 (h q.0 q.1) x r.2)
        (among_append (map (assigned_to p) (stores_in t) ++ map (alone v) (alone_in t)) (flat_map (compared v) (compared_in t)) x k)

    pub body_left : IsSoundBody p t → (left : Lval) → Among (lefts t) left → IsSoundLeft d.Procedural p left
    body_left h left k =
        let r = among_map (λ (a : Assign). a.left) (stores_in t) left (subst (λ zs. Among zs left) (lefts_are t) k) in
        subst (IsSoundLeft d.Procedural p) r.2 (store_sound h r.0 r.1).left

    -- what is used is in the body
    pub in_stores : (u : Usage) (a : Assign) → Among us u → Among (stores_of u) a → Among (stores_in t) a
    in_stores u a k g = subst (λ zs. Among zs a) (sym (stores_are t)) (flat_among stores_of us u a k g)

    in_alone : (u : Usage) (a : Expr) → Among us u → Among (alones_of u) a → Among (body_taken t) (alone v a)
    in_alone u a k g =
        append_left (map (assigned_to p) (stores_in t) ++ map (alone v) (alone_in t)) (flat_map (compared v) (compared_in t)) (alone v a)
        (append_right (map (assigned_to p) (stores_in t)) (map (alone v) (alone_in t)) (alone v a)
        (map_among (alone v) (alone_in t) a (subst (λ zs. Among zs a) (sym (alone_are t)) (flat_among alones_of us u a k g))))

    in_assigned : (a : Assign) → Among (stores_in t) a → Among (body_taken t) (assigned_to p a)
    in_assigned a k =
        append_left (map (assigned_to p) (stores_in t) ++ map (alone v) (alone_in t)) (flat_map (compared v) (compared_in t)) (assigned_to p a)
        (append_left (map (assigned_to p) (stores_in t)) (map (alone v) (alone_in t)) (assigned_to p a) (map_among (assigned_to p) (stores_in t) a k))

    in_compared : (u : Usage) (c : Compared) (x : Taken) → Among us u → Among (compares_of u) c → Among (compared v c) x → Among (body_taken t) x
    in_compared u c x k g i =
        append_right (map (assigned_to p) (stores_in t) ++ map (alone v) (alone_in t)) (flat_map (compared v) (compared_in t)) x
        (flat_among (compared v) (compared_in t) c x (subst (λ zs. Among zs c) (sym (compared_are t)) (flat_among compares_of us u c k g)) i)

    -- a usage that breaks a rule: an expression of the body, or a left side
    pub usage_breaks : (u : Usage) → Among us u → (w : Violation) → BreaksUsage p u w → SomeBreaks test v (body_taken t) w ⊎ ((left : Lval) × Among (lefts t) left × BreaksLeft d.Procedural p left w)
    usage_breaks (Tests a) k w h = inl (alone v a, in_alone (Tests a) a k (inl refl), h)
    usage_breaks (Compares c) k w h = inl (h.0, in_compared (Compares c) c h.0 k (inl refl) h.1, h.2)
    usage_breaks (Stores a) k w (inl h) =
        inr (a.left, subst (λ zs. Among zs a.left) (sym (lefts_are t)) (map_among (λ (z : Assign). z.left) (stores_in t) a (in_stores (Stores a) a k (inl refl))), h)
    usage_breaks (Stores a) k w (inr h) = inl (assigned_to p a, in_assigned a (in_stores (Stores a) a k (inl refl)), h)

    -- the numbers of its left sides are among the expressions
    pub left_numbers : (left : Lval) → Among (lefts t) left → (x : Taken) → Among (map (alone v) (numbers_in left)) x → Among (body_taken t) x
    left_numbers left k x g =
        let r = among_map (λ (a : Assign). a.left) (stores_in t) left (subst (λ zs. Among zs left) (lefts_are t) k) in
        let u = among_flat stores_of us r.0 (subst (λ zs. Among zs r.0) (stores_are t) r.1) in
        let n = among_map (alone v) (numbers_in left) x g in
        subst (Among (body_taken t)) n.2 (in_alone u.0 n.0 u.1 (of_store u.0 r.0 u.2 n.0 (subst (λ z. Among (numbers_in z) n.0) (sym r.2) n.1)))
      where
        of_store : (u : Usage) (a : Assign) → Among (stores_of u) a → (c : Expr) → Among (numbers_in a.left) c → Among (alones_of u) c
        of_store (Tests z) a k c g = absurd k
        of_store (Compares z) a k c g = absurd k
        of_store (Stores z) a (inl e) c g = subst (λ y. Among (numbers_in y.left) c) (sym e) g
        of_store (Stores z) a (inr k) c g = absurd k

  -- ---- connections

  given_sound : (a : Expr) (yes : Bool) (n : ℕ) → IsSoundGiven p a (if yes then Some n else None) → AllSound test v (if yes then stored v n a ∷ [] else map (alone v) (numbers_in (left_of a)))
  given_sound a true n h x (inl e) = subst (IsSound test v) e h
  given_sound a true n h x (inr k) = absurd k
  given_sound a false n h x k = h.good.numbers x k

  given_left : (a : Expr) (yes : Bool) (n : ℕ) → IsSoundGiven p a (if yes then Some n else None) → (left : Lval) → Among (if yes then [] else left_of a ∷ []) left → IsSoundLeft d.Continuous p left
  given_left a true n h left k = absurd k
  given_left a false n h left (inl e) = subst (IsSoundLeft d.Continuous p) e h
  given_left a false n h left (inr k) = absurd k

  given_breaks : (a : Expr) (yes : Bool) (n : ℕ) (w : Violation) → BreaksGiven p a (if yes then Some n else None) w →
      SomeBreaks test v (if yes then stored v n a ∷ [] else map (alone v) (numbers_in (left_of a))) w ⊎ ((left : Lval) × Among (if yes then [] else left_of a ∷ []) left × BreaksLeft d.Continuous p left w)
  given_breaks a true n w h = inl (stored v n a, inl refl, h)
  given_breaks a false n w h = inr (left_of a, inl refl, h)

  given_numbers : (a : Expr) (yes : Bool) (n : ℕ) (left : Lval) → Among (if yes then [] else left_of a ∷ []) left → (x : Taken) → Among (map (alone v) (numbers_in left)) x →
      Among (if yes then stored v n a ∷ [] else map (alone v) (numbers_in (left_of a))) x
  given_numbers a true n left k x g = absurd k
  given_numbers a false n left (inl e) x g = subst (λ z. Among (map (alone v) (numbers_in z)) x) (sym e) g
  given_numbers a false n left (inr k) x g = absurd k

module _ (s : Scope) (t : Scope) (g : Given) where
  abbrev p : Place
  p = place_of s

  connection_sound : (o : Option Decl) → IsSoundConnection p t g o → AllSound (is_parameter p) (at_rest p) (port_taken s t g o)
  connection_sound None h x k = absurd k
  connection_sound (Some port) h x k = given_sound p g.value port.input (signal_of t.params port).width h x k

  connection_left : (o : Option Decl) → IsSoundConnection p t g o → (left : Lval) → Among (port_left g o) left → IsSoundLeft d.Continuous p left
  connection_left None h left k = absurd k
  connection_left (Some port) h left k = given_left p g.value port.input (signal_of t.params port).width h left k

  connection_breaks : (o : Option Decl) (w : Violation) → BreaksConnection p t g o w → SomeBreaks (is_parameter p) (at_rest p) (port_taken s t g o) w ⊎ ((left : Lval) × Among (port_left g o) left × BreaksLeft d.Continuous p left w)
  connection_breaks None w h = absurd h
  connection_breaks (Some port) w h = given_breaks p g.value port.input (signal_of t.params port).width w h

  connection_numbers : (o : Option Decl) (left : Lval) → Among (port_left g o) left → (x : Taken) → Among (map (alone (at_rest p)) (numbers_in left)) x → Among (port_taken s t g o) x
  connection_numbers None left k x h = absurd k
  connection_numbers (Some port) left k x h = given_numbers p g.value port.input (signal_of t.params port).width left k x h

-- ---- whole texts

module _ (ms : List Module) (s : Scope) where
  abbrev q : Place
  q = place_of s

  abbrev rest : List Entry
  rest = at_rest q

  abbrev is_param : Name → Bool
  is_param = is_parameter q

  abbrev assigns : List Taken
  assigns = assigns_taken s

  abbrev bodies : List Taken
  bodies = flat_map (block_taken s) (blocks_in s.module')

  abbrev inners : List Taken
  inners = flat_map (λ i. inner_taken s i (child ms s i)) (instances_in s.module')

  of_assign : (x : Taken) → Among assigns x → Among (all_taken ms s) x
  of_assign x k = append_left (assigns ++ bodies) inners x (append_left assigns bodies x k)

  of_body : (x : Taken) → Among bodies x → Among (all_taken ms s) x
  of_body x k = append_left (assigns ++ bodies) inners x (append_right assigns bodies x k)

  of_inner : (x : Taken) → Among inners x → Among (all_taken ms s) x
  of_inner x k = append_right (assigns ++ bodies) inners x k

  inner_sound : (i : Inner) (o : Option Scope) → ((t : Scope) → o ≡ Some t → AreSoundConnections q t i) → AllSound is_param rest (inner_taken s i o)
  inner_sound i None h x k = absurd k
  inner_sound i (Some t) h x k =
      let r = among_flat (λ (g : Given). port_taken s t g (decl_at (signals_in t.module') g.name)) (given_to (port_names t.module') i.args) x k in
      connection_sound s t r.0 (decl_at (signals_in t.module') r.0.name) (h t refl r.0 r.1) x r.2

  inner_left : (i : Inner) (o : Option Scope) → ((t : Scope) → o ≡ Some t → AreSoundConnections q t i) → (left : Lval) → Among (inner_lefts i o) left → IsSoundLeft d.Continuous q left
  inner_left i None h left k = absurd k
  inner_left i (Some t) h left k =
      let r = among_flat (λ (g : Given). port_left g (decl_at (signals_in t.module') g.name)) (given_to (port_names t.module') i.args) left k in
      connection_left s t r.0 (decl_at (signals_in t.module') r.0.name) (h t refl r.0 r.1) left r.2

  module _ (sound : IsSoundText ms s) where
    taken_sound : AllSound is_param rest (all_taken ms s)
    taken_sound x k = ⊎_elim
        (λ g. ⊎_elim (λ i. let r = among_flat (assign_taken q) (assigns_in s.module') x i in of_assign_sound r.0 r.1 r.2)
        (λ i. let r = among_flat (block_taken s) (blocks_in s.module') x i in body_sound q r.0.body (sound.blocks r.0 r.1) x r.2) (among_append assigns bodies x g))
        (λ g. let r = among_flat (λ (i : Inner). inner_taken s i (child ms s i)) (instances_in s.module') x g in inner_sound r.0 (child ms s r.0) (λ t e. sound.inners r.0 r.1 t e) x r.2)
        (among_append (assigns ++ bodies) inners x k)
      where
        of_assign_sound : (a : Assign) → Among (assigns_in s.module') a → Among (assign_taken q a) x → IsSound is_param rest x
        of_assign_sound a k (inl e) = subst (IsSound is_param rest) e (sound.assigns a k).right
        of_assign_sound a k (inr g) = (sound.assigns a k).left.good.numbers x g

    fixed_sound : (left : Lval) → Among (fixed_lefts ms s) left → IsSoundLeft d.Continuous q left
    fixed_sound left k = ⊎_elim
        (λ g. let r = among_map (λ (a : Assign). a.left) (assigns_in s.module') left g in subst (IsSoundLeft d.Continuous q) r.2 (sound.assigns r.0 r.1).left)
        (λ g. let r = among_flat (λ (i : Inner). inner_lefts i (child ms s i)) (instances_in s.module') left g in inner_left r.0 (child ms s r.0) (λ t e. sound.inners r.0 r.1 t e) left r.2)
        (among_append (map (λ (a : Assign). a.left) (assigns_in s.module')) (flat_map (λ (i : Inner). inner_lefts i (child ms s i)) (instances_in s.module')) left k)

    block_sound : (left : Lval) → Among (block_lefts s) left → IsSoundLeft d.Procedural q left
    block_sound left k = let r = among_flat (λ (b : Block). lefts b.body) (blocks_in s.module') left k in body_left q r.0.body (sound.blocks r.0 r.1) left r.2

    size_kept : (left : Lval) → Among (fixed_lefts ms s ++ block_lefts s) left → NamesSignals q left → BreaksSize q left → ⊥
    size_kept left k names h =
        let size = ⊎_elim (λ g. (fixed_sound left g).size names) (λ g. (block_sound left g).size names) (among_append (fixed_lefts ms s) (block_lefts s) left k) in
        ⊎_elim (λ n. n size.formed) (λ n. n size.length) h.2

    -- a sound text breaks no rule
    pub text_keeps : (w : Violation) → BreaksText ms s w → ⊥
    text_keeps b.Constant (inl h) = all_keep is_param rest (all_taken ms s) taken_sound b.Constant h
    text_keeps b.Constant (inr (left, inl h)) = h.1 (fixed_sound left h.0).good.constant
    text_keeps b.Constant (inr (left, inr h)) = h.1 (block_sound left h.0).good.constant
    text_keeps b.Length (inl h) = all_keep is_param rest (all_taken ms s) taken_sound b.Length h
    text_keeps b.Length (inr h) = size_kept h.0 h.1 h.2 h.3
    text_keeps b.Memory h = h

  -- ---- what breaks a rule in a part breaks it in the text

  some_on : (xs : List Taken) → ((x : Taken) → Among xs x → Among (all_taken ms s) x) → (w : Violation) → SomeBreaks is_param rest xs w → BreaksText ms s w
  some_on xs up b.Constant h = inl (h.0, up h.0 h.1, h.2)
  some_on xs up b.Length h = inl (h.0, up h.0 h.1, h.2)
  some_on xs up b.Memory h = h.2

  fixed_on : (left : Lval) → Among (fixed_lefts ms s) left → ((x : Taken) → Among (map (alone rest) (numbers_in left)) x → Among (all_taken ms s) x) → (w : Violation) → BreaksLeft d.Continuous q left w → BreaksText ms s w
  fixed_on left k up b.Constant (inl h) = some_on (map (alone rest) (numbers_in left)) up b.Constant h
  fixed_on left k up b.Constant (inr h) = inr (left, inl (k, h))
  fixed_on left k up b.Length (inl h) = some_on (map (alone rest) (numbers_in left)) up b.Length h
  fixed_on left k up b.Length (inr h) = inr (left, append_left (fixed_lefts ms s) (block_lefts s) left k, h.0, h.1)
  fixed_on left k up b.Memory h = h

  block_on : (left : Lval) → Among (block_lefts s) left → ((x : Taken) → Among (map (alone rest) (numbers_in left)) x → Among (all_taken ms s) x) → (w : Violation) → BreaksLeft d.Procedural q left w → BreaksText ms s w
  block_on left k up b.Constant (inl h) = some_on (map (alone rest) (numbers_in left)) up b.Constant h
  block_on left k up b.Constant (inr h) = inr (left, inr (k, h))
  block_on left k up b.Length (inl h) = some_on (map (alone rest) (numbers_in left)) up b.Length h
  block_on left k up b.Length (inr h) = inr (left, append_right (fixed_lefts ms s) (block_lefts s) left k, h.0, h.1)
  block_on left k up b.Memory h = h

  pub assign_breaks : (a : Assign) → Among (assigns_in s.module') a → (w : Violation) → BreaksStore d.Continuous q a w → BreaksText ms s w
  assign_breaks a k w (inl h) =
      fixed_on a.left
      (append_left (map (λ (z : Assign). z.left) (assigns_in s.module')) (flat_map (λ (i : Inner). inner_lefts i (child ms s i)) (instances_in s.module')) a.left (map_among (λ (z : Assign). z.left) (assigns_in s.module') a k))
      (λ x g. of_assign x (flat_among (assign_taken q) (assigns_in s.module') a x k (inr g))) w h
  assign_breaks a k w (inr h) =
      some_on (assign_taken q a) (λ x g. of_assign x (flat_among (assign_taken q) (assigns_in s.module') a x k g)) w (assigned_to q a, inl refl, h)

  pub body_breaks : (k : Block) → Among (blocks_in s.module') k → (w : Violation) → BreaksBody q k.body w → BreaksText ms s w
  body_breaks k a w h = ⊎_elim
      (λ g. some_on (block_taken s k) (up k a) w g)
      (λ g. block_on g.0 (flat_among (λ (z : Block). lefts z.body) (blocks_in s.module') k g.0 a g.1) (λ x i. up k a x (left_numbers q k.body g.0 g.1 x i)) w g.2)
      (usage_breaks q k.body h.0 h.1 w h.2)
    where
      up : (k : Block) → Among (blocks_in s.module') k → (x : Taken) → Among (block_taken s k) x → Among (all_taken ms s) x
      up k a x i = of_body x (flat_among (block_taken s) (blocks_in s.module') k x a i)

  module _ (i : Inner) (among : Among (instances_in s.module') i) (t : Scope) (is : child ms s i ≡ Some t) where
    abbrev given : List Given
    given = given_to (port_names t.module') i.args

    abbrev taken_of : Given → List Taken
    taken_of g = port_taken s t g (decl_at (signals_in t.module') g.name)

    abbrev lefts_of : Given → List Lval
    lefts_of g = port_left g (decl_at (signals_in t.module') g.name)

    connection_taken : (g : Given) → Among given g → (x : Taken) → Among (taken_of g) x → Among (all_taken ms s) x
    connection_taken g k x h =
        of_inner x (flat_among (λ (z : Inner). inner_taken s z (child ms s z)) (instances_in s.module') i x among
        (subst (λ o. Among (inner_taken s i o) x) (sym is) (flat_among taken_of given g x k h)))

    connection_fixed : (g : Given) → Among given g → (left : Lval) → Among (lefts_of g) left → Among (fixed_lefts ms s) left
    connection_fixed g k left h =
        append_right (map (λ (z : Assign). z.left) (assigns_in s.module')) (flat_map (λ (z : Inner). inner_lefts z (child ms s z)) (instances_in s.module')) left
        (flat_among (λ (z : Inner). inner_lefts z (child ms s z)) (instances_in s.module') i left among (subst (λ o. Among (inner_lefts i o) left) (sym is) (flat_among lefts_of given g left k h)))

    pub inner_breaks : (w : Violation) → SomeConnectionBreaks q t i w → BreaksText ms s w
    inner_breaks w (g, k, h) = ⊎_elim
        (λ z. some_on (taken_of g) (connection_taken g k) w z)
        (λ z. fixed_on z.0 (connection_fixed g k z.0 z.1) (λ x j. connection_taken g k x (connection_numbers s t g (decl_at (signals_in t.module') g.name) z.0 z.1 x j)) w z.2)
        (connection_breaks s t g (decl_at (signals_in t.module') g.name) w h)
