-- Each signal with its flags and its leaves: as it is begun, as it is solved, and after the edge.
use Rattle.std.proofs.Common.{◌≡◌, ℕ, suc, ◌+◌, Bool, true, false, List, [], ◌∷◌, ◌++◌, map, Some, arith, refl, sym, ap, ◌∙◌, subst, ◌⊎◌, inl, inr, ⊎_elim}
use Rattle.std.specs.Prelude.{if◌then◌else◌}
use Rattle.std.specs.List.{flat_map}
use Rattle.std.specs.Str.{bytes_eq}
use Rattle.std.proofs.lemmas.Slice.Eq.{bytes_eq-Decides}
use Rattle.vlog_tree_runs.specs.declared.flat.Flat.{Flat}
use Rattle.vlog_tree_runs.specs.declared.flat.Signal.{Signal}
use Rattle.vlog_tree_runs.specs.Places.{Name, Cycle, Among}
use Rattle.vlog_tree_runs.specs.Contents.{is_among}
use Rattle.vlog_tree_runs.specs.Cycles.{flat_place, IsRegister}
use Rattle.word_dag.specs.declared.node.Node.{Node}
use Rattle.elab_step_design.specs.declared.design.Net.{Net}
use Rattle.elab_step_design.specs.declared.design.Register.{Register}
use Rattle.elab_step_design.specs.Designs.{naming_of, free}
use Rattle.elab_flat_scopes.specs.Finding.{place_from}
use Rattle.elab_step_expr.specs.declared.leaves.Leaf.{Leaf}
use Rattle.elab_step_expr.specs.Leaves.{AreReady}
use Rattle.elab_step_expr.specs.Nodes.{IsNode, number_at}
use Rattle.elab_step_blocks.specs.Standing.{AreLeavesOf, IsLeafOf, AreShown}
use Rattle.elab_step_laws.specs.Laws.{AreFit}
use Rattle.elab_step_nets.specs.Solving.{clocked, processes, after_edge, solved, joined, AreDistinct}
use Rattle.elab_step_nets.specs.Boards.{AreBegun, IsBegun, IsFreeOf, unset}
use Rattle.elab_step_nets.proofs.Solving.{bool_cases}
use Rattle.elab_step_nets.proofs.Solutions.{AreFlags}
use Rattle.elab_step.specs.Parts.{zip3, own_net, net_of, register_of, net_at}
use Rattle.elab_step.specs.Sources.{clocked_names, edge_names, flags_among}
use Rattle.elab_flat_drivers.proofs.Naming.{among_of, of_among}
use Rattle.elab_flat_laws.proofs.Lists.{among_flat, flat_among}
use Rattle.vlog_tree_runs.specs.Blocks.{lefts, left_names}
use Rattle.elab_step_nets.specs.Solving.{ArePlain}
use Rattle.elab_step_nets.proofs.Cycles.{own_holder, holds_itself}

-- the flags tell the registers
abbrev pub AreRegisters : Flat → List Signal → List Bool → Type 0
AreRegisters f [] [] = Unit {0}
AreRegisters f [] (r ∷ rs) = ⊥
AreRegisters f (g ∷ gs) [] = ⊥
AreRegisters f (g ∷ gs) (r ∷ rs) = (r ≡ true → IsRegister f g.name) × (IsRegister f g.name → r ≡ true) × AreRegisters f gs rs

pub nets_flagged : (xs : List Name) (gs : List Signal) → AreFlags xs gs (flags_among xs gs)
nets_flagged xs [] = tt
nets_flagged xs (g ∷ gs) = (refl, nets_flagged xs gs)

module _ (f : Flat) (plain : ArePlain f.signals) where
  pub clocked_register : (g : Signal) → Among f.signals g → Among (clocked_names f) g.name → IsRegister f g.name
  clocked_register g m h =
      let k = among_flat edge_names f.blocks g.name h in
      ⊎_elim
      (λ (e : k.0.clocked ≡ true).
      let n : Among (flat_map left_names (lefts k.0.body)) g.name = subst (λ (b : Bool). Among (if b then flat_map left_names (lefts k.0.body) else []) g.name) e k.2 in
      (k.0, k.1, e, (g.name, n, g, m, (refl, g, holds_itself f.signals g plain m, refl))))
      (λ (e : k.0.clocked ≡ false). let n : Among [] g.name = subst (λ (b : Bool). Among (if b then flat_map left_names (lefts k.0.body) else []) g.name) e k.2 in absurd n)
      (bool_cases k.0.clocked)

  pub register_clocked : (x : Name) → IsRegister f x → Among (clocked_names f) x
  register_clocked x h =
      let k = h.0 in
      let y = h.3.0 in
      let g = h.3.2 in
      let held = h.3.4 in
      let same : g ≡ held.1 = own_holder f.signals g held.1 plain h.3.3 held.2 in
      let named : y ≡ x = sym held.0 ∙ ap (λ (z : Signal). z.name) same ∙ sym held.3 in
      let here : Among (edge_names k) y = subst (λ (b : Bool). Among (if b then flat_map left_names (lefts k.body) else []) y) (sym h.2) h.3.1 in
      subst (λ z. Among (clocked_names f) z) named (flat_among edge_names f.blocks k y h.1 here)

  pub registers_flagged : (gs : List Signal) → ((g : Signal) → Among gs g → Among f.signals g) → AreRegisters f gs (flags_among (clocked_names f) gs)
  registers_flagged [] h = tt
  registers_flagged (g ∷ gs) h = (
    λ e. clocked_register g (h g (inl refl)) (among_of (clocked_names f) g.name e),
    λ r. of_among (clocked_names f) g.name (register_clocked g.name r),
    registers_flagged gs (λ x m. h x (inr m)),
  )

abbrev pub signal_name : Signal → Name
signal_name g = g.name

-- what is known of a module: the groups of its nets, its nodes, all flags and all leaves
pub record Known : Type 0 where
  pub flat : Flat
  pub groups : List (List Name)
  pub nodes : List Node
  pub nets : List Bool
  pub registers : List Bool
  pub first : List Leaf
  pub now : List Leaf
  pub next : List Leaf

-- a signal, its flags, and its leaves
pub record Row : Type 0 where
  pub signal : Signal
  pub net : Bool
  pub register : Bool
  pub begun : Leaf
  pub settled : Leaf
  pub later : Leaf

abbrev pub net_part : Row → Bool × Leaf × Leaf
net_part w = (w.net, w.begun, w.settled)

abbrev pub register_part : Row → Bool × Leaf × Leaf
register_part w = (w.register, w.begun, w.later)

abbrev pub register_name : Register → Name
register_name x = x.name

abbrev pub registers_in : List Row → List Name
registers_in ws = map register_name (flat_map register_of (map register_part ws))

module _ (k : Known) where
  abbrev pub solved_to : Cycle → Cycle
  solved_to c = solved (flat_place k.flat) (processes k.flat) k.groups (unset (joined k.groups) c)

  abbrev pub edge_of : Cycle → Cycle
  edge_of c = after_edge (flat_place k.flat) (clocked k.flat.blocks) (solved_to c) (solved_to c)

  -- a signal's track
  pub record Track (w : Row) : Type 0 where
    pub declared : Among k.flat.signals w.signal
    pub is_net : Among (zip3 k.nets k.first k.now) (net_part w)
    pub is_register : Among (zip3 k.registers k.first k.next) (register_part w)
    pub flag : is_among (joined k.groups) w.signal.name ≡ w.net
    pub yes : w.register ≡ true → IsRegister k.flat w.signal.name
    pub no : IsRegister k.flat w.signal.name → w.register ≡ true
    pub begun : IsLeafOf w.signal w.begun
    pub starts : IsBegun k.nodes w.signal w.net w.begun
    pub solved : IsLeafOf w.signal w.settled
    pub after : IsLeafOf w.signal w.later
    pub first_node : IsNode k.nodes w.begun.node w.begun.width
    pub now_node : IsNode k.nodes w.settled.node w.settled.width
    pub next_node : IsNode k.nodes w.later.node w.later.width
    pub first_shown : (e : Cycle) → AreFit k.flat.signals e → unset (joined k.groups) e w.begun.name ≡ number_at (naming_of e) k.nodes w.begun.node
    pub now_shown : (e : Cycle) → AreFit k.flat.signals e → solved_to e w.settled.name ≡ number_at (naming_of e) k.nodes w.settled.node
    pub next_shown : (e : Cycle) → AreFit k.flat.signals e → edge_of e w.later.name ≡ number_at (naming_of e) k.nodes w.later.node

  abbrev pub Tracks : List Row → Type 0
  Tracks [] = Unit {0}
  Tracks (w ∷ ws) = Track w × Tracks ws

  -- the rows of some signals
  pub record Rows (gs : List Signal) (ts rs : List Bool) (as' bs cs : List Leaf) : Type 0 where
    pub rows : List Row
    pub tracks : Tracks rows
    pub signals : gs ≡ map (λ (w : Row). w.signal) rows
    pub flags : ts ≡ map (λ (w : Row). w.net) rows
    pub first : as' ≡ map (λ (w : Row). w.begun) rows
    pub net_parts : zip3 ts as' bs ≡ map net_part rows
    pub register_parts : zip3 rs as' cs ≡ map register_part rows

  -- what is asked of some signals
  pub record AreKnown (gs : List Signal) (ts rs : List Bool) (as' bs cs : List Leaf) : Type 0 where
    pub declared : (g : Signal) → Among gs g → Among k.flat.signals g
    pub nets : (w : Bool × Leaf × Leaf) → Among (zip3 ts as' bs) w → Among (zip3 k.nets k.first k.now) w
    pub registers : (w : Bool × Leaf × Leaf) → Among (zip3 rs as' cs) w → Among (zip3 k.registers k.first k.next) w
    pub flags : AreFlags (joined k.groups) gs ts
    pub tells : AreRegisters k.flat gs rs
    pub begun : AreBegun k.nodes gs ts as'
    pub solved : AreLeavesOf gs bs
    pub after : AreLeavesOf gs cs
    pub first_ready : AreReady as' k.nodes
    pub now_ready : AreReady bs k.nodes
    pub next_ready : AreReady cs k.nodes
    pub first_shown : (e : Cycle) → AreFit k.flat.signals e → AreShown (naming_of e) k.nodes as' (unset (joined k.groups) e)
    pub now_shown : (e : Cycle) → AreFit k.flat.signals e → AreShown (naming_of e) k.nodes bs (solved_to e)
    pub next_shown : (e : Cycle) → AreFit k.flat.signals e → AreShown (naming_of e) k.nodes cs (edge_of e)

  pub tracks_of : (gs : List Signal) (ts rs : List Bool) (as' bs cs : List Leaf) → AreKnown gs ts rs as' bs cs → Rows gs ts rs as' bs cs
  tracks_of [] [] [] [] [] [] h = record { rows = []; tracks = tt; signals = refl; flags = refl; first = refl; net_parts = refl; register_parts = refl }
  tracks_of [] [] [] [] [] (c ∷ cs) h = absurd h.after
  tracks_of [] [] [] [] (b ∷ bs) cs h = absurd h.solved
  tracks_of [] [] [] (a ∷ as') bs cs h = absurd h.begun
  tracks_of [] [] (r ∷ rs) as' bs cs h = absurd h.tells
  tracks_of [] (t ∷ ts) rs as' bs cs h = absurd h.flags
  tracks_of (g ∷ gs) [] rs as' bs cs h = absurd h.flags
  tracks_of (g ∷ gs) (t ∷ ts) [] as' bs cs h = absurd h.tells
  tracks_of (g ∷ gs) (t ∷ ts) (r ∷ rs) [] bs cs h = absurd h.begun
  tracks_of (g ∷ gs) (t ∷ ts) (r ∷ rs) (a ∷ as') [] cs h = absurd h.solved
  tracks_of (g ∷ gs) (t ∷ ts) (r ∷ rs) (a ∷ as') (b ∷ bs) [] h = absurd h.after
  tracks_of (g ∷ gs) (t ∷ ts) (r ∷ rs) (a ∷ as') (b ∷ bs) (c ∷ cs) h =
      let rest = tracks_of gs ts rs as' bs cs (record {
        declared = λ x m. h.declared x (inr m);
        nets = λ w m. h.nets w (inr m);
        registers = λ w m. h.registers w (inr m);
        flags = h.flags.1;
        tells = h.tells.2;
        begun = h.begun.2;
        solved = h.solved.1;
        after = h.after.1;
        first_ready = h.first_ready.2;
        now_ready = h.now_ready.2;
        next_ready = h.next_ready.2;
        first_shown = λ e n. (h.first_shown e n).1;
        now_shown = λ e n. (h.now_shown e n).1;
        next_shown = λ e n. (h.next_shown e n).1;
      }) in
      let row : Row = record { signal = g; net = t; register = r; begun = a; settled = b; later = c } in
      record {
        rows = row ∷ rest.rows;
        tracks = (
          record {
            declared = h.declared g (inl refl);
            is_net = h.nets (t, a, b) (inl refl);
            is_register = h.registers (r, a, c) (inl refl);
            flag = h.flags.0;
            yes = h.tells.0;
            no = h.tells.1;
            begun = h.begun.0;
            starts = h.begun.1;
            solved = h.solved.0;
            after = h.after.0;
            first_node = h.first_ready.1;
            now_node = h.now_ready.1;
            next_node = h.next_ready.1;
            first_shown = λ e n. (h.first_shown e n).0;
            now_shown = λ e n. (h.now_shown e n).0;
            next_shown = λ e n. (h.next_shown e n).0;
          },
          rest.tracks,
        );
        signals = ap (λ z. g ∷ z) rest.signals;
        flags = ap (λ z. t ∷ z) rest.flags;
        first = ap (λ z. a ∷ z) rest.first;
        net_parts = ap (λ z. (t, a, b) ∷ z) rest.net_parts;
        register_parts = ap (λ z. (r, a, c) ∷ z) rest.register_parts;
      }

  -- ---- one row among them

  pub track_of : (ws : List Row) → Tracks ws → (w : Row) → Among ws w → Track w
  track_of [] h w m = absurd m
  track_of (v ∷ ws) h w m = ⊎_elim (λ e. subst Track e h.0) (λ n. track_of ws h.1 w n) m

  -- ---- names

  pub nets_names : (ws : List Row) → Tracks ws → map (λ (n : Net). n.name) (map net_of (map net_part ws)) ≡ map signal_name (map (λ (w : Row). w.signal) ws)
  nets_names [] h = refl
  nets_names (w ∷ ws) h = λ i. h.0.begun.name i ∷ nets_names ws h.1 i

  register_declared : (ws : List Row) → Tracks ws → (x : Name) → Among (registers_in ws) x → Among (map signal_name (map (λ (w : Row). w.signal) ws)) x
  register_declared [] h x m = absurd m
  register_declared (w ∷ ws) h x m = by (register_declared ws h.1 x) w.register m
    where
      by : (Among (registers_in ws) x → Among (map signal_name (map (λ (w : Row). w.signal) ws)) x) → (r : Bool) → Among (map register_name (register_of (r, w.begun, w.later) ++ flat_map register_of (map register_part ws))) x
          → (w.signal.name ≡ x) ⊎ Among (map signal_name (map (λ (w : Row). w.signal) ws)) x
      by rest true n = ⊎_elim (λ e. inl (sym h.0.begun.name ∙ e)) (λ u. inr (rest u)) n
      by rest false n = inr (rest n)

  pub registers_distinct : (ws : List Row) → Tracks ws → AreDistinct (map signal_name (map (λ (w : Row). w.signal) ws)) → AreDistinct (registers_in ws)
  registers_distinct [] h d = tt
  registers_distinct (w ∷ ws) h d = by (registers_distinct ws h.1 d.1) w.register
    where
      by : AreDistinct (registers_in ws) → (r : Bool) → AreDistinct (map register_name (register_of (r, w.begun, w.later) ++ flat_map register_of (map register_part ws)))
      by rest true = (λ m. d.0 (subst (λ x. Among (map signal_name (map (λ (w : Row). w.signal) ws)) x) h.0.begun.name (register_declared ws h.1 w.begun.name m)), rest)
      by rest false = rest

  -- ---- the place of a name

  pub record PlaceRow (ws : List Row) (i : ℕ) (x : Name) : Type 0 where
    pub row : Row
    pub there : Among ws row
    pub named : row.signal.name ≡ x
    pub net : net_at (Some i) (map (λ (w : Row). w.begun) ws) ≡ own_net row.begun ∷ []

  pub place_row : (ws : List Row) (x : Name) → Among (map signal_name (map (λ (w : Row). w.signal) ws)) x → (j : ℕ)
      → (i : ℕ) × (place_from j (map signal_name (map (λ (w : Row). w.signal) ws)) x ≡ Some (j + i)) × PlaceRow ws i x
  place_row [] x m j = absurd m
  place_row (w ∷ ws) x m j =
      ⊎_elim
      (λ (e : bytes_eq w.signal.name x ≡ true).
      let z : j ≡ j + 0 = omega arith in (
        0,
        ap (λ u. if u then Some j else place_from (suc j) (map signal_name (map (λ (w : Row). w.signal) ws)) x) e ∙ ap Some z,
        record { row = w; there = inl refl; named = (bytes_eq-Decides w.signal.name x).0 e; net = refl },
      ))
      (λ (e : bytes_eq w.signal.name x ≡ false).
      let n : Among (map signal_name (map (λ (w : Row). w.signal) ws)) x = ⊎_elim (λ q. let u : true ≡ false = sym ((bytes_eq-Decides w.signal.name x).1 q) ∙ e in cc) (λ n. n) m in
      let p = place_row ws x n (suc j) in
      let z : suc j + p.0 ≡ j + suc p.0 = omega arith in (
        suc p.0,
        ap (λ u. if u then Some j else place_from (suc j) (map signal_name (map (λ (w : Row). w.signal) ws)) x) e ∙ p.1 ∙ ap Some z,
        record { row = p.2.row; there = inr p.2.there; named = p.2.named; net = p.2.net },
      ))
      (bool_cases (bytes_eq w.signal.name x))

-- ---- free words

pub record FreeRow (ws : List Row) (n : Node) : Type 0 where
  pub row : Row
  pub there : Among ws row
  pub is : n ≡ free row.signal.name row.signal.width
  pub no_net : row.net ≡ false

later_row : (w : Row) (ws : List Row) (n : Node) → FreeRow ws n → FreeRow (w ∷ ws) n
later_row w ws n r = record { row = r.row; there = inr r.there; is = r.is; no_net = r.no_net }

pub free_row : (ws : List Row) (n : Node) → IsFreeOf (map (λ (w : Row). w.signal) ws) (map (λ (w : Row). w.net) ws) n → FreeRow ws n
free_row [] n m = absurd m
free_row (w ∷ ws) n m = by (λ u. later_row w ws n (free_row ws n u)) w.net refl m
  where
    by : (IsFreeOf (map (λ (w : Row). w.signal) ws) (map (λ (w : Row). w.net) ws) n → FreeRow (w ∷ ws) n) → (t : Bool) → w.net ≡ t
        → IsFreeOf (w.signal ∷ map (λ (w : Row). w.signal) ws) (t ∷ map (λ (w : Row). w.net) ws) n → FreeRow (w ∷ ws) n
    by rest true e u = rest u
    by rest false e u = ⊎_elim (λ q. record { row = w; there = inl refl; is = q; no_net = e }) rest u
