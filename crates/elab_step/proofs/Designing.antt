-- The parts that are made are a design with the nets solved.
use Rattle.std.proofs.Common.{arith, ◌≡◌, ◌+◌, ℕ, ℤ, Bool, true, false, List, [], ◌∷◌, ◌++◌, map, Option, Some, refl, sym, ap, ◌∙◌, subst, ◌⊎◌, inl, inr, ⊎_elim}
use Rattle.std.specs.Prelude.{if◌then◌else◌}
use Rattle.std.specs.List.{flat_map}
use Rattle.vlog_tree.specs.declared.stmt.Stmt.{Stmt}
use Rattle.vlog_tree_runs.specs.declared.flat.Async.{Async}
use Rattle.vlog_tree_runs.specs.declared.flat.Flat.{Flat}
use Rattle.vlog_tree_runs.specs.declared.flat.Signal.{Signal}
use Rattle.vlog_tree_runs.specs.declared.flat.TopPort.{TopPort}
use Rattle.vlog_tree_runs.specs.Places.{Name, Cycle, Among, Place}
use Rattle.vlog_tree_runs.specs.Contents.{is_among}
use Rattle.vlog_tree_runs.specs.Blocks.{run}
use Rattle.vlog_tree_runs.specs.Cycles.{flat_place, IsRegister, IsInput}
use Rattle.elab_flat_laws.proofs.Lists.{among_append, append_left, append_right, among_map, map_among, among_flat, flat_among, map_append}
use Rattle.word_dag.specs.declared.node.Node.{Node}
use Rattle.word_dag.specs.declared.node.Node.TheVariants.{Free}
use Rattle.word_dag.specs.Adding.{IsAt, IsDistinct}
use Rattle.word_dag.specs.Given.{is_free}
use Rattle.word_dag.specs.Nodes.{FitFrom}
use Rattle.vlog_tree_runs.specs.Blocks.{signal_at}
use Rattle.elab_step_design.specs.declared.design.Net.{Net}
use Rattle.elab_step_design.specs.declared.design.Register.{Register}
use Rattle.elab_step_design.specs.Designs.{Parts, IsDesign, source, free, naming_of, IsNode}
use Rattle.elab_flat_scopes.specs.Finding.{place_in}
use Rattle.elab_step_expr.specs.declared.leaves.Leaf.{Leaf}
use Rattle.elab_step_expr.specs.Nodes.{number_at}
use Rattle.elab_flat_faults.specs.Drivers.{DependsOn}
use Rattle.elab_step_laws.specs.Laws.{AreFit}
use Rattle.elab_step_nets.specs.Solving.{AreDistinct, IsNetOrder, processes, driven, settled, solved, drivers_in, joined, taking}
use Rattle.elab_step_nets.specs.Asked.{CanElaborate}
use Rattle.elab_step_nets.specs.Boards.{IsBegun, IsFreeOf, IsSolution, IsSolved, unset}
use Rattle.elab_step_nets.proofs.Solving.{bool_cases, kept}
use Rattle.elab_step_nets.proofs.Fitting.{found_signal}
use Rattle.elab_step_nets.proofs.Cycles.{own_holder}
use Rattle.elab_flat_drivers.proofs.Naming.{among_of, of_among}
use Rattle.elab_step.specs.Parts.{zip3, own_net, net_of, net_node, register_of, net_at, input_of, output_of, input_name, net_size, signal_size, AreRegistersOf, HasSignals}
use Rattle.elab_step.specs.Sources.{signal_names, clocked_names, flags_among}
use Rattle.elab_step_blocks.specs.Standing.{AreShown}
use Rattle.elab_step_nets.proofs.Boards.{same_leaves}
use Rattle.elab_step_nets.proofs.Solutions.{AreFlags, begun_shown}
use Rattle.elab_step.proofs.Lists.{pairs_differ, distinct_both}
use Rattle.elab_step.proofs.Tracks.{Known, Row, net_part, register_part, signal_name, Track, Tracks, Rows, track_of, nets_names, register_name, registers_distinct, place_row, free_row, solved_to, edge_of, tracks_of, AreRegisters, nets_flagged, registers_flagged}

-- ---- what isn't solved stays

driven_other : (p : Place) (ks : List Stmt) (xs : List Name) (z : Name) (c : Cycle) → (Among xs z → ⊥) → driven p ks xs c z ≡ c z
driven_other p [] xs z c n = refl
driven_other p (k ∷ ks) xs z c n = driven_other p ks xs z (taking xs (run true p k c c) c) n ∙ kept xs z (run true p k c c) c n

still : (p : Place) (ks : List Stmt) (xss : List (List Name)) (c : Cycle) (z : Name) → (Among (joined xss) z → ⊥) → solved p ks xss c z ≡ c z
still p ks [] c z n = refl
still p ks (xs ∷ rest) c z n =
    still p ks rest (settled p (drivers_in ks xs) xs c) z (λ m. n (append_right xs (joined rest) z m))
    ∙ driven_other p (drivers_in ks xs) xs z (taking xs (λ y. 0) c) (λ m. n (append_left xs (joined rest) z m)) ∙ kept xs z (λ y. 0) c (λ m. n (append_left xs (joined rest) z m))

not_among : (xs : List Name) (x : Name) → is_among xs x ≡ false → Among xs x → ⊥
not_among xs x e m = let h : true ≡ false = sym (of_among xs x m) ∙ e in cc

abbrev net_name : Net → Name
net_name n = n.name

abbrev port_name : TopPort → Name
port_name p = p.name

sources_names : (rs : List Register) → map net_name (map source rs) ≡ map register_name rs
sources_names [] = refl
sources_names (r ∷ rs) = ap (λ z. r.name ∷ z) (sources_names rs)

abbrev register_at : Row → Register
register_at w = record { name = w.begun.name; width = w.begun.width; node = w.begun.node; next = w.later.node }

module _ (k : Known) (can : CanElaborate k.flat) (order : IsNetOrder k.flat (DependsOn k.flat) (joined k.groups)) (rs : Rows k k.flat.signals k.nets k.registers k.first k.now k.next)
    (fit : FitFrom [] k.nodes) (distinct : IsDistinct k.nodes) (frees : (n : Node) (i : ℕ) → is_free n ≡ true → IsAt k.nodes i n → IsFreeOf k.flat.signals k.nets n)
    (apart : (x : Name) → IsInput k.flat x → IsRegister k.flat x → ⊥) where
  abbrev ws : List Row
  ws = rs.rows

  abbrev gs : List Signal
  gs = k.flat.signals

  abbrev names : List Name
  names = map signal_name gs

  row_names : names ≡ map signal_name (map (λ (w : Row). w.signal) ws)
  row_names = ap (map signal_name) rs.signals

  row_for : (g : Signal) → Among gs g → (w : Row) × Among ws w × (w.signal ≡ g)
  row_for g m = among_map (λ (w : Row). w.signal) ws g (subst (λ z. Among z g) rs.signals m)

  track : (w : Row) → Among ws w → Track k w
  track w m = track_of k ws rs.tracks w m

  same_signal : (g h : Signal) → Among gs g → Among gs h → g.name ≡ h.name → g ≡ h
  same_signal g h m n q = let e : Some g ≡ Some h = sym (found_signal gs g can.distinct m) ∙ ap (signal_at gs) q ∙ found_signal gs h can.distinct n in cc

  -- ---- sources are no nets, and so free words

  source_net : (w : Row) → Among ws w → IsRegister k.flat w.signal.name ⊎ IsInput k.flat w.signal.name → w.net ≡ false
  source_net w m h =
      ⊎_elim
      (λ (e : is_among (joined k.groups) w.signal.name ≡ true). let n = order.nets w.signal.name (among_of (joined k.groups) w.signal.name e) in absurd (⊎_elim n.no_register n.no_input h))
      (λ (e : is_among (joined k.groups) w.signal.name ≡ false). sym (track w m).flag ∙ e)
      (bool_cases (is_among (joined k.groups) w.signal.name))

  source_free : (w : Row) → Among ws w → w.net ≡ false → IsAt k.nodes w.begun.node (free w.begun.name w.begun.width)
  source_free w m e =
      let t = track w m in
      let start : IsBegun k.nodes w.signal false w.begun = subst (λ (z : Bool). IsBegun k.nodes w.signal z w.begun) e t.starts in
      let is : free w.signal.name w.signal.width ≡ free w.begun.name w.begun.width = λ i. free (sym t.begun.name i) (sym t.begun.width i) in
      subst (λ n. IsAt k.nodes w.begun.node n) is start.0

  -- ---- nets

  abbrev all_nets : List Net
  all_nets = map net_of (zip3 k.nets k.first k.now)

  net_row : (n : Net) → Among all_nets n → (w : Row) × Among ws w × (net_of (net_part w) ≡ n)
  net_row n m =
      let r = among_map net_of (map net_part ws) n (subst (λ z. Among (map net_of z) n) rs.net_parts m) in
      let w = among_map net_part ws r.0 r.1 in
      (w.0, w.1, ap net_of w.2 ∙ r.2)

  net_there : (w : Row) → Among ws w → Among all_nets (net_of (net_part w))
  net_there w m = map_among net_of (zip3 k.nets k.first k.now) (net_part w) (track w m).is_net

  own_there : (w : Row) → Among ws w → w.net ≡ false → Among all_nets (own_net w.begun)
  own_there w m e = let is : net_of (net_part w) ≡ own_net w.begun = ap (λ (z : Bool). net_of (z, w.begun, w.settled)) e in subst (λ n. Among all_nets n) is (net_there w m)

  -- ---- registers

  abbrev all_registers : List Register
  all_registers = flat_map register_of (zip3 k.registers k.first k.next)

  register_row : (r : Register) → Among all_registers r → (w : Row) × Among ws w × (w.register ≡ true) × (register_at w ≡ r)
  register_row r m =
      let t = among_flat register_of (map register_part ws) r (subst (λ z. Among (flat_map register_of z) r) rs.register_parts m) in
      let w = among_map register_part ws t.0 t.1 in
      let here : Among (register_of (register_part w.0)) r = subst (λ z. Among (register_of z) r) (sym w.2) t.2 in
      let is = by w.0 w.0.register here in
      (w.0, w.1, is.0, is.1)
    where
      by : (w : Row) (b : Bool) → Among (register_of (b, w.begun, w.later)) r → (b ≡ true) × (register_at w ≡ r)
      by w true n = (refl, ⊎_elim (λ e. e) (λ u. absurd u) n)
      by w false n = absurd n

  register_there : (w : Row) → Among ws w → w.register ≡ true → Among all_registers (register_at w)
  register_there w m e =
      let here : Among (register_of (register_part w)) (register_at w) = subst (λ (b : Bool). Among (register_of (b, w.begun, w.later)) (register_at w)) (sym e) (inl refl) in
      flat_among register_of (zip3 k.registers k.first k.next) (register_part w) (register_at w) (track w m).is_register here

  -- ---- inputs

  abbrev input : TopPort → List Net
  input p = input_of names k.first p

  abbrev all_inputs : List Net
  all_inputs = flat_map input k.flat.ports

  input_is : (p : TopPort) → Among k.flat.ports p → p.output ≡ false → (w : Row) × Among ws w × (w.signal.name ≡ p.name) × (input p ≡ own_net w.begun ∷ [])
  input_is p m e =
      let g = can.ports p m in
      let declared : Among names p.name = subst (λ x. Among names x) g.2 (map_among signal_name gs g.0 g.1) in
      let r = place_row k ws p.name (subst (λ z. Among z p.name) row_names declared) 0 in
      let at : 0 + r.0 ≡ r.0 = omega arith in
      let place : place_in names p.name ≡ Some r.0 = ap (λ z. place_in z p.name) row_names ∙ r.1 ∙ ap Some at in
      let net : net_at (place_in names p.name) k.first ≡ own_net r.2.row.begun ∷ [] = ap (λ z. net_at z k.first) place ∙ ap (λ z. net_at (Some r.0) z) rs.first ∙ r.2.net in
      (r.2.row, r.2.there, r.2.named, ap (λ (b : Bool). if b then [] else net_at (place_in names p.name) k.first) e ∙ net)

  input_row : (s : Net) → Among all_inputs s → (w : Row) × Among ws w × IsInput k.flat w.signal.name × (own_net w.begun ≡ s)
  input_row s m =
      let p = among_flat input k.flat.ports s m in
      ⊎_elim
      (λ (e : p.0.output ≡ true). let none : Among [] s = subst (λ (b : Bool). Among (if b then [] else net_at (place_in names p.0.name) k.first) s) e p.2 in absurd none)
      (λ (e : p.0.output ≡ false).
      let w = input_is p.0 p.1 e in
      let here : Among (own_net w.0.begun ∷ []) s = subst (λ z. Among z s) w.3 p.2 in
      (w.0, w.1, (p.0, p.1, e, sym w.2), ⊎_elim (λ q. q) (λ u. absurd u) here))
      (bool_cases p.0.output)

  -- ---- names

  inputs_declared : (ps : List TopPort) → ((p : TopPort) → Among ps p → Among k.flat.ports p) → (x : Name) → Among (map net_name (flat_map input ps)) x → Among (map port_name ps) x
  inputs_declared [] h x m = m
  inputs_declared (p ∷ ps) h x m =
      ⊎_elim
      (λ (e : p.output ≡ true). inr (inputs_declared ps (λ q n. h q (inr n)) x (subst (λ z. Among (map net_name (z ++ flat_map input ps)) x) (none e) m)))
      (λ (e : p.output ≡ false).
      let w = input_is p (h p (inl refl)) e in
      let here : Among (map net_name ((own_net w.0.begun ∷ []) ++ flat_map input ps)) x = subst (λ z. Among (map net_name (z ++ flat_map input ps)) x) w.3 m in
      ⊎_elim (λ q. inl (sym w.2 ∙ sym (track w.0 w.1).begun.name ∙ q)) (λ u. inr (inputs_declared ps (λ q n. h q (inr n)) x u)) here)
      (bool_cases p.output)
    where
      none : p.output ≡ true → input p ≡ []
      none e = ap (λ (b : Bool). if b then [] else net_at (place_in names p.name) k.first) e

  inputs_distinct : (ps : List TopPort) → ((p : TopPort) → Among ps p → Among k.flat.ports p) → AreDistinct (map port_name ps) → AreDistinct (map net_name (flat_map input ps))
  inputs_distinct [] h d = tt
  inputs_distinct (p ∷ ps) h d =
      let rest = inputs_distinct ps (λ q n. h q (inr n)) d.1 in
      ⊎_elim
      (λ (e : p.output ≡ true). subst (λ z. AreDistinct (map net_name (z ++ flat_map input ps))) (sym (none e)) rest)
      (λ (e : p.output ≡ false).
      let w = input_is p (h p (inl refl)) e in
      let named : p.name ≡ w.0.begun.name = sym w.2 ∙ sym (track w.0 w.1).begun.name in
      let all : AreDistinct (map net_name ((own_net w.0.begun ∷ []) ++ flat_map input ps)) = (
        λ m. d.0 (subst (λ x. Among (map port_name ps) x) (sym named) (inputs_declared ps (λ q n. h q (inr n)) w.0.begun.name m)),
        rest,
      ) in
      subst (λ z. AreDistinct (map net_name (z ++ flat_map input ps))) (sym w.3) all)
      (bool_cases p.output)
    where
      none : p.output ≡ true → input p ≡ []
      none e = ap (λ (b : Bool). if b then [] else net_at (place_in names p.name) k.first) e

  sources_apart : (x : Name) → Among (map register_name all_registers) x → Among (map net_name all_inputs) x → ⊥
  sources_apart x m n =
      let r = among_map register_name all_registers x m in
      let i = among_map net_name all_inputs x n in
      let v = register_row r.0 r.1 in
      let w = input_row i.0 i.1 in
      let tv = track v.0 v.1 in
      let tw = track w.0 w.1 in
      let one : v.0.signal.name ≡ x = sym tv.begun.name ∙ ap register_name v.3 ∙ r.2 in
      let other : w.0.signal.name ≡ x = sym tw.begun.name ∙ ap net_name w.3 ∙ i.2 in
      apart x (subst (IsInput k.flat) other w.2) (subst (IsRegister k.flat) one (tv.yes v.2))

  sources_distinct : AreDistinct (map net_name (map source all_registers ++ all_inputs))
  sources_distinct =
      let regs : AreDistinct (map register_name all_registers) =
      subst (λ z. AreDistinct (map register_name (flat_map register_of z))) (sym rs.register_parts) (registers_distinct k ws rs.tracks (subst AreDistinct row_names can.distinct)) in
      let both = distinct_both (map register_name all_registers) (map net_name all_inputs) regs (inputs_distinct k.flat.ports (λ p m. m) can.once) sources_apart in
      let is : map net_name (map source all_registers ++ all_inputs) ≡ map register_name all_registers ++ map net_name all_inputs =
      map_append net_name (map source all_registers) all_inputs ∙ ap (λ z. z ++ map net_name all_inputs) (sources_names all_registers) in
      subst AreDistinct (sym is) both

  nets_distinct : AreDistinct (map net_name all_nets)
  nets_distinct =
      let is : map net_name all_nets ≡ names = ap (λ z. map net_name (map net_of z)) rs.net_parts ∙ nets_names k ws rs.tracks ∙ sym row_names in
      subst AreDistinct (sym is) can.distinct

  -- ---- the sources

  source_row : (s : Net) → Among (map source all_registers ++ all_inputs) s → (w : Row) × Among ws w × (w.net ≡ false) × (own_net w.begun ≡ s)
  source_row s m =
      ⊎_elim
      (λ n.
      let r = among_map source all_registers s n in
      let w = register_row r.0 r.1 in
      (w.0, w.1, source_net w.0 w.1 (inl ((track w.0 w.1).yes w.2)), ap source w.3 ∙ r.2))
      (λ n. let w = input_row s n in (w.0, w.1, source_net w.0 w.1 (inr w.2), w.3))
      (among_append (map source all_registers) all_inputs s m)

  -- a signal that is no net is a source
  source_there : (w : Row) → Among ws w → IsRegister k.flat w.signal.name ⊎ IsInput k.flat w.signal.name → Among (map source all_registers ++ all_inputs) (own_net w.begun)
  source_there w m (inl h) = append_left (map source all_registers) all_inputs (own_net w.begun) (map_among source all_registers (register_at w) (register_there w m ((track w m).no h)))
  source_there w m (inr h) =
      let v = input_is h.0 h.1 h.2 in
      let tv = track v.0 v.1 in
      let tw = track w m in
      let here : Among all_inputs (own_net v.0.begun) = flat_among input k.flat.ports h.0 (own_net v.0.begun) h.1 (subst (λ z. Among z (own_net v.0.begun)) (sym v.3) (inl refl)) in
      let same : v.0.signal ≡ w.signal = same_signal v.0.signal w.signal tv.declared tw.declared (v.2 ∙ h.3) in
      let one = source_free v.0 v.1 (source_net v.0 v.1 (inr (subst (IsInput k.flat) (sym (v.2 ∙ h.3)) h))) in
      let other = source_free w m (source_net w m (inr h)) in
      let name : v.0.begun.name ≡ w.begun.name = tv.begun.name ∙ ap signal_name same ∙ sym tw.begun.name in
      let width : v.0.begun.width ≡ w.begun.width = tv.begun.width ∙ ap (λ (g : Signal). g.width) same ∙ sym tw.begun.width in
      let word : free v.0.begun.name v.0.begun.width ≡ free w.begun.name w.begun.width = λ i. free (name i) (width i) in
      let node : v.0.begun.node ≡ w.begun.node = distinct (free w.begun.name w.begun.width) v.0.begun.node w.begun.node (subst (λ n. IsAt k.nodes v.0.begun.node n) word one) other in
      let is : own_net v.0.begun ≡ own_net w.begun = λ i. record { name = name i; width = width i; node = node i } in
      append_right (map source all_registers) all_inputs (own_net w.begun) (subst (λ n. Among all_inputs n) is here)

  free_source : (x : Name) (n side i : ℕ) (t : ℤ) → IsAt k.nodes i (Free x n side t) → (s : Net) × Among (map source all_registers ++ all_inputs) s × (s.name ≡ x) × (s.node ≡ i)
  free_source x n side i t at =
      let r = free_row (ws) (Free x n side t) (subst (λ z. IsFreeOf (map (λ (w : Row). w.signal) ws) z (Free x n side t)) rs.flags (subst (λ z. IsFreeOf z k.nets (Free x n side t)) rs.signals (frees (Free x n side t) i refl at))) in
      let w = r.row in
      let tw = track w r.there in
      let none : Among (joined k.groups) w.signal.name → ⊥ = not_among (joined k.groups) w.signal.name (tw.flag ∙ r.no_net) in
      let is_source = ⊎_elim (λ m. absurd (none m)) (λ h. h) (order.others w.signal tw.declared) in
      let word : Free x n side t ≡ free w.begun.name w.begun.width = r.is ∙ (λ i. free (sym tw.begun.name i) (sym tw.begun.width i)) in
      let name : w.begun.name ≡ x = let e = word in cc in (
        own_net w.begun,
        source_there w r.there is_source,
        name,
        distinct (free w.begun.name w.begun.width) w.begun.node i (source_free w r.there r.no_net) (subst (λ n. IsAt k.nodes i n) word at),
      )

  abbrev pub made : (outputs : List Name) (clock : Option Name) (asyncs : List Async) → Parts
  made outputs clock asyncs = record { nodes = k.nodes; registers = all_registers; inputs = all_inputs; nets = all_nets; outputs = outputs; clock = clock; asyncs = asyncs }

  pub is_design : (outputs : List Name) (clock : Option Name) (asyncs : List Async) → IsDesign (made outputs clock asyncs)
  is_design outputs clock asyncs = record {
    fit = fit;
    free_words = λ s m.
        let w = source_row s m in
        subst (λ (z : Net). IsAt k.nodes z.node (free z.name z.width)) w.3 (source_free w.0 w.1 w.2);
    no_other = free_source;
    next = λ r m.
        let w = register_row r m in
        let t = track w.0 w.1 in
        let wide : w.0.later.width ≡ w.0.begun.width = t.after.width ∙ sym t.begun.width in
        subst (λ (z : Register). IsNode k.nodes z.next z.width) w.3 (subst (λ n. IsNode k.nodes w.0.later.node n) wide t.next_node);
    net = λ n m. let w = net_row n m in subst (λ (z : Net). IsNode k.nodes z.node z.width) w.2 (net_node_is w.0 w.1 w.0.net);
    distinct_sources = pairs_differ (map net_name (map source all_registers ++ all_inputs)) sources_distinct;
    distinct_nets = pairs_differ (map net_name all_nets) nets_distinct;
    among = λ s m. let w = source_row s m in subst (λ n. Among all_nets n) w.3 (own_there w.0 w.1 w.2);
  }
    where
      net_node_is : (w : Row) → Among ws w → (b : Bool) → IsNode k.nodes (net_node b w.begun w.settled) w.begun.width
      net_node_is w m true = let t = track w m in subst (λ n. IsNode k.nodes w.settled.node n) (t.solved.width ∙ sym t.begun.width) t.now_node
      net_node_is w m false = (track w m).first_node

  -- ---- solved

  net_value : (w : Row) → Among ws w → (c : Cycle) → AreFit gs c → number_at (naming_of c) k.nodes (net_node w.net w.begun w.settled) ≡ solved_to k c w.signal.name
  net_value w m c fits = by w.net refl
    where
      by : (b : Bool) → w.net ≡ b → number_at (naming_of c) k.nodes (net_node b w.begun w.settled) ≡ solved_to k c w.signal.name
      by true e = let t = track w m in sym (t.now_shown c fits) ∙ ap (solved_to k c) t.solved.name
      by false e =
          let t = track w m in
          sym (t.first_shown c fits) ∙ ap (unset (joined k.groups) c) t.begun.name
          ∙ sym (still (flat_place k.flat) (processes k.flat) k.groups (unset (joined k.groups) c) w.signal.name (not_among (joined k.groups) w.signal.name (t.flag ∙ e)))

  next_value : (w : Row) → Among ws w → (c : Cycle) → AreFit gs c → number_at (naming_of c) k.nodes w.later.node ≡ edge_of k c w.begun.name
  next_value w m c fits = let t = track w m in sym (t.next_shown c fits) ∙ ap (edge_of k c) (t.after.name ∙ sym t.begun.name)

  -- a register is a declared signal
  register_signal : (x : Name) → IsRegister k.flat x → (g : Signal) × Among gs g × (g.name ≡ x)
  register_signal x h =
      let g = h.3.2 in
      let m = h.3.3 in
      let held = h.3.4 in
      let same : g ≡ held.1 = own_holder gs g held.1 can.plain m held.2 in
      (g, m, ap signal_name same ∙ sym held.3)

  abbrev NetSolved : Parts → Net → Type 0
  NetSolved d n =
      (g : Signal) × Among gs g × (n.name ≡ g.name) × (n.width ≡ g.width) × IsNode k.nodes n.node n.width
      × ((c : Cycle) → AreFit gs c → number_at (naming_of c) k.nodes n.node ≡ solved (flat_place k.flat) (processes k.flat) k.groups (unset (joined k.groups) c) g.name)

  abbrev RegisterSolved : Register → Type 0
  RegisterSolved r = IsRegister k.flat r.name × IsNode k.nodes r.next r.width × ((c : Cycle) → AreFit gs c → number_at (naming_of c) k.nodes r.next ≡ edge_of k c r.name)

  pub is_solved : (outputs : List Name) (clock : Option Name) (asyncs : List Async) → IsSolved k.flat k.groups (made outputs clock asyncs)
  is_solved outputs clock asyncs = record {
    fit = fit;
    net = λ n m.
        let w = net_row n m in
        let t = track w.0 w.1 in
        let d = is_design outputs clock asyncs in
        let here : NetSolved (made outputs clock asyncs) (net_of (net_part w.0)) = (
          w.0.signal,
          t.declared,
          t.begun.name,
          t.begun.width,
          d.net (net_of (net_part w.0)) (net_there w.0 w.1),
          net_value w.0 w.1,
        ) in
        subst (NetSolved (made outputs clock asyncs)) w.2 here;
    each_net = λ g m.
        let w = row_for g m in
        let t = track w.0 w.1 in
        (net_of (net_part w.0), net_there w.0 w.1, t.begun.name ∙ ap signal_name w.2, t.begun.width ∙ ap (λ (h : Signal). h.width) w.2);
    register = λ r m.
        let w = register_row r m in
        let t = track w.0 w.1 in
        let d = is_design outputs clock asyncs in
        let here : RegisterSolved (register_at w.0) = (
          subst (IsRegister k.flat) (sym t.begun.name) (t.yes w.2),
          d.next (register_at w.0) (register_there w.0 w.1 w.2),
          next_value w.0 w.1,
        ) in
        subst RegisterSolved w.3 here;
    each_register = λ x h.
        let g = register_signal x h in
        let w = row_for g.0 g.1 in
        let t = track w.0 w.1 in
        let named : w.0.signal.name ≡ x = ap signal_name w.2 ∙ g.2 in
        (register_at w.0, register_there w.0 w.1 (t.no (subst (IsRegister k.flat) (sym named) h)), t.begun.name ∙ named);
  }

  -- the inputs are those of the header
  inputs_named : (ps : List TopPort) → ((p : TopPort) → Among ps p → Among k.flat.ports p) → map net_name (flat_map input ps) ≡ flat_map input_name ps
  inputs_named [] h = refl
  inputs_named (p ∷ ps) h =
      let rest = inputs_named ps (λ q n. h q (inr n)) in
      ⊎_elim
      (λ (e : p.output ≡ true). ap (λ (b : Bool). map net_name ((if b then [] else net_at (place_in names p.name) k.first) ++ flat_map input ps)) e ∙ rest ∙ ap (λ (b : Bool). (if b then [] else p.name ∷ []) ++ flat_map input_name ps) (sym e))
      (λ (e : p.output ≡ false).
      let w = input_is p (h p (inl refl)) e in
      let named : w.0.begun.name ≡ p.name = (track w.0 w.1).begun.name ∙ w.2 in
      ap (λ z. map net_name (z ++ flat_map input ps)) w.3 ∙ (λ i. named i ∷ rest i) ∙ ap (λ (b : Bool). (if b then [] else p.name ∷ []) ++ flat_map input_name ps) (sym e))
      (bool_cases p.output)

  -- each signal has its length
  net_sizes : (vs : List Row) → Tracks k vs → map net_size (map net_of (map net_part vs)) ≡ map signal_size (map (λ (w : Row). w.signal) vs)
  net_sizes [] h = refl
  net_sizes (w ∷ vs) h = λ i. (h.0.begun.name i, h.0.begun.width i) ∷ net_sizes vs h.1 i

  -- the registers stand in the order of the signals
  skipped : (g : Signal) (hs : List Signal) (xs : List Register) → (IsRegister k.flat g.name → ⊥) → AreRegistersOf k.flat hs xs → AreRegistersOf k.flat (g ∷ hs) xs
  skipped g hs [] n h = (n, h)
  skipped g hs (x ∷ xs) n h = inr (n, h)

  registers_in_order : (vs : List Row) → Tracks k vs → AreRegistersOf k.flat (map (λ (w : Row). w.signal) vs) (flat_map register_of (map register_part vs))
  registers_in_order [] h = tt
  registers_in_order (w ∷ vs) h = by w.register refl (registers_in_order vs h.1)
    where
      by : (r : Bool) → w.register ≡ r → AreRegistersOf k.flat (map (λ (v : Row). v.signal) vs) (flat_map register_of (map register_part vs))
          → AreRegistersOf k.flat (w.signal ∷ map (λ (v : Row). v.signal) vs) (register_of (r, w.begun, w.later) ++ flat_map register_of (map register_part vs))
      by true e rest = inl (h.0.yes e, h.0.begun.name, h.0.begun.width, rest)
      by false e rest =
          skipped w.signal (map (λ (v : Row). v.signal) vs) (flat_map register_of (map register_part vs)) (λ m. let u : true ≡ false = sym (h.0.no m) ∙ e in cc) rest

  pub has_signals : HasSignals k.flat (made (flat_map output_of k.flat.ports) k.flat.clock k.flat.asyncs)
  has_signals = record {
    design = is_design (flat_map output_of k.flat.ports) k.flat.clock k.flat.asyncs;
    nets = ap (λ z. map net_size (map net_of z)) rs.net_parts ∙ net_sizes ws rs.tracks ∙ sym (ap (map signal_size) rs.signals);
    registers = subst
        (λ gs. AreRegistersOf k.flat gs all_registers)
        (sym rs.signals)
        (subst (λ z. AreRegistersOf k.flat (map (λ (w : Row). w.signal) ws) (flat_map register_of z)) (sym rs.register_parts) (registers_in_order ws rs.tracks));
    inputs = inputs_named k.flat.ports (λ p m. m);
    outputs = refl;
    clock = refl;
    asyncs = refl;
  }

-- the rows of a solution
pub rows_of : (f : Flat) (xss : List (List Name)) (ns : List Node) (ts rs : List Bool) (first now next : List Leaf) → CanElaborate f → IsSolution f xss ts ns first now next → ts ≡ flags_among (joined xss) f.signals → rs ≡ flags_among (clocked_names f) f.signals
    → Rows (record { flat = f; groups = xss; nodes = ns; nets = ts; registers = rs; first = first; now = now; next = next }) f.signals ts rs first now next
rows_of f xss ns ts rs first now next can is nets registers =
    let k : Known = record { flat = f; groups = xss; nodes = ns; nets = ts; registers = rs; first = first; now = now; next = next } in
    let flags : AreFlags (joined xss) f.signals ts = subst (λ z. AreFlags (joined xss) f.signals z) (sym nets) (nets_flagged (joined xss) f.signals) in
    let start : (e : Cycle) → AreFit f.signals e → AreShown (naming_of e) ns first (unset (joined xss) e) = λ e n. begun_shown ns (joined xss) e f.signals ts first flags is.begun n in
    let shown : (e : Cycle) → AreFit f.signals e → AreShown (naming_of e) ns now (solved_to k e) = λ e n. is.shows (naming_of e) (unset (joined xss) e) (start e n) in
    tracks_of k f.signals ts rs first now next (record {
      declared = λ g m. m;
      nets = λ w m. m;
      registers = λ w m. m;
      flags = flags;
      tells = subst (λ z. AreRegisters f f.signals z) (sym registers) (registers_flagged f can.plain f.signals (λ g m. m));
      begun = is.begun;
      solved = is.board.leaves;
      after = same_leaves f.signals now next (sym is.set.same) is.board.leaves;
      first_ready = is.first_board.ready;
      now_ready = is.board.ready;
      next_ready = is.set.ready;
      first_shown = start;
      now_shown = shown;
      next_shown = λ e n. is.edge (naming_of e) (solved_to k e) (shown e n);
    })

pub design_made : (f : Flat) (xss : List (List Name)) (ns : List Node) (ts rs : List Bool) (first now next : List Leaf) → CanElaborate f → IsNetOrder f (DependsOn f) (joined xss) → IsSolution f xss ts ns first now next
    → ts ≡ flags_among (joined xss) f.signals → rs ≡ flags_among (clocked_names f) f.signals → FitFrom [] ns → IsDistinct ns → ((x : Name) → IsInput f x → IsRegister f x → ⊥)
    → (d : Parts) → d.nodes ≡ ns → d.registers ≡ flat_map register_of (zip3 rs first next) → d.inputs ≡ flat_map (input_of (signal_names f.signals) first) f.ports → d.nets ≡ map net_of (zip3 ts first now)
    → d.outputs ≡ flat_map output_of f.ports → d.clock ≡ f.clock → d.asyncs ≡ f.asyncs → IsDesign d × IsSolved f xss d × HasSignals f d
design_made f xss ns ts rs first now next can order is nets registers fit distinct apart d a b i n o c r =
    let k : Known = record { flat = f; groups = xss; nodes = ns; nets = ts; registers = rs; first = first; now = now; next = next } in
    let rows = rows_of f xss ns ts rs first now next can is nets registers in
    let whole : Parts = made k can order rows fit distinct is.frees apart (flat_map output_of f.ports) f.clock f.asyncs in
    let e : whole ≡ d = λ j. record { nodes = sym a j; registers = sym b j; inputs = sym i j; nets = sym n j; outputs = sym o j; clock = sym c j; asyncs = sym r j } in (
      subst IsDesign e (is_design k can order rows fit distinct is.frees apart (flat_map output_of f.ports) f.clock f.asyncs),
      subst (IsSolved f xss) e (is_solved k can order rows fit distinct is.frees apart (flat_map output_of f.ports) f.clock f.asyncs),
      subst (HasSignals f) e (has_signals k can order rows fit distinct is.frees apart),
    )
