-- Where no fault stands, the texts of the module without instances can be taken where they stand.
use Rattle.std.proofs.Common.{◌≡◌, ◌+◌, ◌≤◌, max, Bool, true, false, List, [], ◌∷◌, ◌++◌, Option, Some, None, map, sym, ap, ◌∙◌, refl, subst, ◌⊎◌, inl, inr, ⊎_elim, arith}
use Rattle.std.specs.List.{flat_map}
use Rattle.std.specs.Option.{option_map}
use Rattle.std.specs.Str.{bytes_eq}
use Rattle.std.proofs.lemmas.Slice.Eq.{bytes_eq-Decides}
use Rattle.vlog_tree.specs.declared.expr.Expr.{Expr}
use Rattle.vlog_tree.specs.declared.expr.Expr.TheVariants as e
use Rattle.vlog_tree.specs.declared.item.Assign.{Assign}
use Rattle.vlog_tree.specs.declared.item.Shape.{Shape}
use Rattle.vlog_tree.specs.declared.module.Module.{Module}
use Rattle.vlog_tree.specs.declared.stmt.Lval.{Lval, Row_of-Lval, end_of-Lval, more_of-Lval}
use Rattle.vlog_tree.specs.declared.stmt.Lval.TheVariants as l
use Rattle.vlog_tree.specs.declared.valuation.Entry.{Entry}
use Rattle.vlog_tree.specs.Valuation.{IsLength, meant, meaning_of, named}
use Rattle.vlog_tree.specs.Value.{width_of, Stands as IsNamed, NamesOnly}
use Rattle.vlog_tree_runs.specs.declared.flat.Always.{Always}
use Rattle.vlog_tree_runs.specs.declared.flat.Flat.{Flat}
use Rattle.vlog_tree_runs.specs.declared.flat.Signal.{Signal}
use Rattle.vlog_tree_runs.specs.declared.flat.TopPort.{TopPort}
use Rattle.vlog_tree_runs.specs.Places.{Name, Among, Place, read}
use Rattle.vlog_tree_runs.specs.Blocks.{is_parameter, lefts, left_names}
use Rattle.vlog_tree_runs.specs.Contents.{Decl, decls_in, signals_in, port_names, assigns_in, blocks_in, Inner, instances_in}
use Rattle.vlog_tree_runs.specs.Scopes.{Scope, scope_at, module_at, place_of, signal_of, width_in, depth_in, child, Given, given_to, decl_at, left_of, Link, links_of, own_link, inner_links, connections, connection, port_links, port_link}
use Rattle.vlog_tree_runs.specs.Cycles.{flat_place}
use Rattle.elab_flat_laws.specs.Moved.{moved, moved_name, moved_left, moved_lefts, moved_signal}
use Rattle.elab_flat_laws.specs.Uses.{known, IsSignal, AssignsSignals}
use Rattle.elab_flat_laws.specs.Flattened.{moved_link, moved_block, flat_signals, flat_assigns, flat_blocks, IsFlatOf, AreScopes, IsLinkDeclared, CanFlatten, HaveSimpleNames}
use Rattle.elab_flat_laws.specs.Laws.{MovesInto}
use Rattle.elab_flat_laws.proofs.Constants.{nothing, fixed}
use Rattle.elab_flat_laws.proofs.Driving.{left_names_moved, assigned_names}
use Rattle.elab_flat_laws.proofs.Finding.{bare}
use Rattle.elab_flat_laws.proofs.Lists.{bool_cases, among_append, append_left, among_map, map_among, map_append, among_flat, flat_among}
use Rattle.elab_flat_laws.proofs.Lows.{scope_moves}
use Rattle.elab_flat_faults.specs.declared.flattening.FlatFault.{FlatFault}
use Rattle.elab_flat_faults.specs.Texts.{numbers_in, row_numbers_in}
use Rattle.elab_flat_faults.specs.Constants.{at_rest, alone, HasConstantNumbers}
use Rattle.elab_flat_faults.specs.FlatStands.{Stands}
use Rattle.mem_laws.specs.Uses.{lefts_of}
use Rattle.mem_laws.proofs.Finding.{AreSpreadable}
use Rattle.elab_step_blocks.specs.Ready.{IsReadyLeft}
use Rattle.elab_step_nets.specs.Solving.{AreDistinct}
use Rattle.desk_core_stage_laws.specs.Fit.{IsFit}
use Rattle.desk_core_stage_laws.specs.Sized.{left_length, IsSizedStore, IsSizedStmt, HasOwnWords, IsSizedLeft, IsPlacedSomewhere, HasSizedTexts}
use Rattle.elab_flat_faults.specs.Handed.{HasTopPorts}
use Rattle.elab_flat_faults.specs.Plain.{ArePlainTexts}
use Rattle.elab_flat_faults.specs.Handed.{HaveOwnPaths}
use Rattle.desk_core_stage_laws.proofs.Lengths.{name_length, longer}
use Rattle.desk_core_stage_laws.proofs.Standing as standing
use Rattle.desk_core_stage_laws.proofs.Sides.{left_ready, right_placed, ready_store, moved_wide}
use Rattle.desk_core_stage_laws.proofs.Blocks.{stmt_ready, store_ready}
use Rattle.desk_core_stage_laws.proofs.Paths.{are_once}
use Rattle.desk_core_stage_laws.proofs.Signals.{signal_name, name_known, no_repeats, signal_shaped, all_distinct, signal_width, signal_stands, found_signal}
use Rattle.desk_core_stage_laws.proofs.Ports.{names_listed, top_found, ports_once, port_signal}

-- ---- the numbers of a moved left side

mutual
  numbers_moved : (pre : Name) (ps : List Entry) (left : Lval) → numbers_in (moved_left pre ps left) ≡ map (moved pre ps) (numbers_in left)
  numbers_moved pre ps (l.Name x) = refl
  numbers_moved pre ps (l.Select x a) = refl
  numbers_moved pre ps (l.Part x span a b) = refl
  numbers_moved pre ps (l.Concat' h row) = row_moved pre ps row

  row_moved : {m : _} (pre : Name) (ps : List Entry) (row : Row_of-Lval m) → row_numbers_in (moved_lefts pre ps row) ≡ map (moved pre ps) (row_numbers_in row)
  row_moved pre ps end_of-Lval = refl
  row_moved pre ps (more_of-Lval a rest) =
      (λ r. numbers_moved pre ps a r ++ row_moved pre ps rest r) ∙ sym (map_append (moved pre ps) (numbers_in a) (row_numbers_in rest))

numbers_constant : (p : Place) (left : Lval) → AssignsSignals p left → HasConstantNumbers (is_parameter p) left → (n : Expr) → Among (numbers_in (moved_left p.prefix p.params left)) n → NamesOnly nothing n
numbers_constant p left d h n k =
    let r = among_map (moved p.prefix p.params) (numbers_in left) n (subst (λ xs. Among xs n) (numbers_moved p.prefix p.params left) k) in
    subst (λ z. NamesOnly nothing z) r.2 (fixed p r.0 (standing.numbers_use p left d r.0 r.1).1 (standing.number_constant (is_parameter p) left h r.0 r.1))

-- ---- a name alone on the right

name_store : (v : List Entry) (left : Lval) (x : Name) → IsReadyLeft v left → IsLength (left_length v left) → IsNamed v (read x) → IsSizedStore v left (e.Name (read x))
name_store v left x ready len stands =
    let own = name_length v (read x) stands in
    let k = longer (width_of v (e.Name (read x))) (left_length v left) own len in
    record {
      left_side = ready;
      length = len;
      right_side = record { ready = record { formed = stands; some = k.0; long = omega arith; most = k.1 }; constant = tt; defined = refl };
    }

decl_found : (ds : List Decl) (x : Name) (d : Decl) → decl_at ds x ≡ Some d → Among ds d × (d.name ≡ x)
decl_found [] x d h = cc
decl_found (c ∷ ds) x d h =
    ⊎_elim
    (λ (t : bytes_eq c.name x ≡ true).
    let s : Some c ≡ Some d = rw t at h in
    let i : c ≡ d = cc in
    (inl i, ap (λ (z : Decl). z.name) (sym i) ∙ (bytes_eq-Decides c.name x).0 t))
    (λ (t : bytes_eq c.name x ≡ false). let r = decl_found ds x d (rw t at h) in (inr r.0, r.1))
    (bool_cases (bytes_eq c.name x))

-- ---- links by their forms

abbrev in_link : Place → Place → Given → Link
in_link r p g = record { into = p; left = l.Name g.name; from = r; right = g.value }

abbrev out_link : Place → Place → Given → Link
out_link r p g = record { into = r; left = left_of g.value; from = p; right = e.Name (read g.name) }

port_in : (r p : Place) (g : Given) (d : Decl) (i o : Bool) → d.input ≡ i → d.output ≡ o → (k : Link) → Among (port_link r p g d) k →
    ((d.input ≡ true) × (in_link r p g ≡ k)) ⊎ ((d.input ≡ false) × (out_link r p g ≡ k))
port_in r p g d true o e f k h =
    let z : Among (in_link r p g ∷ []) k = rw e at h in ⊎_elim (λ i. inl (e, i)) (λ z. absurd z) z
port_in r p g d false true e f k h =
    let z : Among (out_link r p g ∷ []) k = rw (e, f) at h in ⊎_elim (λ i. inr (e, i)) (λ z. absurd z) z
port_in r p g d false false e f k h = let z : Among [] k = rw (e, f) at h in absurd z

module _ (ms : List Module) (top : Name) (ss : List Scope) (f : Flat) (simple : HaveSimpleNames ms) (of : IsFlatOf ms top ss f) (are : AreScopes ms top ss) (own : HaveOwnPaths ms top ss)
    (can : CanFlatten ms ss) (ports : HasTopPorts ms top f) (none : (fault : FlatFault) → Stands ms top fault → ⊥) where
  abbrev q : Place
  q = flat_place f

  moves : (u : Scope) → Among ss u → MovesInto (place_of u) q
  moves u h = subst (λ gs. MovesInto (place_of u) (bare gs)) (sym of.signals) (scope_moves ss can.apart u h (can.usable u h).constants (can.usable u h).distinct)

  -- ---- signals

  distinct : AreDistinct (map signal_name f.signals)
  distinct = subst (λ gs. AreDistinct (map signal_name gs)) (sym of.signals) (all_distinct ss can.apart ss (λ t n. n) (are_once ms simple top ss own.paths own.lead own.distinct))

  signal_in : (u : Scope) (g : Signal) → Among ss u → Among (place_of u).signals g → Among f.signals (moved_signal u.prefix g)
  signal_in u g h k = subst (λ gs. Among gs (moved_signal u.prefix g)) (sym of.signals) (flat_among flat_signals ss u (moved_signal u.prefix g) h (map_among (moved_signal u.prefix) (place_of u).signals g k))

  decl_wide : (u : Scope) → Among ss u → (d : Decl) → Among (signals_in u.module') d → IsLength (signal_of u.params d).width
  decl_wide u h d m =
      let at = are.only u h in
      let r = signal_shaped u.module' d m in
      subst (λ (z : Shape). IsLength (width_in z.range 1 u.params)) r.shape (standing.decl_wide ms top none u at.0 at.1 r.from r.among)

  decl_shallow : (u : Scope) → Among ss u → (d : Decl) → Among (signals_in u.module') d → (signal_of u.params d).depth ≤ 64
  decl_shallow u h d m =
      let at = are.only u h in
      let r = signal_shaped u.module' d m in
      subst (λ o. depth_in o u.params ≤ 64) r.words (standing.decl_shallow ms top none u at.0 at.1 r.from r.among)

  -- each signal is one of a scope's
  each_signal : (P : Signal → Type 0) → ((pre : Name) (g : Signal) → P g → P (moved_signal pre g)) → ((u : Scope) → Among ss u → (d : Decl) → Among (signals_in u.module') d → P (signal_of u.params d)) →
      (g : Signal) → Among f.signals g → P g
  each_signal P moves h g m =
      let r = among_flat flat_signals ss g (subst (λ gs. Among gs g) of.signals m) in
      let k = among_map (moved_signal r.0.prefix) (place_of r.0).signals g r.2 in
      let d = among_map (signal_of r.0.params) (signals_in r.0.module') k.0 k.1 in
      subst P k.2 (moves r.0.prefix k.0 (subst P d.2 (h r.0 r.1 d.0 d.1)))

  wide : (g : Signal) → Among f.signals g → IsLength g.width
  wide = each_signal (λ g. IsLength g.width) (λ pre g h. h) decl_wide

  shallow : (g : Signal) → Among f.signals g → g.depth ≤ 64
  shallow = each_signal (λ g. g.depth ≤ 64) (λ pre g h. h) decl_shallow

  spreadable : HasOwnWords f → AreSpreadable f.signals
  spreadable words = record { wide = wide; shallow = shallow; once = λ y w r. words y (w, r) }

  stands : (u : Scope) → Among ss u → (x : Name) → IsSignal (place_of u) x → IsNamed (at_rest q) (read (u.prefix ++ x))
  stands u h x d =
      let r = found_signal (place_of u).signals x d.1 in
      let m = signal_in u r.0 h r.1 in
      signal_stands f.signals wide (λ y. 0) (moved_signal u.prefix r.0) m (u.prefix ++ x) (ap (λ y. u.prefix ++ y) r.2)

  -- a moved left side names signals
  name_declared : (u : Scope) → Among ss u → (left : Lval) → AssignsSignals (place_of u) left → (y : Name) → Among (left_names left) y → Among (map signal_name f.signals) (u.prefix ++ y)
  name_declared u h left d y n =
      let g = found_signal (place_of u).signals y (standing.names_are (place_of u) left d y n) in
      subst (λ z. Among (map signal_name f.signals) z) (ap (λ z. u.prefix ++ z) g.2) (map_among signal_name f.signals (moved_signal u.prefix g.0) (signal_in u g.0 h g.1))

  left_declared : (u : Scope) → Among ss u → (left : Lval) → AssignsSignals (place_of u) left → (x : Name) → Among (left_names (moved_left u.prefix u.params left)) x →
      Among (map signal_name f.signals) x
  left_declared u h left d x n =
      let y = among_map (λ z. u.prefix ++ z) (left_names left) x (subst (λ xs. Among xs x) (left_names_moved u.prefix u.params left) n) in
      subst (λ z. Among (map signal_name f.signals) z) y.2 (name_declared u h left d y.0 y.1)

  -- ---- blocks

  block_declared : (k : Always) → Among f.blocks k → (x : Name) → Among (flat_map left_names (lefts k.body)) x → Among (map signal_name f.signals) x
  block_declared k m x n =
      let r = among_flat flat_blocks ss k (subst (λ bs. Among bs k) of.blocks m) in
      let u = r.0 in
      let b = among_map (moved_block (place_of u)) (blocks_in u.module') k r.2 in
      let here = subst (λ (z : Always). Among (flat_map left_names (lefts z.body)) x) (sym b.2) n in
      let y = among_map (λ z. u.prefix ++ z) (flat_map left_names (lefts b.0.body)) x (subst (λ xs. Among xs x) (assigned_names u.prefix u.params b.0.body) here) in
      let left = among_flat left_names (lefts b.0.body) y.0 y.1 in
      let d = standing.lefts_use (place_of u) b.0.body ((can.usable u r.1).blocks b.0 b.1) left.0 left.1 in
      subst (λ z. Among (map signal_name f.signals) z) y.2 (name_declared u r.1 left.0 d y.0 left.2)

  block : (k : Always) → Among f.blocks k → IsSizedStmt (at_rest q) k.body
  block k m =
      let r = among_flat flat_blocks ss k (subst (λ bs. Among bs k) of.blocks m) in
      let u = r.0 in
      let at = are.only u r.1 in
      let b = among_map (moved_block (place_of u)) (blocks_in u.module') k r.2 in
      let d = (can.usable u r.1).blocks b.0 b.1 in
      subst (λ (z : Always). IsSizedStmt (at_rest q) z.body) b.2
      (stmt_ready (place_of u) q (moves u r.1) (stands u r.1) b.0.body d (standing.block_fit ms top none u at.0 at.1 b.0 b.1 d))

  -- ---- equations

  record IsSizedAssign (a : Assign) : Type 0 where
    declared : (x : Name) → Among (left_names a.left) x → Among (map signal_name f.signals) x
    left : IsSizedLeft (at_rest q) a.left
    right : IsPlacedSomewhere (at_rest q) a.right
    store : HasOwnWords f → IsSizedStore (at_rest q) a.left a.right
    constant : (n : Expr) → Among (numbers_in a.left) n → NamesOnly nothing n

  abbrev IsReadyLink : Link → Type 0
  IsReadyLink k = IsSizedAssign (moved_link k)

  sized : (a : Assign) → ((x : Name) → Among (left_names a.left) x → Among (map signal_name f.signals) x) → IsSizedStore (at_rest q) a.left a.right →
      ((n : Expr) → Among (numbers_in a.left) n → NamesOnly nothing n) → IsSizedAssign a
  sized a declared store constant = record {
    declared = declared;
    left = (store.left_side, store.length);
    right = (max (width_of (at_rest q) a.right) (left_length (at_rest q) a.left), store.right_side);
    store = λ words. store;
    constant = constant;
  }

  module _ (s : Scope) (h : Among ss s) where
    abbrev p : Place
    p = place_of s

    abbrev path : List Name
    path = (are.only s h).0

    at : scope_at ms top path ≡ Some s
    at = (are.only s h).1

    link_declared : (k : Link) → Among (links_of ms s) k → IsLinkDeclared k
    link_declared k m = (can.usable s h).links k m

    own_ready : (a : Assign) → Among (assigns_in s.module') a → IsReadyLink (own_link p a)
    own_ready a m =
        let d = link_declared (own_link p a) (append_left (map (own_link p) (assigns_in s.module')) (flat_map (inner_links ms s) (instances_in s.module')) (own_link p a) (map_among (own_link p) (assigns_in s.module') a m)) in
        let numbers : (n : Expr) → Among (numbers_in a.left) n → IsFit p (alone (at_rest p) n) =
        λ n k. standing.own_number ms top none s path at a m n k (standing.numbers_use p a.left d.left n k) in
        let left = standing.own_left ms top none s path at a m in
        sized (moved_link (own_link p a)) (left_declared s h a.left d.left)
        (store_ready p q (moves s h) (stands s h) a.left a.right d.left d.right (standing.own_right ms top none s path at a m d.right)
        (standing.fixed_fit ms top none s path at a.left left d.left numbers) numbers)
        (numbers_constant p a.left d.left (standing.fixed_numbers ms top none s path at a.left left))

    module _ (i : Inner) (m : Among (instances_in s.module') i) (t : Scope) (is : child ms s i ≡ Some t) (d : Given) (n : Among (given_to (port_names t.module') i.args) d)
        (port : Decl) (declared : decl_at (signals_in t.module') d.name ≡ Some port) where
      ht : Among ss t
      ht = are.inner s t i h m is

      -- the signal of the port
      named_port : Among (signals_in t.module') port × (port.name ≡ d.name)
      named_port = decl_found (signals_in t.module') d.name port declared

      abbrev inner : Signal
      inner = signal_of t.params port

      inner_in : Among (place_of t).signals inner
      inner_in = map_among (signal_of t.params) (signals_in t.module') port named_port.0

      abbrev outer : Signal
      outer = moved_signal t.prefix inner

      outer_in : Among f.signals outer
      outer_in = signal_in t inner ht inner_in

      outer_named : outer.name ≡ t.prefix ++ d.name
      outer_named = ap (λ y. t.prefix ++ y) named_port.1

      port_stands : IsNamed (at_rest q) (read (t.prefix ++ d.name))
      port_stands = signal_stands f.signals wide (λ y. 0) outer outer_in (t.prefix ++ d.name) outer_named

      input_ready : port.input ≡ true → IsLinkDeclared (in_link p (place_of t) d) → IsReadyLink (in_link p (place_of t) d)
      input_ready inp u =
          let k = named (at_rest q) (read (t.prefix ++ d.name)) in
          let more : k.width + 0 ≡ k.width = omega arith in
          let fit = standing.input_fit ms top none s path at i m t is d n port declared inp u.right in
          record {
            declared = left_declared t ht (l.Name d.name) u.left;
            left = (port_stands, subst IsLength (sym more) (name_length (at_rest q) (read (t.prefix ++ d.name)) port_stands));
            right = (_, right_placed p q (moves s h) (stands s h) d.value outer.width (wide outer outer_in) u.right fit);
            store = λ words.
                let same = signal_width f.signals (spreadable words) distinct (λ y. 0) outer outer_in (t.prefix ++ d.name) outer_named in
                ready_store p q (moves s h) (stands s h) (l.Name (t.prefix ++ d.name)) d.value outer.width port_stands (sym (more ∙ same)) (wide outer outer_in) u.right fit;
            constant = λ x z. absurd z;
          }

      -- an output keeps its name
      output_name : e.Name (read (t.prefix ++ d.name)) ≡ moved t.prefix t.params (e.Name (read d.name))
      output_name =
          let k = subst (λ y. Among (known (place_of t).signals) y) named_port.1 (name_known (place_of t).signals inner inner_in) in
          let no : meaning_of t.params (read d.name) ≡ None = ap (option_map meant) ((can.usable t ht).distinct d.name k) in
          sym (ap (λ o. moved_name t.prefix o (read d.name)) no)

      output_ready : port.input ≡ false → IsLinkDeclared (out_link p (place_of t) d) → IsReadyLink (out_link p (place_of t) d)
      output_ready inp u =
          let left = left_of d.value in
          let numbers : (x : Expr) → Among (numbers_in left) x → IsFit p (alone (at_rest p) x) =
          λ x k. standing.output_number ms top none s path at i m t is d n port declared inp x k (standing.numbers_use p left u.left x k) in
          let fixed_left = standing.output_left ms top none s path at i m t is d n port declared inp in
          let fit = standing.fixed_fit ms top none s path at left fixed_left u.left numbers in
          let ready = left_ready p q (moves s h) (stands s h) left u.left fit.spans fit.formed numbers in
          let len = subst IsLength (moved_wide p q (moves s h) (stands s h) left u.left) fit.length in
          sized (moved_link (out_link p (place_of t) d)) (left_declared s h left u.left)
          (subst (λ x. IsSizedStore (at_rest q) (moved_left s.prefix s.params left) x) output_name
          (name_store (at_rest q) (moved_left s.prefix s.params left) (t.prefix ++ d.name) ready len port_stands))
          (numbers_constant p left u.left (standing.fixed_numbers ms top none s path at left fixed_left))

    given_ready : (i : Inner) → Among (instances_in s.module') i → (t : Scope) → child ms s i ≡ Some t → (d : Given) → Among (given_to (port_names t.module') i.args) d →
        (o : Option Decl) → decl_at (signals_in t.module') d.name ≡ o → (k : Link) → Among (port_links p (place_of t) d o) k → IsLinkDeclared k → IsReadyLink k
    given_ready i m t is d n None declared k z u = absurd z
    given_ready i m t is d n (Some port) declared k z u =
        ⊎_elim
        (λ r. subst IsReadyLink r.1 (input_ready i m t is d n port declared r.0 (subst IsLinkDeclared (sym r.1) u)))
        (λ r. subst IsReadyLink r.1 (output_ready i m t is d n port declared r.0 (subst IsLinkDeclared (sym r.1) u)))
        (port_in p (place_of t) d port port.input port.output refl refl k z)

    inner_ready : (i : Inner) → Among (instances_in s.module') i → (o : Option Scope) → child ms s i ≡ o → (k : Link) → Among (connections p i o) k → IsLinkDeclared k → IsReadyLink k
    inner_ready i m None is k z u = absurd z
    inner_ready i m (Some t) is k z u =
        let r = among_flat (connection p t) (given_to (port_names t.module') i.args) k z in
        given_ready i m t is r.0 r.1 (decl_at (signals_in t.module') r.0.name) refl k r.2 u

    link_ready : (k : Link) → Among (links_of ms s) k → IsReadyLink k
    link_ready k m =
        ⊎_elim
        (λ a. let r = among_map (own_link p) (assigns_in s.module') k a in subst IsReadyLink r.2 (own_ready r.0 r.1))
        (λ b. let r = among_flat (inner_links ms s) (instances_in s.module') k b in inner_ready r.0 r.1 (child ms s r.0) refl k r.2 (link_declared k m))
        (among_append (map (own_link p) (assigns_in s.module')) (flat_map (inner_links ms s) (instances_in s.module')) k m)

  -- each equation is the link of a scope
  equation : (a : Assign) → Among f.assigns a → IsSizedAssign a
  equation a m =
      let r = among_flat (flat_assigns ms) ss a (subst (λ xs. Among xs a) of.assigns m) in
      let k = among_map moved_link (links_of ms r.0) a r.2 in
      subst IsSizedAssign k.2 (link_ready r.0 r.1 k.0 k.1)

  declared : (x : Name) → Among (flat_map left_names (lefts_of f)) x → Among (map signal_name f.signals) x
  declared x n =
      let r = among_flat left_names (lefts_of f) x n in
      ⊎_elim
      (λ m. let a = among_map (λ (z : Assign). z.left) f.assigns r.0 m in (equation a.0 a.1).declared x (subst (λ z. Among (left_names z) x) (sym a.2) r.2))
      (λ m. let k = among_flat (λ (z : Always). lefts z.body) f.blocks r.0 m in block_declared k.0 k.1 x (flat_among left_names (lefts k.0.body) r.0 x k.2 r.2))
      (among_append (map (λ (z : Assign). z.left) f.assigns) (flat_map (λ (z : Always). lefts z.body) f.blocks) r.0 r.1)

  -- ---- ports

  header : (m : Module) × (module_at ms top ≡ Some m)
  header = top_found ms top ss are none (module_at ms top) refl

  listed : map (λ (p : TopPort). p.name) f.ports ≡ port_names header.0
  listed = ap (map (λ (p : TopPort). p.name)) (ports header.0 header.1) ∙ names_listed (decls_in header.0) (port_names header.0)

  port : (p : TopPort) → Among f.ports p → (g : Signal) × Among f.signals g × (g.name ≡ p.name) × (g.depth ≡ 0)
  port p m =
      let n = subst (λ xs. Among xs p.name) listed (map_among (λ (z : TopPort). z.name) f.ports p m) in
      let r = port_signal ms top ss are none header.0 header.1 p.name n in
      (r.0, subst (λ gs. Among gs r.0) (sym of.signals) r.1, r.2, r.3)

  once : AreDistinct (map (λ (p : TopPort). p.name) f.ports)
  once = subst AreDistinct (sym listed) (no_repeats (port_names header.0) (λ x r. ports_once ms top ss are none header.0 header.1 x r))

  all_sized : HasSizedTexts f
  all_sized = record {
    distinct = distinct;
    wide = wide;
    shallow = shallow;
    declared = declared;
    lefts = λ a m. (equation a m).left;
    rights = λ a m. (equation a m).right;
    assigns = λ words a m. (equation a m).store words;
    constant = λ a n m k. (equation a m).constant n k;
    blocks = block;
    ports = port;
    once = once;
  }

pub sized_texts : (ms : List Module) (top : Name) (ss : List Scope) (f : Flat) → ArePlainTexts ms → IsFlatOf ms top ss f → AreScopes ms top ss → HaveOwnPaths ms top ss → CanFlatten ms ss →
    HasTopPorts ms top f → ((fault : FlatFault) → Stands ms top fault → ⊥) → HasSizedTexts f
sized_texts ms top ss f texts of are own can ports none = all_sized ms top ss f (λ m h. (texts m h).names) of are own can ports none
