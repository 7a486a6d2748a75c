-- The ports of the top's header that are no outputs are its inputs.
use Rattle.std.proofs.Common.{◌≡◌, ◌&&◌, ◌||◌, not, Bool, true, false, List, [], ◌∷◌, map, Option, Some, None, ◌⊎◌, inl, inr, ⊎_elim, refl, sym, ap, subst, ◌∙◌}
use Rattle.std.specs.Prelude.{◌↔◌}
use Rattle.std.specs.List.{flat_map}
use Rattle.std.specs.Str.{bytes_eq}
use Rattle.std.proofs.lemmas.Bool.{cases_Bool}
use Rattle.std.proofs.lemmas.Slice.Eq.{bytes_eq-Decides}
use Rattle.vlog_tree.specs.declared.item.Item.{Item}
use Rattle.vlog_tree.specs.declared.item.Item.TheVariants as t
use Rattle.vlog_tree.specs.declared.item.PortKind.{PortKind}
use Rattle.vlog_tree.specs.declared.item.PortKind.TheVariants as k
use Rattle.vlog_tree.specs.declared.item.Shape.{Shape}
use Rattle.vlog_tree.specs.declared.module.HeaderPort.{HeaderPort}
use Rattle.vlog_tree.specs.declared.module.HeaderPort.TheVariants as h
use Rattle.vlog_tree.specs.declared.module.Module.{Module}
use Rattle.vlog_tree.specs.declared.module.Ports.{Ports}
use Rattle.vlog_tree.specs.declared.module.Ports.TheVariants as q
use Rattle.vlog_tree_runs.specs.declared.flat.Flat.{Flat}
use Rattle.vlog_tree_runs.specs.declared.flat.TopPort.{TopPort}
use Rattle.vlog_tree_runs.specs.Places.{Name, Among}
use Rattle.vlog_tree_runs.specs.Contents.{Decl, bare, is_input, is_output, port_decl, wire_decl, reg_decl, header_decls, ports_decls, item_decls, decls_in, is_among, declares, joined, once, signals_in, port_names}
use Rattle.vlog_tree_runs.specs.Scopes.{Scope, module_at, scope_at, top_scope}
use Rattle.vlog_tree_runs.specs.Cycles.{IsInput, IsInputFrom}
use Rattle.elab_flat_laws.proofs.Lists.{bool_cases, among_append, among_map, map_among, among_flat}
use Rattle.elab_flat_faults.specs.declared.flattening.FlatFault.TheVariants as f
use Rattle.elab_flat_faults.specs.Declaring.{Repeats, is_port, decls_of, IsDeclaredAgain}
use Rattle.elab_flat_faults.specs.FlatStands.{full}
use Rattle.elab_flat_scopes.specs.Finding.{decl_name}
use Rattle.elab_flat_instances.specs.Unfolding.{scope_of_top}
use Rattle.elab_flat_names.proofs.Ports.{filter_has, listed}
use Rattle.elab_flat_faults.specs.Handed.{top_port}
use Rattle.elab_flat_drivers.proofs.Naming.{among_of, of_among}
use Rattle.elab_flat.specs.Checked.{HasFitNames}

-- ---- declarations of a name

and_parts : (a b : Bool) → (a && b) ≡ true → (a ≡ true) × (b ≡ true)
and_parts true b e = (refl, e)
and_parts false b e = cc

or_is : (a b : Bool) → a ≡ false → (a || b) ≡ true → b ≡ true
or_is true b n e = cc
or_is false b n e = e

or_left : (a b : Bool) → a ≡ true → (a || b) ≡ true
or_left true b e = refl
or_left false b e = cc

or_right : (a b : Bool) → b ≡ true → (a || b) ≡ true
or_right true b e = refl
or_right false b e = e

abbrev Says : List Decl → (Decl → Bool) → Name → Type 0
Says ds test x = (d : Decl) × Among ds d × (d.name ≡ x) × (test d ≡ true)

said : (ds : List Decl) (test : Decl → Bool) (x : Name) → declares ds test x ≡ true → Says ds test x
said [] test x e = cc
said (d ∷ ds) test x e = elim (cases_Bool (bytes_eq d.name x && test d)) [
  | inl y ↦ (let r = and_parts (bytes_eq d.name x) (test d) y in (d, inl refl, (bytes_eq-Decides d.name x).0 r.0, r.1))
  | inr n ↦ (let r = said ds test x (or_is (bytes_eq d.name x && test d) (declares ds test x) n e) in (r.0, inr r.1, r.2, r.3))
]

says : (ds : List Decl) (test : Decl → Bool) (x : Name) (d : Decl) → Among ds d → d.name ≡ x → test d ≡ true → declares ds test x ≡ true
says [] test x d a e y = absurd a
says (z ∷ zs) test x d (inl same) e y =
    let named : bytes_eq z.name x ≡ true = (bytes_eq-Decides z.name x).1 (ap (λ (w : Decl). w.name) same ∙ e) in
    let passes : test z ≡ true = ap test same ∙ y in
    or_left (bytes_eq z.name x && test z) (declares zs test x) (rw (named, passes) refl)
says (z ∷ zs) test x d (inr m) e y = or_right (bytes_eq z.name x && test z) (declares zs test x) (says zs test x d m e y)

says_not : (ds : List Decl) (test : Decl → Bool) (x : Name) (d : Decl) → Among ds d → d.name ≡ x → declares ds test x ≡ false → test d ≡ false
says_not ds test x d a e n =
    ⊎_elim (λ y. let z : true ≡ false = sym (says ds test x d a e y) ∙ n in cc) (λ no'. no') (bool_cases (test d))

-- two of one name are one or stand twice
same_or_twice : (ds : List Decl) (x : Name) (a b : Decl) → Among ds a → Among ds b → a.name ≡ x → b.name ≡ x → (a ≡ b) ⊎ Repeats (map decl_name ds) x
same_or_twice [] x a b i j e g = absurd i
same_or_twice (d ∷ ds) x a b (inl i) (inl j) e g = inl (sym i ∙ j)
same_or_twice (d ∷ ds) x a b (inl i) (inr j) e g =
    inr (inl (ap decl_name i ∙ e, subst (Among (map decl_name ds)) g (map_among decl_name ds b j)))
same_or_twice (d ∷ ds) x a b (inr i) (inl j) e g =
    inr (inl (ap decl_name j ∙ g, subst (Among (map decl_name ds)) e (map_among decl_name ds a i)))
same_or_twice (d ∷ ds) x a b (inr i) (inr j) e g = ⊎_elim (λ s. inl s) (λ r. inr (inr r)) (same_or_twice ds x a b i j e g)

-- ---- one declaration is no input and output at once

abbrev OneWay : Decl → Type 0
OneWay d = (d.input && d.output) ≡ false

kind_way : (kind : PortKind) → (is_input kind && is_output kind) ≡ false
kind_way k.Input = refl
kind_way k.Output = refl
kind_way k.OutputReg = refl

header_way : (kind : PortKind) (shape : Shape) (ps : List HeaderPort) (d : Decl) → Among (header_decls kind shape ps) d → OneWay d
header_way kind shape [] d a = absurd a
header_way kind shape (h.Group w s x ∷ ps) d (inl e) = subst OneWay e (kind_way w)
header_way kind shape (h.Group w s x ∷ ps) d (inr a) = header_way w s ps d a
header_way kind shape (h.Again x ∷ ps) d (inl e) = subst OneWay e (kind_way kind)
header_way kind shape (h.Again x ∷ ps) d (inr a) = header_way kind shape ps d a

ports_way : (ps : Option Ports) (d : Decl) → Among (ports_decls ps) d → OneWay d
ports_way None d a = absurd a
ports_way (Some (q.Names xs)) d a = absurd a
ports_way (Some (q.Groups xs)) d a = header_way k.Input bare xs d a

item_way : (i : Item) (d : Decl) → Among (item_decls i) d → OneWay d
item_way (t.Ports kind shape xs) d a = let r = among_map (port_decl kind shape) xs d a in subst OneWay r.2 (kind_way kind)
item_way (t.Wires shape xs) d a = let r = among_map (wire_decl shape) xs d a in subst OneWay r.2 refl
item_way (t.Registers shape xs) d a = let r = among_map (reg_decl shape) xs d a in subst OneWay r.2 refl
item_way (t.Parameters shape xs) d a = absurd a
item_way (t.LocalParameters shape xs) d a = absurd a
item_way (t.Assigns xs) d a = absurd a
item_way (t.Always events body) d a = absurd a
item_way (t.Instances name overrides xs) d a = absurd a

one_way : (m : Module) (d : Decl) → Among (decls_in m) d → OneWay d
one_way m d a =
    ⊎_elim (λ b. ports_way m.ports d b) (λ b. let r = among_flat item_decls m.items d b in item_way r.0 d r.2)
    (among_append (ports_decls m.ports) (flat_map item_decls m.items) d a)

-- ---- the signals, each once

once_from : (all : List Decl) (done : List Name) (ds : List Decl) (d : Decl) → Among (once all done ds) d → (e : Decl) × Among ds e × (joined all e ≡ d)
once_from all done [] d a = absurd a
once_from all done (z ∷ zs) d a = elim (cases_Bool (is_among done z.name)) [
  | inl y ↦ (let r = once_from all done zs d (rw y at a) in (r.0, inr r.1, r.2))
  | inr n ↦ (let b : (joined all z ≡ d) ⊎ Among (once all (z.name ∷ done) zs) d = rw n at a in
      ⊎_elim (λ e. (z, inl refl, e)) (λ m. let r = once_from all (z.name ∷ done) zs d m in (r.0, inr r.1, r.2)) b)
]

once_has : (all : List Decl) (done : List Name) (ds : List Decl) (x : Name) → Among (map decl_name ds) x → is_among done x ≡ false → (e : Decl) × Among (once all done ds) (joined all e) × (e.name ≡ x)
once_has all done [] x a n = absurd a
once_has all done (z ∷ zs) x a n = elim (cases_Bool (bytes_eq z.name x)) [
  | inl y ↦ (
      let same : z.name ≡ x = (bytes_eq-Decides z.name x).0 y in
      let new : is_among done z.name ≡ false = ap (is_among done) same ∙ n in
      (z, rw new (inl refl), same)
      )
  | inr y ↦ (
      let m : Among (map decl_name zs) x = ⊎_elim (λ e. let w : true ≡ false = sym ((bytes_eq-Decides z.name x).1 e) ∙ y in cc) (λ m. m) a in
      elim (cases_Bool (is_among done z.name)) [
        | inl there ↦ (let r = once_has all done zs x m n in (r.0, rw there r.1, r.2))
        | inr new ↦ (let r = once_has all (z.name ∷ done) zs x m (rw (y, n) refl) in (r.0, rw new (inr r.1), r.2))
      ]
      )
]

-- ---- the top

module _ (ms : List Module) (top : Name) (m : Module) (fit : HasFitNames ms (scope_of_top m)) where
  abbrev ds : List Decl
  ds = decls_in m

  abbrev s : Scope
  s = scope_of_top m

  abbrev input : Decl → Bool
  input d = d.input

  abbrev output : Decl → Bool
  output d = d.output

  directed : (x : Name) → Among (port_names m) x → declares ds is_port x ≡ true
  directed x a =
      ⊎_elim (λ y. y) (λ n. absurd (fit (f.Port (full s x)) tt [] (inl (x, inl (a, λ d i e y. never d i e n y), refl)))) (bool_cases (declares ds is_port x))
    where
      never : (d : Decl) → Among ds d → d.name ≡ x → declares ds is_port x ≡ false → is_port d ≡ true → ⊥
      never d i e n y = let z : true ≡ false = sym (says ds is_port x d i e y) ∙ n in cc

  headed : (d : Decl) → Among ds d → is_port d ≡ true → Among (port_names m) d.name
  headed d a port =
      ⊎_elim (λ b. listed m.ports d b) in_body (among_append (ports_decls m.ports) (flat_map item_decls m.items) d a)
    where
      lacks : is_among (port_names m) d.name ≡ false → Among (port_names m) d.name → ⊥
      lacks n i = let z : true ≡ false = sym (of_among (port_names m) d.name i) ∙ n in cc

      in_body : Among (flat_map item_decls m.items) d → Among (port_names m) d.name
      in_body b =
          ⊎_elim (λ y. among_of (port_names m) d.name y)
          (λ n. absurd (fit (f.Port (full s d.name)) tt [] (inl (d.name, inr (d, b, port, refl, lacks n), refl))))
          (bool_cases (is_among (port_names m) d.name))

  -- no name is an input by one declaration and an output by another
  not_both : (x : Name) → Says ds input x → Says ds output x → ⊥
  not_both x (a, i, e, in') (b, j, g, out) =
      ⊎_elim (λ same. apart same)
      (λ r. fit (f.Twice (full s x)) tt [] (inl (x, inr (inr (inl (r, again))), refl))) (same_or_twice ds x a b i j e g)
    where
      apart : a ≡ b → ⊥
      apart same =
          let both : (a.input && a.output) ≡ true = rw (in', ap output same ∙ out) refl in
          let z : true ≡ false = sym both ∙ one_way m a i in cc

      of_name : (d : Decl) → Among ds d → d.name ≡ x → Among (decls_of m x) d
      of_name d k w = filter_has (λ z. bytes_eq z.name x) ds d k ((bytes_eq-Decides d.name x).1 w)

      ports : (c d : Decl) → ((is_port c && is_port d) || not (is_port c || is_port d)) ≡ false → is_port c ≡ true → is_port d ≡ true → ⊥
      ports c d w y z = let all : ((is_port c && is_port d) || not (is_port c || is_port d)) ≡ true = rw (y, z) refl in let n : true ≡ false = sym all ∙ w in cc

      port-a : is_port a ≡ true
      port-a = or_left a.input a.output in'

      port-b : is_port b ≡ true
      port-b = or_right b.input b.output out

      again : IsDeclaredAgain m s.params x → ⊥
      again w =
          let in_two : (d : Decl) → Among ds d → d.name ≡ x → (w.first ≡ d) ⊎ ((w.second ≡ d) ⊎ ⊥) = λ d k n. subst (λ es. Among es d) w.both (of_name d k n) in
          choose w (in_two a i e) (in_two b j g)
        where
          choose : (w : IsDeclaredAgain m s.params x) → (w.first ≡ a) ⊎ ((w.second ≡ a) ⊎ ⊥) → (w.first ≡ b) ⊎ ((w.second ≡ b) ⊎ ⊥) → ⊥
          choose w (inl p) (inl r) = apart (sym p ∙ r)
          choose w (inl p) (inr (inl r)) = ports w.first w.second w.one_port (ap is_port p ∙ port-a) (ap is_port r ∙ port-b)
          choose w (inr (inl p)) (inl r) = ports w.first w.second w.one_port (ap is_port r ∙ port-b) (ap is_port p ∙ port-a)
          choose w (inr (inl p)) (inr (inl r)) = apart (sym p ∙ r)
          choose w (inr (inr z)) r = z
          choose w p (inr (inr z)) = z

  module _ (there : module_at ms top ≡ Some m) (flat : Flat) (ports-are : flat.ports ≡ map (top_port ds) (port_names m)) (x : Name) where
    top-at : scope_at ms top [] ≡ Some s
    top-at = ap top_scope there

    to : IsInput flat x → IsInputFrom ms top x
    to (port, a, no-output, named) =
        let r = among_map (top_port ds) (port_names m) port (subst (λ ps. Among ps port) ports-are a) in
        let same : r.0 ≡ x = ap (λ (z : TopPort). z.name) r.2 ∙ named in
        let no : declares ds output x ≡ false = ap (declares ds output) (sym same) ∙ (ap (λ (z : TopPort). z.output) r.2 ∙ no-output) in
        let d = said ds is_port x (directed x (subst (Among (port_names m)) same r.1)) in
        let in' : d.0.input ≡ true = side d.0.input d.0.output d.3 (says_not ds output x d.0 d.1 d.2 no) in
        let g = once_has ds [] ds x (subst (Among (map decl_name ds)) d.2 (map_among decl_name ds d.0 d.1)) refl in
        (s, top-at, joined ds g.0, g.1, ap (declares ds input) g.2 ∙ says ds input x d.0 d.1 d.2 in', g.2)
      where
        side : (a b : Bool) → (a || b) ≡ true → b ≡ false → a ≡ true
        side true b e n = refl
        side false b e n = let z : true ≡ false = sym e ∙ n in cc

    from : IsInputFrom ms top x → IsInput flat x
    from (scope, at, d, a, in', named) =
        let here : Some s ≡ Some scope = sym top-at ∙ at in
        let one : s ≡ scope = cc in
        let b : Among (signals_in m) d = subst (λ (z : Scope). Among (signals_in z.module') d) (sym one) a in
        let r = once_from ds [] ds d b in
        let same : r.0.name ≡ x = ap (λ (z : Decl). z.name) r.2 ∙ named in
        let yes' : declares ds input x ≡ true = ap (declares ds input) (sym same) ∙ (ap (λ (z : Decl). z.input) r.2 ∙ in') in
        let g = said ds input x yes' in
        let port : Among (port_names m) x = subst (Among (port_names m)) g.2 (headed g.0 g.1 (or_left g.0.input g.0.output g.3)) in
        let no : declares ds output x ≡ false = ⊎_elim (λ y. absurd (not_both x g (said ds output x y))) (λ n. n) (bool_cases (declares ds output x)) in
        (top_port ds x, subst (λ ps. Among ps (top_port ds x)) (sym ports-are) (map_among (top_port ds) (port_names m) x port), no, refl)

    pub inputs_are : IsInput flat x ↔ IsInputFrom ms top x
    inputs_are = (to, from)
