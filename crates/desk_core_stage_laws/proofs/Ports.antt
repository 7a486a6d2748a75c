-- The ports of the module without instances are signals, each named once, and no memories.
use Rattle.std.proofs.Common.{◌≡◌, Bool, true, false, filter, List, [], ◌∷◌, Option, Some, None, map, sym, ap, ◌∙◌, refl, subst, inl, inr, ⊎_elim}
use Rattle.std.specs.List.{flat_map}
use Rattle.std.specs.Str.{bytes_eq}
use Rattle.std.proofs.lemmas.Slice.Eq.{bytes_eq-Decides}
use Rattle.vlog_tree.specs.declared.item.Item.{Item}
use Rattle.vlog_tree.specs.declared.item.Item.TheVariants as t
use Rattle.vlog_tree.specs.declared.item.PortKind.{PortKind}
use Rattle.vlog_tree.specs.declared.item.PortKind.TheVariants as k
use Rattle.vlog_tree.specs.declared.item.Range.{Range}
use Rattle.vlog_tree.specs.declared.item.Shape.{Shape}
use Rattle.vlog_tree.specs.declared.module.HeaderPort.{HeaderPort}
use Rattle.vlog_tree.specs.declared.module.HeaderPort.TheVariants as h
use Rattle.vlog_tree.specs.declared.module.Module.{Module}
use Rattle.vlog_tree.specs.declared.module.Ports.{Ports}
use Rattle.vlog_tree.specs.declared.module.Ports.TheVariants as q
use Rattle.vlog_tree.specs.declared.valuation.Entry.{Entry}
use Rattle.vlog_tree_runs.specs.declared.flat.Signal.{Signal}
use Rattle.vlog_tree_runs.specs.declared.flat.TopPort.{TopPort}
use Rattle.vlog_tree_runs.specs.Places.{Name, Among}
use Rattle.vlog_tree_runs.specs.Contents.{Decl, bare, port_decl, wire_decl, reg_decl, header_decls, ports_decls, item_decls, decls_in, signals_in, port_names, is_among}
use Rattle.vlog_tree_runs.specs.Scopes.{Scope, scope_at, top_scope, module_at, params_of, depth_in, signal_of, place_of}
use Rattle.elab_flat_laws.specs.Moved.{moved_signal}
use Rattle.elab_flat_laws.specs.Flattened.{flat_signals, AreScopes}
use Rattle.elab_flat_laws.proofs.Lists.{bool_cases, among_append, among_map, map_among, among_flat, flat_among}
use Rattle.elab_flat_faults.specs.declared.flattening.FlatFault.{FlatFault}
use Rattle.elab_flat_faults.specs.declared.flattening.FlatFault.TheVariants as f
use Rattle.elab_flat_faults.specs.Declaring.{Repeats, is_port, IsDeclaredAgain}
use Rattle.elab_flat_faults.specs.FlatStands.{Stands}
use Rattle.elab_flat_faults.specs.Handed.{top_port}
use Rattle.desk_core_stage_laws.proofs.Signals.{decl_name, signal_declared, signal_shaped}

among_of : (xs : List Name) (x : Name) → is_among xs x ≡ true → Among xs x
among_of [] x h = cc
among_of (y ∷ ys) x h =
    ⊎_elim (λ (e : bytes_eq y x ≡ true). inl ((bytes_eq-Decides y x).0 e)) (λ (e : bytes_eq y x ≡ false). inr (among_of ys x (rw e at h))) (bool_cases (bytes_eq y x))

not_among : (xs : List Name) (x : Name) → is_among xs x ≡ false → Among xs x → ⊥
not_among [] x h n = n
not_among (y ∷ ys) x h n =
    ⊎_elim (λ (e : bytes_eq y x ≡ true). let z : true ≡ false = rw e at h in cc)
    (λ (e : bytes_eq y x ≡ false). ⊎_elim (λ (i : y ≡ x). let z : true ≡ false = sym ((bytes_eq-Decides y x).1 i) ∙ e in cc) (λ k. not_among ys x (rw e at h) k) n)
    (bool_cases (bytes_eq y x))

pub names_listed : (ds : List Decl) (xs : List Name) → map (λ (p : TopPort). p.name) (map (top_port ds) xs) ≡ xs
names_listed ds [] = refl
names_listed ds (x ∷ xs) = ap (λ ys. x ∷ ys) (names_listed ds xs)

-- ---- a port has no words

header_wordless : (kind : PortKind) (shape : Shape) (xs : List HeaderPort) (d : Decl) → Among (header_decls kind shape xs) d → d.words ≡ None
header_wordless kind shape [] d m = absurd m
header_wordless kind shape (h.Group k s x ∷ xs) d m =
    ⊎_elim (λ (i : port_decl k s x ≡ d). ap (λ (z : Decl). z.words) (sym i)) (λ n. header_wordless k s xs d n) m
header_wordless kind shape (h.Again x ∷ xs) d m =
    ⊎_elim (λ (i : port_decl kind shape x ≡ d). ap (λ (z : Decl). z.words) (sym i)) (λ n. header_wordless kind shape xs d n) m

listed_wordless : (o : Option Ports) (d : Decl) → Among (ports_decls o) d → d.words ≡ None
listed_wordless None d m = absurd m
listed_wordless (Some (q.Names xs)) d m = absurd m
listed_wordless (Some (q.Groups xs)) d m = header_wordless k.Input bare xs d m

item_wordless : (i : Item) (d : Decl) → Among (item_decls i) d → is_port d ≡ true → d.words ≡ None
item_wordless (t.Ports kind shape xs) d m p = let r = among_map (port_decl kind shape) xs d m in ap (λ (z : Decl). z.words) (sym r.2)
item_wordless (t.Wires shape xs) d m p = let r = among_map (wire_decl shape) xs d m in ap (λ (z : Decl). z.words) (sym r.2)
item_wordless (t.Registers shape xs) d m p =
    let r = among_map (reg_decl shape) xs d m in
    let no : false ≡ true = ap is_port r.2 ∙ p in
    cc
item_wordless (t.Parameters shape xs) d m p = absurd m
item_wordless (t.LocalParameters shape xs) d m p = absurd m
item_wordless (t.Assigns xs) d m p = absurd m
item_wordless (t.Always events body) d m p = absurd m
item_wordless (t.Instances name overrides xs) d m p = absurd m

port_wordless : (m : Module) (d : Decl) → Among (decls_in m) d → is_port d ≡ true → d.words ≡ None
port_wordless m d h p =
    ⊎_elim (λ n. listed_wordless m.ports d n) (λ n. let r = among_flat item_decls m.items d n in item_wordless r.0 d r.2 p)
    (among_append (ports_decls m.ports) (flat_map item_decls m.items) d h)

-- two declarations of a name, one of them with words
two_repeat : (ds : List Decl) (d e : Decl) (x : Name) (w : Range) → Among ds d → Among ds e → d.name ≡ x → e.name ≡ x → d.words ≡ None → e.words ≡ Some w → Repeats (map decl_name ds) x
two_repeat [] d e x w m n i j u v = absurd m
two_repeat (c ∷ ds) d e x w m n i j u v =
    let in_rest : (z : Decl) → Among ds z → z.name ≡ x → Among (map decl_name ds) x = λ z k l. subst (λ y. Among (map decl_name ds) y) l (map_among decl_name ds z k) in
    ⊎_elim
    (λ (a : c ≡ d). ⊎_elim
    (λ (b : c ≡ e). let no : None ≡ Some w = sym u ∙ (ap (λ (z : Decl). z.words) (sym a ∙ b) ∙ v) in cc)
    (λ k. inl (ap (λ (z : Decl). z.name) a ∙ i, in_rest e k j)) n)
    (λ k. ⊎_elim (λ (b : c ≡ e). inl (ap (λ (z : Decl). z.name) b ∙ j, in_rest d k i)) (λ l. inr (two_repeat ds d e x w k l i j u v)) n) m

kept_in : (test : Decl → Bool) (ds : List Decl) (d : Decl) → Among ds d → test d ≡ true → Among (filter test ds) d
kept_in test [] d m h = absurd m
kept_in test (c ∷ ds) d m h =
    ⊎_elim (λ (t : test c ≡ true). rw t (⊎_elim (λ (i : c ≡ d). inl i) (λ n. inr (kept_in test ds d n h)) m))
    (λ (t : test c ≡ false).
    rw t (⊎_elim (λ (i : c ≡ d). let no : true ≡ false = sym h ∙ (ap test (sym i) ∙ t) in cc) (λ n. kept_in test ds d n h) m))
    (bool_cases (test c))

again_wordless : (m : Module) (v : List Entry) (x : Name) → IsDeclaredAgain m v x → (d : Decl) → Among (decls_in m) d → d.name ≡ x → d.words ≡ None
again_wordless m v x a d h e =
    let n = subst (λ ds. Among ds d) a.both (kept_in (λ (z : Decl). bytes_eq z.name x) (decls_in m) d h ((bytes_eq-Decides d.name x).1 e)) in
    ⊎_elim (λ (i : a.first ≡ d). ap (λ (z : Decl). z.words) (sym i) ∙ a.no_words.0)
    (λ k. ⊎_elim (λ (i : a.second ≡ d). ap (λ (z : Decl). z.words) (sym i) ∙ a.no_words.1) (λ z. absurd z) k) n

-- ---- ports of the top

module _ (ms : List Module) (top : Name) (ss : List Scope) (are : AreScopes ms top ss) (none : (fault : FlatFault) → Stands ms top fault → ⊥) where
  -- there is a top
  pub top_found : (o : Option Module) → module_at ms top ≡ o → (m : Module) × (module_at ms top ≡ Some m)
  top_found None e = absurd (none f.NoTop e)
  top_found (Some m) e = (m, e)

  module _ (m : Module) (e : module_at ms top ≡ Some m) where
    abbrev outer : Scope
    outer = record { prefix = []; module' = m; params = params_of m [] [] }

    at_top : scope_at ms top [] ≡ Some outer
    at_top = ap top_scope e

    pub ports_once : (x : Name) → Repeats (port_names m) x → ⊥
    ports_once x r = none (f.Twice x) (inr ([], outer, at_top, inl (x, inl r, refl)))

    declared : (x : Name) → Among (port_names m) x → Among (map decl_name (decls_in m)) x
    declared x n =
        ⊎_elim (λ (t : is_among (map decl_name (decls_in m)) x ≡ true). among_of (map decl_name (decls_in m)) x t)
        (λ (t : is_among (map decl_name (decls_in m)) x ≡ false).
        absurd (none (f.Port x) ([], outer, at_top, inl (x, inl (n, λ d k i p. not_among (map decl_name (decls_in m)) x t (subst (λ y. Among (map decl_name (decls_in m)) y) i (map_among decl_name (decls_in m) d k))), refl))))
        (bool_cases (is_among (map decl_name (decls_in m)) x))

    no_words : (x : Name) → Among (port_names m) x → (d : Decl) → Among (decls_in m) d → d.name ≡ x → (o : Option Range) → d.words ≡ o → o ≡ None
    no_words x n d h i None e = refl
    no_words x n d h i (Some w) e =
        absurd (none (f.Port x) (
          [],
          outer,
          at_top,
          inl (
            x,
            inl (
              n,
              λ p k j is.
                  let twice = two_repeat (decls_in m) p d x w k h j i (port_wordless m p k is) e in
                  none (f.Twice x) (inr ([], outer, at_top, inl (x, inr (inr (inl (twice, λ again. apart w (sym (again_wordless m outer.params x again d h i) ∙ e)))), refl))),
            ),
            refl,
          ),
        ))
      where
        apart : (w : Range) → None ≡ Some w → ⊥
        apart w z = cc

    pub port_signal : (x : Name) → Among (port_names m) x → (g : Signal) × Among (flat_map flat_signals ss) g × (g.name ≡ x) × (g.depth ≡ 0)
    port_signal x n =
        let r = among_map decl_name (signals_in m) x (signal_declared m x (declared x n)) in
        let g = signal_of outer.params r.0 in
        let k = map_among (moved_signal []) (place_of outer).signals g (map_among (signal_of outer.params) (signals_in m) r.0 r.1) in
        let d = signal_shaped m r.0 r.1 in
        let words : r.0.words ≡ None = sym d.words ∙ no_words x n d.from d.among (d.name ∙ r.2) d.from.words refl in
        (moved_signal [] g, flat_among flat_signals ss outer (moved_signal [] g) (are.each outer ([], at_top)) k, r.2, ap (λ o. depth_in o outer.params) words)
