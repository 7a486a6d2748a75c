-- The names that a text reads, and the directions of ports.
use Rattle.std.proofs.Common.{◌≡◌, ◌⊎◌, inl, inr, ⊎_elim, Bool, true, List, [], ◌∷◌, filter, Option, Some, None, sym, ap, subst, ◌∙◌}
use Rattle.std.specs.Prelude.{◌↔◌}
use Rattle.std.specs.List.{flat_map}
use Rattle.std.proofs.lemmas.Bool.{cases_Bool}
use Rattle.vlog_tree.specs.declared.expr.Expr.{Expr}
use Rattle.vlog_tree.specs.declared.item.PortKind.{PortKind}
use Rattle.vlog_tree.specs.declared.item.PortKind.TheVariants as k
use Rattle.vlog_tree.specs.declared.item.Shape.{Shape}
use Rattle.vlog_tree.specs.declared.module.HeaderPort.{HeaderPort}
use Rattle.vlog_tree.specs.declared.module.HeaderPort.TheVariants as h
use Rattle.vlog_tree.specs.declared.module.Module.{Module}
use Rattle.vlog_tree.specs.declared.module.Ports.{Ports}
use Rattle.vlog_tree.specs.declared.module.Ports.TheVariants as q
use Rattle.vlog_tree_runs.specs.Places.{Name, Among}
use Rattle.vlog_tree_runs.specs.Contents.{Decl, bare, header_decls, header_names, ports_decls, names_of_ports, item_decls, decls_in, port_names}
use Rattle.elab_flat_laws.proofs.Lists.{among_append, append_right, among_map, map_among, among_flat, flat_among}
use Rattle.elab_flat_faults.specs.Declaring.{is_port, LacksDirection, IsUnlisted}
use Rattle.elab_flat_faults.specs.Texts.{all_exprs, names_in}
use Rattle.elab_flat_scopes.specs.Finding.{decl_name}
use Rattle.elab_flat_names.specs.Rows.{IsRead, directed_names}
use Rattle.elab_flat_names.specs.Searching.{Finds, IsAbsent}
use Rattle.elab_flat_names.proofs.Searches.{finds_same}

-- ---- what is read

pub read_found : (m : Module) (xs : List Expr) → ((a : Expr) → Among xs a ↔ Among (all_exprs m) a) → (ns ds : List Name) → ns ≡ flat_map names_in xs → (o : Option Name) →
    Finds (IsAbsent ns ds) o → Finds (λ x. IsRead m x × (Among ds x → ⊥)) o
read_found m xs same ns ds e o found =
    finds_same (IsAbsent ns ds) (λ x. IsRead m x × (Among ds x → ⊥))
    (λ x h. (let r = among_flat names_in xs x (subst (λ ys. Among ys x) e h.0) in (r.0, (same r.0).0 r.1, r.2), h.1))
    (λ x h. (subst (λ ys. Among ys x) (sym e) (flat_among names_in xs h.0.0 x ((same h.0.0).1 h.0.1) h.0.2), h.1)) o found

-- ---- what passes a test

pub filter_has : {X : Type 0} (test : X → Bool) (xs : List X) (x : X) → Among xs x → test x ≡ true → Among (filter test xs) x
filter_has test [] x a t = absurd a
filter_has test (y ∷ ys) x (inl e) t = let y' : test y ≡ true = ap test e ∙ t in rw y' (inl e)
filter_has test (y ∷ ys) x (inr a) t = elim (cases_Bool (test y)) [ inl e ↦ rw e (inr (filter_has test ys x a t)) | inr e ↦ rw e (filter_has test ys x a t) ]

pub has_filter : {X : Type 0} (test : X → Bool) (xs : List X) (x : X) → Among (filter test xs) x → Among xs x × (test x ≡ true)
has_filter test [] x a = absurd a
has_filter test (y ∷ ys) x a = elim (cases_Bool (test y)) [
  | inl e ↦ (
      let b : (y ≡ x) ⊎ Among (filter test ys) x = rw e at a in
      ⊎_elim (λ s. (inl s, ap test (sym s) ∙ e)) (λ m. let r = has_filter test ys x m in (inr r.0, r.1)) b
      )
  | inr e ↦ (let r = has_filter test ys x (rw e at a) in (inr r.0, r.1))
]

-- ---- directions

module _ (m : Module) where
  -- a declaration that gives a name a direction
  abbrev Directs : Name → Type 0
  Directs x = (d : Decl) × Among (decls_in m) d × (is_port d ≡ true) × (d.name ≡ x)

  directs : (x : Name) → Among (directed_names m) x → Directs x
  directs x a =
      let r = among_map decl_name (filter is_port (decls_in m)) x a in
      let f = has_filter is_port (decls_in m) r.0 r.1 in
      (r.0, f.0, f.1, r.2)

  directed : (x : Name) → Directs x → Among (directed_names m) x
  directed x d = subst (Among (directed_names m)) d.3 (map_among decl_name (filter is_port (decls_in m)) d.0 (filter_has is_port (decls_in m) d.0 d.1 d.2))

  pub lacking_found : (ps ds : List Name) → ps ≡ port_names m → ds ≡ directed_names m → (o : Option Name) → Finds (IsAbsent ps ds) o → Finds (LacksDirection m) o
  lacking_found ps ds e g o found =
      finds_same (IsAbsent ps ds) (LacksDirection m)
      (λ x h. (subst (λ ys. Among ys x) e h.0, λ d a s t. h.1 (subst (λ ys. Among ys x) (sym g) (directed x (d, a, t, s)))))
      (λ x h. (subst (λ ys. Among ys x) (sym e) h.0, λ a. let d = directs x (subst (λ ys. Among ys x) g a) in h.1 d.0 d.1 d.3 d.2)) o found

-- a declaration of the header is of a port that it lists
header_listed : (kind : PortKind) (shape : Shape) (ps : List HeaderPort) (d : Decl) → Among (header_decls kind shape ps) d → Among (header_names ps) d.name
header_listed kind shape [] d a = absurd a
header_listed kind shape (h.Group w s x ∷ ps) d (inl e) = inl (ap (λ (z : Decl). z.name) e)
header_listed kind shape (h.Group w s x ∷ ps) d (inr a) = inr (header_listed w s ps d a)
header_listed kind shape (h.Again x ∷ ps) d (inl e) = inl (ap (λ (z : Decl). z.name) e)
header_listed kind shape (h.Again x ∷ ps) d (inr a) = inr (header_listed kind shape ps d a)

pub listed : (ps : Option Ports) (d : Decl) → Among (ports_decls ps) d → Among (names_of_ports ps) d.name
listed None d a = absurd a
listed (Some (q.Names xs)) d a = absurd a
listed (Some (q.Groups xs)) d a = header_listed k.Input bare xs d a

module _ (m : Module) where
  pub unlisted_found : (ds ps : List Name) → ds ≡ directed_names m → ps ≡ port_names m → (o : Option Name) → Finds (IsAbsent ds ps) o → Finds (IsUnlisted m) o
  unlisted_found ds ps e g o found =
      finds_same (IsAbsent ds ps) (IsUnlisted m) to from o found
    where
      to : (x : Name) → IsAbsent ds ps x → IsUnlisted m x
      to x h =
          let d = directs m x (subst (λ ys. Among ys x) e h.0) in
          let lacks : Among (port_names m) x → ⊥ = λ a. h.1 (subst (λ ys. Among ys x) (sym g) a) in
          ⊎_elim (λ a. absurd (lacks (subst (Among (port_names m)) d.3 (listed m.ports d.0 a)))) (λ a. (d.0, a, d.2, d.3, lacks))
          (among_append (ports_decls m.ports) (flat_map item_decls m.items) d.0 d.1)

      from : (x : Name) → IsUnlisted m x → IsAbsent ds ps x
      from x u = (
        subst (λ ys. Among ys x) (sym e) (directed m x (u.0, append_right (ports_decls m.ports) (flat_map item_decls m.items) u.0 u.1, u.2, u.3)),
        λ a. u.4 (subst (λ ys. Among ys x) g a),
      )
