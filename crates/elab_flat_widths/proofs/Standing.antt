-- What breaks a rule in a scope's text stands there, and nothing else does.
use Rattle.std.proofs.Common.{◌≡◌, ℕ, Bool, true, false, List, [], ◌∷◌, ◌++◌, map, Option, Some, None, inl, inr, ⊎_elim, refl, sym, ap, subst, if◌then◌else◌}
use Rattle.std.specs.List.{flat_map}
use Rattle.std.proofs.lemmas.Bool.{cases_Bool}
use Rattle.vlog_tree.specs.declared.expr.Expr.{Expr, Row_of-Expr, end_of-Expr, more_of-Expr}
use Rattle.vlog_tree.specs.declared.expr.Expr.TheVariants as e
use Rattle.vlog_tree.specs.declared.item.Args.{Args}
use Rattle.vlog_tree.specs.declared.item.Args.TheVariants as g
use Rattle.vlog_tree.specs.declared.item.Assign.{Assign}
use Rattle.vlog_tree.specs.declared.module.Module.{Module}
use Rattle.vlog_tree.specs.declared.stmt.Lval.{Lval}
use Rattle.vlog_tree.specs.declared.stmt.Lval.TheVariants as l
use Rattle.vlog_tree_runs.specs.Places.{Name, Among, Place}
use Rattle.vlog_tree.specs.declared.valuation.Entry.{Entry}
use Rattle.vlog_tree_runs.specs.Blocks.{lefts, left_names, case_width, case_sign}
use Rattle.vlog_tree_runs.specs.Contents.{Decl, decls_in, params_in, signals_in, port_names, assigns_in, Block, blocks_in, Inner, instances_in}
use Rattle.vlog_tree_runs.specs.Scopes.{Scope, place_of, Given, by_order, named_given, given_of, given_to, left_of, row_left, child, decl_at, signal_of}
use Rattle.elab_flat_laws.proofs.Lists.{among_append, append_left, append_right, among_map, map_among, among_flat, flat_among}
use Rattle.elab_flat_laws.specs.Uses.{has_signal, is_declared}
use Rattle.elab_flat_faults.specs.declared.flattening.FlatFault.TheVariants as f
use Rattle.elab_flat_faults.specs.Constants.{Taken, at_rest, alone, stored, assigned_to, compared}
use Rattle.elab_flat_faults.specs.Texts.{Compared, names_in, row_names_in, numbers_in, alone_in, compared_in, stores_in, args_in, named_expr, expr_of, compared_exprs, decl_exprs, param_exprs, assign_exprs, block_exprs, inner_exprs, all_exprs, assigned_in, waited_in}
use Rattle.elab_flat_faults.specs.FlatStands.{full, assigns_taken, block_taken, port_taken, inner_taken, all_taken, AreAllDeclared, BreaksConstant, BreaksWidth, StandsAt}
use Rattle.elab_flat_faults.specs.Drivers.{parts_of}
use Rattle.elab_flat_drivers.proofs.Reading.{concat_parts}
use Rattle.elab_flat_instances.specs.Unfolding.{HasSoundInners}
use Rattle.elab_flat_widths.specs.declared.violation.Violation.{Violation}
use Rattle.elab_flat_widths.specs.declared.violation.Violation.TheVariants as b
use Rattle.elab_flat_widths.specs.Ranges.{AreDeclared, fault_of}
use Rattle.elab_flat_widths.specs.Scopes.{HasSoundParams}
use Rattle.elab_flat_widths.specs.Stores.{NamesSignals}
use Rattle.elab_flat_widths.specs.Usages.{Tests, Compares, Stores, BodyUsesSignals}
use Rattle.elab_flat_widths.specs.Taken.{taken_at}
use Rattle.elab_flat_widths.proofs.Params.{param_constant, param_inconstant, param_wide, param_missized, override_inconstant, override_missized}
use Rattle.elab_flat_widths.proofs.Ranges.{decl_keeps}
use Rattle.elab_flat_widths.proofs.Stores.{parts_numbers, numbers_parts}
use Rattle.elab_flat_widths.proofs.Texts.{IsSoundText, BreaksText, text_keeps, in_stores}
use Rattle.elab_flat_widths.proofs.Usages.{lefts_are}

-- the numbers of a concatenation are those of its parts
concat_numbers : (zs : List Lval) (c : Expr) → Among (numbers_in (l.Concat zs)) c → (z : Lval) × Among zs z × Among (numbers_in z) c
concat_numbers zs c k =
    let r = among_flat numbers_in (parts_of (l.Concat zs)) c (parts_numbers (l.Concat zs) c k) in
    let q = among_flat parts_of zs r.0 (subst (λ ys. Among ys r.0) (sym (concat_parts zs zs (l.Concat zs) refl refl)) r.1) in
    (q.0, q.1, numbers_parts q.0 r.0 c q.2 r.2)

no_numbers : (c : Expr) → Among (numbers_in (l.Concat [])) c → ⊥
no_numbers c k = (concat_numbers [] c k).1

-- the numbers of an expression as a left side name what it names
mutual
  numbers_names : (a c : Expr) (x : Name) → Among (numbers_in (left_of a)) c → Among (names_in c) x → Among (names_in a) x
  numbers_names (e.Number n) c x k h = absurd (no_numbers c k)
  numbers_names (e.Name y) c x k h = absurd k
  numbers_names (e.Select' y s (more_of-Expr a end_of-Expr)) c x (inl e) h = inr (subst (λ z. Among (names_in z) x) (sym e) h)
  numbers_names (e.Select' y s (more_of-Expr a end_of-Expr)) c x (inr k) h = absurd k
  numbers_names (e.Part' y span s (more_of-Expr a end_of-Expr) t (more_of-Expr d end_of-Expr)) c x (inl e) h = inr (append_left (names_in a) (names_in d) x (subst (λ z. Among (names_in z) x) (sym e) h))
  numbers_names (e.Part' y span s (more_of-Expr a end_of-Expr) t (more_of-Expr d end_of-Expr)) c x (inr (inl e)) h = inr (append_right (names_in a) (names_in d) x (subst (λ z. Among (names_in z) x) (sym e) h))
  numbers_names (e.Part' y span s (more_of-Expr a end_of-Expr) t (more_of-Expr d end_of-Expr)) c x (inr (inr k)) h = absurd k
  numbers_names (e.Concat' s row) c x k h = let r = concat_numbers (row_left row) c k in row_names row r.0 c x r.1 r.2 h
  numbers_names (e.ConstantSelect' n s row) c x k h = absurd (no_numbers c k)
  numbers_names (e.ConstantPart' n span s row t row') c x k h = absurd (no_numbers c k)
  numbers_names (e.Cast' n s row) c x k h = absurd (no_numbers c k)
  numbers_names (e.Paren' s row) c x k h = absurd (no_numbers c k)
  numbers_names (e.Repeat' s row t row') c x k h = absurd (no_numbers c k)
  numbers_names (e.Unary' op s row) c x k h = absurd (no_numbers c k)
  numbers_names (e.Binary' op s row t row') c x k h = absurd (no_numbers c k)
  numbers_names (e.Choice' s row t row' u row'') c x k h = absurd (no_numbers c k)

  row_names : {m : _} (row : Row_of-Expr m) (z : Lval) (c : Expr) (x : Name) → Among (row_left row) z → Among (numbers_in z) c → Among (names_in c) x → Among (row_names_in row) x
  row_names end_of-Expr z c x k n h = absurd k
  row_names (more_of-Expr a rest) z c x (inl e) n h = append_left (names_in a) (row_names_in rest) x (numbers_names a c x (subst (λ y. Among (numbers_in y) c) (sym e) n) h)
  row_names (more_of-Expr a rest) z c x (inr k) n h = append_right (names_in a) (row_names_in rest) x (row_names rest z c x k n h)

-- what is given is among the arguments
of_order : (xs : List Name) (as' : List Expr) (d : Given) → Among (by_order xs as') d → Among as' d.value
of_order [] as' d k = absurd k
of_order (x ∷ xs) [] d k = absurd k
of_order (x ∷ xs) (a ∷ as') d (inl e) = inl (ap (λ (z : Given). z.value) e)
of_order (x ∷ xs) (a ∷ as') d (inr k) = inr (of_order xs as' d k)

of_name : (x : Name) (o : Option Expr) (d : Given) → Among (given_of x o) d → Among (expr_of o) d.value
of_name x None d k = absurd k
of_name x (Some a) d (inl e) = inl (ap (λ (z : Given). z.value) e)
of_name x (Some a) d (inr k) = absurd k

of_given : (xs : List Name) (o : Option Args) (d : Given) → Among (given_to xs o) d → Among (args_in o) d.value
of_given xs None d k = absurd k
of_given xs (Some (g.Exprs as')) d k = of_order xs as' d k
of_given xs (Some (g.Named ns)) d k = let r = among_flat named_given ns d k in flat_among named_expr ns r.0 d.value r.1 (of_name r.0.port r.0.value d r.2)

-- what is compared is a case expression or a label
in_compared : (v : List Entry) (c : Compared) (t : Taken) → Among (compared v c) t → Among (compared_exprs c) t.value
in_compared v c t j =
    let r = among_map (λ (a : Expr). taken_at a (case_width v c.value c.labels) (case_sign v c.value c.labels)) (c.value ∷ c.labels) t j in subst (Among (c.value ∷ c.labels)) (ap (λ (z : Taken). z.value) r.2) r.1

module _ (ms : List Module) (s : Scope) (known : (path n : Name) → StandsAt ms path s (f.Unknown n) → ⊥) where
  abbrev p : Place
  p = place_of s

  abbrev m : Module
  m = s.module'

  text_declared : (a : Expr) → Among (all_exprs m) a → AreAllDeclared p a
  text_declared a k x h = elim (cases_Bool (is_declared p x)) [ inl y ↦ y | inr n ↦ absurd (known [] (full s x) (inl (inl (a, k, x, h, n, refl)))) ]

  assigned_signal : (x : Name) → Among (assigned_in m) x → has_signal p.signals x ≡ true
  assigned_signal x k = elim (cases_Bool (has_signal p.signals x)) [
    | inl y ↦ y
    | inr n ↦ absurd (known [] (full s x) (inl (inr (inl (x, append_left (assigned_in m) (waited_in m) x k, n, refl)))))
  ]

  abbrev assign_names : List Name
  assign_names = flat_map (λ (a : Assign). left_names a.left) (assigns_in m)

  abbrev body_names : List Name
  body_names = flat_map (λ (k : Block). flat_map left_names (lefts k.body)) (blocks_in m)

  pub assign_signals : (a : Assign) → Among (assigns_in m) a → NamesSignals p a.left
  assign_signals a k x h = assigned_signal x (append_left assign_names body_names x (flat_among (λ (z : Assign). left_names z.left) (assigns_in m) a x k h))

  pub body_signals : (k : Block) → Among (blocks_in m) k → BodyUsesSignals p k.body
  body_signals k a (Tests c) i = tt
  body_signals k a (Compares c) i = tt
  body_signals k a (Stores c) i = λ x h.
      let left = subst (λ zs. Among zs c.left) (sym (lefts_are k.body)) (map_among (λ (z : Assign). z.left) (stores_in k.body) c (in_stores p k.body (Stores c) c i (inl refl))) in
      assigned_signal x (append_right assign_names body_names x
      (flat_among (λ (z : Block). flat_map left_names (lefts z.body)) (blocks_in m) k x a (flat_among left_names (lefts k.body) c.left x left h)))

  -- the parts of all expressions
  abbrev ds : List Expr
  ds = flat_map decl_exprs (decls_in m) ++ flat_map param_exprs (params_in m)

  abbrev es : List Expr
  es = flat_map assign_exprs (assigns_in m)

  abbrev bs : List Expr
  bs = flat_map block_exprs (blocks_in m)

  abbrev is : List Expr
  is = flat_map inner_exprs (instances_in m)

  of_assign : (a : Assign) → Among (assigns_in m) a → (c : Expr) → Among (assign_exprs a) c → AreAllDeclared p c
  of_assign a k c h = text_declared c (append_left (ds ++ es ++ bs) is c (append_left (ds ++ es) bs c (append_right ds es c (flat_among assign_exprs (assigns_in m) a c k h))))

  of_block : (k : Block) → Among (blocks_in m) k → (c : Expr) → Among (block_exprs k) c → AreAllDeclared p c
  of_block k a c h = text_declared c (append_left (ds ++ es ++ bs) is c (append_right (ds ++ es) bs c (flat_among block_exprs (blocks_in m) k c a h)))

  of_inner : (i : Inner) → Among (instances_in m) i → (c : Expr) → Among (inner_exprs i) c → AreAllDeclared p c
  of_inner i a c h = text_declared c (append_right (ds ++ es ++ bs) is c (flat_among inner_exprs (instances_in m) i c a h))

  assign_taken : (a : Assign) → Among (assigns_in m) a → (t : Taken) → Among (assigned_to p a ∷ map (alone (at_rest p)) (numbers_in a.left)) t → AreAllDeclared p t.value
  assign_taken a k t (inl e) = subst (λ (z : Taken). AreAllDeclared p z.value) e (of_assign a k a.right (append_right (numbers_in a.left) (a.right ∷ []) a.right (inl refl)))
  assign_taken a k t (inr h) =
      let r = among_map (alone (at_rest p)) (numbers_in a.left) t h in
      subst (λ (z : Taken). AreAllDeclared p z.value) r.2 (of_assign a k r.0 (append_left (numbers_in a.left) (a.right ∷ []) r.0 r.1))

  module _ (k : Block) where
    abbrev alones : List Expr
    alones = alone_in k.body

    abbrev tests : List Expr
    tests = flat_map compared_exprs (compared_in k.body)

    abbrev rights : List Expr
    rights = map (λ (z : Assign). z.right) (stores_in k.body)

    body_taken : Among (blocks_in m) k → (t : Taken) → Among (block_taken s k) t → AreAllDeclared p t.value
    body_taken a t h = ⊎_elim
        (λ i. ⊎_elim
        (λ j. let r = among_map (assigned_to p) (stores_in k.body) t j in
        subst (λ (z : Taken). AreAllDeclared p z.value) r.2
        (of_block k a r.0.right (append_right (alones ++ tests) rights r.0.right (map_among (λ (z : Assign). z.right) (stores_in k.body) r.0 r.1))))
        (λ j. let r = among_map (alone (at_rest p)) alones t j in
        subst (λ (z : Taken). AreAllDeclared p z.value) r.2 (of_block k a r.0 (append_left (alones ++ tests) rights r.0 (append_left alones tests r.0 r.1))))
        (among_append (map (assigned_to p) (stores_in k.body)) (map (alone (at_rest p)) alones) t i))
        (λ i. let r = among_flat (compared (at_rest p)) (compared_in k.body) t i in
        of_block k a t.value
        (append_left (alones ++ tests) rights t.value (append_right alones tests t.value (flat_among compared_exprs (compared_in k.body) r.0 t.value r.1 (in_compared (at_rest p) r.0 t r.2)))))
        (among_append (map (assigned_to p) (stores_in k.body) ++ map (alone (at_rest p)) alones) (flat_map (compared (at_rest p)) (compared_in k.body)) t h)

  connection_taken : (i : Inner) → Among (instances_in m) i → (a : Expr) → Among (args_in i.args) a → (yes : Bool) (n : ℕ) (t : Taken) →
      Among (if yes then stored (at_rest p) n a ∷ [] else map (alone (at_rest p)) (numbers_in (left_of a))) t → AreAllDeclared p t.value
  connection_taken i k a h true n t (inl e) = subst (λ (z : Taken). AreAllDeclared p z.value) e (of_inner i k a (append_right (args_in i.overrides) (args_in i.args) a h))
  connection_taken i k a h true n t (inr j) = absurd j
  connection_taken i k a h false n t j = λ x z.
      let r = among_map (alone (at_rest p)) (numbers_in (left_of a)) t j in
      let there = subst (λ (y : Taken). Among (names_in y.value) x) (sym r.2) z in
      of_inner i k a (append_right (args_in i.overrides) (args_in i.args) a h) x (numbers_names a r.0 x r.1 there)

  port_declared : (i : Inner) → Among (instances_in m) i → (t : Scope) (d : Given) → Among (args_in i.args) d.value → (o : Option Decl) (x : Taken) → Among (port_taken s t d o) x → AreAllDeclared p x.value
  port_declared i k t d h None x j = absurd j
  port_declared i k t d h (Some port) x j = connection_taken i k d.value h port.input (signal_of t.params port).width x j

  inner_declared : (i : Inner) → Among (instances_in m) i → (o : Option Scope) (x : Taken) → Among (inner_taken s i o) x → AreAllDeclared p x.value
  inner_declared i k None x j = absurd j
  inner_declared i k (Some t) x j =
      let r = among_flat (λ (d : Given). port_taken s t d (decl_at (signals_in t.module') d.name)) (given_to (port_names t.module') i.args) x j in
      port_declared i k t r.0 (of_given (port_names t.module') i.args r.0 r.1) (decl_at (signals_in t.module') r.0.name) x r.2

  abbrev bodies : List Taken
  bodies = flat_map (block_taken s) (blocks_in m)

  abbrev inners : List Taken
  inners = flat_map (λ i. inner_taken s i (child ms s i)) (instances_in m)

  taken_declared : (t : Taken) → Among (all_taken ms s) t → AreAllDeclared p t.value
  taken_declared t k = ⊎_elim
      (λ h. ⊎_elim (λ i. let r = among_flat (λ (a : Assign). assigned_to p a ∷ map (alone (at_rest p)) (numbers_in a.left)) (assigns_in m) t i in assign_taken r.0 r.1 t r.2)
      (λ i. let r = among_flat (block_taken s) (blocks_in m) t i in body_taken r.0 r.1 t r.2) (among_append (assigns_taken s) bodies t h))
      (λ h. let r = among_flat (λ (i : Inner). inner_taken s i (child ms s i)) (instances_in m) t h in inner_declared r.0 r.1 (child ms s r.0) t r.2)
      (among_append (assigns_taken s ++ bodies) inners t k)

  -- what breaks a rule is a fault
  pub text_stands : (path : Name) (w : Violation) → BreaksText ms s w → StandsAt ms path s (fault_of path w)
  text_stands path b.Constant (inl h) = inr (inr (inr (inl (h.0, h.1, h.2, refl))))
  text_stands path b.Constant (inr h) = inr (inr (inr (inr (h.0, h.1, refl))))
  text_stands path b.Length (inl h) = inr (inr (inr (inl (h.0, h.1, taken_declared h.0 h.1, h.2, refl))))
  text_stands path b.Length (inr h) = inr (inr (inr (inr (h.0, h.1, h.2, h.3.0, h.3.1, h.3.2, refl))))
  text_stands path b.Memory h = absurd h

-- no fault stands at a scope whose parameters, instances, declarations and text keep the rules
module _ (ms : List Module) (s : Scope) (params : HasSoundParams s) (inners : HasSoundInners ms s) (decls : AreDeclared s) (text : IsSoundText ms s) (path n : Name) where
  pub constants_keep : BreaksConstant ms path s n → ⊥
  constants_keep (inl (d, a, z, h)) = decl_keeps s.params d (decls d a) b.Constant h
  constants_keep (inr (inl (k, p, at, z, h))) = ⊎_elim (param_constant s params k p at) (param_inconstant s params k p at) h
  constants_keep (inr (inr (inl (i, p, t, o, z, h)))) = override_inconstant ms s inners i p t o h
  constants_keep (inr (inr (inr (inl (t, a, h, z))))) = text_keeps ms s text b.Constant (inl (t, a, h))
  constants_keep (inr (inr (inr (inr (left, h, z))))) = text_keeps ms s text b.Constant (inr (left, h))

  pub sizes_keep : BreaksWidth ms path s n → ⊥
  sizes_keep (inl (d, a, z, h)) = decl_keeps s.params d (decls d a) b.Length h
  sizes_keep (inr (inl (k, p, at, z, h))) = ⊎_elim (param_wide s params k p at) (param_missized s params k p at) h
  sizes_keep (inr (inr (inl (i, p, t, o, z, h)))) = override_missized ms s inners i p t o h
  sizes_keep (inr (inr (inr (inl (t, a, declared, h, z))))) = text_keeps ms s text b.Length (inl (t, a, h))
  sizes_keep (inr (inr (inr (inr (left, a, names, spans, defined, h, z))))) = text_keeps ms s text b.Length (inr (left, a, names, (spans, defined, h)))
