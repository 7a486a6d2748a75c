-- What a scope without faults of names and ports declares and uses.
use Rattle.std.proofs.Common.{◌≡◌, true, nat_eq, List, [], ◌∷◌, ◌++◌, map, Option, Some, None, ◌⊎◌, inl, inr, ⊎_elim, refl, sym, ap, subst, ◌∙◌}
use Rattle.std.specs.Prelude.{is_some}
use Rattle.std.specs.List.{flat_map}
use Rattle.std.specs.Str.{bytes_eq}
use Rattle.std.proofs.lemmas.Bool.{cases_Bool}
use Rattle.std.proofs.lemmas.Slice.Eq.{bytes_eq-Decides}
use Rattle.vlog_tree.specs.declared.expr.Expr.{Expr}
use Rattle.vlog_tree.specs.declared.item.Assign.{Assign}
use Rattle.vlog_tree.specs.declared.module.Module.{Module}
use Rattle.vlog_tree.specs.declared.valuation.Entry.{Entry}
use Rattle.vlog_tree.specs.Valuation.{entry_at}
use Rattle.vlog_tree_runs.specs.declared.flat.Signal.{Signal}
use Rattle.vlog_tree_runs.specs.Places.{Name, Among, Place, words_from}
use Rattle.vlog_tree_runs.specs.Blocks.{is_parameter, left_names, lefts}
use Rattle.vlog_tree_runs.specs.Contents.{Decl, params_in, signals_in, assigns_in, Block, blocks_in, instances_in}
use Rattle.vlog_tree_runs.specs.Scopes.{Scope, place_of, signal_of, decl_at}
use Rattle.elab_flat_laws.specs.Uses.{has_signal, is_declared, IsSignal, UsesDeclared, AssignsSignals, IsDeclared, names_of, known}
use Rattle.elab_flat_laws.proofs.Lists.{bool_cases, append_left, append_right, among_map, map_among, among_flat, flat_among}
use Rattle.elab_flat_faults.specs.declared.flattening.FlatFault.TheVariants as f
use Rattle.elab_flat_faults.specs.Declaring.{Repeats, words_of, IsDeclaredTwice}
use Rattle.elab_flat_faults.specs.FlatStands.{full}
use Rattle.elab_flat_faults.specs.Texts.{names_in, numbers_in, all_exprs, assigned_in, waited_in, alone_in, compared_in, compared_exprs, stores_in}
use Rattle.elab_flat_scopes.specs.Borrowed.{param_name}
use Rattle.elab_flat_scopes.specs.Finding.{decl_name}
use Rattle.elab_flat_names.proofs.Using.{signals}
use Rattle.elab_flat_faults.specs.Plain.{IsPlainText}
use Rattle.elab_flat_drivers.proofs.Naming.{among_of, of_among}
use Rattle.elab_flat.specs.Checked.{HasFitNames}
use Rattle.elab_flat.proofs.Contents.{in_assign, in_block}
use Rattle.elab_flat.proofs.Made.{IsMade}
use Rattle.elab_flat.proofs.Params.{entry_name, names_are, entry_found}
use Rattle.elab_flat.proofs.Reading.{names_only, left_assigns, body_declared}

repeats_across : (xs ys : List Name) (x : Name) → Among xs x → Among ys x → Repeats (xs ++ ys) x
repeats_across [] ys x a b = absurd a
repeats_across (z ∷ zs) ys x (inl e) b = inl (e, append_right zs ys x b)
repeats_across (z ∷ zs) ys x (inr a) b = inr (repeats_across zs ys x a b)

none_or : (o : Option Entry) → (is_some o ≡ true → ⊥) → o ≡ None
none_or None h = refl
none_or (Some e) h = absurd (h refl)

-- the first declaration of a name has it
pub decl_named : (ds : List Decl) (x : Name) (d : Decl) → decl_at ds x ≡ Some d → Among (map decl_name ds) x
decl_named [] x d e = cc
decl_named (z ∷ zs) x d e = elim (cases_Bool (bytes_eq z.name x)) [
  | inl t ↦ inl ((bytes_eq-Decides z.name x).0 t)
  | inr n ↦ inr (decl_named zs x d (rw n at e))
]

-- a name of a signal is its own, or that of a word of it
own_or_word : (g : Signal) (x : Name) → Among (names_of g) x → (g.name ≡ x) ⊎ Among (words_of g) x
own_or_word g x h = elim (cases_Bool (nat_eq g.depth 0)) [
  | inl t ↦ (let m : Among (g.name ∷ []) x = rw t at h in ⊎_elim (λ e. inl e) (λ z. absurd z) m)
  | inr n ↦ (let m : Among (g.name ∷ map (λ (w : Signal). w.name) (words_from g 0 g.depth)) x = rw n at h in m)
]

module _ (ms : List Module) (s : Scope) (made : IsMade ms s) (fit : HasFitNames ms s) where
  abbrev p : Place
  p = place_of s

  abbrev signal_names : List Name
  signal_names = map decl_name (signals_in s.module')

  abbrev param_names : List Name
  param_names = map param_name (params_in s.module')

  abbrev inner_names : List Name
  inner_names = map (λ i. i.name) (instances_in s.module')

  pub not_twice : (x : Name) → IsDeclaredTwice s x → ⊥
  not_twice x h = fit (f.Twice (full s x)) tt [] (inl (x, h, refl))

  -- ---- parameters and signals

  param_named : (x : Name) → is_some (entry_at s.params x 0) ≡ true → Among (map param_name (params_in s.module')) x
  param_named x h =
      subst (λ ns. Among ns x) (ap (map entry_name) made.params ∙ names_are s.module' made.given made.outer) (entry_found s.params x h)

  no_param : (x : Name) → Among signal_names x → is_some (entry_at s.params x 0) ≡ true → ⊥
  no_param x a h =
      not_twice x (inr (inl (repeats_across (param_names ++ inner_names) signal_names x (append_left param_names inner_names x (param_named x h)) a)))

  no_word : (x : Name) → Among (flat_map words_of p.signals) x → is_some (entry_at s.params x 0) ≡ true → ⊥
  no_word x a h = not_twice x (inr (inr (inr (param_named x h, a))))

  pub distinct : (x : Name) → Among (known p.signals) x → entry_at s.params x 0 ≡ None
  distinct x k =
      let r = among_flat names_of p.signals x k in
      let q = among_map (signal_of s.params) (signals_in s.module') r.0 r.1 in
      let own : r.0.name ≡ x → Among signal_names x =
      λ e. subst (Among signal_names) (ap (λ (g : Signal). g.name) q.2 ∙ e) (map_among decl_name (signals_in s.module') q.0 q.1) in
      none_or (entry_at s.params x 0)
      (⊎_elim (λ e. no_param x (own e)) (λ w. no_word x (flat_among words_of p.signals r.0 x r.1 w)) (own_or_word r.0 x r.2))

  pub is_signal : (x : Name) → has_signal p.signals x ≡ true → IsSignal p x
  is_signal x h =
      let a : Among signal_names x = among_of signal_names x (sym (signals s.params (signals_in s.module') x) ∙ h) in
      (⊎_elim (λ t. absurd (no_param x a t)) (λ n. n) (bool_cases (is_parameter p x)), h)

  pub has_named : (x : Name) → Among signal_names x → has_signal p.signals x ≡ true
  has_named x a = signals s.params (signals_in s.module') x ∙ of_among signal_names x a

  -- ---- names that are used

  read_declared : (a : Expr) (x : Name) → Among (all_exprs s.module') a → Among (names_in a) x → is_declared p x ≡ true
  read_declared a x h m =
      ⊎_elim (λ t. t) (λ n. absurd (fit (f.Unknown (full s x)) tt [] (inl (inl (a, h, x, m, n, refl))))) (bool_cases (is_declared p x))

  assigned_signal : (x : Name) → Among (assigned_in s.module') x → IsSignal p x
  assigned_signal x h =
      is_signal x
      (⊎_elim (λ t. t) (λ n. absurd (fit (f.Unknown (full s x)) tt [] (inl (inr (inl (x, append_left (assigned_in s.module') (waited_in s.module') x h, n, refl))))))
      (bool_cases (has_signal p.signals x)))

  module _ (plain : IsPlainText s.module') where
    pub uses : (a : Expr) → Among (all_exprs s.module') a → UsesDeclared p a
    uses a h = (names_only (is_declared p) a (λ x m. read_declared a x h m), plain.present a h)

    abbrev equation_names : Assign → List Name
    equation_names a = left_names a.left

    abbrev body_names : Block → List Name
    body_names b = flat_map left_names (lefts b.body)

    pub assign_left : (a : Assign) → Among (assigns_in s.module') a → AssignsSignals p a.left
    assign_left a h =
        left_assigns p a.left
        (λ x m. assigned_signal x (append_left (flat_map equation_names (assigns_in s.module')) (flat_map body_names (blocks_in s.module')) x (flat_among equation_names (assigns_in s.module') a x h m)))
        (λ b m. uses b (in_assign s.module' a b h (append_left (numbers_in a.left) (a.right ∷ []) b m)))

    pub assign_right : (a : Assign) → Among (assigns_in s.module') a → UsesDeclared p a.right
    assign_right a h = uses a.right (in_assign s.module' a a.right h (append_right (numbers_in a.left) (a.right ∷ []) a.right (inl refl)))

    abbrev stored_right : Assign → Expr
    stored_right a = a.right

    pub block_declared : (b : Block) → Among (blocks_in s.module') b → IsDeclared p b.body
    block_declared b h =
        let of_cases = flat_map compared_exprs (compared_in b.body) in
        let of_stores = map stored_right (stores_in b.body) in
        body_declared p b.body (record {
          alone = λ a m. uses a (in_block s.module' b a h (append_left (alone_in b.body ++ of_cases) of_stores a (append_left (alone_in b.body) of_cases a m)));
          compared = λ c m a k. uses a (in_block s.module' b a h (append_left (alone_in b.body ++ of_cases) of_stores a (append_right (alone_in b.body) of_cases a (flat_among compared_exprs (compared_in b.body) c a m k))));
          stored = λ a m. uses a.right (in_block s.module' b a.right h (append_right (alone_in b.body ++ of_cases) of_stores a.right (map_among stored_right (stores_in b.body) a m)));
          named = λ a m x k. assigned_signal x (append_right (flat_map equation_names (assigns_in s.module')) (flat_map body_names (blocks_in s.module')) x
              (flat_among body_names (blocks_in s.module') b x h (flat_among left_names (lefts b.body) a x m k)));
        })
