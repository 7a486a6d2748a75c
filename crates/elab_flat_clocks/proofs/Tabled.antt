-- Tables for the paths of scopes.
use Rattle.std.proofs.Common.{ℕ, zero, suc, ◌≡◌, List, [], ◌∷◌, ◌++◌, length, map, Some, inl, inr, refl, sym, ap, subst, ◌∙◌}
use Rattle.std.specs.Prelude.{reverse}
use Rattle.std.specs.List.{slice_get}
use Rattle.std.proofs.lemmas.List.{reverse-append, reverse-reverse}
use Rattle.vlog_tree.specs.declared.module.Module.{Module}
use Rattle.vlog_tree_runs.specs.Places.{Name, Among}
use Rattle.vlog_tree_runs.specs.Contents.{Inner, instances_in}
use Rattle.vlog_tree_runs.specs.Scopes.{Scope, child, scope_at}
use Rattle.elab_flat_faults.specs.declared.flattening.FlatFault.{FlatFault}
use Rattle.elab_flat_faults.specs.FlatStands.{Stands}
use Rattle.elab_flat_instances.specs.Unfolding.{AreUnfolded, HasSoundInners}
use Rattle.elab_flat_instances.proofs.Standing.{in_scope}
use Rattle.elab_flat_clocks.specs.Tables.{Link, IsTable, IsTableBelow}
use Rattle.elab_flat_clocks.specs.Passing.{IsKept, AreKept, StandsAmong}
use Rattle.elab_flat_clocks.specs.Tabled.{AreTables, AreTablesBelow}
use Rattle.vlog_tree.specs.declared.expr.Expr.{Expr}
use Rattle.std.specs.Prelude.{◌↔◌}

-- ---- tables, one for each path

module _ (ms : List Module) (top : Name) where
  pub tables_append : (ps qs : List (List Name)) (ts us : List (List Link)) → AreTables ms top ps ts → AreTables ms top qs us → AreTables ms top (ps ++ qs) (ts ++ us)
  tables_append [] qs [] us h k = k
  tables_append [] qs (t ∷ ts) us h k = absurd h
  tables_append (p ∷ ps) qs [] us h k = absurd h
  tables_append (p ∷ ps) qs (t ∷ ts) us h k = (h.0, tables_append ps qs ts us h.1 k)

  pub tables_length : (ps : List (List Name)) (ts : List (List Link)) → AreTables ms top ps ts → length ts ≡ length ps
  tables_length [] [] h = refl
  tables_length [] (t ∷ ts) h = absurd h
  tables_length (p ∷ ps) [] h = absurd h
  tables_length (p ∷ ps) (t ∷ ts) h = ap suc (tables_length ps ts h.1)

  pub table_at : (ps : List (List Name)) (ts : List (List Link)) → AreTables ms top ps ts → (k : ℕ) (p : List Name) (t : List Link) → slice_get ps k ≡ Some p → slice_get ts k ≡ Some t → IsTable ms top (reverse p) t
  table_at [] ts h k p t e g = cc
  table_at (q ∷ ps) [] h k p t e g = absurd h
  table_at (q ∷ ps) (u ∷ ts) h zero p t e g =
      let same : q ≡ p = cc in
      let one : u ≡ t = cc in
      subst (λ x. IsTable ms top (reverse x) t) same (subst (IsTable ms top (reverse q)) one h.0)
  table_at (q ∷ ps) (u ∷ ts) h (suc k) p t e g = table_at ps ts h.1 k p t e g

  -- those of instances, by that of their scope
  module _ (p : List Name) (s : Scope) (at : scope_at ms top p ≡ Some s) (sound : HasSoundInners ms s) (outer : List Link) (table : IsTable ms top (reverse p) outer) where
    one_below : (i : Inner) (t : Scope) (ls : List Link) → Among (instances_in s.module') i → child ms s i ≡ Some t → IsTableBelow outer i t ls → IsTable ms top (reverse (p ++ i.name ∷ [])) ls
    one_below i t ls a made b =
        subst (λ q. IsTable ms top q ls) (sym (reverse-append p (i.name ∷ [])))
        (b ms top (reverse p) s (ap (scope_at ms top) (reverse-reverse p) ∙ at) (sound i a).found made table)

    pub tables_grow : (is : List Inner) (ts : List Scope) (ls : List (List Link)) → ((i : Inner) → Among is i → Among (instances_in s.module') i) → map Some ts ≡ map (child ms s) is → AreTablesBelow outer is ts ls →
        AreTables ms top (map (λ i. p ++ i.name ∷ []) is) ls
    tables_grow [] [] [] all made b = tt
    tables_grow (i ∷ is) (t ∷ ts) (l ∷ ls) all made b =
        let first : Some t ≡ child ms s i = cc in
        let rest : map Some ts ≡ map (child ms s) is = cc in
        (one_below i t l (all i (inl refl)) (sym first) b.0, tables_grow is ts ls (λ j a. all j (inr a)) rest b.1)
    tables_grow [] [] (l ∷ ls) all made b = absurd b
    tables_grow [] (t ∷ ts) ls all made b = absurd b
    tables_grow (i ∷ is) [] ls all made b = absurd b
    tables_grow (i ∷ is) (t ∷ ts) [] all made b = absurd b

-- one more table below
pub below_more : (outer : List Link) (is : List Inner) (ts : List Scope) (ls : List (List Link)) (i : Inner) (t : Scope) (l : List Link) → AreTablesBelow outer is ts ls → IsTableBelow outer i t l →
    AreTablesBelow outer (is ++ i ∷ []) (ts ++ t ∷ []) (ls ++ l ∷ [])
below_more outer [] [] [] i t l h b = (b, tt)
below_more outer (j ∷ is) (s ∷ ts) (k ∷ ls) i t l h b = (h.0, below_more outer is ts ls i t l h.1 b)
below_more outer [] [] (k ∷ ls) i t l h b = absurd h
below_more outer [] (s ∷ ts) ls i t l h b = absurd h
below_more outer (j ∷ is) [] ls i t l h b = absurd h
below_more outer (j ∷ is) (s ∷ ts) [] i t l h b = absurd h

-- ---- what connections don't pass on, scope by scope

module _ (ms : List Module) where
  pub kept_more : (ss : List Scope) (kept : List (List Expr)) (s : Scope) (as' : List Expr) → AreKept ms ss kept → ((a : Expr) → Among as' a ↔ IsKept ms s a) → AreKept ms (ss ++ s ∷ []) (kept ++ as' ∷ [])
  kept_more [] [] s as' h b = (b, tt)
  kept_more (r ∷ ss) (bs ∷ kept) s as' h b = (h.0, kept_more ss kept s as' h.1 b)
  kept_more [] (bs ∷ kept) s as' h b = absurd h
  kept_more (r ∷ ss) [] s as' h b = absurd h

  pub kept_length : (ss : List Scope) (kept : List (List Expr)) → AreKept ms ss kept → length kept ≡ length ss
  kept_length [] [] h = refl
  kept_length (s ∷ ss) (as' ∷ kept) h = ap suc (kept_length ss kept h.1)
  kept_length [] (as' ∷ kept) h = absurd h
  kept_length (s ∷ ss) [] h = absurd h

  pub kept_at : (ss : List Scope) (kept : List (List Expr)) → AreKept ms ss kept → (k : ℕ) (s : Scope) (as' : List Expr) → slice_get ss k ≡ Some s → slice_get kept k ≡ Some as' → (a : Expr) → Among as' a ↔ IsKept ms s a
  kept_at [] kept h k s as' e g = cc
  kept_at (r ∷ ss) [] h k s as' e g = absurd h
  kept_at (r ∷ ss) (bs ∷ kept) h zero s as' e g =
      let same : r ≡ s = cc in
      let one : bs ≡ as' = cc in
      λ a. subst (λ (z : Scope). Among as' a ↔ IsKept ms z a) same (subst (λ zs. Among zs a ↔ IsKept ms r a) one (h.0 a))
  kept_at (r ∷ ss) (bs ∷ kept) h (suc k) s as' e g = kept_at ss kept h.1 k s as' e g

-- ---- faults

-- a fault that stands at one of the scopes stands
pub among_stands : (ms : List Module) (top : Name) (ss : List Scope) → AreUnfolded ms top ss → (fault : FlatFault) → StandsAmong ss fault → Stands ms top fault
among_stands ms top ss u fault h =
    let q = u.scopes.only h.0 h.1 in
    in_scope ms top q.0 h.0 q.1 fault (h.2 ms)
