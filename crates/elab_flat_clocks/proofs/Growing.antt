-- From scope to scope: the tables of a scope's instances stand behind those that are known.
use Rattle.std.proofs.Common.{ℕ, zero, suc, ◌≡◌, ◌+◌, ◌≤◌, ◌<◌, List, [], ◌∷◌, ◌++◌, length, map, take, drop, get_or, Some, inl, inr, refl, sym, ap, subst, ◌∙◌, arith, length-append}
use Rattle.std.specs.Prelude.{reverse}
use Rattle.std.specs.List.{slice_get, flat_map}
use Rattle.std.specs.Option.{option_map}
use Rattle.std.proofs.lemmas.List.{take-map, drop-map, drop-drop, take_more, take_all, length-map, length-drop}
use Rattle.std.proofs.lemmas.Option.{slice_get-map, slice_get_read, get_or_from_slice_get}
use Rattle.vlog_tree.specs.declared.module.Module.{Module}
use Rattle.vlog_tree.specs.declared.expr.Expr.{Expr}
use Rattle.vlog_tree_runs.specs.Places.{Name, Among}
use Rattle.vlog_tree_runs.specs.Contents.{instances_in}
use Rattle.vlog_tree_runs.specs.Scopes.{Scope, child, scope_at}
use Rattle.elab_flat_faults.specs.declared.flattening.FlatFault.{FlatFault}
use Rattle.elab_flat_faults.specs.FlatStands.{Refuses}
use Rattle.elab_flat_instances.specs.declared.scope.Scope.{Scope as Instance}
use Rattle.elab_flat_faults.specs.Handed.{below}
use Rattle.elab_flat_instances.specs.Unfolding.{scope_meant, AreUnfolded}
use Rattle.elab_flat_instances.proofs.Children.{among_get, refuses_map}
use Rattle.elab_flat_names.specs.Rows.{StandsAlone}
use Rattle.elab_flat_clocks.specs.Tables.{Link, IsTable}
use Rattle.elab_flat_clocks.specs.Passing.{kept_into, AreKept, StandsAmong}
use Rattle.elab_flat_clocks.specs.Tabled.{AreTables, AreTablesBelow, AreAllScopes, AreWaysOf}
use Rattle.elab_flat_clocks.proofs.Paths.{known, same_length, path_at, ahead, known_first, all_known, sound, within, grown, new, next_known, fits, children_are}
use Rattle.elab_flat_clocks.proofs.Tabled.{tables_append, tables_length, table_at, tables_grow, kept_more}
use Rattle.elab_flat_clocks.proofs.Passing.{keeps}

-- ---- one scope of a list

module _ (scopes : List Instance) (k : ℕ) (x : Instance) (lt : k < length scopes) (is : x ≡ get_or scopes k x) where
  pub scope_at_place : slice_get (map scope_meant scopes) k ≡ Some (scope_meant x)
  scope_at_place = slice_get-map scope_meant scopes k ∙ ap (option_map scope_meant) (slice_get_read scopes (length scopes) k x refl lt is)

  pub stands_there : (fault : FlatFault) → Refuses (StandsAlone (scope_meant x)) fault → Refuses (StandsAmong (map scope_meant scopes)) fault
  stands_there fault h =
      refuses_map (StandsAlone (scope_meant x)) (StandsAmong (map scope_meant scopes)) (λ f z. (scope_meant x, among_get (map scope_meant scopes) k (scope_meant x) scope_at_place, z)) fault h

among_drop : {X : Type 0} (n : ℕ) (xs : List X) (x : X) → Among (drop n xs) x → Among xs x
among_drop zero [] x a = a
among_drop zero (y ∷ ys) x a = a
among_drop (suc n) [] x a = a
among_drop (suc n) (y ∷ ys) x a = inr (among_drop n ys x a)

among_take : {X : Type 0} (n : ℕ) (xs : List X) (x : X) → Among (take n xs) x → Among xs x
among_take zero xs x a = absurd a
among_take (suc n) [] x a = a
among_take (suc n) (y ∷ ys) x (inl e) = inl e
among_take (suc n) (y ∷ ys) x (inr a) = inr (among_take n ys x a)

-- a fault of a part of the scopes
pub stands_in_part : (scopes part : List Instance) (n m : ℕ) → part ≡ take m (drop n scopes) → (fault : FlatFault) → Refuses (StandsAmong (map scope_meant part)) fault → Refuses (StandsAmong (map scope_meant scopes)) fault
stands_in_part scopes part n m is fault h =
    let here : map scope_meant part ≡ take m (drop n (map scope_meant scopes)) =
    ap (map scope_meant) is ∙ (sym (take-map scope_meant m (drop n scopes)) ∙ ap (take m) (sym (drop-map scope_meant n scopes))) in
    refuses_map (StandsAmong (map scope_meant part)) (StandsAmong (map scope_meant scopes))
    (λ f z. (z.0, among_drop n (map scope_meant scopes) z.0 (among_take m (drop n (map scope_meant scopes)) z.0 (subst (λ zs. Among zs z.0) here z.1)), z.2)) fault h

-- ---- the first one

pub not_empty : (scopes : List Instance) → AreAllScopes (map scope_meant scopes) → 0 < length scopes
not_empty scopes (ms, top, u) =
    let some : length u.paths ≡ suc (length (flat_map (below ms top) u.paths)) = ap length u.in_order in
    omega (arith, length-map scopes scope_meant, same_length ms top (map scope_meant scopes) u, some)

pub first_known : (scopes : List Instance) (x : Instance) (lt : 0 < length scopes) (is : x ≡ get_or scopes 0 x) (ts : List (List Link)) (t : List Link) → ts ≡ t ∷ [] →
    ((ms : List Module) (top : Name) → scope_at ms top [] ≡ Some (scope_meant x) → IsTable ms top [] t) →
    (ms : List Module) (top : Name) (u : AreUnfolded ms top (map scope_meant scopes)) → AreTables ms top (known ms top u.paths 0) ts
first_known scopes x lt is ts t one table ms top u =
    let p = path_at ms top (map scope_meant scopes) u 0 (scope_meant x) (scope_at_place scopes 0 x lt is) in
    let first : Some [] ≡ Some p.0 = ap (λ ps. slice_get ps 0) (sym u.in_order) ∙ p.1 in
    let same : p.0 ≡ [] = cc in
    subst (AreTables ms top ([] ∷ [])) (sym one) (table ms top (subst (λ q. scope_at ms top q ≡ Some (scope_meant x)) same p.2), tt)

-- ---- the next one

module _ (scopes : List Instance) (k : ℕ) (x : Instance) (lt : k < length scopes) (is : x ≡ get_or scopes k x) (rest : List Instance)
    (behind : (ms : List Module) (top : Name) (u : AreUnfolded ms top (map scope_meant scopes)) → k ≤ length (known ms top u.paths k))
    (left : (ms : List Module) (top : Name) (u : AreUnfolded ms top (map scope_meant scopes)) → rest ≡ drop (length (known ms top u.paths k)) scopes) where
  abbrev ss : List Scope
  ss = map scope_meant scopes

  abbrev s : Scope
  s = scope_meant x

  at : slice_get ss k ≡ Some s
  at = scope_at_place scopes k x lt is

  pub room : AreAllScopes ss → (m : ℕ) → m ≡ length (instances_in s.module') → m ≤ length rest
  room (ms, top, u) m same =
      omega (arith, fits ms top ss u k s at, same, length-map scopes scope_meant, ap length (left ms top u), length-drop (length (known ms top u.paths k)) scopes)

  -- a fault of its instances
  pub stands_below : AreAllScopes ss → (part : List Instance) (m : ℕ) → part ≡ take m rest → (fault : FlatFault) → Refuses (StandsAmong (map scope_meant part)) fault → Refuses (StandsAmong ss) fault
  stands_below (ms, top, u) part m e fault h = stands_in_part scopes part (length (known ms top u.paths k)) m (e ∙ ap (take m) (left ms top u)) fault h

  module _ (ms : List Module) (top : Name) (u : AreUnfolded ms top ss) where
    before : k < length (known ms top u.paths k)
    before = ahead ms top ss u k (within ms top ss u k s at) (behind ms top u)

    more_known : length (known ms top u.paths (k + 1)) ≡ length (known ms top u.paths k) + length (instances_in s.module')
    more_known =
        ap length (next_known ms top ss u k s at)
        ∙ (length-append (known ms top u.paths k) (new ms top ss u k s at) ∙ ap (λ n. length (known ms top u.paths k) + n) (length-map (instances_in s.module') (grown ms top ss u k s at)))

    pub children_here : (part : List Instance) (m : ℕ) → m ≡ length (instances_in s.module') → part ≡ take m rest → map Some (map scope_meant part) ≡ map (child ms s) (instances_in s.module')
    children_here part m same e =
        let n = length (known ms top u.paths k) in
        ap (map Some)
        (ap (map scope_meant) (e ∙ ap (take m) (left ms top u))
        ∙ (sym (take-map scope_meant m (drop n scopes)) ∙ (ap (take m) (sym (drop-map scope_meant n scopes)) ∙ ap (λ j. take j (drop n ss)) same)))
        ∙ children_are ms top ss u k s at

  -- the table of the scope is known
  pub table_there : AreAllScopes ss → (ts : List (List Link)) → ((ms : List Module) (top : Name) (u : AreUnfolded ms top ss) → AreTables ms top (known ms top u.paths k) ts) → k < length ts
  table_there (ms, top, u) ts inv = omega (arith, before ms top u, tables_length ms top (known ms top u.paths k) ts (inv ms top u))

  module _ (part : List Instance) (m : ℕ) (same : m ≡ length (instances_in s.module')) (e : part ≡ take m rest) where
    pub next_behind : (ms : List Module) (top : Name) (u : AreUnfolded ms top ss) → k + 1 ≤ length (known ms top u.paths (k + 1))
    next_behind ms top u = omega (arith, more_known ms top u, before ms top u)

    pub next_left : (after : List Instance) → after ≡ drop m rest → (ms : List Module) (top : Name) (u : AreUnfolded ms top ss) → after ≡ drop (length (known ms top u.paths (k + 1))) scopes
    next_left after g ms top u =
        let n = length (known ms top u.paths k) in
        g ∙ (ap (drop m) (left ms top u) ∙ (drop-drop m n scopes ∙ ap (λ j. drop j scopes) (ap (λ i. n + i) same ∙ sym (more_known ms top u))))

    pub next_tables : (ts : List (List Link)) (outer : List Link) (more all : List (List Link)) → ((ms : List Module) (top : Name) (u : AreUnfolded ms top ss) → AreTables ms top (known ms top u.paths k) ts) →
        slice_get ts k ≡ Some outer → AreTablesBelow outer (instances_in s.module') (map scope_meant part) more → all ≡ ts ++ more →
        (ms : List Module) (top : Name) (u : AreUnfolded ms top ss) → AreTables ms top (known ms top u.paths (k + 1)) all
    next_tables ts outer more all inv here lower grown-is ms top u =
        let p = path_at ms top ss u k s at in
        let table : IsTable ms top (reverse p.0) outer =
        table_at ms top (known ms top u.paths k) ts (inv ms top u) k p.0 outer (known_first ms top ss u k (before ms top u) ∙ p.1) here in
        let new-tables = tables_grow ms top p.0 s p.2 (sound ms top ss u k s at) outer table (instances_in s.module') (map scope_meant part) more (λ i a. a) (children_here ms top u part m same e) lower in
        subst (λ ps. AreTables ms top ps all) (sym (next_known ms top ss u k s at))
        (subst (AreTables ms top (known ms top u.paths k ++ new ms top ss u k s at)) (sym grown-is) (tables_append ms top (known ms top u.paths k) (new ms top ss u k s at) ts more (inv ms top u) new-tables))

    pub next_kept : (kept : List (List Expr)) (as' : List Expr) (all : List (List Expr)) → ((ms : List Module) (top : Name) (u : AreUnfolded ms top ss) → AreKept ms (take k ss) kept) →
        as' ≡ kept_into (instances_in s.module') (map scope_meant part) → all ≡ kept ++ as' ∷ [] →
        (ms : List Module) (top : Name) (u : AreUnfolded ms top ss) → AreKept ms (take (k + 1) ss) all
    next_kept kept as' all inv is-kept grown-is ms top u =
        let long : k < length ss = omega (arith, length-map scopes scope_meant, lt) in
        let more : take (k + 1) ss ≡ take k ss ++ s ∷ [] = take_more ss k s long ∙ ap (λ z. take k ss ++ z ∷ []) (get_or_from_slice_get ss k s s at) in
        subst (λ zs. AreKept ms zs all) (sym more)
        (subst (AreKept ms (take k ss ++ s ∷ [])) (sym grown-is) (kept_more ms (take k ss) kept s as' (inv ms top u) (keeps ms s (map scope_meant part) (children_here ms top u part m same e) as' is-kept)))

-- ---- all of them

pub ways_done : (scopes : List Instance) (k : ℕ) → length scopes ≤ k → (ts : List (List Link)) (kept : List (List Expr)) →
    ((ms : List Module) (top : Name) (u : AreUnfolded ms top (map scope_meant scopes)) → AreTables ms top (known ms top u.paths k) ts) →
    ((ms : List Module) (top : Name) (u : AreUnfolded ms top (map scope_meant scopes)) → AreKept ms (take k (map scope_meant scopes)) kept) →
    AreWaysOf (map scope_meant scopes) ts kept
ways_done scopes k done ts kept tables connections ms top u =
    let ss = map scope_meant scopes in
    let most : length u.paths ≤ k = omega (arith, done, length-map scopes scope_meant, same_length ms top ss u) in
    let all : length ss ≤ k = omega (arith, done, length-map scopes scope_meant) in
    record {
      tables = subst (λ ps. AreTables ms top ps ts) (all_known ms top ss u k most) (tables ms top u);
      connections = subst (λ zs. AreKept ms zs kept) (take_all k ss all) (connections ms top u);
    }
