-- The clock and the resets of all blocks, and what breaks their rules.
use Rattle.std.proofs.Common.{ℕ, ◌≡◌, ◌+◌, ◌<◌, ◌≤◌, Bool, true, false, not, get_or, take, List, [], ◌∷◌, ◌++◌, length, map, Option, Some, None, Bor, inl, inr, ⊎_elim, refl, sym, ap, subst, ◌∙◌, arith}
use Rattle.std.specs.Prelude.{reverse, ◌↔◌}
use Rattle.std.specs.List.{flat_map, slice_get}
use Rattle.std.specs.Option.{option_map, option_copied}
use Rattle.std.specs.Slice.{IsItemAt}
use Rattle.std.proofs.lemmas.Option.{slice_get-map, slice_get_within}
use Rattle.std.proofs.lemmas.List.{map_more, take_all}
use Rattle.std.specs.Str.{bytes_eq}
use Rattle.std.proofs.lemmas.Slice.Eq.{bytes_eq-Decides}
use Rattle.vlog_tree.specs.declared.module.Module.{Module}
use Rattle.vlog_tree.specs.declared.expr.Expr.{Expr}
use Rattle.vlog_tree.specs.declared.stmt.Edge.{Edge}
use Rattle.vlog_tree.specs.declared.stmt.Stmt.{Stmt}
use Rattle.vlog_tree_runs.specs.Places.{Name, Among}
use Rattle.vlog_tree_runs.specs.Contents.{Block, blocks_in}
use Rattle.vlog_tree_runs.specs.Scopes.{Scope, scope_at}
use Rattle.elab_flat_faults.specs.declared.flattening.FlatFault.{FlatFault}
use Rattle.elab_flat_faults.specs.declared.flattening.FlatFault.TheVariants as f
use Rattle.elab_flat_faults.specs.Clocks.{Reaches, Reset, WaitsFor, reset_of}
use Rattle.elab_flat_faults.specs.FlatStands.{Stands, IsClockOf, IsClockedBlock}
use Rattle.elab_flat_faults.specs.Texts.{names_in}
use Rattle.elab_flat_laws.proofs.Lists.{among_append, among_map, map_among, among_flat, flat_among}
use Rattle.elab_flat_instances.specs.Unfolding.{AreUnfolded}
use Rattle.elab_flat_instances.proofs.Children.{among_get}
use Rattle.elab_flat_scopes.proofs.Finding.{got}
use Rattle.elab_flat_clocks.specs.declared.timing.Timing.{Timing}
use Rattle.elab_flat_faults.specs.Handed.{IsResetOf}
use Rattle.elab_flat_clocks.specs.Tables.{Link, IsTable}
use Rattle.elab_flat_clocks.specs.Tabled.{AreWays, AreWaysOf}
use Rattle.elab_flat_clocks.specs.Driving.{Timed, timed_meant, at_level, ReachesAs, IsDriven, Site, site, sites_in, sites_at, AreTimings, AreTimingsOf}
use Rattle.elab_flat_clocks.specs.Clocking.{IsClockAmong, HasTwoClocks, IsClockRead, IsAt, NoneReads, SomeReads}
use Rattle.elab_flat_clocks.proofs.Paths.{got_within, place_of_among, same_length, path_known}
use Rattle.elab_flat_clocks.proofs.Tabled.{tables_length, table_at, kept_length, kept_at}
use Rattle.elab_flat_clocks.proofs.Driven.{timed_driven, driven_timed, path_of}

-- ---- one clock of a list

pub only_clock : (us : List Timed) (y : Name) → ((u : Timed) → Among us u → u.clock ≡ y) → (w : Timed) → Among us w → IsClockAmong us (Some y)
only_clock us y all w a z = (λ e. let same : y ≡ z = cc in (w, a, all w a ∙ same), λ h. ap Some (sym (all h.0 h.1) ∙ h.2))

-- what the code compares
pub same_clock : (b : Bool) (x y x' y' : Name) → b ≡ not (bytes_eq x y) → x ≡ x' → y ≡ y' → b ≡ false → x' ≡ y'
same_clock b x y x' y' is e g f = sym e ∙ ((bytes_eq-Decides x y).0 (by (bytes_eq x y) (sym f ∙ is)) ∙ g)
  where
    by : (a : Bool) → false ≡ not a → a ≡ true
    by true h = refl
    by false h = cc

pub other_clock : (b : Bool) (x y x' y' : Name) → b ≡ not (bytes_eq x y) → x ≡ x' → y ≡ y' → b ≡ true → x' ≡ y' → ⊥
other_clock b x y x' y' is e g t same =
    let equal : bytes_eq x y ≡ true = (bytes_eq-Decides x y).1 (e ∙ (same ∙ sym g)) in
    let z : true ≡ false = sym t ∙ (is ∙ ap not equal) in
    cc

-- one element more
pub next_taken : {A B : Type 0} (f : A → B) (xs : List A) (k : ℕ) (x : A) → k < length xs → x ≡ get_or xs k x → map f (take (k + 1) xs) ≡ map f (take k xs) ++ f x ∷ []
next_taken f xs k x lt is = map_more f xs k x lt ∙ ap (λ z. map f (take k xs) ++ f z ∷ []) (sym is)

pub one_more_clock : (timings : List Timing) (k : ℕ) (m : Timing) → k < length timings → m ≡ get_or timings k m → (y : Name) → ((u : Timed) → Among (map timed_meant (take k timings)) u → u.clock ≡ y) → m.clock.now ≡ y →
    (u : Timed) → Among (map timed_meant (take (k + 1) timings)) u → u.clock ≡ y
one_more_clock timings k m lt is y all same u a =
    ⊎_elim (λ b. all u b) (λ b. ⊎_elim (λ e. ap (λ (w : Timed). w.clock) (sym e) ∙ same) (λ z. absurd z) b)
    (among_append (map timed_meant (take k timings)) (timed_meant m ∷ []) u (subst (λ ws. Among ws u) (next_taken timed_meant timings k m lt is) a))

pub all_taken : (timings : List Timing) (k : ℕ) → length timings ≤ k → (y : Name) → ((u : Timed) → Among (map timed_meant (take k timings)) u → u.clock ≡ y) → (u : Timed) → Among (map timed_meant timings) u → u.clock ≡ y
all_taken timings k done y all u a = all u (subst (λ ws. Among (map timed_meant ws) u) (sym (take_all k timings done)) a)

-- the first of the code's timings
pub first_timing : (timings : List Timing) (r : Option (Bor Timing)) (b : Bor Timing) → IsItemAt timings 0 r → r ≡ Some b → Among (map timed_meant timings) (timed_meant b.now)
first_timing timings r b at is =
    among_get (map timed_meant timings) 0 (timed_meant b.now) (slice_get-map timed_meant timings 0 ∙ ap (option_map timed_meant) (sym (got timings 0 r at) ∙ ap option_copied is))

-- ---- what a block waits for

some_edge : (edges : List Edge) (body : Stmt) (x : Name) (r : Option Reset) → WaitsFor edges body x r → (edge : Edge) × Among edges edge
some_edge [] body x r w = absurd w
some_edge (edge ∷ edges) body x r w = (edge, inl refl)

-- it waits for one clock
one_wait : (edges : List Edge) (body : Stmt) (x y : Name) (r q : Option Reset) → WaitsFor edges body x r → WaitsFor edges body y q → x ≡ y
one_wait [] body x y r q v w = absurd v
one_wait (edge ∷ []) body x y r q v w = sym v.1 ∙ w.1
one_wait (one ∷ other ∷ []) body x y r q v w =
    let conditions : Some v.0 ≡ Some w.0 = sym v.1 ∙ w.1 in
    let same : v.0 ≡ w.0 = cc in
    let resets : Some v.2 ≡ Some w.2 = sym v.3 ∙ (ap reset_of same ∙ w.3) in
    let reset : v.2 ≡ w.2 = cc in
    ⊎_elim
    (λ a. ⊎_elim (λ b. sym a.2 ∙ b.2) (λ b. sym a.2 ∙ (b.0.0 ∙ (ap (λ (z : Reset). z.name) (sym reset) ∙ (sym a.0.0 ∙ b.2)))) w.5)
    (λ a. ⊎_elim (λ b. sym a.2 ∙ (b.0.0 ∙ (ap (λ (z : Reset). z.name) (sym reset) ∙ (sym a.0.0 ∙ b.2)))) (λ b. sym a.2 ∙ b.2) w.5) v.5
one_wait (one ∷ other ∷ third ∷ edges) body x y r q v w = absurd v

-- ---- of all scopes

module _ (ms : List Module) (top : Name) (ss : List Scope) (ts : List (List Link)) (kept : List (List Expr)) (us : List Timed) (unf : AreUnfolded ms top ss) (ways : AreWaysOf ss ts kept) where
  abbrev all : AreWays ms unf.paths top ss ts kept
  all = ways ms top unf

  pub tables_long : length ts ≡ length ss
  tables_long = tables_length ms top unf.paths ts all.tables ∙ sym (same_length ms top ss unf)

  pub kept_long : length kept ≡ length ss
  kept_long = kept_length ms ss kept all.connections

  module _ (timings : AreTimingsOf ss ts us) where
    abbrev sites : List Site
    sites = flat_map (sites_at ms top) unf.paths

    timed : AreTimings ms top sites us
    timed = timings ms top unf.paths unf.lead all.tables

    site_of : (path : List Name) (s : Scope) (k : Block) → scope_at ms top path ≡ Some s → Among (blocks_in s.module') k → Among sites (site path k)
    site_of path s k at a =
        flat_among (sites_at ms top) unf.paths path (site path k) (path_known ms top ss unf path s at)
        (subst (λ o. Among (sites_in path o) (site path k)) (sym at) (map_among (site path) (blocks_in s.module') k a))

    abbrev IsBlockOf : Site → Type 0
    IsBlockOf z = (s : Scope) × (scope_at ms top z.path ≡ Some s) × Among (blocks_in s.module') z.block

    block_by : (path : List Name) (z : Site) (o : Option Scope) → scope_at ms top path ≡ o → Among (sites_in path o) z → IsBlockOf z
    block_by path z None at a = absurd a
    block_by path z (Some s) at a =
        let r = among_map (site path) (blocks_in s.module') z a in
        (s, ap (λ (y : Site). scope_at ms top y.path) (sym r.2) ∙ at, subst (λ (y : Site). Among (blocks_in s.module') y.block) r.2 r.1)

    block_of : (z : Site) → Among sites z → IsBlockOf z
    block_of z a = let r = among_flat (sites_at ms top) unf.paths z a in block_by r.0 z (scope_at ms top r.0) refl r.2

    -- a block that waits for this
    pub record Waits (u : Timed) : Type 0 where
      pub path : List Name
      pub scope : Scope
      pub at : scope_at ms top path ≡ Some scope
      pub block : Block
      pub edges : List Edge
      pub is_block : IsClockedBlock scope block edges
      pub driven : IsDriven ms top (reverse path) edges block.body u

    waiting : (u : Timed) → Among us u → Waits u
    waiting u a =
        let r = timed.waited u a in
        let b = block_of r.0 r.1 in
        record { path = r.0.path; scope = b.0; at = b.1; block = r.0.block; edges = r.2.0; is_block = record { block = b.2; events = r.2.1 }; driven = r.2.2 }

    clock_of : (u : Timed) → Among us u → IsClockOf ms top u.clock
    clock_of u a =
        let w = waiting u a in (w.path, w.scope, w.at, w.block, w.edges, w.is_block, driven_timed ms top (reverse w.path) w.edges w.block.body u w.driven)

    of_clock : (y : Name) → IsClockOf ms top y → (u : Timed) × Among us u × (u.clock ≡ y)
    of_clock y (path, s, at, k, edges, is, h) =
        let r = timed_driven ms top (reverse path) edges k.body y h in
        (r.0, timed.whole r.0 (site path k) (site_of path s k at is.block) (edges, is.events, r.2), r.1)

    pub clock_is : (o : Option Name) → IsClockAmong us o → (y : Name) → (o ≡ Some y) ↔ IsClockOf ms top y
    clock_is o among y = (
      λ e. let r = (among y).0 e in subst (IsClockOf ms top) r.2 (clock_of r.0 r.1),
      λ h. (among y).1 (of_clock y h),
    )

    -- ---- resets

    abbrev HasReset : Name → Bool → Type 0
    HasReset y high = (u : Timed) × Among us u × (u.reset ≡ Some (record { name = y; high = high }))

    reset_by : (u : Timed) (w : Waits u) (y : Name) (high : Bool) → u.reset ≡ Some (record { name = y; high = high }) → (r : Option Reset) → WaitsFor w.edges w.block.body w.driven.clock r → ReachesAs ms top (reverse w.path) r u.reset →
        IsResetOf ms top y high
    reset_by u w y high is None waits reaches =
        let own : Reset = record { name = y; high = high } in
        let z : None ≡ Some own = sym reaches ∙ is in cc
    reset_by u w y high is (Some r) waits (z, reaches, e) =
        let own : Reset = record { name = y; high = high } in
        let both : Some (at_level r.high z) ≡ Some own = sym e ∙ is in
        let same : at_level r.high z ≡ own = cc in
        (w.path, w.scope, w.at, w.block, w.edges, w.is_block, w.driven.clock, r, waits, subst (Reaches ms top (reverse w.path) r.name) (ap (λ (q : Reset). q.name) same) reaches, ap (λ (q : Reset). q.high) same)

    to_reset : (y : Name) (high : Bool) → HasReset y high → IsResetOf ms top y high
    to_reset y high (u, a, is) = let w = waiting u a in reset_by u w y high is w.driven.reset w.driven.waits w.driven.resets

    of_reset : (y : Name) (high : Bool) → IsResetOf ms top y high → HasReset y high
    of_reset y high (path, s, at, k, edges, is, clock, r, waits, reaches, level) =
        let edge = some_edge edges k.body clock (Some r) waits in
        let d = timed.driven (site path k) edges edge.0 (site_of path s k at is.block) is.events edge.1 in
        let same : d.1.clock ≡ clock = one_wait edges k.body d.1.clock clock d.1.reset (Some r) d.1.waits waits in
        let u : Timed = record { clock = d.0.clock; reset = Some (at_level r.high y) } in
        let driven : IsDriven ms top (reverse path) edges k.body u = record {
          clock = clock;
          reset = Some r;
          waits = waits;
          reaches = subst (λ x. Reaches ms top (reverse path) x d.0.clock) same d.1.reaches;
          resets = (y, reaches, refl);
        } in
        (u, timed.whole u (site path k) (site_of path s k at is.block) (edges, is.events, driven), λ i. Some (at_level (level i) y))

    pub reset_is : (y : Name) (high : Bool) (P : Type 0) → P ↔ HasReset y high → P ↔ IsResetOf ms top y high
    reset_is y high P h = (λ p. to_reset y high (h.0 p), λ r. h.1 (of_reset y high r))

    -- ---- faults

    pub two_stand : (fault : FlatFault) → HasTwoClocks us fault → Stands ms top fault
    two_stand (f.Clock n) (u, v, a, b, differ, e) =
        let w = waiting u a in
        (w.path, w.scope, w.at, inr (inl (w.block, w.edges, u.clock, v.clock, w.is_block, driven_timed ms top (reverse w.path) w.edges w.block.body u w.driven, clock_of v b, differ, e)))
    two_stand fault h = absurd h

    pub read_stands : (o : Option Name) → IsClockAmong us o → (clock : Name) → o ≡ Some clock → (fault : FlatFault) → SomeReads ss ts kept clock fault → Stands ms top fault
    read_stands o among clock is (f.Clock n) (j, s, t, as', at, x, read, e) =
        let p = path_of ms top ss unf.paths unf.lead j s at.scope in
        let table = table_at ms top unf.paths ts all.tables j p.0 t p.1 at.table in
        let clocked = (clock_is o among clock).0 is in (
          p.0,
          s,
          p.2,
          inr (inr (⊎_elim
              (λ (a, in', name, reached). inl (a, in', x, (name, clock, (table x clock).0 reached, clocked), e))
              (λ (a, in', name, reached).
              let k = (kept_at ms ss kept all.connections j s as' at.scope at.exprs a).0 in' in
              inr (k.0, k.1, k.2, k.3, k.4, k.5, k.6, x, (subst (λ b. Among (names_in b) x) (sym k.7) name, clock, (table x clock).0 reached, clocked), e))
              read)),
        )
    read_stands o among clock is fault h = absurd h

    scope_of : (j : ℕ) (path : List Name) (s : Scope) → slice_get unf.paths j ≡ Some path → scope_at ms top path ≡ Some s → slice_get ss j ≡ Some s
    scope_of j path s there at =
        by (slice_get ss j)
        (sym (slice_get-map Some ss j) ∙ (ap (λ xs. slice_get xs j) unf.lead ∙ (slice_get-map (scope_at ms top) unf.paths j ∙ (ap (option_map (scope_at ms top)) there ∙ ap Some at))))
      where
        by : (o : Option Scope) → option_map Some o ≡ Some (Some s) → o ≡ Some s
        by None h = cc
        by (Some r) h = cc

    not_read : (clock : Name) → NoneReads ss ts kept clock → (path : List Name) (s : Scope) → scope_at ms top path ≡ Some s → (x : Name) →
        ((t : List Link) (as' : List Expr) (j : ℕ) → IsAt ss ts kept j s t as' → IsTable ms top (reverse path) t → IsClockRead s.module' as' t clock x) → ⊥
    not_read clock none path s at x read =
        let j = place_of_among unf.paths path (path_known ms top ss unf path s at) in
        let lt = slice_get_within unf.paths j.0 path j.1 in
        let here = scope_of j.0 path s j.1 at in
        let t = got_within ts j.0 (omega (arith, tables_long, same_length ms top ss unf, lt)) in
        let as' = got_within kept j.0 (omega (arith, kept_long, same_length ms top ss unf, lt)) in
        let is : IsAt ss ts kept j.0 s t.0 as'.0 = record { scope = here; table = t.1; exprs = as'.1 } in
        none j.0 s t.0 as'.0 is x (read t.0 as'.0 j.0 is (table_at ms top unf.paths ts all.tables j.0 path t.0 j.1 t.1))

    pub none_stands : (o : Option Name) → IsClockAmong us o → ((clock : Name) → o ≡ Some clock → NoneReads ss ts kept clock) → (n : Name) → Stands ms top (f.Clock n) → ⊥
    none_stands o among reads n (path, s, at, breaks) =
        ⊎_elim
        (λ (k, edges, is, untimed, edge, a, e).
        let d = timed.driven (site path k) edges edge (site_of path s k at is.block) is.events a in
        untimed d.0.clock (driven_timed ms top (reverse path) edges k.body d.0 d.1))
        (λ h. ⊎_elim
        (λ (k, edges, y, z, is, h, clock, differ, e).
        let first : o ≡ Some y = (clock_is o among y).1 (path, s, at, k, edges, is, h) in
        let second : o ≡ Some z = (clock_is o among z).1 clock in
        let both : Some y ≡ Some z = sym first ∙ second in
        let same : y ≡ z = cc in
        differ same)
        (λ h. ⊎_elim
        (λ (a, in', x, (name, y, reaches, clock), e).
        not_read y (reads y ((clock_is o among y).1 clock)) path s at x (λ t as' j here table. inl (a, in', name, (table x y).1 reaches)))
        (λ (i, in', t, made, d, given, free, x, (name, y, reaches, clock), e).
        not_read y (reads y ((clock_is o among y).1 clock)) path s at x
        (λ t' as' j here table.
        let k = (kept_at ms ss kept all.connections j s as' here.scope here.exprs d.value).1 (i, in', t, made, d, given, free, refl) in
        inr (d.value, k, name, (table x y).1 reaches)))
        h)
        h)
        breaks
