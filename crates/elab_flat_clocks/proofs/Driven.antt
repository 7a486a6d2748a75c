-- What blocks wait for, by tables.
use Rattle.std.proofs.Common.{ℕ, zero, suc, ◌≡◌, ◌+◌, ◌<◌, ◌≤◌, length, take, drop, get_or, List, [], ◌∷◌, ◌++◌, map, Option, Some, None, inl, ⊎_elim, refl, sym, ap, subst, ◌∙◌, append_assoc, append-nil}
use Rattle.std.specs.Prelude.{reverse}
use Rattle.std.specs.List.{flat_map, slice_get}
use Rattle.std.specs.Option.{option_map}
use Rattle.std.proofs.lemmas.List.{map_more, drop_more, drop_all}
use Rattle.vlog_tree.specs.declared.module.Module.{Module}
use Rattle.vlog_tree.specs.declared.stmt.Edge.{Edge}
use Rattle.vlog_tree.specs.declared.stmt.Events.TheVariants as v
use Rattle.vlog_tree.specs.declared.stmt.Stmt.{Stmt}
use Rattle.vlog_tree_runs.specs.Places.{Name, Among}
use Rattle.vlog_tree_runs.specs.Contents.{Block, blocks_in}
use Rattle.vlog_tree_runs.specs.Scopes.{Scope, scope_at}
use Rattle.elab_flat_faults.specs.declared.flattening.FlatFault.{FlatFault}
use Rattle.elab_flat_faults.specs.declared.flattening.FlatFault.TheVariants as f
use Rattle.elab_flat_faults.specs.Clocks.{Reset, WaitsFor, IsTimed, ReachesReset}
use Rattle.elab_flat_laws.proofs.Lists.{among_append, append_left, append_right, map_append}
use Rattle.elab_flat_scopes.specs.declared.block.Block.{Block as View}
use Rattle.elab_flat_scopes.specs.Borrowed.{block_meant}
use Rattle.elab_flat_instances.specs.declared.scope.Scope.{Scope as Instance}
use Rattle.elab_flat_instances.specs.Unfolding.{scope_meant}
use Rattle.elab_flat_clocks.specs.declared.timing.Timing.{Timing}
use Rattle.elab_flat_clocks.specs.Timings.{reset_meant, IsTimingOf}
use Rattle.elab_flat_clocks.specs.Tables.{Link, input_at, IsTable}
use Rattle.elab_flat_clocks.specs.Driving.{Timed, timed_meant, at_level, resets_reached, timed_by, timed_reached, ReachesAs, IsDriven, IsDrivenBy, Site, site, sites_in, sites_at, AreTimings, AreTimingsBy, AreTimingsOf, IsUntimed, BreaksTiming, BreaksTimings, StandsBy}
use Rattle.elab_flat_clocks.proofs.Tabled.{table_at}

-- ---- one block

-- its clock and its reset are inputs of the top
pub timed_driven : (ms : List Module) (top : Name) (back : List Name) (edges : List Edge) (body : Stmt) (y : Name) → IsTimed ms top back edges body y → (u : Timed) × (u.clock ≡ y) × IsDriven ms top back edges body u
timed_driven ms top back edges body y h = by h.reset h.waits h.resets
  where
    by : (r : Option Reset) → WaitsFor edges body h.clock r → ReachesReset ms top back r → (u : Timed) × (u.clock ≡ y) × IsDriven ms top back edges body u
    by None w q = (record { clock = y; reset = None }, refl, record { clock = h.clock; reset = None; waits = w; reaches = h.reaches; resets = refl })
    by (Some r) w q = (
      record { clock = y; reset = Some (at_level r.high q.0) },
      refl,
      record { clock = h.clock; reset = Some r; waits = w; reaches = h.reaches; resets = (q.0, q.1, refl) },
    )

pub driven_timed : (ms : List Module) (top : Name) (back : List Name) (edges : List Edge) (body : Stmt) (u : Timed) → IsDriven ms top back edges body u → IsTimed ms top back edges body u.clock
driven_timed ms top back edges body u h = record { clock = h.clock; reset = h.reset; waits = h.waits; reaches = h.reaches; resets = by h.reset u.reset h.resets }
  where
    by : (r o : Option Reset) → ReachesAs ms top back r o → ReachesReset ms top back r
    by None o q = tt
    by (Some r) o q = (q.0, q.1)

module _ (t : List Link) where
  module _ (ms : List Module) (top : Name) (back : List Name) (table : IsTable ms top back t) where
    resets_to : (r o : Option Reset) → ReachesAs ms top back r o → resets_reached t r ≡ Some o
    resets_to None o h = ap Some (sym h)
    resets_to (Some r) o h = ap (λ z. option_map Some (option_map (at_level r.high) z)) ((table r.name h.0).1 h.1) ∙ ap Some (sym h.2)

    resets_by : (r : Reset) (o : Option Reset) (z : Option Name) → input_at t r.name ≡ z → option_map Some (option_map (at_level r.high) z) ≡ Some o → ReachesAs ms top back (Some r) o
    resets_by r o None at h = cc
    resets_by r o (Some y) at h = let same : Some (at_level r.high y) ≡ o = cc in (y, (table r.name y).0 at, sym same)

    resets_from : (r o : Option Reset) → resets_reached t r ≡ Some o → ReachesAs ms top back r o
    resets_from None o h = let same : None ≡ o = cc in sym same
    resets_from (Some r) o h = resets_by r o (input_at t r.name) refl h

  timed_of : (a : Option Name) (b : Option (Option Reset)) (u : Timed) → timed_by a b ≡ Some u → (a ≡ Some u.clock) × (b ≡ Some u.reset)
  timed_of None b u h = cc
  timed_of (Some y) None u h = cc
  timed_of (Some y) (Some r) u h =
      let w : Timed = record { clock = y; reset = r } in
      let same : w ≡ u = cc in
      (ap (λ (z : Timed). Some z.clock) same, ap (λ (z : Timed). Some z.reset) same)

  module _ (edges : List Edge) (body : Stmt) (o : Option Timing) (timing : IsTimingOf edges body o) where
    pub driven_by : (m : Timing) → o ≡ Some m → (w : Option Timed) → w ≡ timed_reached t (timed_meant m) → IsDrivenBy t edges body w
    driven_by m some w is ms top back table u = (to, from)
      where
        only : IsTimingOf edges body (Some m)
        only = subst (IsTimingOf edges body) some timing

        to : IsDriven ms top back edges body u → w ≡ Some u
        to h =
            let r = (only h.clock h.reset).0 h.waits in
            is
            ∙ ((λ i. timed_by (input_at t (r.0 i)) (resets_reached t (r.1 i)))
            ∙ (λ i. timed_by ((table h.clock u.clock).1 h.reaches i) (resets_to ms top back table h.reset u.reset h.resets i)))

        from : w ≡ Some u → IsDriven ms top back edges body u
        from h =
            let r = timed_of (input_at t m.clock.now) (resets_reached t (option_map reset_meant m.reset)) u (sym is ∙ h) in
            record {
              clock = m.clock.now;
              reset = option_map reset_meant m.reset;
              waits = (only m.clock.now (option_map reset_meant m.reset)).1 (refl, refl);
              reaches = (table m.clock.now u.clock).0 r.0;
              resets = resets_from ms top back table (option_map reset_meant m.reset) u.reset r.1;
            }

  pub untimed : (edges : List Edge) (body : Stmt) (o : Option Timed) → IsDrivenBy t edges body o → o ≡ None → IsUntimed t edges body
  untimed edges body o by none ms top back table y h =
      let r = timed_driven ms top back edges body y h in
      let z : None ≡ Some r.0 = sym none ∙ (by ms top back table r.0).0 r.2 in
      cc

-- ---- the timings of one block

module _ (t : List Link) (k : Block) where
  -- a block without edges
  pub no_edges : ((edges : List Edge) → k.events ≡ v.Edges edges → ⊥) → AreTimingsBy t (k ∷ []) []
  no_edges none ms top path table = record {
    waited = λ u a. absurd a;
    whole = λ u z a h. ⊎_elim (λ e. none h.0 (ap (λ (y : Site). y.block.events) e ∙ h.1)) (λ b. absurd b) a;
    driven = λ z edges edge a h b. ⊎_elim (λ e. absurd (none edges (ap (λ (y : Site). y.block.events) e ∙ h))) (λ c. absurd c) a;
  }

  module _ (edges : List Edge) (is : k.events ≡ v.Edges edges) (o : Option Timed) (by : IsDrivenBy t edges k.body o) where
    same_edges : (z : Site) (path : List Name) (es : List Edge) → site path k ≡ z → z.block.events ≡ v.Edges es → es ≡ edges
    same_edges z path es e h = let both : v.Edges es ≡ v.Edges edges = sym h ∙ (ap (λ (y : Site). y.block.events) (sym e) ∙ is) in cc

    at_site : (ms : List Module) (top : Name) (z : Site) (path : List Name) (es : List Edge) (u : Timed) → site path k ≡ z → es ≡ edges → IsDriven ms top (reverse z.path) es z.block.body u → IsDriven ms top (reverse path) edges k.body u
    at_site ms top z path es u e g h =
        subst (λ (xs : List Edge). IsDriven ms top (reverse path) xs k.body u) g (subst (λ (y : Site). IsDriven ms top (reverse y.path) es y.block.body u) (sym e) h)

    of_site : (ms : List Module) (top : Name) (z : Site) (path : List Name) (es : List Edge) (u : Timed) → site path k ≡ z → es ≡ edges → IsDriven ms top (reverse path) edges k.body u → IsDriven ms top (reverse z.path) es z.block.body u
    of_site ms top z path es u e g h =
        subst (λ (y : Site). IsDriven ms top (reverse y.path) es y.block.body u) e (subst (λ (xs : List Edge). IsDriven ms top (reverse path) xs k.body u) (sym g) h)

    -- a block that waits for something
    pub one_timing : (u : Timed) → o ≡ Some u → AreTimingsBy t (k ∷ []) (u ∷ [])
    one_timing u some ms top path table =
        let here : IsDriven ms top (reverse path) edges k.body u = (by ms top (reverse path) table u).1 some in
        record {
          waited = λ w a. (site path k, inl refl, (edges, is, ⊎_elim (λ e. subst (IsDriven ms top (reverse path) edges k.body) e here) (λ b. absurd b) a));
          whole = λ w z a h.
              ⊎_elim (λ e. let two : Some u ≡ Some w = sym some ∙ (by ms top (reverse path) table w).0 (at_site ms top z path h.0 w e (same_edges z path h.0 e h.1) h.2) in
              let same : u ≡ w = cc in inl same) (λ b. absurd b) a;
          driven = λ z es edge a h b. ⊎_elim (λ e. (u, of_site ms top z path es u e (same_edges z path es e h) here)) (λ c. absurd c) a;
        }

    pub breaks : o ≡ None → (s : Scope) (edge : Edge) → Among edges edge → (n : Name) → n ≡ s.prefix ++ edge.name → BreaksTiming s t k (f.Clock n)
    breaks none s edge a n e = (edges, is, untimed t edges k.body o by none, edge, a, e)

-- ---- the timings of blocks after one another

module _ (ms : List Module) (top : Name) where
  pub timings_append : (zs ws : List Site) (us xs : List Timed) → AreTimings ms top zs us → AreTimings ms top ws xs → AreTimings ms top (zs ++ ws) (us ++ xs)
  timings_append zs ws us xs h k = record {
    waited = λ u a. ⊎_elim (λ b. let r = h.waited u b in (r.0, append_left zs ws r.0 r.1, r.2)) (λ b. let r = k.waited u b in (r.0, append_right zs ws r.0 r.1, r.2)) (among_append us xs u a);
    whole = λ u z a d. ⊎_elim (λ b. append_left us xs u (h.whole u z b d)) (λ b. append_right us xs u (k.whole u z b d)) (among_append zs ws z a);
    driven = λ z edges edge a e b. ⊎_elim (λ c. h.driven z edges edge c e b) (λ c. k.driven z edges edge c e b) (among_append zs ws z a);
  }

  pub no_timings : AreTimings ms top [] []
  no_timings = record { waited = λ u a. absurd a; whole = λ u z a d. absurd a; driven = λ z edges edge a e b. absurd a }

pub timings_more : (t : List Link) (ks js : List Block) (us xs : List Timed) → AreTimingsBy t ks us → AreTimingsBy t js xs → AreTimingsBy t (ks ++ js) (us ++ xs)
timings_more t ks js us xs h k ms top path table =
    subst (λ zs. AreTimings ms top zs (us ++ xs)) (sym (map_append (site path) ks js)) (timings_append ms top (map (site path) ks) (map (site path) js) us xs (h ms top path table) (k ms top path table))

-- ---- of all scopes

pub all_done : AreTimingsOf [] [] []
all_done ms top [] lead tables = no_timings ms top
all_done ms top (p ∷ ps) lead tables = absurd tables

pub next_scope : (s : Scope) (ss : List Scope) (t : List Link) (ts : List (List Link)) (us xs : List Timed) → AreTimingsBy t (blocks_in s.module') us → AreTimingsOf ss ts xs → AreTimingsOf (s ∷ ss) (t ∷ ts) (us ++ xs)
next_scope s ss t ts us xs h k ms top [] lead tables = absurd tables
next_scope s ss t ts us xs h k ms top (p ∷ ps) lead tables =
    let first : Some s ≡ scope_at ms top p = cc in
    let rest : map Some ss ≡ map (scope_at ms top) ps = cc in
    timings_append ms top (sites_at ms top p) (flat_map (sites_at ms top) ps) us xs
    (subst (λ o. AreTimings ms top (sites_in p o) us) first (h ms top p tables.0)) (k ms top ps rest tables.1)

-- the path of a scope at a place
pub path_of : (ms : List Module) (top : Name) (ss : List Scope) (paths : List (List Name)) → map Some ss ≡ map (scope_at ms top) paths → (j : ℕ) (s : Scope) → slice_get ss j ≡ Some s →
    (p : List Name) × (slice_get paths j ≡ Some p) × (scope_at ms top p ≡ Some s)
path_of ms top [] paths lead j s at = cc
path_of ms top (r ∷ ss) [] lead j s at = cc
path_of ms top (r ∷ ss) (p ∷ ps) lead zero s at =
    let first : Some r ≡ scope_at ms top p = cc in
    let same : r ≡ s = cc in
    (p, refl, sym first ∙ ap Some same)
path_of ms top (r ∷ ss) (p ∷ ps) lead (suc j) s at =
    let rest : map Some ss ≡ map (scope_at ms top) ps = cc in
    path_of ms top ss ps rest j s at

pub timing_stands : (ss : List Scope) (ts : List (List Link)) (j : ℕ) (s : Scope) (t : List Link) → slice_get ss j ≡ Some s → slice_get ts j ≡ Some t → (fault : FlatFault) → BreaksTimings s t fault → StandsBy ss ts fault
timing_stands ss ts j s t at ta (f.Clock n) h ms top paths lead tables =
    let p = path_of ms top ss paths lead j s at in
    let table = table_at ms top paths ts tables j p.0 t p.1 ta in
    let b = h.2 in
    (p.0, s, p.2, inl (h.0, b.0, record { block = h.1; events = b.1 }, (λ y z. b.2 ms top (reverse p.0) table y z), b.3, b.4, b.5))
timing_stands ss ts j s t at ta fault h ms top paths lead tables = absurd h.2

-- ---- the code's lists

pub more_timings : (t : List Link) (blocks : List View) (k : ℕ) (b : View) → k < length blocks → b ≡ get_or blocks k b → (us xs ws : List Timed) → AreTimingsBy t (map block_meant (take k blocks)) us → AreTimingsBy t (block_meant b ∷ []) xs →
    ws ≡ us ++ xs → AreTimingsBy t (map block_meant (take (k + 1) blocks)) ws
more_timings t blocks k b lt is us xs ws inv one grown =
    subst (AreTimingsBy t (map block_meant (take (k + 1) blocks))) (sym grown)
    (subst (λ ks. AreTimingsBy t ks (us ++ xs)) (sym (map_more block_meant blocks k b lt ∙ ap (λ z. map block_meant (take k blocks) ++ block_meant z ∷ []) (sym is)))
    (timings_more t (map block_meant (take k blocks)) (block_meant b ∷ []) us xs inv one))

cut_at : {X : Type 0} (xs : List X) (k : ℕ) (x : X) → k < length xs → x ≡ get_or xs k x → drop k xs ≡ x ∷ drop (k + 1) xs
cut_at xs k x lt is = drop_more xs k x lt ∙ ap (λ z. z ∷ drop (k + 1) xs) (sym is)

pub next_timings : (scopes : List Instance) (tables : List (List Link)) (k : ℕ) (x : Instance) (t : List Link) → k < length scopes → x ≡ get_or scopes k x → k < length tables → t ≡ get_or tables k t → (all more new : List Timing) →
    AreTimingsBy t (blocks_in x.text.now) (map timed_meant more) → new ≡ all ++ more →
    ((rest : List Timed) → AreTimingsOf (map scope_meant (drop k scopes)) (drop k tables) rest → AreTimingsOf (map scope_meant scopes) tables (map timed_meant all ++ rest)) →
    (rest : List Timed) → AreTimingsOf (map scope_meant (drop (k + 1) scopes)) (drop (k + 1) tables) rest → AreTimingsOf (map scope_meant scopes) tables (map timed_meant new ++ rest)
next_timings scopes tables k x t lt is long at all more new one grown inv rest h =
    let us = map timed_meant more in
    let here : AreTimingsOf (scope_meant x ∷ map scope_meant (drop (k + 1) scopes)) (t ∷ drop (k + 1) tables) (us ++ rest) =
    next_scope (scope_meant x) (map scope_meant (drop (k + 1) scopes)) t (drop (k + 1) tables) us rest one h in
    let there : AreTimingsOf (map scope_meant (drop k scopes)) (drop k tables) (us ++ rest) =
    subst (λ ts. AreTimingsOf (map scope_meant (drop k scopes)) ts (us ++ rest)) (sym (cut_at tables k t long at))
    (subst (λ ss. AreTimingsOf ss (t ∷ drop (k + 1) tables) (us ++ rest)) (sym (ap (map scope_meant) (cut_at scopes k x lt is))) here) in
    subst (AreTimingsOf (map scope_meant scopes) tables)
    (sym (append_assoc (map timed_meant all) us rest) ∙ ap (λ ws. ws ++ rest) (sym (ap (map timed_meant) grown ∙ map_append timed_meant all more)))
    (inv (us ++ rest) there)

pub timings_done : (scopes : List Instance) (tables : List (List Link)) (k : ℕ) → length scopes ≤ k → length tables ≤ k → (us : List Timed) →
    ((rest : List Timed) → AreTimingsOf (map scope_meant (drop k scopes)) (drop k tables) rest → AreTimingsOf (map scope_meant scopes) tables (us ++ rest)) → AreTimingsOf (map scope_meant scopes) tables us
timings_done scopes tables k done long us inv =
    subst (AreTimingsOf (map scope_meant scopes) tables) (append-nil us)
    (inv [] (subst (λ ts. AreTimingsOf (map scope_meant (drop k scopes)) ts []) (sym (drop_all k tables long)) (subst (λ ss. AreTimingsOf ss [] []) (sym (ap (map scope_meant) (drop_all k scopes done))) all_done)))
