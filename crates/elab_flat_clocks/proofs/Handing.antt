-- The clock and the resets that the code hands on, and the faults that it finds.
use Rattle.std.proofs.Common.{◌≡◌, Bool, true, false, List, ◌++◌, Option, Some, sym, subst, ◌∙◌}
use Rattle.std.specs.Prelude.{◌↔◌, Result, OnOk, IfErr}
use Rattle.std.proofs.lemmas.Result.{IfErr-weaker, on_ok_weaker}
use Rattle.vlog_tree.specs.declared.module.Module.{Module}
use Rattle.vlog_tree.specs.declared.expr.Expr.{Expr}
use Rattle.vlog_tree_runs.specs.declared.flat.Async.{Async}
use Rattle.vlog_tree_runs.specs.Places.{Name, Among}
use Rattle.vlog_tree_runs.specs.Scopes.{Scope}
use Rattle.elab_flat_faults.specs.declared.flattening.FlatFault.{FlatFault}
use Rattle.elab_flat_faults.specs.declared.flattening.FlatFault.TheVariants as f
use Rattle.elab_flat_faults.specs.FlatStands.{Stands, Refuses, IsClockOf}
use Rattle.elab_flat_instances.specs.Unfolding.{AreUnfolded}
use Rattle.elab_flat_instances.proofs.Children.{refuses_map}
use Rattle.elab_flat_faults.specs.Handed.{IsResetOf}
use Rattle.elab_flat_clocks.specs.Tables.{Link}
use Rattle.elab_flat_clocks.specs.Tabled.{AreWaysOf}
use Rattle.elab_flat_clocks.specs.Driving.{Timed, AreTimingsOf, StandsBy}
use Rattle.elab_flat_clocks.specs.Clocking.{async_at, asyncs_at, IsClockAmong, HasTwoClocks, NoneReads, SomeReads}
use Rattle.elab_flat_clocks.specs.Unread.{IsUnread, IsReadBy}
use Rattle.elab_flat_clocks.proofs.Resets.{asyncs_are}
use Rattle.elab_flat_clocks.proofs.Clocking.{clock_is, reset_is, two_stand, read_stands, none_stands}

-- the clock that there is, is read by no scope, or by one
pub unread : {T : Type 0} (ss : List Scope) (ts us : List (List Link)) (kept known : List (List Expr)) (x : Name) (o : Option Name) → o ≡ Some x → (r : Result T FlatFault) → ts ≡ us → kept ≡ known → OnOk r (NoneReads ss ts kept x) → OnOk r (IsUnread ss us known o)
unread ss ts us kept known x o is r a b = on_ok_weaker r (λ (h : NoneReads ss ts kept x). λ (y : Name) (e : o ≡ Some y).
    let both : Some x ≡ Some y = sym is ∙ e in
    let same : x ≡ y = cc in
    subst (λ z. NoneReads ss us known z) same (subst (λ zs. NoneReads ss us zs x) b (subst (λ zs. NoneReads ss zs kept x) a h)))

pub read_by : {T : Type 0} (ss : List Scope) (ts us : List (List Link)) (kept known : List (List Expr)) (x : Name) (o : Option Name) → o ≡ Some x → (r : Result T FlatFault) → ts ≡ us → kept ≡ known → IfErr r (Refuses (SomeReads ss ts kept x)) → IfErr r (Refuses (IsReadBy ss us known o))
read_by ss ts us kept known x o is r a b = IfErr-weaker r (Refuses (SomeReads ss ts kept x)) (Refuses (IsReadBy ss us known o)) (λ fault h.
    refuses_map (SomeReads ss us known x) (IsReadBy ss us known o) (λ g z. (x, is, z)) fault
    (subst (λ zs. Refuses (SomeReads ss us zs x) fault) b (subst (λ zs. Refuses (SomeReads ss zs kept x) fault) a h)))

module _ (ms : List Module) (top : Name) (ss : List Scope) (ts : List (List Link)) (kept : List (List Expr)) (unf : AreUnfolded ms top ss) (ways : AreWaysOf ss ts kept) where
  pub refused_timing : (fault : FlatFault) → Refuses (StandsBy ss ts) fault → Refuses (Stands ms top) fault
  refused_timing fault h = refuses_map (StandsBy ss ts) (Stands ms top) (λ g z. z ms top unf.paths unf.lead (ways ms top unf).tables) fault h

  module _ (us : List Timed) (timings : AreTimingsOf ss ts us) where
    pub refused_clocks : (fault : FlatFault) → Refuses (HasTwoClocks us) fault → Refuses (Stands ms top) fault
    refused_clocks fault h = refuses_map (HasTwoClocks us) (Stands ms top) (two_stand ms top ss ts kept us unf ways timings) fault h

    pub resets_given : (as' : List Async) → as' ≡ asyncs_at true us ++ asyncs_at false us → (y : Name) (high : Bool) → Among as' (async_at high y) ↔ IsResetOf ms top y high
    resets_given as' is y high = reset_is ms top ss ts kept us unf ways timings y high (Among as' (async_at high y)) (asyncs_are us as' is y high)

    module _ (o : Option Name) (among : IsClockAmong us o) where
      pub refused_reads : (fault : FlatFault) → Refuses (IsReadBy ss ts kept o) fault → Refuses (Stands ms top) fault
      refused_reads fault h = refuses_map (IsReadBy ss ts kept o) (Stands ms top) (λ g z. read_stands ms top ss ts kept us unf ways timings o among z.0 z.1 g z.2) fault h

      pub clock_given : (r : Option Name) → r ≡ o → (y : Name) → (r ≡ Some y) ↔ IsClockOf ms top y
      clock_given r e y = subst (λ q. (q ≡ Some y) ↔ IsClockOf ms top y) (sym e) (clock_is ms top ss ts kept us unf ways timings o among y)

      pub none_left : IsUnread ss ts kept o → (n : Name) → Stands ms top (f.Clock n) → ⊥
      none_left unread n h = none_stands ms top ss ts kept us unf ways timings o among unread n h
