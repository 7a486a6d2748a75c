use Rattle.std.proofs.Common.{[], ◌++◌, true, false, length, map, sym, ap, subst, ◌∙◌}
use Rattle.std.proofs.lemmas.List.{length-map}
use Rattle.std.specs.Option.{option_copied}
use Rattle.elab_flat_faults.specs.FlatStands.{Stands, Refuses}
use Rattle.elab_flat_instances.specs.Unfolding.{scope_meant}
use Rattle.elab_flat_instances.proofs.Children.{refuses_map}
use Rattle.elab_flat_clocks.specs.Passing.{exprs_meant, StandsAmong}
use Rattle.elab_flat_clocks.specs.Driving.{timed_meant, AreTimingsOf, StandsBy}
use Rattle.elab_flat_clocks.specs.Clocking.{asyncs_at, IsClockAmong, HasTwoClocks}
use Rattle.elab_flat_clocks.proofs.Clocking.{tables_long, kept_long}
use Rattle.elab_flat_clocks.proofs.Tabled.{among_stands}
use Rattle.elab_flat_clocks.proofs.Handing.{refused_timing, refused_clocks, refused_reads, resets_given, clock_given, none_left}
use Rattle.elab_flat_clocks.proofs.clocks.clocks_of.Goals as goal

pub returns-in-Err-clause-err : goal.returns-in-Err-clause-err
returns-in-Err-clause-err c =
    let ms = c.args.modules.now in
    let top = c.args.top.now in
    let ss = map scope_meant c.args.scopes.now in
    refuses_map (StandsAmong ss) (Stands ms top) (among_stands ms top ss c.requires) c.in-Err.fault c.in-Err.ensures.err

pub timings_of-requires : goal.timings_of-requires
timings_of-requires c =
    let ss = map scope_meant c.args.scopes.now in
    ap length c.deref.ensures.value ∙ (tables_long c.args.modules.now c.args.top.now ss c.in-Ok.ways.tables.items (map exprs_meant c.in-Ok.ways.kept.items) [] c.requires c.in-Ok.ensures.ok ∙ length-map c.args.scopes.now scope_meant)

pub returns-in-Err-timings_of-clause-err : goal.returns-in-Err-timings_of-clause-err
returns-in-Err-timings_of-clause-err c =
    let ss = map scope_meant c.args.scopes.now in
    let ts = c.in-Ok.ways.tables.items in
    let kept = map exprs_meant c.in-Ok.ways.kept.items in
    refused_timing c.args.modules.now c.args.top.now ss ts kept c.requires c.in-Ok.ensures.ok c.in-Err-timings_of.fault
    (subst (λ zs. Refuses (StandsBy ss zs) c.in-Err-timings_of.fault) c.deref.ensures.value c.in-Err-timings_of.ensures.err)

pub returns-in-Err-one_clock-clause-err : goal.returns-in-Err-one_clock-clause-err
returns-in-Err-one_clock-clause-err c =
    let ss = map scope_meant c.args.scopes.now in
    let ts = c.in-Ok.ways.tables.items in
    let kept = map exprs_meant c.in-Ok.ways.kept.items in
    let us = map timed_meant c.in-Ok-timings_of.timings.items in
    let timings : AreTimingsOf ss ts us = subst (λ zs. AreTimingsOf ss zs us) c.deref.ensures.value c.in-Ok-timings_of.ensures.ok in
    refused_clocks c.args.modules.now c.args.top.now ss ts kept c.requires c.in-Ok.ensures.ok us timings c.in-Err-one_clock.fault
    (subst (λ zs. Refuses (HasTwoClocks (map timed_meant zs)) c.in-Err-one_clock.fault) c.deref-2.ensures.value c.in-Err-one_clock.ensures.err)

pub check_clock-requires-clause-tables : goal.check_clock-requires-clause-tables
check_clock-requires-clause-tables c =
    let ss = map scope_meant c.args.scopes.now in
    tables_long c.args.modules.now c.args.top.now ss c.in-Ok.ways.tables.items (map exprs_meant c.in-Ok.ways.kept.items) [] c.requires c.in-Ok.ensures.ok ∙ length-map c.args.scopes.now scope_meant

pub check_clock-requires-clause-kept : goal.check_clock-requires-clause-kept
check_clock-requires-clause-kept c =
    let ss = map scope_meant c.args.scopes.now in
    let kept = c.in-Ok.ways.kept.items in
    sym (length-map kept exprs_meant) ∙ (kept_long c.args.modules.now c.args.top.now ss c.in-Ok.ways.tables.items (map exprs_meant kept) [] c.requires c.in-Ok.ensures.ok ∙ length-map c.args.scopes.now scope_meant)

pub returns-in-Err-check_clock-clause-err : goal.returns-in-Err-check_clock-clause-err
returns-in-Err-check_clock-clause-err c =
    let ss = map scope_meant c.args.scopes.now in
    let ts = c.in-Ok.ways.tables.items in
    let kept = map exprs_meant c.in-Ok.ways.kept.items in
    let us = map timed_meant c.in-Ok-timings_of.timings.items in
    let timings : AreTimingsOf ss ts us = subst (λ zs. AreTimingsOf ss zs us) c.deref.ensures.value c.in-Ok-timings_of.ensures.ok in
    let o = option_copied c.in-Ok-one_clock.clock in
    let among : IsClockAmong us o = subst (λ zs. IsClockAmong (map timed_meant zs) o) c.deref-2.ensures.value c.in-Ok-one_clock.ensures.ok in
    refused_reads c.args.modules.now c.args.top.now ss ts kept c.requires c.in-Ok.ensures.ok us timings o among c.in-Err-check_clock.fault c.in-Err-check_clock.ensures.err

pub returns-clause-clock : goal.returns-clause-clock
returns-clause-clock c =
    let ss = map scope_meant c.args.scopes.now in
    let ts = c.in-Ok.ways.tables.items in
    let kept = map exprs_meant c.in-Ok.ways.kept.items in
    let us = map timed_meant c.in-Ok-timings_of.timings.items in
    let timings : AreTimingsOf ss ts us = subst (λ zs. AreTimingsOf ss zs us) c.deref.ensures.value c.in-Ok-timings_of.ensures.ok in
    let o = option_copied c.in-Ok-one_clock.clock in
    let among : IsClockAmong us o = subst (λ zs. IsClockAmong (map timed_meant zs) o) c.deref-2.ensures.value c.in-Ok-one_clock.ensures.ok in
    clock_given c.args.modules.now c.args.top.now ss ts kept c.requires c.in-Ok.ensures.ok us timings o among c.in_ok-copied.field-0 c.in_ok-copied.ensures

pub returns-clause-asyncs : goal.returns-clause-asyncs
returns-clause-asyncs c =
    let ss = map scope_meant c.args.scopes.now in
    let ts = c.in-Ok.ways.tables.items in
    let kept = map exprs_meant c.in-Ok.ways.kept.items in
    let us = map timed_meant c.in-Ok-timings_of.timings.items in
    let timings : AreTimingsOf ss ts us = subst (λ zs. AreTimingsOf ss zs us) c.deref.ensures.value c.in-Ok-timings_of.ensures.ok in
    resets_given c.args.modules.now c.args.top.now ss ts kept c.requires c.in-Ok.ensures.ok us timings c.in_ok-asyncs_of.field-0
    (c.in_ok-asyncs_of.ensures ∙ ap (λ zs. asyncs_at true (map timed_meant zs) ++ asyncs_at false (map timed_meant zs)) c.deref-3.ensures.value)

pub returns-clause-none : goal.returns-clause-none
returns-clause-none c =
    let ss = map scope_meant c.args.scopes.now in
    let ts = c.in-Ok.ways.tables.items in
    let kept = map exprs_meant c.in-Ok.ways.kept.items in
    let us = map timed_meant c.in-Ok-timings_of.timings.items in
    let timings : AreTimingsOf ss ts us = subst (λ zs. AreTimingsOf ss zs us) c.deref.ensures.value c.in-Ok-timings_of.ensures.ok in
    let o = option_copied c.in-Ok-one_clock.clock in
    let among : IsClockAmong us o = subst (λ zs. IsClockAmong (map timed_meant zs) o) c.deref-2.ensures.value c.in-Ok-one_clock.ensures.ok in
    none_left c.args.modules.now c.args.top.now ss ts kept c.requires c.in-Ok.ensures.ok us timings o among c.in-Ok-check_clock.ensures.ok
