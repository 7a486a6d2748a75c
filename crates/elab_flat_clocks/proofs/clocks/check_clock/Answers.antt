use Rattle.std.proofs.Common.{map, ap}
use Rattle.std.specs.Option.{option_copied}
use Rattle.elab_flat_instances.specs.Unfolding.{scope_meant}
use Rattle.elab_flat_clocks.specs.Passing.{exprs_meant}
use Rattle.elab_flat_clocks.proofs.Handing.{unread, read_by}
use Rattle.elab_flat_clocks.proofs.clocks.check_clock.Goals as goal

pub returns-in-Some-clause-ok : goal.returns-in-Some-clause-ok
returns-in-Some-clause-ok c =
    let ss = map scope_meant c.args.scopes.now in
    unread ss c.deref.result.now c.args.ways.now.tables.items (map exprs_meant c.deref-in-Some.result.now) (map exprs_meant c.args.ways.now.kept.items) c.in-Some.clock.now _ (ap option_copied c.in-Some.is) c.check_reads.result c.deref.ensures.value (ap (map exprs_meant) c.deref-in-Some.ensures.value) c.check_reads.ensures.ok

pub returns-in-Some-clause-err : goal.returns-in-Some-clause-err
returns-in-Some-clause-err c =
    let ss = map scope_meant c.args.scopes.now in
    read_by ss c.deref.result.now c.args.ways.now.tables.items (map exprs_meant c.deref-in-Some.result.now) (map exprs_meant c.args.ways.now.kept.items) c.in-Some.clock.now _ (ap option_copied c.in-Some.is) c.check_reads.result c.deref.ensures.value (ap (map exprs_meant) c.deref-in-Some.ensures.value) c.check_reads.ensures.err
