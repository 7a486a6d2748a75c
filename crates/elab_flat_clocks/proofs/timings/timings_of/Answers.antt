use Rattle.std.proofs.Common.{◌<◌, ◌≤◌, length, get_or, map, ap, ◌∙◌, arith}
use Rattle.elab_flat_instances.specs.Unfolding.{scope_meant}
use Rattle.elab_flat_instances.proofs.Children.{refuses_map}
use Rattle.elab_flat_clocks.specs.Driving.{timed_meant, BreaksTimings, StandsBy}
use Rattle.elab_flat_clocks.proofs.Driven.{timing_stands, next_timings, timings_done}
use Rattle.elab_flat_clocks.proofs.Reading.{got_read}
use Rattle.elab_flat_clocks.proofs.Growing.{scope_at_place}
use Rattle.elab_flat_clocks.proofs.timings.timings_of.Goals as goal

pub returns-in-Err-clause-err : goal.returns-in-Err-clause-err
returns-in-Err-clause-err c =
    let scopes = c.args.scopes.now in
    let tables = c.args.tables.now in
    let k = c.loop-scope.scope-index in
    let x = c.scope-item.result in
    let t = c.index-tables-at.result in
    let long : k < length tables = omega (arith, c.loop-scope-test.true, c.requires) in
    refuses_map (BreaksTimings (scope_meant x) t) (StandsBy (map scope_meant scopes) tables)
    (timing_stands (map scope_meant scopes) tables k (scope_meant x) t (scope_at_place scopes k x c.loop-scope-test.true c.scope-item.is)
    (got_read tables k t long (c.index-tables-at.is ∙ ap (λ n. get_or tables n t) c.loop-scope.invariant.place))) c.in-Err.fault c.in-Err.ensures.err

pub loop-scope-preserved : goal.loop-scope-preserved
loop-scope-preserved c =
    let scopes = c.args.scopes.now in
    let tables = c.args.tables.now in
    let k = c.loop-scope.scope-index in
    let x = c.scope-item.result in
    let t = c.index-tables-at.result in
    let long : k < length tables = omega (arith, c.loop-scope-test.true, c.requires) in
    record {
      place = omega (arith, c.loop-scope.invariant.place);
      made = next_timings scopes tables k x t c.loop-scope-test.true c.scope-item.is long (c.index-tables-at.is ∙ ap (λ n. get_or tables n t) c.loop-scope.invariant.place) c.loop-scope.all.items c.in-Ok.more.items c.append.new.self.items
          c.in-Ok.ensures.ok c.in_ok-append.ensures.items c.loop-scope.invariant.made;
    }

pub returns-clause-ok : goal.returns-clause-ok
returns-clause-ok c =
    let tables = c.args.tables.now in
    let done : length tables ≤ c.loop-scope.scope-index = omega (arith, c.loop-scope-test.false, c.requires) in
    timings_done c.args.scopes.now tables c.loop-scope.scope-index c.loop-scope-test.false done (map timed_meant c.loop-scope.all.items) c.loop-scope.invariant.made
