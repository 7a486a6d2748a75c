use Rattle.std.proofs.Common.{◌<◌, ◌≤◌, ◌++◌, length, get_or, map, ap, subst, ◌∙◌, arith}
use Rattle.std.proofs.lemmas.List.{length-map}
use Rattle.std.specs.Option.{option_copied}
use Rattle.vlog_tree_runs.specs.Places.{Name}
use Rattle.elab_flat_instances.specs.Unfolding.{scope_meant}
use Rattle.elab_flat_names.specs.Searching.{Finds}
use Rattle.elab_flat_names.proofs.Searches.{one_found, none_found}
use Rattle.elab_flat_names.specs.Exprs.{expr_meant}
use Rattle.elab_flat_clocks.specs.Passing.{exprs_meant}
use Rattle.elab_flat_clocks.specs.Clocking.{IsAt, IsClockRead}
use Rattle.elab_flat_clocks.proofs.Reading.{got_read, got_exprs, next_none, none_reads, reads}
use Rattle.elab_flat_clocks.proofs.Growing.{scope_at_place}
use Rattle.elab_flat_clocks.proofs.reads.check_reads.Goals as goal

pub returns-in-Some-clause-err : goal.returns-in-Some-clause-err
returns-in-Some-clause-err c =
    let scopes = c.args.scopes.now in
    let kept = c.args.kept.now in
    let k = c.loop-scope.scope-index in
    let x = c.scope-item.result in
    let t = c.index-tables-at.result in
    let v = c.index-kept-at.result in
    let place = c.loop-scope.invariant.place in
    let long : k < length c.args.tables.now = omega (arith, c.loop-scope-test.true, c.requires.tables) in
    let wide : k < length kept = omega (arith, c.loop-scope-test.true, c.requires.kept) in
    let at : IsAt (map scope_meant scopes) c.args.tables.now (map exprs_meant kept) k (scope_meant x) t (exprs_meant v) = record {
      scope = scope_at_place scopes k x c.loop-scope-test.true c.scope-item.is;
      table = got_read c.args.tables.now k t long (c.index-tables-at.is ∙ ap (λ n. get_or c.args.tables.now n t) place);
      exprs = got_exprs kept k v wide (c.index-kept-at.is ∙ ap (λ n. get_or kept n v) place);
    } in
    let found : Finds (IsClockRead x.text.now (exprs_meant v) t c.args.clock.now) (option_copied c.in_ok-name.field-0) =
    subst (λ es. Finds (IsClockRead x.text.now (map expr_meant es) t c.args.clock.now) (option_copied c.in_ok-name.field-0)) c.deref.ensures.value c.in_ok-name.ensures in
    reads (map scope_meant scopes) c.args.tables.now (map exprs_meant kept) c.args.clock.now k (scope_meant x) t (exprs_meant v) at c.in-Some.name.now c.in_ok-name-2.name
    (one_found (IsClockRead x.text.now (exprs_meant v) t c.args.clock.now) c.in_ok-name.field-0 c.in-Some.name found c.in-Some.is)
    (c.in_ok-name-2.ensures ∙ (ap (λ (p : Name). p ++ c.bytes-in-Some.result.now) c.bytes.ensures ∙ ap (λ (n : Name). x.prefix ++ n) c.bytes-in-Some.ensures))

pub loop-scope-preserved : goal.loop-scope-preserved
loop-scope-preserved c =
    let scopes = c.args.scopes.now in
    let kept = c.args.kept.now in
    let k = c.loop-scope.scope-index in
    let x = c.scope-item.result in
    let t = c.index-tables-at.result in
    let v = c.index-kept-at.result in
    let place = c.loop-scope.invariant.place in
    let long : k < length c.args.tables.now = omega (arith, c.loop-scope-test.true, c.requires.tables) in
    let wide : k < length kept = omega (arith, c.loop-scope-test.true, c.requires.kept) in
    let at : IsAt (map scope_meant scopes) c.args.tables.now (map exprs_meant kept) k (scope_meant x) t (exprs_meant v) = record {
      scope = scope_at_place scopes k x c.loop-scope-test.true c.scope-item.is;
      table = got_read c.args.tables.now k t long (c.index-tables-at.is ∙ ap (λ n. get_or c.args.tables.now n t) place);
      exprs = got_exprs kept k v wide (c.index-kept-at.is ∙ ap (λ n. get_or kept n v) place);
    } in
    let found : Finds (IsClockRead x.text.now (exprs_meant v) t c.args.clock.now) (option_copied c.in_ok-name.field-0) =
    subst (λ es. Finds (IsClockRead x.text.now (map expr_meant es) t c.args.clock.now) (option_copied c.in_ok-name.field-0)) c.deref.ensures.value c.in_ok-name.ensures in
    record {
      place = omega (arith, place);
      none = next_none (map scope_meant scopes) c.args.tables.now (map exprs_meant kept) c.args.clock.now k (scope_meant x) t (exprs_meant v) at c.loop-scope.invariant.none
          (none_found (IsClockRead x.text.now (exprs_meant v) t c.args.clock.now) c.in_ok-name.field-0 found c.in_default.not-Some);
    }

pub returns-clause-ok : goal.returns-clause-ok
returns-clause-ok c =
    let scopes = c.args.scopes.now in
    let done : length (map scope_meant scopes) ≤ c.loop-scope.scope-index = omega (arith, length-map scopes scope_meant, c.loop-scope-test.false) in
    none_reads (map scope_meant scopes) c.args.tables.now (map exprs_meant c.args.kept.now) c.args.clock.now c.loop-scope.scope-index done c.loop-scope.invariant.none
