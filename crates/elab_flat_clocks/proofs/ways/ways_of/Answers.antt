use Rattle.std.proofs.Common.{◌≡◌, ◌<◌, ◌++◌, ◌∷◌, [], length, map, vec_len, refl, sym, ap, subst, ◌∙◌, arith, rules}
use Rattle.std.proofs.lemmas.List.{length-map}
use Rattle.std.proofs.lemmas.Option.{slice_get_read}
use Rattle.vlog_tree_runs.specs.Contents.{instances_in}
use Rattle.elab_flat_laws.proofs.Lists.{map_append}
use Rattle.elab_flat_scopes.specs.Borrowed.{inner_meant}
use Rattle.elab_flat_instances.specs.declared.scope.Scope.{Scope as Instance}
use Rattle.elab_flat_instances.specs.Unfolding.{scope_meant}
use Rattle.elab_flat_clocks.specs.Passing.{exprs_meant, kept_into, AreKept}
use Rattle.elab_flat_clocks.specs.Tabled.{AreTablesBelow}
use Rattle.elab_flat_clocks.proofs.Growing.{not_empty, first_known, stands_there, room, stands_below, table_there, next_behind, next_left, next_tables, next_kept, ways_done}
use Rattle.elab_flat_clocks.proofs.ways.ways_of.Goals as goal

pub returns-in-Err-clause-err : goal.returns-in-Err-clause-err
returns-in-Err-clause-err c =
    stands_there c.args.scopes.now 0 c.index-scopes-0.result (not_empty c.args.scopes.now c.requires) c.index-scopes-0.is c.in-Err.fault c.in-Err.ensures.err

pub loop-at-init : goal.loop-at-init
loop-at-init c =
    let items = c.in_ok-push-in-Ok.ensures.items ∙ ap (λ ts. ts ++ c.in-Ok.table ∷ []) c.new-tables.ensures.items in
    record {
      within = omega arith;
      behind = λ ms top u. omega arith;
      left = λ ms top u. c.split_at.ensures.back;
      tables = first_known c.args.scopes.now c.index-scopes-0.result (not_empty c.args.scopes.now c.requires) c.index-scopes-0.is c.push.new.self.items c.in-Ok.table items c.in-Ok.ensures.ok;
      connections = λ ms top u. subst (λ vs. AreKept ms [] (map exprs_meant vs)) (sym c.new-kept.ensures.items) tt;
    }

pub split_at-requires-in-loop-at : goal.split_at-requires-in-loop-at
split_at-requires-in-loop-at c =
    let long : vec_len c.in_ok-instances.instances ≡ length c.in_ok-instances.instances.items = search rules in
    let text : map inner_meant c.in_ok-instances.instances.items ≡ instances_in c.index-scopes-at.result.text.now =
    c.in_ok-instances.ensures ∙ ap (λ (s : Instance). instances_in s.text.now) (sym c.index-scopes-at.is) in
    let m : c.len.result ≡ length (instances_in c.index-scopes-at.result.text.now) = omega (arith, c.len.ensures, long, length-map c.in_ok-instances.instances.items inner_meant, ap length text) in
    room c.args.scopes.now c.loop-at.at c.index-scopes-at.result c.loop-at-test.true c.index-scopes-at.is c.loop-at.rest.now c.loop-at.invariant.behind c.loop-at.invariant.left c.requires c.len.result m

pub returns-in-Err-kept_into-clause-err : goal.returns-in-Err-kept_into-clause-err
returns-in-Err-kept_into-clause-err c =
    stands_below c.args.scopes.now c.loop-at.at c.index-scopes-at.result c.loop-at-test.true c.index-scopes-at.is c.loop-at.rest.now c.loop-at.invariant.behind c.loop-at.invariant.left c.requires c.split_at-in-loop-at.result.0.now c.len.result
    c.split_at-in-loop-at.ensures.front c.in-Err-kept_into.fault c.in-Err-kept_into.ensures.err

pub index-requires : goal.index-requires
index-requires c =
    let long : vec_len c.loop-at.tables ≡ length c.loop-at.tables.items = search rules in
    let there : c.loop-at.at < length c.loop-at.tables.items =
    table_there c.args.scopes.now c.loop-at.at c.index-scopes-at.result c.loop-at-test.true c.index-scopes-at.is c.loop-at.rest.now c.loop-at.invariant.behind c.loop-at.invariant.left c.requires c.loop-at.tables.items c.loop-at.invariant.tables in
    omega (arith, long, there)

pub returns-in-Err-tables_below-clause-err : goal.returns-in-Err-tables_below-clause-err
returns-in-Err-tables_below-clause-err c =
    stands_below c.args.scopes.now c.loop-at.at c.index-scopes-at.result c.loop-at-test.true c.index-scopes-at.is c.loop-at.rest.now c.loop-at.invariant.behind c.loop-at.invariant.left c.requires c.split_at-in-loop-at.result.0.now c.len.result
    c.split_at-in-loop-at.ensures.front c.in-Err-tables_below.fault c.in-Err-tables_below.ensures.err

pub loop-at-preserved : goal.loop-at-preserved
loop-at-preserved c =
    let scopes = c.args.scopes.now in
    let k = c.loop-at.at in
    let x = c.index-scopes-at.result in
    let lt = c.loop-at-test.true in
    let is = c.index-scopes-at.is in
    let rest = c.loop-at.rest.now in
    let behind = c.loop-at.invariant.behind in
    let left = c.loop-at.invariant.left in
    let items = c.in_ok-instances.instances.items in
    let part = c.split_at-in-loop-at.result.0.now in
    let after = c.split_at-in-loop-at.result.1.now in
    let front = c.split_at-in-loop-at.ensures.front in
    let long : vec_len c.in_ok-instances.instances ≡ length items = search rules in
    let text : map inner_meant items ≡ instances_in x.text.now = c.in_ok-instances.ensures ∙ ap (λ (s : Instance). instances_in s.text.now) (sym is) in
    let m : c.len.result ≡ length (instances_in x.text.now) = omega (arith, c.len.ensures, long, length-map items inner_meant, ap length text) in
    let inners : map inner_meant c.deref.result.now ≡ instances_in x.text.now = ap (map inner_meant) c.deref.ensures.value ∙ text in
    let others : map inner_meant c.deref-in-loop-at.result.now ≡ instances_in x.text.now = ap (map inner_meant) c.deref-in-loop-at.ensures.value ∙ text in
    let below : AreTablesBelow c.index.result.now (instances_in x.text.now) (map scope_meant part) c.in-Ok-tables_below.more.items =
    subst (λ is. AreTablesBelow c.index.result.now is (map scope_meant part) c.in-Ok-tables_below.more.items) others c.in-Ok-tables_below.ensures.ok in
    let outer = slice_get_read c.loop-at.tables.items (length c.loop-at.tables.items) k c.index.result.now refl (table_there scopes k x lt is rest behind left c.requires c.loop-at.tables.items c.loop-at.invariant.tables) c.index.ensures in
    let exprs = c.in-Ok-kept_into.ensures.ok ∙ ap (λ is. kept_into is (map scope_meant part)) inners in
    record {
      within = omega (arith, lt);
      behind = next_behind scopes k x lt is rest behind left part c.len.result m front;
      left = next_left scopes k x lt is rest behind left part c.len.result m front after c.split_at-in-loop-at.ensures.back;
      tables = next_tables scopes k x lt is rest behind left part c.len.result m front c.loop-at.tables.items c.index.result.now c.in-Ok-tables_below.more.items c.append.new.self.items c.loop-at.invariant.tables outer below c.in_ok-append.ensures.items;
      connections = next_kept scopes k x lt is rest behind left part c.len.result m front (map exprs_meant c.loop-at.kept.items) (exprs_meant c.in-Ok-kept_into.exprs) (map exprs_meant c.push-in-Ok-kept_into.new.self.items) c.loop-at.invariant.connections exprs
          (ap (map exprs_meant) c.in_ok-push-in-Ok-kept_into.ensures.items ∙ map_append exprs_meant c.loop-at.kept.items (c.in-Ok-kept_into.exprs ∷ []));
    }

pub returns-clause-ok : goal.returns-clause-ok
returns-clause-ok c = ways_done c.args.scopes.now c.loop-at.at c.loop-at-test.false c.loop-at.tables.items (map exprs_meant c.loop-at.kept.items) c.loop-at.invariant.tables c.loop-at.invariant.connections
