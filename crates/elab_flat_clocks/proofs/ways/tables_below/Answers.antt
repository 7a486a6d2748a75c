use Rattle.std.proofs.Common.{◌≡◌, ◌+◌, ◌<◌, ◌++◌, ◌∷◌, [], length, map, take, get_or, sym, ap, subst, ◌∙◌, arith}
use Rattle.elab_flat_scopes.specs.Borrowed.{inner_meant}
use Rattle.elab_flat_instances.specs.Unfolding.{scope_meant}
use Rattle.elab_flat_clocks.specs.Tabled.{AreTablesBelow}
use Rattle.elab_flat_clocks.proofs.Clocking.{next_taken}
use Rattle.elab_flat_clocks.proofs.Tabled.{below_more}
use Rattle.elab_flat_clocks.proofs.Growing.{stands_there}
use Rattle.elab_flat_clocks.proofs.ways.tables_below.Goals as goal

pub returns-in-Err-clause-err : goal.returns-in-Err-clause-err
returns-in-Err-clause-err c =
    stands_there c.args.scopes.now c.loop-inner.at c.index-scopes-at.result (omega (arith, c.loop-inner.invariant.place, c.loop-inner-test.true, c.requires)) c.index-scopes-at.is c.in-Err.fault c.in-Err.ensures.err

pub loop-inner-preserved : goal.loop-inner-preserved
loop-inner-preserved c =
    let outer = c.args.outer.now in
    let k = c.loop-inner.inner-index in
    let i = c.inner-item.result in
    let x = c.index-scopes-at.result in
    let place = c.loop-inner.invariant.place in
    let long : k < length c.args.scopes.now = omega (arith, c.loop-inner-test.true, c.requires) in
    let more = below_more outer (map inner_meant (take k c.args.instances.now)) (map scope_meant (take k c.args.scopes.now)) c.loop-inner.all.items (inner_meant i) (scope_meant x) c.in-Ok.table c.loop-inner.invariant.made c.in-Ok.ensures.ok in
    let is : x ≡ get_or c.args.scopes.now k x = c.index-scopes-at.is ∙ ap (λ n. get_or c.args.scopes.now n x) place in
    record {
      place = omega (arith, place);
      made = subst (λ ts. AreTablesBelow outer (map inner_meant (take (k + 1) c.args.instances.now)) (map scope_meant (take (k + 1) c.args.scopes.now)) ts) (sym c.in_ok-push-in-Ok.ensures.items)
          (subst (λ ss. AreTablesBelow outer (map inner_meant (take (k + 1) c.args.instances.now)) ss (c.loop-inner.all.items ++ c.in-Ok.table ∷ [])) (sym (next_taken scope_meant c.args.scopes.now k x long is))
          (subst (λ is. AreTablesBelow outer is (map scope_meant (take k c.args.scopes.now) ++ scope_meant x ∷ []) (c.loop-inner.all.items ++ c.in-Ok.table ∷ [])) (sym (next_taken inner_meant c.args.instances.now k i c.loop-inner-test.true c.inner-item.is)) more));
    }
