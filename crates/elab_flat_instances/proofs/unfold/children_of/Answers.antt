use Rattle.std.proofs.Common.{◌≡◌, ◌++◌, ◌∷◌, [], List, Some, map, sym, ap, subst, ◌∙◌, arith}
use Rattle.vlog_tree_runs.specs.Places.{Name}
use Rattle.vlog_tree_runs.specs.Scopes.{Scope}
use Rattle.elab_flat_laws.proofs.Lists.{map_append}
use Rattle.elab_flat_faults.specs.declared.flattening.FlatFault.TheVariants as f
use Rattle.elab_flat_scopes.specs.Borrowed.{inner_meant}
use Rattle.elab_flat_scopes.specs.Finding.{place_in}
use Rattle.elab_flat_instances.specs.Unfolding.{scope_meant, StandsNear, StandsBelow}
use Rattle.elab_flat_instances.proofs.Children.{refuses_map, first_of, not_first_of, among_here, found_here, twice_here, next_made, below_of}
use Rattle.elab_flat_instances.proofs.unfold.children_of.Goals as goal

pub returns-then-not-is_first-clause-err : goal.returns-then-not-is_first-clause-err
returns-then-not-is_first-clause-err c =
    let ms = c.args.modules.now in
    let s = scope_meant c.args.outer.now in
    let views = c.args.instances.now in
    let k = c.loop-inner.inner-index in
    let v = c.inner-item.result in
    let name = (inner_meant v).name in
    let names = c.args.names.now in
    let first = c.if-not-is_first.true in
    let not_first : place_in names name ≡ Some k → ⊥ =
    not_first_of names c.bytes.result.now name c.loop-inner.at k c.is_first.result c.is_first.ensures c.bytes.ensures c.loop-inner.invariant.place first in
    let is : c.in_ok-name.name ≡ s.prefix ++ name =
    c.in_ok-name.ensures ∙ (ap (λ (p : Name). p ++ c.bytes-then-not-is_first-2.result.now) c.bytes-then-not-is_first.ensures ∙ ap (λ (x : Name). s.prefix ++ x) c.bytes-then-not-is_first-2.ensures) in
    subst (λ (n : Name). StandsBelow ms s (f.Twice n)) (sym is) (twice_here ms s views k v c.loop-inner-test.true c.inner-item.is c.requires.instances names c.requires.names not_first)

pub child_of-requires : goal.child_of-requires
child_of-requires c =
    among_here c.args.modules.now (scope_meant c.args.outer.now) c.args.instances.now c.loop-inner.inner-index c.inner-item.result c.loop-inner-test.true c.inner-item.is c.requires.instances
    c.args.names.now c.requires.names

pub returns-in-Err-clause-err : goal.returns-in-Err-clause-err
returns-in-Err-clause-err c =
    let ms = c.args.modules.now in
    let s = scope_meant c.args.outer.now in
    let views = c.args.instances.now in
    let k = c.loop-inner.inner-index in
    let v = c.inner-item.result in
    let i = inner_meant v in
    let first : place_in c.args.names.now i.name ≡ Some k =
    first_of c.args.names.now c.bytes.result.now i.name c.loop-inner.at k c.is_first.result c.is_first.ensures c.bytes.ensures c.loop-inner.invariant.place c.if-not-is_first.false in
    let found = found_here ms s views k v c.loop-inner-test.true c.inner-item.is c.requires.instances c.args.names.now c.requires.names first in
    refuses_map (StandsNear ms s i) (StandsBelow ms s) (below_of ms s i found) c.in-Err.fault c.in-Err.ensures.err

pub loop-inner-preserved : goal.loop-inner-preserved
loop-inner-preserved c =
    let ms = c.args.modules.now in
    let s = scope_meant c.args.outer.now in
    let views = c.args.instances.now in
    let k = c.loop-inner.inner-index in
    let v = c.inner-item.result in
    let i = inner_meant v in
    let first : place_in c.args.names.now i.name ≡ Some k =
    first_of c.args.names.now c.bytes.result.now i.name c.loop-inner.at k c.is_first.result c.is_first.ensures c.bytes.ensures c.loop-inner.invariant.place c.if-not-is_first.false in
    let ts : List Scope = map scope_meant c.loop-inner.all.items in
    let grown : map scope_meant c.push.new.self.items ≡ ts ++ scope_meant c.in-Ok.child ∷ [] =
    ap (map scope_meant) c.in_ok-push-in-Ok.ensures.items ∙ map_append scope_meant c.loop-inner.all.items (c.in-Ok.child ∷ []) in
    record {
      place = omega (arith, c.loop-inner.invariant.place);
      made = next_made ms s views k v c.loop-inner-test.true c.inner-item.is c.requires.instances c.args.names.now c.requires.names ts (map scope_meant c.push.new.self.items) (scope_meant c.in-Ok.child)
          c.loop-inner.invariant.made first c.in-Ok.ensures.ok grown;
    }
