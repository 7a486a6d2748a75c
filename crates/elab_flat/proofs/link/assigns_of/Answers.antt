use Rattle.std.proofs.Common.{◌≡◌, ◌≤◌, ◌+◌, ◌++◌, ℕ, List, Some, drop, length, map, slice_range, vec_len, refl, sym, ap, subst, ◌∙◌, arith, rules}
use Rattle.std.specs.List.{flat_map}
use Rattle.vlog_tree.specs.declared.item.Assign.{Assign}
use Rattle.vlog_tree_runs.specs.Contents.{Inner, instances_in}
use Rattle.vlog_tree_runs.specs.Scopes.{child, inner_links}
use Rattle.elab_flat_laws.specs.Flattened.{moved_link, flat_assigns}
use Rattle.elab_flat_scopes.specs.Borrowed.{inner_meant}
use Rattle.elab_flat_instances.specs.Unfolding.{scope_meant}
use Rattle.elab_flat.specs.Following.{inner_scopes}
use Rattle.elab_flat.proofs.Linking.{some_scope, behind_first, room, slice_length, these_views, those_views, next_assigns}
use Rattle.elab_flat.proofs.Making.{all_made}
use Rattle.elab_flat.proofs.link.assigns_of.Goals as goal

pub loop-scope-init : goal.loop-scope-init
loop-scope-init c = record {
  within = some_scope c.args.scopes.now c.requires.0 c.requires.1;
  follow = λ ms h. behind_first c.args.scopes.now ms h;
  links = λ ms h. ap (λ (zs : List Assign). zs ++ flat_map (flat_assigns ms) (map scope_meant c.args.scopes.now)) c.new-all.ensures;
}

pub overflow_add-past : goal.overflow_add-past
overflow_add-past c =
    let had = c.loop-scope.invariant in
    let r = room c.args.scopes.now c.loop-scope.scope-index c.loop-scope.next c.scope-item.result c.loop-scope-test.true c.scope-item.is c.requires.0 (had.follow c.requires.0 c.requires.1)
    c.in_ok-instances.instances.items c.in_ok-instances.ensures had.within in
    search (rules, arith)

pub slice_bounds-add_inners-end : goal.slice_bounds-add_inners-end
slice_bounds-add_inners-end c =
    let had = c.loop-scope.invariant in
    let long : vec_len c.in_ok-instances.instances ≡ length c.in_ok-instances.instances.items = search rules in
    let r = room c.args.scopes.now c.loop-scope.scope-index c.loop-scope.next c.scope-item.result c.loop-scope-test.true c.scope-item.is c.requires.0 (had.follow c.requires.0 c.requires.1)
    c.in_ok-instances.instances.items c.in_ok-instances.ensures had.within in
    omega (arith, r, long, c.len.ensures)

pub add_inners-requires : goal.add_inners-requires
add_inners-requires c =
    let had = c.loop-scope.invariant in
    let scopes = c.args.scopes.now in
    let next = c.loop-scope.next in
    let x = c.scope-item.result in
    let views = c.deref.result.now in
    let are : map inner_meant views ≡ instances_in x.text.now = ap (map inner_meant) c.deref.ensures.value ∙ c.in_ok-instances.ensures in
    let long : vec_len c.in_ok-instances.instances ≡ length c.in_ok-instances.instances.items = search rules in
    let count : c.len.result ≡ length views = omega (arith, long, c.len.ensures, ap length c.deref.ensures.value) in
    subst (λ (n : ℕ). length (slice_range scopes next (next + n)) ≡ length views) (sym count)
    (slice_length scopes c.loop-scope.scope-index next x c.loop-scope-test.true c.scope-item.is c.requires.0 (had.follow c.requires.0 c.requires.1) views are had.within)

pub loop-scope-preserved : goal.loop-scope-preserved
loop-scope-preserved c =
    let had = c.loop-scope.invariant in
    let scopes = c.args.scopes.now in
    let k = c.loop-scope.scope-index in
    let next = c.loop-scope.next in
    let x = c.scope-item.result in
    let views = c.deref.result.now in
    let are : map inner_meant views ≡ instances_in x.text.now = ap (map inner_meant) c.deref.ensures.value ∙ c.in_ok-instances.ensures in
    let long : vec_len c.in_ok-instances.instances ≡ length c.in_ok-instances.instances.items = search rules in
    let count : c.len.result ≡ length views = omega (arith, long, c.len.ensures, ap length c.deref.ensures.value) in
    record {
      within = subst (λ (n : ℕ). next + n ≤ length scopes) (sym count)
          (room scopes k next x c.loop-scope-test.true c.scope-item.is c.requires.0 (had.follow c.requires.0 c.requires.1) views are had.within);
      follow = λ ms h. subst (λ (n : ℕ). map Some (map scope_meant (drop (next + n) scopes)) ≡ flat_map (inner_scopes ms) (map scope_meant (drop (k + 1) scopes))) (sym count)
          (those_views scopes k next x c.loop-scope-test.true c.scope-item.is ms (had.follow ms h) views are);
      links = λ ms h. next_assigns scopes k next x c.loop-scope-test.true c.scope-item.is ms (had.follow ms h) c.loop-scope.all _ c.add_own.new.all c.add_inners.new.all (had.links ms h)
          c.in_ok-add_own.ensures
          (c.in_ok-add_inners.ensures ms
          (subst (λ (n : ℕ). map Some (map scope_meant (slice_range scopes next (next + n))) ≡ map (child ms (scope_meant x)) (map inner_meant views)) (sym count)
          (these_views scopes k next x c.loop-scope-test.true c.scope-item.is ms (had.follow ms h) views are))
          ∙ ap (λ (vs : List Inner). c.add_own.new.all ++ map moved_link (flat_map (inner_links ms (scope_meant x)) vs)) are);
    }

pub returns : goal.returns
returns c = λ ms h.
    let le : length c.args.scopes.now ≤ c.loop-scope.scope-index = omega arith in
    all_made (λ xs. flat_map (flat_assigns ms) (map scope_meant xs)) refl c.args.scopes.now c.loop-scope.scope-index le c.loop-scope.all _ (c.loop-scope.invariant.links ms h)
