use Rattle.std.proofs.Common.{◌≡◌, ◌<◌, ◌≤◌, ℕ, length, get_or, map, refl, ap, ◌∙◌, arith}
use Rattle.std.specs.List.{flat_map}
use Rattle.vlog_tree_runs.specs.Scopes.{inner_links}
use Rattle.elab_flat_laws.specs.Flattened.{moved_link}
use Rattle.elab_flat_scopes.specs.Borrowed.{inner_meant}
use Rattle.elab_flat_instances.specs.Unfolding.{scope_meant}
use Rattle.elab_flat.proofs.Linking.{rest_child, next_links}
use Rattle.elab_flat.proofs.Making.{all_made}
use Rattle.elab_flat.proofs.link.add_inners.Goals as goal

pub loop-instance-preserved : goal.loop-instance-preserved
loop-instance-preserved c =
    let s = scope_meant c.args.outer.now in
    let views = c.args.instances.now in
    let inners = c.args.inners.now in
    let k = c.loop-instance.instance-index in
    let v = c.instance-item.result in
    let t = c.index-inners-at.result in
    let within : k < length inners = omega (arith, c.requires, c.loop-instance-test.true) in
    let at : t ≡ get_or inners k t = c.index-inners-at.is ∙ ap (λ (n : ℕ). get_or inners n t) c.loop-instance.invariant.place in
    record {
      place = omega (arith, c.loop-instance.invariant.place);
      rest = λ ms e. rest_child s views inners k v t c.loop-instance-test.true c.instance-item.is within at ms (c.loop-instance.invariant.rest ms e);
      links = λ ms e. next_links s views inners k v t c.loop-instance-test.true c.instance-item.is within at ms (c.loop-instance.invariant.rest ms e) c.loop-instance.all _ c.add_connections.new.all
          (c.loop-instance.invariant.links ms e) c.in_ok-add_connections.ensures;
    }

pub returns : goal.returns
returns c = λ ms e.
    let s = scope_meant c.args.outer.now in
    let le : length c.args.instances.now ≤ c.loop-instance.instance-index = omega arith in
    all_made (λ xs. map moved_link (flat_map (inner_links ms s) (map inner_meant xs))) refl c.args.instances.now c.loop-instance.instance-index le c.loop-instance.all _ (c.loop-instance.invariant.links ms e)
