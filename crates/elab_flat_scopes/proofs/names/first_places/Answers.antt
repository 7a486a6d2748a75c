use Rattle.std.proofs.Common.{arith, sym, ◌∙◌}
use Rattle.std.specs.HashMap.{get_by}
use Rattle.std.specs.Str.{bytes_eq}
use Rattle.elab_flat_scopes.proofs.Finding.{next_new, next_old}
use Rattle.elab_flat_scopes.proofs.names.first_places.Goals.{then-not-contains_key+in_ok-insert, else-not-contains_key}
use Rattle.elab_flat_scopes.proofs.names.first_places.Goals as goal

pub loop-name-preserved : goal.loop-name-preserved
loop-name-preserved c = elim c.if-not-contains_key.branch [
  | then-not-contains_key+in_ok-insert w ↦ record {
    found = λ q. rw w.first-is (next_new c.args.names.now c.loop-name.at c.loop-name.name-index c.name-item.result c.loop-name-test.true c.name-item.is (λ n. get_by (λ k. bytes_eq n k.now) c.loop-name.first) c.bytes-bytes.result.now q.now _
        c.bytes-bytes.ensures (c.loop-name.invariant.found q) (λ n. get_by (λ k. bytes_eq n k.now) w.insert.new.self) (sym c.contains_key.ensures ∙ w.if-not-contains_key.true) (w.in_ok-insert.ensures.updates.0 q));
    same = omega (arith, c.loop-name.invariant.same);
  }
  | else-not-contains_key w ↦ record {
    found = λ q. rw w.first-is (next_old c.args.names.now c.loop-name.at c.loop-name.name-index c.name-item.result c.loop-name-test.true c.name-item.is (λ n. get_by (λ k. bytes_eq n k.now) c.loop-name.first) c.bytes-bytes.result.now q.now _
        c.bytes-bytes.ensures (c.loop-name.invariant.found q) (sym c.contains_key.ensures ∙ w.if-not-contains_key.false));
    same = omega (arith, c.loop-name.invariant.same);
  }
]
