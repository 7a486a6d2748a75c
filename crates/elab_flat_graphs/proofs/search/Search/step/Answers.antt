use Rattle.std.proofs.Common.{arith, ◌≡◌, length, ap, ◌∙◌, subst, get_or}
use Rattle.elab_flat_graphs.specs.Graphs.{Among, successors}
use Rattle.elab_flat_graphs.specs.Searching.{searched}
use Rattle.elab_flat_graphs.proofs.Searching.{all_done, item_among}
use Rattle.elab_flat_graphs.proofs.search.Search.step.Goals as goal

pub close-requires-clause-successors : goal.close-requires-clause-successors
close-requires-clause-successors c =
    let s = c.look-count.new.self in
    let e : c.look-count.result ≡ length (successors (searched s) c.args.v) = c.if-count-successors.true ∙ ap length c.successors_of-successors.ensures in
    all_done (searched s) s.marks.items c.args.v c.look-count.result c.look-count.ensures.done e

pub enter-requires-clause-next : goal.enter-requires-clause-next
enter-requires-clause-next c =
    let xs = c.successors_of-successors.result.now in
    let is = c.successors_of-successors.ensures in
    let e = ap length is in
    let b = c.look-count.ensures.within in
    let n = c.if-count-successors.false in
    subst (λ z. Among z (get_or xs c.look-count.result 0)) is (item_among xs c.look-count.result 0 (omega (arith, e, b, n)))
