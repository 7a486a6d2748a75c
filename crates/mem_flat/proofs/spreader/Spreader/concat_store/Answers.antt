use Rattle.std.proofs.Common.{◌≡◌, map, sym, ap, ◌∙◌, subst}
use Rattle.std.proofs.lemmas.Result.{IfOk-at_ok}
use Rattle.elab_flat_faults.specs.Drivers.{parts_of}
use Rattle.mem_faults.specs.Asked.{EachEvaluableLeft}
use Rattle.mem_flat.specs.Borrowed.{left_meant}
use Rattle.mem_flat.proofs.Parting.{parts_asked}
use Rattle.mem_flat.proofs.spreader.Spreader.concat_store.Goals as goal

pub block_store-requires-clause-ready : goal.block_store-requires-clause-ready
block_store-requires-clause-ready c =
    let v = c.args.self.now.rest.now in
    let qs : map left_meant c.deref-then-has_memory_word.result.now ≡ parts_of c.args.left.now =
    ap (map left_meant) c.deref-then-has_memory_word.ensures.value ∙ IfOk-at_ok (λ y. map left_meant y.items ≡ parts_of c.args.left.now) c.in_ok-parts.ensures.first c.parts_of.ensures in
    subst (EachEvaluableLeft v) (sym qs) (parts_asked v c.args.left.now c.requires.ready)
