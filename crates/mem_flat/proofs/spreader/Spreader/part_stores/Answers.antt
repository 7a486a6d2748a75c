use Rattle.std.proofs.Common.{arith}
use Rattle.mem_flat.proofs.Parting.{part_asked, rest_is, later_is, from_same, stores_next, stores_end}
use Rattle.mem_flat.proofs.spreader.Spreader.part_stores.Goals as goal

pub part_length-requires-clause-ready : goal.part_length-requires-clause-ready
part_length-requires-clause-ready c =
    part_asked c.args.self.now.rest.now c.args.parts.now c.loop-part.part-index c.part-item.result c.loop-part-test.true c.part-item.is c.requires.ready

pub part_length-requires-clause-few : goal.part_length-requires-clause-few
part_length-requires-clause-few c =
    let k = rest_is c.args.self.now.rest.now c.args.parts.now c.loop-part.part-index c.part-item.result c.loop-part-test.true c.part-item.is in
    omega (arith, k, c.loop-part.invariant.from, c.loop-part.invariant.few)

pub overflow_sub-from : goal.overflow_sub-from
overflow_sub-from c =
    let k = rest_is c.args.self.now.rest.now c.args.parts.now c.loop-part.part-index c.part-item.result c.loop-part-test.true c.part-item.is in
    omega (arith, k, c.loop-part.invariant.from, c.loop-part.invariant.few, c.part_length.ensures)

pub bits_store-requires : goal.bits_store-requires
bits_store-requires c = record {
  ready = part_asked c.args.self.now.rest.now c.args.parts.now c.loop-part.part-index c.part-item.result c.loop-part-test.true c.part-item.is c.requires.ready;
}

pub loop-part-preserved : goal.loop-part-preserved
loop-part-preserved c =
    let v = c.args.self.now.rest.now in
    let xs = c.args.parts.now in
    let i = c.loop-part.part-index in
    let x = c.part-item.result in
    let k = rest_is v xs i x c.loop-part-test.true c.part-item.is in
    let same = later_is v xs i x c.loop-part.from _ c.loop-part-test.true c.part-item.is c.loop-part.invariant.from c.part_length.ensures in
    record {
      from = same;
      few = omega (arith, c.loop-part.invariant.few);
      stores =
          stores_next v xs i c.args.width c.args.right.now x _ _ _ _ c.loop-part-test.true c.part-item.is
          (from_same v x.now c.args.right.now c.args.width _ _ _ same c.in_ok-bits_store.ensures) c.in_ok-push.ensures.ok c.loop-part.invariant.stores;
    }

pub returns : goal.returns
returns c =
    stores_end c.args.self.now.rest.now c.args.parts.now c.loop-part.part-index c.args.width c.args.right.now c.loop-part.all _ c.loop-part-test.false c.loop-part.invariant.stores
