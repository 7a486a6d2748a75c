use Rattle.std.proofs.Common.{◌<◌, ◌≤◌, length, arith}
use Rattle.mem_flat.proofs.Parting.{part_asked, rest_is, none_left}
use Rattle.mem_flat.proofs.spreader.Spreader.lefts_length.Goals as goal

pub part_length-total-requires-clause-ready : goal.part_length-total-requires-clause-ready
part_length-total-requires-clause-ready c =
    let lt : c.loop-part.part-index < length c.args.parts.now = omega (arith, c.loop-part-test.true) in
    part_asked c.args.self.now.rest.now c.args.parts.now c.loop-part.part-index c.part-item.result lt c.part-item.is c.requires.ready

pub part_length-total-requires-clause-few : goal.part_length-total-requires-clause-few
part_length-total-requires-clause-few c =
    let lt : c.loop-part.part-index < length c.args.parts.now = omega (arith, c.loop-part-test.true) in
    omega (arith, rest_is c.args.self.now.rest.now c.args.parts.now c.loop-part.part-index c.part-item.result lt c.part-item.is, c.loop-part.invariant, c.requires.few)

pub overflow_add-total : goal.overflow_add-total
overflow_add-total c =
    let lt : c.loop-part.part-index < length c.args.parts.now = omega (arith, c.loop-part-test.true) in
    omega (arith, rest_is c.args.self.now.rest.now c.args.parts.now c.loop-part.part-index c.part-item.result lt c.part-item.is, c.loop-part.invariant, c.requires.few, c.part_length-total.ensures)

pub loop-part-preserved : goal.loop-part-preserved
loop-part-preserved c =
    let lt : c.loop-part.part-index < length c.args.parts.now = omega (arith, c.loop-part-test.true) in
    omega (arith, rest_is c.args.self.now.rest.now c.args.parts.now c.loop-part.part-index c.part-item.result lt c.part-item.is, c.loop-part.invariant, c.part_length-total.ensures)

pub returns : goal.returns
returns c =
    let le : length c.args.parts.now ≤ c.loop-part.part-index = omega (arith, c.loop-part-test.false) in
    omega (arith, none_left c.args.self.now.rest.now c.args.parts.now c.loop-part.part-index le, c.loop-part.invariant)
