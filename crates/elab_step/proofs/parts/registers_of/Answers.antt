use Rattle.std.proofs.Common.{◌<◌, ◌≤◌, [], length, refl, arith}
use Rattle.std.specs.List.{flat_map}
use Rattle.elab_flat_drivers.proofs.Growing.{ended}
use Rattle.elab_step.specs.Parts.{zip3, register_of}
use Rattle.elab_step.proofs.Lists.{zip_at, zip_long, flat_next}
use Rattle.elab_step.proofs.parts.registers_of.Goals as goal

pub loop-i-preserved : goal.loop-i-preserved
loop-i-preserved c =
    let fs = c.args.flags.now in
    let as' = c.args.begun.now in
    let bs = c.args.next.now in
    let i = c.loop-i.i in
    let a = c.leaf.result.now in
    let b = c.leaf-in-loop-i.result.now in
    let lt : i < length fs = omega (arith, c.loop-i-test.true, c.loop-i.auto.i-end) in
    let cut = zip_at fs as' bs i _ _ a b lt (omega (arith, lt, c.requires.begun)) (omega (arith, lt, c.requires.next)) refl c.leaf.ensures c.leaf-in-loop-i.ensures in
    flat_next register_of (zip3 fs as' bs) i c.loop-i.all.items c.add_register.new.all.items (flat_map register_of (zip3 fs as' bs)) (_, a, b) cut c.in_ok-add_register.ensures c.loop-i.invariant

pub returns : goal.returns
returns c =
    let fs = c.args.flags.now in
    let all = zip3 fs c.args.begun.now c.args.next.now in
    let long = zip_long fs c.args.begun.now c.args.next.now in
    let le : length all ≤ c.loop-i.i = omega (arith, long, c.loop-i-test.false, c.loop-i.auto.i-end) in
    ended (flat_map register_of) all c.loop-i.i c.loop-i.all.items [] (flat_map register_of all) refl le c.loop-i.invariant
