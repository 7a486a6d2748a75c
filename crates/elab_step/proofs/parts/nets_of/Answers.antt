use Rattle.std.proofs.Common.{◌<◌, ◌≤◌, ℕ, [], map, length, refl, ap, ◌∙◌, arith}
use Rattle.elab_step_design.specs.declared.design.Net.{Net}
use Rattle.elab_flat_drivers.proofs.Growing.{ended}
use Rattle.elab_step.specs.Parts.{zip3, net_of}
use Rattle.elab_step.proofs.Lists.{zip_at, zip_long, map_next}
use Rattle.elab_step.proofs.parts.nets_of.Goals as goal

pub loop-i-preserved : goal.loop-i-preserved
loop-i-preserved c =
    let fs = c.args.flags.now in
    let as' = c.args.begun.now in
    let bs = c.args.solved.now in
    let i = c.loop-i.i in
    let a = c.leaf-leaf.result.now in
    let b = c.leaf.result.now in
    let lt : i < length fs = omega (arith, c.loop-i-test.true, c.loop-i.auto.i-end) in
    let cut = zip_at fs as' bs i _ _ a b lt (omega (arith, lt, c.requires.begun)) (omega (arith, lt, c.requires.solved)) refl c.leaf-leaf.ensures c.leaf.ensures in
    map_next net_of (zip3 fs as' bs) i c.loop-i.all.items c.push.new.self.items (map net_of (zip3 fs as' bs)) (_, a, b) c.in_ok-net.field-0 cut c.in_ok-push.ensures.items
    (c.in_ok-net.ensures ∙ ap (λ (n : ℕ). let r : Net = record { name = a.name; width = a.width; node = n } in r) c.net_node-node.ensures) c.loop-i.invariant

pub returns : goal.returns
returns c =
    let fs = c.args.flags.now in
    let all = zip3 fs c.args.begun.now c.args.solved.now in
    let long = zip_long fs c.args.begun.now c.args.solved.now in
    let le : length all ≤ c.loop-i.i = omega (arith, long, c.loop-i-test.false, c.loop-i.auto.i-end) in
    ended (map net_of) all c.loop-i.i c.loop-i.all.items [] (map net_of all) refl le c.loop-i.invariant
