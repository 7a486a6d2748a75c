use Rattle.std.proofs.Common.{◌∷◌, [], arith, refl}
use Rattle.std.proofs.lemmas.List.{length_push, length-map, map_push}
use Rattle.std.proofs.lemmas.Slice.{pushed}
use Rattle.proof_store_records.specs.Layout.{count_bytes, step_bytes, count_limit, CanStand}
use Rattle.proof_store_records.specs.Records.{content, contents}
use Rattle.proof_store_records.proofs.FrontLemmas.{many_more, counted_stuck, counted_all}
use Rattle.proof_store_records.proofs.read.take_steps.Goals as goal

pub returns-in_default-2 : goal.returns-in_default-2
returns-in_default-2 c =
    counted_stuck (CanStand c.args.version) (step_bytes c.args.version) (count_limit c.args.version) (count_bytes c.args.version) c.args.bytes.now c.in-Some.rest.now c.loop.rest.now c.in-Some.count (contents c.loop.steps.items)
    c.in-Some.ensures c.loop.invariant.many (rw c.in_default-2.is at c.in_ok-step.ensures) (omega (arith, length-map c.loop.steps.items content))

pub loop-preserved : goal.loop-preserved
loop-preserved c =
    let step = c.in-Some-2.step in
    let items = pushed (step ∷ []) refl c.in_ok-push.was c.push.ensures.items in
    rw items (record {
      many = rw (map_push content c.loop.steps.items step)
          (many_more (CanStand c.args.version) (step_bytes c.args.version) c.in-Some.rest.now c.loop.rest.now c.in-Some-2.after.now (contents c.loop.steps.items) (content step) c.loop.invariant.many (rw c.in-Some-2.is at c.in_ok-step.ensures));
      length_is = omega (arith, length_push c.loop.steps.items step);
    })

pub returns : goal.returns
returns c =
    counted_all (CanStand c.args.version) (step_bytes c.args.version) (count_limit c.args.version) (count_bytes c.args.version) c.args.bytes.now c.in-Some.rest.now c.loop.rest.now c.in-Some.count (contents c.loop.steps.items)
    c.in-Some.ensures c.loop.invariant.many (omega (arith, length-map c.loop.steps.items content))
