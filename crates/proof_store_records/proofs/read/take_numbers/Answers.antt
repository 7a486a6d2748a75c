use Rattle.std.proofs.Common.{◌<◌, ◌^◌, ◌∷◌, [], arith, refl}
use Rattle.std.proofs.lemmas.List.{length_push}
use Rattle.std.proofs.lemmas.Slice.{pushed}
use Rattle.proof_store_records.specs.Layout.{count_bytes, number_bytes, count_limit}
use Rattle.proof_store_records.proofs.FrontLemmas.{many_none, many_more, counted_stuck, counted_all}
use Rattle.proof_store_records.proofs.read.take_numbers.Goals as goal

pub loop-init : goal.loop-init
loop-init c = rw c.new-numbers.ensures.items (record { many = many_none (λ n. n < 2 ^ 64) (number_bytes c.args.version) c.in-Some.rest.now; length_is = refl })

pub returns-in_default-take_number : goal.returns-in_default-take_number
returns-in_default-take_number c =
    counted_stuck (λ n. n < 2 ^ 64) (number_bytes c.args.version) (count_limit c.args.version) (count_bytes c.args.version) c.args.bytes.now c.in-Some.rest.now c.loop.rest.now c.in-Some.count c.loop.numbers.items
    c.in-Some.ensures c.loop.invariant.many c.in_default-take_number.ensures (omega arith)

pub loop-preserved : goal.loop-preserved
loop-preserved c =
    let number = c.in-Some-take_number.number in
    let items = pushed (number ∷ []) refl c.in_ok-push.was c.push.ensures.items in
    rw items (record {
      many = many_more (λ n. n < 2 ^ 64) (number_bytes c.args.version) c.in-Some.rest.now c.loop.rest.now c.in-Some-take_number.after.now c.loop.numbers.items number c.loop.invariant.many c.in-Some-take_number.ensures;
      length_is = omega (arith, length_push c.loop.numbers.items number);
    })

pub returns : goal.returns
returns c =
    counted_all (λ n. n < 2 ^ 64) (number_bytes c.args.version) (count_limit c.args.version) (count_bytes c.args.version) c.args.bytes.now c.in-Some.rest.now c.loop.rest.now c.in-Some.count c.loop.numbers.items
    c.in-Some.ensures c.loop.invariant.many (omega arith)
