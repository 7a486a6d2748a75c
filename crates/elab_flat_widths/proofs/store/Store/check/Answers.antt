use Rattle.std.proofs.Common.{map, inr}
use Rattle.elab_flat_params.specs.Constants.{is_known}
use Rattle.elab_flat_faults.specs.Constants.{stored}
use Rattle.elab_flat_drivers.specs.Parts.{part_meant}
use Rattle.elab_flat_widths.specs.Taken.{Breaks, Fails}
use Rattle.elab_flat_widths.specs.Lefts.{HasSize}
use Rattle.elab_flat_widths.specs.Stores.{SomeBreaksNumbers, BreaksTo}
use Rattle.elab_flat_widths.proofs.Takes.{if_err, fails_map}
use Rattle.elab_flat_widths.proofs.Stores.{fine, of_numbers}
use Rattle.elab_flat_widths.proofs.store.Store.check.Goals as goal

pub returns-in-Err-clause-err : goal.returns-in-Err-clause-err
returns-in-Err-clause-err c =
    let test = is_known c.args.params.now in
    let v = c.args.rest.now in
    let qs = map part_meant c.args.self.now.parts.now in
    let a = c.args.self.now.right.now in
    fails_map (SomeBreaksNumbers c.args.self.now.side test v qs) (BreaksTo c.args.self.now.side test v qs a) (of_numbers c.args.self.now.side test v qs a) c.in-Err.violation c.in-Err.ensures.err

pub total_bits-requires : goal.total_bits-requires
total_bits-requires c = λ q k. fine (is_known c.args.params.now) c.args.rest.now q (c.in-Ok.ensures.ok q k).numbers

pub returns-in-Some-clause-err : goal.returns-in-Some-clause-err
returns-in-Some-clause-err c =
    let test = is_known c.args.params.now in
    let v = c.args.rest.now in
    let qs = map part_meant c.args.self.now.parts.now in
    let a = c.args.self.now.right.now in
    let n = c.in-Some.total in
    let size : HasSize v qs n = rw c.in-Some.is at c.in_ok-bits.ensures.some in
    let breaks = Breaks test v (stored v n a) in
    if_err c.check_stored.result (Fails breaks) (Fails (BreaksTo c.args.self.now.side test v qs a))
    (fails_map breaks (BreaksTo c.args.self.now.side test v qs a) (λ w h. inr (n, record { numbers = c.in-Ok.ensures.ok; size = size }, h))) c.check_stored.ensures.err
