use Rattle.std.proofs.Common.{map}
use Rattle.elab_flat_faults.specs.Constants.{alone}
use Rattle.elab_flat_faults.specs.Texts.{numbers_in}
use Rattle.elab_flat_params.specs.Constants.{is_known}
use Rattle.elab_flat_drivers.specs.Parts.{part_meant}
use Rattle.elab_flat_widths.specs.Taken.{SomeBreaks, Fails}
use Rattle.elab_flat_widths.specs.Lefts.{BreaksNumbers}
use Rattle.elab_flat_widths.proofs.Takes.{if_err, fails_map}
use Rattle.elab_flat_widths.proofs.Stores.{of_some}
use Rattle.elab_flat_widths.proofs.left.check_part.Goals as goal

pub returns-clause-err : goal.returns-clause-err
returns-clause-err c =
    let test = is_known c.args.params.now in
    let v = c.args.rest.now in
    let q = part_meant c.args.part in
    let some = SomeBreaks test v (map (alone v) (numbers_in q)) in
    let breaks = BreaksNumbers c.args.side test v q in
    if_err c.check_each.result (Fails some) (Fails breaks) (fails_map some breaks (of_some c.args.side test v q)) c.check_each.ensures.err
