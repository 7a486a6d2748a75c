use Rattle.std.proofs.Common.{refl, map}
use Rattle.vlog_tree.specs.declared.stmt.Lval.{Lval}
use Rattle.vlog_tree_runs.specs.Places.{Among}
use Rattle.elab_flat_params.specs.Constants.{is_known}
use Rattle.elab_flat_drivers.specs.Parts.{part_meant}
use Rattle.elab_flat_drivers.proofs.Naming.{meant_at}
use Rattle.elab_flat_widths.specs.declared.violation.Violation.{Violation}
use Rattle.elab_flat_widths.specs.Lefts.{BreaksNumbers}
use Rattle.elab_flat_widths.proofs.Takes.{fails_map}
use Rattle.elab_flat_widths.proofs.left.check_numbers.Goals as goal

pub returns-in-Err-clause-err : goal.returns-in-Err-clause-err
returns-in-Err-clause-err c =
    let test = is_known c.args.params.now in
    let q = part_meant c.part-item.result in
    fails_map (BreaksNumbers c.args.side test c.args.rest.now q) (λ (w : Violation). (x : Lval) × Among (map part_meant c.args.parts.now) x × BreaksNumbers c.args.side test c.args.rest.now x w)
    (λ w h. (q, meant_at part_meant c.args.parts.now c.args.parts.now _ c.loop-part.part-index c.part-item.result c.loop-part-test.true c.part-item.is refl refl, h)) c.in-Err.violation c.in-Err.ensures.err
