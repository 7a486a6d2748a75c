use Rattle.std.proofs.Common.{◌≡◌, ◌++◌, List, suc, length, map, ap, ◌∙◌, arith}
use Rattle.set_tree.specs.declared.set.Property.{Property}
use Rattle.set_tree.specs.Report.{numbers_from}
use Rattle.twin_tests.specs.Ordering.{line_of, property_line}
use Rattle.twin_tests.proofs.Listed.{line_more}
use Rattle.twin_tests.proofs.Reported.{all_step}
use Rattle.twin_tests.proofs.lines.push_all.Goals as goal

pub loop-p-preserved : goal.loop-p-preserved
loop-p-preserved c =
    all_step (property_line c.args.kind) (map line_of c.args.lines.now.items) (map line_of c.loop-p.lines.items) (map line_of c.push.new.self.items) c.loop-p.p c.loop-p.invariant (line_more line_of c.loop-p.lines.items c.push.new.self.items c.property_line.result _ c.in_ok-push.ensures.items c.property_line.ensures)

pub returns : goal.returns
returns c =
    let long = ap (λ (ps : List Property). length ps) c.as_slice.ensures in
    let whole : c.loop-p.p ≡ suc (length c.args.set.now.operations) = omega (arith, c.loop-p-test.false, c.loop-p.auto.p-end, long) in
    c.loop-p.invariant ∙ ap (λ k. map line_of c.args.lines.now.items ++ map (property_line c.args.kind) (numbers_from 0 k)) whole
