use Rattle.std.proofs.Common.{◌≡◌, ◌≤◌, map, true, false, ap, ◌∙◌, sym, arith, is_some}
use Rattle.set_tree.specs.declared.set.Property.{Property}
use Rattle.set_tree.specs.Report.{has_until}
use Rattle.twin_tests.specs.Ordering.{line_of, property_line}
use Rattle.twin_tests.proofs.Listed.{line_more}
use Rattle.twin_tests.proofs.Reported.{until_same, until_step}
use Rattle.twin_tests.proofs.lines.push_untils.Goals as goal
use Rattle.twin_tests.proofs.lines.push_untils.Goals.{then-is_some+in_ok-push, else-is_some}

pub loop-p-preserved : goal.loop-p-preserved
loop-p-preserved c =
    let set = c.args.set.now in
    let p = c.loop-p.p in
    let old = map line_of c.args.lines.now.items in
    let le : 1 ≤ p = omega (arith, c.loop-p.auto.p) in
    let until = ap (λ (y : Property). is_some y.length.until) c.property_of.ensures in
    elim c.if-is_some.branch [
      | then-is_some+in_ok-push w ↦
          let passes : has_until set p ≡ true = sym until ∙ (sym c.is_some.ensures ∙ w.if-is_some.true) in
          ap (λ v. map line_of v.items) w.lines-is ∙ until_step (property_line c.args.kind) (has_until set) old (map line_of c.loop-p.lines.items) (map line_of w.push.new.self.items) p le passes c.loop-p.invariant (line_more line_of c.loop-p.lines.items w.push.new.self.items w.property_line.result _ w.in_ok-push.ensures.items w.property_line.ensures)
      | else-is_some w ↦
          let fails : has_until set p ≡ false = sym until ∙ (sym c.is_some.ensures ∙ w.if-is_some.false) in
          ap (λ v. map line_of v.items) w.lines-is ∙ until_same (property_line c.args.kind) (has_until set) old (map line_of c.loop-p.lines.items) p le fails c.loop-p.invariant
    ]
