use Rattle.std.proofs.Common.{◌≡◌, ◌∙◌, ◌<◌, ap, subst, arith, get_or, length, false, List}
use Rattle.std.specs.Prelude.{replicate}
use Rattle.clause_check.specs.declared.literal.Lit.{Lit}
use Rattle.cnf_build.specs.Circuits.{product_from, moved_up, false_lit}
use Rattle.cnf_build.specs.Building.{Makes, part_made}
use Rattle.cnf_build.proofs.Loops.{drop_step, product_step}
use Rattle.cnf_build.proofs.circuits.multiply.Goals as goal

pub loop-i-preserved : goal.loop-i-preserved
loop-i-preserved c =
    let i = c.loop-i.i in
    let sum = c.loop-i.sum.items in
    let up = c.loop-i.up.items in
    let gates = c.loop-i.gates.items in
    let none : Lit = record { var = 0; negative = false } in
    let y = get_or c.args.b.now i none in
    let lt : i < length c.args.b.now = omega arith in
    let part = λ (ss us : List Lit). Makes gates c.add_part.new.gates.items c.in_ok-sum-2.sum.items (part_made (length gates) ss us y) in
    let made : part sum up = subst (λ k. part k up) c.deref.ensures.value (subst (λ k. part c.deref.result.now k) c.deref-in-loop-i.ensures.value c.in_ok-sum-2.ensures) in
    let next : c.in_ok-up-2.up.items ≡ moved_up 1 up = c.in_ok-up-2.ensures ∙ ap (moved_up 1) c.deref-in-loop-i-2.ensures.value in
    product_step c.args.gates.now.items gates sum up (product_from (length c.args.gates.now.items) (replicate (length c.args.a.now) false_lit) c.args.a.now c.args.b.now) c.args.b.now i y c.add_part.new.gates.items c.in_ok-sum-2.sum.items c.in_ok-up-2.up.items (drop_step c.args.b.now i none lt) made next c.loop-i.invariant
