use Rattle.std.proofs.Common.{◌≡◌, ◌∙◌, ◌*◌, ◌%◌, ◌^◌, ◌<◌, ap, subst, arith, get_or, length, false, List}
use Rattle.std.proofs.lemmas.Nat.{one_shl}
use Rattle.clause_check.specs.declared.literal.Lit.{Lit}
use Rattle.cnf_build.specs.declared.gates.Gate.TheVariants.{Mux}
use Rattle.cnf_build.specs.Circuits.{zip_gates, row, shifter}
use Rattle.cnf_build.specs.Building.{Makes, moved_by}
use Rattle.cnf_build.proofs.Loops.{drop_step, shift_step}
use Rattle.cnf_build.proofs.circuits.shift.Goals as goal

pub loop-i-preserved : goal.loop-i-preserved
loop-i-preserved c =
    let i = c.loop-i.i in
    let lits = c.loop-i.lits.items in
    let gates = c.loop-i.gates.items in
    let move = moved_by c.args.direction in
    let none : Lit = record { var = 0; negative = false } in
    let y = get_or c.args.b.now i none in
    let lt : i < length c.args.b.now = omega arith in
    let weight : 1 * 2 ^ i % 2 ^ 64 ≡ 2 ^ i = one_shl i 64 (omega arith) in
    let far : c.deref-in-loop-i.result.now ≡ move (2 ^ i) lits = c.deref-in-loop-i.ensures.value ∙ c.in_ok-far.ensures ∙ ap (λ k. move k c.deref.result.now) weight ∙ ap (move (2 ^ i)) c.deref.ensures.value in
    let stage = λ (ms ls : List Lit). Makes gates c.gate_row.new.gates.items c.in_ok-lits-2.lits.items (row (length gates) (zip_gates (Mux y) ms ls)) in
    let made : stage (move (2 ^ i) lits) lits = subst (λ k. stage k lits) far (subst (λ k. stage c.deref-in-loop-i.result.now k) c.deref-in-loop-i-2.ensures.value c.in_ok-lits-2.ensures) in
    shift_step c.args.gates.now.items gates move lits (shifter (length c.args.gates.now.items) move 1 c.args.a.now c.args.b.now) c.args.b.now i y c.gate_row.new.gates.items c.in_ok-lits-2.lits.items (drop_step c.args.b.now i none lt) made c.loop-i.invariant
