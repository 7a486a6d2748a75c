use Rattle.std.proofs.Common.{◌∙◌, ◌-◌, ◌≡◌, ap, arith, length, take}
use Rattle.word_dag.proofs.Walking.{is_top}
use Rattle.elab_step_copies.proofs.Paths.{pop_less, walk_pop}
use Rattle.elab_step_copies.proofs.copier.Copier.walk.Goals as goal

pub loop-top-smaller : goal.loop-top-smaller
loop-top-smaller c =
    let t = is_top c.loop-top.stack.items c.deref.result.now c.in-Some.field-0.now c.deref.ensures.value c.in-Some.ensures.item.3.0 c.in-Some.ensures.item.3.1 in
    let count : c.loop-top.stack.len - 1 ≡ length c.loop-top.stack.items - 1 = omega (arith, c.loop-top.stack.ok) in
    let rest = c.pop.ensures.rest ∙ ap (λ k. take k c.loop-top.stack.items) count in
    pop_less c.args.leaves.now c.args.self.now c.args.dag.now c.args.root c.loop-top.self c.loop-top.dag c.loop-top.stack.items c.in-Some.field-0.now c.loop-top.invariant t.0 t.1 c.make.new.self c.make.new.dag c.pop.new.self.items c.in_ok-make-in-None.ensures.keeps c.in_ok-make-in-None.ensures.one rest

pub loop-top-preserved : goal.loop-top-preserved
loop-top-preserved c =
    let t = is_top c.loop-top.stack.items c.deref.result.now c.in-Some.field-0.now c.deref.ensures.value c.in-Some.ensures.item.3.0 c.in-Some.ensures.item.3.1 in
    let count : c.loop-top.stack.len - 1 ≡ length c.loop-top.stack.items - 1 = omega (arith, c.loop-top.stack.ok) in
    let rest = c.pop.ensures.rest ∙ ap (λ k. take k c.loop-top.stack.items) count in
    walk_pop c.args.leaves.now c.args.self.now c.args.dag.now c.args.root c.loop-top.self c.loop-top.dag c.loop-top.stack.items c.in-Some.field-0.now c.loop-top.invariant t.0 t.1 c.make.new.self c.make.new.dag c.pop.new.self.items c.in_ok-make-in-None.ensures.keeps c.in_ok-make-in-None.ensures.one rest
