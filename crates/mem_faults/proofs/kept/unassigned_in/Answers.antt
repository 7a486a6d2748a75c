use Rattle.std.proofs.Common.{sym, ◌∙◌}
use Rattle.mem_faults.proofs.Surveying.{left_out, is_memory_here, passed_memory, memory_dropped, memories_passed}
use Rattle.mem_faults.proofs.kept.unassigned_in.Goals as goal

pub returns-then-is_unassigned-clause-some : goal.returns-then-is_unassigned-clause-some
returns-then-is_unassigned-clause-some c =
    let gs = c.args.signals.now in
    let i = c.loop-signal.signal-index in
    let g = c.signal-item.result in
    let test = sym c.is_unassigned.ensures ∙ c.if-is_unassigned.true in (
      memory_dropped gs i g.name (is_memory_here gs i g c.loop-signal-test.true c.signal-item.is c.args.assigned.now test),
      left_out gs i g c.loop-signal-test.true c.signal-item.is c.args.assigned.now test,
    )

pub loop-signal-preserved : goal.loop-signal-preserved
loop-signal-preserved c = λ x h k.
    passed_memory c.args.signals.now c.loop-signal.signal-index c.signal-item.result c.loop-signal-test.true c.signal-item.is c.args.assigned.now x (sym c.is_unassigned.ensures ∙ c.if-is_unassigned.false) k (c.loop-signal.invariant x h k)

pub returns-clause-none : goal.returns-clause-none
returns-clause-none c = λ x h k. memories_passed c.args.signals.now c.loop-signal.signal-index x c.loop-signal-test.false (c.loop-signal.invariant x h k)
