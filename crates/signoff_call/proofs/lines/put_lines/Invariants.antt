use Rattle.std.proofs.Common.{take, length, ◌-◌, ◌≡◌, ◌≤◌}
use Rattle.std.specs.Io.KnownBytes.{Appends}
use Rattle.signoff_call.proofs.lines.put_lines.Given as goal

abbrev pub invariant-loop-from : goal.invariant-loop-from
invariant-loop-from g l = record {
  within : l.from ≤ length l.bytes;
  out : Appends (g.S.Sink.written l.fn.out) (g.S.Sink.written l.out) (take l.from l.bytes);
  calm : g.S.Sink.faults l.out ≡ g.S.Sink.faults l.fn.out;
}

-- proposed from the loop's first test
abbrev pub decreases-loop-from : goal.decreases-loop-from
decreases-loop-from g l = length l.bytes - l.from
