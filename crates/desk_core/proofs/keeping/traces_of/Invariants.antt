use Rattle.std.proofs.Common.{◌≡◌, ◌+◌, take}
use Rattle.desk_core.specs.Blocks.{traces_from}
use Rattle.desk_core.proofs.keeping.traces_of.Given as goal

-- the traces so far
abbrev pub invariant-loop-line : goal.invariant-loop-line
invariant-loop-line l = record {
  number : l.number ≡ l.line-index + 1;
  traces : l.traces.items ≡ traces_from 1 (take l.line-index l.lines);
}
