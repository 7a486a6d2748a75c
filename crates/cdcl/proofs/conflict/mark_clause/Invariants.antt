use Rattle.std.proofs.Common.{◌≡◌, ◌≤◌, ◌+◌, take}
use Rattle.cdcl.specs.Marking.{Marks, open_count}
use Rattle.cdcl.proofs.conflict.mark_clause.Given as goal

abbrev pub invariant-loop-lit : goal.invariant-loop-lit
invariant-loop-lit l = record {
  marks : Marks l.trail.entries (take l.lit-index l.clause) l.initial.seen l.seen;
  counted : open_count l.start l.seen ≡ open_count l.start l.initial.seen + l.count;
  small : l.count ≤ l.lit-index;
}
