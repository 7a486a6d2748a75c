use Rattle.std.proofs.Common.{◌≡◌, map}
use Rattle.elab_flat_instances.specs.Unfolding.{scope_meant}
use Rattle.elab_flat_clocks.specs.Passing.{exprs_meant}
use Rattle.elab_flat_clocks.proofs.Reading.{NoneBefore}
use Rattle.elab_flat_clocks.proofs.reads.check_reads.Given as goal

abbrev pub invariant-loop-scope : goal.invariant-loop-scope
invariant-loop-scope l = record {
  place : l.at ≡ l.scope-index;
  none : NoneBefore (map scope_meant l.scopes) l.tables (map exprs_meant l.kept) l.clock l.scope-index;
}
