-- Segments of a design, as their runs and their rows.
use Rattle.std.proofs.Common.{ℕ, List}
use Rattle.set_tree.specs.declared.set.Set.{Set}
use Rattle.set_tree.specs.Meaning.{Meaning}
use Rattle.set_tree.specs.Runs.{Design, IsSegment, trace_of}
use Rattle.test_judges.specs.Breaking.{AreSegmentRows}
use Rattle.test_judges.specs.Joins.{IsRunWithoutReset, ViolationsAreBreakingRuns}

module _ {Cycle : Type 0} (d : Design Cycle) (m : Meaning) (set : Set) where
  run_of : (end : ℕ) (cycles : List Cycle) → IsSegment d m set end cycles → IsRunWithoutReset d cycles
  run_of end cycles s = record { run = s.run; inactive = s.inactive }

  rows_of : (end : ℕ) (cycles : List Cycle) → IsSegment d m set end cycles → AreSegmentRows m set end (trace_of d cycles)
  rows_of end cycles s = record { window = s.window; invariants = s.invariants }

  segment_of : (end : ℕ) (cycles : List Cycle) → IsRunWithoutReset d cycles → AreSegmentRows m set end (trace_of d cycles) → IsSegment d m set end cycles
  segment_of end cycles run rows = record { run = run.run; inactive = run.inactive; window = rows.window; invariants = rows.invariants }

  pub violations_break : ViolationsAreBreakingRuns d m set
  violations_break = record {
    base = λ rule resets cycles. (
      λ v. (v.segment.from_reset, record { window = v.segment.window; broken = v.broken }),
      λ b. record { segment = record { from_reset = b.0; window = b.1.window }; broken = b.1.broken },
    );
    step = λ rule cycles. (
      λ v. (run_of _ cycles v.segment, record { segment = rows_of _ cycles v.segment; broken = v.broken }),
      λ b. record { segment = segment_of _ cycles b.0 b.1.segment; broken = b.1.broken },
    );
    reset = λ resets cycles. (
      λ v. (v.segment.from_reset, record { window = v.segment.window; broken = v.broken }),
      λ b. record { segment = record { from_reset = b.0; window = b.1.window }; broken = b.1.broken },
    );
    operation = λ p cycles. (
      λ v. (run_of _ cycles v.segment, record { segment = rows_of _ cycles v.segment; assumes = v.assumes; broken = v.broken }),
      λ b. record { segment = segment_of _ cycles b.0 b.1.segment; assumes = b.1.assumes; broken = b.1.broken },
    );
  }
