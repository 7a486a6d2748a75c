use Rattle.std.proofs.Common.{◌≡◌, ◌++◌, length, take}
use Rattle.std.specs.List.{flat_map}
use Rattle.proof_store_records.specs.Layout.{mark, count_bytes, step_bytes}
use Rattle.proof_store_records.specs.Records.{contents, HasClauses}
use Rattle.proof_store_records.proofs.write.write_version.Given as goal

abbrev pub invariant-loop-step : goal.invariant-loop-step
invariant-loop-step l = record {
  written : l.out.items ≡ (mark l.version ++ count_bytes l.version (length l.steps)) ++ flat_map (step_bytes l.version) (contents (take l.step-index l.steps));
  clauses : HasClauses (take l.step-index l.steps);
}
