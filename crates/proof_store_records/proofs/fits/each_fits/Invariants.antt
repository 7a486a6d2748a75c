use Rattle.std.proofs.Common.{ℕ, ◌<◌, get_or}
use Rattle.clause_check.specs.declared.formula.Step.{Step}
use Rattle.proof_store_records.specs.Layout.{FitsStep}
use Rattle.proof_store_records.specs.Records.{content}
use Rattle.proof_store_records.proofs.fits.each_fits.Given as goal

abbrev pub invariant-loop-step : goal.invariant-loop-step
invariant-loop-step l = (k : ℕ) (d : Step) → k < l.step-index → FitsStep l.version (content (get_or l.steps k d))
