use Rattle.std.proofs.Common.{drop, map}
use Rattle.vlog_tree_runs.specs.Places.{Among}
use Rattle.vlog_tree_runs.specs.Scopes.{Given}
use Rattle.elab_flat_scopes.specs.Borrowed.{given_meant}
use Rattle.elab_flat_names.specs.Rows.{IsBadGiven}
use Rattle.elab_flat_names.proofs.inner.bad_output.Given as goal

abbrev pub invariant-loop-gift : goal.invariant-loop-gift
invariant-loop-gift l = (d : Given) → Among (map given_meant l.given) d → IsBadGiven l.ports l.signals d → Among (map given_meant (drop l.gift-index l.given)) d
