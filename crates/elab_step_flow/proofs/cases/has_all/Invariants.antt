use Rattle.std.proofs.Common.{◌≡◌, ℕ, ◌<◌, true}
use Rattle.std.specs.Prelude.{nat_eq}
use Rattle.std.specs.HashSet.{contains}
use Rattle.vlog_tree.specs.Value.{extend}
use Rattle.elab_step_flow.proofs.cases.has_all.Given as goal

abbrev pub invariant-loop-number : goal.invariant-loop-number
invariant-loop-number l = (x : ℕ) → x < l.number → contains nat_eq l.values (extend l.signed l.width l.length x) ≡ true
