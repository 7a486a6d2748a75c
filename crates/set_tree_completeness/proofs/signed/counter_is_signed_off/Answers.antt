use Rattle.std.proofs.Common.{refl}
use Rattle.set_tree_completeness.proofs.signed.counter_is_signed_off.Goals as goal
use Rattle.set_tree_completeness.proofs.CounterRuns.{counter_signed_off}
use Rattle.set_tree_completeness.proofs.CounterSet.{counter_sound}

pub returns-clause-sound : goal.returns-clause-sound
returns-clause-sound c = counter_sound

pub returns-clause-design : goal.returns-clause-design
returns-clause-design c = refl

pub returns-clause-set : goal.returns-clause-set
returns-clause-set c = refl

pub returns-clause-signed_off : goal.returns-clause-signed_off
returns-clause-signed_off c = counter_signed_off
