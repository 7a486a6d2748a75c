use Rattle.set_tree_structure.proofs.Exact.{sound, none_stands}
use Rattle.set_tree_structure.proofs.sound.faults_are_exact.Goals as goal

pub returns-clause-sound : goal.returns-clause-sound
returns-clause-sound c = sound

pub returns-clause-none : goal.returns-clause-none
returns-clause-none c = none_stands
