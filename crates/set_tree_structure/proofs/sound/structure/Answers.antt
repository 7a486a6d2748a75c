use Rattle.std.proofs.Common.{sym, ◌∙◌, arith}
use Rattle.set_tree_structure.proofs.Exact.{sound, none_stands}
use Rattle.set_tree_structure.proofs.Order.{first_stands, none_stand}
use Rattle.set_tree_structure.proofs.sound.structure.Goals as goal

pub invariant_of-result : goal.invariant_of-result
invariant_of-result c = (sound c.args.set c.requires (none_stand c.args.set c.requires (sym c.first_fault.ensures ∙ c.in-None.is)), c.requires)

pub returns-in-None-clause-sound : goal.returns-in-None-clause-sound
returns-in-None-clause-sound c = sound c.args.set c.requires (none_stand c.args.set c.requires (sym c.first_fault.ensures ∙ c.in-None.is))

pub returns-in-None-clause-none : goal.returns-in-None-clause-none
returns-in-None-clause-none c = none_stand c.args.set c.requires (sym c.first_fault.ensures ∙ c.in-None.is)

pub returns-in-Some-clause-fault : goal.returns-in-Some-clause-fault
returns-in-Some-clause-fault c = first_stands c.args.set c.requires c.in-Some.fault (sym c.first_fault.ensures ∙ c.in-Some.is)

pub returns-in-Some-clause-unsound : goal.returns-in-Some-clause-unsound
returns-in-Some-clause-unsound c s =
    none_stands c.args.set s c.in-Some.fault (first_stands c.args.set c.requires c.in-Some.fault (sym c.first_fault.ensures ∙ c.in-Some.is)).stands

pub first_fault-requires : goal.first_fault-requires
first_fault-requires c = record {
  names = omega (arith, c.requires.bounds.names.1);
  invariants = omega (arith, c.requires.bounds.invariants);
  operations = omega (arith, c.requires.bounds.operations.1);
  successors = c.requires.successors;
}
