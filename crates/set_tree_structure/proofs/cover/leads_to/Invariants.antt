use Rattle.std.proofs.Common.{◌≡◌, drop}
use Rattle.std.specs.Prelude.{nat_eq}
use Rattle.std.specs.List.{list_any}
use Rattle.set_tree_structure.proofs.cover.leads_to.Given as goal

abbrev pub invariant-loop-next : goal.invariant-loop-next
invariant-loop-next l = list_any (λ x. nat_eq x l.successor) (drop l.next-index l.next-items) ≡ list_any (λ x. nat_eq x l.successor) l.property.next
