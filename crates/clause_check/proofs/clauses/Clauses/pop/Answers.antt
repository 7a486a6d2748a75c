use Rattle.std.proofs.Common.{◌-◌, List, take, length, ap, ◌∙◌}
use Rattle.clause_check.specs.declared.literal.Lit.{Lit}
use Rattle.clause_check.proofs.PartLemmas.{popped_parts}
use Rattle.clause_check.proofs.clauses.Clauses.pop.Goals as goal

pub invariant_of-self : goal.invariant_of-self
invariant_of-self c = (popped_parts c.self.inside.lits.items c.drop_part.new.lits.items c.self.inside.bounds.items c.drop_part.new.bounds.items c.self.invariant c.drop_part.ensures).cut

pub returns : goal.returns
returns c =
    (popped_parts c.self.inside.lits.items c.drop_part.new.lits.items c.self.inside.bounds.items c.drop_part.new.bounds.items c.self.invariant c.drop_part.ensures).but_last
    ∙ ap (λ (cs : List (List Lit)). take (length cs - 1) cs) c.self.view_is
