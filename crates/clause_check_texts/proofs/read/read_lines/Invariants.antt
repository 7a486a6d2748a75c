use Rattle.std.specs.Prelude.{option_map}
use Rattle.clause_check.specs.Looks.{IsBlank}
use Rattle.clause_check_texts.proofs.ReadLemmas.{Reached, left_size}
use Rattle.clause_check_texts.proofs.read.read_lines.Given as goal

abbrev pub invariant-loop-left : goal.invariant-loop-left
invariant-loop-left l = record {
  reached : Reached l.cnf l.text l.number (option_map (λ t. t.now) l.left) l.past.ids.items l.past.steps.items;
  blank : IsBlank l.values;
}

abbrev pub decreases-loop-left : goal.decreases-loop-left
decreases-loop-left l = left_size (option_map (λ t. t.now) l.left)
