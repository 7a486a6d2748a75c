-- Two obligations and their clauses.
use Rattle.std.specs.Prelude.{◌≡◌, List, [], ◌∷◌, pos}
use Rattle.cnf_build.specs.Literals.{plus, minus}
use Rattle.word_dag.specs.declared.node.Op.TheVariants.{And}
use Rattle.word_dag.specs.declared.node.Node.{Node}
use Rattle.word_dag.specs.declared.node.Node.TheVariants.{Free, Two, Not}
use Rattle.cnf_build.specs.Lower.{ob_clauses}

-- a and b, two free bits
abbrev pub both_bits : List Node
both_bits = Free (97 ∷ []) 1 0 (pos 0) ∷ Free (98 ∷ []) 1 0 (pos 0) ∷ Two And 1 0 1 ∷ []

-- a and not a
abbrev pub never : List Node
never = Free (97 ∷ []) 1 0 (pos 0) ∷ Not 1 0 ∷ Two And 1 0 1 ∷ []

pub record ExampleClauses : Type 0 where
  pub and_of_two : ob_clauses both_bits 2 ≡ (plus 0 ∷ []) ∷ (minus 3 ∷ plus 1 ∷ []) ∷ (minus 3 ∷ plus 2 ∷ []) ∷ (plus 3 ∷ minus 1 ∷ minus 2 ∷ []) ∷ (plus 3 ∷ []) ∷ []
  pub and_of_not : ob_clauses never 2 ≡ (plus 0 ∷ []) ∷ (minus 2 ∷ plus 1 ∷ []) ∷ (minus 2 ∷ minus 1 ∷ []) ∷ (plus 2 ∷ []) ∷ []
