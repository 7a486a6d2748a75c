-- The names of lines.
use Rattle.std.specs.Prelude.{ℕ, zero, suc, List, [], ◌∷◌, ◌++◌, codes, Option, Some, None, slice_get}
use Rattle.set_tree.specs.declared.set.Rule.{Rule}
use Rattle.set_tree.specs.declared.set.Set.{Set}
use Rattle.set_tree.specs.declared.line.Line.{Line}
use Rattle.set_tree.specs.declared.line.Line.TheVariants.{Base, Step, Reset, Operation, End, Split, SameEnd, Choose, Hand, Determine}
use Rattle.set_tree.specs.Parts.{property_at}

-- the name of the property at a position: that of the reset property is `reset`
abbrev pub property_name : Set → ℕ → List ℕ
property_name set zero = codes "reset"
property_name set (suc i) = (property_at set (suc i)).name

abbrev pub name_of_rule : Option Rule → List ℕ
name_of_rule None = []
name_of_rule (Some rule) = rule.name

-- the name of the invariant at a position
abbrev pub invariant_name : Set → ℕ → List ℕ
invariant_name set i = name_of_rule (slice_get set.invariants i)

-- a line's name: its kind, and what it speaks of
abbrev pub line_name : Set → Line → List ℕ
line_name set (Base i) = codes "base " ++ invariant_name set i
line_name set (Step i) = codes "step " ++ invariant_name set i
line_name set Reset = codes "reset"
line_name set (Operation p) = codes "op " ++ property_name set p
line_name set (End p) = codes "end " ++ property_name set p
line_name set (Split p) = codes "split " ++ property_name set p
line_name set (SameEnd p) = codes "same-end " ++ property_name set p
line_name set (Choose p q) = codes "choose " ++ (property_name set p ++ 32 ∷ property_name set q)
line_name set (Hand p q) = codes "hand " ++ (property_name set p ++ 32 ∷ property_name set q)
line_name set (Determine p) = codes "determine " ++ property_name set p
