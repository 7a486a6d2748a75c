-- Atoms that lines share.
use Rattle.std.specs.Prelude.{ℕ, ◌+◌, ◌<◌, ◌≤◌, Bool, List, drop, length, Option, IfSome}
use Rattle.std.specs.List.{All}
use Rattle.set_tree.specs.declared.set.Set.{Set}
use Rattle.set_tree.specs.Formulas.{meaning_of}
use Rattle.set_tree.specs.Meaning.{Row}
use Rattle.set_tree.specs.Parts.{IsPosition, assumed, property_at, window_of}
use Rattle.word_dag.specs.declared.node.Node.{Node}
use Rattle.word_dag.specs.Nodes.{Naming}
use Rattle.twin_tests_laws.specs.Tests.{pairs_to, same_hands, starts}
use Rattle.twin_tests_laws.specs.Windows.{named_rows}
use Rattle.twin_tests.specs.declared.frame.Frames.{Frames}
use Rattle.twin_tests.specs.declared.shared.Made.{Made}
use Rattle.twin_tests.specs.declared.shared.Atom.{Atom}
use Rattle.twin_tests.specs.declared.shared.Predicate.{Predicate}
use Rattle.twin_tests.specs.declared.shared.Predicate.TheVariants.{Pairs, AssumedFirst, AssumedSecond, StartsFirst, StartsSecond, Hands}
use Rattle.twin_tests.specs.Building.{Tests}

-- what is said of property p at row n of two windows
abbrev pub predicate_at : Set → Predicate → ℕ → ℕ → List Row → List Row → Bool
predicate_at set Pairs p n xs ys = pairs_to (meaning_of set) set p n xs ys
predicate_at set AssumedFirst p n xs ys = assumed (meaning_of set) set p (drop n xs)
predicate_at set AssumedSecond p n xs ys = assumed (meaning_of set) set p (drop n ys)
predicate_at set StartsFirst p n xs ys = starts (meaning_of set) set p (drop n xs)
predicate_at set StartsSecond p n xs ys = starts (meaning_of set) set p (drop n ys)
predicate_at set Hands p n xs ys = same_hands (meaning_of set) set p (drop n xs) (drop n ys)

-- and of the windows that the values name
abbrev pub atom_test : Set → Atom → Naming → Bool
atom_test set atom e = predicate_at set atom.predicate atom.property atom.row (named_rows set e 0 atom.end) (named_rows set e 1 atom.end)

-- the rows that are read are there: an end of the property within its window, or the property's window from row n on
abbrev pub Reaches : Set → Predicate → ℕ → ℕ → ℕ → Type 0
Reaches set Pairs p n end = ((property_at set p).length.low ≤ n) × (n ≤ (property_at set p).length.high) × (window_of set p ≤ end)
Reaches set AssumedFirst p n end = n + window_of set p ≤ end
Reaches set AssumedSecond p n end = n + window_of set p ≤ end
Reaches set StartsFirst p n end = n + window_of set p ≤ end
Reaches set StartsSecond p n end = n + window_of set p ≤ end
Reaches set Hands p n end = n + window_of set p ≤ end

-- an atom of a property of the set, within the windows
pub record HasRoom (set : Set) (frames : Frames) (atom : Atom) : Type 0 where
  pub position : IsPosition set atom.property
  pub first : atom.end < length frames.first.rows.items
  pub second : atom.end < length frames.second.rows.items
  pub reaches : Reaches set atom.predicate atom.property atom.row atom.end

-- each atom that was made has the node that tells it
pub record AreMade (set : Set) (nodes : List Node) (made : List (Option Made)) : Type 0 where
  pub each : All (λ (o : Option Made). IfSome o (λ one. Tests nodes one.node (atom_test set one.atom))) made
