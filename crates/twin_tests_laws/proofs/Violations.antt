-- Windows that violate a line are named by some values.
use Rattle.std.proofs.Common.{ℕ, List, refl, sym, subst}
use Rattle.set_tree.specs.declared.set.Set.{Set}
use Rattle.set_tree.specs.declared.line.Line.{Line}
use Rattle.set_tree.specs.declared.line.Line.TheVariants.{Base, Step, Reset, Operation, End, Split, SameEnd, Choose, Hand, Determine}
use Rattle.set_tree.specs.Meaning.{Row, Meaning}
use Rattle.set_tree.specs.Parts.{window_of}
use Rattle.set_tree.specs.Lines.{IsWindow, IsPair, ViolatesEnd, ViolatesSplit, ViolatesSameEnd, ViolatesChoose, ViolatesHand, ViolatesDetermine}
use Rattle.word_dag.specs.Nodes.{Naming}
use Rattle.twin_tests_laws.specs.Windows.{named_rows, HasDistinctNames}
use Rattle.twin_tests_laws.specs.Lines.{Violates, split_end, edge_end}
use Rattle.set_tree.specs.Report.{IsViolated}
use Rattle.twin_tests_laws.specs.Laws.{IsSetLine, no_design, ViolationsHaveValues, ValuesAreViolations}
use Rattle.twin_tests_laws.proofs.Naming.{windows_have_values}

module _ (m : Meaning) (set : Set) (distinct : HasDistinctNames set) where
  one : (end : ℕ) (P : List Row → Type 0) (rows : List Row) → IsWindow m set end rows → P rows → (e : Naming) × P (named_rows set e 0 end)
  one end P rows window holds =
      let found = windows_have_values set distinct end rows rows window.size window.constrained.trace window.constrained.trace refl in
      (found.0, subst P (sym found.1) holds)

  two : (p end : ℕ) (P : List Row → List Row → Type 0) (xs ys : List Row) → IsPair m set p end xs ys → P xs ys → (e : Naming) × P (named_rows set e 0 end) (named_rows set e 1 end)
  two p end P xs ys pair holds =
      let found = windows_have_values set distinct end xs ys pair.first.size pair.first.constrained.trace pair.second.constrained.trace pair.inputs in
      (found.0, subst (λ (zs : List Row). P zs (named_rows set found.0 1 end)) (sym found.1) (subst (λ (zs : List Row). P xs zs) (sym found.2) holds))

  have_values : (line : Line) → IsSetLine line → IsViolated no_design m set line → (e : Naming) × Violates m set line e
  have_values (Base i) is v = absurd is
  have_values (Step i) is v = absurd is
  have_values Reset is v = absurd is
  have_values (Operation p) is v = absurd is
  have_values (End p) is v = one (window_of set p) (ViolatesEnd m set p) v.0 v.1.window v.1
  have_values (Split p) is v = let there = one (split_end set p v.0) (ViolatesSplit m set p v.0) v.1 v.2.window v.2 in (there.0, (v.0, there.1))
  have_values (SameEnd p) is v = two p (window_of set p) (ViolatesSameEnd m set p) v.0 v.1 v.2.pair v.2
  have_values (Choose p q) is v = let there = two p (edge_end set p q v.0) (ViolatesChoose m set p q v.0) v.1 v.2 v.3.pair.pair v.3 in (there.0, (v.0, there.1))
  have_values (Hand p q) is v = let there = two p (edge_end set p q v.0) (ViolatesHand m set p q v.0) v.1 v.2 v.3.pair.pair v.3 in (there.0, (v.0, there.1))
  have_values (Determine p) is v = let there = two p (window_of set p) (ViolatesDetermine m set p v.0 v.1 v.2) v.3 v.4 v.5.pair.pair v.5 in (there.0, (v.0, v.1, v.2, there.1))

pub violations_have_values : (m : Meaning) (set : Set) → HasDistinctNames set → ViolationsHaveValues m set
violations_have_values m set distinct line is v = have_values m set distinct line is v

pub values_are_violations : (m : Meaning) (set : Set) → ValuesAreViolations m set
values_are_violations m set (Base i) is e v = absurd is
values_are_violations m set (Step i) is e v = absurd is
values_are_violations m set Reset is e v = absurd is
values_are_violations m set (Operation p) is e v = absurd is
values_are_violations m set (End p) is e v = (_, v)
values_are_violations m set (Split p) is e v = (v.0, _, v.1)
values_are_violations m set (SameEnd p) is e v = (_, _, v)
values_are_violations m set (Choose p q) is e v = (v.0, _, _, v.1)
values_are_violations m set (Hand p q) is e v = (v.0, _, _, v.1)
values_are_violations m set (Determine p) is e v = (v.0, v.1, v.2, _, _, v.3)
