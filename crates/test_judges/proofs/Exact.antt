-- Rows that break a line, and the tests that say so.
use Rattle.std.proofs.Common.{◌≡◌, ℕ, Bool, true, not, List, drop, Option, Some, sym, ap, ◌∙◌, IsTrue}
use Rattle.std.specs.Prelude.{◌↔◌, slice_get}
use Rattle.std.specs.List.{list_all}
use Rattle.set_tree.specs.declared.line.Line.TheVariants.{Base, Step, Operation}
use Rattle.set_tree.specs.declared.set.Rule.{Rule}
use Rattle.set_tree.specs.declared.set.Set.{Set}
use Rattle.set_tree.specs.Formulas.{meaning_of}
use Rattle.set_tree.specs.Lines.{IsWindow}
use Rattle.set_tree.specs.Meaning.{Row, Meaning, holds}
use Rattle.set_tree.specs.Parts.{IsOperation, window_of, assumed, committed}
use Rattle.twin_tests_laws.proofs.Testing.{all_in, all_made, turned, of_turned}
use Rattle.test_judges.specs.Breaking.{AreBreaking, AreSegmentRows}

one_rule : (o : Option Rule) (a b : Rule) → o ≡ Some a → o ≡ Some b → a ≡ b
one_rule o a b first second = cc

module _ (set : Set) where
  abbrev m : Meaning
  m = meaning_of set

  abbrev holds_in : List Row → Rule → Bool
  holds_in rows rule = holds m rule.formula rows

  pub base_exact : (i : ℕ) (rule : Rule) (rows : List Row) (held : Bool) → slice_get set.invariants i ≡ Some rule → IsWindow m set 0 rows → held ≡ holds m rule.formula rows → IsTrue (not held) ↔ AreBreaking m set (Base i) rows
  base_exact i rule rows held there window is = (
    λ t. (rule, there, record { window = window; broken = sym is ∙ turned held t }),
    λ v. of_turned held (is ∙ (ap (holds_in rows) (one_rule _ rule v.0 there v.1) ∙ v.2.broken)),
  )

  pub segment_exact : (end : ℕ) (rows : List Row) (begun : Bool) → IsWindow m set end rows → begun ≡ list_all (holds_in rows) set.invariants → IsTrue begun ↔ AreSegmentRows m set end rows
  segment_exact end rows begun window is = (
    λ t. record { window = window; invariants = λ rule member. all_in (holds_in rows) set.invariants rule (sym is ∙ t) member },
    λ s. is ∙ all_made (holds_in rows) set.invariants s.invariants,
  )

  pub step_exact : (i : ℕ) (rule : Rule) (rows : List Row) (kept : Bool) → slice_get set.invariants i ≡ Some rule → AreSegmentRows m set 1 rows → kept ≡ holds m rule.formula (drop 1 rows) → IsTrue (not kept) ↔ AreBreaking m set (Step i) rows
  step_exact i rule rows kept there segment is = (
    λ t. (rule, there, record { segment = segment; broken = sym is ∙ turned kept t }),
    λ v. of_turned kept (is ∙ (ap (holds_in (drop 1 rows)) (one_rule _ rule v.0 there v.1) ∙ v.2.broken)),
  )

  pub operation_exact : (p : ℕ) (rows : List Row) (commits : Bool) → IsOperation set p → AreSegmentRows m set (window_of set p) rows → assumed m set p rows ≡ true → commits ≡ committed m set p rows → IsTrue (not commits) ↔ AreBreaking m set (Operation p) rows
  operation_exact p rows commits position segment assumes is = (
    λ t. (position, record { segment = segment; assumes = assumes; broken = sym is ∙ turned commits t }),
    λ v. of_turned commits (is ∙ v.1.broken),
  )
