-- The goals of what can be met, and which are asked for.
use Rattle.std.specs.Prelude.{◌≡◌, ◌↔◌, ℕ, Bool, List, [], ◌∷◌, Option, Some, None}
use Rattle.std.specs.List.{AllZip, Contains}
use Rattle.std.specs.Str.{bytes_eq}
use Rattle.set_tree.specs.declared.set.Set.{Set}
use Rattle.set_tree.specs.Formulas.{meaning_of}
use Rattle.word_dag.specs.Nodes.{Naming}
use Rattle.twin_tests_laws.specs.Lines.{RootIs1}
use Rattle.elab_step_design.specs.Designs.{Parts}
use Rattle.elab_step_design.specs.Laws.{word_design}
use Rattle.word_dag.specs.Names.{HasOneWordEach}
use Rattle.unroll_binding.specs.Binding.{Pair}
use Rattle.proof_store.specs.declared.goal.Goal.{Goal}
use Rattle.desk_core_goals.specs.declared.fault.LineFault.{LineFault}
use Rattle.desk_core_goals.specs.declared.fault.LineFault.TheVariants as f
use Rattle.meet_lines.specs.declared.line.MeetLine.{MeetLine}
use Rattle.meet_lines.specs.Lines.{IsMet, IsOf, SpeaksOf, meet_lines}
use Rattle.meet_lines.specs.Named.{meet_name}

-- a goal of the line: the line, and an obligation of it, no two free words of which have one name, side and cycle; some values make its root 1 exactly
-- where the line is met
pub record IsGoalOf (d : Parts) (set : Set) (line : MeetLine) (goal : Goal MeetLine) : Type 0 where
  pub line_is : goal.line ≡ line
  pub speaks : SpeaksOf set line
  pub of_line : IsOf d (meaning_of set) set line goal.ob.nodes goal.ob.root
  pub words : HasOneWordEach goal.ob.nodes
  pub decides : IsMet (word_design d set) (meaning_of set) set line ↔ ((e : Naming) × RootIs1 goal.ob.nodes goal.ob.root e)

-- the line of a name
pub record IsLineNamed (set : Set) (name : List ℕ) (line : MeetLine) : Type 0 where
  pub among : Contains (meet_lines set) line
  pub named : meet_name set line ≡ name

-- the lines that are asked for: the one of this name, or all
abbrev pub AreAsked : Option (List ℕ) → Set → List MeetLine → Type 0
AreAsked None set lines = lines ≡ meet_lines set
AreAsked (Some name) set lines = (line : MeetLine) × IsLineNamed set name line × (lines ≡ line ∷ [])

-- goals of the lines that are asked for
pub record Asks (b : Pair) (name : Option (List ℕ)) (goals : List (Goal MeetLine)) : Type 0 where
  pub lines : List MeetLine
  pub asked : AreAsked name b.set lines
  pub each : AllZip (IsGoalOf b.design b.set) lines goals

abbrev pub has_name : Set → List ℕ → MeetLine → Bool
has_name set name line = bytes_eq (meet_name set line) name

-- no line has the name that is asked for
abbrev pub LacksLine : Set → Option (List ℕ) → LineFault → Type 0
LacksLine set asked f.NoLine = (name : List ℕ) × (asked ≡ Some name) × ((line : MeetLine) → IsLineNamed set name line → ⊥)
LacksLine set asked f.Keeper = ⊥
LacksLine set asked f.Memory = Unit {0}

-- no line has the name that is asked for; or the keeper of the proofs of those that are failed, or memory ran out
abbrev pub RefusesLines : Set → Option (List ℕ) → LineFault → Type 0
RefusesLines set asked f.NoLine = LacksLine set asked f.NoLine
RefusesLines set asked f.Keeper = (lines : List MeetLine) × AreAsked asked set lines
RefusesLines set asked f.Memory = Unit {0}
