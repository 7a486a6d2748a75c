-- Each line's violation as a test of the values that name a segment, in the order in which its circuit is built.
use Rattle.std.specs.Prelude.{ℕ, zero, suc, ◌+◌, Bool, false, not, ◌&&◌, nat_lt, List, [], ◌∷◌, map, drop, Option, Some, None, slice_get, if◌then◌else◌}
use Rattle.std.specs.List.{find, list_all}
use Rattle.std.specs.Str.{bytes_eq}
use Rattle.set_tree.specs.declared.set.Name.{Name as Declared}
use Rattle.set_tree.specs.declared.set.Rule.{Rule}
use Rattle.set_tree.specs.declared.set.Set.{Set}
use Rattle.set_tree.specs.declared.line.Line.{Line}
use Rattle.set_tree.specs.declared.line.Line.TheVariants.{Base, Step, Reset, Operation, End, Split, SameEnd, Choose, Hand, Determine}
use Rattle.set_tree.specs.Meaning.{Row, Meaning, holds}
use Rattle.set_tree.specs.Parts.{window_of, assumed, committed}
use Rattle.vlog_tree_runs.specs.Places.{Name, Cycle}
use Rattle.word_dag.specs.Nodes.{Naming}
use Rattle.elab_step_design.specs.declared.design.Net.{Net}
use Rattle.elab_step_design.specs.declared.design.Register.{Register}
use Rattle.elab_step_design.specs.Designs.{Parts, word_in}
use Rattle.unroll_binding.specs.Binding.{net_at, same}
use Rattle.twin_tests_laws.specs.Tests.{meets_constraints}
use Rattle.unroll_laws.specs.Segments.{cycle_number}

-- ---- the rows of a segment

-- the level of the reset input where reset is active, and where it isn't
abbrev pub level : Set → Bool → ℕ
level set active = if same active set.high then 1 else 0

-- the number that a node has for values of the registers and inputs
abbrev pub number_in : Parts → Cycle → ℕ → ℕ
number_in d c i = (word_in d c i).value

abbrev pub register_at : List Register → Name → Option Register
register_at rs x = find (λ r. bytes_eq r.name x) rs

-- what a register has after a cycle, and u for any other name
abbrev pub after : Parts → Cycle → ℕ → Option Register → ℕ
after d c u None = u
after d c u (Some r) = number_in d c r.next

-- The values of registers and inputs at a position, where k cycles with reset active stand before cycle 0: at first the free words', then
-- what the cycle before leaves in a register, and a free word's in an input; the reset input has its level.
abbrev pub held : Parts → Set → ℕ → Naming → ℕ → Cycle
held d set k e zero x = if bytes_eq x set.reset then level set (nat_lt zero k) else e x 0 (cycle_number k zero)
held d set k e (suc i) x =
    if bytes_eq x set.reset then level set (nat_lt (suc i) k) else after d (held d set k e i) (e x 0 (cycle_number k (suc i))) (register_at d.registers x)

abbrev pub shown : Parts → Cycle → Option Net → ℕ
shown d c None = 0
shown d c (Some n) = number_in d c n.node

-- the value of a signal for values of the registers and inputs
abbrev pub seen : Parts → Cycle → Cycle
seen d c x = shown d c (net_at d.nets x)

-- the row at a position
abbrev pub row_at : Parts → Set → ℕ → Naming → ℕ → Row
row_at d set k e i = map (λ (n : Declared). seen d (held d set k e i) n.name) set.names

-- n rows from position i on
abbrev pub rows_from : Parts → Set → ℕ → Naming → ℕ → ℕ → List Row
rows_from d set k e i zero = []
rows_from d set k e i (suc n) = row_at d set k e i ∷ rows_from d set k e (suc i) n

-- the rows of cycles 0 to end
abbrev pub segment_rows : Parts → Set → ℕ → Naming → ℕ → List Row
segment_rows d set k e end = rows_from d set k e k (end + 1)

-- ---- tests

abbrev pub meets_invariants : Meaning → Set → List Row → Bool
meets_invariants m set rows = list_all (λ (rule : Rule). holds m rule.formula rows) set.invariants

abbrev pub fails : Meaning → Option Rule → List Row → Bool
fails m None rows = false
fails m (Some rule) rows = not (holds m rule.formula rows)

abbrev pub violates_base : Meaning → Set → ℕ → List Row → Bool
violates_base m set i rows = meets_constraints m set rows && fails m (slice_get set.invariants i) rows

abbrev pub violates_step : Meaning → Set → ℕ → List Row → Bool
violates_step m set i rows = meets_constraints m set rows && meets_invariants m set rows && fails m (slice_get set.invariants i) (drop 1 rows)

abbrev pub violates_reset : Meaning → Set → List Row → Bool
violates_reset m set rows = meets_constraints m set rows && not (committed m set 0 rows)

abbrev pub violates_operation : Meaning → Set → ℕ → List Row → Bool
violates_operation m set p rows = meets_constraints m set rows && meets_invariants m set rows && assumed m set p rows && not (committed m set p rows)

-- whether the segment that the values name violates the line
abbrev pub line_test : Parts → Meaning → Set → Line → Naming → Bool
line_test d m set (Base i) e = violates_base m set i (segment_rows d set set.cycles e 0)
line_test d m set (Step i) e = violates_step m set i (segment_rows d set 0 e 1)
line_test d m set Reset e = violates_reset m set (segment_rows d set set.cycles e (window_of set 0))
line_test d m set (Operation p) e = violates_operation m set p (segment_rows d set 0 e (window_of set p))
line_test d m set (End p) e = false
line_test d m set (Split p) e = false
line_test d m set (SameEnd p) e = false
line_test d m set (Choose p q) e = false
line_test d m set (Hand p q) e = false
line_test d m set (Determine p) e = false
