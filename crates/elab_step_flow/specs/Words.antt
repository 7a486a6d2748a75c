-- The bits of a signal that a part of a left side surely sets (IEEE 1364-2005, section 5.2.1).
use Rattle.std.specs.Prelude.{ℕ, zero, suc, ◌≡◌, ◌≤◌, List, [], ◌∷◌, map, ◌-ℤ◌, ◌+ℤ◌, min, ℤ, pos, Option, Some, None}
use Rattle.std.specs.Int.{bit_at}
use Rattle.vlog_tree.specs.declared.expr.Span.{Span}
use Rattle.vlog_tree.specs.declared.stmt.Lval.{Lval}
use Rattle.vlog_tree.specs.declared.stmt.Lval.TheVariants as l
use Rattle.vlog_tree.specs.Valuation.{IsLength}
use Rattle.vlog_tree.specs.Value.{natural, part_low, part_width}
use Rattle.vlog_tree_runs.specs.declared.flat.Signal.{Signal}
use Rattle.vlog_tree_runs.specs.Places.{Among}
use Rattle.elab_flat_scopes.specs.Finding.{place_in}
use Rattle.elab_flat_drivers.specs.Claims.{known, ones, part_name}
use Rattle.elab_flat_drivers.specs.Spots.{signal_name}
use Rattle.elab_step_flow.specs.declared.words.Shape.{Shape}

-- a 1 for each bit with a declared number from i on, below j, of a signal of w bits from `low` on
abbrev pub run_word : ℕ → ℕ → ℤ → ℤ → ℕ
run_word w low i j = ones (min w (natural (i -ℤ pos low))) (min w (natural (j -ℤ pos low)))

abbrev pub index_word : ℕ → ℕ → Option ℤ → ℕ
index_word w low None = 0
index_word w low (Some i) = run_word w low i (i +ℤ pos 1)

abbrev pub span_word : ℕ → ℕ → Span → Option ℤ → Option ℤ → ℕ
span_word w low span None j = 0
span_word w low span (Some i) None = 0
span_word w low span (Some i) (Some j) = run_word w low (part_low span i j) (part_low span i j +ℤ pos (part_width span i j))

-- a 1 for each bit of a signal
abbrev pub all_ones : Signal → ℕ
all_ones g = ones 0 g.width

-- a 1 for each bit that a part surely sets
abbrev pub set_word : ℕ → ℕ → Lval → ℕ
set_word w low (l.Name x) = ones 0 w
set_word w low (l.Select x a) = index_word w low (known a)
set_word w low (l.Part x span a b) = span_word w low span (known a) (known b)
set_word w low (l.Concat' h row) = 0

abbrev pub AreNarrow : List Signal → Type 0
AreNarrow gs = (g : Signal) → Among gs g → g.width ≤ 64

-- each signal has from 1 to 64 bits
abbrev pub AreWide : List Signal → Type 0
AreWide gs = (g : Signal) → Among gs g → IsLength g.width

-- g is the signal at place i
abbrev pub IsSignalAt : List Signal → ℕ → Signal → Type 0
IsSignalAt [] i x = ⊥
IsSignalAt (g ∷ gs) zero x = g ≡ x
IsSignalAt (g ∷ gs) (suc i) x = IsSignalAt gs i x

-- the length of the signal at place i, and the number of its lowest bit
abbrev pub IsShapeAt : List Signal → ℕ → Shape → Type 0
IsShapeAt gs i shape = (g : Signal) × IsSignalAt gs i g × (g.width ≡ shape.width) × (g.low ≡ shape.low)

-- a part surely sets bit b of the signal at place i
abbrev pub IsSetAt : List Signal → Lval → ℕ → ℕ → Type 0
IsSetAt gs q i b = (g : Signal) × (place_in (map signal_name gs) (part_name q) ≡ Some i) × IsSignalAt gs i g × (bit_at (set_word g.width g.low q) b ≡ 1)

abbrev pub AnySetAt : List Signal → List Lval → ℕ → ℕ → Type 0
AnySetAt gs qs i b = (q : Lval) × Among qs q × IsSetAt gs q i b
