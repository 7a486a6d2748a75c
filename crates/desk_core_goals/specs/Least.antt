-- The least counterexample, where it is asked for.
use Rattle.std.specs.Prelude.{◌≡◌, ◌↔◌, ℕ, Bool, true, false, List, [], ◌∷◌, Option, Some, None, Vec}
use Rattle.std.specs.declared.alloc.Global.{Global}
use Rattle.set_tree.specs.declared.line.Line.{Line}
use Rattle.clause_check.specs.declared.formula.Step.{Step}
use Rattle.word_dag.specs.Nodes.{Parts}
use Rattle.job_pool.specs.Ample.{IsAmple}
use Rattle.job_pool.specs.Shown.{IsShown}
use Rattle.job_pool.specs.declared.evidence.Evidence.{Evidence}
use Rattle.job_pool.specs.declared.evidence.Evidence.TheVariants as e
use Rattle.least_trace.specs.declared.ends.LeastEnd.{LeastEnd}
use Rattle.least_trace.specs.declared.ends.LeastEnd.TheVariants.{Found, Stopped}
use Rattle.least_trace.specs.Least.{IsFoundEnd, IsLeastEnd}
use Rattle.proof_store.specs.declared.goal.Decided.{Decided}
use Rattle.desk_core_reports.specs.declared.book.Book.{Book}
use Rattle.desk_core_reports.specs.declared.book.Line.{Line as Told}
use Rattle.desk_core_commands.specs.declared.which.Which.{Which}
use Rattle.desk_core_commands.specs.declared.which.Which.TheVariants as w

-- the values that a search for the least ones ended with
abbrev pub values_of : LeastEnd → List ℕ
values_of (Found values excluded) = values.items
values_of (Stopped values bit chain) = values.items

-- such a search ended within the budget for each bit, with these values; an ample budget finds the least ones
pub record EndsWith (budget : ℕ) (ob : Parts) (us : List ℕ) (end : LeastEnd) : Type 0 where
  pub is : IsLeastEnd budget ob end
  pub values : values_of end ≡ us
  pub ample : IsAmple budget ob → IsFoundEnd end

-- where values refute the line, they are those of the search; else there was none
abbrev pub IsLeastOf : ℕ → Parts → Evidence → Option LeastEnd → Type 0
IsLeastOf budget ob (e.Derivation steps) o = o ≡ None
IsLeastOf budget ob (e.Values us) None = ⊥
IsLeastOf budget ob (e.Values us) (Some end) = EndsWith budget ob us.items end
IsLeastOf budget ob (e.Chain steps) o = o ≡ None

-- the book has one line, and the least counterexample of it where there is one; or none was asked for
abbrev pub HasLeast : Which → ℕ → Book → Type 0
HasLeast w.Ops budget book = book.least ≡ None
HasLeast w.All budget book = book.least ≡ None
HasLeast (w.One name) budget book = book.least ≡ None
HasLeast (w.Least name) budget book = (told : Told) × (book.lines.items ≡ told ∷ []) × IsLeastOf budget told.ob told.evidence book.least

-- ---- how it is made

-- a goal as it was decided, its values replaced by others
pub record IsReplaced (budget : ℕ) (d other : Decided Line) : Type 0 where
  pub goal : other.goal ≡ d.goal
  pub shown : IsShown budget d.goal.ob other.evidence
  pub derived : (steps : Vec Step Global) → (other.evidence ≡ e.Derivation steps) ↔ (d.evidence ≡ e.Derivation steps)

-- evidence as it was, or with the values of the search in place of its own
abbrev pub IsLessened : ℕ → Parts → Evidence → Evidence → Option LeastEnd → Type 0
IsLessened budget ob (e.Derivation steps) other o = (other ≡ e.Derivation steps) × (o ≡ None)
IsLessened budget ob (e.Values us) (e.Derivation steps) o = ⊥
IsLessened budget ob (e.Values us) (e.Values vs) o = IsLeastOf budget ob (e.Values vs) o
IsLessened budget ob (e.Values us) (e.Chain steps) o = ⊥
IsLessened budget ob (e.Chain steps) other o = (other ≡ e.Chain steps) × (o ≡ None)

abbrev pub asks_least : Which → Bool
asks_least w.Ops = false
asks_least w.All = false
asks_least (w.One name) = false
asks_least (w.Least name) = true

-- of a single goal whose least counterexample is asked for
abbrev pub Lessens : Which → ℕ → List (Decided Line) → Option LeastEnd → Type 0
Lessens w.Ops budget ds o = o ≡ None
Lessens w.All budget ds o = o ≡ None
Lessens (w.One name) budget ds o = o ≡ None
Lessens (w.Least name) budget ds o = (d : Decided Line) → ds ≡ d ∷ [] → IsLeastOf budget d.goal.ob d.evidence o
