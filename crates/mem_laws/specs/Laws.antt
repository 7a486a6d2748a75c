-- The laws of memories.
use Rattle.std.specs.Prelude.{ℕ, ◌≡◌, ◌<◌, ◌≤◌, ◌↔◌, Bool, true, false, List, [], ◌∷◌, Some, map}
use Rattle.std.specs.List.{flat_map}
use Rattle.vlog_tree.specs.declared.expr.Expr.{Expr}
use Rattle.vlog_tree.specs.declared.expr.Name.{Name as Read}
use Rattle.vlog_tree.specs.declared.item.Assign.{Assign}
use Rattle.vlog_tree.specs.declared.stmt.Lval.{Lval, Row_of-Lval, end_of-Lval, more_of-Lval}
use Rattle.vlog_tree.specs.declared.stmt.Lval.TheVariants as l
use Rattle.vlog_tree.specs.declared.stmt.Stmt.{Stmt, Row_of-Stmt, end_of-Stmt, more_of-Stmt, Row_of-CaseItem, end_of-CaseItem, more_of-CaseItem}
use Rattle.vlog_tree.specs.declared.stmt.Stmt.TheVariants as s
use Rattle.vlog_tree.specs.declared.valuation.Entry.{Entry}
use Rattle.vlog_tree.specs.Valuation.{IsLength, meaning_of, named, depth_of, word_name}
use Rattle.vlog_tree.specs.Value.{operand_of, IsFormed, NamesOnly, HasConstantParts}
use Rattle.vlog_tree_runs.specs.declared.flat.Flat.{Flat}
use Rattle.vlog_tree_runs.specs.declared.flat.Signal.{Signal}
use Rattle.vlog_tree_runs.specs.declared.flat.TopPort.{TopPort}
use Rattle.vlog_tree_runs.specs.Places.{Name, Cycle, Among, Place, read, holders, valuation}
use Rattle.vlog_tree_runs.specs.Blocks.{run, exprs_in, left_names}
use Rattle.vlog_tree_runs.specs.Cycles.{flat_place, IsCycle, Follows, IsRun}
use Rattle.elab_flat_faults.specs.Constants.{at_rest, HasConstantSpans}
use Rattle.elab_flat_faults.specs.Declaring.{Repeats}
use Rattle.elab_flat_faults.specs.Texts.{numbers_in}
use Rattle.elab_flat_faults.specs.Drivers.{parts_of}
use Rattle.mem_laws.specs.Spread.{spread, spread_stmt, spread_flat, lefts_length}
use Rattle.mem_laws.specs.Stands.{IsFaultless}
use Rattle.mem_laws.specs.Uses.{whole_in, lefts_of}

-- ---- expressions

-- the names of `v` stand in `w` for what they stand for in `v`, but for memories, whose words stand there; `r` tells lengths and memories
pub record Spreads (r v w : List Entry) : Type 0 where
  pub lengths : (x : Read) → (named v x).width ≡ (named r x).width
  pub depths : (x : Read) → depth_of v x ≡ depth_of r x
  pub names : (x : Read) → depth_of r x ≡ 0 → meaning_of w x ≡ meaning_of v x
  pub no_memory : (x : Read) → depth_of w x ≡ 0
  pub words : (x : Read) (j : ℕ) → j < depth_of r x →
      meaning_of w (word_name x j) ≡ Some (record { width = (named r x).width; low = 0; signed = false; value = (named v (word_name x j)).value })
  pub wide : (x : Read) → IsLength (named r x).width
  pub shallow : (x : Read) → depth_of r x ≤ 64

-- no memory is used without an index
abbrev pub IsIndexed : List Entry → Expr → Type 0
IsIndexed r a = (x : Read) → Among (whole_in a) x.text → depth_of r x ≡ 0

-- the expression without memories has the length, the sign and the value of the expression, and is defined where it is
abbrev pub SpreadExpressionsMean : Type 0
SpreadExpressionsMean = (r v w : List Entry) (a : Expr) → Spreads r v w → IsIndexed r a → operand_of w (spread r a) ≡ operand_of v a

-- it is well formed where the expression is, and its parts that must be constant are so
abbrev pub SpreadExpressionsAreFormed : Type 0
SpreadExpressionsAreFormed = (r v w : List Entry) (a : Expr) → Spreads r v w → IsIndexed r a → IsFormed v a → IsFormed w (spread r a)

abbrev pub SpreadKeepsConstants : Type 0
SpreadKeepsConstants = (r : List Entry) (a : Expr) → HasConstantParts (λ x. false) a → HasConstantParts (λ x. false) (spread r a)

-- where the numbers of the left sides of continuous assignments are constant, they are so without memories
abbrev pub HasFixedLefts : Flat → Type 0
HasFixedLefts f = (a : Assign) (n : Expr) → Among f.assigns a → Among (numbers_in a.left) n → NamesOnly (λ x. false) n

abbrev pub SpreadKeepsFixedLefts : Type 0
SpreadKeepsFixedLefts = (f : Flat) → HasFixedLefts f → HasFixedLefts (spread_flat f)

-- ---- statements

-- the place of a module's text
abbrev pub over : List Signal → Place
over gs = record { prefix = []; signals = gs; params = [] }

-- in each cycle the names of a module stand in another one for what they stand for there, but for memories
abbrev pub SpreadsInto : List Entry → List Signal → List Signal → Type 0
SpreadsInto r gs hs = (c : Cycle) → Spreads r (valuation (over gs) c) (valuation (over hs) c)

-- each memory in a left side has an index
abbrev mutual
  pub IsIndexedLeft : List Entry → Lval → Type 0
  IsIndexedLeft r (l.Name x) = depth_of r (read x) ≡ 0
  IsIndexedLeft r (l.Select x a) = IsIndexed r a
  IsIndexedLeft r (l.Part x span a b) = (depth_of r (read x) ≡ 0) × IsIndexed r a × IsIndexed r b
  IsIndexedLeft r (l.Concat' h row) = AreIndexedLefts r row

  pub AreIndexedLefts : {m : _} → List Entry → Row_of-Lval m → Type 0
  AreIndexedLefts r end_of-Lval = Unit {0}
  AreIndexedLefts r (more_of-Lval a rest) = IsIndexedLeft r a × AreIndexedLefts r rest

-- a left side has no memory, its numbers apart
abbrev mutual
  pub IsPlainLeft : List Entry → Lval → Type 0
  IsPlainLeft r (l.Name x) = depth_of r (read x) ≡ 0
  IsPlainLeft r (l.Select x a) = (depth_of r (read x) ≡ 0) × IsIndexed r a
  IsPlainLeft r (l.Part x span a b) = (depth_of r (read x) ≡ 0) × IsIndexed r a × IsIndexed r b
  IsPlainLeft r (l.Concat' h row) = ArePlainLefts r row

  pub ArePlainLefts : {m : _} → List Entry → Row_of-Lval m → Type 0
  ArePlainLefts r end_of-Lval = Unit {0}
  ArePlainLefts r (more_of-Lval a rest) = IsPlainLeft r a × ArePlainLefts r rest

-- what is asked of the left side of `<=`: where assignments take effect at once it has no memory, else at most 64 bits, however its numbers change
abbrev pub IsStorable : Bool → List Entry → Lval → Type 0
IsStorable true r left = IsPlainLeft r left
IsStorable false r left = IsIndexedLeft r left × HasConstantSpans (λ x. false) left × (lefts_length r (parts_of left) ≤ 64)

abbrev pub AreIndexed : List Entry → List Expr → Type 0
AreIndexed r [] = Unit {0}
AreIndexed r (a ∷ as') = IsIndexed r a × AreIndexed r as'

-- the same of a statement
abbrev mutual
  pub IsSpreadable : Bool → List Entry → Stmt → Type 0
  IsSpreadable at_once r s.Empty = Unit {0}
  IsSpreadable at_once r (s.Block' n h row) = AreSpreadable at_once r row
  IsSpreadable at_once r (s.If' a h (more_of-Stmt x end_of-Stmt)) = IsIndexed r a × IsSpreadable at_once r x
  IsSpreadable at_once r (s.IfElse' a h (more_of-Stmt x end_of-Stmt) g (more_of-Stmt y end_of-Stmt)) =
      IsIndexed r a × IsSpreadable at_once r x × IsSpreadable at_once r y
  IsSpreadable at_once r (s.Case' kind a h row) = IsIndexed r a × AreItemsSpreadable at_once r row
  IsSpreadable at_once r (s.Blocking left right) = IsPlainLeft r left × IsIndexed r right
  IsSpreadable at_once r (s.Nonblocking left right) = IsStorable at_once r left × IsIndexed r right

  pub AreSpreadable : {m : _} → Bool → List Entry → Row_of-Stmt m → Type 0
  AreSpreadable at_once r end_of-Stmt = Unit {0}
  AreSpreadable at_once r (more_of-Stmt a rest) = IsSpreadable at_once r a × AreSpreadable at_once r rest

  pub AreItemsSpreadable : {m : _} → Bool → List Entry → Row_of-CaseItem m → Type 0
  AreItemsSpreadable at_once r end_of-CaseItem = Unit {0}
  AreItemsSpreadable at_once r (more_of-CaseItem labels body rest) =
      AreIndexed r (exprs_in labels) × IsSpreadable at_once r body × AreItemsSpreadable at_once r rest

-- a statement without memories does what the statement does
abbrev pub SpreadStatementsDo : Type 0
SpreadStatementsDo =
    (at_once : Bool) (r : List Entry) (gs hs : List Signal) (body : Stmt) (c d : Cycle) → SpreadsInto r gs hs → IsSpreadable at_once r body →
    run at_once (over hs) (spread_stmt r body) c d ≡ run at_once (over gs) body c d

-- ---- modules

-- what is asked of a module: each name is declared once; lengths are from 1 to 64 and memories have at most 64 words; and each left side
-- names declared signals and has at most 64 bits, however its numbers change; and a port is no memory
pub record CanSpread (f : Flat) : Type 0 where
  pub distinct : (x : Name) → Repeats (map (λ (g : Signal). g.name) f.signals) x → ⊥
  pub wide : (g : Signal) → Among f.signals g → IsLength g.width
  pub shallow : (g : Signal) → Among f.signals g → g.depth ≤ 64
  pub declared : (x : Name) → Among (flat_map left_names (lefts_of f)) x → Among (map (λ (g : Signal). g.name) f.signals) x
  pub spans : (left : Lval) → Among (lefts_of f) left → HasConstantSpans (λ x. false) left
  pub lengths : (left : Lval) → Among (lefts_of f) left → lefts_length (at_rest (flat_place f)) (parts_of left) ≤ 64
  pub ports : (p : TopPort) → Among f.ports p → (g : Signal) × Among f.signals g × (g.name ≡ p.name) × (g.depth ≡ 0)

-- the module without memories has the cycles of the module, the same cycles follow, and so it has the same runs
pub record KeepsRuns (f : Flat) : Type 0 where
  pub cycle : (c : Cycle) → IsCycle f c ↔ IsCycle (spread_flat f) c
  pub follows : (c d : Cycle) → Follows f c d ↔ Follows (spread_flat f) c d
  pub runs : (n : ℕ) (c : ℕ → Cycle) → IsRun f n c ↔ IsRun (spread_flat f) n c

-- the module without memories declares the words in the place of their memories, and has the ports, the clock and the resets of the module
pub record DeclaresWords (f : Flat) : Type 0 where
  pub signals : (spread_flat f).signals ≡ flat_map holders f.signals
  pub plain : (g : Signal) → Among (spread_flat f).signals g → g.depth ≡ 0
  pub wide : (g : Signal) → Among (spread_flat f).signals g → IsLength g.width
  pub distinct : (x : Name) → Repeats (map (λ (g : Signal). g.name) (spread_flat f).signals) x → ⊥
  pub ports : (spread_flat f).ports ≡ f.ports
  pub each_port : (p : TopPort) → Among (spread_flat f).ports p → (g : Signal) × Among (spread_flat f).signals g × (g.name ≡ p.name)
  pub clock : (spread_flat f).clock ≡ f.clock
  pub asyncs : (spread_flat f).asyncs ≡ f.asyncs

abbrev pub SpreadDeclaresWords : Type 0
SpreadDeclaresWords = (f : Flat) → CanSpread f → IsFaultless f → DeclaresWords f

abbrev pub SpreadKeepsRuns : Type 0
SpreadKeepsRuns = (f : Flat) → CanSpread f → IsFaultless f → KeepsRuns f
