-- The laws.
use Rattle.std.specs.Prelude.{ℕ, ◌≡◌, ◌<◌, ◌^◌, ◌↔◌, Bool, true, false, List, [], ◌∷◌, ◌++◌}
use Rattle.std.specs.Int.{bit_at}
use Rattle.std.specs.List.{flat_map}
use Rattle.vlog_tree.specs.declared.expr.Expr.{Expr}
use Rattle.vlog_tree.specs.declared.stmt.Lval.{Lval}
use Rattle.vlog_tree.specs.declared.stmt.Stmt.{Stmt}
use Rattle.vlog_tree.specs.Value.{HasConstantParts}
use Rattle.vlog_tree_runs.specs.declared.flat.Signal.{Signal}
use Rattle.vlog_tree_runs.specs.Places.{Name, Cycle, Among, Place, store}
use Rattle.vlog_tree_runs.specs.Blocks.{is_parameter, run, lefts, Drives}
use Rattle.elab_flat_faults.specs.Texts.{names_in, numbers_in, Compared, compared_in}
use Rattle.elab_flat_faults.specs.Paths.{Sets, Step, reads_in, IsPath, IsSetBy, IsAllSet, width_in}
use Rattle.elab_flat_faults.specs.Drivers.{BlockDepends}
use Rattle.elab_step_laws.specs.Flows.{Flow, block_flow}

-- where the text of a module without instances stands
abbrev pub place_over : List Signal → Place
place_over gs = record { prefix = []; signals = gs; params = [] }

-- none of the signals is a memory
abbrev pub AreVectors : List Signal → Type 0
AreVectors gs = (g : Signal) → Among gs g → g.depth ≡ 0

-- ---- bits that stay

-- a bit that an assignment doesn't drive is as it was
abbrev pub StoreStays : Type 0
StoreStays =
    (gs : List Signal) (left : Lval) (right : Expr) (c d : Cycle) (x : Name) (b : ℕ) → AreVectors gs → (Drives (place_over gs) left x b → ⊥) →
    bit_at (store (place_over gs) c left right d x) b ≡ bit_at (d x) b

-- a bit that no left side of a block drives is as it was
abbrev pub BitsStay : Type 0
BitsStay =
    (at_once : Bool) (gs : List Signal) (body : Stmt) (c d : Cycle) (x : Name) (b : ℕ) → AreVectors gs →
    ((left : Lval) → Among (lefts body) left → Drives (place_over gs) left x b → ⊥) → bit_at (run at_once (place_over gs) body c d x) b ≡ bit_at (d x) b

-- ---- bits that are apart

-- what is read being fixed, a bit depends on no other bit of what is written over
abbrev pub StoreApart : Type 0
StoreApart =
    (p : Place) (left : Lval) (right : Expr) (c d e : Cycle) (x : Name) (b : ℕ) → bit_at (d x) b ≡ bit_at (e x) b →
    bit_at (store p c left right d x) b ≡ bit_at (store p c left right e x) b

abbrev pub BitsApart : Type 0
BitsApart =
    (p : Place) (body : Stmt) (c d e : Cycle) (x : Name) (b : ℕ) → bit_at (d x) b ≡ bit_at (e x) b →
    bit_at (run false p body c d x) b ≡ bit_at (run false p body c e x) b

-- ---- bits that follow

-- a bit that an assignment surely sets depends on the names that it reads alone
abbrev pub StoreFollows : Type 0
StoreFollows =
    (gs : List Signal) (left : Lval) (right : Expr) (c d u v : Cycle) (x : Name) (b : ℕ) → AreVectors gs → b < width_in (place_over gs) x →
    Sets (place_over gs) left x b → ((z : Name) → Among (flat_map names_in (right ∷ numbers_in left)) z → c z ≡ d z) →
    bit_at (store (place_over gs) c left right u x) b ≡ bit_at (store (place_over gs) d left right v x) b

-- values are below 2 to the lengths of their signals
abbrev pub AreFit : List Signal → Cycle → Type 0
AreFit gs c = (g : Signal) → Among gs g → c g.name < 2 ^ g.width

-- the parts of case expressions that must be constant are so, as in every text that may be elaborated
abbrev pub HaveConstantParts : Place → Stmt → Type 0
HaveConstantParts p body = (k : Compared) → Among (compared_in body) k → HasConstantParts (is_parameter p) k.value

-- a block gives bit b of x from two cycles the same, where they agree on the names that it depends on, and on x itself if a path leaves the bit unset
abbrev pub FlowFollows : Type 0
FlowFollows =
    (gs : List Signal) (body : Stmt) (c d : Cycle) (x : Name) (b : ℕ) → AreVectors gs → HaveConstantParts (place_over gs) body → AreFit gs c → AreFit gs d →
    b < width_in (place_over gs) x → ((z : Name) → (block_flow (place_over gs) body).through x z → c z ≡ d z) →
    ((block_flow (place_over gs) body).unset x b → c x ≡ d x) → bit_at (run true (place_over gs) body c c x) b ≡ bit_at (run true (place_over gs) body d d x) b

-- the same by paths: every path sets the bit, and the cycles agree on what assignments to x depend on
abbrev pub BitsFollow : Type 0
BitsFollow =
    (gs : List Signal) (body : Stmt) (c d : Cycle) (x : Name) (b : ℕ) → AreVectors gs → HaveConstantParts (place_over gs) body → AreFit gs c → AreFit gs d →
    b < width_in (place_over gs) x → ((steps : List Step) → IsPath (place_over gs) body steps → (IsSetBy (place_over gs) steps x b → ⊥) → ⊥) →
    ((z : Name) → BlockDepends (place_over gs) body x z → c z ≡ d z) →
    bit_at (run true (place_over gs) body c c x) b ≡ bit_at (run true (place_over gs) body d d x) b

-- ---- one pass for all paths

-- a path reads x where it hasn't set all of it
abbrev pub ReadsOutside : Place → Stmt → Name → Type 0
ReadsOutside p body x =
    (before after : List Step) × (step : Step) × IsPath p body (before ++ step ∷ after) × Among (flat_map names_in (reads_in step)) x × (IsAllSet p before x → ⊥)

-- a flow says what the paths through a block do
pub record AreOfPaths (p : Place) (body : Stmt) (w : Flow) : Type 0 where
  pub unset : (x : Name) (b : ℕ) → w.unset x b ↔ ((steps : List Step) × IsPath p body steps × (IsSetBy p steps x b → ⊥))
  pub through : (y z : Name) → w.through y z ↔ BlockDepends p body y z
  pub outside : (x : Name) → w.outside x ↔ ReadsOutside p body x

abbrev pub PassesArePaths : Type 0
PassesArePaths = (p : Place) (body : Stmt) → AreOfPaths p body (block_flow p body)
