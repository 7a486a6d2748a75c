-- What is asked of a module without instances that is made a design.
use Rattle.std.specs.Prelude.{◌≡◌, List, map}
use Rattle.vlog_tree.specs.declared.expr.Expr.{Expr}
use Rattle.vlog_tree.specs.declared.item.Assign.{Assign}
use Rattle.vlog_tree.specs.declared.valuation.Entry.{Entry}
use Rattle.vlog_tree.specs.Valuation.{IsLength}
use Rattle.vlog_tree_runs.specs.declared.flat.Always.{Always}
use Rattle.vlog_tree_runs.specs.declared.flat.Flat.{Flat}
use Rattle.vlog_tree_runs.specs.declared.flat.Signal.{Signal}
use Rattle.vlog_tree_runs.specs.declared.flat.TopPort.{TopPort}
use Rattle.vlog_tree_runs.specs.Places.{Among, valuation}
use Rattle.vlog_tree_runs.specs.Cycles.{flat_place}
use Rattle.elab_flat_faults.specs.Texts.{numbers_in}
use Rattle.elab_flat_faults.specs.declared.elaborating.ElabFault.{ElabFault}
use Rattle.elab_flat_faults.specs.Paths.{IsConstant}
use Rattle.elab_flat_faults.specs.ElabStands.{Stands}
use Rattle.elab_step_blocks.specs.Ready.{IsReadyStore, IsReadyStmt}
use Rattle.elab_step_nets.specs.Solving.{AreDistinct, ArePlain}

-- the names of a module, each with the value 0: this tells lengths, lowest bits and signs
abbrev pub at_rest : Flat → List Entry
at_rest f = valuation (flat_place f) (λ x. 0)

-- each name is declared once, and no signal is a memory; every text can be taken where it stands; and the left sides of continuous
-- assignments are constant
pub record CanElaborate (f : Flat) : Type 0 where
  pub distinct : AreDistinct (map (λ (g : Signal). g.name) f.signals)
  pub plain : ArePlain f.signals
  pub wide : (g : Signal) → Among f.signals g → IsLength g.width
  pub assigns : (a : Assign) → Among f.assigns a → IsReadyStore (at_rest f) a.left a.right
  pub constant : (a : Assign) (n : Expr) → Among f.assigns a → Among (numbers_in a.left) n → IsConstant (flat_place f) n
  pub blocks : (k : Always) → Among f.blocks k → IsReadyStmt (at_rest f) k.body
  pub ports : (p : TopPort) → Among f.ports p → (g : Signal) × Among f.signals g × (g.name ≡ p.name)
  pub once : AreDistinct (map (λ (p : TopPort). p.name) f.ports)

-- no fault stands
abbrev pub IsFaultless : Flat → Type 0
IsFaultless f = (e : ElabFault) → Stands f e → ⊥
