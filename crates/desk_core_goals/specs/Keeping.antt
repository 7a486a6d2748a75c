-- The clauses of a line, and a derivation of another solver that is kept for it.
use Rattle.std.specs.Prelude.{◌≡◌, ◌≢◌, ℕ, List, [], ◌∷◌, length, Option, None, Vec}
use Rattle.std.specs.declared.alloc.Global.{Global}
use Rattle.outside.specs.Tables.{Tables}
use Rattle.set_tree.specs.declared.line.Line.{Line}
use Rattle.word_dag.specs.Nodes.{Parts}
use Rattle.clause_check.specs.declared.formula.Cnf.{Cnf}
use Rattle.clause_check.specs.declared.formula.Step.{Step}
use Rattle.clause_check.specs.Derivations.{IsRefutation}
use Rattle.cnf_build.specs.Lower.{netlist, ob_clauses}
use Rattle.clause_check_texts.specs.declared.fault.ProofFault.{ProofFault}
use Rattle.clause_check_texts.specs.declared.fault.ProofFault.TheVariants as p
use Rattle.clause_check_texts.specs.Dimacs.{dimacs}
use Rattle.clause_check_texts.specs.Faults.{IsReadOf, Stands}
use Rattle.unroll_binding.specs.Binding.{Pair}
use Rattle.job_pool.specs.declared.evidence.Evidence.TheVariants.{Derivation}
use Rattle.proof_store.specs.declared.fault.StoreFault.{StoreFault}
use Rattle.proof_store.specs.declared.fault.StoreFault.TheVariants as s
use Rattle.proof_store.specs.declared.goal.Decided.{Decided}
use Rattle.proof_store.specs.declared.goal.Goal.{Goal}
use Rattle.proof_store.specs.Goals.{ended}
use Rattle.proof_store.specs.Stored.{MayKeep, Puts, Told}
use Rattle.desk_core_reports.specs.declared.book.Book.{Book}
use Rattle.desk_core_reports.specs.declared.book.Line.{Line as Entered}
use Rattle.desk_core_goals.specs.declared.fault.LineFault.{LineFault}
use Rattle.desk_core_goals.specs.declared.fault.LineFault.TheVariants as l
use Rattle.desk_core_goals.specs.Asked.{IsGoalNamed, LacksName}
use Rattle.desk_core_goals.specs.Decided.{Tells}
use Rattle.desk_core_goals.specs.declared.keep_fault.KeepFault.{KeepFault}
use Rattle.desk_core_goals.specs.declared.keep_fault.KeepFault.TheVariants as k

-- ---- clauses

-- the formula has the clauses of the obligation
pub record HasClauses (ob : Parts) (formula : Cnf) : Type 0 where
  pub vars : formula.vars ≡ length (netlist ob.nodes)
  pub clauses : formula.clauses ≡ ob_clauses ob.nodes ob.root

-- the clauses of an obligation of the line of a name
pub record HasLineClauses (b : Pair) (name : List ℕ) (formula : Cnf) : Type 0 where
  pub goal : Goal Line
  pub is_goal : IsGoalNamed b name goal
  pub has : HasClauses goal.ob formula

abbrev pub IsClausesText : Pair → List ℕ → List ℕ → Type 0
IsClausesText b name text = (formula : Cnf) × HasLineClauses b name formula × (text ≡ dimacs formula)

-- ---- derivations

-- the text has these steps, which derive the empty clause from the clauses of the obligation
pub record ReadsProof (ob : Parts) (text : List ℕ) (steps : Vec Step Global) : Type 0 where
  pub formula : Cnf
  pub has : HasClauses ob formula
  pub read : IsReadOf formula text steps.items
  pub refutes : IsRefutation formula steps.items

-- a goal of the line of a name, with the derivation that the text has of its clauses
pub record IsProvedGoal (b : Pair) (name text : List ℕ) (d : Decided Line) : Type 0 where
  pub is_goal : IsGoalNamed b name d.goal
  pub steps : Vec Step Global
  pub has : d.evidence ≡ Derivation steps
  pub reads : ReadsProof d.goal.ob text steps

-- the book has the line of a decided goal and no other, and no least counterexample
pub record TellsAlone (b : Pair) (d : Decided Line) (book : Book) : Type 0 where
  pub line : Entered
  pub alone : book.lines.items ≡ line ∷ []
  pub tells : Tells b d line
  pub no_least : book.least ≡ None

-- it is put at the keeper, and the line is proved by it
pub record KeepsProof (b : Pair) (name text : List ℕ) (before after : Option Tables) (book : Book) : Type 0 where
  pub proved : Decided Line
  pub is_proved : IsProvedGoal b name text proved
  pub may : MayKeep (ended proved)
  pub put : Told (Puts (ended proved)) before after
  pub told : TellsAlone b proved book

-- ---- refusals

abbrev pub fault_of_line : LineFault → KeepFault
fault_of_line l.NoLine = k.NoLine
fault_of_line l.Keeper = k.Keeper
fault_of_line l.Memory = k.Memory

abbrev pub fault_of_proof : ProofFault → KeepFault
fault_of_proof p.Long = k.Proof p.Long
fault_of_proof (p.Syntax n) = k.Proof (p.Syntax n)
fault_of_proof (p.Unimplied n) = k.Proof (p.Unimplied n)
fault_of_proof p.Open = k.Proof p.Open
fault_of_proof p.Memory = k.Memory

abbrev pub fault_of_store : StoreFault → KeepFault
fault_of_store s.Keeper = k.Keeper
fault_of_store s.Memory = k.Memory

-- this stands against the text, which is none of memory
abbrev pub RefusesText : Pair → List ℕ → List ℕ → ProofFault → Type 0
RefusesText b name text fault = (fault ≢ p.Memory) × (formula : Cnf) × HasLineClauses b name formula × Stands formula text fault

-- no line has the name, or the text has no derivation of its clauses
abbrev pub RefusesGoal : Pair → List ℕ → List ℕ → KeepFault → Type 0
RefusesGoal b name text k.NoLine = LacksName b.set name l.NoLine
RefusesGoal b name text (k.Proof fault) = RefusesText b name text fault
RefusesGoal b name text k.Large = ⊥
RefusesGoal b name text k.Keeper = ⊥
RefusesGoal b name text k.Memory = Unit {0}

-- or it has one that may not be kept, or the keeper failed
abbrev pub RefusesProof : Pair → List ℕ → List ℕ → KeepFault → Type 0
RefusesProof b name text k.NoLine = LacksName b.set name l.NoLine
RefusesProof b name text (k.Proof fault) = RefusesText b name text fault
RefusesProof b name text k.Large = (proved : Decided Line) × IsProvedGoal b name text proved × (MayKeep (ended proved) → ⊥)
RefusesProof b name text k.Keeper = (proved : Decided Line) × IsProvedGoal b name text proved
RefusesProof b name text k.Memory = Unit {0}
