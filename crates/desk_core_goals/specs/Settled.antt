-- Where the evidence of decided lines comes from, and what a keeper holds afterwards.
use Rattle.std.specs.Prelude.{◌≡◌, ℕ, ◌+◌, ◌⊎◌, List, [], length, map, Option, IfSome}
use Rattle.outside.specs.Tables.{Tables}
use Rattle.set_tree.specs.declared.line.Line.{Line}
use Rattle.word_dag.specs.Nodes.{Parts}
use Rattle.unroll_binding.specs.Binding.{Pair}
use Rattle.proof_store.specs.Counts.{FirstRose, draws_of}
use Rattle.proof_store.specs.Goals.{Ended, ob_of}
use Rattle.proof_store.specs.Kept.{CountsKept}
use Rattle.proof_store.specs.declared.goal.Goal.{Goal}
use Rattle.proof_store.specs.Stored.{AddsProofs, StoresNew, Told}
use Rattle.desk_core_reports.specs.declared.book.Book.{Book}
use Rattle.desk_core_reports.specs.declared.book.Line.{Line as Entered}
use Rattle.desk_core_commands.specs.declared.which.Which.{Which}
use Rattle.proof_store.specs.declared.fault.StoreFault.{StoreFault}
use Rattle.proof_store.specs.declared.fault.StoreFault.TheVariants as s
use Rattle.desk_core_goals.specs.declared.fault.LineFault.{LineFault}
use Rattle.desk_core_goals.specs.declared.fault.LineFault.TheVariants as f
use Rattle.desk_core_goals.specs.Asked.{Asks}

abbrev pub line_fault_of : StoreFault → LineFault
line_fault_of s.Keeper = f.Keeper
line_fault_of s.Memory = f.Memory

abbrev pub line_ob : Entered → Parts
line_ob l = l.ob

abbrev pub ended_of : Entered → Ended
ended_of l = record { ob = l.ob; evidence = l.evidence }

-- The lines of a book were settled over a keeper: so many had a proof that was kept, so many were shown by helpers, the first of which was asked about
-- each line that had none, and so many were left to these workers. The keeper holds the new proofs, and all else as before
pub record AreSettled (workers : ℕ) (book : Book) (before after : Option Tables) (asked asked_after : List ℕ) : Type 0 where
  pub counts : book.kept + book.helped + book.solved ≡ length book.lines.items
  pub kept : IfSome before (λ t. CountsKept t (map line_ob book.lines.items) book.kept)
  pub draws : book.draws.items ≡ draws_of book.solved workers
  pub stored : Told (StoresNew (map ended_of book.lines.items)) before after
  pub first : FirstRose (book.helped + book.solved) asked asked_after

-- obligations of the lines that are asked for
pub record AreObsOf (b : Pair) (which : Which) (obs : List Parts) : Type 0 where
  pub goals : List (Goal Line)
  pub asked : Asks b which goals
  pub are : obs ≡ map ob_of goals

-- each proof that differs is one of an obligation of the call, and all else is as before
abbrev pub AddsProofsOf : (List Parts → Type 0) → Option Tables → Option Tables → Type 0
AddsProofsOf OfCall before after = (obs : List Parts) × ((obs ≡ []) ⊎ OfCall obs) × Told (AddsProofs obs) before after
