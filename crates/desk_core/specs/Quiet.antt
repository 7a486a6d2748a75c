-- What the parts of a command do.
use Rattle.std.specs.Prelude.{◌≡◌, ◌⊎◌, ℕ, ◌+◌, List, length, Option, Some, None, Result, IfOk}
use Rattle.std.specs.FinMap.{get}
use Rattle.outside.specs.declared.rows.Block.{Block}
use Rattle.outside.specs.Tables.{Tables, sign_number, with_sign}
use Rattle.desk_core_faults.specs.declared.fault.CheckFault.{CheckFault}
use Rattle.proof_store.specs.Stored.{Told}
use Rattle.proof_store.specs.declared.fault.StoreFault.{StoreFault}
use Rattle.desk_core_reports.specs.declared.book.Book.{Book}
use Rattle.desk_core_commands.specs.declared.command.Answer.{Answer}
use Rattle.desk_core_commands.specs.declared.command.Answer.TheVariants as a
use Rattle.desk_core_commands.specs.declared.command.Command.TheVariants as c
use Rattle.desk_core.specs.Blocks.{trace_at}
use Rattle.desk_core.specs.Steps.{Desk, IsBlockOf, Leaves, Stays, TellsFault, desk}

-- where there is an answer, it leads from one desk to the other, whose helpers and whose book are those of before
abbrev pub StepsQuietly : (Answer → Desk → Desk → Type 0) → Result Answer StoreFault → Option Tables → Option Tables → Type 0
StepsQuietly R result before after = IfOk result (λ answer. (asked : List ℕ) (book : Book) → Told (λ t u. R answer (desk t asked book) (desk u asked book)) before after)

-- an answer that a desk gives and stays as it is
abbrev pub Reads : (Answer → Desk → Type 0) → Answer → Desk → Desk → Type 0
Reads R answer old new = R answer old × Stays old new

-- where this is the block of the name, the answer leads from one desk to the other
abbrev pub OfBlock : List ℕ → Block → (Answer → Desk → Desk → Type 0) → Answer → Desk → Desk → Type 0
OfBlock name b R answer old new = IsBlockOf old name b → R answer old new

-- where this is the block of the name, its check leaves no more than proofs
abbrev pub LeavesOfBlock : List ℕ → Block → Tables → Tables → Type 0
LeavesOfBlock name b old new = (get old.blocks name ≡ Some b) → Leaves (c.Check name) old new

-- the answer is a line that tells the fault
pub record IsRefusal (fault : CheckFault) (answer : Answer) : Type 0 where
  pub line : List ℕ
  pub is : answer ≡ a.Refused line
  pub tells : TellsFault fault line

-- what is answered to a line of a block's report
abbrev pub IsTraced : Block → ℕ → Answer → Type 0
IsTraced b line a.NoReport = b.report ≡ None
IsTraced b line a.NoTrace = ((text : List ℕ) × (b.report ≡ Some text)) × (trace_at line b.traces ≡ None)
IsTraced b line (a.Traced shown) = ((text : List ℕ) × (b.report ≡ Some text)) × (trace_at line b.traces ≡ Some shown)
IsTraced b line answer = ⊥

-- the number of the sign-off of a block with two texts, which is made with this report where there is none
abbrev pub IsNumbered : List ℕ → List ℕ → List ℕ → List ℕ → ℕ → Tables → Tables → Type 0
IsNumbered name m s report number old new =
    ((sign_number name m s old.signs ≡ Some number) × (new ≡ old))
    ⊎ ((sign_number name m s old.signs ≡ None) × (number ≡ length old.signs + 1) × (new ≡ with_sign number name m s report old))
