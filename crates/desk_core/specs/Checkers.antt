-- What contracts see of a checker.
use Rattle.std.specs.Prelude.{◌≡◌, ℕ, List, Option}
use Rattle.outside.specs.Tables.{Tables}
use Rattle.proof_store.specs.Provers.{asked_by, kept_by}
use Rattle.proof_store.specs.Provers.{IsSame as IsSameProver}
use Rattle.proof_store.specs.Stored.{Told}
use Rattle.proof_store.specs.declared.settings.Settings.{Settings}
use Rattle.desk_core_reports.specs.declared.book.Book.{Book}
use Rattle.desk_core_commands.specs.declared.command.Answer.{Answer}
use Rattle.desk_core_commands.specs.declared.command.Command.{Command}
use Rattle.desk_core.specs.Steps.{Desk, Steps, desk}
use Rattle.desk_core.specs.declared.checker.Checker.{Checker}

-- what its keeper holds, how often its helpers were asked, its book, and how much is spent on a line
pub record State : Type 0 where
  pub tables : Option Tables
  pub asked : List ℕ
  pub book : Book
  pub settings : Settings

abbrev pub state : {R K H G : Type 0} → (K → Option Tables) → (H → ℕ) → Checker R K H G → State
state tables asked c = record { tables = kept_by tables c.prover; asked = asked_by asked c.prover; book = c.book.now; settings = c.prover.settings }

abbrev pub desk_of : State → Tables → Desk
desk_of s t = desk t s.asked s.book

-- one desk leads to the other, where the keeper tells what it holds
abbrev pub Leads : (Desk → Desk → Type 0) → State → State → Type 0
Leads R old new = Told (λ t u. R (desk_of old t) (desk_of new u)) old.tables new.tables

-- the command leads from one desk to the other, with this answer
abbrev pub Does : Command → Answer → State → State → Type 0
Does command answer old new = Leads (Steps old.settings.budget old.settings.workers command answer) old new

-- the same prover and book
abbrev pub IsSame : {R K H G : Type 0} → Checker R K H G → Checker R K H G → Type 0
IsSame c d = IsSameProver c.prover d.prover × (d.book.ghost_name ≡ c.book.ghost_name)
