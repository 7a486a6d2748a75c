-- Connections served one after another by the desk that a keeper holds.
use Rattle.std.specs.Prelude.{◌≡◌, ◌⊎◌, ◌<◌, ◌≤◌, ◌-◌, ◌^◌, ℕ, zero, suc, Bool, true, false, List, Option, Result, Ok, Err}
use Rattle.outside.specs.Faults.{Rose}
use Rattle.outside.specs.Port.{Wire}
use Rattle.outside.specs.Tables.{Tables}
use Rattle.desk_core_commands.specs.declared.command.Answer.{Answer}
use Rattle.desk_core_commands.specs.declared.command.Command.{Command}
use Rattle.desk_core_commands.specs.declared.fault.DeskFault.{DeskFault}
use Rattle.desk_core_commands.specs.declared.fault.DeskFault.TheVariants as f
use Rattle.desk_http_connection.specs.declared.serve.Served.{Served}
use Rattle.desk_http_connection.specs.declared.serve.Served.TheVariants.{Replied, Cut, Broken}
use Rattle.desk_http_connection.specs.declared.serve.ServeFault.{ServeFault}
use Rattle.desk_http_connection.specs.Serve.{Serves}
use Rattle.desk_core_reports.specs.declared.book.Book.{Book}
use Rattle.desk_core.specs.declared.checker.Checker.{Checker}
use Rattle.desk_core.specs.States.{IsDesk}
use Rattle.desk_core.specs.Steps.{IsLeft, Leaves, Steps, desk}
use Rattle.desk_http.specs.declared.serving.Quota.{Quota}
use Rattle.proof_store.specs.Counts.{NoneFalls}
use Rattle.proof_store.specs.Provers.{Limits, asked_by, kept_by}
use Rattle.proof_store.specs.Stored.{Told}

-- what commands work on: what the keeper holds, where it is told, how often it has failed, how often each helper was asked, and the book
pub record State : Type 0 where
  pub tables : Option Tables
  pub faults : ℕ
  pub asked : List ℕ
  pub book : Book

abbrev pub state : Option Tables → ℕ → List ℕ → Book → State
state tables faults asked book = record { tables = tables; faults = faults; asked = asked; book = book }

abbrev pub state_of : {R K H G : Type 0} → (K → Option Tables) → (K → ℕ) → (H → ℕ) → Checker R K H G → State
state_of tables faults asked c = state (kept_by tables c.prover) (faults c.prover.keeper.now) (asked_by asked c.prover) c.book.now

-- a desk whose reports are of its texts stays one, and no count falls
pub record Keeps (d e : State) : Type 0 where
  pub desk : Told (λ t u. IsDesk t → IsDesk u) d.tables e.tables
  pub faults : d.faults ≤ e.faults
  pub asked : NoneFalls d.asked e.asked

-- the command leads from one to the other, with this answer
abbrev pub StepsTo : Limits → Command → Answer → State → State → Type 0
StepsTo s command answer d e = Told (λ t u. Steps s.budget s.workers command answer (desk t d.asked d.book) (desk u e.asked e.book)) d.tables e.tables

-- the command got no answer, and left this
abbrev pub LeavesAt : Command → State → State → Type 0
LeavesAt command d e = Told (Leaves command) d.tables e.tables × IsLeft d.book e.book

-- what a command comes to: it is answered, or the keeper failed, or memory ran out
abbrev pub Acts : Limits → Command → Result Answer DeskFault → State → State → Type 0
Acts s command (Ok answer) d e = Keeps d e × StepsTo s command answer d e
Acts s command (Err f.Keeper) d e = Keeps d e × LeavesAt command d e × Rose d.faults e.faults
Acts s command (Err f.Memory) d e = Keeps d e × LeavesAt command d e

-- what a port holds, where it is told, and how often a call on a connection that was taken has failed
pub record Line : Type 0 where
  pub wire : Option Wire
  pub faults : ℕ

abbrev pub line : Option Wire → ℕ → Line
line wire faults = record { wire = wire; faults = faults }

-- a connection was taken and served, or none was
abbrev pub ServesOne : Limits → Line → State → Result Served ServeFault → Line → State → Type 0
ServesOne s v d result w e = Serves (Acts s) v.wire w.wire v.faults w.faults d e result

-- one more connection counts: each does, or those alone that got a reply
abbrev pub counted : Bool → Served → ℕ → ℕ
counted false served n = suc n
counted true (Replied status) n = suc n
counted true Cut n = n
counted true Broken n = n

-- so many connections were served one after another, each with the port and the desk as the one before left them, and so many of them count
pub data ServesMany (s : Limits) (replied : Bool) (v : Line) (d : State) : ℕ → ℕ → Line → State → Type 0 where
  none : ServesMany s replied v d zero zero v d
  next : {taken n : ℕ} {u w : Line} {c e : State} (served : Served) → ServesMany s replied v d taken n u c → ServesOne s u c (Ok served) w e → ServesMany s replied v d (suc taken) (counted replied served n) w e

-- the quota is filled; where replies alone count, 2 ^ 64 - 1 connections are enough in any case
abbrev pub Fills : Quota → ℕ → ℕ → Type 0
Fills q taken n = (n ≡ q.count) ⊎ ((q.replied ≡ true) × (taken ≡ 2 ^ 64 - 1))

-- connections were served until the quota was filled, so many of which count
pub record ServesQuota (s : Limits) (q : Quota) (v : Line) (d : State) (n : ℕ) (w : Line) (e : State) : Type 0 where
  pub most : n ≤ q.count
  pub taken : ℕ
  pub many : ServesMany s q.replied v d taken n w e
  pub fills : Fills q taken n

-- the quota wasn't filled yet, and the next one couldn't be taken
pub record StopsWithin (s : Limits) (q : Quota) (v : Line) (d : State) (fault : ServeFault) (w : Line) (e : State) : Type 0 where
  pub served : ℕ
  pub fewer : served < q.count
  pub taken : ℕ
  pub port : Line
  pub desk : State
  pub before : ServesMany s q.replied v d taken served port desk
  pub last : ServesOne s port desk (Err fault) w e
