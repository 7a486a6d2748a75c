-- Commands that are carried out by their parts.
use Rattle.std.proofs.Common.{◌≡◌, ℕ, List, Option, Some, None, sym, subst}
use Rattle.std.specs.Prelude.{Result, Ok, Err, IfOk, IfSome}
use Rattle.outside.specs.Tables.{Tables}
use Rattle.proof_store.specs.Stored.{Told}
use Rattle.proof_store.specs.declared.fault.StoreFault.{StoreFault}
use Rattle.desk_core_reports.specs.declared.book.Book.{Book}
use Rattle.desk_core_commands.specs.declared.command.Answer.{Answer}
use Rattle.desk_core_commands.specs.declared.command.Command.{Command}
use Rattle.desk_core.specs.Quiet.{StepsQuietly}
use Rattle.desk_core.specs.States.{IsDesk}
use Rattle.desk_core.specs.Steps.{Leaves, Steps, desk}
use Rattle.desk_core.proofs.Standing.{leaves_desk, steps_desk}

-- the command is this one, whose part asks no helper and leaves the book
pub carried : (budget workers : ℕ) (command given : Command) (r : Result Answer StoreFault) (o p : Option Tables) (asked : List ℕ) (book : Book) → command ≡ given → StepsQuietly (Steps budget workers given) r o p
    → IfOk r (λ answer. Told (λ t u. Steps budget workers command answer (desk t asked book) (desk u asked book)) o p)
carried budget workers command given (Ok answer) o p asked book is h =
    subst (λ (x : Command). Told (λ t u. Steps budget workers x answer (desk t asked book) (desk u asked book)) o p) (sym is) (h asked book)
carried budget workers command given (Err fault) o p asked book is h = tt

-- ---- what a desk keeps true

pub answer_keeps : (budget workers : ℕ) (command : Command) (answer : Answer) (o p : Option Tables) (asked asked_after : List ℕ) (book book_after : Book)
    → Told (λ t u. Steps budget workers command answer (desk t asked book) (desk u asked_after book_after)) o p → IfSome o (λ t. IsDesk t → IfSome p IsDesk)
answer_keeps budget workers command answer None p asked asked_after book book_after step = tt
answer_keeps budget workers command answer (Some t) None asked asked_after book book_after step = absurd step
answer_keeps budget workers command answer (Some t) (Some u) asked asked_after book book_after step =
    λ is. steps_desk budget workers command answer (desk t asked book) (desk u asked_after book_after) step is

pub fault_keeps : (command : Command) (o p : Option Tables) → Told (Leaves command) o p → IfSome o (λ t. IsDesk t → IfSome p IsDesk)
fault_keeps command None p left = tt
fault_keeps command (Some t) None left = absurd left
fault_keeps command (Some t) (Some u) left = λ is. leaves_desk command t u left is
