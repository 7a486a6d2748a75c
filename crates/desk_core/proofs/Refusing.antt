-- Texts that are refused.
use Rattle.std.proofs.Common.{List, ℕ, Option, Some, None, refl, sym, subst}
use Rattle.std.specs.Prelude.{Result, Ok, Err, IfOk}
use Rattle.outside.specs.Tables.{Tables}
use Rattle.desk_core_faults.specs.declared.fault.CheckFault.{CheckFault}
use Rattle.proof_store.specs.Stored.{Told}
use Rattle.proof_store.specs.declared.fault.StoreFault.{StoreFault}
use Rattle.desk_core_commands.specs.declared.command.Answer.{Answer}
use Rattle.desk_core_commands.specs.declared.command.Answer.TheVariants as a
use Rattle.desk_core.specs.Quiet.{IsRefusal, StepsQuietly}
use Rattle.desk_core.specs.Steps.{Desk, IsRefusedBy, Stays, desk}

told_alone : (R : Tables → Tables → Type 0) → ((t : Tables) → R t t) → (o : Option Tables) → Told R o o
told_alone R h None = tt
told_alone R h (Some t) = h t

-- a fault that stands is answered by its line, and the desk stays as it is
pub refused_quietly : (IsFault : CheckFault → Type 0) (R : Answer → Desk → Desk → Type 0) → ((line : List ℕ) (d e : Desk) → IsRefusedBy IsFault line → Stays d e → R (a.Refused line) d e)
    → (fault : CheckFault) → IsFault fault → (r : Result Answer StoreFault) → IfOk r (IsRefusal fault) → (o : Option Tables) → StepsQuietly R r o o
refused_quietly IsFault R gives fault stands (Ok answer) h o = λ asked book.
    told_alone (λ t u. R answer (desk t asked book) (desk u asked book))
    (λ t. subst (λ (x : Answer). R x (desk t asked book) (desk t asked book)) (sym h.is)
    (gives h.line (desk t asked book) (desk t asked book) (fault, stands, h.tells) (record { tables = refl; book = refl }))) o
refused_quietly IsFault R gives fault stands (Err e) h o = tt
