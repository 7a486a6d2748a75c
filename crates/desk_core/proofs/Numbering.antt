-- A block that is signed off.
use Rattle.std.proofs.Common.{◌≡◌, ℕ, List, true, Option, Some, refl}
use Rattle.outside.specs.declared.rows.Block.{Block}
use Rattle.outside.specs.Tables.{Tables}
use Rattle.proof_store.specs.Stored.{Told}
use Rattle.desk_core_reports.specs.declared.book.Book.{Book}
use Rattle.desk_core_commands.specs.declared.command.Answer.TheVariants as a
use Rattle.desk_core.specs.Blocks.{is_signed_off}
use Rattle.desk_core.specs.Quiet.{IsNumbered, OfBlock}
use Rattle.desk_core.specs.Steps.{SignsBlock, desk}
use Rattle.desk_core.proofs.Telling.{told_then}

-- one with two texts and a report that signs it off, whose number was found or made
pub signed : (name m s report : List ℕ) (number : ℕ) (b : Block) (o p : Option Tables) → b.module ≡ Some m → b.set ≡ Some s → b.report ≡ Some report → is_signed_off report ≡ true → Told (IsNumbered name m s report number) o p
    → (asked : List ℕ) (book : Book) → Told (λ t u. OfBlock name b (SignsBlock name) (a.Signed number) (desk t asked book) (desk u asked book)) o p
signed name m s report number b o p module_is set_is report_is off numbered asked book =
    told_then (IsNumbered name m s report number) (λ t u. OfBlock name b (SignsBlock name) (a.Signed number) (desk t asked book) (desk u asked book)) o p
    (λ t u is it held. ((b, held, record { m = m; s = s; texts = record { module_is = module_is; set_is = set_is }; report = report; report_is = report_is; signed_off = off }, it), refl))
    numbered
