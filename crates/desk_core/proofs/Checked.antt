-- Checks of a block's texts.
use Rattle.std.proofs.Common.{◌≡◌, ℕ, List, [], ◌∷◌, Option, Some, None, refl, sym, subst, option_map, arith, inl, inr, ⊎_elim}
use Rattle.std.specs.Prelude.{Result, Ok, Err, IfOk, OnErr, OnOk}
use Rattle.outside.specs.declared.rows.Block.{Block}
use Rattle.outside.specs.Tables.{Tables, with_block}
use Rattle.proof_store.specs.Counts.{NoneFalls}
use Rattle.proof_store.specs.Stored.{Told}
use Rattle.proof_store.specs.declared.fault.StoreFault.{StoreFault}
use Rattle.desk_core_reports.specs.declared.book.Book.{Book}
use Rattle.desk_core_reports.specs.declared.report.Report.{Report}
use Rattle.desk_core_commands.specs.declared.which.Which.TheVariants as w
use Rattle.desk_core_faults.specs.declared.fault.CheckFault.{CheckFault}
use Rattle.desk_core_goals.specs.Settled.{AddsProofsOf, AreSettled}
use Rattle.desk_core_commands.specs.declared.command.Answer.{Answer}
use Rattle.desk_core_commands.specs.declared.command.Answer.TheVariants as a
use Rattle.desk_core.specs.Blocks.{reported}
use Rattle.desk_core.specs.Checks.{AreObsOfTexts, IsReport, Refuses}
use Rattle.desk_core.specs.Quiet.{IsRefusal, LeavesOfBlock, OfBlock}
use Rattle.desk_core.specs.Steps.{ChecksBlock, HasTexts, TellsFault, desk}

pub none_falls : (xs : List ℕ) → NoneFalls xs xs
none_falls [] = tt
none_falls (x ∷ xs) = (omega arith, none_falls xs)

module _ (budget workers : ℕ) (name : List ℕ) (b : Block) where
  abbrev Checks : Answer → List ℕ → List ℕ → Book → Book → Tables → Tables → Type 0
  Checks answer asked asked_after book book_after t u = OfBlock name b (ChecksBlock budget workers name) answer (desk t asked book) (desk u asked_after book_after)

  module _ (m s : List ℕ) (module_is : b.module ≡ Some m) (set_is : b.set ≡ Some s) where
    texts : HasTexts b m s
    texts = record { module_is = module_is; set_is = set_is }

    reports_check : (report : Report) (book book_after : Book) (asked asked_after : List ℕ) (o p q : Option Tables) → IsReport m s w.All budget book_after.lines.items report → AreSettled workers book_after o p asked asked_after
        → q ≡ option_map (with_block name (reported b report.text book_after.lines.items)) p → Told (Checks (a.Reported report.text) asked asked_after book book_after) o q
    reports_check report book book_after asked asked_after None None q is settled put = subst (λ (z : Option Tables). Told (Checks (a.Reported report.text) asked asked_after book book_after) None z) (sym put) tt
    reports_check report book book_after asked asked_after None (Some u) q is settled put = absurd settled.stored
    reports_check report book book_after asked asked_after (Some t) None q is settled put = absurd settled.stored
    reports_check report book book_after asked asked_after (Some t) (Some u) q is settled put =
        subst (λ (z : Option Tables). Told (Checks (a.Reported report.text) asked asked_after book book_after) (Some t) z) (sym put)
        (λ held. record {
          block = b;
          held = held;
          m = m;
          s = s;
          texts = texts;
          report = report;
          is_report = is;
          text_is = refl;
          between = u;
          settled = settled;
          put = refl;
        })

    -- the report is put, and the book is the one that was filled
    pub reports : (r : Result Answer StoreFault) (report : Report) (book filled book_after : Book) (asked asked_after : List ℕ) (o p q : Option Tables) → IsReport m s w.All budget filled.lines.items report
        → AreSettled workers filled o p asked asked_after → IfOk r (λ answer. answer ≡ a.Reported report.text) → OnOk r (q ≡ option_map (with_block name (reported b report.text filled.lines.items)) p) → OnOk r (book_after ≡ filled)
        → IfOk r (λ answer. Told (Checks answer asked asked_after book book_after) o q)
    reports (Ok answer) report book filled book_after asked asked_after o p q is settled says put same =
        subst (λ (x : Answer). Told (Checks x asked asked_after book book_after) o q) (sym says)
        (subst (λ (x : Book). Told (Checks (a.Reported report.text) asked asked_after book x) o q) (sym same) (reports_check report book filled asked asked_after o p q is settled put))
    reports (Err fault) report book filled book_after asked asked_after o p q is settled says put same = tt

    leaves_block : (o p : Option Tables) → AddsProofsOf (AreObsOfTexts m s w.All) o p → Told (LeavesOfBlock name b) o p
    leaves_block None None h = tt
    leaves_block None (Some u) h = absurd h.2
    leaves_block (Some t) None h = absurd h.2
    leaves_block (Some t) (Some u) h = λ held. (h.0, ⊎_elim (λ none. inl none) (λ of_texts. inr (b, held, m, s, texts, of_texts)) h.1, h.2)

    -- the proofs that a check left are all that differs where the report couldn't be put
    pub left_after : {T E : Type 0} (r : Result T E) (o p q : Option Tables) → AddsProofsOf (AreObsOfTexts m s w.All) o p → OnErr r (q ≡ p) → OnErr r (Told (LeavesOfBlock name b) o q)
    left_after (Ok t) o p q h same = tt
    left_after (Err e) o p q h same = subst (λ (z : Option Tables). Told (LeavesOfBlock name b) o z) (sym same) (leaves_block o p h)

    -- and where there is none
    pub left_then : {T E : Type 0} (r : Result T E) (o p : Option Tables) → AddsProofsOf (AreObsOfTexts m s w.All) o p → OnErr r (Told (LeavesOfBlock name b) o p)
    left_then (Ok t) o p h = tt
    left_then (Err e) o p h = leaves_block o p h

    refuses_told : (fault : CheckFault) (line : List ℕ) → Refuses m s w.All fault → TellsFault fault line → (asked asked_after : List ℕ) (book book_after : Book) → book_after.lines.items ≡ [] → (o p : Option Tables)
        → AddsProofsOf (AreObsOfTexts m s w.All) o p → Told (Checks (a.Refused line) asked asked_after book book_after) o p
    refuses_told fault line refuses tells asked asked_after book book_after empty None None h = tt
    refuses_told fault line refuses tells asked asked_after book book_after empty None (Some u) h = absurd h.2
    refuses_told fault line refuses tells asked asked_after book book_after empty (Some t) None h = absurd h.2
    refuses_told fault line refuses tells asked asked_after book book_after empty (Some t) (Some u) h = λ held. record {
      block = b;
      held = held;
      m = m;
      s = s;
      texts = texts;
      refused = (fault, refuses, tells);
      obs = h.0;
      of_texts = h.1;
      proofs = h.2;
      book = inl empty;
    }

    -- a stage refuses the texts, and its line is the answer
    pub refuses_texts : (r : Result Answer StoreFault) (fault : CheckFault) → Refuses m s w.All fault → IfOk r (IsRefusal fault) → (asked asked_after : List ℕ) (book book_after : Book) → book_after.lines.items ≡ []
        → (o p : Option Tables) → AddsProofsOf (AreObsOfTexts m s w.All) o p → IfOk r (λ answer. Told (Checks answer asked asked_after book book_after) o p)
    refuses_texts (Ok answer) fault refuses told asked asked_after book book_after empty o p h =
        subst (λ (x : Answer). Told (Checks x asked asked_after book book_after) o p) (sym told.is)
        (refuses_told fault told.line refuses told.tells asked asked_after book book_after empty o p h)
    refuses_texts (Err e) fault refuses told asked asked_after book book_after empty o p h = tt
