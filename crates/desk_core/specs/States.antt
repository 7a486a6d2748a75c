-- What a desk keeps true.
use Rattle.std.specs.Prelude.{◌≡◌, ℕ, true, List, [], ◌∷◌, Some, None, All}
use Rattle.std.specs.FinMap.{get}
use Rattle.outside.specs.declared.rows.Block.{Block}
use Rattle.outside.specs.declared.rows.Sign.{Sign}
use Rattle.outside.specs.Tables.{Tables, sign_number}
use Rattle.desk_core_reports.specs.declared.book.Line.{Line}
use Rattle.desk_core_reports.specs.declared.report.Report.{Report}
use Rattle.desk_core_commands.specs.declared.which.Which.TheVariants as w
use Rattle.desk_core.specs.Blocks.{traces_from}
use Rattle.desk_core.specs.Checks.{IsReport}
use Rattle.desk_core.specs.Steps.{HasTexts}

-- the text is the report of a check of two texts, with these lines
pub record IsReportText (m s text : List ℕ) : Type 0 where
  pub budget : ℕ
  pub lines : List Line
  pub report : Report
  pub is_report : IsReport m s w.All budget lines report
  pub text_is : text ≡ report.text

-- a block's report and traces are of its present texts
pub record IsReportedOf (b : Block) (text : List ℕ) : Type 0 where
  pub m : List ℕ
  pub s : List ℕ
  pub texts : HasTexts b m s
  pub report : IsReportText m s text
  pub traces : b.traces ≡ traces_from 1 report.lines

abbrev pub IsSoundBlock : Block → Type 0
IsSoundBlock b = (text : List ℕ) → b.report ≡ Some text → IsReportedOf b text

-- a sign-off's report is of its two texts, and all lines are proved
pub record IsSoundSign (sign : Sign) : Type 0 where
  pub report : IsReportText sign.module sign.set sign.report
  pub complete : report.report.complete ≡ true

-- no two sign-offs are of one block with the same two texts
abbrev pub AreOnce : List Sign → Type 0
AreOnce [] = Unit {0}
AreOnce (s ∷ ss) = (sign_number s.block s.module s.set ss ≡ None) × AreOnce ss

-- each report and its traces are of the block's present texts, and each sign-off's report signs its texts off
pub record IsDesk (t : Tables) : Type 0 where
  pub blocks : (name : List ℕ) (b : Block) → get t.blocks name ≡ Some b → IsSoundBlock b
  pub signs : All IsSoundSign t.signs
  pub once : AreOnce t.signs
