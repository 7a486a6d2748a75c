-- Reports of the same two texts say the same wherever neither is spent.
use Rattle.std.specs.Prelude.{◌≡◌, ◌≢◌, ℕ, List, All}
use Rattle.std.specs.List.{AllZip}
use Rattle.desk_core_reports.specs.declared.book.Line.{Line as Told}
use Rattle.desk_core_reports.specs.declared.book.Verdict.TheVariants as v
use Rattle.desk_core_reports.specs.declared.report.Report.{Report}
use Rattle.desk_core_commands.specs.declared.which.Which.{Which}
use Rattle.desk_core.specs.Checks.{IsReport}

abbrev pub IsUnspent : Told → Type 0
IsUnspent d = d.verdict ≢ v.Spent

-- two decided lines have one name, and one verdict where neither is spent
pub record Agree (d e : Told) : Type 0 where
  pub name : d.name ≡ e.name
  pub verdict : IsUnspent d → IsUnspent e → d.verdict ≡ e.verdict

-- what two reports of the same texts have in common: line for line what was decided, and the text where nothing was spent
pub record AreAgreed (ds es : List Told) (r s : Report) : Type 0 where
  pub lines : AllZip Agree ds es
  pub text : All IsUnspent ds → All IsUnspent es → r.text ≡ s.text

-- whatever was asked, helped, worked and kept, and with whatever budgets
abbrev pub ReportsAgree : Type 0
ReportsAgree =
    (module_text set_text : List ℕ) (which : Which) (budget other : ℕ) (ds es : List Told) (r s : Report) → IsReport module_text set_text which budget ds r → IsReport module_text set_text which other es s → AreAgreed ds es r s
