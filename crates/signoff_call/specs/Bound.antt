-- What is answered to a set that is bound to a design.
use Rattle.std.specs.Prelude.{◌≡◌, ◌≢◌, ℕ, ◌⊎◌, ◌++◌, List, Option, Some, None, codes}
use Rattle.std.specs.Fmt.{decimal}
use Rattle.set_tree.specs.declared.path.Path.{Path}
use Rattle.set_tree.specs.declared.set.Set.{Set}
use Rattle.set_tree.specs.Formulas.{meaning_of}
use Rattle.set_tree.specs.Meaning.{Row}
use Rattle.set_tree.specs.Paths.{IsPath}
use Rattle.elab_step_design.specs.Laws.{word_design}
use Rattle.unroll_binding.specs.Binding.{Pair}
use Rattle.path_machine.specs.declared.rows.RowFault.{RowFault}
use Rattle.path_machine.specs.declared.rows.RowFault.TheVariants.{Memory}
use Rattle.path_machine.specs.Rows.{IsRead, Stands}
use Rattle.path_machine.specs.Runs.{IsRunTrace}
use Rattle.path_machine.specs.Texts.{fault_text, path_text}
use Rattle.path_machine.specs.Unmet.{IsUnmet}
use Rattle.outside.specs.Tables.{Tables}
use Rattle.signoff_words.specs.declared.command.Form.{Form}
use Rattle.desk_core_goals.specs.Keeping.{IsClausesText, KeepsProof}
use Rattle.desk_core_reports.specs.declared.book.Book.{Book}
use Rattle.desk_core_reports.specs.declared.book.Line.{Line}
use Rattle.desk_core_reports.specs.declared.report.Report.{Report}
use Rattle.desk_core_commands.specs.declared.which.Which.{Which}
use Rattle.desk_core_commands.specs.declared.which.Which.TheVariants as w
use Rattle.desk_core_goals.specs.Settled.{AddsProofsOf, AreObsOf}
use Rattle.desk_core.specs.Checks.{IsReportOf, RefusesAsked}
use Rattle.signoff_call.specs.declared.answer.Answer.{Answer}
use Rattle.desk_core_faults.specs.declared.fault.CheckFault.TheVariants as f
use Rattle.desk_core_faults.specs.Texts.{fault_line, status_of}
use Rattle.clause_check_texts.specs.Faults.{fault_text as proof_fault_text}
use Rattle.desk_core_goals.specs.declared.keep_fault.KeepFault.{KeepFault}
use Rattle.desk_core_goals.specs.declared.keep_fault.KeepFault.TheVariants as k
use Rattle.desk_core_goals.specs.declared.fault.LineFault.TheVariants as l
use Rattle.desk_core_goals.specs.Asked.{LacksName}
use Rattle.signoff_call.specs.Answers.{done, refusal, reported}
use Rattle.signoff_call.specs.Waves.{first_waved}
use Rattle.signoff_call.specs.Tasks.{IsBoundReport, RefusesBoundProof, RefusesBy, RefusesTexts, Reports, ReportsTexts, Stores, machine_shown, signed_text, stores, where_signed}

-- they are decided, or why not
abbrev pub SaysBound : (Report → Answer → Type 0) → Pair → Which → ℕ → ℕ → Book → Stores → Answer → Type 0
SaysBound Says b which budget workers book st answer =
    RefusesTexts (RefusesAsked b.set which) (AreObsOf b which) book st answer ⊎ ReportsTexts (IsBoundReport b which budget book) workers Says book st answer

abbrev pub SaysMachine : Set → Form → Report → Answer → Type 0
SaysMachine set form r answer = answer ≡ where_signed (machine_shown set form) r

abbrev pub SaysWave : Pair → List Line → Report → Answer → Type 0
SaysWave b lines r answer = answer ≡ reported r.verdicts.items (first_waved b lines r.text)

abbrev pub SaysPath : Set → List Row → Report → Answer → Type 0
SaysPath set trace r answer = (path : Path) × IsPath (meaning_of set) set trace path × (answer ≡ where_signed (signed_text (path_text set path)) r)

-- rows give the run of a design this trace
pub record Gives (b : Pair) (text : List ℕ) (trace : List Row) : Type 0 where
  pub rows : List Row
  pub read : IsRead b.set text rows
  pub run : IsRunTrace (word_design b.design b.set) b.design b.set rows trace

-- the rows are refused; or a constraint fails in the trace; or all lines are decided
abbrev pub WalksBound : Pair → List ℕ → ℕ → ℕ → Book → Stores → Answer → Type 0
WalksBound b text budget workers book st answer =
    ((fault : RowFault) × (fault ≢ Memory) × Stands b.set text fault × RefusesBy 11 (codes "rows: " ++ fault_text fault) book st answer)
    ⊎ ((trace : List Row) × Gives b text trace
    × (((t : ℕ) × IsUnmet (meaning_of b.set) b.set trace (Some t) × RefusesBy 11 (codes "rows: Unmet " ++ decimal t) book st answer)
    ⊎ (IsUnmet (meaning_of b.set) b.set trace None × SaysBound (SaysPath b.set trace) b w.All budget workers book st answer)))

-- the report of the lines of a book, of which that of a name was asked for
abbrev pub SaysAlone : List ℕ → Book → Answer → Type 0
SaysAlone name book answer = (r : Report) × IsReportOf (w.One name) book.lines.items r × Reports (λ r. r.text) r answer

-- a derivation of the line's clauses is kept, and the line is proved by it
pub record KeepsFirst (b : Pair) (name text : List ℕ) (budget : ℕ) (book : Book) (st : Stores) (answer : Answer) : Type 0 where
  pub kept : KeepsProof b name text st.before st.after book
  pub report : Report
  pub is_report : IsBoundReport b (w.One name) budget book report
  pub answer_is : Reports (λ r. r.text) report answer

-- why no derivation is kept, as an answer
abbrev pub IsRefusalOf : KeepFault → Answer → Type 0
IsRefusalOf k.NoLine a = a ≡ refusal (status_of f.NoLine) (fault_line f.NoLine)
IsRefusalOf (k.Proof fault) a = a ≡ refusal 12 (codes "proof: " ++ proof_fault_text fault)
IsRefusalOf k.Large a = a ≡ refusal 12 (codes "proof: Large")
IsRefusalOf k.Keeper a = a ≡ refusal (status_of f.Keeper) (fault_line f.Keeper)
IsRefusalOf k.Memory a = ⊥

-- no line has the name, or the keeper failed; or the text has no derivation that may be kept; or it is kept
abbrev pub AcceptsBound : Pair → List ℕ → List ℕ → ℕ → Book → Stores → Answer → Type 0
AcceptsBound b name text budget book st answer =
    RefusesTexts (RefusesAsked b.set (w.One name)) (λ obs. ⊥) book st answer
    ⊎ (RefusesBoundProof b name text book st answer ⊎ KeepsFirst b name text budget book st answer)

-- the clauses of the line of a name, or that there is no such line
abbrev pub ShowsClauses : Pair → List ℕ → Answer → Type 0
ShowsClauses b name a =
    (LacksName b.set name l.NoLine × (a ≡ refusal (status_of f.NoLine) (fault_line f.NoLine)))
    ⊎ ((text : List ℕ) × IsClausesText b name text × (a ≡ done text))
