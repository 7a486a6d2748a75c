-- What is answered to two texts, by what is done with them.
use Rattle.std.specs.Prelude.{◌≡◌, ◌≢◌, ℕ, ◌⊎◌, ◌++◌, List, [], ◌∷◌, Option, Some, None, codes, if◌then◌else◌}
use Rattle.std.specs.Fmt.{decimal}
use Rattle.std.specs.List.{flat_map}
use Rattle.outside.specs.Tables.{Tables}
use Rattle.desk_core_faults.specs.declared.fault.CheckFault.{CheckFault}
use Rattle.desk_core_faults.specs.declared.fault.CheckFault.TheVariants as f
use Rattle.desk_core_stages.specs.Stages.{IsBoundOf, Refuses as RefusesStage}
use Rattle.desk_core_faults.specs.Texts.{fault_line, status_of}
use Rattle.set_tree.specs.declared.path.Path.{Path}
use Rattle.set_tree.specs.declared.line.Line.{Line}
use Rattle.set_tree.specs.declared.set.Set.{Set}
use Rattle.set_tree.specs.Formulas.{meaning_of}
use Rattle.set_tree.specs.Meaning.{Row}
use Rattle.set_tree.specs.Paths.{IsPath}
use Rattle.elab_step_design.specs.SetDesigns.{design_from}
use Rattle.twin_tests_laws.specs.Names.{line_name}
use Rattle.desk_core_goals.specs.Obligations.{all_lines}
use Rattle.unroll_binding.specs.Binding.{Pair}
use Rattle.path_machine.specs.declared.rows.RowFault.{RowFault}
use Rattle.path_machine.specs.declared.rows.RowFault.TheVariants.{Memory}
use Rattle.path_machine.specs.Rows.{IsRead, Stands}
use Rattle.path_machine.specs.Runs.{IsRunTrace}
use Rattle.path_machine.specs.Graphs.{machine_graph}
use Rattle.path_machine.specs.Texts.{fault_text, machine_text, path_text}
use Rattle.path_machine.specs.Unmet.{IsUnmet}
use Rattle.word_dag.specs.Nodes.{Parts}
use Rattle.signoff_call.specs.Waves.{first_waved}
use Rattle.proof_store.specs.Provers.{asked_by, kept_by}
use Rattle.desk_core_reports.specs.declared.book.Book.{Book}
use Rattle.desk_core_reports.specs.declared.book.Verdict.TheVariants.{Proved}
use Rattle.desk_core_reports.specs.declared.report.Report.{Report}
use Rattle.desk_core_commands.specs.declared.which.Which.{Which}
use Rattle.desk_core_commands.specs.declared.which.Which.TheVariants as w
use Rattle.desk_core_goals.specs.Decided.{AreDecided}
use Rattle.desk_core_goals.specs.Least.{HasLeast}
use Rattle.desk_core_goals.specs.Settled.{AddsProofsOf, AreSettled}
use Rattle.desk_core.specs.declared.checker.Checker.{Checker}
use Rattle.desk_core.specs.Checks.{AreObsOfTexts, IsReport, IsReportOf, Refuses}
use Rattle.meet_lines.specs.Meetings.{AreObsOfTexts as AreMeetObsOfTexts, IsMeetReport, Refuses as RefusesMeet}
use Rattle.clause_check_texts.specs.declared.fault.ProofFault.{ProofFault}
use Rattle.clause_check_texts.specs.Faults.{fault_text as proof_fault_text}
use Rattle.desk_core_goals.specs.declared.keep_fault.KeepFault.TheVariants.{Large}
use Rattle.desk_core_goals.specs.Keeping.{IsClausesText, KeepsProof, RefusesProof, RefusesText}
use Rattle.signoff_words.specs.declared.command.Form.{Form}
use Rattle.signoff_words.specs.declared.command.Form.TheVariants.{Words, Graph}
use Rattle.signoff_words.specs.declared.command.Task.{Task}
use Rattle.signoff_words.specs.declared.command.Task.TheVariants as t
use Rattle.signoff_call.specs.declared.answer.Answer.{Answer}
use Rattle.signoff_call.specs.Answers.{done, met, refusal, report_bytes, reported}

-- what a keeper holds before and after, where it is told, and how often each helper was asked before
pub record Stores : Type 0 where
  pub before : Option Tables
  pub after : Option Tables
  pub asked : List ℕ

abbrev pub stores : Option Tables → Option Tables → List ℕ → Stores
stores before after asked = record { before = before; after = after; asked = asked }

-- those of a checker before and after a call
abbrev pub stores_between : {R K H G : Type 0} → (K → Option Tables) → (H → ℕ) → Checker R K H G → Checker R K H G → Stores
stores_between tables asked old new = stores (kept_by tables old.prover) (kept_by tables new.prover) (asked_by asked old.prover)

-- a fault refuses two texts, or the keeper failed; the proofs that differ are of obligations of the call
pub record RefusesTexts (Refuses : CheckFault → Type 0) (OfCall : List Parts → Type 0) (book : Book) (st : Stores) (answer : Answer) : Type 0 where
  pub fault : CheckFault
  pub refuses : Refuses fault
  pub no_memory : fault ≢ f.Memory
  pub empty : book.lines.items ≡ []
  pub left : AddsProofsOf OfCall st.before st.after
  pub answer_is : answer ≡ refusal (status_of fault) (fault_line fault)

-- the answer is what is said of the report of two texts, whose lines are those of the book, settled over the keeper
pub record ReportsTexts (IsReport : Report → Type 0) (workers : ℕ) (Says : Report → Answer → Type 0) (book : Book) (st : Stores) (answer : Answer) : Type 0 where
  pub report : Report
  pub is_report : IsReport report
  pub asked : List ℕ
  pub settled : AreSettled workers book st.before st.after st.asked asked
  pub answer_is : Says report answer

-- a refusal of what has this name, no line in the book, and nothing new at the keeper
pub record RefusesBy (status : ℕ) (line : List ℕ) (book : Book) (st : Stores) (answer : Answer) : Type 0 where
  pub empty : book.lines.items ≡ []
  pub same : st.after ≡ st.before
  pub answer_is : answer ≡ refusal status line

-- ---- lines that are decided

-- the report of the lines that are asked for, and the least counterexample where it is
abbrev pub IsChecked : List ℕ → List ℕ → Which → ℕ → Book → Report → Type 0
IsChecked m s which budget book r = IsReport m s which budget book.lines.items r × HasLeast which budget book

-- the report of the lines of one set that are asked for
pub record IsBoundReport (b : Pair) (which : Which) (budget : ℕ) (book : Book) (r : Report) : Type 0 where
  pub lines : AreDecided budget b which book.lines.items
  pub is : IsReportOf which book.lines.items r
  pub least : HasLeast which budget book

-- these bytes are said of a report
abbrev pub Reports : (Report → List ℕ) → Report → Answer → Type 0
Reports said r answer = answer ≡ reported r.verdicts.items (said r)

-- the lines of two texts that are asked for, or why there are none
abbrev pub AnswersTexts : List ℕ → List ℕ → Which → ℕ → ℕ → (Report → List ℕ) → Book → Stores → Answer → Type 0
AnswersTexts m s which budget workers said book st answer =
    RefusesTexts (Refuses m s which) (AreObsOfTexts m s which) book st answer
    ⊎ ReportsTexts (IsChecked m s which budget book) workers (Reports said) book st answer

abbrev pub Meets : Report → Answer → Type 0
Meets r answer = answer ≡ met r

-- what can be met in them, or why that isn't told
abbrev pub AnswersMeet : List ℕ → List ℕ → Option (List ℕ) → ℕ → ℕ → Book → Stores → Answer → Type 0
AnswersMeet m s name budget workers book st answer =
    RefusesTexts (RefusesMeet m s name) (AreMeetObsOfTexts m s name) book st answer
    ⊎ ReportsTexts (IsMeetReport m s name budget book.lines.items) workers Meets book st answer

-- ---- the operations of a set as a machine

-- these bytes where the set is signed off, and else the report
abbrev pub where_signed : List ℕ → Report → Answer
where_signed bytes r = if r.complete then done bytes else reported r.verdicts.items r.text

-- lines of words end with one that signs off
abbrev pub signed_text : List ℕ → List ℕ
signed_text text = text ++ codes "signed off\n"

-- a machine as lines of words, or as a graph
abbrev pub machine_shown : Set → Form → List ℕ
machine_shown set Words = signed_text (machine_text set)
machine_shown set Graph = machine_graph set

-- the machine of the set whose lines the report has, where it is signed off
abbrev pub ShowsMachine : List ℕ → List ℕ → Form → ℕ → Book → Report → Answer → Type 0
ShowsMachine m s form budget book r answer = (b : Pair) × IsBoundOf m s b × IsBoundReport b w.All budget book r × (answer ≡ where_signed (machine_shown b.set form) r)

abbrev pub AnswersMachine : List ℕ → List ℕ → Form → ℕ → ℕ → Book → Stores → Answer → Type 0
AnswersMachine m s form budget workers book st answer =
    RefusesTexts (Refuses m s w.All) (AreObsOfTexts m s w.All) book st answer
    ⊎ ReportsTexts (IsChecked m s w.All budget book) workers (ShowsMachine m s form budget book) book st answer

-- ---- a counterexample as a waveform

-- the waveform of the line's counterexample where it is refuted, over the design on which the line was decided, and else the report
abbrev pub ShowsWave : List ℕ → List ℕ → List ℕ → ℕ → Book → Report → Answer → Type 0
ShowsWave m s name budget book r answer =
    (b : Pair) × IsBoundOf m s b × IsBoundReport b (w.One name) budget book r × (answer ≡ reported r.verdicts.items (first_waved b book.lines.items r.text))

abbrev pub AnswersWave : List ℕ → List ℕ → List ℕ → ℕ → ℕ → Book → Stores → Answer → Type 0
AnswersWave m s name budget workers book st answer =
    RefusesTexts (Refuses m s (w.One name)) (AreObsOfTexts m s (w.One name)) book st answer
    ⊎ ReportsTexts (IsChecked m s (w.One name) budget book) workers (ShowsWave m s name budget book) book st answer

-- ---- the path of a run

-- the trace of the run of the modules whose inputs the rows give
pub record HasTrace (m s text : List ℕ) : Type 0 where
  pub bound : Pair
  pub from : IsBoundOf m s bound
  pub rows : List Row
  pub read : IsRead bound.set text rows
  pub trace : List Row
  pub run : IsRunTrace (design_from from.modules bound.set.block bound.set) bound.design bound.set rows trace

-- a constraint fails in it, first at this cycle
abbrev pub IsUnmetAt : {m s text : List ℕ} → HasTrace m s text → Option ℕ → Type 0
IsUnmetAt h t = IsUnmet (meaning_of h.bound.set) h.bound.set h.trace t

-- the rows are refused, or the run that they give isn't constrained
abbrev pub RefusesRows : List ℕ → List ℕ → List ℕ → Book → Stores → Answer → Type 0
RefusesRows m s text book st answer =
    ((b : Pair) × IsBoundOf m s b × (fault : RowFault) × (fault ≢ Memory) × Stands b.set text fault × RefusesBy 11 (codes "rows: " ++ fault_text fault) book st answer)
    ⊎ ((h : HasTrace m s text) × (t : ℕ) × IsUnmetAt h (Some t) × RefusesBy 11 (codes "rows: Unmet " ++ decimal t) book st answer)

-- the path of the trace, where the set whose lines the report has is signed off
abbrev pub ShowsPath : {m s text : List ℕ} → HasTrace m s text → ℕ → Book → Report → Answer → Type 0
ShowsPath h budget book r answer =
    (path : Path) × IsPath (meaning_of h.bound.set) h.bound.set h.trace path × IsBoundReport h.bound w.All budget book r × (answer ≡ where_signed (signed_text (path_text h.bound.set path)) r)

-- the run meets the constraints, and all lines are decided, or why not
abbrev pub WalksRows : List ℕ → List ℕ → List ℕ → ℕ → ℕ → Book → Stores → Answer → Type 0
WalksRows m s text budget workers book st answer = (h : HasTrace m s text) × IsUnmetAt h None
    × (RefusesTexts (Refuses m s w.All) (AreObsOfTexts m s w.All) book st answer ⊎ ReportsTexts (IsChecked m s w.All budget book) workers (ShowsPath h budget book) book st answer)

-- a stage refuses the texts; or the rows are refused; or they give a run
abbrev pub AnswersWalk : List ℕ → List ℕ → List ℕ → ℕ → ℕ → Book → Stores → Answer → Type 0
AnswersWalk m s text budget workers book st answer =
    RefusesTexts (RefusesStage m s) (λ obs. ⊥) book st answer ⊎ (RefusesRows m s text book st answer ⊎ WalksRows m s text budget workers book st answer)

-- ---- lines that aren't decided

-- the names of all lines, in the order of a report
abbrev pub names_text : Set → List ℕ
names_text set = flat_map (λ (line : Line). line_name set line ++ 10 ∷ []) (all_lines set)

pub record ListsLines (m s : List ℕ) (book : Book) (st : Stores) (answer : Answer) : Type 0 where
  pub bound : Pair
  pub from : IsBoundOf m s bound
  pub empty : book.lines.items ≡ []
  pub same : st.after ≡ st.before
  pub answer_is : answer ≡ done (names_text bound.set)

abbrev pub AnswersLines : List ℕ → List ℕ → Book → Stores → Answer → Type 0
AnswersLines m s book st answer = RefusesTexts (RefusesStage m s) (λ obs. ⊥) book st answer ⊎ ListsLines m s book st answer

-- ---- the clauses of a line

pub record ListsClauses (m s name : List ℕ) (book : Book) (st : Stores) (answer : Answer) : Type 0 where
  pub bound : Pair
  pub from : IsBoundOf m s bound
  pub text : List ℕ
  pub clauses : IsClausesText bound name text
  pub empty : book.lines.items ≡ []
  pub same : st.after ≡ st.before
  pub answer_is : answer ≡ done text

abbrev pub AnswersClauses : List ℕ → List ℕ → List ℕ → Book → Stores → Answer → Type 0
AnswersClauses m s name book st answer = RefusesTexts (Refuses m s (w.One name)) (λ obs. ⊥) book st answer ⊎ ListsClauses m s name book st answer

-- ---- derivations of other solvers

-- the text has no derivation of the line's clauses, or one that may not be kept
abbrev pub RefusesBoundProof : Pair → List ℕ → List ℕ → Book → Stores → Answer → Type 0
RefusesBoundProof b name text book st answer =
    ((fault : ProofFault) × RefusesText b name text fault × RefusesBy 12 (codes "proof: " ++ proof_fault_text fault) book st answer)
    ⊎ (RefusesProof b name text Large × RefusesBy 12 (codes "proof: Large") book st answer)

-- a derivation of the line's clauses is kept, and the line is proved by it
pub record KeepsAndProves (m s name text : List ℕ) (bound : Pair) (budget : ℕ) (book : Book) (st : Stores) (answer : Answer) : Type 0 where
  pub kept : KeepsProof bound name text st.before st.after book
  pub report : Report
  pub is_report : IsChecked m s (w.One name) budget book report
  pub proved : report.verdicts.items ≡ Proved ∷ []
  pub answer_is : Reports (λ r. r.text) report answer

-- a stage refuses the texts, no line has the name, or the keeper failed; or the proof is refused; or it is kept
abbrev pub AnswersAccept : List ℕ → List ℕ → List ℕ → List ℕ → ℕ → Book → Stores → Answer → Type 0
AnswersAccept m s name text budget book st answer =
    RefusesTexts (Refuses m s (w.One name)) (λ obs. ⊥) book st answer
    ⊎ ((b : Pair) × IsBoundOf m s b × (RefusesBoundProof b name text book st answer ⊎ KeepsAndProves m s name text b budget book st answer))

-- ---- all of them

-- of two texts, and of the text of the third file
abbrev pub AnswersTask : Task → List ℕ → List ℕ → List ℕ → ℕ → ℕ → Book → Stores → Answer → Type 0
AnswersTask (t.Decide which) m s third budget workers book st answer = AnswersTexts m s which budget workers (report_bytes which book) book st answer
AnswersTask (t.Wave name) m s third budget workers book st answer = AnswersWave m s name budget workers book st answer
AnswersTask (t.Meet name) m s third budget workers book st answer = AnswersMeet m s name budget workers book st answer
AnswersTask (t.Machine form) m s third budget workers book st answer = AnswersMachine m s form budget workers book st answer
AnswersTask (t.Walk rows) m s third budget workers book st answer = AnswersWalk m s third budget workers book st answer
AnswersTask t.Lines m s third budget workers book st answer = AnswersLines m s book st answer
AnswersTask (t.Clauses name) m s third budget workers book st answer = AnswersClauses m s name book st answer
AnswersTask (t.Accept given) m s third budget workers book st answer = AnswersAccept m s given.line third budget book st answer

-- what is left at the keeper, whatever is answered: each proof that differs is one of an obligation of the lines that are decided, under its text
abbrev pub LeavesTask : Task → List ℕ → List ℕ → Option Tables → Option Tables → Type 0
LeavesTask (t.Decide which) m s before after = AddsProofsOf (AreObsOfTexts m s which) before after
LeavesTask (t.Wave name) m s before after = AddsProofsOf (AreObsOfTexts m s (w.One name)) before after
LeavesTask (t.Meet name) m s before after = AddsProofsOf (AreMeetObsOfTexts m s name) before after
LeavesTask (t.Machine form) m s before after = AddsProofsOf (AreObsOfTexts m s w.All) before after
LeavesTask (t.Walk rows) m s before after = AddsProofsOf (AreObsOfTexts m s w.All) before after
LeavesTask t.Lines m s before after = after ≡ before
LeavesTask (t.Clauses name) m s before after = after ≡ before
LeavesTask (t.Accept given) m s before after = AddsProofsOf (AreObsOfTexts m s (w.One given.line)) before after
