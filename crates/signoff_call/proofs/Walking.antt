-- What is answered to a set that is bound is answered to the two texts.
use Rattle.std.proofs.Common.{◌≡◌, ℕ, List, [], ◌∷◌, map, Option, Some, None, refl, sym, ap, ◌∙◌, subst, inl, inr, ⊎_elim, arith}
use Rattle.std.specs.Prelude.{◌≢◌, ◌≤◌, ◌⊎◌, ◌++◌, Result, Ok, Err, IfOk, Vec, codes}
use Rattle.std.specs.Fmt.{decimal}
use Rattle.set_tree.specs.declared.set.Set.{Set}
use Rattle.set_tree.specs.Formulas.{meaning_of}
use Rattle.set_tree.specs.Meaning.{Row}
use Rattle.set_tree.specs.Paths.{IsPath}
use Rattle.set_tree.specs.declared.path.Path.{Path}
use Rattle.outside.specs.Faults.{Rose}
use Rattle.outside.specs.Tables.{Tables}
use Rattle.desk_core_faults.specs.declared.fault.CheckFault.{CheckFault}
use Rattle.desk_core_faults.specs.declared.fault.CheckFault.TheVariants as f
use Rattle.desk_core_faults.specs.Texts.{fault_line, status_of}
use Rattle.unroll_binding.specs.Binding.{Pair}
use Rattle.desk_core_stages.specs.Stages.{IsBoundOf, Refuses as RefusesStage}
use Rattle.path_machine.specs.declared.rows.RowFault.{RowFault}
use Rattle.path_machine.specs.declared.rows.RowFault.TheVariants.{Memory}
use Rattle.path_machine.specs.Rows.{Stands}
use Rattle.path_machine.specs.Texts.{fault_text, path_text}
use Rattle.signoff_words.specs.declared.command.Form.{Form}
use Rattle.path_machine.specs.Unmet.{IsUnmet}
use Rattle.path_machine.proofs.Carrying.{run_traces_are_the_modules}
use Rattle.clause_check_texts.specs.Faults.{fault_text as proof_fault_text}
use Rattle.desk_core_goals.specs.declared.fault.LineFault.{LineFault}
use Rattle.desk_core_goals.specs.declared.fault.LineFault.TheVariants as l
use Rattle.desk_core_goals.specs.Asked.{LacksName}
use Rattle.desk_core_goals.specs.declared.keep_fault.KeepFault.{KeepFault}
use Rattle.desk_core_goals.specs.declared.keep_fault.KeepFault.TheVariants as k
use Rattle.desk_core_goals.specs.Keeping.{IsClausesText, KeepsProof, RefusesProof}
use Rattle.desk_core_reports.specs.declared.book.Book.{Book}
use Rattle.desk_core_reports.specs.declared.book.Line.{Line as Told}
use Rattle.desk_core_reports.specs.declared.book.Verdict.{Verdict}
use Rattle.desk_core_reports.specs.declared.book.Verdict.TheVariants.{Proved}
use Rattle.desk_core_reports.specs.declared.report.Report.{Report}
use Rattle.desk_core_reports.specs.Lines.{verdict_of}
use Rattle.desk_core_commands.specs.declared.which.Which.{Which}
use Rattle.desk_core_commands.specs.declared.which.Which.TheVariants as w
use Rattle.desk_core_goals.specs.Decided.{AreDecided}
use Rattle.desk_core_goals.specs.Least.{HasLeast}
use Rattle.desk_core_goals.specs.Settled.{AddsProofsOf, AreObsOf, AreSettled}
use Rattle.desk_core.specs.Checks.{AreObsOfTexts, IsReportOf, Refuses, RefusesAsked, check_fault_of}
use Rattle.desk_core.proofs.Reporting.{adds_of_texts, asked_refuses, is_report, stage_refuses}
use Rattle.signoff_call.specs.declared.answer.Answer.{Answer}
use Rattle.signoff_call.specs.Answers.{done, refusal}
use Rattle.signoff_call.specs.Bound.{AcceptsBound, Gives, KeepsFirst, IsRefusalOf, SaysAlone, SaysBound, SaysMachine, SaysPath, SaysWave, ShowsClauses, WalksBound}
use Rattle.signoff_call.specs.Tasks.{AnswersAccept, AnswersClauses, AnswersLines, AnswersMachine, AnswersWalk, AnswersWave, RefusesBoundProof, Reports, HasTrace, IsChecked, RefusesBy, RefusesRows, RefusesTexts, ReportsTexts, ShowsMachine, ShowsPath, ShowsWave, Stores, WalksRows, IsBoundReport, machine_shown, names_text, signed_text, stores, where_signed}
use Rattle.signoff_call.proofs.Answering.{adds_none, refusal_other, turned_answered}

-- the line that a derivation was kept for is proved
proved_alone : (b : Pair) (name text : List ℕ) (before after : Option Tables) (book : Book) (r : Report) → KeepsProof b name text before after book → IsReportOf (w.One name) book.lines.items r → r.verdicts.items ≡ Proved ∷ []
proved_alone b name text before after book r k is =
    is.verdicts
    ∙ (ap (λ (ls : List Told). map (λ (d : Told). d.verdict) ls) k.told.alone
    ∙ ap (λ (v : Verdict). v ∷ []) (k.told.tells.verdict ∙ ap verdict_of k.is_proved.has))

module _ (m s : List ℕ) (b : Pair) (from : IsBoundOf m s b) (budget workers : ℕ) (book : Book) where
  -- what is said of a report may be said otherwise
  says_texts : (st : Stores) (which : Which) (Says Other : Report → Answer → Type 0) → ((r : Report) (a : Answer) → IsBoundReport b which budget book r → Says r a → Other r a) → (a : Answer) → SaysBound Says b which budget workers book st a
      → RefusesTexts (Refuses m s which) (AreObsOfTexts m s which) book st a ⊎ ReportsTexts (IsChecked m s which budget book) workers Other book st a
  says_texts st which Says Other also a h = ⊎_elim
      (λ (r : RefusesTexts (RefusesAsked b.set which) (AreObsOf b which) book st a). inl (record {
        fault = r.fault;
        refuses = asked_refuses m s b which r.fault from r.refuses;
        no_memory = r.no_memory;
        empty = r.empty;
        left = adds_of_texts m s b which from st.before st.after r.left;
        answer_is = r.answer_is;
      }))
      (λ (r : ReportsTexts (IsBoundReport b which budget book) workers Says book st a). inr (record {
        report = r.report;
        is_report = (is_report m s b which budget book.lines.items r.report from r.is_report.lines r.is_report.is, r.is_report.least);
        asked = r.asked;
        settled = r.settled;
        answer_is = also r.report a r.is_report r.answer_is;
      })) h

module _ (m s : List ℕ) (b : Pair) (from : IsBoundOf m s b) (budget workers : ℕ) (book : Book) (st : Stores) where
  pub machine_answered : {E : Type 0} (r : Result Answer E) (form : Form) → IfOk r (SaysBound (SaysMachine b.set form) b w.All budget workers book st) → IfOk r (AnswersMachine m s form budget workers book st)
  machine_answered (Ok a) form h = says_texts m s b from budget workers book st w.All (SaysMachine b.set form) (ShowsMachine m s form budget book) (λ r a is says. (b, from, is, says)) a h
  machine_answered (Err e) form h = tt

  pub wave_answered : {E : Type 0} (r : Result Answer E) (name : List ℕ) → IfOk r (SaysBound (SaysWave b book.lines.items) b (w.One name) budget workers book st) → IfOk r (AnswersWave m s name budget workers book st)
  wave_answered (Ok a) name h = says_texts m s b from budget workers book st (w.One name) (SaysWave b book.lines.items) (ShowsWave m s name budget book) (λ r a is says. (b, from, is, says)) a h
  wave_answered (Err e) name h = tt

  pub accept_answered : {E : Type 0} (r : Result Answer E) (name text : List ℕ) → IfOk r (AcceptsBound b name text budget book st) → IfOk r (AnswersAccept m s name text budget book st)
  accept_answered (Ok a) name text h = ⊎_elim
      (λ (x : RefusesTexts (RefusesAsked b.set (w.One name)) (λ obs. ⊥) book st a). inl (record {
        fault = x.fault;
        refuses = asked_refuses m s b (w.One name) x.fault from x.refuses;
        no_memory = x.no_memory;
        empty = x.empty;
        left = x.left;
        answer_is = x.answer_is;
      }))
      (λ (x : RefusesBoundProof b name text book st a ⊎ KeepsFirst b name text budget book st a). inr (
        b,
        from,
        ⊎_elim
            (λ (y : RefusesBoundProof b name text book st a). inl y)
            (λ (y : KeepsFirst b name text budget book st a). inr (record {
              kept = y.kept;
              report = y.report;
              is_report = (is_report m s b (w.One name) budget book.lines.items y.report from y.is_report.lines y.is_report.is, y.is_report.least);
              proved = proved_alone b name text st.before st.after book y.report y.kept y.is_report.is;
              answer_is = y.answer_is;
            })) x,
      )) h
  accept_answered (Err e) name text h = tt

  module _ (text : List ℕ) where
    abbrev traced : (trace : List Row) → Gives b text trace → HasTrace m s text
    traced trace gives = record {
      bound = b;
      from = from;
      rows = gives.rows;
      read = gives.read;
      trace = trace;
      run = let design = from.design_is in run_traces_are_the_modules from.modules design.flat b.design b.set gives.rows trace design.flat_of.keeps design.runs gives.run;
    }

    walked : (trace : List Row) → Gives b text trace → (a : Answer)
        → ((t : ℕ) × IsUnmet (meaning_of b.set) b.set trace (Some t) × RefusesBy 11 (codes "rows: Unmet " ++ decimal t) book st a)
        ⊎ (IsUnmet (meaning_of b.set) b.set trace None × SaysBound (SaysPath b.set trace) b w.All budget workers book st a)
        → RefusesRows m s text book st a ⊎ WalksRows m s text budget workers book st a
    walked trace gives a h = ⊎_elim
        (λ (x : (t : ℕ) × IsUnmet (meaning_of b.set) b.set trace (Some t) × RefusesBy 11 (codes "rows: Unmet " ++ decimal t) book st a). inl (inr (traced trace gives, x.0, x.1, x.2)))
        (λ (x : IsUnmet (meaning_of b.set) b.set trace None × SaysBound (SaysPath b.set trace) b w.All budget workers book st a).
        inr (traced trace gives, x.0, says_texts m s b from budget workers book st w.All (SaysPath b.set trace) (ShowsPath (traced trace gives) budget book) (λ r a is says. (says.0, says.1, is, says.2)) a x.1)) h

    walks : (a : Answer) → WalksBound b text budget workers book st a → RefusesRows m s text book st a ⊎ WalksRows m s text budget workers book st a
    walks a h = ⊎_elim
        (λ (x : (fault : RowFault) × (fault ≢ Memory) × Stands b.set text fault × RefusesBy 11 (codes "rows: " ++ fault_text fault) book st a). inl (inl (b, from, x.0, x.1, x.2, x.3)))
        (λ (x : (trace : List Row) × Gives b text trace
        × (((t : ℕ) × IsUnmet (meaning_of b.set) b.set trace (Some t) × RefusesBy 11 (codes "rows: Unmet " ++ decimal t) book st a)
        ⊎ (IsUnmet (meaning_of b.set) b.set trace None × SaysBound (SaysPath b.set trace) b w.All budget workers book st a))). walked x.0 x.1 a x.2) h

    pub walk_answered : {E : Type 0} (r : Result Answer E) → IfOk r (WalksBound b text budget workers book st) → IfOk r (AnswersWalk m s text budget workers book st)
    walk_answered (Ok a) h = inr (walks a h)
    walk_answered (Err e) h = tt

-- ---- what is answered to a set that is bound

pub says_machine : {E : Type 0} (r : Result Answer E) (set : Set) (form : Form) (bytes : List ℕ) (report : Report) → bytes ≡ machine_shown set form → IfOk r (λ a. a ≡ where_signed bytes report) → IfOk r (SaysMachine set form report)
says_machine r set form bytes report is h = subst (λ (z : List ℕ). IfOk r (λ a. a ≡ where_signed z report)) is h

pub says_path : {E : Type 0} (r : Result Answer E) (set : Set) (trace : List Row) (path : Path) (bytes : List ℕ) (report : Report) → IsPath (meaning_of set) set trace path → bytes ≡ signed_text (path_text set path)
    → IfOk r (λ a. a ≡ where_signed bytes report) → IfOk r (SaysPath set trace report)
says_path (Ok a) set trace path bytes report is same h = (path, is, h ∙ ap (λ (z : List ℕ). where_signed z report) same)
says_path (Err e) set trace path bytes report is same h = tt

module _ {E : Type 0} (b : Pair) (budget workers : ℕ) (book : Book) (st : Stores) where
  pub says_report : (r : Result Answer E) (which : Which) (Says : Report → Answer → Type 0) (report : Report) (asked : List ℕ) → AreDecided budget b which book.lines.items → IsReportOf which book.lines.items report
      → HasLeast which budget book → AreSettled workers book st.before st.after st.asked asked → IfOk r (Says report) → IfOk r (SaysBound Says b which budget workers book st)
  says_report (Ok a) which Says report asked lines is least settled says =
      inr (record { report = report; is_report = record { lines = lines; is = is; least = least }; asked = asked; settled = settled; answer_is = says })
  says_report (Err e) which Says report asked lines is least settled says = tt

  module _ (text : List ℕ) (trace : List Row) (gives : Gives b text trace) where
    pub unmet_walks : (r : Result Answer E) (t : ℕ) → IsUnmet (meaning_of b.set) b.set trace (Some t) → book.lines.items ≡ [] → st.after ≡ st.before
        → IfOk r (λ a. a ≡ refusal 11 (codes "rows: Unmet " ++ decimal t)) → IfOk r (WalksBound b text budget workers book st)
    unmet_walks (Ok a) t unmet empty same h = inr (trace, gives, inl (t, unmet, record { empty = empty; same = same; answer_is = h }))
    unmet_walks (Err e) t unmet empty same h = tt

    pub path_walks : (r : Result Answer E) → IsUnmet (meaning_of b.set) b.set trace None → IfOk r (SaysBound (SaysPath b.set trace) b w.All budget workers book st) → IfOk r (WalksBound b text budget workers book st)
    path_walks (Ok a) met h = inr (trace, gives, inr (met, h))
    path_walks (Err e) met h = tt

-- the texts by other names
pub bound_as : (m n s t : List ℕ) (b : Pair) → m ≡ n → s ≡ t → IsBoundOf m s b → IsBoundOf n t b
bound_as m n s t b module_is set_is h = subst (λ (z : List ℕ). IsBoundOf n z b) set_is (subst (λ (z : List ℕ). IsBoundOf z s b) module_is h)

pub refuses_as : (m n s t : List ℕ) (fault : CheckFault) → m ≡ n → s ≡ t → RefusesStage m s fault → RefusesStage n t fault
refuses_as m n s t fault module_is set_is h = subst (λ (z : List ℕ). RefusesStage n z fault) set_is (subst (λ (z : List ℕ). RefusesStage z s fault) module_is h)

pub left_of_bound : (m n s t : List ℕ) (b : Pair) (which : Which) → m ≡ n → s ≡ t → IsBoundOf m s b → (before after : Option Tables) → AddsProofsOf (AreObsOf b which) before after → AddsProofsOf (AreObsOfTexts n t which) before after
left_of_bound m n s t b which module_is set_is from before after h = adds_of_texts n t b which (bound_as m n s t b module_is set_is from) before after h

-- ---- lines that aren't decided

-- with no line in the book, and a keeper that has what it had
abbrev pub Lists : List ℕ → List ℕ → Answer → Type 0
Lists m s a = (book : Book) (tables : Option Tables) (asked : List ℕ) → book.lines.items ≡ [] → AnswersLines m s book (stores tables tables asked) a

pub lines_answered : (m s : List ℕ) (b : Pair) → IsBoundOf m s b → (a : Answer) → a ≡ done (names_text b.set) → Lists m s a
lines_answered m s b from a is = λ book tables asked empty. inr (record { bound = b; from = from; empty = empty; same = refl; answer_is = is })

pub lines_refused : {E : Type 0} (r : Result Answer E) (m s : List ℕ) (fault : CheckFault) → RefusesStage m s fault → IfOk r (λ _. fault ≢ f.Memory) → IfOk r (λ a. a ≡ refusal (status_of fault) (fault_line fault)) → IfOk r (Lists m s)
lines_refused (Ok a) m s fault refuses memory line = λ book tables asked empty.
    inl (record { fault = fault; refuses = refuses; no_memory = memory; empty = empty; left = adds_none (λ obs. ⊥) tables; answer_is = line })
lines_refused (Err e) m s fault refuses memory line = tt

-- no stage is a keeper
pub no_keeper : (m s : List ℕ) (fault : CheckFault) → RefusesStage m s fault → fault ≡ f.Keeper → ⊥
no_keeper m s fault refuses is = subst (λ (z : CheckFault). RefusesStage m s z) is refuses

-- ---- the clauses of a line

-- with no line in the book, and a keeper that has what it had
abbrev pub ListsIt : List ℕ → List ℕ → List ℕ → Answer → Type 0
ListsIt m s name a = (book : Book) (tables : Option Tables) (asked : List ℕ) → book.lines.items ≡ [] → AnswersClauses m s name book (stores tables tables asked) a

pub clauses_answered : {E : Type 0} (r : Result Answer E) (m s name : List ℕ) (b : Pair) → IsBoundOf m s b → IfOk r (ShowsClauses b name) → IfOk r (ListsIt m s name)
clauses_answered (Ok a) m s name b from h = λ book tables asked empty. ⊎_elim
    (λ (x : LacksName b.set name l.NoLine × (a ≡ refusal (status_of f.NoLine) (fault_line f.NoLine))). inl (record {
      fault = f.NoLine;
      refuses = (b, from, (name, inl refl, x.0));
      no_memory = λ no. absurd (cc);
      empty = empty;
      left = adds_none (λ obs. ⊥) tables;
      answer_is = x.1;
    }))
    (λ (x : (text : List ℕ) × IsClausesText b name text × (a ≡ done text)). inr (record {
      bound = b;
      from = from;
      text = x.0;
      clauses = x.1;
      empty = empty;
      same = refl;
      answer_is = x.2;
    })) h
clauses_answered (Err e) m s name b from h = tt

pub clauses_refused : {E : Type 0} (r : Result Answer E) (m s name : List ℕ) (fault : CheckFault) → RefusesStage m s fault → IfOk r (λ _. fault ≢ f.Memory) → IfOk r (λ a. a ≡ refusal (status_of fault) (fault_line fault)) → IfOk r (ListsIt m s name)
clauses_refused (Ok a) m s name fault refuses memory line = λ book tables asked empty. inl (record {
  fault = fault;
  refuses = stage_refuses m s (w.One name) fault refuses;
  no_memory = memory;
  empty = empty;
  left = adds_none (λ obs. ⊥) tables;
  answer_is = line;
})
clauses_refused (Err e) m s name fault refuses memory line = tt

no_line_for : {E : Type 0} (r : Result Answer E) (b : Pair) (name : List ℕ) (fault : LineFault) → LacksName b.set name fault → IfOk r (λ _. check_fault_of fault ≢ f.Memory)
    → IfOk r (λ a. a ≡ refusal (status_of (check_fault_of fault)) (fault_line (check_fault_of fault))) → IfOk r (ShowsClauses b name)
no_line_for (Ok a) b name l.NoLine lacks memory line = inl (lacks, line)
no_line_for (Ok a) b name l.Keeper lacks memory line = absurd lacks
no_line_for (Ok a) b name l.Memory lacks memory line = absurd (memory refl)
no_line_for (Err e) b name fault lacks memory line = tt

pub no_line_shown : {E : Type 0} (r : Result Answer E) (b : Pair) (name : List ℕ) (fault : LineFault) (shown : CheckFault) → shown ≡ check_fault_of fault → LacksName b.set name fault
    → IfOk r (λ _. shown ≢ f.Memory) → IfOk r (λ a. a ≡ refusal (status_of shown) (fault_line shown)) → IfOk r (ShowsClauses b name)
no_line_shown r b name fault shown is lacks memory line = no_line_for r b name fault lacks
    (subst (λ (z : CheckFault). IfOk r (λ _. z ≢ f.Memory)) is memory)
    (subst (λ (z : CheckFault). IfOk r (λ a. a ≡ refusal (status_of z) (fault_line z))) is line)

no_keeper_for : {E : Type 0} (r : Result Answer E) (set : Set) (name : List ℕ) (fault : LineFault) → LacksName set name fault
    → IfOk r (λ a. a ≡ refusal (status_of (check_fault_of fault)) (fault_line (check_fault_of fault))) → IfOk r (λ a. a.status ≡ 8 → ⊥)
no_keeper_for r set name l.NoLine lacks line = refusal_other r 2 8 (fault_line f.NoLine) ⊥ (λ (no : 2 ≡ 8). omega arith) line
no_keeper_for r set name l.Keeper lacks line = absurd lacks
no_keeper_for r set name l.Memory lacks line = refusal_other r 70 8 (fault_line f.Memory) ⊥ (λ (no : 70 ≡ 8). omega arith) line

pub no_line_keeper : {E : Type 0} (r : Result Answer E) (set : Set) (name : List ℕ) (fault : LineFault) (shown : CheckFault) → shown ≡ check_fault_of fault → LacksName set name fault
    → IfOk r (λ a. a ≡ refusal (status_of shown) (fault_line shown)) → IfOk r (λ a. a.status ≡ 8 → ⊥)
no_line_keeper r set name fault shown is lacks line = no_keeper_for r set name fault lacks (subst (λ (z : CheckFault). IfOk r (λ a. a ≡ refusal (status_of z) (fault_line z))) is line)

-- ---- one line by a name that was copied

module _ (b : Pair) (budget workers : ℕ) (book : Book) (st : Stores) (own name : List ℕ) (is : own ≡ name) where
  pub says_one : (Says : Report → Answer → Type 0) (report : Report) (asked : List ℕ) (a : Answer) → AreDecided budget b (w.One own) book.lines.items → IsReportOf (w.One own) book.lines.items report
      → HasLeast (w.One own) budget book → AreSettled workers book st.before st.after st.asked asked → Says report a → SaysBound Says b (w.One name) budget workers book st a
  says_one Says report asked a lines reports least settled says = subst (λ (z : List ℕ). SaysBound Says b (w.One z) budget workers book st a) is
      (inr (record { report = report; is_report = record { lines = lines; is = reports; least = least }; asked = asked; settled = settled; answer_is = says }))

  pub refused_one : {E : Type 0} (r : Result Answer E) (Says : Report → Answer → Type 0) (fault : CheckFault) → RefusesAsked b.set (w.One own) fault → book.lines.items ≡ []
      → AddsProofsOf (AreObsOf b (w.One own)) st.before st.after → IfOk r (λ _. fault ≢ f.Memory) → IfOk r (λ a. a ≡ refusal (status_of fault) (fault_line fault))
      → IfOk r (SaysBound Says b (w.One name) budget workers book st)
  refused_one r Says fault refuses empty left memory line = subst (λ (z : List ℕ). IfOk r (SaysBound Says b (w.One z) budget workers book st)) is
      (turned_answered r (RefusesAsked b.set (w.One own)) (AreObsOf b (w.One own)) (ReportsTexts (IsBoundReport b (w.One own) budget book) workers Says book st) book st fault refuses empty left memory line)

pub left_one : (b : Pair) (own name : List ℕ) (before after : Option Tables) → own ≡ name → AddsProofsOf (AreObsOf b (w.One own)) before after → AddsProofsOf (AreObsOf b (w.One name)) before after
left_one b own name before after is h = subst (λ (z : List ℕ). AddsProofsOf (AreObsOf b (w.One z)) before after) is h

-- ---- derivations of other solvers

pub says_alone : (own name : List ℕ) (book : Book) (ls : List Told) (r : Report) (a : Answer) → own ≡ name → ls ≡ book.lines.items → IsReportOf (w.One own) ls r → Reports (λ r. r.text) r a → SaysAlone name book a
says_alone own name book ls r a same lines is says = subst (λ (z : List ℕ). SaysAlone z book a) same (r, subst (λ (z : List Told). IsReportOf (w.One own) z r) lines is, says)

module _ (b : Pair) (name text : List ℕ) (budget : ℕ) (book : Book) (st : Stores) where
  left_alone : st.after ≡ st.before → AddsProofsOf (λ obs. ⊥) st.before st.after
  left_alone same = subst (λ (t : Option Tables). AddsProofsOf (λ obs. ⊥) st.before t) (sym same) (adds_none (λ obs. ⊥) st.before)

  -- it isn't kept
  pub not_accepted : {E : Type 0} (r : Result Answer E) (fault : KeepFault) → RefusesProof b name text fault → book.lines.items ≡ [] → (fault ≢ k.Memory → st.after ≡ st.before) → IfOk r (IsRefusalOf fault)
      → IfOk r (AcceptsBound b name text budget book st)
  not_accepted (Ok a) k.NoLine refuses empty same h = inl (record {
    fault = f.NoLine;
    refuses = (name, inl refl, refuses);
    no_memory = λ no. absurd (cc);
    empty = empty;
    left = left_alone (same (λ no. absurd (cc)));
    answer_is = h;
  })
  not_accepted (Ok a) (k.Proof fault) refuses empty same h = inr (inl (inl (fault, refuses, record { empty = empty; same = same (λ no. absurd (cc)); answer_is = h })))
  not_accepted (Ok a) k.Large refuses empty same h = inr (inl (inr (refuses, record { empty = empty; same = same (λ no. absurd (cc)); answer_is = h })))
  not_accepted (Ok a) k.Keeper refuses empty same h = inl (record {
    fault = f.Keeper;
    refuses = (refuses.0.goal.line ∷ [], (refuses.0.goal.line, refuses.1.is_goal.named, refl));
    no_memory = λ no. absurd (cc);
    empty = empty;
    left = left_alone (same (λ no. absurd (cc)));
    answer_is = h;
  })
  not_accepted (Ok a) k.Memory refuses empty same h = absurd h
  not_accepted (Err e) fault refuses empty same h = tt

  -- it is, and the line is proved
  pub kept_first : (a : Answer) → KeepsProof b name text st.before st.after book → AreDecided budget b (w.One name) book.lines.items → SaysAlone name book a
      → AcceptsBound b name text budget book st a
  kept_first a kept lines told = inr (inr (record { kept = kept; report = told.0; is_report = record { lines = lines; is = told.1; least = kept.told.no_least }; answer_is = told.2 }))

-- of the refusals only a keeper's has the status 8
pub not_kept_keeper : {E : Type 0} (r : Result Answer E) (fault : KeepFault) (P : Type 0) → (fault ≡ k.Keeper → P) → IfOk r (IsRefusalOf fault) → IfOk r (λ a. a.status ≡ 8 → P)
not_kept_keeper r k.NoLine P rose h = refusal_other r 2 8 (fault_line f.NoLine) P (λ (no : 2 ≡ 8). omega arith) h
not_kept_keeper r (k.Proof fault) P rose h = refusal_other r 12 8 (codes "proof: " ++ proof_fault_text fault) P (λ (no : 12 ≡ 8). omega arith) h
not_kept_keeper r k.Large P rose h = refusal_other r 12 8 (codes "proof: Large") P (λ (no : 12 ≡ 8). omega arith) h
not_kept_keeper (Ok a) k.Keeper P rose h = λ is. rose refl
not_kept_keeper (Err e) k.Keeper P rose h = tt
not_kept_keeper (Ok a) k.Memory P rose h = absurd h
not_kept_keeper (Err e) k.Memory P rose h = tt
