-- What is answered, and with which status.
use Rattle.std.proofs.Common.{◌≡◌, ◌<◌, List, [], ℕ, sym, ap, ◌∙◌, subst, inl, inr, ⊎_elim, Ok, Err, Option, Some, None, Bool, true, false, refl, arith}
use Rattle.std.specs.Prelude.{◌≢◌, ◌+◌, ◌^◌, ◌++◌, ◌⊎◌, ◌↔◌, IfOk, IsTrue, Result, codes, if◌then◌else◌}
use Rattle.std.specs.Fmt.{decimal}
use Rattle.std.specs.List.{list_any}
use Rattle.std.specs.Io.KnownBytes.{Appends}
use Rattle.outside.specs.Faults.{Rose}
use Rattle.outside.specs.Port.{Wire}
use Rattle.outside.specs.Tables.{Tables}
use Rattle.proof_store.specs.declared.moving.Moved.{Moved}
use Rattle.proof_store.specs.Moves.{MovesRows, Walks}
use Rattle.proof_store.specs.Stored.{AddsProofs, Told}
use Rattle.word_dag.specs.Nodes.{Parts}
use Rattle.unroll_binding.specs.Binding.{Pair}
use Rattle.desk_core_stages.specs.Stages.{IsBoundOf, Refuses as RefusesStage}
use Rattle.path_machine.specs.declared.rows.RowFault.{RowFault}
use Rattle.path_machine.specs.declared.rows.RowFault.TheVariants.{Memory as NoMemory}
use Rattle.path_machine.specs.Rows.{Stands}
use Rattle.path_machine.specs.Texts.{fault_text, path_text}
use Rattle.clause_check_texts.specs.declared.fault.ProofFault.{ProofFault}
use Rattle.clause_check_texts.specs.Faults.{fault_text as proof_fault_text}
use Rattle.desk_core_goals.specs.declared.keep_fault.KeepFault.TheVariants.{Large}
use Rattle.desk_core_goals.specs.Keeping.{RefusesProof, RefusesText}
use Rattle.desk_core_faults.specs.declared.fault.CheckFault.{CheckFault}
use Rattle.desk_core_faults.specs.declared.fault.CheckFault.TheVariants as f
use Rattle.desk_core_faults.specs.Texts.{fault_line, status_of}
use Rattle.desk_core_reports.specs.declared.book.Book.{Book}
use Rattle.desk_core_reports.specs.declared.book.Verdict.{Verdict}
use Rattle.desk_core_reports.specs.declared.report.Report.{Report}
use Rattle.desk_core_commands.specs.declared.which.Which.{Which}
use Rattle.desk_core_commands.specs.declared.which.Which.TheVariants as w
use Rattle.desk_core_goals.specs.Settled.{AddsProofsOf}
use Rattle.desk_core_reports.specs.Lines.{is_proved}
use Rattle.desk_core.specs.Checks.{AreObsOfTexts, IsReport, Refuses}
use Rattle.meet_lines.specs.Meetings.{AreObsOfTexts as AreMeetObsOfTexts, IsMeetReport, Refuses as RefusesMeet}
use Rattle.desk_http_connection.specs.declared.serve.ServeFault.{ServeFault}
use Rattle.desk_http_connection.specs.declared.serve.ServeFault.TheVariants.{Memory, Next}
use Rattle.desk_http.specs.Serving.{Line as Wires, ServesMany, ServesOne, ServesQuota, State, StopsWithin, line, none}
use Rattle.demo_gen.specs.Texts.{module_text, set_text}
use Rattle.signoff_words.specs.declared.command.Command.{Command}
use Rattle.signoff_words.specs.declared.command.Command.TheVariants as c
use Rattle.signoff_words.specs.declared.command.Job.{Job}
use Rattle.signoff_words.specs.declared.command.Service.{Service}
use Rattle.signoff_words.specs.declared.command.Task.{Task}
use Rattle.signoff_words.specs.declared.command.Task.TheVariants as t
use Rattle.signoff_call.specs.declared.answer.Answer.{Answer}
use Rattle.signoff_call.specs.declared.files.Read.{Read}
use Rattle.signoff_call.specs.declared.files.Read.TheVariants.{All, NoModule, NoThird, NoSet}
use Rattle.signoff_call.specs.declared.files.Texts.{Texts}
use Rattle.signoff_call.specs.Answers.{done, is_refuted, is_spent, met, moved_text, refusal, report_bytes, reported, summary}
use Rattle.signoff_call.specs.Waves.{first_waved}
use Rattle.signoff_call.specs.Tasks.{AnswersAccept, AnswersMeet, AnswersTask, AnswersTexts, AnswersWalk, HasTrace, IsChecked, IsUnmetAt, KeepsAndProves, LeavesTask, ListsClauses, ListsLines, Meets, RefusesBoundProof, RefusesBy, RefusesRows, RefusesTexts, Reports, ReportsTexts, ShowsMachine, ShowsPath, ShowsWave, Stores, WalksRows, machine_shown, names_text, signed_text, stores, where_signed}
use Rattle.signoff_call.specs.Run.{Answers, AnswersJob, AnswersMove, AnswersService, AppendsPrefix, Around, Delivers, IsRead, LeavesRead, LeavesRows, LeavesServed, LeavesTexts, Reads, around, limits_for, third_name, quota_of, refused_status, served_text, stores_of}

pub texts_answered : {E : Type 0} (r : Result Answer E) (j : Job) (read : Read) (texts : Texts) (book : Book) (st : Stores) → read ≡ All texts →
    IfOk r (AnswersTask j.task texts.module texts.set texts.third j.budget j.workers book st) → IfOk r (AnswersJob j read book st)
texts_answered r j read texts book st is h = subst (λ (z : Read). IfOk r (AnswersJob j z book st)) (sym is) h

pub turned_answered : {E : Type 0} (r : Result Answer E) (Refuses : CheckFault → Type 0) (OfCall : List Parts → Type 0) (Reports : Answer → Type 0) (book : Book) (st : Stores) (fault : CheckFault) →
    Refuses fault → book.lines.items ≡ [] → AddsProofsOf OfCall st.before st.after → IfOk r (λ _. fault ≢ f.Memory) →
    IfOk r (λ a. a ≡ refusal (status_of fault) (fault_line fault)) → IfOk r (λ a. RefusesTexts Refuses OfCall book st a ⊎ Reports a)
turned_answered (Ok a) Refuses OfCall Reports book st fault refuses empty left memory line =
    inl (record { fault = fault; refuses = refuses; no_memory = memory; empty = empty; left = left; answer_is = line })
turned_answered (Err e) Refuses OfCall Reports book st fault refuses empty left memory line = tt

-- the texts and what is asked, by other names
pub left_of : (m n s t : List ℕ) (which other : Which) (before after : Option Tables) → m ≡ n → s ≡ t → which ≡ other → AddsProofsOf (AreObsOfTexts m s which) before after →
    AddsProofsOf (AreObsOfTexts n t other) before after
left_of m n s t which other before after module_is set_is which_is h =
    subst (λ (w : Which). AddsProofsOf (AreObsOfTexts n t w) before after) which_is
    (subst (λ (z : List ℕ). AddsProofsOf (AreObsOfTexts n z which) before after) set_is
    (subst (λ (z : List ℕ). AddsProofsOf (AreObsOfTexts z s which) before after) module_is h))

pub left_met : (m n s t : List ℕ) (name : Option (List ℕ)) (before after : Option Tables) → m ≡ n → s ≡ t → AddsProofsOf (AreMeetObsOfTexts m s name) before after → AddsProofsOf (AreMeetObsOfTexts n t name) before after
left_met m n s t name before after module_is set_is h =
    subst (λ (z : List ℕ). AddsProofsOf (AreMeetObsOfTexts n z name) before after) set_is
    (subst (λ (z : List ℕ). AddsProofsOf (AreMeetObsOfTexts z s name) before after) module_is h)

-- of the faults only a keeper's has the status 8
is_keeper : (fault : CheckFault) (P : Type 0) → (fault ≡ f.Keeper → P) → status_of fault ≡ 8 → P
is_keeper (f.Module fault) P rose h = let no : 3 ≡ 8 = h in absurd (omega arith)
is_keeper (f.Set stop) P rose h = let no : 4 ≡ 8 = h in absurd (omega arith)
is_keeper (f.Bind fault) P rose h = let no : 5 ≡ 8 = h in absurd (omega arith)
is_keeper f.NoLine P rose h = let no : 2 ≡ 8 = h in absurd (omega arith)
is_keeper f.Keeper P rose h = rose refl
is_keeper f.Memory P rose h = let no : 70 ≡ 8 = h in absurd (omega arith)

pub turned_keeper : {E : Type 0} (r : Result Answer E) (fault : CheckFault) (P : Type 0) → (fault ≡ f.Keeper → P) → IfOk r (λ a. a ≡ refusal (status_of fault) (fault_line fault)) →
    IfOk r (λ a. a.status ≡ 8 → P)
turned_keeper (Ok a) fault P rose line = λ is. is_keeper fault P rose (sym (ap (λ (z : Answer). z.status) line) ∙ is)
turned_keeper (Err e) fault P rose line = tt

no_8 : (a b : Bool) (n : ℕ) → n ≡ 8 → (if a then 1 else if b then 10 else 0) ≡ n → ⊥
no_8 true b n eight h = let is : 1 ≡ n = h in omega arith
no_8 false true n eight h = let is : 10 ≡ n = h in omega arith
no_8 false false n eight h = let is : 0 ≡ n = h in omega arith

-- no report has it
pub reported_keeper : (a : Answer) (vs : List Verdict) (bytes : List ℕ) (P : Type 0) → a ≡ reported vs bytes → a.status ≡ 8 → P
reported_keeper a vs bytes P same is = absurd (no_8 (list_any is_refuted vs) (list_any is_spent vs) a.status is (sym (ap (λ (z : Answer). z.status) same)))

pub met_keeper : (a : Answer) (r : Report) (P : Type 0) → a ≡ met r → a.status ≡ 8 → P
met_keeper a r P same is = absurd (no_8 (list_any is_proved r.verdicts.items) (list_any is_spent r.verdicts.items) a.status is (sym (ap (λ (z : Answer). z.status) same)))

-- ---- what is done with two texts

-- the task is this one
pub task_answered : {E : Type 0} (r : Result Answer E) (task other : Task) (m s third : List ℕ) (budget workers : ℕ) (book : Book) (st : Stores) → task ≡ other →
    IfOk r (AnswersTask other m s third budget workers book st) → IfOk r (AnswersTask task m s third budget workers book st)
task_answered r task other m s third budget workers book st is h = subst (λ (z : Task). IfOk r (AnswersTask z m s third budget workers book st)) (sym is) h

pub meet_answered : {E : Type 0} (r : Result Answer E) (task : Task) (name other : Option (List ℕ)) (m s third : List ℕ) (budget workers : ℕ) (book : Book) (st : Stores) → task ≡ t.Meet name → other ≡ name →
    IfOk r (AnswersMeet m s other budget workers book st) → IfOk r (AnswersTask task m s third budget workers book st)
meet_answered r task name other m s third budget workers book st is same h =
    task_answered r task (t.Meet name) m s third budget workers book st is (subst (λ (z : Option (List ℕ)). IfOk r (AnswersMeet m s z budget workers book st)) same h)

pub task_left : (task other : Task) (m s : List ℕ) (before after : Option Tables) → task ≡ other → LeavesTask other m s before after → LeavesTask task m s before after
task_left task other m s before after is h = subst (λ (z : Task). LeavesTask z m s before after) (sym is) h

pub meet_left : (task : Task) (name other : Option (List ℕ)) (m s : List ℕ) (before after : Option Tables) → task ≡ t.Meet name → other ≡ name → AddsProofsOf (AreMeetObsOfTexts m s other) before after → LeavesTask task m s before after
meet_left task name other m s before after is same h =
    task_left task (t.Meet name) m s before after is (subst (λ (z : Option (List ℕ)). AddsProofsOf (AreMeetObsOfTexts m s z) before after) same h)

-- ---- what nothing adds

told_none : (t : Option Tables) → Told (AddsProofs []) t t
told_none (Some t) = record { blocks = refl; signs = refl; proofs = λ key. inl refl }
told_none None = tt

pub adds_none : (OfCall : List Parts → Type 0) (t : Option Tables) → AddsProofsOf OfCall t t
adds_none OfCall t = ([], inl refl, told_none t)

pub task_none : (task : Task) (m s : List ℕ) (t : Option Tables) → LeavesTask task m s t t
task_none (t.Decide which) m s x = adds_none (AreObsOfTexts m s which) x
task_none (t.Wave name) m s x = adds_none (AreObsOfTexts m s (w.One name)) x
task_none (t.Meet name) m s x = adds_none (AreMeetObsOfTexts m s name) x
task_none (t.Machine form) m s x = adds_none (AreObsOfTexts m s w.All) x
task_none (t.Walk rows) m s x = adds_none (AreObsOfTexts m s w.All) x
task_none t.Lines m s x = refl
task_none (t.Clauses name) m s x = refl
task_none (t.Accept given) m s x = adds_none (AreObsOfTexts m s (w.One given.line)) x

pub read_none : (j : Job) (read : Read) (t : Option Tables) → LeavesRead j read t t
read_none j NoModule t = refl
read_none j NoSet t = refl
read_none j NoThird t = refl
read_none j (All texts) t = task_none j.task texts.module texts.set t

-- what comes of texts that were read
pub read_left : (j : Job) (read : Read) (texts : Texts) (before after : Option Tables) → read ≡ All texts → LeavesTask j.task texts.module texts.set before after →
    LeavesRead j read before after
read_left j read texts before after is h = subst (λ (z : Read). LeavesRead j z before after) (sym is) h

texts_left : (shelf : Option (List ℕ → Option (List ℕ))) (faults now : ℕ) (j : Job) (read : Read) (before after : Option Tables) → IsRead shelf faults now j read →
    LeavesRead j read before after → LeavesTexts shelf j before after
texts_left shelf faults now j NoModule before after read h = inl h
texts_left shelf faults now j NoSet before after read h = inl h
texts_left shelf faults now j NoThird before after read h = inl h
texts_left shelf faults now j (All texts) before after read h = inr (texts.module, texts.set, read.0, read.1, h)

-- ---- statuses that a check of texts doesn't answer

-- 6, 7 or 9
pub record IsApart (n : ℕ) : Type 0 where
  pub low : 5 < n
  pub high : n < 10
  pub not_8 : n ≡ 8 → ⊥

apart_6 : IsApart 6
apart_6 = record { low = omega arith; high = omega arith; not_8 = λ h. omega arith }

apart_7 : IsApart 7
apart_7 = record { low = omega arith; high = omega arith; not_8 = λ h. omega arith }

apart_9 : IsApart 9
apart_9 = record { low = omega arith; high = omega arith; not_8 = λ h. omega arith }

fault_other : (fault : CheckFault) (n : ℕ) → IsApart n → status_of fault ≡ n → ⊥
fault_other (f.Module fault) n p h = let is : 3 ≡ n = h in let low : 5 < n = p.low in omega arith
fault_other (f.Set stop) n p h = let is : 4 ≡ n = h in let low : 5 < n = p.low in omega arith
fault_other (f.Bind fault) n p h = let is : 5 ≡ n = h in let low : 5 < n = p.low in omega arith
fault_other f.NoLine n p h = let is : 2 ≡ n = h in let low : 5 < n = p.low in omega arith
fault_other f.Keeper n p h = p.not_8 (sym h)
fault_other f.Memory n p h = let is : 70 ≡ n = h in let high : n < 10 = p.high in omega arith

verdicts_other : (a b : Bool) (n : ℕ) → IsApart n → (if a then 1 else if b then 10 else 0) ≡ n → ⊥
verdicts_other true b n p h = let is : 1 ≡ n = h in let low : 5 < n = p.low in omega arith
verdicts_other false true n p h = let is : 10 ≡ n = h in let high : n < 10 = p.high in omega arith
verdicts_other false false n p h = let is : 0 ≡ n = h in let low : 5 < n = p.low in omega arith

done_other : (n : ℕ) → IsApart n → 0 ≡ n → ⊥
done_other n p is = let low : 5 < n = p.low in omega arith

usage_apart : (n : ℕ) → IsApart n → 2 ≡ n → ⊥
usage_apart n p is = let low : 5 < n = p.low in omega arith

status_is : (a b : Answer) (n : ℕ) → a ≡ b → a.status ≡ n → b.status ≡ n
status_is a b n same is = sym (ap (λ (z : Answer). z.status) same) ∙ is

whole_other : (Refuses : CheckFault → Type 0) (OfCall : List Parts → Type 0) (IsReport : Report → Type 0) (workers : ℕ) (Says : Report → Answer → Type 0) (book : Book) (st : Stores) (a : Answer) (n : ℕ) → IsApart n →
    ((r : Report) → Says r a → a.status ≡ n → ⊥) → RefusesTexts Refuses OfCall book st a ⊎ ReportsTexts IsReport workers Says book st a → a.status ≡ n → ⊥
whole_other Refuses OfCall IsReport workers Says book st a n p other h is = ⊎_elim
    (λ (r : RefusesTexts Refuses OfCall book st a). fault_other r.fault n p (status_is a (refusal (status_of r.fault) (fault_line r.fault)) n r.answer_is is))
    (λ (r : ReportsTexts IsReport workers Says book st a). other r.report r.answer_is is) h

reports_other : (vs : List Verdict) (bytes : List ℕ) (a : Answer) (n : ℕ) → IsApart n → a ≡ reported vs bytes → a.status ≡ n → ⊥
reports_other vs bytes a n p same is = verdicts_other (list_any is_refuted vs) (list_any is_spent vs) n p (status_is a (reported vs bytes) n same is)

texts_other : (m s : List ℕ) (which : Which) (budget workers : ℕ) (said : Report → List ℕ) (book : Book) (st : Stores) (a : Answer) (n : ℕ) → IsApart n →
    AnswersTexts m s which budget workers said book st a → a.status ≡ n → ⊥
texts_other m s which budget workers said book st a n p h is =
    whole_other (Refuses m s which) (AreObsOfTexts m s which) (IsChecked m s which budget book) workers (Reports said) book st a n p
    (λ r same. reports_other r.verdicts.items (said r) a n p same) h is

signed_other : (bytes : List ℕ) (r : Report) (a : Answer) (n : ℕ) → IsApart n → a ≡ where_signed bytes r → a.status ≡ n → ⊥
signed_other bytes r a n p same is = by r.complete same
  where
    by : (b : Bool) → a ≡ (if b then done bytes else reported r.verdicts.items r.text) → ⊥
    by true same = done_other n p (status_is a (done bytes) n same is)
    by false same = reports_other r.verdicts.items r.text a n p same is

-- 11 and 12 are none of them
rows_other : (line : List ℕ) (book : Book) (st : Stores) (a : Answer) (n : ℕ) → IsApart n → RefusesBy 11 line book st a → a.status ≡ n → ⊥
rows_other line book st a n p r is = let eleven : 11 ≡ n = status_is a (refusal 11 line) n r.answer_is is in let high : n < 10 = p.high in omega arith

proof_other : (line : List ℕ) (book : Book) (st : Stores) (a : Answer) (n : ℕ) → IsApart n → RefusesBy 12 line book st a → a.status ≡ n → ⊥
proof_other line book st a n p r is = let twelve : 12 ≡ n = status_is a (refusal 12 line) n r.answer_is is in let high : n < 10 = p.high in omega arith

stage_other : (Refuses : CheckFault → Type 0) (OfCall : List Parts → Type 0) (book : Book) (st : Stores) (a : Answer) (n : ℕ) → IsApart n → RefusesTexts Refuses OfCall book st a → a.status ≡ n → ⊥
stage_other Refuses OfCall book st a n p r is = fault_other r.fault n p (status_is a (refusal (status_of r.fault) (fault_line r.fault)) n r.answer_is is)

accept_other : (m s name text : List ℕ) (budget : ℕ) (book : Book) (st : Stores) (a : Answer) (n : ℕ) → IsApart n → AnswersAccept m s name text budget book st a → a.status ≡ n → ⊥
accept_other m s name text budget book st a n p h is = ⊎_elim
    (λ (r : RefusesTexts (Refuses m s (w.One name)) (λ obs. ⊥) book st a). stage_other (Refuses m s (w.One name)) (λ obs. ⊥) book st a n p r is)
    (λ (x : (b : Pair) × IsBoundOf m s b × (RefusesBoundProof b name text book st a ⊎ KeepsAndProves m s name text b budget book st a)). ⊎_elim
    (λ (r : RefusesBoundProof x.0 name text book st a). refused x.0 r)
    (λ (k : KeepsAndProves m s name text x.0 budget book st a). reports_other k.report.verdicts.items k.report.text a n p k.answer_is is) x.2) h
  where
    refused : (b : Pair) → RefusesBoundProof b name text book st a → ⊥
    refused b r = ⊎_elim
        (λ (x : (fault : ProofFault) × RefusesText b name text fault × RefusesBy 12 (codes "proof: " ++ proof_fault_text fault) book st a). proof_other (codes "proof: " ++ proof_fault_text x.0) book st a n p x.2 is)
        (λ (x : RefusesProof b name text Large × RefusesBy 12 (codes "proof: Large") book st a). proof_other (codes "proof: Large") book st a n p x.1 is) r

walk_other : (m s text : List ℕ) (budget workers : ℕ) (book : Book) (st : Stores) (a : Answer) (n : ℕ) → IsApart n → AnswersWalk m s text budget workers book st a → a.status ≡ n → ⊥
walk_other m s text budget workers book st a n p h is = ⊎_elim
    (λ (r : RefusesTexts (RefusesStage m s) (λ obs. ⊥) book st a). fault_other r.fault n p (status_is a (refusal (status_of r.fault) (fault_line r.fault)) n r.answer_is is))
    (λ rest. ⊎_elim (λ (r : RefusesRows m s text book st a). refused r) (λ (x : WalksRows m s text budget workers book st a). walked x) rest) h
  where
    refused : RefusesRows m s text book st a → ⊥
    refused r = ⊎_elim
        (λ (x : (b : Pair) × IsBoundOf m s b × (fault : RowFault) × (fault ≢ NoMemory) × Stands b.set text fault × RefusesBy 11 (codes "rows: " ++ fault_text fault) book st a). rows_other (codes "rows: " ++ fault_text x.2) book st a n p x.5 is)
        (λ (x : (h : HasTrace m s text) × (t : ℕ) × IsUnmetAt h (Some t) × RefusesBy 11 (codes "rows: Unmet " ++ decimal t) book st a). rows_other (codes "rows: Unmet " ++ decimal x.1) book st a n p x.3 is) r

    walked : WalksRows m s text budget workers book st a → ⊥
    walked x =
        whole_other (Refuses m s w.All) (AreObsOfTexts m s w.All) (IsChecked m s w.All budget book) workers (ShowsPath x.0 budget book) book st a n p
        (λ r shows. signed_other (signed_text (path_text x.0.bound.set shows.0)) r a n p shows.3) x.2 is

task_other : (task : Task) (m s third : List ℕ) (budget workers : ℕ) (book : Book) (st : Stores) (a : Answer) (n : ℕ) → IsApart n → AnswersTask task m s third budget workers book st a → a.status ≡ n → ⊥
task_other (t.Decide which) m s third budget workers book st a n p h is = texts_other m s which budget workers (report_bytes which book) book st a n p h is
task_other (t.Meet name) m s third budget workers book st a n p h is =
    whole_other (RefusesMeet m s name) (AreMeetObsOfTexts m s name) (IsMeetReport m s name budget book.lines.items) workers Meets book st a n p
    (λ r same is. verdicts_other (list_any is_proved r.verdicts.items) (list_any is_spent r.verdicts.items) n p (status_is a (met r) n same is)) h is
task_other (t.Machine form) m s third budget workers book st a n p h is =
    whole_other (Refuses m s w.All) (AreObsOfTexts m s w.All) (IsChecked m s w.All budget book) workers (ShowsMachine m s form budget book) book st a n p
    (λ r shows. signed_other (machine_shown shows.0.set form) r a n p shows.3) h is
task_other (t.Wave name) m s third budget workers book st a n p h is =
    whole_other (Refuses m s (w.One name)) (AreObsOfTexts m s (w.One name)) (IsChecked m s (w.One name) budget book) workers (ShowsWave m s name budget book) book st a n p
    (λ r shows. reports_other r.verdicts.items (first_waved shows.0 book.lines.items r.text) a n p shows.3) h is
task_other (t.Clauses name) m s third budget workers book st a n p h is = ⊎_elim
    (λ (r : RefusesTexts (Refuses m s (w.One name)) (λ obs. ⊥) book st a). stage_other (Refuses m s (w.One name)) (λ obs. ⊥) book st a n p r is)
    (λ (l : ListsClauses m s name book st a). done_other n p (status_is a (done l.text) n l.answer_is is)) h
task_other (t.Accept given) m s third budget workers book st a n p h is = accept_other m s given.line third budget book st a n p h is
task_other (t.Walk rows) m s third budget workers book st a n p h is = walk_other m s third budget workers book st a n p h is
task_other t.Lines m s third budget workers book st a n p h is = ⊎_elim
    (λ (r : RefusesTexts (RefusesStage m s) (λ obs. ⊥) book st a). fault_other r.fault n p (status_is a (refusal (status_of r.fault) (fault_line r.fault)) n r.answer_is is))
    (λ (l : ListsLines m s book st a). done_other n p (status_is a (done (names_text l.bound.set)) n l.answer_is is)) h

job_other : (j : Job) (read : Read) (book : Book) (st : Stores) (a : Answer) (n : ℕ) → IsApart n → (6 ≡ n → ⊥) → AnswersJob j read book st a → a.status ≡ n → ⊥
job_other j NoModule book st a n p not_6 h is = not_6 (status_is a (refusal 6 (codes "read: " ++ j.module)) n h.answer_is is)
job_other j NoSet book st a n p not_6 h is = not_6 (status_is a (refusal 6 (codes "read: " ++ j.set)) n h.answer_is is)
job_other j NoThird book st a n p not_6 h is = not_6 (status_is a (refusal 6 (codes "read: " ++ third_name j.task)) n h.answer_is is)
job_other j (All texts) book st a n p not_6 h is = task_other j.task texts.module texts.set texts.third j.budget j.workers book st a n p h is

move_other : (book : Book) (st : Stores) (a : Answer) (n : ℕ) → IsApart n → AnswersMove book st a → a.status ≡ n → ⊥
move_other book st a n p h is = ⊎_elim
    (λ (same : a ≡ refusal 8 (codes "keeper")). p.not_8 (sym (status_is a (refusal 8 (codes "keeper")) n same is)))
    (λ (m : (m : Moved) × Told (Walks (2 ^ 40) m) st.before st.after × (IsTrue m.more ↔ (m.moved + m.left ≡ 2 ^ 40)) × (a ≡ done (moved_text m))).
    done_other n p (status_is a (done (moved_text m.0)) n m.3 is)) h.is

service_other : (s : Service) (a b : Around) (x : Answer) (n : ℕ) → IsApart n → (9 ≡ n → ⊥) → AnswersService s a b x → x.status ≡ n → ⊥
service_other s a b x n p not_9 h is = ⊎_elim
    (λ (all : (m : ℕ) × ServesQuota (limits_for s) (quota_of s) a.line a.desk m b.line b.desk × (x ≡ done (served_text m))). done_other n p (status_is x (done (served_text all.0)) n all.2 is))
    (λ (stops : StopsWithin (limits_for s) (quota_of s) a.line a.desk Next b.line b.desk × (x ≡ refusal 9 (codes "port"))). not_9 (status_is x (refusal 9 (codes "port")) n stops.1 is)) h

usage_apart_of : (book : Book) (st : Stores) (a : Answer) (n : ℕ) → IsApart n → RefusesBy 2 (codes "usage") book st a → a.status ≡ n → ⊥
usage_apart_of book st a n p h is = usage_apart n p (status_is a (refusal 2 (codes "usage")) n h.answer_is is)

-- no answer has the status 7
pub no_7 : (cmd : Option Command) (read : Read) (a b : Around) (x : Answer) → Answers cmd read a b x → x.status ≡ 7 → ⊥
no_7 None read a b x h is = usage_apart_of b.desk.book (stores_of a b) x 7 apart_7 h.1 is
no_7 (Some (c.Texts job)) read a b x h is = job_other job read b.desk.book (stores_of a b) x 7 apart_7 (λ no. omega arith) h.1 is
no_7 (Some (c.Demo n)) read a b x h is = texts_other (module_text n) (set_text n) w.All 20000 4 (summary n) b.desk.book (stores_of a b) x 7 apart_7 h.1 is
no_7 (Some (c.Serve service)) read a b x h is = service_other service a b x 7 apart_7 (λ no. omega arith) h is
no_7 (Some (c.Migrate file)) read a b x h is = move_other b.desk.book (stores_of a b) x 7 apart_7 h.1 is

job_6 : (shelf : Option (List ℕ → Option (List ℕ))) (before now : ℕ) (j : Job) (read : Read) (book : Book) (st : Stores) (a : Answer) → IsRead shelf before now j read →
    AnswersJob j read book st a → a.status ≡ 6 → Rose before now
job_6 shelf before now j NoModule book st a read h is = read
job_6 shelf before now j NoSet book st a read h is = read.2
job_6 shelf before now j NoThird book st a read h is = read.4
job_6 shelf before now j (All texts) book st a read h is = absurd (task_other j.task texts.module texts.set texts.third j.budget j.workers book st a 6 apart_6 h is)

-- the status 6 is a shelf's
pub is_read : (shelf : Option (List ℕ → Option (List ℕ))) (before now : ℕ) (cmd : Option Command) (read : Read) (a b : Around) (x : Answer) → Reads shelf before now cmd read →
    Answers cmd read a b x → x.status ≡ 6 → Rose before now
is_read shelf before now None read a b x r h is = absurd (usage_apart_of b.desk.book (stores_of a b) x 6 apart_6 h.1 is)
is_read shelf before now (Some (c.Texts job)) read a b x r h is = job_6 shelf before now job read b.desk.book (stores_of a b) x r h.1 is
is_read shelf before now (Some (c.Demo n)) read a b x r h is = absurd (texts_other (module_text n) (set_text n) w.All 20000 4 (summary n) b.desk.book (stores_of a b) x 6 apart_6 h.1 is)
is_read shelf before now (Some (c.Serve service)) read a b x r h is = absurd (service_other service a b x 6 apart_6 (λ no. omega arith) h is)
is_read shelf before now (Some (c.Migrate file)) read a b x r h is = absurd (move_other b.desk.book (stores_of a b) x 6 apart_6 h.1 is)

-- ---- a status of 9 is a port's

pub texts_port : {E : Type 0} (r : Result Answer E) (m s : List ℕ) (which : Which) (budget workers : ℕ) (said : Report → List ℕ) (book : Book) (st : Stores) (P : Type 0) →
    IfOk r (AnswersTexts m s which budget workers said book st) → IfOk r (λ a. a.status ≡ 9 → P)
texts_port (Ok a) m s which budget workers said book st P h = λ is. absurd (texts_other m s which budget workers said book st a 9 apart_9 h is)
texts_port (Err e) m s which budget workers said book st P h = tt

pub job_port : {E : Type 0} (r : Result Answer E) (j : Job) (read : Read) (book : Book) (st : Stores) (P : Type 0) → IfOk r (AnswersJob j read book st) → IfOk r (λ a. a.status ≡ 9 → P)
job_port (Ok a) j read book st P h = λ is. absurd (job_other j read book st a 9 apart_9 (λ no. omega arith) h is)
job_port (Err e) j read book st P h = tt

pub move_port : {E : Type 0} (r : Result Answer E) (book : Book) (before after : Option Tables) (P : Type 0) →
    IfOk r (λ a. (asked : List ℕ) → AnswersMove book (stores before after asked) a) → IfOk r (λ a. a.status ≡ 9 → P)
move_port (Ok a) book before after P h = λ is. absurd (move_other book (stores before after []) a 9 apart_9 (h []) is)
move_port (Err e) book before after P h = tt

-- a refusal has its status alone
pub refusal_other : {E : Type 0} (r : Result Answer E) (status n : ℕ) (line : List ℕ) (P : Type 0) → (status ≡ n → ⊥) → IfOk r (λ a. a ≡ refusal status line) → IfOk r (λ a. a.status ≡ n → P)
refusal_other (Ok a) status n line P other h = λ is. absurd (other (status_is a (refusal status line) n h is))
refusal_other (Err e) status n line P other h = tt

-- ---- services

-- the port after a connection that couldn't be taken is the one before
same_line : (v w : Wires) → w.wire ≡ v.wire → w.faults ≡ v.faults → w ≡ v
same_line v w wire faults = ap (λ (x : Option Wire). line x w.faults) wire ∙ ap (λ (n : ℕ). line v.wire n) faults

-- fewer than all connections were served, and the one after them left the desk as it was
pub left_stopped : (s : Service) (v w : Wires) (d e : State) (fault : ServeFault) → StopsWithin (limits_for s) (quota_of s) v d fault w e → LeavesServed s (around d v) (around e w)
left_stopped s v w d e Next h = record {
  served = h.served;
  most = let fewer : h.served < s.count = h.fewer in omega arith;
  taken = h.taken;
  line = h.port;
  did = subst (λ (x : State). ServesMany (limits_for s) s.replied v d h.taken h.served h.port x) (sym h.last.0) h.before;
  port = inl (same_line h.port w h.last.1 h.last.2);
}
left_stopped s v w d e Memory h = record {
  served = h.served;
  most = let fewer : h.served < s.count = h.fewer in omega arith;
  taken = h.taken;
  line = h.port;
  did = subst (λ (x : State). ServesMany (limits_for s) s.replied v d h.taken h.served h.port x) (sym h.last.0) h.before;
  port = inr (subst (λ (x : State). ServesOne (limits_for s) h.port x (Err Memory) w e) (sym h.last.0) h.last);
}

pub left_served : (s : Service) (v w : Wires) (d e : State) (n : ℕ) → ServesQuota (limits_for s) (quota_of s) v d n w e → LeavesServed s (around d v) (around e w)
left_served s v w d e n h = record { served = n; most = h.most; taken = h.taken; line = w; did = h.many; port = inl refl }

pub port_answered : {E : Type 0} (r : Result Answer E) (s : Service) (a b : Around) → StopsWithin (limits_for s) (quota_of s) a.line a.desk Next b.line b.desk →
    IfOk r (λ x. x ≡ refusal 9 (codes "port")) → IfOk r (AnswersService s a b)
port_answered (Ok x) s a b stops is = inr (stops, is)
port_answered (Err e) s a b stops is = tt

-- ---- rows that are moved

pub keeper_moved : {E : Type 0} (r : Result Answer E) (book : Book) (before after : Option Tables) → book.lines.items ≡ [] → IfOk r (λ a. a ≡ refusal 8 (codes "keeper")) →
    IfOk r (λ a. (asked : List ℕ) → AnswersMove book (stores before after asked) a)
keeper_moved (Ok a) book before after empty is = λ asked. record { empty = empty; is = inl is }
keeper_moved (Err e) book before after empty is = tt

-- ---- what is read for a job

pub no_module_answered : {E : Type 0} (r : Result Answer E) (j : Job) (read : Read) (book : Book) (st : Stores) → read ≡ NoModule → book.lines.items ≡ [] → st.after ≡ st.before →
    IfOk r (λ a. a ≡ refusal 6 (codes "read: " ++ j.module)) → IfOk r (AnswersJob j read book st)
no_module_answered (Ok a) j read book st is empty same h = subst (λ (z : Read). AnswersJob j z book st a) (sym is) (record { empty = empty; same = same; answer_is = h })
no_module_answered (Err e) j read book st is empty same h = tt

pub no_set_answered : {E : Type 0} (r : Result Answer E) (j : Job) (read : Read) (book : Book) (st : Stores) → read ≡ NoSet → book.lines.items ≡ [] → st.after ≡ st.before →
    IfOk r (λ a. a ≡ refusal 6 (codes "read: " ++ j.set)) → IfOk r (AnswersJob j read book st)
no_set_answered (Ok a) j read book st is empty same h = subst (λ (z : Read). AnswersJob j z book st a) (sym is) (record { empty = empty; same = same; answer_is = h })
no_set_answered (Err e) j read book st is empty same h = tt

pub no_third_answered : {E : Type 0} (r : Result Answer E) (j : Job) (read : Read) (book : Book) (st : Stores) → read ≡ NoThird → book.lines.items ≡ [] → st.after ≡ st.before →
    IfOk r (λ a. a ≡ refusal 6 (codes "read: " ++ third_name j.task)) → IfOk r (AnswersJob j read book st)
no_third_answered (Ok a) j read book st is empty same h = subst (λ (z : Read). AnswersJob j z book st a) (sym is) (record { empty = empty; same = same; answer_is = h })
no_third_answered (Err e) j read book st is empty same h = tt

-- ---- the answer to a command

-- what is read for it, and what is answered
abbrev pub Ran : Option (List ℕ → Option (List ℕ)) → ℕ → ℕ → Option Command → Around → Around → Answer → Type 0
Ran shelf before now cmd a b x = (read : Read) × Reads shelf before now cmd read × Answers cmd read a b x

module _ {E : Type 0} (shelf : Option (List ℕ → Option (List ℕ))) (before now : ℕ) (cmd : Option Command) (a b : Around) where
  pub none_ran : (r : Result Answer E) → cmd ≡ None → now ≡ before → b.line ≡ a.line → b.desk.book.lines.items ≡ [] → b.desk.tables ≡ a.desk.tables →
      IfOk r (λ x. x ≡ refusal 2 (codes "usage")) → IfOk r (Ran shelf before now cmd a b)
  none_ran (Ok x) is same line empty rows h = (
    NoModule,
    subst (λ (z : Option Command). Reads shelf before now z NoModule) (sym is) same,
    subst (λ (z : Option Command). Answers z NoModule a b x) (sym is) (line, record { empty = empty; same = rows; answer_is = h }),
  )
  none_ran (Err e) is same line empty rows h = tt

  pub job_ran : (r : Result Answer E) (job : Job) (read : Read) → cmd ≡ Some (c.Texts job) → IsRead shelf before now job read → b.line ≡ a.line →
      IfOk r (AnswersJob job read b.desk.book (stores_of a b)) → IfOk r (Ran shelf before now cmd a b)
  job_ran (Ok x) job read is reads line h =
      (read, subst (λ (z : Option Command). Reads shelf before now z read) (sym is) reads, subst (λ (z : Option Command). Answers z read a b x) (sym is) (line, h))
  job_ran (Err e) job read is reads line h = tt

  pub demo_ran : (r : Result Answer E) (n : ℕ) → cmd ≡ Some (c.Demo n) → now ≡ before → b.line ≡ a.line →
      IfOk r (AnswersTexts (module_text n) (set_text n) w.All 20000 4 (summary n) b.desk.book (stores_of a b)) → IfOk r (Ran shelf before now cmd a b)
  demo_ran (Ok x) n is same line h =
      (NoModule, subst (λ (z : Option Command). Reads shelf before now z NoModule) (sym is) same, subst (λ (z : Option Command). Answers z NoModule a b x) (sym is) (line, h))
  demo_ran (Err e) n is same line h = tt

  pub service_ran : (r : Result Answer E) (s : Service) → cmd ≡ Some (c.Serve s) → now ≡ before → IfOk r (AnswersService s a b) → IfOk r (Ran shelf before now cmd a b)
  service_ran (Ok x) s is same h =
      (NoModule, subst (λ (z : Option Command). Reads shelf before now z NoModule) (sym is) same, subst (λ (z : Option Command). Answers z NoModule a b x) (sym is) h)
  service_ran (Err e) s is same h = tt

  pub move_ran : (r : Result Answer E) (file : List ℕ) → cmd ≡ Some (c.Migrate file) → now ≡ before → b.line ≡ a.line →
      IfOk r (λ x. (asked : List ℕ) → AnswersMove b.desk.book (stores a.desk.tables b.desk.tables asked) x) → IfOk r (Ran shelf before now cmd a b)
  move_ran (Ok x) file is same line h =
      (NoModule, subst (λ (z : Option Command). Reads shelf before now z NoModule) (sym is) same, subst (λ (z : Option Command). Answers z NoModule a b x) (sym is) (line, h a.desk.asked))
  move_ran (Err e) file is same line h = tt

-- what a job leaves
pub leaves_job : (shelf : Option (List ℕ → Option (List ℕ))) (faults now : ℕ) (cmd : Option Command) (job : Job) (read : Read) (a b : Around) → cmd ≡ Some (c.Texts job) →
    IsRead shelf faults now job read → LeavesRead job read a.desk.tables b.desk.tables → LeavesRows shelf cmd a b
leaves_job shelf faults now cmd job read a b is was h =
    subst (λ (z : Option Command). LeavesRows shelf z a b) (sym is) (texts_left shelf faults now job read a.desk.tables b.desk.tables was h)

-- words whose command isn't known yet leave all as it was
left_as : (s : Service) (a : Around) → LeavesServed s a a
left_as s a = record { served = 0; most = omega arith; taken = 0; line = a.line; did = none; port = inl refl }

moves_none : (t : Option Tables) → Told MovesRows t t
moves_none (Some t) = record { blocks = refl; signs = refl; proofs = λ key. inl refl }
moves_none None = tt

pub leaves_all : (shelf : Option (List ℕ → Option (List ℕ))) (cmd : Option Command) (a : Around) → LeavesRows shelf cmd a a
leaves_all shelf None a = refl
leaves_all shelf (Some (c.Texts job)) a = inl refl
leaves_all shelf (Some (c.Demo n)) a = adds_none (AreObsOfTexts (module_text n) (set_text n) w.All) a.desk.tables
leaves_all shelf (Some (c.Serve service)) a = left_as service a
leaves_all shelf (Some (c.Migrate file)) a = moves_none a.desk.tables

-- ---- what goes out

refused_is : (b : Bool) (s n : ℕ) → (7 ≡ n → ⊥) → (if b then 7 else s) ≡ n → s ≡ n
refused_is true s n not_7 h = absurd (not_7 h)
refused_is false s n not_7 h = h

-- save for 7 and 70 the status is the answer's
pub delivered : (x : Answer) (status before now : ℕ) (old new : Option (List ℕ)) (n : ℕ) → (7 ≡ n → ⊥) → (70 ≡ n → ⊥) → Delivers x status before now old new → status ≡ n → x.status ≡ n
delivered x status before now old new n not_7 not_70 h is = ⊎_elim
    (λ (whole : (status ≡ x.status) × Appends old new x.bytes). sym whole.0 ∙ is)
    (λ (part : ((status ≡ refused_status x) × Rose before now × AppendsPrefix old new x.bytes) ⊎ ((status ≡ 70) × AppendsPrefix old new x.bytes)). ⊎_elim
    (λ (failed : (status ≡ refused_status x) × Rose before now × AppendsPrefix old new x.bytes). refused_is x.reports x.status n not_7 (sym failed.0 ∙ is))
    (λ (memory : (status ≡ 70) × AppendsPrefix old new x.bytes). absurd (not_70 (sym memory.0 ∙ is))) part) h

-- 7 is the sink's
pub delivered_7 : (x : Answer) (status before now : ℕ) (old new : Option (List ℕ)) → (x.status ≡ 7 → ⊥) → Delivers x status before now old new → status ≡ 7 → Rose before now
delivered_7 x status before now old new other h is = ⊎_elim
    (λ (whole : (status ≡ x.status) × Appends old new x.bytes). absurd (other (sym whole.0 ∙ is)))
    (λ (part : ((status ≡ refused_status x) × Rose before now × AppendsPrefix old new x.bytes) ⊎ ((status ≡ 70) × AppendsPrefix old new x.bytes)). ⊎_elim
    (λ (failed : (status ≡ refused_status x) × Rose before now × AppendsPrefix old new x.bytes). failed.1)
    (λ (memory : (status ≡ 70) × AppendsPrefix old new x.bytes). let no : 70 ≡ 7 = sym memory.0 ∙ is in absurd (omega arith)) part) h

-- words that are no command
usage_out : (x : Answer) (status before now : ℕ) (old new : Option (List ℕ)) (line : List ℕ) → x ≡ refusal 2 line → Delivers x status before now old new → (status ≡ 2) ⊎ (status ≡ 70)
usage_out x status before now old new line same h = ⊎_elim
    (λ (whole : (status ≡ x.status) × Appends old new x.bytes). inl (whole.0 ∙ ap (λ (z : Answer). z.status) same))
    (λ (part : ((status ≡ refused_status x) × Rose before now × AppendsPrefix old new x.bytes) ⊎ ((status ≡ 70) × AppendsPrefix old new x.bytes)). ⊎_elim
    (λ (failed : (status ≡ refused_status x) × Rose before now × AppendsPrefix old new x.bytes). inl (failed.0 ∙ ap refused_status same))
    (λ (memory : (status ≡ 70) × AppendsPrefix old new x.bytes). inr memory.0) part) h

pub no_command : (cmd : Option Command) (read : Read) (a b : Around) (x : Answer) (status before now : ℕ) (old new : Option (List ℕ)) → cmd ≡ None → Answers cmd read a b x →
    Delivers x status before now old new → (status ≡ 2) ⊎ (status ≡ 70)
no_command cmd read a b x status before now old new is h out =
    let usage = subst (λ (z : Option Command). Answers z read a b x) is h in
    usage_out x status before now old new (codes "usage") usage.1.answer_is out
