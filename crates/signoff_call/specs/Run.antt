-- What a run answers to the words and to what was read, and what goes out.
use Rattle.std.specs.Prelude.{◌≡◌, ℕ, ◌⊎◌, ◌+◌, ◌^◌, ◌≤◌, ◌↔◌, List, [], ◌++◌, take, Option, Some, None, Err, IfSome, IsSomeAnd, IsTrue, codes, if◌then◌else◌}
use Rattle.std.specs.Io.KnownBytes.{Appends}
use Rattle.outside.specs.Faults.{Rose}
use Rattle.demo_gen.specs.Texts.{module_text, set_text}
use Rattle.desk_core_reports.specs.declared.book.Book.{Book}
use Rattle.desk_core_commands.specs.declared.which.Which.TheVariants as w
use Rattle.outside.specs.Tables.{Tables}
use Rattle.proof_store.specs.declared.moving.Moved.{Moved}
use Rattle.proof_store.specs.Moves.{MovesRows, Walks}
use Rattle.proof_store.specs.Stored.{Told}
use Rattle.desk_core_goals.specs.Settled.{AddsProofsOf}
use Rattle.desk_core.specs.Checks.{AreObsOfTexts}
use Rattle.signoff_words.specs.declared.command.Command.{Command}
use Rattle.signoff_words.specs.declared.command.Command.TheVariants as c
use Rattle.signoff_words.specs.declared.command.Job.{Job}
use Rattle.signoff_words.specs.declared.command.Service.{Service}
use Rattle.signoff_words.specs.declared.command.Task.{Task}
use Rattle.signoff_words.specs.declared.command.Task.TheVariants as t
use Rattle.desk_http_connection.specs.declared.serve.ServeFault.TheVariants.{Memory, Next}
use Rattle.proof_store.specs.Provers.{Limits}
use Rattle.desk_core.specs.declared.checker.Checker.{Checker}
use Rattle.desk_http.specs.declared.serving.Quota.{Quota}
use Rattle.desk_http.specs.Serving.{Line as Wires, ServesMany, ServesOne, ServesQuota, State, StopsWithin}
use Rattle.signoff_call.specs.declared.answer.Answer.{Answer}
use Rattle.signoff_call.specs.declared.files.Read.{Read}
use Rattle.signoff_call.specs.declared.files.Read.TheVariants.{NoModule, NoSet, NoThird, All}
use Rattle.signoff_call.specs.Answers.{counted_word, done, moved_text, refusal, summary}
use Rattle.signoff_call.specs.Tasks.{AnswersTask, AnswersTexts, LeavesTask, RefusesBy, Stores, stores}

-- the name of the third file, where there is one
abbrev pub third_name : Task → List ℕ
third_name (t.Decide which) = []
third_name (t.Wave name) = []
third_name (t.Meet name) = []
third_name (t.Machine form) = []
third_name (t.Walk rows) = rows
third_name t.Lines = []
third_name (t.Clauses name) = []
third_name (t.Accept given) = given.proof

-- the answer to two texts that were read, or to a file that wasn't
abbrev pub AnswersJob : Job → Read → Book → Stores → Answer → Type 0
AnswersJob j NoModule book st answer = RefusesBy 6 (codes "read: " ++ j.module) book st answer
AnswersJob j NoSet book st answer = RefusesBy 6 (codes "read: " ++ j.set) book st answer
AnswersJob j NoThird book st answer = RefusesBy 6 (codes "read: " ++ third_name j.task) book st answer
AnswersJob j (All texts) book st answer = AnswersTask j.task texts.module texts.set texts.third j.budget j.workers book st answer

-- the keeper failed while rows were moved, or the answer tells what became of them, and that there may be more where as many as may be were come to; no line
-- in the book
pub record AnswersMove (book : Book) (st : Stores) (answer : Answer) : Type 0 where
  pub empty : book.lines.items ≡ []
  pub is : (answer ≡ refusal 8 (codes "keeper"))
      ⊎ ((m : Moved) × Told (Walks (2 ^ 40) m) st.before st.after × (IsTrue m.more ↔ (m.moved + m.left ≡ 2 ^ 40)) × (answer ≡ done (moved_text m)))

-- the same keeper, helpers and book
abbrev pub HasSame : {R K H G : Type 0} → Checker R K H G → Checker R K H G → Type 0
HasSame c d = (d.prover.keeper.ghost_name ≡ c.prover.keeper.ghost_name) × (d.prover.helpers.ghost_name ≡ c.prover.helpers.ghost_name) × (d.book.ghost_name ≡ c.book.ghost_name)

-- what a run finds around it, or leaves: the desk that the keeper holds, with the book, and the port
pub record Around : Type 0 where
  pub desk : State
  pub line : Wires

abbrev pub around : State → Wires → Around
around desk line = record { desk = desk; line = line }

abbrev pub stores_of : Around → Around → Stores
stores_of a b = stores a.desk.tables b.desk.tables a.desk.asked

abbrev pub served_text : ℕ → List ℕ
served_text n = codes "served " ++ counted_word n (codes "\n")

abbrev pub limits_for : Service → Limits
limits_for s = record { budget = s.budget; workers = s.workers }

abbrev pub quota_of : Service → Quota
quota_of s = record { count = s.count; replied = s.replied }

-- as many connections were served as are to be, which the answer tells, or there was no next one
abbrev pub AnswersService : Service → Around → Around → Answer → Type 0
AnswersService s a b answer =
    ((n : ℕ) × ServesQuota (limits_for s) (quota_of s) a.line a.desk n b.line b.desk × (answer ≡ done (served_text n)))
    ⊎ (StopsWithin (limits_for s) (quota_of s) a.line a.desk Next b.line b.desk × (answer ≡ refusal 9 (codes "port")))

-- the answer to a command, or to words that are none, with what it finds around it and what it leaves; only a service touches the port
abbrev pub Answers : Option Command → Read → Around → Around → Answer → Type 0
Answers None read a b answer = (b.line ≡ a.line) × RefusesBy 2 (codes "usage") b.desk.book (stores_of a b) answer
Answers (Some (c.Texts job)) read a b answer = (b.line ≡ a.line) × AnswersJob job read b.desk.book (stores_of a b) answer
Answers (Some (c.Demo n)) read a b answer =
    (b.line ≡ a.line) × AnswersTexts (module_text n) (set_text n) w.All 20000 4 (summary n) b.desk.book (stores_of a b) answer
Answers (Some (c.Serve service)) read a b answer = AnswersService service a b answer
Answers (Some (c.Migrate file)) read a b answer = (b.line ≡ a.line) × AnswersMove b.desk.book (stores_of a b) answer

-- what a service leaves, whatever is answered: what some of its connections did; the port as they left it, or memory ran out while the next one was read
pub record LeavesServed (s : Service) (a b : Around) : Type 0 where
  pub served : ℕ
  pub most : served ≤ s.count
  pub taken : ℕ
  pub line : Wires
  pub did : ServesMany (limits_for s) s.replied a.line a.desk taken served line b.desk
  pub port : (b.line ≡ line) ⊎ ServesOne (limits_for s) line b.desk (Err Memory) b.line b.desk

-- ---- files

-- the first bytes of the file, one past a limit at most, where the shelf tells
abbrev pub IsFile : Option (List ℕ → Option (List ℕ)) → ℕ → List ℕ → List ℕ → Type 0
IsFile shelf limit name text = IfSome shelf (λ files. IsSomeAnd (files name) (λ file. text ≡ take (limit + 1) file))

-- of a module or a set
abbrev pub IsText : Option (List ℕ → Option (List ℕ)) → List ℕ → List ℕ → Type 0
IsText shelf name text = IsFile shelf 1048576 name text

-- the third file, where there is one, and else no bytes
abbrev pub IsThird : Option (List ℕ → Option (List ℕ)) → Task → List ℕ → Type 0
IsThird shelf (t.Decide which) text = text ≡ []
IsThird shelf (t.Wave name) text = text ≡ []
IsThird shelf (t.Meet name) text = text ≡ []
IsThird shelf (t.Machine form) text = text ≡ []
IsThird shelf (t.Walk rows) text = IsText shelf rows text
IsThird shelf t.Lines text = text ≡ []
IsThird shelf (t.Clauses name) text = text ≡ []
IsThird shelf (t.Accept given) text = IsFile shelf 67108864 given.proof text

-- what was read is what the shelf has; it failed only where its count rose, and then the files before in this order were read
abbrev pub IsRead : Option (List ℕ → Option (List ℕ)) → ℕ → ℕ → Job → Read → Type 0
IsRead shelf before now j NoModule = Rose before now
IsRead shelf before now j NoSet = (m : List ℕ) × IsText shelf j.module m × Rose before now
IsRead shelf before now j NoThird = (m : List ℕ) × (s : List ℕ) × IsText shelf j.module m × IsText shelf j.set s × Rose before now
IsRead shelf before now j (All texts) = IsText shelf j.module texts.module × IsText shelf j.set texts.set × IsThird shelf j.task texts.third

-- what was read for a command; without files nothing is
abbrev pub Reads : Option (List ℕ → Option (List ℕ)) → ℕ → ℕ → Option Command → Read → Type 0
Reads shelf before now None read = now ≡ before
Reads shelf before now (Some (c.Texts job)) read = IsRead shelf before now job read
Reads shelf before now (Some (c.Demo n)) read = now ≡ before
Reads shelf before now (Some (c.Serve service)) read = now ≡ before
Reads shelf before now (Some (c.Migrate file)) read = now ≡ before

-- ---- what is left

-- where a file wasn't read nothing is new at the keeper; else each proof that differs is one of an obligation of the lines that are asked for, under its
-- text, and all else is as before
abbrev pub LeavesRead : Job → Read → Option Tables → Option Tables → Type 0
LeavesRead j NoModule before after = after ≡ before
LeavesRead j NoSet before after = after ≡ before
LeavesRead j NoThird before after = after ≡ before
LeavesRead j (All texts) before after = LeavesTask j.task texts.module texts.set before after

-- nothing is new, or what is left comes of two texts that the shelf has under the names of the job
abbrev pub LeavesTexts : Option (List ℕ → Option (List ℕ)) → Job → Option Tables → Option Tables → Type 0
LeavesTexts shelf j before after = (after ≡ before)
    ⊎ ((m : List ℕ) × (s : List ℕ) × IsText shelf j.module m × IsText shelf j.set s × LeavesTask j.task m s before after)

-- what a command leaves at the keeper, whatever is answered: new proofs of obligations of its texts alone, what connections did, or rows that were moved
abbrev pub LeavesRows : Option (List ℕ → Option (List ℕ)) → Option Command → Around → Around → Type 0
LeavesRows shelf None a b = b.desk.tables ≡ a.desk.tables
LeavesRows shelf (Some (c.Texts job)) a b = LeavesTexts shelf job a.desk.tables b.desk.tables
LeavesRows shelf (Some (c.Demo n)) a b = AddsProofsOf (AreObsOfTexts (module_text n) (set_text n) w.All) a.desk.tables b.desk.tables
LeavesRows shelf (Some (c.Serve service)) a b = LeavesServed service a b
LeavesRows shelf (Some (c.Migrate file)) a b = Told MovesRows a.desk.tables b.desk.tables

-- ---- output

-- the status where the sink refuses the bytes: a refusal keeps its own
abbrev pub refused_status : Answer → ℕ
refused_status answer = if answer.reports then 7 else answer.status

-- a prefix of these bytes went out
abbrev pub AppendsPrefix : Option (List ℕ) → Option (List ℕ) → List ℕ → Type 0
AppendsPrefix old new bytes = (n : ℕ) × Appends old new (take n bytes)

-- the answer went out whole; or the sink failed, and a prefix went out; or memory ran out on the way
abbrev pub Delivers : Answer → ℕ → ℕ → ℕ → Option (List ℕ) → Option (List ℕ) → Type 0
Delivers answer status before now old new = ((status ≡ answer.status) × Appends old new answer.bytes)
    ⊎ (((status ≡ refused_status answer) × Rose before now × AppendsPrefix old new answer.bytes)
    ⊎ ((status ≡ 70) × AppendsPrefix old new answer.bytes))
