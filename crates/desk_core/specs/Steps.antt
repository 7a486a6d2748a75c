-- What a command does at the desk, and what it answers.
use Rattle.std.specs.Prelude.{◌≡◌, ◌⊎◌, ℕ, ◌+◌, true, List, [], length, Some, None}
use Rattle.std.specs.FinMap.{get, keys}
use Rattle.outside.specs.declared.rows.Block.{Block}
use Rattle.outside.specs.Tables.{Tables, sign_number, with_block, with_sign}
use Rattle.word_dag.specs.Nodes.{Parts}
use Rattle.desk_core_faults.specs.declared.fault.CheckFault.{CheckFault}
use Rattle.desk_core_faults.specs.declared.fault.CheckFault.TheVariants as f
use Rattle.desk_core_faults.specs.Texts.{fault_line}
use Rattle.desk_core_stages.specs.Texts.{RefusesModules, RefusesSet, SpellsSomeModules, SpellsSomeSet}
use Rattle.proof_store.specs.Stored.{AddsProofs}
use Rattle.desk_core_reports.specs.declared.book.Book.{Book}
use Rattle.desk_core_reports.specs.declared.report.Report.{Report}
use Rattle.desk_core_commands.specs.declared.which.Which.TheVariants as w
use Rattle.desk_core_goals.specs.Settled.{AreSettled}
use Rattle.desk_core_commands.specs.declared.command.Answer.{Answer}
use Rattle.desk_core_commands.specs.declared.command.Answer.TheVariants as a
use Rattle.desk_core_commands.specs.declared.command.Command.{Command}
use Rattle.desk_core_commands.specs.declared.command.Command.TheVariants as c
use Rattle.desk_core.specs.Blocks.{is_signed_off, reported, trace_at, with_module, with_set}
use Rattle.desk_core.specs.Checks.{AreObsOfTexts, IsReport, Refuses}

-- what a command works on: what the keeper holds, how often each helper was asked, and the book of the last check
pub record Desk : Type 0 where
  pub tables : Tables
  pub asked : List ℕ
  pub book : Book

abbrev pub desk : Tables → List ℕ → Book → Desk
desk tables asked book = record { tables = tables; asked = asked; book = book }

pub record Stays (old new : Desk) : Type 0 where
  pub tables : new.tables ≡ old.tables
  pub book : new.book ≡ old.book

-- ---- blocks and their texts

abbrev pub IsBlockOf : Desk → List ℕ → Block → Type 0
IsBlockOf d name b = get d.tables.blocks name ≡ Some b

abbrev pub HasNoBlock : Desk → List ℕ → Type 0
HasNoBlock d name = get d.tables.blocks name ≡ None

-- a block's two texts
pub record HasTexts (b : Block) (m s : List ℕ) : Type 0 where
  pub module_is : b.module ≡ Some m
  pub set_is : b.set ≡ Some s

abbrev pub LacksText : Block → Type 0
LacksText b = (b.module ≡ None) ⊎ (b.set ≡ None)

-- the line that tells a fault of a text or of two
abbrev pub TellsFault : CheckFault → List ℕ → Type 0
TellsFault (f.Module fault) line = line ≡ fault_line (f.Module fault)
TellsFault (f.Set stop) line = line ≡ fault_line (f.Set stop)
TellsFault (f.Bind fault) line = line ≡ fault_line (f.Bind fault)
TellsFault f.NoLine line = ⊥
TellsFault f.Keeper line = ⊥
TellsFault f.Memory line = ⊥

abbrev pub IsRefusedBy : (CheckFault → Type 0) → List ℕ → Type 0
IsRefusedBy IsFault line = (fault : CheckFault) × IsFault fault × TellsFault fault line

-- ---- texts that are put

abbrev pub PutsModule : List ℕ → List ℕ → Answer → Desk → Desk → Type 0
PutsModule name text a.Stored old new = SpellsSomeModules text × (new.tables ≡ with_module name text old.tables) × (new.book ≡ old.book)
PutsModule name text (a.Refused line) old new = IsRefusedBy (RefusesModules text) line × Stays old new
PutsModule name text answer old new = ⊥

abbrev pub PutsSet : List ℕ → List ℕ → Answer → Desk → Desk → Type 0
PutsSet name text a.Stored old new = SpellsSomeSet text × (new.tables ≡ with_set name text old.tables) × (new.book ≡ old.book)
PutsSet name text (a.Refused line) old new = IsRefusedBy (RefusesSet text) line × Stays old new
PutsSet name text answer old new = ⊥

-- ---- checks

-- a book without lines, or the one of before
abbrev pub IsLeft : Book → Book → Type 0
IsLeft old new = (new.lines.items ≡ []) ⊎ (new ≡ old)

-- a stage refuses the block's texts
pub record RefusesCheck (name line : List ℕ) (old new : Desk) : Type 0 where
  pub block : Block
  pub held : IsBlockOf old name block
  pub m : List ℕ
  pub s : List ℕ
  pub texts : HasTexts block m s
  pub refused : IsRefusedBy (Refuses m s w.All) line
  pub obs : List Parts
  pub of_texts : (obs ≡ []) ⊎ AreObsOfTexts m s w.All obs
  pub proofs : AddsProofs obs old.tables new.tables
  pub book : IsLeft old.book new.book

-- the block's texts were checked: the answer is their report, which is put with the traces of its refuted lines, after the new proofs were
pub record ReportsCheck (budget workers : ℕ) (name text : List ℕ) (old new : Desk) : Type 0 where
  pub block : Block
  pub held : IsBlockOf old name block
  pub m : List ℕ
  pub s : List ℕ
  pub texts : HasTexts block m s
  pub report : Report
  pub is_report : IsReport m s w.All budget new.book.lines.items report
  pub text_is : text ≡ report.text
  pub between : Tables
  pub settled : AreSettled workers new.book (Some old.tables) (Some between) old.asked new.asked
  pub put : new.tables ≡ with_block name (reported block text new.book.lines.items) between

abbrev pub ChecksBlock : ℕ → ℕ → List ℕ → Answer → Desk → Desk → Type 0
ChecksBlock budget workers name a.NoBlock old new = HasNoBlock old name × Stays old new
ChecksBlock budget workers name a.NoText old new = ((b : Block) × IsBlockOf old name b × LacksText b) × Stays old new
ChecksBlock budget workers name (a.Refused line) old new = RefusesCheck name line old new
ChecksBlock budget workers name (a.Reported text) old new = ReportsCheck budget workers name text old new
ChecksBlock budget workers name answer old new = ⊥

-- ---- reports and traces

abbrev pub GetsReport : List ℕ → Answer → Desk → Type 0
GetsReport name a.NoBlock old = HasNoBlock old name
GetsReport name a.NoReport old = (b : Block) × IsBlockOf old name b × (b.report ≡ None)
GetsReport name (a.Reported text) old = (b : Block) × IsBlockOf old name b × (b.report ≡ Some text)
GetsReport name answer old = ⊥

-- a block with a report
pub record IsReportedBlock (d : Desk) (name : List ℕ) (b : Block) : Type 0 where
  pub held : IsBlockOf d name b
  pub text : List ℕ
  pub report_is : b.report ≡ Some text

abbrev pub GetsTrace : List ℕ → ℕ → Answer → Desk → Type 0
GetsTrace name line a.NoBlock old = HasNoBlock old name
GetsTrace name line a.NoReport old = (b : Block) × IsBlockOf old name b × (b.report ≡ None)
GetsTrace name line a.NoTrace old = (b : Block) × IsReportedBlock old name b × (trace_at line b.traces ≡ None)
GetsTrace name line (a.Traced text) old = (b : Block) × IsReportedBlock old name b × (trace_at line b.traces ≡ Some text)
GetsTrace name line answer old = ⊥

-- ---- sign-offs

-- a block with two texts and a report whose last line is `signed off`
pub record CanSign (b : Block) : Type 0 where
  pub m : List ℕ
  pub s : List ℕ
  pub texts : HasTexts b m s
  pub report : List ℕ
  pub report_is : b.report ≡ Some report
  pub signed_off : is_signed_off report ≡ true

-- the number of the sign-off of the block with its two texts, which is made where there is none
abbrev pub IsSigned : List ℕ → (b : Block) → CanSign b → ℕ → Tables → Tables → Type 0
IsSigned name b sign number old new =
    ((sign_number name sign.m sign.s old.signs ≡ Some number) × (new ≡ old))
    ⊎ ((sign_number name sign.m sign.s old.signs ≡ None) × (number ≡ length old.signs + 1) × (new ≡ with_sign number name sign.m sign.s sign.report old))

abbrev pub SignsBlock : List ℕ → Answer → Desk → Desk → Type 0
SignsBlock name a.NoBlock old new = HasNoBlock old name × Stays old new
SignsBlock name a.NotSigned old new = ((b : Block) × IsBlockOf old name b × (CanSign b → ⊥)) × Stays old new
SignsBlock name (a.Signed number) old new =
    ((b : Block) × IsBlockOf old name b × (sign : CanSign b) × IsSigned name b sign number old.tables new.tables) × (new.book ≡ old.book)
SignsBlock name answer old new = ⊥

-- ---- lists

abbrev pub Lists : Answer → Desk → Type 0
Lists (a.Names names) old = names ≡ keys old.tables.blocks
Lists answer old = ⊥

abbrev pub ListsSigns : Answer → Desk → Type 0
ListsSigns (a.Signs signs) old = signs ≡ old.tables.signs
ListsSigns answer old = ⊥

-- ---- all commands

-- the command leads from one desk to the other, with this answer
abbrev pub Steps : ℕ → ℕ → Command → Answer → Desk → Desk → Type 0
Steps budget workers (c.PutModule name text) answer old new = PutsModule name text answer old new
Steps budget workers (c.PutSet name text) answer old new = PutsSet name text answer old new
Steps budget workers (c.Check name) answer old new = ChecksBlock budget workers name answer old new
Steps budget workers (c.GetReport name) answer old new = GetsReport name answer old × Stays old new
Steps budget workers (c.GetTrace name line) answer old new = GetsTrace name line answer old × Stays old new
Steps budget workers (c.SignOff name) answer old new = SignsBlock name answer old new
Steps budget workers c.Blocks answer old new = Lists answer old × Stays old new
Steps budget workers c.Signoffs answer old new = ListsSigns answer old × Stays old new

-- what a command leaves that got no answer: blocks and sign-offs as they were, and after a check proofs of obligations of the block's texts
abbrev pub Leaves : Command → Tables → Tables → Type 0
Leaves (c.Check name) old new =
    (obs : List Parts)
    × ((obs ≡ []) ⊎ ((b : Block) × (get old.blocks name ≡ Some b) × (m s : List ℕ) × HasTexts b m s × AreObsOfTexts m s w.All obs))
    × AddsProofs obs old new
Leaves command old new = new ≡ old
