-- The command that words spell: its name, then options and plain words.
use Rattle.std.specs.Prelude.{ℕ, ◌<◌, ◌≤◌, Bool, true, false, List, [], ◌∷◌, codes, Option, Some, None, is_some, option_map, option_and_then, if◌then◌else◌}
use Rattle.std.specs.List.{list_all}
use Rattle.std.specs.Str.{bytes_eq}
use Rattle.desk_core_commands.specs.declared.which.Which.TheVariants as w
use Rattle.signoff_words.specs.declared.choice.Choice.{Choice}
use Rattle.signoff_words.specs.declared.choice.Choice.TheVariants.{Budget, Workers, Store, Timeout, Replied, Dot, Progress}
use Rattle.signoff_words.specs.declared.command.Command.{Command}
use Rattle.signoff_words.specs.declared.command.Command.TheVariants as c
use Rattle.signoff_words.specs.declared.command.Form.{Form}
use Rattle.signoff_words.specs.declared.command.Form.TheVariants.{Words, Graph}
use Rattle.signoff_words.specs.declared.command.Job.{Job}
use Rattle.signoff_words.specs.declared.command.Service.{Service}
use Rattle.signoff_words.specs.declared.command.Task.{Task}
use Rattle.signoff_words.specs.declared.command.Task.TheVariants as t
use Rattle.signoff_words.specs.declared.command.Wants.{Wants}
use Rattle.signoff_words.specs.declared.name.Name.{Name}
use Rattle.signoff_words.specs.declared.name.Name.TheVariants.{Ops, Check, Trace, Least, Wave, Meet, Machine, Walk, Lines, Clauses, Accept, Demo, Serve, Migrate}
use Rattle.signoff_words.specs.declared.options.Options.{Options}
use Rattle.signoff_words.specs.declared.options.TheConstants.{DEFAULT_TIMEOUT}
use Rattle.signoff_words.specs.Numbers.{number_within}
use Rattle.signoff_words.specs.Options.{Read, nothing, read}

abbrev pub name_of : List ℕ → Option Name
name_of word =
    if bytes_eq word (codes "ops") then Some Ops
    else if bytes_eq word (codes "check") then Some Check
    else if bytes_eq word (codes "trace") then Some Trace
    else if bytes_eq word (codes "least") then Some Least
    else if bytes_eq word (codes "wave") then Some Wave
    else if bytes_eq word (codes "meet") then Some Meet
    else if bytes_eq word (codes "machine") then Some Machine
    else if bytes_eq word (codes "walk") then Some Walk
    else if bytes_eq word (codes "lines") then Some Lines
    else if bytes_eq word (codes "clauses") then Some Clauses
    else if bytes_eq word (codes "accept") then Some Accept
    else if bytes_eq word (codes "demo") then Some Demo
    else if bytes_eq word (codes "serve") then Some Serve
    else if bytes_eq word (codes "migrate") then Some Migrate
    else None

-- the options of a check
abbrev pub is_of_check : Choice → Bool
is_of_check Budget = true
is_of_check Workers = true
is_of_check Store = true
is_of_check Progress = true
is_of_check o = false

-- those of a service
abbrev pub is_of_service : Choice → Bool
is_of_service Budget = true
is_of_service Workers = true
is_of_service Timeout = true
is_of_service Replied = true
is_of_service o = false

-- whether a command may have an option
abbrev pub takes : Name → Choice → Bool
takes Machine Dot = true
takes Lines o = false
takes Clauses o = false
takes Accept Store = true
takes Accept o = false
takes Demo o = false
takes Serve o = is_of_service o
takes Migrate o = false
takes name o = is_of_check o

abbrev pub takes_all : Name → List Choice → Bool
takes_all name given = list_all (takes name) given

-- how a machine is shown
abbrev pub form_of : Bool → Form
form_of dot = if dot then Graph else Words

-- what is done with two texts, by the words behind their files; a derivation is accepted into a file of proofs, which has to be named
abbrev pub task_of : Name → Options → List (List ℕ) → Option Task
task_of Ops o [] = Some (t.Decide w.Ops)
task_of Check o [] = Some (t.Decide w.All)
task_of Trace o (line ∷ []) = Some (t.Decide (w.One line))
task_of Least o (line ∷ []) = Some (t.Decide (w.Least line))
task_of Wave o (line ∷ []) = Some (t.Wave line)
task_of Meet o [] = Some (t.Meet None)
task_of Meet o (property ∷ []) = Some (t.Meet (Some property))
task_of Machine o [] = Some (t.Machine (form_of o.dot))
task_of Walk o (rows ∷ []) = Some (t.Walk rows)
task_of Lines o [] = Some t.Lines
task_of Clauses o (line ∷ []) = Some (t.Clauses line)
task_of Accept o (line ∷ proof ∷ []) = if is_some o.store then Some (t.Accept (record { line = line; proof = proof })) else None
task_of name o words = None

abbrev pub job_of : List ℕ → List ℕ → Options → Task → Job
job_of m s o task = record { task = task; «module» = m; set = s; budget = o.budget; workers = o.workers; store = o.store; progress = o.progress }

-- the first words are the two files
abbrev pub texts_of : Name → Options → List (List ℕ) → Option Command
texts_of name o (m ∷ s ∷ words) = option_map (λ task. c.Texts (job_of m s o task)) (task_of name o words)
texts_of name o words = None

abbrev pub service_of : List ℕ → Options → ℕ → ℕ → Command
service_of file o port count = c.Serve (record { port = port; count = count; file = file; timeout = o.timeout; replied = o.replied; budget = o.budget; workers = o.workers })

abbrev pub serve_of : Options → List ℕ → List ℕ → List ℕ → Option Command
serve_of o port count file =
    option_and_then (λ p. option_map (service_of file o p) (number_within 1 1000000 count)) (number_within 1 65535 port)

-- the command of a name with what options say and the plain words
abbrev pub command_with : Name → Options → List (List ℕ) → Option Command
command_with Demo o (stages ∷ []) = option_map c.Demo (number_within 1 64 stages)
command_with Serve o (port ∷ count ∷ file ∷ []) = serve_of o port count file
command_with Migrate o (file ∷ []) = Some (c.Migrate file)
command_with name o words = texts_of name o words

-- it may have the options that are given
abbrev pub command_by : Name → Read → Option Command
command_by name r = if takes_all name r.given then command_with name r.options r.plain else None

abbrev pub command_of : List (List ℕ) → Option Command
command_of [] = None
command_of (w ∷ ws) = option_and_then (λ name. option_and_then (command_by name) (read ws nothing)) (name_of w)

-- what a command wants opened: a file of proofs, or the desk and the port
abbrev pub wants_of : Option Command → Wants
wants_of (Some (c.Texts job)) = record { store = job.store; port = None; timeout = DEFAULT_TIMEOUT }
wants_of (Some (c.Serve s)) = record { store = Some s.file; port = Some s.port; timeout = s.timeout }
wants_of (Some (c.Migrate file)) = record { store = Some file; port = None; timeout = DEFAULT_TIMEOUT }
wants_of (Some (c.Demo stages)) = record { store = None; port = None; timeout = DEFAULT_TIMEOUT }
wants_of None = record { store = None; port = None; timeout = DEFAULT_TIMEOUT }

-- a budget of at least 1, and 1 to 64 workers
pub record HasBounds (j : Job) : Type 0 where
  pub budget : 0 < j.budget
  pub working : 0 < j.workers
  pub few : j.workers ≤ 64

pub record IsServed (s : Service) : Type 0 where
  pub budget : 0 < s.budget
  pub working : 0 < s.workers
  pub few : s.workers ≤ 64
  pub some : 1 ≤ s.count
  pub most : s.count ≤ 1000000
  pub waiting : 0 < s.timeout
  pub brief : s.timeout ≤ 3600

-- and 1 to 64 stages
abbrev pub IsBounded : Command → Type 0
IsBounded (c.Texts job) = HasBounds job
IsBounded (c.Demo stages) = (1 ≤ stages) × (stages ≤ 64)
IsBounded (c.Serve service) = IsServed service
IsBounded (c.Migrate file) = Unit {0}
