-- What a desk is at first, and commands that are given again.
use Rattle.std.specs.Prelude.{◌≡◌, ℕ, List, []}
use Rattle.std.specs.FinMap.{empty}
use Rattle.outside.specs.Tables.{Tables}
use Rattle.desk_core_commands.specs.declared.command.Answer.{Answer}
use Rattle.desk_core_commands.specs.declared.command.Answer.TheVariants as a
use Rattle.desk_core.specs.States.{IsDesk}
use Rattle.desk_core.specs.Steps.{Desk, PutsModule, PutsSet, SignsBlock}

abbrev pub no_tables : Tables
no_tables = record { blocks = empty; proofs = empty; signs = [] }

abbrev pub EmptyIsDesk : Type 0
EmptyIsDesk = IsDesk no_tables

-- where the relation leads from one desk to another with this answer, it then leads to the same tables with the same answer
abbrev pub HoldsAgain : (Answer → Desk → Desk → Type 0) → Answer → Type 0
HoldsAgain R answer = (old next new : Desk) (again : Answer) → R answer old next → R again next new → (again ≡ answer) × (new.tables ≡ next.tables)

-- a text that was stored is stored again, and a sign-off has its number again
abbrev pub ModuleIsStoredAgain : Type 0
ModuleIsStoredAgain = (name text : List ℕ) → HoldsAgain (PutsModule name text) a.Stored

abbrev pub SetIsStoredAgain : Type 0
SetIsStoredAgain = (name text : List ℕ) → HoldsAgain (PutsSet name text) a.Stored

abbrev pub SignedAgain : Type 0
SignedAgain = (name : List ℕ) (number : ℕ) → HoldsAgain (SignsBlock name) (a.Signed number)
