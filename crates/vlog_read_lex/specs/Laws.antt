-- What holds of every text: its readings and faults are one, and each run, comment and sign goes as far as it can.
use Rattle.std.specs.Prelude.{ℕ, ◌+◌, ◌<◌, ◌≤◌, ◌≡◌, Bool, true, false, List, length, slice_index, slice_range, Option, Some, None}
use Rattle.vlog_tree.specs.declared.token.Token.{Token}
use Rattle.vlog_read_lex.specs.declared.class.Class.{Class}
use Rattle.vlog_read_lex.specs.declared.error.ReadFault.{ReadFault}
use Rattle.vlog_read_lex.specs.declared.error.ReadFault.TheVariants as fault
use Rattle.vlog_read_lex.specs.Bytes.{has}
use Rattle.vlog_read_lex.specs.Places.{first_place, run_end}
use Rattle.vlog_read_lex.specs.Signs.{is_sign, is_sign_of, sign_size}
use Rattle.vlog_read_lex.specs.Tokens.{Lexes, HasFault}

-- a text spells at most one list of tokens
abbrev pub SpellsOneList : Type 0
SpellsOneList = (set : Bool) (bs : List ℕ) (ts us : List Token) → Lexes set bs ts → Lexes set bs us → ts ≡ us

-- want of memory is no fault of the text
abbrev pub IsOfText : ReadFault → Type 0
IsOfText fault.Memory = ⊥
IsOfText _ = Unit {0}

-- a text that spells tokens has no fault
abbrev pub SpellsOrFaults : Type 0
SpellsOrFaults = (set : Bool) (bs : List ℕ) (ts : List Token) (f : ReadFault) → Lexes set bs ts → IsOfText f → HasFault set bs f → ⊥

-- a text has at most one first fault
abbrev pub HasOneFault : Type 0
HasOneFault = (set : Bool) (bs : List ℕ) (f g : ReadFault) → IsOfText f → IsOfText g → HasFault set bs f → HasFault set bs g → f ≡ g

-- what the first place from i on, before the end, is: a test holds there, and at none before; without one it holds nowhere
abbrev pub IsFirst : (ℕ → Bool) → ℕ → ℕ → Option ℕ → Type 0
IsFirst q i end (Some j) = (i ≤ j) × (j < end) × (q j ≡ true) × ((k : ℕ) → i ≤ k → k < j → q k ≡ false)
IsFirst q i end None = (k : ℕ) → i ≤ k → k < end → q k ≡ false

abbrev pub FirstPlacesAreFirst : Type 0
FirstPlacesAreFirst = (q : ℕ → Bool) (i end : ℕ) → IsFirst q i end (first_place q i end)

-- the bytes from i up to j are of a class, and none goes on at j
pub record IsRun (class : Class) (bs : List ℕ) (i j : ℕ) : Type 0 where
  pub from : i ≤ j
  pub within : j ≤ length bs
  pub each : (k : ℕ) → i ≤ k → k < j → has class (slice_index bs k) ≡ true
  pub ends : j < length bs → has class (slice_index bs j) ≡ false

abbrev pub RunsAreLongest : Type 0
RunsAreLongest = (class : Class) (bs : List ℕ) (i : ℕ) → i ≤ length bs → IsRun class bs i (run_end class bs i)

-- the text s stands at i
abbrev pub Stands : List ℕ → List ℕ → ℕ → Type 0
Stands s bs i = (i + length s ≤ length bs) × (slice_range bs i (i + length s) ≡ s)

-- no sign that stands at a place is longer than the one that is taken there
abbrev pub SignsAreLongest : Type 0
SignsAreLongest = (bs : List ℕ) (i : ℕ) (s : List ℕ) → is_sign s ≡ true → Stands s bs i → length s ≤ sign_size bs i

-- and the one that is taken stands there
abbrev pub SignsStand : Type 0
SignsStand = (bs : List ℕ) (i : ℕ) → 0 < sign_size bs i → is_sign_of (sign_size bs i) bs i ≡ true
