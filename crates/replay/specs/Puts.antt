-- What printing a text does to a sink.
use Rattle.std.specs.Prelude.{◌≡◌, ℕ, ◌≤◌, List, Option, Result, Ok, Err, take}
use Rattle.std.specs.List.{flat_map}
use Rattle.std.specs.Borrow.{Bor}
use Rattle.std.specs.Io.KnownBytes.{Appends}
use Rattle.outside.specs.declared.fault.OutFault.{OutFault}
use Rattle.outside.specs.declared.fault.OutFault.TheVariants.{Failed, Memory}
use Rattle.outside.specs.Faults.{Rose}

-- the text was appended, and no fault was counted
pub record Put {S : Type 0} (written : S → Option (List ℕ)) (faults : S → ℕ) (old new : S) (text : List ℕ) : Type 0 where
  pub appends : Appends (written old) (written new) text
  pub calm : faults new ≡ faults old

-- A prefix of the text was appended, and then the sink refused. It failed only where its count of faults rose.
pub record Refused {S : Type 0} (written : S → Option (List ℕ)) (faults : S → ℕ) (old new : S) (fault : OutFault) (text : List ℕ) : Type 0 where
  pub prefix : (n : ℕ) × Appends (written old) (written new) (take n text)
  pub later : faults old ≤ faults new
  pub failed : fault ≡ Failed → Rose (faults old) (faults new)
  pub memory : fault ≡ Memory → faults new ≡ faults old

-- the text was put, or a prefix of it where the sink refused
abbrev pub Prints : {S T : Type 0} → (S → Option (List ℕ)) → (S → ℕ) → S → S → Result T OutFault → List ℕ → Type 0
Prints written faults old new (Ok u) text = Put written faults old new text
Prints written faults old new (Err e) text = Refused written faults old new e text

-- pieces, one after another
abbrev pub pieces_text : List (Bor (List ℕ)) → List ℕ
pieces_text pieces = flat_map (λ (piece : Bor (List ℕ)). piece.now) pieces
