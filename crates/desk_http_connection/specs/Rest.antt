-- What is read after a head.
use Rattle.std.specs.Prelude.{◌≡◌, ◌<◌, ℕ, List, [], ◌++◌, take, length, Option, IfSome}
use Rattle.outside.specs.Faults.{Rose}
use Rattle.outside.specs.Port.{Wire}
use Rattle.desk_http_request.specs.Reading.{TakesBytes, OnlyRead}
use Rattle.desk_http_request.specs.Asked.{wanted_of}
use Rattle.desk_http_request.specs.Places.{Place}
use Rattle.desk_http_connection.specs.Request.{IsRefused, Asks, NeedsMore}
use Rattle.desk_http_connection.specs.declared.request.Request.TheVariants.{Refused, Asked, Partial}
use Rattle.desk_http_connection.specs.declared.request.Take.{Take}
use Rattle.desk_http_connection.specs.declared.request.Take.TheVariants.{Whole, Broken, NoMemory}

-- the body after a head, by the bytes that were read with the head and those that were read now
abbrev pub TakesBody : Option Wire → Option Wire → ℕ → ℕ → List ℕ → Place → ℕ → Take → Type 0
TakesBody old new before now after place count (Whole (Asked wanted)) =
    (d : List ℕ) × TakesBytes old new d × (length (take count after ++ d) ≡ count) × (wanted ≡ wanted_of place (take count after ++ d)) × (now ≡ before)
TakesBody old new before now after place count (Whole (Refused refusal)) = ⊥
TakesBody old new before now after place count (Whole Partial) =
    (d : List ℕ) × TakesBytes old new d × (length (take count after ++ d) < count) × IfSome new (λ w. w.unread ≡ []) × (now ≡ before)
TakesBody old new before now after place count Broken = OnlyRead old new × Rose before now
TakesBody old new before now after place count NoMemory = OnlyRead old new × (now ≡ before)

-- the request, by the bytes up to the head's end and some after it, and those that were read now
abbrev pub TakesRest : Option Wire → Option Wire → ℕ → ℕ → List ℕ → Take → Type 0
TakesRest old new before now bytes (Whole (Asked wanted)) = (d : List ℕ) × TakesBytes old new d × Asks (bytes ++ d) wanted × (now ≡ before)
TakesRest old new before now bytes (Whole (Refused refusal)) = OnlyRead old new × IsRefused bytes refusal × (now ≡ before)
TakesRest old new before now bytes (Whole Partial) =
    (d : List ℕ) × TakesBytes old new d × NeedsMore (bytes ++ d) × IfSome new (λ w. w.unread ≡ []) × (now ≡ before)
TakesRest old new before now bytes Broken = OnlyRead old new × Rose before now
TakesRest old new before now bytes NoMemory = OnlyRead old new × (now ≡ before)
