-- Reading a body.
use Rattle.std.specs.Prelude.{◌≡◌, ◌<◌, ℕ, List, [], ◌++◌, length, Option, IfSome}
use Rattle.outside.specs.Faults.{Rose}
use Rattle.outside.specs.Port.{Wire}
use Rattle.desk_http_request.specs.Reading.{OnlyRead, TakesBytes}
use Rattle.desk_http_connection.specs.declared.body.Filled.{Filled}
use Rattle.desk_http_connection.specs.declared.body.Filled.TheVariants.{Whole, End, Broken, NoMemory}

-- bytes were added up to the count, or the peer has ended before
abbrev pub Fills : Option Wire → Option Wire → ℕ → ℕ → ℕ → List ℕ → List ℕ → Filled → Type 0
Fills old new before now count had has Whole =
    (d : List ℕ) × (has ≡ had ++ d) × TakesBytes old new d × (length has ≡ count) × (now ≡ before)
Fills old new before now count had has End =
    (d : List ℕ) × (has ≡ had ++ d) × TakesBytes old new d × IfSome new (λ w. w.unread ≡ []) × (length has < count) × (now ≡ before)
Fills old new before now count had has Broken = OnlyRead old new × Rose before now
Fills old new before now count had has NoMemory = OnlyRead old new × (now ≡ before)
