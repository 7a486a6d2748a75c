-- What the bytes so far come to, and what reading a head comes to.
use Rattle.std.specs.Prelude.{◌≡◌, ◌<◌, ◌≤◌, ◌⊎◌, ℕ, List, [], ◌++◌, length, take, Option, option_map, IfSome, false, true}
use Rattle.httparse.specs.Grammar.{HasNoRequest, NeverHasRequest}
use Rattle.httparse.specs.Spans.{IsRequestOf, IsRequestWithin}
use Rattle.httparse.specs.declared.spans.HeaderSpan.{HeaderSpan}
use Rattle.outside.specs.Port.{Wire, read_off}
use Rattle.outside.specs.Faults.{Rose}
use Rattle.desk_http_request.specs.Front.{front, is_full}
use Rattle.desk_http_request.specs.declared.read.Reading.{Reading}
use Rattle.desk_http_request.specs.declared.read.Reading.TheVariants.{Head, Refused, Cut, Broken as BrokenHead, NoMemory as NoMemoryHead}
use Rattle.desk_http_request.specs.declared.refusal.Refusal.{Refusal}
use Rattle.desk_http_request.specs.declared.refusal.Refusal.TheVariants.{Head as NoHead, LargeHead}
use Rattle.desk_http_request.specs.declared.read.More.{More}
use Rattle.desk_http_request.specs.declared.read.More.TheVariants.{Bytes, End, Broken, NoMemory}
use Rattle.desk_http_request.specs.declared.judge.Judgement.{Judgement}
use Rattle.desk_http_request.specs.declared.judge.Judgement.TheVariants.{Whole, Hopeless, Large, Partial}

-- a head; or no continuation is one; or a bound ended the front without one; or more bytes are needed
abbrev pub Judges : List ℕ → List HeaderSpan → Judgement → Type 0
Judges bytes headers (Whole spans) = IsRequestWithin (front bytes) headers spans × IsRequestOf (front bytes) headers spans
Judges bytes headers Hopeless = NeverHasRequest (front bytes)
Judges bytes headers Large = HasNoRequest (front bytes) × (is_full bytes ≡ true)
Judges bytes headers Partial = HasNoRequest (front bytes) × (is_full bytes ≡ false)

-- the bytes are refused since they begin with no head
abbrev pub IsNoHead : List ℕ → Refusal → Type 0
IsNoHead bytes refusal = ((refusal ≡ NoHead) × NeverHasRequest (front bytes))
    ⊎ ((refusal ≡ LargeHead) × HasNoRequest (front bytes) × (is_full bytes ≡ true))

-- these bytes were read, from the front of what was unread
abbrev pub TakesBytes : Option Wire → Option Wire → List ℕ → Type 0
TakesBytes old new bytes = (new ≡ option_map (read_off (length bytes)) old)
    × IfSome old (λ w. bytes ≡ take (length bytes) w.unread)

-- some bytes were read, and nothing else was done
abbrev pub OnlyRead : Option Wire → Option Wire → Type 0
OnlyRead old new = (n : ℕ) × (new ≡ option_map (read_off n) old)

-- one read: some bytes were added, at most so many, or the peer has ended, or the port failed
abbrev pub Reads : Option Wire → Option Wire → ℕ → ℕ → ℕ → List ℕ → List ℕ → More → Type 0
Reads old new before now most had has Bytes =
    (d : List ℕ) × (has ≡ had ++ d) × (0 < length d) × (length d ≤ most) × TakesBytes old new d × (now ≡ before)
Reads old new before now most had has End =
    (has ≡ had) × (new ≡ option_map (read_off 0) old) × IfSome old (λ w. w.unread ≡ []) × (now ≡ before)
Reads old new before now most had has Broken = (new ≡ old) × Rose before now
Reads old new before now most had has NoMemory = OnlyRead old new × (now ≡ before)

-- how reading a head ends, by the bytes that were read
abbrev pub Ends : Option Wire → Option Wire → ℕ → ℕ → List ℕ → List HeaderSpan → Reading → Type 0
Ends old new before now bytes headers (Head spans) = TakesBytes old new bytes × Judges bytes headers (Whole spans) × (now ≡ before)
Ends old new before now bytes headers (Refused refusal) = TakesBytes old new bytes × IsNoHead bytes refusal × (now ≡ before)
Ends old new before now bytes headers Cut = Judges bytes headers Partial × IfSome old (λ w. bytes ≡ w.unread) × OnlyRead old new × (now ≡ before)
Ends old new before now bytes headers BrokenHead = OnlyRead old new × Rose before now
Ends old new before now bytes headers NoMemoryHead = OnlyRead old new × (now ≡ before)
