-- What the bytes of a connection ask for.
use Rattle.std.specs.Prelude.{◌≡◌, ◌≤◌, ◌<◌, ◌⊎◌, ℕ, List, length, take, drop, false, Ok, Err}
use Rattle.httparse.specs.Grammar.{RequestHead, ReadsRequest, HasNoRequest, print_request}
use Rattle.desk_http_request.specs.Front.{front, is_full}
use Rattle.desk_http_request.specs.declared.refusal.Refusal.{Refusal}
use Rattle.desk_http_request.specs.Reading.{IsNoHead}
use Rattle.desk_http_request.specs.declared.wanted.Wanted.{Wanted}
use Rattle.desk_http_connection.specs.declared.request.Request.{Request}
use Rattle.desk_http_connection.specs.declared.request.Request.TheVariants.{Refused, Asked, Partial}
use Rattle.desk_http_request.specs.Asked.{Order, asked_of, wanted_of}

-- the bytes after a head
abbrev pub after_head : RequestHead → List ℕ → List ℕ
after_head h bytes = drop (length (print_request h)) bytes

-- a head stands at the start of the front
abbrev pub BeginsWith : List ℕ → RequestHead → Type 0
BeginsWith bytes h = (rest : List ℕ) × ReadsRequest (front bytes) h rest

-- a whole request: its head, and the body that the head awaits
abbrev pub Asks : List ℕ → Wanted → Type 0
Asks bytes wanted = (h : RequestHead) × (order : Order) × BeginsWith bytes h × (asked_of h ≡ Ok order)
    × (order.count ≤ length (after_head h bytes)) × (wanted ≡ wanted_of order.place (take order.count (after_head h bytes)))

-- why the bytes are refused: they begin with no head, or with one that is refused
abbrev pub IsRefused : List ℕ → Refusal → Type 0
IsRefused bytes refusal = IsNoHead bytes refusal ⊎ ((h : RequestHead) × BeginsWith bytes h × (asked_of h ≡ Err refusal))

-- more bytes are needed: for the head, or for the body
abbrev pub NeedsMore : List ℕ → Type 0
NeedsMore bytes =
    (HasNoRequest (front bytes) × (is_full bytes ≡ false))
    ⊎ ((h : RequestHead) × (order : Order) × BeginsWith bytes h × (asked_of h ≡ Ok order) × (length (after_head h bytes) < order.count))

-- what a connection with these bytes may be taken for: by some first bytes of them, and for a part only where they are all.
-- So it depends on the bytes in their order, however they were cut.
abbrev pub Permits : List ℕ → Request → Type 0
Permits all (Refused refusal) = (n : ℕ) × IsRefused (take n all) refusal
Permits all (Asked wanted) = (n : ℕ) × Asks (take n all) wanted
Permits all Partial = NeedsMore all
