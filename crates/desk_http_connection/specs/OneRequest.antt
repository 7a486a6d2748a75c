-- A connection asks for one thing.
use Rattle.std.specs.Prelude.{◌≡◌, ℕ, List}
use Rattle.httparse.specs.Grammar.{RequestHead}
use Rattle.desk_http_connection.specs.Request.{BeginsWith, Permits}
use Rattle.desk_http_connection.specs.declared.request.Request.{Request}

-- bytes that begin with a head may be taken for one request at most: what they ask for, the cause by which the head is refused, or a part
-- whose body isn't whole
abbrev pub OneRequest : Type 0
OneRequest = (all : List ℕ) (h : RequestHead) (r s : Request) → BeginsWith all h → Permits all r → Permits all s → r ≡ s
