-- A front without a head, by whether it is full.
use Rattle.std.proofs.Common.{◌≡◌, ℕ, Bool, true, false, List, subst, sym}
use Rattle.std.specs.Prelude.{if◌then◌else◌}
use Rattle.httparse.specs.Grammar.{HasNoRequest}
use Rattle.httparse.specs.declared.spans.HeaderSpan.{HeaderSpan}
use Rattle.desk_http_request.specs.Front.{front, is_full}
use Rattle.desk_http_request.specs.Reading.{Judges}
use Rattle.desk_http_request.specs.declared.judge.Judgement.{Judgement}
use Rattle.desk_http_request.specs.declared.judge.Judgement.TheVariants.{Large, Partial}

pub judged_open : (bytes : List ℕ) (headers : List HeaderSpan) (full : Bool) (j : Judgement) → full ≡ is_full bytes
    → j ≡ (if full then Large else Partial) → HasNoRequest (front bytes) → Judges bytes headers j
judged_open bytes headers true j e f none = subst (Judges bytes headers) (sym f) (none, sym e)
judged_open bytes headers false j e f none = subst (Judges bytes headers) (sym f) (none, sym e)
