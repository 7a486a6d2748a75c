use Rattle.std.proofs.Common.{◌≡◌, ◌++◌, map, take}
use Rattle.desk_http_reply.specs.Reply.{shown_byte}
use Rattle.desk_http_reply.proofs.body.add_shown.Given as goal

abbrev pub invariant-loop-b : goal.invariant-loop-b
invariant-loop-b l = l.body.items ≡ l.fn.body.items ++ map shown_byte (take l.b-index l.name)
