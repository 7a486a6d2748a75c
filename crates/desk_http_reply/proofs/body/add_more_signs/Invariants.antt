use Rattle.std.proofs.Common.{◌≡◌, ◌++◌, map, take}
use Rattle.std.specs.List.{flat_map}
use Rattle.desk_http_reply.specs.Reply.{comma_before, sign_item}
use Rattle.desk_http_reply.proofs.body.add_more_signs.Given as goal

abbrev pub invariant-loop-sign : goal.invariant-loop-sign
invariant-loop-sign l = l.body.items ≡ l.fn.body.items ++ flat_map comma_before (map sign_item (take l.sign-index l.signs))
