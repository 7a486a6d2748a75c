use Rattle.std.proofs.Common.{◌≡◌, ◌++◌, map, take}
use Rattle.std.specs.List.{flat_map}
use Rattle.desk_http_reply.specs.Reply.{comma_before, name_item}
use Rattle.desk_http_reply.proofs.body.add_more_names.Given as goal

abbrev pub invariant-loop-name : goal.invariant-loop-name
invariant-loop-name l = l.body.items ≡ l.fn.body.items ++ flat_map comma_before (map name_item (take l.name-index l.names))
