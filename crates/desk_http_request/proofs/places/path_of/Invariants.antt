use Rattle.std.proofs.Common.{◌≡◌, ◌++◌, take, drop}
use Rattle.desk_http_request.specs.Places.{path_of}
use Rattle.desk_http_request.proofs.places.path_of.Given as goal

abbrev pub invariant-loop-i : goal.invariant-loop-i
invariant-loop-i l = path_of l.target ≡ take l.i l.target ++ path_of (drop l.i l.target)
