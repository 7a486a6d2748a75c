use Rattle.std.proofs.Common.{◌≡◌, ◌++◌, take, drop}
use Rattle.desk_http_request.specs.Front.{lines_of, lines_left}
use Rattle.desk_http_request.proofs.bounds.lines_len.Given as goal

abbrev pub invariant-loop-i : goal.invariant-loop-i
invariant-loop-i l = record {
  lines : lines_of l.fn.most l.bytes ≡ take l.i l.bytes ++ lines_of l.left (drop l.i l.bytes);
  left : lines_left l.fn.most l.bytes ≡ lines_left l.left (drop l.i l.bytes);
}
