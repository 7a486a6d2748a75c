use Rattle.std.proofs.Common.{◌≡◌, ◌++◌, ℕ, take, drop}
use Rattle.desk_http_request.specs.Front.{lines_after_breaks, skip_breaks}
use Rattle.desk_http_request.proofs.bounds.breaks_len.Given as goal

abbrev pub invariant-loop-i : goal.invariant-loop-i
invariant-loop-i l = record {
  split : (n : ℕ) → lines_after_breaks n l.bytes ≡ take l.i l.bytes ++ lines_after_breaks n (drop l.i l.bytes);
  rest : skip_breaks l.bytes ≡ skip_breaks (drop l.i l.bytes);
}
