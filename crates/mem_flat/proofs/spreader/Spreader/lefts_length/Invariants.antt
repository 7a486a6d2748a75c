use Rattle.std.proofs.Common.{◌≡◌, ◌+◌, drop, map}
use Rattle.mem_laws.specs.Spread.{lefts_length}
use Rattle.mem_flat.specs.Borrowed.{left_meant}
use Rattle.mem_flat.proofs.spreader.Spreader.lefts_length.Given as goal

abbrev pub invariant-loop-part : goal.invariant-loop-part
invariant-loop-part l = l.total + lefts_length l.self.rest.now (map left_meant (drop l.part-index l.parts)) ≡ lefts_length l.self.rest.now (map left_meant l.parts)
