use Rattle.std.proofs.Common.{◌≡◌, drop, map}
use Rattle.std.specs.List.{list_any}
use Rattle.mem_laws.specs.Spread.{is_memory_word}
use Rattle.mem_flat.specs.Borrowed.{left_meant}
use Rattle.mem_flat.proofs.spreader.Spreader.has_memory_word.Given as goal

abbrev pub invariant-loop-part : goal.invariant-loop-part
invariant-loop-part l = list_any (is_memory_word l.self.rest.now) (map left_meant (drop l.part-index l.parts)) ≡ list_any (is_memory_word l.self.rest.now) (map left_meant l.parts)
