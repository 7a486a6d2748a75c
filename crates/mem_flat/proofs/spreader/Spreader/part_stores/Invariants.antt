use Rattle.std.proofs.Common.{◌≡◌, ◌++◌, drop, map, ◌≤◌}
use Rattle.mem_laws.specs.Spread.{lefts_length, part_stores}
use Rattle.mem_flat.specs.Borrowed.{left_meant}
use Rattle.mem_flat.proofs.spreader.Spreader.part_stores.Given as goal

abbrev pub invariant-loop-part : goal.invariant-loop-part
invariant-loop-part l = record {
  from : l.from ≡ lefts_length l.self.rest.now (map left_meant (drop l.part-index l.parts));
  few : l.from ≤ 64;
  stores : l.all ++ part_stores l.self.rest.now l.width l.right (map left_meant (drop l.part-index l.parts)) ≡ part_stores l.self.rest.now l.width l.right (map left_meant l.parts);
}
