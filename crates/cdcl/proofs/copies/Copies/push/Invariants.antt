use Rattle.std.proofs.Common.{◌≡◌, ◌++◌, take}
use Rattle.cdcl.proofs.copies.Copies.push.Given as goal

abbrev pub invariant-loop-lit : goal.invariant-loop-lit
invariant-loop-lit l = record {
  lits : l.self.lits.items ≡ l.initial.self.lits.items ++ take l.lit-index l.clause;
  bounds : l.self.bounds.items ≡ l.initial.self.bounds.items;
}
