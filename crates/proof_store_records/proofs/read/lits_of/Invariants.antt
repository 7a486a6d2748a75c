use Rattle.std.proofs.Common.{◌≡◌, ◌<◌, ◌^◌, All, map, take}
use Rattle.clause_check.specs.declared.literal.Lit.{Lit}
use Rattle.proof_store_records.specs.Layout.{lit_value}
use Rattle.proof_store_records.proofs.read.lits_of.Given as goal

abbrev pub invariant-loop-value : goal.invariant-loop-value
invariant-loop-value l = record {
  below : All (λ (x : Lit). x.var < 2 ^ 32) l.lits.items;
  told : map lit_value l.lits.items ≡ take l.value-index l.values;
}
