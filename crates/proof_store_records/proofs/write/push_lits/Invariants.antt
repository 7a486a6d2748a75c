use Rattle.std.proofs.Common.{◌≡◌, ◌<◌, ◌^◌, ◌++◌, All, length, map, take}
use Rattle.std.specs.List.{flat_map}
use Rattle.clause_check.specs.declared.literal.Lit.{Lit}
use Rattle.proof_store_records.specs.Layout.{lit_value, count_bytes, number_bytes}
use Rattle.proof_store_records.proofs.write.push_lits.Given as goal

abbrev pub invariant-loop-lit : goal.invariant-loop-lit
invariant-loop-lit l = record {
  bytes : l.out.items ≡ (l.fn.out.items ++ count_bytes l.version (length l.lits)) ++ flat_map (number_bytes l.version) (map lit_value (take l.lit-index l.lits));
  vars : All (λ (x : Lit). x.var < 2 ^ 32) (take l.lit-index l.lits);
}
