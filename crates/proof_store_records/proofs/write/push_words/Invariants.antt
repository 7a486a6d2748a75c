use Rattle.std.proofs.Common.{◌≡◌, ◌++◌, take}
use Rattle.std.specs.List.{flat_map}
use Rattle.proof_store_records.specs.declared.version.Version.TheVariants.{First}
use Rattle.proof_store_records.specs.Layout.{number_bytes}
use Rattle.proof_store_records.proofs.write.push_words.Given as goal

abbrev pub invariant-loop-number : goal.invariant-loop-number
invariant-loop-number l = l.out.items ≡ l.fn.out.items ++ flat_map (number_bytes First) (take l.number-index l.numbers)
