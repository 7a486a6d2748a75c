use Rattle.std.proofs.Common.{◌≡◌, ◌++◌, drop, map}
use Rattle.std.specs.List.{flat_map}
use Rattle.twin_tests.specs.Leaves.{read_meant, names_in}
use Rattle.twin_tests.proofs.leaves.+names.Given as goal

-- the names so far, and those to come
abbrev pub invariant-add_row_names-loop-formula : goal.invariant-add_row_names-loop-formula
invariant-add_row_names-loop-formula l = map read_meant l.all.items ++ flat_map names_in (drop l.formula-index l.formulas) ≡ map read_meant l.initial.all.items ++ flat_map names_in l.formulas
