use Rattle.std.proofs.Common.{◌≡◌, [], drop, map}
use Rattle.twin_tests.specs.Leaves.{read_meant, leaves_from, with_leaves}
use Rattle.twin_tests.proofs.leaves.leaves_of.Given as goal

-- the leaves so far, and those to come
abbrev pub invariant-loop-read : goal.invariant-loop-read
invariant-loop-read l = with_leaves (leaves_from l.names 0 l.rows) l.leaves (map read_meant (drop l.read-index l.read-items)) ≡ with_leaves (leaves_from l.names 0 l.rows) [] (map read_meant l.read-items)
