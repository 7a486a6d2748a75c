use Rattle.std.proofs.Common.{◌≡◌, ◌++◌, drop, map}
use Rattle.elab_flat_drivers.specs.Pieces.{Tests, piece_meant}
use Rattle.elab_flat_drivers.proofs.pieces.add_tests.Given as goal

abbrev pub invariant-loop-expr : goal.invariant-loop-expr
invariant-loop-expr l = map piece_meant l.all.items ++ map Tests (drop l.expr-index l.exprs) ≡ map piece_meant l.initial.all.items ++ map Tests l.exprs
