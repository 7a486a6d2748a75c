use Rattle.std.proofs.Common.{◌≡◌, ◌++◌, drop, map}
use Rattle.elab_flat_move.proofs.text.names_under.Given as goal

abbrev pub invariant-loop-name : goal.invariant-loop-name
invariant-loop-name l = l.all ++ map (λ x. l.prefix ++ x) (drop l.name-index l.names) ≡ map (λ x. l.prefix ++ x) l.names
