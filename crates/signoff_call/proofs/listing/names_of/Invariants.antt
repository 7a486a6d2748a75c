use Rattle.std.proofs.Common.{◌≡◌, ◌++◌, ◌∷◌, [], take}
use Rattle.std.specs.List.{flat_map}
use Rattle.set_tree.specs.declared.line.Line.{Line}
use Rattle.twin_tests_laws.specs.Names.{line_name}
use Rattle.signoff_call.proofs.listing.names_of.Given as goal

-- the names so far
abbrev pub invariant-loop-line : goal.invariant-loop-line
invariant-loop-line l = l.text.items ≡ flat_map (λ (line : Line). line_name l.set line ++ 10 ∷ []) (take l.line-index l.lines)
