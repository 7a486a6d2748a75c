use Rattle.std.specs.Option.{option_map}
use Rattle.path_machine.proofs.Spelling.{RowLoop}
use Rattle.path_machine.proofs.line.row_of.Given as goal

-- the values so far, and what is left of the line
abbrev pub invariant-loop-width : goal.invariant-loop-width
invariant-loop-width l = RowLoop l.widths l.line l.width-index l.row (option_map (λ o. o.now) l.left)
