use Rattle.std.proofs.Common.{◌≡◌, drop, map}
use Rattle.std.specs.List.{find}
use Rattle.set_read_lookup.specs.Faults.{is_no_output}
use Rattle.set_read_lookup.proofs.unknown.no_output.Given as goal

abbrev pub invariant-loop-cover : goal.invariant-loop-cover
invariant-loop-cover l = find (is_no_output l.declarations) (map (λ c. c.output) (drop l.cover-index l.covers)) ≡ find (is_no_output l.declarations) (map (λ c. c.output) l.covers)
