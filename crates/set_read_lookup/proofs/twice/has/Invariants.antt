use Rattle.std.proofs.Common.{◌≡◌, drop}
use Rattle.std.specs.List.{list_any}
use Rattle.std.specs.Str.{bytes_eq}
use Rattle.set_read_lookup.proofs.twice.has.Given as goal

abbrev pub invariant-loop-other : goal.invariant-loop-other
invariant-loop-other l = list_any (λ m. bytes_eq m l.name) (drop l.other-index l.names) ≡ list_any (λ m. bytes_eq m l.name) l.names
