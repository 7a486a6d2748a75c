use Rattle.std.proofs.Common.{◌≡◌, drop}
use Rattle.std.specs.List.{find, flat_map}
use Rattle.set_read_lookup.specs.Faults.{names_in, is_wanted}
use Rattle.set_read_lookup.proofs.names.+names.Given as goal

abbrev pub invariant-wanted_among-loop-expr : goal.invariant-wanted_among-loop-expr
invariant-wanted_among-loop-expr l =
    find (is_wanted l.wanted) (flat_map names_in (drop l.expr-index l.exprs)) ≡ find (is_wanted l.wanted) (flat_map names_in l.exprs)
