use Rattle.std.proofs.Common.{◌≡◌, drop}
use Rattle.std.specs.List.{find, flat_map}
use Rattle.elab_flat_params.specs.Constants.{is_strange}
use Rattle.elab_flat_faults.specs.Texts.{names_in}
use Rattle.elab_flat_params.proofs.stranger.+strangers.Given as goal

abbrev pub invariant-stranger_among-loop-expr : goal.invariant-stranger_among-loop-expr
invariant-stranger_among-loop-expr l =
    find (is_strange l.params) (flat_map names_in (drop l.expr-index l.exprs)) ≡ find (is_strange l.params) (flat_map names_in l.exprs)
