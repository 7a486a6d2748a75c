use Rattle.std.proofs.Common.{map, ap, subst, ◌∙◌}
use Rattle.vlog_tree_runs.specs.Places.{Among}
use Rattle.elab_flat_scopes.specs.Borrowed.{decl_meant}
use Rattle.elab_flat_names.proofs.Words.{signals_as}
use Rattle.elab_flat_clocks.proofs.bits.bit_inputs.Goals as goal

pub bits_among-requires : goal.bits_among-requires
bits_among-requires c = λ d a.
    signals_as c.args.scope.now.text.now d (subst (λ ds. Among ds d) (ap (map decl_meant) c.deref.ensures.value ∙ c.in_ok-signals.ensures) a)
