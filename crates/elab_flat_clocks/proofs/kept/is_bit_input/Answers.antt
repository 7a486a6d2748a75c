use Rattle.std.proofs.Common.{◌≡◌, Some, sym, ap, ◌∙◌}
use Rattle.std.specs.Option.{option_map}
use Rattle.vlog_tree_runs.specs.Contents.{Decl, signals_in}
use Rattle.vlog_tree_runs.specs.Scopes.{decl_at}
use Rattle.elab_flat_scopes.specs.Borrowed.{decl_meant}
use Rattle.elab_flat_names.proofs.Words.{signals_as}
use Rattle.elab_flat_names.proofs.Seconds.{among_at}
use Rattle.elab_flat_clocks.proofs.kept.is_bit_input.Goals as goal

pub declared_signal-requires : goal.declared_signal-requires
declared_signal-requires c =
    let m = c.args.scope.now.text.now in
    let d : Decl = decl_meant c.in-Some.decl.now in
    let at : decl_at (signals_in m) c.args.name.now ≡ Some d =
    ap (λ ds. decl_at ds c.args.name.now) (sym c.requires) ∙ (sym c.at.ensures ∙ ap (option_map (λ x. decl_meant x.now)) c.in-Some.is) in
    signals_as m d (among_at (signals_in m) c.args.name.now d at)
