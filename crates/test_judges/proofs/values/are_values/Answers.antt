use Rattle.std.proofs.Common.{◌≤◌, sym, ap, ◌∙◌}
use Rattle.vlog_tree_runs.specs.declared.flat.Signal.{Signal}
use Rattle.test_judges.specs.Values.{all_fit}
use Rattle.test_judges.proofs.Holding.{all_of}
use Rattle.test_judges.proofs.Fitting.{fit_values, values_fit}
use Rattle.test_judges.proofs.values.are_values.Goals as goal

pub all_fit-requires : goal.all_fit-requires
all_fit-requires c = all_of (λ (g : Signal). g.width ≤ 64) c.as_slice.result.now c.args.flat.now.signals c.as_slice.ensures (λ g m. (c.requires.wide g m).1)

pub returns : goal.returns
returns c =
    let e = c.all_fit.ensures ∙ ap (λ z. all_fit z c.args.values.now) c.as_slice.ensures in
    (λ t. fit_values c.args.flat.now.signals c.args.values.now (sym e ∙ t), λ h. e ∙ values_fit c.args.flat.now.signals c.args.values.now h)
