use Rattle.std.proofs.Common.{ap, ◌∙◌, ◌-◌, ◌/◌, ◌%◌, ◌^◌}
use Rattle.word_core.specs.Words.{Bits}
use Rattle.vlog_tree_values.proofs.Signs.{top_test}
use Rattle.vlog_tree_values.proofs.operators.is_top_set.Goals as goal

pub returns : goal.returns
returns c =
    let fits = c.value-fits.ensures.word in
    top_test c.args.a.width c.args.a.value c.value.result fits.some fits.fits (c.value.ensures.value ∙ ap (λ (w : Bits). w.value) c.slice.ensures ∙ ap (λ n. c.args.a.value / 2 ^ (n - 1) % 2 ^ 1) c.width.ensures)
