use Rattle.std.proofs.Common.{◌∙◌, ap, sym}
use Rattle.word_core.specs.Words.{Bits}
use Rattle.elab_step_design.specs.Designs.{naming_of}
use Rattle.word_dag.proofs.Widths.{width-node_value}
use Rattle.unroll_laws.specs.Tests.{held}
use Rattle.replay.proofs.Cycling.{not_free}
use Rattle.replay.proofs.cycle.node_word.Goals as goal

pub returns-in_default : goal.returns-in_default
returns-in_default g c =
    let b = c.args.bound.now in
    let m = c.args.position in record {
      value = λ e of. c.value_of.ensures ∙ sym (not_free (naming_of (held b.design b.set m.resets e m.at)) c.args.node.now c.args.words.now c.in_default.not-Free);
      width = ap (λ (w : Bits). w.width) c.value_of.ensures ∙ width-node_value 0 c.args.words.now c.args.node.now c.requires.fits;
    }
