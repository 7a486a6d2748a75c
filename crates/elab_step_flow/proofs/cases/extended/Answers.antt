use Rattle.std.proofs.Common.{◌≡◌, arith, ap, ◌∙◌, subst}
use Rattle.word_core.specs.Words.{Bits, IsWord, sext_of, zext_of}
use Rattle.std.specs.Prelude.{if◌then◌else◌}
use Rattle.vlog_tree_values.proofs.Signs.{extend_is}
use Rattle.elab_step_flow.proofs.cases.extended.Goals as goal

pub returns : goal.returns
returns c =
    let a : Bits = record { width = c.args.width; value = c.args.number } in
    let word : IsWord a = record { some = c.requires.some; most = omega (arith, c.requires.long, c.requires.most); fits = c.requires.fits } in
    c.value.ensures.value ∙ ap (λ (w : Bits). w.value)
    (subst (λ (z : Bits). c.extend.result ≡ (if c.args.signed then sext_of z c.args.length else zext_of z c.args.length)) c.new.ensures c.extend.ensures ∙ extend_is c.args.signed a c.args.length word c.requires.long)
