use Rattle.std.proofs.Common.{◌∙◌, List, sym, subst}
use Rattle.set_tree.specs.Formulas.{meaning_of}
use Rattle.set_tree.specs.Meaning.{Row}
use Rattle.path_machine.specs.Unmet.{FailsAt}
use Rattle.path_machine.proofs.Constraining.{fails_there, none_more, none_there, none_unmet}
use Rattle.path_machine.proofs.failing.unmet.Goals as goal

pub returns-then-fails : goal.returns-then-fails
returns-then-fails c =
    let m = meaning_of c.args.sound.now in
    let there = fails_there m c.args.sound.now c.as_slice-rows.result.now c.rows_from.result.now c.loop-t.t c.rows_from.ensures (sym c.in_ok-fails.ensures ∙ c.if-fails.true) in (
      subst (λ (rs : List Row). FailsAt m c.args.sound.now rs c.loop-t.t) c.as_slice-rows.ensures there,
      λ s lt f. c.loop-t.invariant s lt (subst (λ (rs : List Row). FailsAt m c.args.sound.now rs s) (sym c.as_slice-rows.ensures) f),
    )

pub loop-t-preserved : goal.loop-t-preserved
loop-t-preserved c =
    let m = meaning_of c.args.sound.now in
    none_more m c.args.sound.now c.as_slice-rows.result.now c.loop-t.t c.loop-t.invariant (none_there m c.args.sound.now c.as_slice-rows.result.now c.rows_from.result.now c.loop-t.t c.rows_from.ensures (sym c.in_ok-fails.ensures ∙ c.if-fails.false))

pub returns : goal.returns
returns c = λ t f.
    let m = meaning_of c.args.sound.now in
    none_unmet m c.args.sound.now c.as_slice-rows.result.now c.loop-t.t c.loop-t-test.false c.loop-t.invariant t (subst (λ (rs : List Row). FailsAt m c.args.sound.now rs t) (sym c.as_slice-rows.ensures) f)
