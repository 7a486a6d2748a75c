use Rattle.std.proofs.Common.{◌∙◌}
use Rattle.std.specs.Prelude.{nat_eq, if◌then◌else◌}
use Rattle.elab_step_expr.proofs.Kept.{made_number, number_kept}
use Rattle.elab_step_blocks.proofs.firsts.or_matched.Goals as goal

pub returns-clause-number : goal.returns-clause-number
returns-clause-number c =
    let a = c.args.dag.now in
    let b = c.constant.new.dag in
    let k = c.in_ok-one.ensures.keeps in
    λ e. made_number e c.choice.new.dag c.in_ok-number.number 1 _ c.in_ok-number.ensures.makes
    ∙ (λ j. if nat_eq (number_kept e a b c.args.test 1 k c.requires.test j) 1 then made_number e b c.in_ok-one.one 1 _ c.in_ok-one.ensures.makes j else number_kept e a b c.args.matched 1 k c.requires.matched j)
