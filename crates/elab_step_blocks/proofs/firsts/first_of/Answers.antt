use Rattle.std.proofs.Common.{◌∙◌}
use Rattle.std.specs.Prelude.{nat_eq, if◌then◌else◌}
use Rattle.std.specs.Option.{option_copied}
use Rattle.elab_step_expr.proofs.Kept.{made_number, number_kept, keeps_then}
use Rattle.elab_step_blocks.proofs.Storing.{set_kept}
use Rattle.elab_step_blocks.proofs.firsts.first_of.Goals as goal

pub returns-clause-number : goal.returns-clause-number
returns-clause-number c =
    let a = c.args.dag.now in
    let b = c.constant.new.dag in
    let k = c.in_ok-none.ensures.keeps in
    λ e. made_number e c.choice.new.dag c.in_ok-number.number 1 _ c.in_ok-number.ensures.makes
    ∙ (λ j. if nat_eq (number_kept e a b c.args.matched 1 k c.requires.matched j) 1 then made_number e b c.in_ok-none.none 1 _ c.in_ok-none.ensures.makes j else number_kept e a b c.args.test 1 k c.requires.test j)

pub returns-in_err-none-clause-set : goal.returns-in_err-none-clause-set
returns-in_err-none-clause-set c = set_kept (option_copied c.args.reads) c.args.state.now c.args.dag.now c.constant.new.dag c.requires.set c.in_err-none.ensures.keeps

pub returns-in_err-number-clause-set : goal.returns-in_err-number-clause-set
returns-in_err-number-clause-set c =
    set_kept (option_copied c.args.reads) c.args.state.now c.args.dag.now c.choice.new.dag c.requires.set (keeps_then c.args.dag.now c.constant.new.dag c.choice.new.dag c.in_ok-none.ensures.keeps c.in_err-number.ensures.keeps)

pub returns-clause-set : goal.returns-clause-set
returns-clause-set c =
    set_kept (option_copied c.args.reads) c.args.state.now c.args.dag.now c.choice.new.dag c.requires.set (keeps_then c.args.dag.now c.constant.new.dag c.choice.new.dag c.in_ok-none.ensures.keeps c.in_ok-number.ensures.keeps)
