use Rattle.std.proofs.Common.{◌∙◌}
use Rattle.std.specs.Prelude.{nat_eq, if◌then◌else◌}
use Rattle.std.specs.Option.{option_copied}
use Rattle.elab_step_expr.proofs.Kept.{made_number, number_kept}
use Rattle.elab_step_blocks.proofs.Storing.{set_kept}
use Rattle.elab_step_blocks.proofs.firsts.unmatched.Goals as goal

pub returns-clause-number : goal.returns-clause-number
returns-clause-number c =
    let a = c.args.dag.now in
    let b = c.constant.new.dag in
    let k = c.in_ok-one.ensures.keeps in
    λ e. c.in_ok-number.ensures.number e
    ∙ (λ j. if nat_eq (number_kept e a b c.args.matched 1 k c.requires.matched j) 1 then 0 else made_number e b c.in_ok-one.one 1 _ c.in_ok-one.ensures.makes j)

pub returns-in_err-one-clause-set : goal.returns-in_err-one-clause-set
returns-in_err-one-clause-set c = set_kept (option_copied c.args.reads) c.args.state.now c.args.dag.now c.constant.new.dag c.requires.set c.in_err-one.ensures.keeps

pub first_of-requires-clause-set : goal.first_of-requires-clause-set
first_of-requires-clause-set c = set_kept (option_copied c.args.reads) c.args.state.now c.args.dag.now c.constant.new.dag c.requires.set c.in_ok-one.ensures.keeps
