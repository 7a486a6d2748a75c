use Rattle.elab_step_expr.proofs.Kept.{made_number}
use Rattle.elab_step_blocks.proofs.Giving.{puts_from}
use Rattle.elab_step_blocks.proofs.targets.put_from.Goals as goal

pub returns-clause-puts : goal.returns-clause-puts
returns-clause-puts c =
    let t = c.args.target in
    puts_from t c.args.value.node c.in_ok-node.node c.args.rest c.args.state.now c.put.new.state c.args.dag.now c.slice.new.dag c.put.new.dag c.requires.ready c.requires.target c.in_ok-node.ensures.keeps
    (λ e. made_number e c.slice.new.dag c.in_ok-node.node _ _ c.in_ok-node.ensures.makes) c.in_ok-put.ensures.puts
