use Rattle.std.proofs.Common.{◌≡◌, Ok}
use Rattle.std.proofs.lemmas.Result.{IfOk-at_ok}
use Rattle.vlog_tree.specs.declared.expr.Expr.TheVariants as e
use Rattle.elab_flat_move.proofs.Pairs.{made}
use Rattle.mem_flat.proofs.words.choice.Goals as goal

pub returns : goal.returns
returns c =
    let all = c.in_ok-test.ensures in
    λ z. e.Choice (made _ _ _ all.first c.new-3.ensures z)
    (made _ _ _ (IfOk-at_ok (λ p. c.new.result ≡ Ok p.0) all.second c.both-ends.ensures.first) c.new.ensures z)
    (made _ _ _ (IfOk-at_ok (λ p. c.new-2.result ≡ Ok p.1) all.second c.both-ends.ensures.second) c.new-2.ensures z)
