use Rattle.std.proofs.Common.{◌≡◌, length, refl, sym, ap, ◌∙◌, subst}
use Rattle.vlog_tree.specs.Valuation.{IsLength}
use Rattle.vlog_tree_runs.specs.declared.flat.Signal.{Signal}
use Rattle.elab_step_nets.proofs.Boards.{rest_is}
use Rattle.elab_step_nets.proofs.Cycles.{plain_signal}
use Rattle.test_judges.specs.Showing.{AreHeld}
use Rattle.test_judges.proofs.Holding.{all_of, values_long, held_leaves, held_ready, leaves_apart}
use Rattle.test_judges.proofs.board.board.Goals as goal

pub leaves-requires-clause-long : goal.leaves-requires-clause-long
leaves-requires-clause-long c = all_of (λ (g : Signal). IsLength g.width) c.as_slice.result.now c.args.flat.now.signals c.as_slice.ensures c.requires.can.wide

pub leaves-requires-clause-plain : goal.leaves-requires-clause-plain
leaves-requires-clause-plain c = all_of (λ (g : Signal). g.depth ≡ 0) c.as_slice.result.now c.args.flat.now.signals c.as_slice.ensures (λ g m. plain_signal c.args.flat.now.signals g c.requires.can.plain m)

pub leaves-requires-clause-each : goal.leaves-requires-clause-each
leaves-requires-clause-each c = values_long c.args.flat.now.signals c.args.values.now c.requires.values ∙ ap length (sym c.as_slice.ensures)

pub returns-clause-set : goal.returns-clause-set
returns-clause-set c =
    let gs = c.args.flat.now.signals in
    let h = subst (λ z. AreHeld c.leaves.new.dag z c.in_ok-leaves.leaves c.args.values.now) c.as_slice.ensures c.in_ok-leaves.ensures.held in
    let r = held_ready c.leaves.new.dag gs c.in_ok-leaves.leaves c.args.values.now h in
    record { ready = r; seen = r; same = refl; apart = leaves_apart gs c.in_ok-leaves.leaves (held_leaves c.leaves.new.dag gs c.in_ok-leaves.leaves c.args.values.now h) c.requires.can.distinct }

pub returns-clause-rest : goal.returns-clause-rest
returns-clause-rest c =
    let gs = c.args.flat.now.signals in
    let h = subst (λ z. AreHeld c.leaves.new.dag z c.in_ok-leaves.leaves c.args.values.now) c.as_slice.ensures c.in_ok-leaves.ensures.held in
    rest_is gs c.in_ok-leaves.leaves (held_leaves c.leaves.new.dag gs c.in_ok-leaves.leaves c.args.values.now h)
