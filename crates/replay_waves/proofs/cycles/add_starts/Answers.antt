use Rattle.std.proofs.Common.{ℕ, ◌+◌}
use Rattle.replay_waves.specs.declared.wave.First.{First}
use Rattle.replay_waves.specs.Parts.{value_text}
use Rattle.replay_waves.proofs.Numbering.{one_more}
use Rattle.replay_waves.proofs.cycles.add_starts.Goals as goal

pub loop-k-preserved : goal.loop-k-preserved
loop-k-preserved c = one_more (λ (p : ℕ × First). value_text p.1.width (c.args.number + p.0) p.1.value) c.args.firsts.now c.loop-k.k c.index-firsts-k.result c.args.out.now.items c.loop-k.out.items c.add_value.new.out.items c.loop-k-test.true c.index-firsts-k.is c.loop-k.invariant c.in_ok-add_value.ensures
