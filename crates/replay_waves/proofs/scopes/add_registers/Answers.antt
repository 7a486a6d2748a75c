use Rattle.std.proofs.Common.{ℕ, ◌+◌, List, ◌++◌, ap, ◌∙◌}
use Rattle.replay_waves.specs.declared.wave.First.{First}
use Rattle.replay_waves.specs.declared.wave.Kind.TheVariants.{Reg}
use Rattle.replay_waves.specs.Parts.{declared}
use Rattle.replay_waves.proofs.Numbering.{one_more}
use Rattle.replay_waves.proofs.scopes.add_registers.Goals as goal

pub loop-k-preserved : goal.loop-k-preserved
loop-k-preserved c =
    one_more (λ (p : ℕ × First). declared Reg p.1.width (c.args.number + p.0) p.1.name) c.args.firsts.now c.loop-k.k c.index-firsts-k.result c.args.out.now.items c.loop-k.out.items c.add_declared.new.out.items c.loop-k-test.true c.index-firsts-k.is c.loop-k.invariant
    (c.in_ok-add_declared.ensures ∙ ap (λ (path : List ℕ). c.loop-k.out.items ++ declared Reg c.index-firsts-k.result.width (c.args.number + c.loop-k.k) path) c.bytes.ensures)
