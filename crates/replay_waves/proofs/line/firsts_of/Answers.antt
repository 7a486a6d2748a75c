use Rattle.std.proofs.Common.{◌+◌, ◌∙◌, ◌<◌, ◌≤◌, ◌⊎◌, inl, inr, ⊎_elim, length, refl, arith}
use Rattle.replay_waves.proofs.Firsts.{firsts_done, firsts_push}
use Rattle.replay_waves.proofs.line.firsts_of.Goals as goal

pub loop-i-preserved : goal.loop-i-preserved
loop-i-preserved c =
    let rs = c.args.registers.now in
    let ss = c.args.starts.now in
    let i = c.loop-i.i in
    let there : i < length rs = omega (arith, c.loop-i-test.true, c.least-count.ensures.first) in
    let here : i < length ss = omega (arith, c.loop-i-test.true, c.least-count.ensures.second) in
    firsts_push rs ss i (i + 1) c.loop-i.firsts c.push.new.self c.index-registers-i.result c.index-starts-i.result c.in_ok-first_of.field-0 refl there here c.index-registers-i.is c.index-starts-i.is c.loop-i.invariant c.in_ok-first_of.ensures c.in_ok-push.ensures.ok

pub returns : goal.returns
returns c =
    let rs = c.args.registers.now in
    let ss = c.args.starts.now in
    let i = c.loop-i.i in
    let done : (length rs ≤ i) ⊎ (length ss ≤ i) = ⊎_elim
    (λ h. inl (omega (arith, h, c.loop-i-test.false)))
    (λ h. inr (omega (arith, h, c.loop-i-test.false))) c.least-count.ensures.one in
    c.loop-i.invariant ∙ firsts_done rs ss i done
