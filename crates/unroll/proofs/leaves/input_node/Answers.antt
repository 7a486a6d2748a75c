use Rattle.std.proofs.Common.{ap, ◌∙◌, ℕ}
use Rattle.std.specs.Prelude.{nat_lt}
use Rattle.std.proofs.lemmas.Result.{IfOk-weaker}
use Rattle.word_core.specs.Words.{Bits}
use Rattle.unroll_laws.specs.Segments.{cycle_number}
use Rattle.unroll_laws.specs.Tests.{level}
use Rattle.unroll.proofs.Leaving.{chosen_word, level_fits}
use Rattle.unroll.proofs.leaves.input_node.Goals as goal

pub new-requires-clause-fits : goal.new-requires-clause-fits
new-requires-clause-fits c = rw c.level-value.ensures (level_fits c.args.set.now (nat_lt c.args.moment.position c.args.moment.resets) c.args.input.now.width c.requires.some)

pub returns-then-eq-clause-word : goal.returns-then-eq-clause-word
returns-then-eq-clause-word c =
    IfOk-weaker c.add.result _ _ (λ i made.
    let set = c.args.set.now in
    let x = c.args.input.now.name in
    let w = c.args.input.now.width in
    let active = nat_lt c.args.moment.position c.args.moment.resets in
    chosen_word c.args.dag.now c.add.new.self c.new.result i w (level set active) x set.reset c.bytes.result.now c.bytes-2.result.now c.eq.result (λ e. e x 0 (cycle_number c.args.moment.resets c.args.moment.position)) c.eq.ensures c.if-eq.true c.bytes.ensures c.bytes-2.ensures made
    (c.new.ensures ∙ ap (λ (v : ℕ). let b : Bits = record { width = w; value = v } in b) c.level-value.ensures) (level_fits set active w c.requires.some)) c.add.ensures.adds
