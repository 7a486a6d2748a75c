use Rattle.std.proofs.Common.{◌≡◌, ◌∙◌, List, ap, map, arith}
use Rattle.word_core.specs.Words.{Bits}
use Rattle.word_dag.specs.Nodes.{word_at}
use Rattle.unroll_laws.specs.Tests.{rows_from}
use Rattle.replay.proofs.Cycling.{segment_step}
use Rattle.replay.proofs.segment.rows_of_source.Goals as goal

pub loop-at-preserved : goal.loop-at-preserved
loop-at-preserved g c =
    let b = c.args.bound.now in
    let loop = c.loop-at in
    let words = c.in_ok-words.words.items in
    let places = c.in_ok-places.places.items in
    let read : c.in_ok-row.row ≡ map (λ place. (word_at words place).value) places =
    c.in_ok-row.ensures ∙ (ap (λ (ws : List Bits). map (λ place. (word_at ws place).value) c.as_slice-in-loop-at-2.result.now) c.as_slice-in-loop-at.ensures.value ∙ ap (map (λ place. (word_at words place).value)) c.as_slice-in-loop-at-2.ensures.value) in
    segment_step b.design b.set c.design.ensures.fits c.args.resets (g.S.Source.gives c.args.source.now) loop.at loop.words.items words places loop.rows c.push.new.self c.in_ok-row.row c.in_ok-places.ensures c.in_ok-words.ensures read c.in_ok-push.ensures.ok loop.invariant

pub returns : goal.returns
returns g c = λ e of.
    let b = c.args.bound.now in
    let end : c.loop-at.at ≡ c.args.count = let past = c.loop-at-test.false in let most = c.loop-at.auto.at-end in omega (arith, past, most) in
    c.loop-at.invariant.shown e of ∙ ap (rows_from b.design b.set c.args.resets e 0) end
