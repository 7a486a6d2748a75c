use Rattle.std.proofs.Common.{◌≡◌, map, sym, ap, ◌∙◌, subst}
use Rattle.std.specs.List.{flat_map}
use Rattle.vlog_tree_runs.specs.declared.flat.Signal.{Signal}
use Rattle.vlog_tree_runs.specs.Places.{Among}
use Rattle.elab_flat_faults.specs.Declaring.{words_of}
use Rattle.elab_flat_drivers.proofs.Kinding.{some_at, none_is}
use Rattle.mem_faults.proofs.Repeating.{word_here, word_later, no_word_later}
use Rattle.mem_faults.proofs.twice.word_among.Goals as goal

pub returns-in-Some-clause-some : goal.returns-in-Some-clause-some
returns-in-Some-clause-some c =
    let h = some_at c.first_named.result _ c.in-Some.name c.first_named.ensures.some c.in-Some.is in
    let e = c.in_ok-copy.ensures ∙ c.bytes.ensures in (
      subst (λ z. Among (flat_map words_of c.args.signals.now) z) (sym e)
          (word_here c.args.signals.now c.loop-signal.signal-index c.signal-item.result c.loop-signal-test.true c.signal-item.is _ c.in-Some.name.now (c.as_slice.ensures ∙ c.in_ok-words.ensures) h.0),
      subst (λ z. Among c.args.names.now z) (sym e) h.1,
    )

pub loop-signal-preserved : goal.loop-signal-preserved
loop-signal-preserved c = λ x h k.
    word_later c.args.signals.now c.loop-signal.signal-index c.signal-item.result c.loop-signal-test.true c.signal-item.is _ x (c.as_slice.ensures ∙ c.in_ok-words.ensures)
    (λ m. none_is c.first_named.result _ c.in_default.not-Some c.first_named.ensures.none x m k) (c.loop-signal.invariant x h k)

pub returns-clause-none : goal.returns-clause-none
returns-clause-none c = λ x h k. no_word_later c.args.signals.now c.loop-signal.signal-index x c.loop-signal-test.false (c.loop-signal.invariant x h k)
