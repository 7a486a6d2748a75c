use Rattle.std.proofs.Common.{◌≡◌, true, false, refl, sym, ap, ◌∙◌}
use Rattle.vlog_tree_runs.specs.declared.flat.Signal.{Signal}
use Rattle.vlog_tree_runs.specs.Contents.{is_among}
use Rattle.elab_flat_drivers.proofs.Naming.{among_of, meant_at}
use Rattle.mem_faults.proofs.Repeating.{name_later, no_name_later}
use Rattle.mem_faults.proofs.twice.first_named.Goals as goal

pub returns-then-has-clause-some : goal.returns-then-has-clause-some
returns-then-has-clause-some c =
    let names = c.args.names.now in
    let g = c.signal-item.result in
    let same : is_among names g.name ≡ true = ap (is_among names) (sym c.bytes.ensures) ∙ (sym c.has.ensures ∙ c.if-has.true) in (
      meant_at (λ (z : Signal). z.name) c.args.signals.now c.args.signals.now _ c.loop-signal.signal-index g c.loop-signal-test.true c.signal-item.is refl refl,
      among_of names g.name same,
    )

pub loop-signal-preserved : goal.loop-signal-preserved
loop-signal-preserved c = λ x h k.
    let names = c.args.names.now in
    let g = c.signal-item.result in
    let same : is_among names g.name ≡ false = ap (is_among names) (sym c.bytes.ensures) ∙ (sym c.has.ensures ∙ c.if-has.false) in
    name_later c.args.signals.now c.loop-signal.signal-index g c.loop-signal-test.true c.signal-item.is names x same k (c.loop-signal.invariant x h k)

pub returns-clause-none : goal.returns-clause-none
returns-clause-none c = λ x h k. no_name_later c.args.signals.now c.loop-signal.signal-index x c.loop-signal-test.false (c.loop-signal.invariant x h k)
