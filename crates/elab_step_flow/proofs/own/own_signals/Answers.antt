use Rattle.std.proofs.Common.{◌<◌, length, List, subst, sym}
use Rattle.vlog_tree_runs.specs.declared.flat.Signal.{Signal}
use Rattle.vlog_tree_runs.specs.Places.{Among}
use Rattle.elab_step_flow.specs.Own.{AreSignalsAt}
use Rattle.elab_step_flow.proofs.Owning.{are_own, placed_within}
use Rattle.elab_step_flow.proofs.own.own_signals.Goals as goal

pub signals_at-requires : goal.signals_at-requires
signals_at-requires c = λ i h.
    let within = placed_within c.args.scope.now c.args.body.now i ((c.in_ok-places.ensures.named i).0 (subst (λ ps. Among ps i) c.deref.ensures.value h)) in
    subst (λ (gs : List Signal). i < length gs) (sym c.list.ensures) within

pub returns : goal.returns
returns c =
    are_own c.args.scope.now c.requires.vectors c.args.body.now c.in_ok-places.places.items c.in_ok-signals.signals.items c.in_ok-places.ensures.rises (λ i h. (c.in_ok-places.ensures.named i).1 h)
    (subst (λ gs. AreSignalsAt gs c.in_ok-places.places.items c.in_ok-signals.signals.items) c.list.ensures (subst (λ ps. AreSignalsAt c.list.result.now ps c.in_ok-signals.signals.items) c.deref.ensures.value c.in_ok-signals.ensures)) c.requires.body
