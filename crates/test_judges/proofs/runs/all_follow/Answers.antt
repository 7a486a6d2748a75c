use Rattle.std.proofs.Common.{◌≡◌, ℕ, ◌+◌, ◌-◌, ◌<◌, ◌≤◌, true, false, length, refl, sym, ap, ◌∙◌, subst, arith}
use Rattle.vlog_tree_runs.specs.Cycles.{Follows}
use Rattle.test_judges.specs.Values.{cycle_at, held}
use Rattle.test_judges.proofs.Running.{row_is, step_more}
use Rattle.test_judges.proofs.runs.all_follow.Goals as goal

pub returns-then-not-holds : goal.returns-then-not-holds
returns-then-not-holds c = (
  λ z. let w : false ≡ true = z in cc,
  λ h.
      let f = c.args.flat.now in
      let rows = c.args.cycles.now in
      let i = c.loop-i.i in
      let one = c.loop-i.invariant.0 in
      let n : i ≡ (i - 1) + 1 = omega (arith, one) in
      let lt : i < length rows = omega arith in
      let before = row_is f.signals rows (i - 1) c.index-cycles-i.result c.as_slice.result.now (omega (arith, lt)) c.index-cycles-i.is c.as_slice.ensures in
      let now = row_is f.signals rows i c.index-cycles-i-in-loop-i.result c.as_slice-in-loop-i.result.now lt c.index-cycles-i-in-loop-i.is c.as_slice-in-loop-i.ensures ∙ ap (cycle_at f.signals rows) n in
      let two : Follows f (held f.signals c.as_slice.result.now) (held f.signals c.as_slice-in-loop-i.result.now) =
      subst (λ z. Follows f z (held f.signals c.as_slice-in-loop-i.result.now)) (sym before) (subst (λ z. Follows f (cycle_at f.signals rows (i - 1)) z) (sym now) (h (i - 1) (omega (arith, one, lt)))) in
      sym c.if-not-holds.true ∙ c.in_ok-holds.ensures.1 two,
)

pub loop-i-preserved : goal.loop-i-preserved
loop-i-preserved c =
    let f = c.args.flat.now in
    let rows = c.args.cycles.now in
    let i = c.loop-i.i in
    let one = c.loop-i.invariant.0 in
    let n : i ≡ (i - 1) + 1 = omega (arith, one) in
    let lt : i < length rows = omega arith in
    let before = row_is f.signals rows (i - 1) c.index-cycles-i.result c.as_slice.result.now (omega (arith, lt)) c.index-cycles-i.is c.as_slice.ensures in
    let now = row_is f.signals rows i c.index-cycles-i-in-loop-i.result c.as_slice-in-loop-i.result.now lt c.index-cycles-i-in-loop-i.is c.as_slice-in-loop-i.ensures ∙ ap (cycle_at f.signals rows) n in
    let P : ℕ → Type 0 = λ t. Follows f (cycle_at f.signals rows t) (cycle_at f.signals rows (t + 1)) in
    let step : P (i - 1) = subst (λ z. Follows f z (cycle_at f.signals rows (i - 1 + 1))) before (subst (λ z. Follows f (held f.signals c.as_slice.result.now) z) now (c.in_ok-holds.ensures.0 c.if-not-holds.false)) in
    (omega (arith, one), step_more P i (i - 1) n c.loop-i.invariant.1 step)

pub returns : goal.returns
returns c =
    let le : length c.args.cycles.now ≤ c.loop-i.i = omega arith in
    (λ z t lt. c.loop-i.invariant.1 t (omega (arith, lt, le)), λ h. refl)
