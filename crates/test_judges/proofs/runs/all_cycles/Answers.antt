use Rattle.std.proofs.Common.{◌≡◌, ℕ, ◌<◌, ◌≤◌, true, false, length, refl, sym, ◌∙◌, subst, arith}
use Rattle.vlog_tree_runs.specs.Cycles.{IsCycle}
use Rattle.test_judges.specs.Values.{AreValues, cycle_at}
use Rattle.test_judges.proofs.Running.{row_is, one_more}
use Rattle.test_judges.proofs.runs.all_cycles.Goals as goal

pub is_cycle-requires-clause-values : goal.is_cycle-requires-clause-values
is_cycle-requires-clause-values c =
    let rows = c.args.cycles.now in
    let row = c.index-cycles-i.result in
    subst (AreValues c.args.flat.now.signals) (sym (c.as_slice.ensures ∙ c.index-cycles-i.is)) (c.requires.values c.loop-i.i row (omega arith))

pub returns-then-not-holds : goal.returns-then-not-holds
returns-then-not-holds c = (
  λ z. let w : false ≡ true = z in cc,
  λ h.
      let lt : c.loop-i.i < length c.args.cycles.now = omega arith in
      sym c.if-not-holds.true
      ∙ c.in_ok-holds.ensures.1 (subst (IsCycle c.args.flat.now) (sym (row_is c.args.flat.now.signals c.args.cycles.now c.loop-i.i c.index-cycles-i.result c.as_slice.result.now lt c.index-cycles-i.is c.as_slice.ensures)) (h c.loop-i.i lt)),
)

pub loop-i-preserved : goal.loop-i-preserved
loop-i-preserved c =
    let gs = c.args.flat.now.signals in
    let rows = c.args.cycles.now in
    let lt : c.loop-i.i < length rows = omega arith in
    let P : ℕ → Type 0 = λ t. IsCycle c.args.flat.now (cycle_at gs rows t) in
    one_more P c.loop-i.i c.loop-i.invariant
    (subst (IsCycle c.args.flat.now) (row_is gs rows c.loop-i.i c.index-cycles-i.result c.as_slice.result.now lt c.index-cycles-i.is c.as_slice.ensures) (c.in_ok-holds.ensures.0 c.if-not-holds.false))

pub returns : goal.returns
returns c =
    let le : length c.args.cycles.now ≤ c.loop-i.i = omega arith in
    (λ z t lt. c.loop-i.invariant t (omega (arith, lt, le)), λ h. refl)
