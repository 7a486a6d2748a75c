use Rattle.std.proofs.Common.{◌≡◌, ℕ, suc, ◌+◌, ◌-◌, ◌*◌, ◌^◌, ◌≤◌, ◌<◌, ap, sym, ◌∙◌, arith}
use Rattle.std.proofs.Math.Nat.{add-mul}
use Rattle.vlog_tree_values.specs.Shapes.{copy_number}
use Rattle.elab_step_expr.specs.Nodes.{number_at}
use Rattle.elab_step_expr.proofs.Kept.{made_same, made_here, made_node, made_number, node_kept, number_kept, keeps_same, keeps_then}
use Rattle.elab_step_expr.proofs.joins.copies.Goals as goal

one_copy : (k x : ℕ) → x ≡ copy_number 1 k x
one_copy k x =
    let z : 0 * k ≡ 0 = omega arith in
    let e : x ≡ x * 2 ^ 0 + 0 = omega arith in
    e ∙ ap (λ j. x * 2 ^ j + 0) (sym z)

next_fits : (n m k : ℕ) → n < m → m * k ≤ 64 → k + n * k ≤ 64
next_fits n m k lt most =
    let rest = m - (n + 1) in
    let whole : m ≡ n + (1 + rest) = omega arith in
    let all : m * k ≡ n * k + (1 * k + rest * k) = ap (λ z. z * k) whole ∙ add-mul n (1 + rest) k ∙ ap (λ z. n * k + z) (add-mul 1 rest k) in
    omega (arith, all, most)

pub loop-copy-init : goal.loop-copy-init
loop-copy-init c =
    let d = c.args.dag.now in
    let a = c.args.row in
    record {
      keeps = keeps_same d;
      width = omega arith;
      made = made_same d a.node a.width _ _ (made_here d a.node a.width c.length_of-width.ensures.fit c.requires.row) (λ e. one_copy a.width (number_at e d a.node));
    }

pub above-requires-clause-high : goal.above-requires-clause-high
above-requires-clause-high c = node_kept c.args.dag.now c.loop-copy.dag c.args.row.node c.args.row.width c.loop-copy.invariant.keeps c.requires.row

pub above-requires-clause-low : goal.above-requires-clause-low
above-requires-clause-low c = made_node c.loop-copy.dag c.loop-copy.all.node c.loop-copy.all.width _ c.loop-copy.invariant.made

pub above-requires-clause-most : goal.above-requires-clause-most
above-requires-clause-most c =
    let lt : c.loop-copy.copy < c.args.count = omega arith in
    let fits = next_fits c.loop-copy.copy c.args.count c.args.row.width lt c.requires.most in
    omega (arith, c.loop-copy.invariant.width, fits)

pub loop-copy-preserved : goal.loop-copy-preserved
loop-copy-preserved c =
    let d = c.args.dag.now in
    let a = c.args.row in
    let now = c.loop-copy.dag in
    let i = c.loop-copy.invariant in
    let n = c.loop-copy.copy in
    let next : suc n ≡ n + 1 = omega arith in
    let new = c.in_ok-all.all in
    let wide : new.width ≡ (n + 1) * a.width = c.in_ok-all.ensures.width ∙ ap (λ z. a.width + z) i.width ∙ (omega (arith, add-mul n 1 a.width)) in
    record {
      keeps = keeps_then d now c.above.new.dag i.keeps c.in_ok-all.ensures.keeps;
      width = wide;
      made = made_same c.above.new.dag new.node new.width _ _ c.in_ok-all.ensures.makes
          (λ e.
          let x = number_kept e d now a.node a.width i.keeps c.requires.row in
          let rest = made_number e now c.loop-copy.all.node c.loop-copy.all.width _ i.made in
          let w = i.width in
          (λ r. x r * 2 ^ (w r) + rest r) ∙ ap (λ z. copy_number z a.width (number_at e d a.node)) next);
    }

pub returns-clause-width : goal.returns-clause-width
returns-clause-width c =
    let whole : c.loop-copy.copy ≡ c.args.count = omega (arith, c.loop-copy-test.false, c.loop-copy.auto.copy-end, c.requires.some) in
    c.loop-copy.invariant.width ∙ ap (λ z. z * c.args.row.width) whole

pub returns-clause-makes : goal.returns-clause-makes
returns-clause-makes c =
    let d = c.args.dag.now in
    let a = c.args.row in
    let whole : c.loop-copy.copy ≡ c.args.count = omega (arith, c.loop-copy-test.false, c.loop-copy.auto.copy-end, c.requires.some) in
    made_same c.loop-copy.dag c.loop-copy.all.node c.loop-copy.all.width _ _ c.loop-copy.invariant.made (λ e. ap (λ z. copy_number z a.width (number_at e d a.node)) whole)
