use Rattle.std.proofs.Common.{◌≡◌, ◌+◌, ◌-◌, ◌<◌, ◌≤◌, drop, not, sym, subst, arith}
use Rattle.twin_tests_laws.specs.Tests.{any_from, determined}
use Rattle.set_tree.specs.Formulas.{meaning_of}
use Rattle.twin_tests.specs.Building.{AreLeaves, Shows}
use Rattle.twin_tests.proofs.Ends.{any_next, any_none, any_same}
use Rattle.twin_tests.proofs.Handing.{some_left}
use Rattle.twin_tests.proofs.Loops.{Pair, ShowBoth, or_step, builds_start, builds_end}
use Rattle.elab_step_expr.proofs.Kept.{keeps_then}
use Rattle.twin_tests.proofs.Standing.{has_later, leaves_drop, leaves_later, shows_drop, shows_later}
use Rattle.twin_tests.proofs.twins.Twins.apart_node.Goals as goal

pub loop-t-init : goal.loop-t-init
loop-t-init c =
    let m = meaning_of c.args.self.now.set.now in
    let from = c.args.span.from in
    let none : from - from ≡ 0 = omega arith in
    builds_start (ShowBoth c.args.self.now.set.now.names c.args.dag.now c.args.pair.first.now c.args.pair.second.now) c.args.dag.now c.constant.new.dag c.in_ok-any.any _ (λ (r : Pair). any_from from (from - from) (λ t. not (determined m c.args.self.now.set.now c.args.output (drop t r.0) (drop t r.1))))
    (λ (r : Pair). any_none from (from - from) (λ t. not (determined m c.args.self.now.set.now c.args.output (drop t r.0) (drop t r.1))) none) c.in_ok-any.ensures.keeps c.in_ok-any.ensures.node

pub determined_node-requires-clause-first : goal.determined_node-requires-clause-first
determined_node-requires-clause-first c =
    let lt : c.loop-t.t < c.args.span.to = omega arith in
    some_left c.args.pair.first.now c.rows_after.result.now c.loop-t.t c.args.span.to c.rows_after.ensures lt c.requires.first

pub determined_node-requires-clause-second : goal.determined_node-requires-clause-second
determined_node-requires-clause-second c =
    let lt : c.loop-t.t < c.args.span.to = omega arith in
    some_left c.args.pair.second.now c.rows_after-in-loop-t.result.now c.loop-t.t c.args.span.to c.rows_after-in-loop-t.ensures lt c.requires.second

pub determined_node-requires-clause-first_leaves : goal.determined_node-requires-clause-first_leaves
determined_node-requires-clause-first_leaves c =
    let names = c.args.self.now.set.now.names in
    let d = c.loop-t.dag in
    subst (λ z. AreLeaves names d z) (sym c.rows_after.ensures) (leaves_drop names d c.args.pair.first.now c.loop-t.t (leaves_later c.args.dag.now d names c.args.pair.first.now c.loop-t.invariant.keeps c.requires.first_leaves))

pub determined_node-requires-clause-second_leaves : goal.determined_node-requires-clause-second_leaves
determined_node-requires-clause-second_leaves c =
    let names = c.args.self.now.set.now.names in
    let d = c.loop-t.dag in
    subst (λ z. AreLeaves names d z) (sym c.rows_after-in-loop-t.ensures) (leaves_drop names d c.args.pair.second.now c.loop-t.t (leaves_later c.args.dag.now d names c.args.pair.second.now c.loop-t.invariant.keeps c.requires.second_leaves))

pub either-requires-clause-first : goal.either-requires-clause-first
either-requires-clause-first c = has_later c.loop-t.dag c.negated.new.dag c.loop-t.any 1 (keeps_then c.loop-t.dag c.determined_node.new.dag c.negated.new.dag c.in_ok-one.ensures.keeps c.in_ok-apart.ensures.keeps) c.loop-t.invariant.width

pub loop-t-preserved : goal.loop-t-preserved
loop-t-preserved c =
    let set = c.args.self.now.set.now in
    let m = meaning_of set in
    let o = c.args.output in
    let t = c.loop-t.t in
    let n = c.args.span.from in
    let names = set.names in
    let xs = c.args.pair.first.now in
    let ys = c.args.pair.second.now in
    let start = c.args.dag.now in
    let d = c.loop-t.dag in
    let le : n ≤ t = omega (arith, c.loop-t.auto.t) in
    or_step (ShowBoth names start xs ys) start d c.negated.new.dag c.either.new.dag c.loop-t.any c.in_ok-apart.apart c.in_ok-any-2.any
    (λ (r : Pair). any_from n (t - n) (λ j. not (determined m set o (drop j r.0) (drop j r.1)))) (λ (r : Pair). not (determined m set o (drop t r.0) (drop t r.1))) (λ (r : Pair). any_from n (t + 1 - n) (λ j. not (determined m set o (drop j r.0) (drop j r.1))))
    (λ (r : Pair). any_next n t (λ j. not (determined m set o (drop j r.0) (drop j r.1))) le) c.loop-t.invariant (keeps_then d c.determined_node.new.dag c.negated.new.dag c.in_ok-one.ensures.keeps c.in_ok-apart.ensures.keeps) c.in_ok-any-2.ensures.keeps c.in_ok-any-2.ensures.width
    (λ f shows. c.in_ok-apart.ensures.node (λ e. determined m set o (drop t (f e).0) (drop t (f e).1)) (c.in_ok-one.ensures.node (λ e. drop t (f e).0) (λ e. drop t (f e).1)
    (subst (λ z. Shows names d z (λ e. drop t (f e).0)) (sym c.rows_after.ensures) (shows_drop names d xs t (λ e. (f e).0) (shows_later start d names xs (λ e. (f e).0) c.loop-t.invariant.keeps shows.0)))
    (subst (λ z. Shows names d z (λ e. drop t (f e).1)) (sym c.rows_after-in-loop-t.ensures) (shows_drop names d ys t (λ e. (f e).1) (shows_later start d names ys (λ e. (f e).1) c.loop-t.invariant.keeps shows.1))))) c.in_ok-any-2.ensures.node

pub returns-clause-node : goal.returns-clause-node
returns-clause-node c = λ f g first second.
    let set = c.args.self.now.set.now in
    let m = meaning_of set in
    let o = c.args.output in
    let n = c.args.span.from in
    let whole : c.loop-t.t - n ≡ c.args.span.to - n = omega (arith, c.loop-t-test.false, c.loop-t.auto.t-end, c.requires.order) in
    builds_end (ShowBoth set.names c.args.dag.now c.args.pair.first.now c.args.pair.second.now) c.args.dag.now c.loop-t.dag c.loop-t.any (λ (r : Pair). any_from n (c.loop-t.t - n) (λ j. not (determined m set o (drop j r.0) (drop j r.1)))) (λ (r : Pair). any_from n (c.args.span.to - n) (λ j. not (determined m set o (drop j r.0) (drop j r.1))))
    (λ (r : Pair). any_same n (c.loop-t.t - n) (c.args.span.to - n) (λ j. not (determined m set o (drop j r.0) (drop j r.1))) whole) c.loop-t.invariant (λ e. (f e, g e)) (first, second)
