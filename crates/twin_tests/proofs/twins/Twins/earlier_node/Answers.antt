use Rattle.std.proofs.Common.{◌≡◌, ◌+◌, ◌-◌, ◌<◌, ◌≤◌, length, drop, sym, subst, arith}
use Rattle.std.proofs.lemmas.List.{length-drop}
use Rattle.twin_tests_laws.specs.Tests.{any_from}
use Rattle.set_tree.specs.Formulas.{meaning_of}
use Rattle.set_tree.specs.Meaning.{holds}
use Rattle.twin_tests.specs.Building.{AreLeaves, Shows}
use Rattle.twin_tests.proofs.Ends.{any_next, any_none, any_same}
use Rattle.twin_tests.proofs.Loops.{or_step, builds_start, builds_end}
use Rattle.twin_tests.proofs.Readings.{readable_more}
use Rattle.twin_tests.proofs.Standing.{has_later, leaves_drop, leaves_later, shows_drop, shows_later}
use Rattle.twin_tests.proofs.twins.Twins.earlier_node.Goals as goal

pub loop-t-init : goal.loop-t-init
loop-t-init c =
    let m = meaning_of c.args.self.now.set.now in
    let none : c.args.span.from - c.args.span.from ≡ 0 = omega arith in
    builds_start (λ f. Shows c.args.self.now.set.now.names c.args.dag.now c.args.rows.now f) c.args.dag.now c.constant.new.dag c.in_ok-any.any _ (λ rows. any_from c.args.span.from (c.args.span.from - c.args.span.from) (λ t. holds m c.args.formula.now (drop t rows)))
    (λ rows. any_none c.args.span.from (c.args.span.from - c.args.span.from) (λ t. holds m c.args.formula.now (drop t rows)) none) c.in_ok-any.ensures.keeps c.in_ok-any.ensures.node

pub test_node-requires-clause-readable : goal.test_node-requires-clause-readable
test_node-requires-clause-readable c =
    let later : length (drop c.loop-t.t c.args.rows.now) ≡ length c.args.rows.now - c.loop-t.t = length-drop c.loop-t.t c.args.rows.now in
    let lt : c.loop-t.t < c.args.span.to = omega arith in
    let some : 1 ≤ length (drop c.loop-t.t c.args.rows.now) = omega (arith, later, lt, c.requires.within) in
    readable_more c.args.self.now.set.now 1 (length c.rows_after-later.result.now) c.args.formula.now (subst (λ z. 1 ≤ length z) (sym c.rows_after-later.ensures) some) c.requires.readable

pub test_node-requires-clause-leaves : goal.test_node-requires-clause-leaves
test_node-requires-clause-leaves c =
    let names = c.args.self.now.set.now.names in
    let d = c.loop-t.dag in
    subst (λ z. AreLeaves names d z) (sym c.rows_after-later.ensures) (leaves_drop names d c.args.rows.now c.loop-t.t (leaves_later c.args.dag.now d names c.args.rows.now c.loop-t.invariant.keeps c.requires.leaves))

pub either-requires-clause-first : goal.either-requires-clause-first
either-requires-clause-first c = has_later c.loop-t.dag c.test_node.new.dag c.loop-t.any 1 c.in_ok-one.ensures.keeps c.loop-t.invariant.width

pub loop-t-preserved : goal.loop-t-preserved
loop-t-preserved c =
    let m = meaning_of c.args.self.now.set.now in
    let e = c.args.formula.now in
    let t = c.loop-t.t in
    let n = c.args.span.from in
    let names = c.args.self.now.set.now.names in
    let rows = c.args.rows.now in
    let start = c.args.dag.now in
    let d = c.loop-t.dag in
    let le : n ≤ t = omega (arith, c.loop-t.auto.t) in
    or_step (λ f. Shows names start rows f) start d c.test_node.new.dag c.either.new.dag c.loop-t.any c.in_ok-one.one c.in_ok-any-2.any
    (λ r. any_from n (t - n) (λ j. holds m e (drop j r))) (λ r. holds m e (drop t r)) (λ r. any_from n (t + 1 - n) (λ j. holds m e (drop j r))) (λ r. any_next n t (λ j. holds m e (drop j r)) le) c.loop-t.invariant c.in_ok-one.ensures.keeps c.in_ok-any-2.ensures.keeps c.in_ok-any-2.ensures.width
    (λ f shows. c.in_ok-one.ensures.node (λ x. drop t (f x)) (subst (λ z. Shows names d z (λ x. drop t (f x))) (sym c.rows_after-later.ensures) (shows_drop names d rows t f (shows_later start d names rows f c.loop-t.invariant.keeps shows)))) c.in_ok-any-2.ensures.node

pub returns-clause-node : goal.returns-clause-node
returns-clause-node c =
    let m = meaning_of c.args.self.now.set.now in
    let e = c.args.formula.now in
    let n = c.args.span.from in
    let whole : c.loop-t.t - n ≡ c.args.span.to - n = omega (arith, c.loop-t-test.false, c.loop-t.auto.t-end, c.requires.order) in
    builds_end (λ f. Shows c.args.self.now.set.now.names c.args.dag.now c.args.rows.now f) c.args.dag.now c.loop-t.dag c.loop-t.any (λ r. any_from n (c.loop-t.t - n) (λ j. holds m e (drop j r))) (λ r. any_from n (c.args.span.to - n) (λ j. holds m e (drop j r)))
    (λ r. any_same n (c.loop-t.t - n) (c.args.span.to - n) (λ j. holds m e (drop j r)) whole) c.loop-t.invariant
