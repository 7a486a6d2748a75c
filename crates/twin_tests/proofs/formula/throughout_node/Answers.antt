use Rattle.std.proofs.Common.{◌≡◌, ◌+◌, ◌-◌, ◌<◌, ◌≤◌, length, drop, refl, sym, ap, subst, arith}
use Rattle.twin_tests_laws.specs.Tests.{all_below}
use Rattle.set_tree.specs.Formulas.{largest_offset, meaning_of}
use Rattle.set_tree.specs.Meaning.{holds}
use Rattle.twin_tests.specs.Building.{AreLeaves, Shows}
use Rattle.twin_tests.proofs.Loops.{and_step, builds_start, builds_end, below_more, below_same, readable_after, same_test, shown_fit}
use Rattle.twin_tests.proofs.Standing.{has_later, leaves_drop, leaves_later, shows_drop, shows_later}
use Rattle.twin_tests.proofs.formula.throughout_node.Goals as goal

pub loop-t-init : goal.loop-t-init
loop-t-init c =
    builds_start (λ f. Shows c.args.set.now.names c.args.dag.now c.args.rows.now f) c.args.dag.now c.constant.new.dag c.in_ok-all.all _ (λ rows. all_below 0 (λ t. holds (meaning_of c.args.set.now) c.args.formula.now (drop t rows))) (λ x. refl) c.in_ok-all.ensures.keeps c.in_ok-all.ensures.node

pub test_node-requires-clause-readable : goal.test_node-requires-clause-readable
test_node-requires-clause-readable c =
    let count = c.saturating_sub-count.result in
    let lt : c.loop-t.t < count = omega arith in
    let fits : count ≤ length c.args.rows.now - largest_offset c.args.formula.now = omega (arith, c.saturating_sub-count.ensures, c.largest.ensures) in
    readable_after c.args.set.now c.args.formula.now count c.loop-t.t (largest_offset c.args.formula.now + 1) c.args.rows.now c.rows_after-later.result.now c.rows_after-later.ensures lt fits c.requires.readable

pub test_node-requires-clause-leaves : goal.test_node-requires-clause-leaves
test_node-requires-clause-leaves c =
    let names = c.args.set.now.names in
    let d = c.loop-t.dag in
    subst (λ z. AreLeaves names d z) (sym c.rows_after-later.ensures) (leaves_drop names d c.args.rows.now c.loop-t.t (leaves_later c.args.dag.now d names c.args.rows.now c.loop-t.invariant.keeps c.requires.leaves))

pub both-requires-clause-first : goal.both-requires-clause-first
both-requires-clause-first c = has_later c.loop-t.dag c.test_node.new.dag c.loop-t.all 1 c.in_ok-one.ensures.keeps c.loop-t.invariant.width

pub loop-t-preserved : goal.loop-t-preserved
loop-t-preserved c =
    let m = meaning_of c.args.set.now in
    let e = c.args.formula.now in
    let t = c.loop-t.t in
    let names = c.args.set.now.names in
    let rows = c.args.rows.now in
    let start = c.args.dag.now in
    let d = c.loop-t.dag in
    and_step (λ f. Shows names start rows f) start d c.test_node.new.dag c.both.new.dag c.loop-t.all c.in_ok-one.one c.in_ok-all-2.all
    (λ r. all_below t (λ j. holds m e (drop j r))) (λ r. holds m e (drop t r)) (λ r. all_below (t + 1) (λ j. holds m e (drop j r))) (λ r. below_more t (λ j. holds m e (drop j r))) c.loop-t.invariant c.in_ok-one.ensures.keeps c.in_ok-all-2.ensures.keeps c.in_ok-all-2.ensures.width
    (λ f shows. c.in_ok-one.ensures.node (λ x. drop t (f x)) (subst (λ z. Shows names d z (λ x. drop t (f x))) (sym c.rows_after-later.ensures) (shows_drop names d rows t f (shows_later start d names rows f c.loop-t.invariant.keeps shows)))) c.in_ok-all-2.ensures.node

pub returns-clause-node : goal.returns-clause-node
returns-clause-node c = λ f shows.
    let m = meaning_of c.args.set.now in
    let e = c.args.formula.now in
    let names = c.args.set.now.names in
    let rows = c.args.rows.now in
    let start = c.args.dag.now in
    let count = c.saturating_sub-count.result in
    let fits : count ≡ length rows - largest_offset e = omega (arith, c.saturating_sub-count.ensures, c.largest.ensures) in
    let whole : c.loop-t.t ≡ count = omega (arith, c.loop-t-test.false, c.loop-t.auto.t-end) in
    same_test c.loop-t.dag c.loop-t.all (λ x. all_below count (λ j. holds m e (drop j (f x)))) (λ x. all_below (length (f x) - largest_offset e) (λ j. holds m e (drop j (f x))))
    (λ x. ap (λ k. all_below k (λ j. holds m e (drop j (f x)))) (shown_fit names start rows f count (largest_offset e) x shows fits))
    (builds_end (λ g. Shows names start rows g) start c.loop-t.dag c.loop-t.all (λ r. all_below c.loop-t.t (λ j. holds m e (drop j r))) (λ r. all_below count (λ j. holds m e (drop j r)))
    (λ r. below_same c.loop-t.t count (λ j. holds m e (drop j r)) whole) c.loop-t.invariant f shows)
