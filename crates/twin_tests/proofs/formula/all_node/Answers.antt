use Rattle.std.proofs.Common.{◌+◌, ◌<◌, ◌≤◌, length, take, refl, arith}
use Rattle.set_tree.specs.Formulas.{meaning_of}
use Rattle.set_tree.specs.Meaning.{holds, all_hold}
use Rattle.twin_tests.specs.Building.{Shows, IsReadable}
use Rattle.twin_tests.proofs.Loops.{and_step, builds_start, builds_end, all_more, all_taken, member_is}
use Rattle.twin_tests.proofs.Standing.{has_later, leaves_later, shows_later}
use Rattle.twin_tests.proofs.formula.all_node.Goals as goal

pub loop-formula-init : goal.loop-formula-init
loop-formula-init c =
    builds_start (λ f. Shows c.args.set.now.names c.args.dag.now c.args.rows.now f) c.args.dag.now c.constant.new.dag c.in_ok-all.all _ (λ rows. all_hold (meaning_of c.args.set.now) (take 0 c.args.formulas.now) rows) (λ x. refl) c.in_ok-all.ensures.keeps c.in_ok-all.ensures.node

pub test_node-requires-clause-readable : goal.test_node-requires-clause-readable
test_node-requires-clause-readable c =
    let lt : c.loop-formula.formula-index < length c.args.formulas.now = omega arith in
    member_is (IsReadable c.args.set.now (length c.args.rows.now)) c.args.formulas.now c.loop-formula.formula-index c.formula-item.result c.formula-item.is lt c.requires.readable

pub test_node-requires-clause-leaves : goal.test_node-requires-clause-leaves
test_node-requires-clause-leaves c = leaves_later c.args.dag.now c.loop-formula.dag c.args.set.now.names c.args.rows.now c.loop-formula.invariant.keeps c.requires.leaves

pub both-requires-clause-first : goal.both-requires-clause-first
both-requires-clause-first c = has_later c.loop-formula.dag c.test_node.new.dag c.loop-formula.all 1 c.in_ok-one.ensures.keeps c.loop-formula.invariant.width

pub loop-formula-preserved : goal.loop-formula-preserved
loop-formula-preserved c =
    let m = meaning_of c.args.set.now in
    let i = c.loop-formula.formula-index in
    let es = c.args.formulas.now in
    let x = c.formula-item.result in
    let names = c.args.set.now.names in
    let rows = c.args.rows.now in
    let start = c.args.dag.now in
    let lt : i < length es = omega arith in
    and_step (λ f. Shows names start rows f) start c.loop-formula.dag c.test_node.new.dag c.both.new.dag c.loop-formula.all c.in_ok-one.one c.in_ok-all-2.all
    (λ r. all_hold m (take i es) r) (λ r. holds m x r) (λ r. all_hold m (take (i + 1) es) r) (λ r. all_more (λ z. holds m z r) es i x c.formula-item.is lt) c.loop-formula.invariant c.in_ok-one.ensures.keeps c.in_ok-all-2.ensures.keeps c.in_ok-all-2.ensures.width
    (λ f shows. c.in_ok-one.ensures.node f (shows_later start c.loop-formula.dag names rows f c.loop-formula.invariant.keeps shows)) c.in_ok-all-2.ensures.node

pub returns-clause-node : goal.returns-clause-node
returns-clause-node c =
    let m = meaning_of c.args.set.now in
    let i = c.loop-formula.formula-index in
    let es = c.args.formulas.now in
    let le : length es ≤ i = omega arith in
    builds_end (λ f. Shows c.args.set.now.names c.args.dag.now c.args.rows.now f) c.args.dag.now c.loop-formula.dag c.loop-formula.all (λ r. all_hold m (take i es) r) (λ r. all_hold m es r) (λ r. all_taken (λ z. holds m z r) es i le) c.loop-formula.invariant
