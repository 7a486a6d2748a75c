use Rattle.std.proofs.Common.{◌+◌, ◌-◌, ◌<◌, ◌≤◌, List, length, take, drop, get_or, refl, ap, ◌∙◌, arith}
use Rattle.std.specs.List.{list_all}
use Rattle.twin_tests_laws.specs.Tests.{all_below}
use Rattle.set_tree.specs.declared.set.Rule.{Rule}
use Rattle.set_tree.specs.Formulas.{largest_offset, meaning_of}
use Rattle.set_tree.specs.Meaning.{Row, holds}
use Rattle.set_tree_structure.specs.Condition.{IsFormula}
use Rattle.twin_tests.specs.Building.{Shows}
use Rattle.twin_tests.proofs.Loops.{and_step, builds_start, builds_end, all_more, all_taken, member_is}
use Rattle.twin_tests.proofs.Readings.{constraints_formed, rule_readable}
use Rattle.twin_tests.proofs.Standing.{has_later, leaves_later, shows_later}
use Rattle.twin_tests.proofs.formula.constraints_node.Goals as goal

pub loop-rule-init : goal.loop-rule-init
loop-rule-init c =
    builds_start (λ f. Shows c.args.set.now.names c.args.dag.now c.args.rows.now f) c.args.dag.now c.constant.new.dag c.in_ok-all.all _
    (λ rows. list_all (λ rule. all_below (length rows - largest_offset rule.formula) (λ t. holds (meaning_of c.args.set.now) rule.formula (drop t rows))) (take 0 c.as_slice-rule-items.result.now)) (λ x. refl) c.in_ok-all.ensures.keeps c.in_ok-all.ensures.node

pub throughout_node-requires-clause-readable : goal.throughout_node-requires-clause-readable
throughout_node-requires-clause-readable c =
    let set = c.args.set.now in
    let i = c.loop-rule.rule-index in
    let lt : i < length c.as_slice-rule-items.result.now = omega arith in
    let lt' : i < length set.constraints = omega (arith, lt, ap length c.as_slice-rule-items.ensures) in
    let is = c.rule-item.is ∙ ap (λ (z : List Rule). get_or z i c.rule-item.result) c.as_slice-rule-items.ensures in
    rule_readable set c.rule-item.result (member_is (λ (r : Rule). IsFormula set r.formula) set.constraints i c.rule-item.result is lt' (constraints_formed set c.requires.structure))

pub throughout_node-requires-clause-leaves : goal.throughout_node-requires-clause-leaves
throughout_node-requires-clause-leaves c = leaves_later c.args.dag.now c.loop-rule.dag c.args.set.now.names c.args.rows.now c.loop-rule.invariant.keeps c.requires.leaves

pub both-requires-clause-first : goal.both-requires-clause-first
both-requires-clause-first c = has_later c.loop-rule.dag c.throughout_node.new.dag c.loop-rule.all 1 c.in_ok-one.ensures.keeps c.loop-rule.invariant.width

pub loop-rule-preserved : goal.loop-rule-preserved
loop-rule-preserved c =
    let m = meaning_of c.args.set.now in
    let i = c.loop-rule.rule-index in
    let rules = c.as_slice-rule-items.result.now in
    let x = c.rule-item.result in
    let names = c.args.set.now.names in
    let rows = c.args.rows.now in
    let start = c.args.dag.now in
    let p = λ (r : List Row) (rule : Rule). all_below (length r - largest_offset rule.formula) (λ t. holds m rule.formula (drop t r)) in
    let lt : i < length rules = omega arith in
    and_step (λ f. Shows names start rows f) start c.loop-rule.dag c.throughout_node.new.dag c.both.new.dag c.loop-rule.all c.in_ok-one.one c.in_ok-all-2.all
    (λ r. list_all (p r) (take i rules)) (λ r. p r x) (λ r. list_all (p r) (take (i + 1) rules)) (λ r. all_more (p r) rules i x c.rule-item.is lt) c.loop-rule.invariant c.in_ok-one.ensures.keeps c.in_ok-all-2.ensures.keeps c.in_ok-all-2.ensures.width
    (λ f shows. c.in_ok-one.ensures.node f (shows_later start c.loop-rule.dag names rows f c.loop-rule.invariant.keeps shows)) c.in_ok-all-2.ensures.node

pub returns-clause-node : goal.returns-clause-node
returns-clause-node c =
    let m = meaning_of c.args.set.now in
    let i = c.loop-rule.rule-index in
    let rules = c.as_slice-rule-items.result.now in
    let p = λ (r : List Row) (rule : Rule). all_below (length r - largest_offset rule.formula) (λ t. holds m rule.formula (drop t r)) in
    let le : length rules ≤ i = omega arith in
    builds_end (λ f. Shows c.args.set.now.names c.args.dag.now c.args.rows.now f) c.args.dag.now c.loop-rule.dag c.loop-rule.all (λ r. list_all (p r) (take i rules)) (λ r. list_all (p r) c.args.set.now.constraints)
    (λ r. all_taken (p r) rules i le ∙ ap (λ (z : List Rule). list_all (p r) z) c.as_slice-rule-items.ensures) c.loop-rule.invariant
