use Rattle.std.proofs.Common.{◌+◌, ◌<◌, ◌≤◌, get_or, length, take, arith}
use Rattle.std.specs.List.{list_any}
use Rattle.set_tree.specs.Formulas.{meaning_of}
use Rattle.set_tree.specs.Parts.{assumed}
use Rattle.twin_tests.specs.Building.{Shows}
use Rattle.twin_tests.proofs.Handing.{get_again}
use Rattle.twin_tests.proofs.Loops.{or_step, builds_end, some_more, some_taken}
use Rattle.twin_tests.proofs.Standing.{leaves_later, shows_later}
use Rattle.twin_tests.proofs.part.any_assumed_node.Goals as goal

pub assumed_node-requires-clause-leaves : goal.assumed_node-requires-clause-leaves
assumed_node-requires-clause-leaves c = leaves_later c.args.dag.now c.loop-property.dag c.args.set.now.names c.args.rows.now c.loop-property.invariant.keeps c.requires.leaves

pub loop-property-preserved : goal.loop-property-preserved
loop-property-preserved c =
    let set = c.args.set.now in
    let m = meaning_of set in
    let i = c.loop-property.property-index in
    let qs = c.args.properties.now in
    let rows = c.args.rows.now in
    let start = c.args.dag.now in
    let d = c.loop-property.dag in
    let lt : i < length qs = omega arith in
    let q = get_or qs i 0 in
    or_step (λ f. Shows set.names start rows f) start d c.assumed_node.new.dag c.either.new.dag c.loop-property.any c.in_ok-one.one c.in_ok-any-2.any
    (λ r. list_any (λ p. assumed m set p r) (take i qs)) (λ r. assumed m set q r) (λ r. list_any (λ p. assumed m set p r) (take (i + 1) qs)) (λ r. some_more (λ p. assumed m set p r) qs i q (get_again qs i 0 lt) lt) c.loop-property.invariant c.in_ok-one.ensures.keeps c.in_ok-any-2.ensures.keeps c.in_ok-any-2.ensures.width
    (λ f shows. c.in_ok-one.ensures.node f (shows_later start d set.names rows f c.loop-property.invariant.keeps shows)) c.in_ok-any-2.ensures.node

pub returns-clause-node : goal.returns-clause-node
returns-clause-node c =
    let set = c.args.set.now in
    let m = meaning_of set in
    let i = c.loop-property.property-index in
    let qs = c.args.properties.now in
    let le : length qs ≤ i = omega arith in
    builds_end (λ f. Shows set.names c.args.dag.now c.args.rows.now f) c.args.dag.now c.loop-property.dag c.loop-property.any (λ r. list_any (λ p. assumed m set p r) (take i qs)) (λ r. list_any (λ p. assumed m set p r) qs)
    (λ r. some_taken (λ p. assumed m set p r) qs i le) c.loop-property.invariant
