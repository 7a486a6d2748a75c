use Rattle.std.proofs.Common.{◌≡◌, ◌<◌, ◌≤◌, false, not, List, Option, Some, None, length, get_or, sym, ap, ◌∙◌, arith}
use Rattle.std.specs.Prelude.{slice_get}
use Rattle.std.proofs.lemmas.Result.{IfOk-weaker}
use Rattle.set_tree.specs.declared.set.Rule.{Rule}
use Rattle.set_tree.specs.Formulas.{meaning_of}
use Rattle.set_tree.specs.Meaning.{holds}
use Rattle.unroll_laws.specs.Tests.{fails}
use Rattle.twin_tests.proofs.Loops.{same_test}
use Rattle.unroll.proofs.Invariant.{got, invariant_readable, none_got}
use Rattle.unroll.proofs.part.fails_node.Goals as goal

pub test_node-requires-clause-readable : goal.test_node-requires-clause-readable
test_node-requires-clause-readable c =
    let set = c.args.set.now in
    let found = c.in-Some.ensures.lookup.3 in
    let rule = c.in-Some.rule.now in
    let lt' : c.args.at < length set.invariants = let long = ap (λ (zs : List Rule). length zs) c.as_slice.ensures in omega (arith, found.0, long) in
    let is : rule ≡ get_or set.invariants c.args.at rule = found.1 rule ∙ ap (λ (z : List Rule). get_or z c.args.at rule) c.as_slice.ensures in
    invariant_readable set c.requires.structure c.args.at (length c.args.rows.now) rule lt' is c.requires.some

pub returns-in_ok-holds-in-Some-clause-node : goal.returns-in_ok-holds-in-Some-clause-node
returns-in_ok-holds-in-Some-clause-node c =
    IfOk-weaker c.negated.result _ _ (λ i made f shows.
    let m = meaning_of c.args.set.now in
    let found = c.in-Some.ensures.lookup.3 in
    let rule = c.in-Some.rule.now in
    let some : slice_get c.args.set.now.invariants c.args.at ≡ Some rule = got c.as_slice.result.now c.args.set.now.invariants c.args.at rule c.as_slice.ensures found.0 (found.1 rule) in
    same_test c.negated.new.dag i (λ e. not (holds m rule.formula (f e))) (λ e. fails m (slice_get c.args.set.now.invariants c.args.at) (f e)) (λ e. ap (λ (o : Option Rule). fails m o (f e)) (sym some))
    (made (λ e. holds m rule.formula (f e)) (c.in_ok-holds-in-Some.ensures.node f shows))) c.negated.ensures.node

pub returns-in-None-clause-node : goal.returns-in-None-clause-node
returns-in-None-clause-node c =
    IfOk-weaker c.constant.result _ _ (λ i made f shows.
    let m = meaning_of c.args.set.now in
    let past : length c.as_slice.result.now ≤ c.args.at = c.in-None.ensures.lookup.3 in
    let none : slice_get c.args.set.now.invariants c.args.at ≡ None = none_got c.as_slice.result.now c.args.set.now.invariants c.args.at c.as_slice.ensures past in
    same_test c.constant.new.dag i (λ e. false) (λ e. fails m (slice_get c.args.set.now.invariants c.args.at) (f e)) (λ e. ap (λ (o : Option Rule). fails m o (f e)) (sym none)) made) c.constant.ensures.node
