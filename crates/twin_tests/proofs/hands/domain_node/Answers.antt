use Rattle.std.proofs.Common.{true, get_or, length}
use Rattle.std.proofs.lemmas.Result.{IfOk-weaker}
use Rattle.set_tree.specs.Formulas.{meaning_of}
use Rattle.set_tree.specs.Meaning.{holds}
use Rattle.set_tree.specs.Parts.{in_domain}
use Rattle.twin_tests.proofs.Handing.{in_none, in_some, name_at}
use Rattle.twin_tests.proofs.Loops.{same_test}
use Rattle.twin_tests.proofs.Readings.{domain_readable, readable_more}
use Rattle.twin_tests.proofs.hands.domain_node.Goals as goal

pub test_node-requires-clause-readable : goal.test_node-requires-clause-readable
test_node-requires-clause-readable c =
    let set = c.args.set.now in
    let x = get_or c.as_slice-names.result.now c.args.output c.index-names-output.result in
    let at = name_at c.as_slice-names.result.now set.names c.args.output c.index-names-output.result c.as_slice-names.ensures c.requires.output in
    readable_more set 1 (length c.args.rows.now) c.in-Some.formula c.requires.some (domain_readable set c.args.output x c.in-Some.formula c.requires.structure at c.in-Some.is)

pub returns-in-None-clause-node : goal.returns-in-None-clause-node
returns-in-None-clause-node c =
    IfOk-weaker c.constant.result _ _ (λ i made f shows.
    let set = c.args.set.now in
    let m = meaning_of set in
    let o = c.args.output in
    let x = get_or c.as_slice-names.result.now c.args.output c.index-names-output.result in
    let at = name_at c.as_slice-names.result.now set.names c.args.output c.index-names-output.result c.as_slice-names.ensures c.requires.output in
    same_test c.constant.new.dag i (λ e. true) (λ e. in_domain m set o (f e)) (λ e. in_none m set o x (f e) at c.in-None.is) made) c.constant.ensures.node

pub returns-in-Some-clause-node : goal.returns-in-Some-clause-node
returns-in-Some-clause-node c =
    IfOk-weaker c.test_node.result _ _ (λ i made f shows.
    let set = c.args.set.now in
    let m = meaning_of set in
    let o = c.args.output in
    let x = get_or c.as_slice-names.result.now c.args.output c.index-names-output.result in
    let at = name_at c.as_slice-names.result.now set.names c.args.output c.index-names-output.result c.as_slice-names.ensures c.requires.output in
    same_test c.test_node.new.dag i (λ e. holds m c.in-Some.formula (f e)) (λ e. in_domain m set o (f e)) (λ e. in_some m set o x c.in-Some.formula (f e) at c.in-Some.is) (made f shows)) c.test_node.ensures.node
