use Rattle.std.proofs.Common.{not}
use Rattle.std.specs.Prelude.{◌||◌, ◌==◌}
use Rattle.std.proofs.lemmas.Result.{IfOk-weaker}
use Rattle.twin_tests_laws.specs.Tests.{same}
use Rattle.set_tree.specs.Formulas.{meaning_of}
use Rattle.set_tree.specs.Parts.{in_domain, value_of}
use Rattle.twin_tests.proofs.Handing.{rows_long, value_counts, value_wide}
use Rattle.elab_step_expr.proofs.Kept.{keeps_then}
use Rattle.twin_tests.proofs.Standing.{leaves_later, shows_later, tests_later}
use Rattle.twin_tests.proofs.twins.Twins.determined_node.Goals as goal

pub domain_node-requires-2-clause-leaves : goal.domain_node-requires-2-clause-leaves
domain_node-requires-2-clause-leaves c = leaves_later c.args.dag.now c.domain_node.new.dag c.args.self.now.set.now.names c.args.pair.second.now c.in_ok-here.ensures.keeps c.requires.second_leaves

pub value_node-requires-clause-output : goal.value_node-requires-clause-output
value_node-requires-clause-output c = rows_long c.args.self.now.set.now.names c.args.dag.now c.args.pair.first.now c.args.output c.requires.output c.requires.first_leaves

pub value_node-requires-2-clause-output : goal.value_node-requires-2-clause-output
value_node-requires-2-clause-output c = rows_long c.args.self.now.set.now.names c.args.dag.now c.args.pair.second.now c.args.output c.requires.output c.requires.second_leaves

pub equal-requires-clause-first : goal.equal-requires-clause-first
equal-requires-clause-first c =
    let set = c.args.self.now.set.now in
    let d0 = c.args.dag.now in
    let d2 = c.domain_node-2.new.dag in
    let d3 = c.same.new.dag in
    let d4 = c.negated.new.dag in
    let k2 = keeps_then d0 c.domain_node.new.dag d2 c.in_ok-here.ensures.keeps c.in_ok-there.ensures.keeps in
    let k4 = keeps_then d0 d3 d4 (keeps_then d0 d2 d3 k2 c.in_ok-domains.ensures.keeps) c.in_ok-outside.ensures.keeps in
    value_wide set.names d4 c.args.pair.first.now c.args.output c.value_node.result c.requires.structure.formed.bounds.widths c.requires.output c.requires.first c.value_node.ensures (leaves_later d0 d4 set.names c.args.pair.first.now k4 c.requires.first_leaves)

pub equal-requires-clause-second : goal.equal-requires-clause-second
equal-requires-clause-second c =
    let set = c.args.self.now.set.now in
    let d0 = c.args.dag.now in
    let d2 = c.domain_node-2.new.dag in
    let d3 = c.same.new.dag in
    let d4 = c.negated.new.dag in
    let k2 = keeps_then d0 c.domain_node.new.dag d2 c.in_ok-here.ensures.keeps c.in_ok-there.ensures.keeps in
    let k4 = keeps_then d0 d3 d4 (keeps_then d0 d2 d3 k2 c.in_ok-domains.ensures.keeps) c.in_ok-outside.ensures.keeps in
    value_wide set.names d4 c.args.pair.second.now c.args.output c.value_node-2.result c.requires.structure.formed.bounds.widths c.requires.output c.requires.second c.value_node-2.ensures (leaves_later d0 d4 set.names c.args.pair.second.now k4 c.requires.second_leaves)

pub returns-clause-keeps : goal.returns-clause-keeps
returns-clause-keeps c =
    IfOk-weaker c.both.result _ _ (λ i made.
    let d0 = c.args.dag.now in
    let d2 = c.domain_node-2.new.dag in
    let d3 = c.same.new.dag in
    let d4 = c.negated.new.dag in
    let d5 = c.equal.new.dag in
    let d6 = c.either.new.dag in
    let k2 = keeps_then d0 c.domain_node.new.dag d2 c.in_ok-here.ensures.keeps c.in_ok-there.ensures.keeps in
    let k4 = keeps_then d0 d3 d4 (keeps_then d0 d2 d3 k2 c.in_ok-domains.ensures.keeps) c.in_ok-outside.ensures.keeps in
    keeps_then d0 d6 c.both.new.dag (keeps_then d0 d5 d6 (keeps_then d0 d4 d5 k4 c.in_ok-values.ensures.keeps) c.in_ok-claimed.ensures.keeps) made) c.both.ensures.keeps

pub returns-clause-node : goal.returns-clause-node
returns-clause-node c =
    IfOk-weaker c.both.result _ _ (λ i made f g first second.
    let set = c.args.self.now.set.now in
    let m = meaning_of set in
    let o = c.args.output in
    let xs = c.args.pair.first.now in
    let ys = c.args.pair.second.now in
    let d0 = c.args.dag.now in
    let d1 = c.domain_node.new.dag in
    let d2 = c.domain_node-2.new.dag in
    let d3 = c.same.new.dag in
    let d4 = c.negated.new.dag in
    let d5 = c.equal.new.dag in
    let d6 = c.either.new.dag in
    let k2 = keeps_then d0 d1 d2 c.in_ok-here.ensures.keeps c.in_ok-there.ensures.keeps in
    let k4 = keeps_then d0 d3 d4 (keeps_then d0 d2 d3 k2 c.in_ok-domains.ensures.keeps) c.in_ok-outside.ensures.keeps in
    let k36 = keeps_then d3 d5 d6 (keeps_then d3 d4 d5 c.in_ok-outside.ensures.keeps c.in_ok-values.ensures.keeps) c.in_ok-claimed.ensures.keeps in
    let here = tests_later d1 d2 c.in_ok-here.here (λ e. in_domain m set o (f e)) c.in_ok-there.ensures.keeps (c.in_ok-here.ensures.node f first) in
    let there = c.in_ok-there.ensures.node g (shows_later d0 d1 set.names ys g c.in_ok-here.ensures.keeps second) in
    let domains = c.in_ok-domains.ensures.node (λ e. in_domain m set o (f e)) (λ e. in_domain m set o (g e)) here there in
    let outside = c.in_ok-outside.ensures.node (λ e. in_domain m set o (f e)) (tests_later d2 d3 c.in_ok-here.here (λ e. in_domain m set o (f e)) c.in_ok-domains.ensures.keeps here) in
    let one = value_counts set.names d4 xs f o c.value_node.result c.requires.structure.formed.bounds.widths c.requires.output c.requires.first c.value_node.ensures (shows_later d0 d4 set.names xs f k4 first) in
    let other = value_counts set.names d4 ys g o c.value_node-2.result c.requires.structure.formed.bounds.widths c.requires.output c.requires.second c.value_node-2.ensures (shows_later d0 d4 set.names ys g k4 second) in
    let values = c.in_ok-values.ensures.node (λ e. value_of o (f e)) (λ e. value_of o (g e)) one other in
    let claimed = c.in_ok-claimed.ensures.node (λ e. not (in_domain m set o (f e))) (λ e. value_of o (f e) == value_of o (g e)) (tests_later d4 d5 c.in_ok-outside.outside (λ e. not (in_domain m set o (f e))) c.in_ok-values.ensures.keeps outside) values in
    made (λ e. same (in_domain m set o (f e)) (in_domain m set o (g e))) (λ e. not (in_domain m set o (f e)) || value_of o (f e) == value_of o (g e))
    (tests_later d3 d6 c.in_ok-domains.domains (λ e. same (in_domain m set o (f e)) (in_domain m set o (g e))) k36 domains) claimed) c.both.ensures.node
