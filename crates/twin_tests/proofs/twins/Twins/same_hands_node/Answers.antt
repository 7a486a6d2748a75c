use Rattle.std.proofs.Common.{◌≡◌, ◌+◌, ◌<◌, ◌≤◌, List, length, take, refl, ap, ◌∙◌, arith}
use Rattle.std.specs.Prelude.{◌==◌}
use Rattle.std.specs.List.{list_all}
use Rattle.vlog_tree.specs.declared.expr.Expr.{Expr}
use Rattle.set_tree.specs.declared.set.Property.{Property}
use Rattle.set_tree.specs.Formulas.{meaning_of}
use Rattle.set_tree.specs.Parts.{property_at}
use Rattle.twin_tests.specs.Building.{IsReadable}
use Rattle.twin_tests.proofs.Loops.{Pair, ShowBoth, and_step, builds_start, builds_end, all_more, all_taken, member_is}
use Rattle.twin_tests.proofs.Readings.{hands_read}
use Rattle.elab_step_expr.proofs.Kept.{keeps_then}
use Rattle.twin_tests.proofs.Standing.{counts_later, has_later, leaves_later, shows_later, wide_later}
use Rattle.twin_tests.proofs.twins.Twins.same_hands_node.Goals as goal

pub loop-formula-init : goal.loop-formula-init
loop-formula-init c =
    let m = meaning_of c.args.self.now.set.now in
    builds_start (ShowBoth c.args.self.now.set.now.names c.args.dag.now c.args.pair.first.now c.args.pair.second.now) c.args.dag.now c.constant.new.dag c.in_ok-all.all _
    (λ pair. list_all (λ e. m.value e pair.0 == m.value e pair.1) (take 0 c.as_slice-formula-items.result.now)) (λ x. refl) c.in_ok-all.ensures.keeps c.in_ok-all.ensures.node

pub formula_node-requires-clause-readable : goal.formula_node-requires-clause-readable
formula_node-requires-clause-readable c =
    let set = c.args.self.now.set.now in
    let lt : c.loop-formula.formula-index < length c.as_slice-formula-items.result.now = omega arith in
    member_is (IsReadable set (length c.args.pair.first.now)) c.as_slice-formula-items.result.now c.loop-formula.formula-index c.formula-item.result c.formula-item.is lt
    (hands_read set c.args.at (length c.args.pair.first.now) c.property_of.result.now c.as_slice-formula-items.result.now c.requires.structure c.requires.first c.as_slice-formula-items.ensures c.property_of.ensures)

pub formula_node-requires-clause-leaves : goal.formula_node-requires-clause-leaves
formula_node-requires-clause-leaves c = leaves_later c.args.dag.now c.loop-formula.dag c.args.self.now.set.now.names c.args.pair.first.now c.loop-formula.invariant.keeps c.requires.first_leaves

pub formula_node-requires-in-loop-formula-clause-readable : goal.formula_node-requires-in-loop-formula-clause-readable
formula_node-requires-in-loop-formula-clause-readable c =
    let set = c.args.self.now.set.now in
    let lt : c.loop-formula.formula-index < length c.as_slice-formula-items.result.now = omega arith in
    member_is (IsReadable set (length c.args.pair.second.now)) c.as_slice-formula-items.result.now c.loop-formula.formula-index c.formula-item.result c.formula-item.is lt
    (hands_read set c.args.at (length c.args.pair.second.now) c.property_of.result.now c.as_slice-formula-items.result.now c.requires.structure c.requires.second c.as_slice-formula-items.ensures c.property_of.ensures)

pub formula_node-requires-in-loop-formula-clause-leaves : goal.formula_node-requires-in-loop-formula-clause-leaves
formula_node-requires-in-loop-formula-clause-leaves c =
    let d = c.loop-formula.dag in
    let one = c.formula_node.new.dag in
    leaves_later c.args.dag.now one c.args.self.now.set.now.names c.args.pair.second.now (keeps_then c.args.dag.now d one c.loop-formula.invariant.keeps c.formula_node.ensures.keeps) c.requires.second_leaves

pub equal-requires-clause-first : goal.equal-requires-clause-first
equal-requires-clause-first c = wide_later c.formula_node.new.dag c.formula_node-in-loop-formula.new.dag c.in_ok-one.one c.formula_node-in-loop-formula.ensures.keeps c.in_ok-one.ensures.wide

pub both-requires-clause-first : goal.both-requires-clause-first
both-requires-clause-first c =
    let d = c.loop-formula.dag in
    let one = c.formula_node.new.dag in
    let two = c.formula_node-in-loop-formula.new.dag in
    has_later d c.equal.new.dag c.loop-formula.all 1 (keeps_then d two c.equal.new.dag (keeps_then d one two c.formula_node.ensures.keeps c.formula_node-in-loop-formula.ensures.keeps) c.in_ok-agree.ensures.keeps) c.loop-formula.invariant.width

pub loop-formula-preserved : goal.loop-formula-preserved
loop-formula-preserved c =
    let set = c.args.self.now.set.now in
    let m = meaning_of set in
    let i = c.loop-formula.formula-index in
    let es = c.as_slice-formula-items.result.now in
    let x = c.formula-item.result in
    let xs = c.args.pair.first.now in
    let ys = c.args.pair.second.now in
    let start = c.args.dag.now in
    let d = c.loop-formula.dag in
    let one = c.formula_node.new.dag in
    let two = c.formula_node-in-loop-formula.new.dag in
    let lt : i < length es = omega arith in
    let to_one = keeps_then start d one c.loop-formula.invariant.keeps c.formula_node.ensures.keeps in
    and_step (ShowBoth set.names start xs ys) start d c.equal.new.dag c.both.new.dag c.loop-formula.all c.in_ok-agree.agree c.in_ok-all-2.all
    (λ (r : Pair). list_all (λ e. m.value e r.0 == m.value e r.1) (take i es)) (λ (r : Pair). m.value x r.0 == m.value x r.1) (λ (r : Pair). list_all (λ e. m.value e r.0 == m.value e r.1) (take (i + 1) es)) (λ (r : Pair). all_more (λ e. m.value e r.0 == m.value e r.1) es i x c.formula-item.is lt) c.loop-formula.invariant
    (keeps_then d two c.equal.new.dag (keeps_then d one two c.formula_node.ensures.keeps c.formula_node-in-loop-formula.ensures.keeps) c.in_ok-agree.ensures.keeps) c.in_ok-all-2.ensures.keeps c.in_ok-all-2.ensures.width
    (λ f shows. c.in_ok-agree.ensures.node (λ e. m.value x (f e).0) (λ e. m.value x (f e).1)
    (counts_later one two c.in_ok-one.one (λ e. m.value x (f e).0) c.formula_node-in-loop-formula.ensures.keeps (c.in_ok-one.ensures.node (λ e. (f e).0) (shows_later start d set.names xs (λ e. (f e).0) c.loop-formula.invariant.keeps shows.0)))
    (c.in_ok-other.ensures.node (λ e. (f e).1) (shows_later start one set.names ys (λ e. (f e).1) to_one shows.1))) c.in_ok-all-2.ensures.node

pub returns-clause-node : goal.returns-clause-node
returns-clause-node c = λ f g first second.
    let set = c.args.self.now.set.now in
    let m = meaning_of set in
    let i = c.loop-formula.formula-index in
    let es = c.as_slice-formula-items.result.now in
    let le : length es ≤ i = omega arith in
    let same : es ≡ (property_at set c.args.at).hand = c.as_slice-formula-items.ensures ∙ ap (λ (y : Property). y.hand) c.property_of.ensures in
    builds_end (ShowBoth set.names c.args.dag.now c.args.pair.first.now c.args.pair.second.now) c.args.dag.now c.loop-formula.dag c.loop-formula.all (λ (r : Pair). list_all (λ e. m.value e r.0 == m.value e r.1) (take i es)) (λ (r : Pair). list_all (λ e. m.value e r.0 == m.value e r.1) (property_at set c.args.at).hand)
    (λ (r : Pair). all_taken (λ e. m.value e r.0 == m.value e r.1) es i le ∙ ap (λ (z : List Expr). list_all (λ e. m.value e r.0 == m.value e r.1) z) same) c.loop-formula.invariant (λ e. (f e, g e)) (first, second)
