use Rattle.std.proofs.Common.{◌<◌, Bool, length, refl, sym, subst, arith}
use Rattle.std.proofs.lemmas.Result.{IfOk-weaker}
use Rattle.twin_tests_laws.specs.Tests.{meets_constraints, starts}
use Rattle.twin_tests_laws.specs.Windows.{named_rows}
use Rattle.set_tree.specs.Formulas.{meaning_of}
use Rattle.word_dag.specs.Nodes.{Naming}
use Rattle.twin_tests.specs.Building.{Tests}
use Rattle.twin_tests.proofs.Framed.{rows_show}
use Rattle.elab_step_expr.proofs.Kept.{keeps_then}
use Rattle.twin_tests.proofs.Standing.{tests_later}
use Rattle.twin_tests.proofs.twins.Twins.opens_node.Goals as goal

pub returns-clause-keeps : goal.returns-clause-keeps
returns-clause-keeps c = IfOk-weaker c.both.result _ _ (λ i made. keeps_then c.args.dag.now c.starts_node.new.dag c.both.new.dag c.in_ok-starts.ensures.keeps made) c.both.ensures.keeps

pub returns-clause-node : goal.returns-clause-node
returns-clause-node c =
    IfOk-weaker c.both.result _ _ (λ i made.
    let set = c.args.self.now.set.now in
    let m = meaning_of set in
    let frame = c.args.frame.now in
    let end = c.args.end in
    let d0 = c.args.dag.now in
    let lt : end < length frame.met.items = omega (arith, c.requires.within, c.requires.frame.count) in
    let is_met : Naming → Bool = λ e. meets_constraints m set (named_rows set e frame.side end) in
    let met = subst (λ i. Tests d0 i is_met) (sym c.index-met.ensures) (c.requires.frame.met end c.index-met.result.now lt) in
    made is_met (λ e. starts m set c.args.at (named_rows set e frame.side end)) (tests_later d0 c.starts_node.new.dag c.index-met.result.now is_met c.in_ok-starts.ensures.keeps met)
    (c.in_ok-starts.ensures.node (λ e. named_rows set e frame.side end) (rows_show set d0 frame end end c.rows_to.result.now c.rows_to.ensures refl c.requires.within c.requires.frame))) c.both.ensures.node
