use Rattle.std.proofs.Common.{Bool, subst}
use Rattle.std.proofs.lemmas.Result.{IfOk-weaker}
use Rattle.twin_tests_laws.specs.Tests.{ends_at, same}
use Rattle.twin_tests_laws.specs.Windows.{named_rows}
use Rattle.set_tree.specs.Formulas.{meaning_of}
use Rattle.set_tree.specs.Parts.{window_of}
use Rattle.word_dag.specs.Nodes.{Naming}
use Rattle.twin_tests.specs.Building.{Tests}
use Rattle.twin_tests.proofs.Framed.{frame_later}
use Rattle.elab_step_expr.proofs.Kept.{keeps_then}
use Rattle.twin_tests.proofs.Standing.{tests_later}
use Rattle.twin_tests.proofs.twins.Twins.end_apart_node.Goals as goal

pub end_node-requires-2-clause-frame : goal.end_node-requires-2-clause-frame
end_node-requires-2-clause-frame c = frame_later c.args.dag.now c.end_node.new.dag c.args.self.now.set.now c.args.self.now.frames.second c.in_ok-first.ensures.keeps c.requires.frames.second

pub returns-clause-keeps : goal.returns-clause-keeps
returns-clause-keeps c =
    IfOk-weaker c.negated.result _ _ (λ i made.
    let d0 = c.args.dag.now in
    let d2 = c.end_node-2.new.dag in
    let d3 = c.same.new.dag in
    keeps_then d0 d3 c.negated.new.dag (keeps_then d0 d2 d3 (keeps_then d0 c.end_node.new.dag d2 c.in_ok-first.ensures.keeps c.in_ok-second.ensures.keeps) c.in_ok-agree.ensures.keeps) made) c.negated.ensures.keeps

pub returns-clause-node : goal.returns-clause-node
returns-clause-node c =
    IfOk-weaker c.negated.result _ _ (λ i made.
    let set = c.args.self.now.set.now in
    let m = meaning_of set in
    let p = c.args.p in
    let n = c.args.n in
    let d1 = c.end_node.new.dag in
    let d2 = c.end_node-2.new.dag in
    let here : Naming → Bool = λ e. ends_at m set p n (named_rows set e 0 (window_of set p)) in
    let there : Naming → Bool = λ e. ends_at m set p n (named_rows set e 1 (window_of set p)) in
    let first = subst (λ s. Tests d1 c.in_ok-first.first (λ e. ends_at m set p n (named_rows set e s (window_of set p)))) c.requires.frames.first_side c.in_ok-first.ensures.node in
    let second = subst (λ s. Tests d2 c.in_ok-second.second (λ e. ends_at m set p n (named_rows set e s (window_of set p)))) c.requires.frames.second_side c.in_ok-second.ensures.node in
    made (λ e. same (here e) (there e)) (c.in_ok-agree.ensures.node here there (tests_later d1 d2 c.in_ok-first.first here c.in_ok-second.ensures.keeps first) second)) c.negated.ensures.node
