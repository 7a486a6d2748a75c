use Rattle.std.proofs.Common.{◌≡◌, Bool, not, ap, sym, subst}
use Rattle.std.proofs.lemmas.Result.{IfOk-weaker}
use Rattle.twin_tests_laws.specs.Tests.{any_end, line_test, opens, pairs}
use Rattle.twin_tests_laws.specs.Windows.{named_rows}
use Rattle.twin_tests.specs.declared.set_line.SetLine.{SetLine}
use Rattle.twin_tests.specs.declared.set_line.SetLine.TheVariants.{End, SameEnd}
use Rattle.set_tree.specs.declared.set.Property.{Property}
use Rattle.set_tree.specs.Formulas.{meaning_of}
use Rattle.set_tree.specs.Parts.{window_of}
use Rattle.word_dag.specs.Nodes.{Naming}
use Rattle.twin_tests.specs.Building.{Tests}
use Rattle.twin_tests.specs.Framing.{end_test}
use Rattle.twin_tests.specs.Ordering.{line_of}
use Rattle.twin_tests.proofs.Framed.{frame_later, frames_later}
use Rattle.twin_tests.proofs.Sharing.{made_later}
use Rattle.elab_step_expr.proofs.Kept.{keeps_then}
use Rattle.twin_tests.proofs.Standing.{tests_later}
use Rattle.twin_tests.proofs.twins.Twins.line_node.Goals as goal

pub opens_node-requires-clause-frame : goal.opens_node-requires-clause-frame
opens_node-requires-clause-frame c =
    frame_later c.args.nodes.now.dag c.negated.new.dag c.args.self.now.set.now c.args.self.now.frames.first (keeps_then c.args.nodes.now.dag c.any_end_node.new.nodes.dag c.negated.new.dag c.in_ok-any-in-End.ensures.keeps c.in_ok-none-in-End.ensures.keeps) c.requires.frames.first

pub pairs_node-requires-clause-frames : goal.pairs_node-requires-clause-frames
pairs_node-requires-clause-frames c = frames_later c.args.nodes.now.dag c.any_end_node-in-SameEnd.new.nodes.dag c.args.self.now.set.now c.args.self.now.frames c.in_ok-any-in-SameEnd.ensures.keeps c.requires.frames

pub returns-in_ok-opens-in-End-clause-keeps : goal.returns-in_ok-opens-in-End-clause-keeps
returns-in_ok-opens-in-End-clause-keeps c =
    IfOk-weaker c.both.result _ _ (λ i made.
    let d0 = c.args.nodes.now.dag in
    let d2 = c.negated.new.dag in
    let d3 = c.opens_node.new.dag in
    keeps_then d0 d3 c.both.new.dag (keeps_then d0 d2 d3 (keeps_then d0 c.any_end_node.new.nodes.dag d2 c.in_ok-any-in-End.ensures.keeps c.in_ok-none-in-End.ensures.keeps) c.in_ok-opens-in-End.ensures.keeps) made) c.both.ensures.keeps

pub returns-in_ok-opens-in-End-clause-made : goal.returns-in_ok-opens-in-End-clause-made
returns-in_ok-opens-in-End-clause-made c =
    IfOk-weaker c.both.result _ _ (λ i made.
    let d1 = c.any_end_node.new.nodes.dag in
    let d2 = c.negated.new.dag in
    let d3 = c.opens_node.new.dag in
    made_later c.args.self.now.set.now d1 c.both.new.dag c.any_end_node.new.nodes.made.items (keeps_then d1 d3 c.both.new.dag (keeps_then d1 d2 d3 c.in_ok-none-in-End.ensures.keeps c.in_ok-opens-in-End.ensures.keeps) made) c.in_ok-any-in-End.ensures.made) c.both.ensures.keeps

pub returns-in_ok-opens-in-End-clause-node : goal.returns-in_ok-opens-in-End-clause-node
returns-in_ok-opens-in-End-clause-node c =
    IfOk-weaker c.both.result _ _ (λ i made.
    let set = c.args.self.now.set.now in
    let m = meaning_of set in
    let p = c.in-End.p in
    let d1 = c.any_end_node.new.nodes.dag in
    let d2 = c.negated.new.dag in
    let d3 = c.opens_node.new.dag in
    let end_is : c.property_of.result.now.window ≡ window_of set p = ap (λ (y : Property). y.window) c.property_of.ensures in
    let is_open : Naming → Bool = λ e. opens m set p (named_rows set e 0 (window_of set p)) in
    let ends : Naming → Bool = λ e. any_end set p (λ n. end_test set (End p) n e) in
    let any = c.in_ok-any-in-End.ensures.node in
    let none = c.in_ok-none-in-End.ensures.node ends any in
    let opened = subst (λ k. Tests d3 c.in_ok-opens-in-End.opens (λ e. opens m set p (named_rows set e 0 k))) end_is (subst (λ s. Tests d3 c.in_ok-opens-in-End.opens (λ e. opens m set p (named_rows set e s c.property_of.result.now.window))) c.requires.frames.first_side c.in_ok-opens-in-End.ensures.node) in
    subst (λ (l : SetLine). Tests c.both.new.dag i (line_test m set (line_of l))) (sym c.in-End.is)
    (made is_open (λ e. not (ends e)) opened (tests_later d2 d3 c.in_ok-none-in-End.none (λ e. not (ends e)) c.in_ok-opens-in-End.ensures.keeps none))) c.both.ensures.node

pub returns-in_ok-pairs-in-SameEnd-clause-keeps : goal.returns-in_ok-pairs-in-SameEnd-clause-keeps
returns-in_ok-pairs-in-SameEnd-clause-keeps c =
    IfOk-weaker c.both-in-SameEnd.result _ _ (λ i made.
    let d0 = c.args.nodes.now.dag in
    let d2 = c.pairs_node.new.dag in
    keeps_then d0 d2 c.both-in-SameEnd.new.dag (keeps_then d0 c.any_end_node-in-SameEnd.new.nodes.dag d2 c.in_ok-any-in-SameEnd.ensures.keeps c.in_ok-pairs-in-SameEnd.ensures.keeps) made) c.both-in-SameEnd.ensures.keeps

pub returns-in_ok-pairs-in-SameEnd-clause-made : goal.returns-in_ok-pairs-in-SameEnd-clause-made
returns-in_ok-pairs-in-SameEnd-clause-made c =
    IfOk-weaker c.both-in-SameEnd.result _ _ (λ i made.
    let d1 = c.any_end_node-in-SameEnd.new.nodes.dag in
    let d2 = c.pairs_node.new.dag in
    made_later c.args.self.now.set.now d1 c.both-in-SameEnd.new.dag c.any_end_node-in-SameEnd.new.nodes.made.items (keeps_then d1 d2 c.both-in-SameEnd.new.dag c.in_ok-pairs-in-SameEnd.ensures.keeps made) c.in_ok-any-in-SameEnd.ensures.made) c.both-in-SameEnd.ensures.keeps

pub returns-in_ok-pairs-in-SameEnd-clause-node : goal.returns-in_ok-pairs-in-SameEnd-clause-node
returns-in_ok-pairs-in-SameEnd-clause-node c =
    IfOk-weaker c.both-in-SameEnd.result _ _ (λ i made.
    let set = c.args.self.now.set.now in
    let m = meaning_of set in
    let p = c.in-SameEnd.p in
    let d1 = c.any_end_node-in-SameEnd.new.nodes.dag in
    let d2 = c.pairs_node.new.dag in
    let end_is : c.property_of-in-SameEnd.result.now.window ≡ window_of set p = ap (λ (y : Property). y.window) c.property_of-in-SameEnd.ensures in
    let pair : Naming → Bool = λ e. pairs m set p (named_rows set e 0 (window_of set p)) (named_rows set e 1 (window_of set p)) in
    let apart : Naming → Bool = λ e. any_end set p (λ n. end_test set (SameEnd p) n e) in
    let any = c.in_ok-any-in-SameEnd.ensures.node in
    let paired = subst (λ k. Tests d2 c.in_ok-pairs-in-SameEnd.pairs (λ e. pairs m set p (named_rows set e 0 k) (named_rows set e 1 k))) end_is c.in_ok-pairs-in-SameEnd.ensures.node in
    subst (λ (l : SetLine). Tests c.both-in-SameEnd.new.dag i (line_test m set (line_of l))) (sym c.in-SameEnd.is)
    (made pair apart paired (tests_later d1 d2 c.in_ok-any-in-SameEnd.any apart c.in_ok-pairs-in-SameEnd.ensures.keeps any))) c.both-in-SameEnd.ensures.node
