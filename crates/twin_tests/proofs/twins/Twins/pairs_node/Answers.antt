use Rattle.std.proofs.Common.{refl, subst}
use Rattle.std.specs.Prelude.{◌&&◌}
use Rattle.std.proofs.lemmas.Result.{IfOk-weaker}
use Rattle.twin_tests_laws.specs.Tests.{opens, same_hands}
use Rattle.twin_tests_laws.specs.Windows.{named_rows}
use Rattle.set_tree.specs.Formulas.{meaning_of}
use Rattle.twin_tests.specs.Building.{Tests}
use Rattle.twin_tests.proofs.Framed.{first_shows, follows_to, frame_later, frames_later, second_shows}
use Rattle.elab_step_expr.proofs.Kept.{keeps_then}
use Rattle.twin_tests.proofs.Standing.{has_later, tests_later}
use Rattle.twin_tests.proofs.twins.Twins.pairs_node.Goals as goal

pub opens_node-requires-2-clause-frame : goal.opens_node-requires-2-clause-frame
opens_node-requires-2-clause-frame c = frame_later c.args.dag.now c.opens_node.new.dag c.args.self.now.set.now c.args.self.now.frames.second c.in_ok-first.ensures.keeps c.requires.frames.second

pub same_hands_node-requires-clause-first : goal.same_hands_node-requires-clause-first
same_hands_node-requires-clause-first c = follows_to c.args.self.now.set.now c.args.at c.args.end c.args.self.now.frames.first.rows.items c.rows_to-xs.result.now c.requires.position c.requires.reach c.rows_to-xs.ensures c.requires.first

pub same_hands_node-requires-clause-second : goal.same_hands_node-requires-clause-second
same_hands_node-requires-clause-second c = follows_to c.args.self.now.set.now c.args.at c.args.end c.args.self.now.frames.second.rows.items c.rows_to-ys.result.now c.requires.position c.requires.reach c.rows_to-ys.ensures c.requires.second

pub same_hands_node-requires-clause-first_leaves : goal.same_hands_node-requires-clause-first_leaves
same_hands_node-requires-clause-first_leaves c =
    let set = c.args.self.now.set.now in
    let d0 = c.args.dag.now in
    let d2 = c.opens_node-2.new.dag in
    let d3 = c.both.new.dag in
    let k3 = keeps_then d0 d2 d3 (keeps_then d0 c.opens_node.new.dag d2 c.in_ok-first.ensures.keeps c.in_ok-second.ensures.keeps) c.in_ok-open.ensures.keeps in
    (first_shows set d3 c.args.self.now.frames c.args.end c.args.end c.rows_to-xs.result.now c.rows_to-xs.ensures refl c.requires.first (frames_later d0 d3 set c.args.self.now.frames k3 c.requires.frames)).leaves

pub same_hands_node-requires-clause-second_leaves : goal.same_hands_node-requires-clause-second_leaves
same_hands_node-requires-clause-second_leaves c =
    let set = c.args.self.now.set.now in
    let d0 = c.args.dag.now in
    let d2 = c.opens_node-2.new.dag in
    let d3 = c.both.new.dag in
    let k3 = keeps_then d0 d2 d3 (keeps_then d0 c.opens_node.new.dag d2 c.in_ok-first.ensures.keeps c.in_ok-second.ensures.keeps) c.in_ok-open.ensures.keeps in
    (second_shows set d3 c.args.self.now.frames c.args.end c.args.end c.rows_to-ys.result.now c.rows_to-ys.ensures refl c.requires.second (frames_later d0 d3 set c.args.self.now.frames k3 c.requires.frames)).leaves

pub both-requires-2-clause-first : goal.both-requires-2-clause-first
both-requires-2-clause-first c = has_later c.both.new.dag c.same_hands_node.new.dag c.in_ok-open.open 1 c.in_ok-hands.ensures.keeps c.in_ok-open.ensures.width

pub returns-clause-keeps : goal.returns-clause-keeps
returns-clause-keeps c =
    IfOk-weaker c.both-2.result _ _ (λ i made.
    let d0 = c.args.dag.now in
    let d2 = c.opens_node-2.new.dag in
    let d3 = c.both.new.dag in
    let d4 = c.same_hands_node.new.dag in
    let k3 = keeps_then d0 d2 d3 (keeps_then d0 c.opens_node.new.dag d2 c.in_ok-first.ensures.keeps c.in_ok-second.ensures.keeps) c.in_ok-open.ensures.keeps in
    keeps_then d0 d4 c.both-2.new.dag (keeps_then d0 d3 d4 k3 c.in_ok-hands.ensures.keeps) made) c.both-2.ensures.keeps

pub returns-clause-node : goal.returns-clause-node
returns-clause-node c =
    IfOk-weaker c.both-2.result _ _ (λ i made.
    let set = c.args.self.now.set.now in
    let m = meaning_of set in
    let at = c.args.at in
    let end = c.args.end in
    let frames = c.args.self.now.frames in
    let d0 = c.args.dag.now in
    let d1 = c.opens_node.new.dag in
    let d2 = c.opens_node-2.new.dag in
    let d3 = c.both.new.dag in
    let d4 = c.same_hands_node.new.dag in
    let k3 = keeps_then d0 d2 d3 (keeps_then d0 d1 d2 c.in_ok-first.ensures.keeps c.in_ok-second.ensures.keeps) c.in_ok-open.ensures.keeps in
    let later = frames_later d0 d3 set frames k3 c.requires.frames in
    let first = subst (λ s. Tests d1 c.in_ok-first.first (λ e. opens m set at (named_rows set e s end))) c.requires.frames.first_side c.in_ok-first.ensures.node in
    let second = subst (λ s. Tests d2 c.in_ok-second.second (λ e. opens m set at (named_rows set e s end))) c.requires.frames.second_side c.in_ok-second.ensures.node in
    let opened = c.in_ok-open.ensures.node (λ e. opens m set at (named_rows set e 0 end)) (λ e. opens m set at (named_rows set e 1 end)) (tests_later d1 d2 c.in_ok-first.first (λ e. opens m set at (named_rows set e 0 end)) c.in_ok-second.ensures.keeps first) second in
    let hands = c.in_ok-hands.ensures.node (λ e. named_rows set e 0 end) (λ e. named_rows set e 1 end) (first_shows set d3 frames end end c.rows_to-xs.result.now c.rows_to-xs.ensures refl c.requires.first later) (second_shows set d3 frames end end c.rows_to-ys.result.now c.rows_to-ys.ensures refl c.requires.second later) in
    made (λ e. opens m set at (named_rows set e 0 end) && opens m set at (named_rows set e 1 end)) (λ e. same_hands m set at (named_rows set e 0 end) (named_rows set e 1 end))
    (tests_later d3 d4 c.in_ok-open.open (λ e. opens m set at (named_rows set e 0 end) && opens m set at (named_rows set e 1 end)) c.in_ok-hands.ensures.keeps opened) hands) c.both-2.ensures.node
