use Rattle.std.proofs.Common.{Bool, refl}
use Rattle.std.specs.Prelude.{◌&&◌}
use Rattle.std.proofs.lemmas.Result.{IfOk-weaker}
use Rattle.twin_tests_laws.specs.Tests.{ends_at, pairs}
use Rattle.twin_tests_laws.specs.Windows.{named_rows}
use Rattle.set_tree.specs.Formulas.{meaning_of}
use Rattle.word_dag.specs.Nodes.{Naming}
use Rattle.twin_tests.proofs.Framed.{first_shows, follows_to, frames_later, second_shows}
use Rattle.elab_step_expr.proofs.Kept.{keeps_then}
use Rattle.twin_tests.proofs.Standing.{has_later, tests_later}
use Rattle.twin_tests.proofs.twins.Twins.pairs_to_node.Goals as goal

pub ends_node-requires-clause-follows : goal.ends_node-requires-clause-follows
ends_node-requires-clause-follows c = follows_to c.args.self.now.set.now c.args.at c.args.end c.args.self.now.frames.first.rows.items c.rows_to.result.now c.requires.position c.requires.reach c.rows_to.ensures c.requires.first

pub ends_node-requires-clause-leaves : goal.ends_node-requires-clause-leaves
ends_node-requires-clause-leaves c =
    let set = c.args.self.now.set.now in
    let d1 = c.pairs_node.new.dag in
    (first_shows set d1 c.args.self.now.frames c.args.end c.args.end c.rows_to.result.now c.rows_to.ensures refl c.requires.first (frames_later c.args.dag.now d1 set c.args.self.now.frames c.in_ok-pairs.ensures.keeps c.requires.frames)).leaves

pub ends_node-requires-2-clause-follows : goal.ends_node-requires-2-clause-follows
ends_node-requires-2-clause-follows c = follows_to c.args.self.now.set.now c.args.at c.args.end c.args.self.now.frames.second.rows.items c.rows_to-2.result.now c.requires.position c.requires.reach c.rows_to-2.ensures c.requires.second

pub ends_node-requires-2-clause-leaves : goal.ends_node-requires-2-clause-leaves
ends_node-requires-2-clause-leaves c =
    let set = c.args.self.now.set.now in
    let d0 = c.args.dag.now in
    let d2 = c.ends_node.new.dag in
    let d3 = c.both.new.dag in
    let k3 = keeps_then d0 d2 d3 (keeps_then d0 c.pairs_node.new.dag d2 c.in_ok-pairs.ensures.keeps c.in_ok-first.ensures.keeps) c.in_ok-one.ensures.keeps in
    (second_shows set d3 c.args.self.now.frames c.args.end c.args.end c.rows_to-2.result.now c.rows_to-2.ensures refl c.requires.second (frames_later d0 d3 set c.args.self.now.frames k3 c.requires.frames)).leaves

pub both-requires-clause-first : goal.both-requires-clause-first
both-requires-clause-first c = has_later c.pairs_node.new.dag c.ends_node.new.dag c.in_ok-pairs.pairs 1 c.in_ok-first.ensures.keeps c.in_ok-pairs.ensures.width

pub both-requires-2-clause-first : goal.both-requires-2-clause-first
both-requires-2-clause-first c = has_later c.both.new.dag c.ends_node-2.new.dag c.in_ok-one.one 1 c.in_ok-second.ensures.keeps c.in_ok-one.ensures.width

pub returns-clause-keeps : goal.returns-clause-keeps
returns-clause-keeps c =
    IfOk-weaker c.both-2.result _ _ (λ i made.
    let d0 = c.args.dag.now in
    let d2 = c.ends_node.new.dag in
    let d3 = c.both.new.dag in
    let d4 = c.ends_node-2.new.dag in
    let k3 = keeps_then d0 d2 d3 (keeps_then d0 c.pairs_node.new.dag d2 c.in_ok-pairs.ensures.keeps c.in_ok-first.ensures.keeps) c.in_ok-one.ensures.keeps in
    keeps_then d0 d4 c.both-2.new.dag (keeps_then d0 d3 d4 k3 c.in_ok-second.ensures.keeps) made) c.both-2.ensures.keeps

pub returns-clause-node : goal.returns-clause-node
returns-clause-node c =
    IfOk-weaker c.both-2.result _ _ (λ i made.
    let set = c.args.self.now.set.now in
    let m = meaning_of set in
    let at = c.args.at in
    let n = c.args.n in
    let end = c.args.end in
    let frames = c.args.self.now.frames in
    let d0 = c.args.dag.now in
    let d1 = c.pairs_node.new.dag in
    let d2 = c.ends_node.new.dag in
    let d3 = c.both.new.dag in
    let d4 = c.ends_node-2.new.dag in
    let k3 = keeps_then d0 d2 d3 (keeps_then d0 d1 d2 c.in_ok-pairs.ensures.keeps c.in_ok-first.ensures.keeps) c.in_ok-one.ensures.keeps in
    let pair : Naming → Bool = λ e. pairs m set at (named_rows set e 0 end) (named_rows set e 1 end) in
    let ends : Naming → Bool = λ e. ends_at m set at n (named_rows set e 0 end) in
    let first = c.in_ok-first.ensures.node (λ e. named_rows set e 0 end) (first_shows set d1 frames end end c.rows_to.result.now c.rows_to.ensures refl c.requires.first (frames_later d0 d1 set frames c.in_ok-pairs.ensures.keeps c.requires.frames)) in
    let one = c.in_ok-one.ensures.node pair ends (tests_later d1 d2 c.in_ok-pairs.pairs pair c.in_ok-first.ensures.keeps c.in_ok-pairs.ensures.node) first in
    let second = c.in_ok-second.ensures.node (λ e. named_rows set e 1 end) (second_shows set d3 frames end end c.rows_to-2.result.now c.rows_to-2.ensures refl c.requires.second (frames_later d0 d3 set frames k3 c.requires.frames)) in
    made (λ e. pair e && ends e) (λ e. ends_at m set at n (named_rows set e 1 end)) (tests_later d3 d4 c.in_ok-one.one (λ e. pair e && ends e) c.in_ok-second.ensures.keeps one) second) c.both-2.ensures.node
