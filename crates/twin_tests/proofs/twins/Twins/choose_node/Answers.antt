use Rattle.std.proofs.Common.{◌≡◌, Bool, not, drop}
use Rattle.std.specs.Prelude.{◌&&◌}
use Rattle.std.proofs.lemmas.Result.{IfOk-weaker}
use Rattle.twin_tests_laws.specs.Lines.{edge_end}
use Rattle.twin_tests_laws.specs.Tests.{pairs_to}
use Rattle.twin_tests_laws.specs.Windows.{named_rows}
use Rattle.set_tree.specs.Formulas.{meaning_of}
use Rattle.set_tree.specs.Parts.{assumed}
use Rattle.word_dag.specs.Nodes.{Naming}
use Rattle.twin_tests.specs.declared.shared.Predicate.TheVariants.{Pairs, AssumedFirst, AssumedSecond}
use Rattle.twin_tests.proofs.Framed.{frames_later}
use Rattle.twin_tests.proofs.Sharing.{hold_edge, made_later, room_for, test_of}
use Rattle.elab_step_expr.proofs.Kept.{keeps_then}
use Rattle.twin_tests.proofs.Standing.{has_later, tests_later}
use Rattle.twin_tests.proofs.twins.Twins.choose_node.Goals as goal

pub atom_node-requires-clause-room : goal.atom_node-requires-clause-room
atom_node-requires-clause-room c =
    let set = c.args.self.now.set.now in
    let frames = c.args.self.now.frames in
    let end = c.edge_end-end.result in
    let held = hold_edge set c.args.nodes.now.dag frames c.args.p c.args.q c.args.n end c.requires.structure c.requires.position c.requires.next c.requires.most c.requires.frames c.edge_end-end.ensures in
    room_for set frames c.new.result Pairs c.args.p c.args.n end c.new.ensures c.requires.position held.first held.second (c.requires.least, c.requires.most, held.own)

pub atom_node-requires-2-clause-room : goal.atom_node-requires-2-clause-room
atom_node-requires-2-clause-room c =
    let set = c.args.self.now.set.now in
    let frames = c.args.self.now.frames in
    let end = c.edge_end-end.result in
    let held = hold_edge set c.args.nodes.now.dag frames c.args.p c.args.q c.args.n end c.requires.structure c.requires.position c.requires.next c.requires.most c.requires.frames c.edge_end-end.ensures in
    room_for set frames c.new-2.result AssumedFirst c.args.q c.args.n end c.new-2.ensures c.requires.next held.first held.second held.next

pub atom_node-requires-2-clause-frames : goal.atom_node-requires-2-clause-frames
atom_node-requires-2-clause-frames c = frames_later c.args.nodes.now.dag c.atom_node.new.nodes.dag c.args.self.now.set.now c.args.self.now.frames c.in_ok-pairs.ensures.keeps c.requires.frames

pub atom_node-requires-3-clause-room : goal.atom_node-requires-3-clause-room
atom_node-requires-3-clause-room c =
    let set = c.args.self.now.set.now in
    let frames = c.args.self.now.frames in
    let end = c.edge_end-end.result in
    let held = hold_edge set c.args.nodes.now.dag frames c.args.p c.args.q c.args.n end c.requires.structure c.requires.position c.requires.next c.requires.most c.requires.frames c.edge_end-end.ensures in
    room_for set frames c.new-3.result AssumedSecond c.args.q c.args.n end c.new-3.ensures c.requires.next held.first held.second held.next

pub atom_node-requires-3-clause-frames : goal.atom_node-requires-3-clause-frames
atom_node-requires-3-clause-frames c =
    let d0 = c.args.nodes.now.dag in
    let d1 = c.atom_node.new.nodes.dag in
    let d2 = c.atom_node-2.new.nodes.dag in
    frames_later d0 d2 c.args.self.now.set.now c.args.self.now.frames (keeps_then d0 d1 d2 c.in_ok-pairs.ensures.keeps c.in_ok-chosen.ensures.keeps) c.requires.frames

pub both-requires-clause-first : goal.both-requires-clause-first
both-requires-clause-first c =
    let d1 = c.atom_node.new.nodes.dag in
    let d2 = c.atom_node-2.new.nodes.dag in
    let d3 = c.atom_node-3.new.nodes.dag in
    has_later d1 d3 c.in_ok-pairs.pairs 1 (keeps_then d1 d2 d3 c.in_ok-chosen.ensures.keeps c.in_ok-other.ensures.keeps) c.in_ok-pairs.ensures.width

pub both-requires-clause-second : goal.both-requires-clause-second
both-requires-clause-second c = has_later c.atom_node-2.new.nodes.dag c.atom_node-3.new.nodes.dag c.in_ok-chosen.chosen 1 c.in_ok-other.ensures.keeps c.in_ok-chosen.ensures.width

pub negated-requires : goal.negated-requires
negated-requires c = has_later c.atom_node-3.new.nodes.dag c.both.new.dag c.in_ok-other.other 1 c.in_ok-first.ensures.keeps c.in_ok-other.ensures.width

pub both-requires-2-clause-first : goal.both-requires-2-clause-first
both-requires-2-clause-first c = has_later c.both.new.dag c.negated.new.dag c.in_ok-first.first 1 c.in_ok-refused.ensures.keeps c.in_ok-first.ensures.width

pub returns-clause-keeps : goal.returns-clause-keeps
returns-clause-keeps c =
    IfOk-weaker c.both-2.result _ _ (λ i made.
    let d0 = c.args.nodes.now.dag in
    let d1 = c.atom_node.new.nodes.dag in
    let d2 = c.atom_node-2.new.nodes.dag in
    let d3 = c.atom_node-3.new.nodes.dag in
    let d4 = c.both.new.dag in
    let d5 = c.negated.new.dag in
    let k2 = keeps_then d0 d1 d2 c.in_ok-pairs.ensures.keeps c.in_ok-chosen.ensures.keeps in
    let k3 = keeps_then d0 d2 d3 k2 c.in_ok-other.ensures.keeps in
    let k4 = keeps_then d0 d3 d4 k3 c.in_ok-first.ensures.keeps in
    let k5 = keeps_then d0 d4 d5 k4 c.in_ok-refused.ensures.keeps in
    keeps_then d0 d5 c.both-2.new.dag k5 made) c.both-2.ensures.keeps

pub returns-clause-made : goal.returns-clause-made
returns-clause-made c =
    IfOk-weaker c.both-2.result _ _ (λ i made.
    let d3 = c.atom_node-3.new.nodes.dag in
    let d4 = c.both.new.dag in
    let d5 = c.negated.new.dag in
    let k5 = keeps_then d3 d4 d5 c.in_ok-first.ensures.keeps c.in_ok-refused.ensures.keeps in
    made_later c.args.self.now.set.now d3 c.both-2.new.dag c.atom_node-3.new.nodes.made.items (keeps_then d3 d5 c.both-2.new.dag k5 made) c.in_ok-other.ensures.made) c.both-2.ensures.keeps

pub returns-clause-node : goal.returns-clause-node
returns-clause-node c =
    IfOk-weaker c.both-2.result _ _ (λ i made.
    let set = c.args.self.now.set.now in
    let p = c.args.p in
    let q = c.args.q in
    let n = c.args.n in
    let end = c.edge_end-end.result in
    let end_is : end ≡ edge_end set p q n = c.edge_end-end.ensures in
    let d1 = c.atom_node.new.nodes.dag in
    let d2 = c.atom_node-2.new.nodes.dag in
    let d3 = c.atom_node-3.new.nodes.dag in
    let d4 = c.both.new.dag in
    let d5 = c.negated.new.dag in
    let k2 = c.in_ok-chosen.ensures.keeps in
    let k3 = c.in_ok-other.ensures.keeps in
    let m = meaning_of set in
    let last = edge_end set p q n in
    let pair : Naming → Bool = λ e. pairs_to m set p n (named_rows set e 0 last) (named_rows set e 1 last) in
    let goes : Naming → Bool = λ e. assumed m set q (drop n (named_rows set e 0 last)) in
    let other : Naming → Bool = λ e. assumed m set q (drop n (named_rows set e 1 last)) in
    let paired = test_of set d1 c.in_ok-pairs.pairs c.new.result Pairs p n end last c.new.ensures end_is c.in_ok-pairs.ensures.node in
    let chosen = test_of set d2 c.in_ok-chosen.chosen c.new-2.result AssumedFirst q n end last c.new-2.ensures end_is c.in_ok-chosen.ensures.node in
    let second = test_of set d3 c.in_ok-other.other c.new-3.result AssumedSecond q n end last c.new-3.ensures end_is c.in_ok-other.ensures.node in
    let first = c.in_ok-first.ensures.node pair goes (tests_later d1 d3 c.in_ok-pairs.pairs pair (keeps_then d1 d2 d3 k2 k3) paired) (tests_later d2 d3 c.in_ok-chosen.chosen goes k3 chosen) in
    let refused = c.in_ok-refused.ensures.node other (tests_later d3 d4 c.in_ok-other.other other c.in_ok-first.ensures.keeps second) in
    made (λ e. pair e && goes e) (λ e. not (other e)) (tests_later d4 d5 c.in_ok-first.first (λ e. pair e && goes e) c.in_ok-refused.ensures.keeps first) refused) c.both-2.ensures.node
