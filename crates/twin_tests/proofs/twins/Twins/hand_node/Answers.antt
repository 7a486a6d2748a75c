use Rattle.std.proofs.Common.{◌≡◌, Bool, not, drop}
use Rattle.std.specs.Prelude.{◌&&◌}
use Rattle.std.proofs.lemmas.Result.{IfOk-weaker}
use Rattle.twin_tests_laws.specs.Lines.{edge_end}
use Rattle.twin_tests_laws.specs.Tests.{pairs_to, same_hands, starts}
use Rattle.twin_tests_laws.specs.Windows.{named_rows}
use Rattle.set_tree.specs.Formulas.{meaning_of}
use Rattle.word_dag.specs.Nodes.{Naming}
use Rattle.twin_tests.specs.declared.shared.Predicate.TheVariants.{Pairs, StartsFirst, StartsSecond, Hands}
use Rattle.twin_tests.proofs.Framed.{frames_later}
use Rattle.twin_tests.proofs.Sharing.{hold_edge, made_later, room_for, test_of}
use Rattle.elab_step_expr.proofs.Kept.{keeps_then}
use Rattle.twin_tests.proofs.Standing.{has_later, tests_later}
use Rattle.twin_tests.proofs.twins.Twins.hand_node.Goals as goal

pub atom_node-requires-clause-room : goal.atom_node-requires-clause-room
atom_node-requires-clause-room c =
    let set = c.args.self.now.set.now in
    let frames = c.args.self.now.frames in
    let end = c.edge_end-end.result in
    let held = hold_edge set c.args.nodes.now.dag frames c.args.p c.args.q c.args.n end c.requires.structure c.requires.position c.requires.next c.requires.most c.requires.frames c.edge_end-end.ensures in
    room_for set frames c.new.result Pairs c.args.p c.args.n end c.new.ensures c.requires.position held.first held.second (c.requires.least, c.requires.most, held.own)

pub atom_node-requires-2-clause-room : goal.atom_node-requires-2-clause-room
atom_node-requires-2-clause-room c =
    let set = c.args.self.now.set.now in
    let frames = c.args.self.now.frames in
    let end = c.edge_end-end.result in
    let held = hold_edge set c.args.nodes.now.dag frames c.args.p c.args.q c.args.n end c.requires.structure c.requires.position c.requires.next c.requires.most c.requires.frames c.edge_end-end.ensures in
    room_for set frames c.new-2.result StartsFirst c.args.q c.args.n end c.new-2.ensures c.requires.next held.first held.second held.next

pub atom_node-requires-2-clause-frames : goal.atom_node-requires-2-clause-frames
atom_node-requires-2-clause-frames c = frames_later c.args.nodes.now.dag c.atom_node.new.nodes.dag c.args.self.now.set.now c.args.self.now.frames c.in_ok-pairs.ensures.keeps c.requires.frames

pub atom_node-requires-3-clause-room : goal.atom_node-requires-3-clause-room
atom_node-requires-3-clause-room c =
    let set = c.args.self.now.set.now in
    let frames = c.args.self.now.frames in
    let end = c.edge_end-end.result in
    let held = hold_edge set c.args.nodes.now.dag frames c.args.p c.args.q c.args.n end c.requires.structure c.requires.position c.requires.next c.requires.most c.requires.frames c.edge_end-end.ensures in
    room_for set frames c.new-3.result StartsSecond c.args.q c.args.n end c.new-3.ensures c.requires.next held.first held.second held.next

pub atom_node-requires-3-clause-frames : goal.atom_node-requires-3-clause-frames
atom_node-requires-3-clause-frames c =
    let d0 = c.args.nodes.now.dag in
    let d1 = c.atom_node.new.nodes.dag in
    let d2 = c.atom_node-2.new.nodes.dag in
    frames_later d0 d2 c.args.self.now.set.now c.args.self.now.frames (keeps_then d0 d1 d2 c.in_ok-pairs.ensures.keeps c.in_ok-here.ensures.keeps) c.requires.frames

pub atom_node-requires-4-clause-room : goal.atom_node-requires-4-clause-room
atom_node-requires-4-clause-room c =
    let set = c.args.self.now.set.now in
    let frames = c.args.self.now.frames in
    let end = c.edge_end-end.result in
    let held = hold_edge set c.args.nodes.now.dag frames c.args.p c.args.q c.args.n end c.requires.structure c.requires.position c.requires.next c.requires.most c.requires.frames c.edge_end-end.ensures in
    room_for set frames c.new-4.result Hands c.args.q c.args.n end c.new-4.ensures c.requires.next held.first held.second held.next

pub atom_node-requires-4-clause-frames : goal.atom_node-requires-4-clause-frames
atom_node-requires-4-clause-frames c =
    let d0 = c.args.nodes.now.dag in
    let d1 = c.atom_node.new.nodes.dag in
    let d2 = c.atom_node-2.new.nodes.dag in
    let d3 = c.atom_node-3.new.nodes.dag in
    let k2 = keeps_then d0 d1 d2 c.in_ok-pairs.ensures.keeps c.in_ok-here.ensures.keeps in
    frames_later d0 d3 c.args.self.now.set.now c.args.self.now.frames (keeps_then d0 d2 d3 k2 c.in_ok-there.ensures.keeps) c.requires.frames

pub both-requires-clause-first : goal.both-requires-clause-first
both-requires-clause-first c =
    let d1 = c.atom_node.new.nodes.dag in
    let d2 = c.atom_node-2.new.nodes.dag in
    let d3 = c.atom_node-3.new.nodes.dag in
    let d4 = c.atom_node-4.new.nodes.dag in
    let k3 = keeps_then d1 d2 d3 c.in_ok-here.ensures.keeps c.in_ok-there.ensures.keeps in
    has_later d1 d4 c.in_ok-pairs.pairs 1 (keeps_then d1 d3 d4 k3 c.in_ok-hands.ensures.keeps) c.in_ok-pairs.ensures.width

pub both-requires-clause-second : goal.both-requires-clause-second
both-requires-clause-second c =
    let d2 = c.atom_node-2.new.nodes.dag in
    let d3 = c.atom_node-3.new.nodes.dag in
    let d4 = c.atom_node-4.new.nodes.dag in
    has_later d2 d4 c.in_ok-here.here 1 (keeps_then d2 d3 d4 c.in_ok-there.ensures.keeps c.in_ok-hands.ensures.keeps) c.in_ok-here.ensures.width

pub both-requires-2-clause-second : goal.both-requires-2-clause-second
both-requires-2-clause-second c =
    let d3 = c.atom_node-3.new.nodes.dag in
    let d4 = c.atom_node-4.new.nodes.dag in
    let d5 = c.both.new.dag in
    has_later d3 d5 c.in_ok-there.there 1 (keeps_then d3 d4 d5 c.in_ok-hands.ensures.keeps c.in_ok-first.ensures.keeps) c.in_ok-there.ensures.width

pub negated-requires : goal.negated-requires
negated-requires c =
    let d4 = c.atom_node-4.new.nodes.dag in
    let d5 = c.both.new.dag in
    let d6 = c.both-2.new.dag in
    has_later d4 d6 c.in_ok-hands.hands 1 (keeps_then d4 d5 d6 c.in_ok-first.ensures.keeps c.in_ok-second.ensures.keeps) c.in_ok-hands.ensures.width

pub both-requires-3-clause-first : goal.both-requires-3-clause-first
both-requires-3-clause-first c = has_later c.both-2.new.dag c.negated.new.dag c.in_ok-second.second 1 c.in_ok-differ.ensures.keeps c.in_ok-second.ensures.width

pub returns-clause-keeps : goal.returns-clause-keeps
returns-clause-keeps c =
    IfOk-weaker c.both-3.result _ _ (λ i made.
    let d0 = c.args.nodes.now.dag in
    let d1 = c.atom_node.new.nodes.dag in
    let d2 = c.atom_node-2.new.nodes.dag in
    let d3 = c.atom_node-3.new.nodes.dag in
    let d4 = c.atom_node-4.new.nodes.dag in
    let d5 = c.both.new.dag in
    let d6 = c.both-2.new.dag in
    let d7 = c.negated.new.dag in
    let k2 = keeps_then d0 d1 d2 c.in_ok-pairs.ensures.keeps c.in_ok-here.ensures.keeps in
    let k3 = keeps_then d0 d2 d3 k2 c.in_ok-there.ensures.keeps in
    let k4 = keeps_then d0 d3 d4 k3 c.in_ok-hands.ensures.keeps in
    let k5 = keeps_then d0 d4 d5 k4 c.in_ok-first.ensures.keeps in
    let k6 = keeps_then d0 d5 d6 k5 c.in_ok-second.ensures.keeps in
    let k7 = keeps_then d0 d6 d7 k6 c.in_ok-differ.ensures.keeps in
    keeps_then d0 d7 c.both-3.new.dag k7 made) c.both-3.ensures.keeps

pub returns-clause-made : goal.returns-clause-made
returns-clause-made c =
    IfOk-weaker c.both-3.result _ _ (λ i made.
    let d4 = c.atom_node-4.new.nodes.dag in
    let d5 = c.both.new.dag in
    let d6 = c.both-2.new.dag in
    let d7 = c.negated.new.dag in
    let k6 = keeps_then d4 d5 d6 c.in_ok-first.ensures.keeps c.in_ok-second.ensures.keeps in
    let k7 = keeps_then d4 d6 d7 k6 c.in_ok-differ.ensures.keeps in
    made_later c.args.self.now.set.now d4 c.both-3.new.dag c.atom_node-4.new.nodes.made.items (keeps_then d4 d7 c.both-3.new.dag k7 made) c.in_ok-hands.ensures.made) c.both-3.ensures.keeps

pub returns-clause-node : goal.returns-clause-node
returns-clause-node c =
    IfOk-weaker c.both-3.result _ _ (λ i made.
    let set = c.args.self.now.set.now in
    let p = c.args.p in
    let q = c.args.q in
    let n = c.args.n in
    let end = c.edge_end-end.result in
    let end_is : end ≡ edge_end set p q n = c.edge_end-end.ensures in
    let d1 = c.atom_node.new.nodes.dag in
    let d2 = c.atom_node-2.new.nodes.dag in
    let d3 = c.atom_node-3.new.nodes.dag in
    let d4 = c.atom_node-4.new.nodes.dag in
    let d5 = c.both.new.dag in
    let d6 = c.both-2.new.dag in
    let d7 = c.negated.new.dag in
    let k4 = c.in_ok-hands.ensures.keeps in
    let k34 = keeps_then d2 d3 d4 c.in_ok-there.ensures.keeps k4 in
    let k24 = keeps_then d1 d2 d4 c.in_ok-here.ensures.keeps k34 in
    let m = meaning_of set in
    let last = edge_end set p q n in
    let pair : Naming → Bool = λ e. pairs_to m set p n (named_rows set e 0 last) (named_rows set e 1 last) in
    let here : Naming → Bool = λ e. starts m set q (drop n (named_rows set e 0 last)) in
    let there : Naming → Bool = λ e. starts m set q (drop n (named_rows set e 1 last)) in
    let agree : Naming → Bool = λ e. same_hands m set q (drop n (named_rows set e 0 last)) (drop n (named_rows set e 1 last)) in
    let paired = test_of set d1 c.in_ok-pairs.pairs c.new.result Pairs p n end last c.new.ensures end_is c.in_ok-pairs.ensures.node in
    let starts_here = test_of set d2 c.in_ok-here.here c.new-2.result StartsFirst q n end last c.new-2.ensures end_is c.in_ok-here.ensures.node in
    let starts_there = test_of set d3 c.in_ok-there.there c.new-3.result StartsSecond q n end last c.new-3.ensures end_is c.in_ok-there.ensures.node in
    let hands = test_of set d4 c.in_ok-hands.hands c.new-4.result Hands q n end last c.new-4.ensures end_is c.in_ok-hands.ensures.node in
    let first = c.in_ok-first.ensures.node pair here (tests_later d1 d4 c.in_ok-pairs.pairs pair k24 paired) (tests_later d2 d4 c.in_ok-here.here here k34 starts_here) in
    let second = c.in_ok-second.ensures.node (λ e. pair e && here e) there first (tests_later d3 d5 c.in_ok-there.there there (keeps_then d3 d4 d5 k4 c.in_ok-first.ensures.keeps) starts_there) in
    let differ = c.in_ok-differ.ensures.node agree (tests_later d4 d6 c.in_ok-hands.hands agree (keeps_then d4 d5 d6 c.in_ok-first.ensures.keeps c.in_ok-second.ensures.keeps) hands) in
    made (λ e. (pair e && here e) && there e) (λ e. not (agree e)) (tests_later d6 d7 c.in_ok-second.second (λ e. (pair e && here e) && there e) c.in_ok-differ.ensures.keeps second) differ) c.both-3.ensures.node
