use Rattle.std.proofs.Common.{◌≡◌, ◌-◌, ◌<◌, ◌≤◌, Bool, not, drop, length, ap, arith}
use Rattle.std.specs.List.{list_any}
use Rattle.std.proofs.lemmas.Result.{IfOk-weaker}
use Rattle.twin_tests_laws.specs.Tests.{any_from, pairs_to, determined}
use Rattle.twin_tests_laws.specs.Windows.{named_rows}
use Rattle.set_tree.specs.declared.set.Cover.{Cover}
use Rattle.set_tree.specs.declared.set.Property.{Property}
use Rattle.set_tree.specs.Formulas.{meaning_of}
use Rattle.set_tree.specs.Parts.{cover_end, property_at, window_of}
use Rattle.word_dag.specs.Nodes.{Naming}
use Rattle.twin_tests.specs.declared.shared.Predicate.TheVariants.{Pairs}
use Rattle.twin_tests.proofs.Framed.{first_shows, frames_later, second_shows}
use Rattle.twin_tests.proofs.Sharing.{made_later, room_for, test_of}
use Rattle.elab_step_expr.proofs.Kept.{keeps_then}
use Rattle.twin_tests.proofs.Standing.{tests_later}
use Rattle.twin_tests.proofs.twins.Twins.determine_node.Goals as goal

pub atom_node-requires-clause-room : goal.atom_node-requires-clause-room
atom_node-requires-clause-room c =
    let set = c.args.self.now.set.now in
    let p = c.args.p in
    let frames = c.args.self.now.frames in
    let end = c.property_of.result.now.window in
    let end_is : end ≡ window_of set p = ap (λ (y : Property). y.window) c.property_of.ensures in
    let reach = c.requires.frames.first_reach p p c.requires.position c.requires.position in
    let reach' = c.requires.frames.second_reach p p c.requires.position c.requires.position in
    let lt : end < length frames.first.rows.items = omega (arith, end_is, reach) in
    let lt' : end < length frames.second.rows.items = omega (arith, end_is, reach') in
    let le : window_of set p ≤ end = omega (arith, end_is) in
    room_for set frames c.new.result Pairs p c.args.n end c.new.ensures c.requires.position lt lt' (c.requires.least, c.requires.most, le)

pub covers_node-requires-clause-first_leaves : goal.covers_node-requires-clause-first_leaves
covers_node-requires-clause-first_leaves c =
    let set = c.args.self.now.set.now in
    let p = c.args.p in
    let frames = c.args.self.now.frames in
    let end = c.property_of.result.now.window in
    let end_is : end ≡ window_of set p = ap (λ (y : Property). y.window) c.property_of.ensures in
    let reach = c.requires.frames.first_reach p p c.requires.position c.requires.position in
    let lt : end < length frames.first.rows.items = omega (arith, end_is, reach) in
    let d1 = c.atom_node.new.nodes.dag in
    (first_shows set d1 frames end (window_of set p) c.rows_to-first.result.now c.rows_to-first.ensures end_is lt (frames_later c.args.nodes.now.dag d1 set frames c.in_ok-pairs.ensures.keeps c.requires.frames)).leaves

pub covers_node-requires-clause-second_leaves : goal.covers_node-requires-clause-second_leaves
covers_node-requires-clause-second_leaves c =
    let set = c.args.self.now.set.now in
    let p = c.args.p in
    let frames = c.args.self.now.frames in
    let end = c.property_of.result.now.window in
    let end_is : end ≡ window_of set p = ap (λ (y : Property). y.window) c.property_of.ensures in
    let reach' = c.requires.frames.second_reach p p c.requires.position c.requires.position in
    let lt' : end < length frames.second.rows.items = omega (arith, end_is, reach') in
    let d1 = c.atom_node.new.nodes.dag in
    (second_shows set d1 frames end (window_of set p) c.rows_to-second.result.now c.rows_to-second.ensures end_is lt' (frames_later c.args.nodes.now.dag d1 set frames c.in_ok-pairs.ensures.keeps c.requires.frames)).leaves

pub returns-clause-keeps : goal.returns-clause-keeps
returns-clause-keeps c =
    IfOk-weaker c.both.result _ _ (λ i made.
    let d0 = c.args.nodes.now.dag in
    let d1 = c.atom_node.new.nodes.dag in
    let d2 = c.covers_node.new.dag in
    keeps_then d0 d2 c.both.new.dag (keeps_then d0 d1 d2 c.in_ok-pairs.ensures.keeps c.in_ok-apart.ensures.keeps) made) c.both.ensures.keeps

pub returns-clause-made : goal.returns-clause-made
returns-clause-made c =
    IfOk-weaker c.both.result _ _ (λ i made.
    let d1 = c.atom_node.new.nodes.dag in
    let d2 = c.covers_node.new.dag in
    made_later c.args.self.now.set.now d1 c.both.new.dag c.atom_node.new.nodes.made.items (keeps_then d1 d2 c.both.new.dag c.in_ok-apart.ensures.keeps made) c.in_ok-pairs.ensures.made) c.both.ensures.keeps

pub returns-clause-node : goal.returns-clause-node
returns-clause-node c =
    IfOk-weaker c.both.result _ _ (λ i made.
    let set = c.args.self.now.set.now in
    let p = c.args.p in
    let n = c.args.n in
    let frames = c.args.self.now.frames in
    let end = c.property_of.result.now.window in
    let end_is : end ≡ window_of set p = ap (λ (y : Property). y.window) c.property_of.ensures in
    let reach = c.requires.frames.first_reach p p c.requires.position c.requires.position in
    let reach' = c.requires.frames.second_reach p p c.requires.position c.requires.position in
    let lt : end < length frames.first.rows.items = omega (arith, end_is, reach) in
    let lt' : end < length frames.second.rows.items = omega (arith, end_is, reach') in
    let d1 = c.atom_node.new.nodes.dag in
    let d2 = c.covers_node.new.dag in
    let held = frames_later c.args.nodes.now.dag d1 set frames c.in_ok-pairs.ensures.keeps c.requires.frames in
    let m = meaning_of set in
    let last = window_of set p in
    let pair : Naming → Bool = λ e. pairs_to m set p n (named_rows set e 0 last) (named_rows set e 1 last) in
    let paired = test_of set d1 c.in_ok-pairs.pairs c.new.result Pairs p n end last c.new.ensures end_is c.in_ok-pairs.ensures.node in
    let apart : Naming → Bool = λ e. list_any (λ (cover : Cover). any_from cover.from (cover_end cover.to n - cover.from) (λ t. not (determined m set cover.output (drop t (named_rows set e 0 last)) (drop t (named_rows set e 1 last))))) (property_at set p).covers in
    made pair apart (tests_later d1 d2 c.in_ok-pairs.pairs pair c.in_ok-apart.ensures.keeps paired)
    (c.in_ok-apart.ensures.node (λ e. named_rows set e 0 last) (λ e. named_rows set e 1 last) (first_shows set d1 frames end last c.rows_to-first.result.now c.rows_to-first.ensures end_is lt held) (second_shows set d1 frames end last c.rows_to-second.result.now c.rows_to-second.ensures end_is lt' held))) c.both.ensures.node
