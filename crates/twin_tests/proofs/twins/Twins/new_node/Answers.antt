use Rattle.std.proofs.Common.{drop}
use Rattle.std.proofs.lemmas.Result.{IfOk-weaker}
use Rattle.twin_tests_laws.specs.Windows.{named_rows}
use Rattle.twin_tests.specs.declared.shared.Predicate.TheVariants.{AssumedFirst, AssumedSecond, StartsFirst, StartsSecond, Hands}
use Rattle.twin_tests.proofs.Sharing.{first_from, second_from, predicate_is}
use Rattle.twin_tests.proofs.twins.Twins.new_node.Goals as goal

pub returns-in-AssumedFirst-clause-node : goal.returns-in-AssumedFirst-clause-node
returns-in-AssumedFirst-clause-node c =
    let set = c.args.self.now.set.now in
    let atom = c.args.atom in
    let frames = c.args.self.now.frames in
    IfOk-weaker c.assumed_node.result _ _ (λ i made. predicate_is set c.assumed_node.new.dag i atom AssumedFirst c.in-AssumedFirst.is (made (λ e. drop atom.row (named_rows set e 0 atom.end)) (first_from set c.args.dag.now frames atom c.rows_of-rows.result.now c.requires.frames c.requires.room.first c.rows_of-rows.ensures))) c.assumed_node.ensures.node

pub returns-in-AssumedSecond-clause-node : goal.returns-in-AssumedSecond-clause-node
returns-in-AssumedSecond-clause-node c =
    let set = c.args.self.now.set.now in
    let atom = c.args.atom in
    let frames = c.args.self.now.frames in
    IfOk-weaker c.assumed_node-in-AssumedSecond.result _ _ (λ i made. predicate_is set c.assumed_node-in-AssumedSecond.new.dag i atom AssumedSecond c.in-AssumedSecond.is (made (λ e. drop atom.row (named_rows set e 1 atom.end)) (second_from set c.args.dag.now frames atom c.rows_of-rows-in-AssumedSecond.result.now c.requires.frames c.requires.room.second c.rows_of-rows-in-AssumedSecond.ensures))) c.assumed_node-in-AssumedSecond.ensures.node

pub returns-in-StartsFirst-clause-node : goal.returns-in-StartsFirst-clause-node
returns-in-StartsFirst-clause-node c =
    let set = c.args.self.now.set.now in
    let atom = c.args.atom in
    let frames = c.args.self.now.frames in
    IfOk-weaker c.starts_node.result _ _ (λ i made. predicate_is set c.starts_node.new.dag i atom StartsFirst c.in-StartsFirst.is (made (λ e. drop atom.row (named_rows set e 0 atom.end)) (first_from set c.args.dag.now frames atom c.rows_of-rows-in-StartsFirst.result.now c.requires.frames c.requires.room.first c.rows_of-rows-in-StartsFirst.ensures))) c.starts_node.ensures.node

pub returns-in-StartsSecond-clause-node : goal.returns-in-StartsSecond-clause-node
returns-in-StartsSecond-clause-node c =
    let set = c.args.self.now.set.now in
    let atom = c.args.atom in
    let frames = c.args.self.now.frames in
    IfOk-weaker c.starts_node-in-StartsSecond.result _ _ (λ i made. predicate_is set c.starts_node-in-StartsSecond.new.dag i atom StartsSecond c.in-StartsSecond.is (made (λ e. drop atom.row (named_rows set e 1 atom.end)) (second_from set c.args.dag.now frames atom c.rows_of-rows-in-StartsSecond.result.now c.requires.frames c.requires.room.second c.rows_of-rows-in-StartsSecond.ensures))) c.starts_node-in-StartsSecond.ensures.node

pub returns-in-Hands-clause-node : goal.returns-in-Hands-clause-node
returns-in-Hands-clause-node c =
    let set = c.args.self.now.set.now in
    let atom = c.args.atom in
    let frames = c.args.self.now.frames in
    let held = c.requires.frames in
    let d0 = c.args.dag.now in
    IfOk-weaker c.same_hands_node.result _ _ (λ i made. predicate_is set c.same_hands_node.new.dag i atom Hands c.in-Hands.is
    (made (λ e. drop atom.row (named_rows set e 0 atom.end)) (λ e. drop atom.row (named_rows set e 1 atom.end)) (first_from set d0 frames atom c.rows_of-first.result.now held c.requires.room.first c.rows_of-first.ensures) (second_from set d0 frames atom c.rows_of-second.result.now held c.requires.room.second c.rows_of-second.ensures))) c.same_hands_node.ensures.node
