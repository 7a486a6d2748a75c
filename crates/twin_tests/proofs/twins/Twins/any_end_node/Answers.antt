use Rattle.std.proofs.Common.{◌≡◌, ◌+◌, ◌-◌, ◌≤◌, false, refl, ap, ◌∙◌, arith}
use Rattle.twin_tests_laws.specs.Laws.{property_of}
use Rattle.twin_tests_laws.specs.Tests.{any_from}
use Rattle.set_tree.specs.declared.set.Property.{Property}
use Rattle.set_tree.specs.Parts.{property_at}
use Rattle.twin_tests.specs.Framing.{end_test}
use Rattle.twin_tests.specs.Ordering.{line_of}
use Rattle.twin_tests.proofs.Ends.{any_next}
use Rattle.twin_tests.proofs.Framed.{frames_later}
use Rattle.twin_tests.proofs.Loops.{joined_step, same_test}
use Rattle.twin_tests.proofs.Sharing.{made_later}
use Rattle.twin_tests.proofs.twins.Twins.any_end_node.Goals as goal

pub at_end_node-requires-clause-frames : goal.at_end_node-requires-clause-frames
at_end_node-requires-clause-frames c = frames_later c.args.nodes.now.dag c.loop-n.nodes.dag c.args.self.now.set.now c.args.self.now.frames c.loop-n.invariant.joined.keeps c.requires.frames

pub at_end_node-requires-clause-made : goal.at_end_node-requires-clause-made
at_end_node-requires-clause-made c = c.loop-n.invariant.atoms

pub loop-n-init : goal.loop-n-init
loop-n-init c =
    let set = c.args.self.now.set.now in
    let line = c.args.line in
    let d0 = c.args.nodes.now.dag in
    let d1 = c.constant.new.dag in
    let low = (property_at set (property_of (line_of line))).length.low in
    let same : c.property_of-property.result.now.length.low ≡ low = ap (λ (y : Property). y.length.low) (c.property_of-property.ensures ∙ ap (property_at set) c.property.ensures) in
    record {
      joined = record { keeps = c.in_ok-any.ensures.keeps; tests = same_test d1 c.in_ok-any.any (λ e. false) (λ e. any_from low (c.property_of-property.result.now.length.low - low) (λ k. end_test set line k e)) (λ e. let none : c.property_of-property.result.now.length.low - low ≡ 0 = omega (arith, same) in rw none refl) c.in_ok-any.ensures.node };
      atoms = made_later set d0 d1 c.args.nodes.now.made.items c.in_ok-any.ensures.keeps c.requires.made;
    }

pub loop-n-preserved : goal.loop-n-preserved
loop-n-preserved c =
    let set = c.args.self.now.set.now in
    let line = c.args.line in
    let n = c.loop-n.n in
    let start = c.args.nodes.now.dag in
    let low = (property_at set (property_of (line_of line))).length.low in
    let same : c.property_of-property.result.now.length.low ≡ low = ap (λ (y : Property). y.length.low) (c.property_of-property.ensures ∙ ap (property_at set) c.property.ensures) in
    let le : low ≤ n = omega (arith, same, c.loop-n.auto.n) in
    record {
      joined = joined_step start c.loop-n.nodes.dag c.at_end_node.new.nodes.dag c.either.new.dag c.loop-n.any c.in_ok-one.one c.in_ok-any-2.any
          (λ e. any_from low (n - low) (λ k. end_test set line k e)) (end_test set line n) (λ e. any_from low (n + 1 - low) (λ k. end_test set line k e)) (λ e. any_next low n (λ k. end_test set line k e) le) c.loop-n.invariant.joined c.in_ok-one.ensures.keeps c.in_ok-any-2.ensures.keeps c.in_ok-one.ensures.node c.in_ok-any-2.ensures.node;
      atoms = made_later set c.at_end_node.new.nodes.dag c.either.new.dag c.at_end_node.new.nodes.made.items c.in_ok-any-2.ensures.keeps c.in_ok-one.ensures.made;
    }
