use Rattle.std.proofs.Common.{◌≡◌, ◌-◌, ◌≤◌, not, Some, length, drop, sym, ap, ◌∙◌, subst, arith}
use Rattle.std.proofs.lemmas.List.{length-drop}
use Rattle.std.specs.Prelude.{◌&&◌}
use Rattle.std.proofs.lemmas.Result.{IfOk-weaker}
use Rattle.twin_tests_laws.specs.Tests.{any_from, ends_at}
use Rattle.set_tree.specs.declared.set.Property.{Property}
use Rattle.set_tree.specs.Formulas.{meaning_of}
use Rattle.set_tree.specs.Meaning.{holds}
use Rattle.set_tree.specs.Parts.{property_at}
use Rattle.twin_tests.specs.Building.{AreLeaves, Shows}
use Rattle.twin_tests.proofs.Ends.{until_end_at}
use Rattle.twin_tests.proofs.Loops.{same_test}
use Rattle.twin_tests.proofs.Readings.{reads_window, readable_more}
use Rattle.elab_step_expr.proofs.Kept.{keeps_then}
use Rattle.twin_tests.proofs.Standing.{leaves_drop, leaves_later, shows_drop, shows_later, tests_later}
use Rattle.twin_tests.proofs.twins.Twins.ends_node.Goals as goal

pub earlier_node-requires-clause-readable : goal.earlier_node-requires-clause-readable
earlier_node-requires-clause-readable c =
    (reads_window c.args.self.now.set.now c.args.at c.requires.structure c.requires.follows.0).until c.in-Some.until (ap (λ (y : Property). y.length.until) (sym c.property_of-property.ensures) ∙ c.in-Some.is)

pub test_node-requires-clause-readable : goal.test_node-requires-clause-readable
test_node-requires-clause-readable c =
    let set = c.args.self.now.set.now in
    let one = (reads_window set c.args.at c.requires.structure c.requires.follows.0).until c.in-Some.until (ap (λ (y : Property). y.length.until) (sym c.property_of-property.ensures) ∙ c.in-Some.is) in
    let span = c.requires.structure.sound.lengths c.args.at c.requires.follows.0 in
    let later : length (drop c.args.n c.args.rows.now) ≡ length c.args.rows.now - c.args.n = length-drop c.args.n c.args.rows.now in
    let some : 1 ≤ length (drop c.args.n c.args.rows.now) = omega (arith, later, span.fits, c.requires.most, c.requires.follows.1) in
    readable_more set 1 (length c.rows_after.result.now) c.in-Some.until (subst (λ z. 1 ≤ length z) (sym c.rows_after.ensures) some) one

pub test_node-requires-clause-leaves : goal.test_node-requires-clause-leaves
test_node-requires-clause-leaves c =
    let names = c.args.self.now.set.now.names in
    let d = c.negated.new.dag in
    let keeps = keeps_then c.args.dag.now c.earlier_node.new.dag d c.in_ok-earlier-in-Some.ensures.keeps c.in_ok-first-in-Some.ensures.keeps in
    subst (λ z. AreLeaves names d z) (sym c.rows_after.ensures) (leaves_drop names d c.args.rows.now c.args.n (leaves_later c.args.dag.now d names c.args.rows.now keeps c.requires.leaves))

pub returns-in_ok-here-in-Some-clause-keeps : goal.returns-in_ok-here-in-Some-clause-keeps
returns-in_ok-here-in-Some-clause-keeps c =
    IfOk-weaker c.both.result _ _ (λ i made.
    let one = c.negated.new.dag in
    let two = c.test_node.new.dag in
    let keeps = keeps_then c.args.dag.now c.earlier_node.new.dag one c.in_ok-earlier-in-Some.ensures.keeps c.in_ok-first-in-Some.ensures.keeps in
    keeps_then c.args.dag.now two c.both.new.dag (keeps_then c.args.dag.now one two keeps c.in_ok-here-in-Some.ensures.keeps) made) c.both.ensures.keeps

pub returns-in_ok-here-in-Some-clause-node : goal.returns-in_ok-here-in-Some-clause-node
returns-in_ok-here-in-Some-clause-node c =
    IfOk-weaker c.both.result _ _ (λ i made f shows.
    let m = meaning_of c.args.self.now.set.now in
    let set = c.args.self.now.set.now in
    let p = c.args.at in
    let n = c.args.n in
    let e = c.in-Some.until in
    let names = set.names in
    let rows = c.args.rows.now in
    let one = c.negated.new.dag in
    let two = c.test_node.new.dag in
    let low = c.property_of-property.result.now.length.low in
    let keeps = keeps_then c.args.dag.now c.earlier_node.new.dag one c.in_ok-earlier-in-Some.ensures.keeps c.in_ok-first-in-Some.ensures.keeps in
    let until : (property_at set p).length.until ≡ Some e = ap (λ (y : Property). y.length.until) (sym c.property_of-property.ensures) ∙ c.in-Some.is in
    let first = c.in_ok-first-in-Some.ensures.node (λ x. any_from low (n - low) (λ t. holds m e (drop t (f x)))) (c.in_ok-earlier-in-Some.ensures.node f shows) in
    let later = subst (λ z. Shows names one z (λ x. drop n (f x))) (sym c.rows_after.ensures) (shows_drop names one rows n f (shows_later c.args.dag.now one names rows f keeps shows)) in
    same_test c.both.new.dag i (λ x. not (any_from low (n - low) (λ t. holds m e (drop t (f x)))) && holds m e (drop n (f x))) (λ x. ends_at m set p n (f x))
    (λ x. until_end_at m (property_at set p).length (property_at set p).length.until e (f x) n low (ap (λ (y : Property). y.length.low) c.property_of-property.ensures) until c.requires.least c.requires.most)
    (made (λ x. not (any_from low (n - low) (λ t. holds m e (drop t (f x))))) (λ x. holds m e (drop n (f x)))
    (tests_later one two c.in_ok-first-in-Some.first (λ x. not (any_from low (n - low) (λ t. holds m e (drop t (f x))))) c.in_ok-here-in-Some.ensures.keeps first) (c.in_ok-here-in-Some.ensures.node (λ x. drop n (f x)) later))) c.both.ensures.node
