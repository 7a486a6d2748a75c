use Rattle.std.proofs.Common.{◌∷◌, sym, subst}
use Rattle.std.specs.Option.{option_copied}
use Rattle.vlog_tree_runs.specs.Blocks.{case_width, case_sign}
use Rattle.elab_step_blocks.specs.Cases.{each_labels}
use Rattle.elab_step_blocks.specs.Ready.{ArePlaced}
use Rattle.elab_step_blocks.proofs.Picking.{matches_bits, matches_tests}
use Rattle.elab_step_blocks.proofs.Storing.{set_kept}
use Rattle.elab_step_blocks.proofs.stores.case_tests.Goals as goal

pub item_tests-requires-clause-placed : goal.item_tests-requires-clause-placed
item_tests-requires-clause-placed c =
    let xs = each_labels c.args.case.items.now in
    let a = c.args.case.subject.now in
    subst (λ v. ArePlaced v (a ∷ xs) (case_width v a xs) (case_sign v a xs)) (sym c.seen-leaves.ensures.same) c.requires.placed

pub returns-clause-bits : goal.returns-clause-bits
returns-clause-bits c = matches_bits c.args.case.kind c.seen-leaves.result.now c.args.case.subject.now _ _ c.args.dag.now c.item_tests.new.dag c.args.case.items.now c.in_ok-tests.tests.items c.in_ok-tests.ensures.matches

pub returns-clause-tests : goal.returns-clause-tests
returns-clause-tests c =
    let xs = each_labels c.args.case.items.now in
    let a = c.args.case.subject.now in
    matches_tests (option_copied c.args.reads) c.args.case.kind a c.args.case.items.now c.args.state.now c.seen-leaves.result.now c.args.dag.now c.item_tests.new.dag c.args.case.items.now c.in_ok-tests.tests.items c.requires.set c.seen-leaves.ensures.value
    (subst (λ v. ArePlaced v (a ∷ xs) (case_width v a xs) (case_sign v a xs)) (sym c.seen-leaves.ensures.same) c.requires.placed) c.in_ok-tests.ensures.matches

pub returns-in_err-tests-clause-set : goal.returns-in_err-tests-clause-set
returns-in_err-tests-clause-set c = set_kept (option_copied c.args.reads) c.args.state.now c.args.dag.now c.item_tests.new.dag c.requires.set c.in_err-tests.ensures.keeps

pub returns-clause-set : goal.returns-clause-set
returns-clause-set c = set_kept (option_copied c.args.reads) c.args.state.now c.args.dag.now c.item_tests.new.dag c.requires.set c.in_ok-tests.ensures.keeps
