use Rattle.std.proofs.Common.{ℕ, ◌≡◌, ◌+◌, ◌-◌, ◌<◌, ◌≤◌, List, ◌∷◌, length, refl, sym, subst, ap, ◌∙◌, arith, rules}
use Rattle.std.specs.Prelude.{not}
use Rattle.std.specs.Option.{option_copied}
use Rattle.vlog_tree.specs.declared.stmt.CaseItem.{CaseItem}
use Rattle.vlog_tree.specs.declared.stmt.Stmt.{the_lemmas}
use Rattle.vlog_tree_runs.specs.Blocks.{is_default, run, seen, is_false, case_width, case_sign}
use Rattle.elab_step_expr.specs.Leaves.{declared, AreReady}
use Rattle.elab_step_expr.proofs.Kept.{keeps_same, keeps_then, ready_kept, node_kept, made_node, made_number}
use Rattle.elab_step_blocks.specs.Ready.{IsReadyStmt, EachReadyItem, ArePlaced}
use Rattle.elab_step_blocks.specs.Cases.{each_labels, case_test}
use Rattle.elab_step_blocks.specs.Standing.{flat}
use Rattle.elab_step_blocks.specs.declared.branches.Saved.{Saved}
use Rattle.elab_step_blocks.specs.Saving.{places_of, AreSaved, IsSaved, IsAway}
use Rattle.elab_step_blocks.specs.Sparing.{Covers, EachCovered}
use Rattle.elab_step_blocks.specs.Targets.{name_at}
use Rattle.elab_step_blocks.specs.Runs.{is_at_once, Runs, Branches, Guards, AreBits, AreTests, Chooses}
use Rattle.elab_step_blocks.proofs.Picking.{case_ready, case_runs, bits_kept, bits_long, bit_at, ready_item, picking_next, picking_skip, picking_end, covered_item, joined_chooses}
use Rattle.elab_step_blocks.proofs.Taking.{where_is, guard_runs, taking_start, taking_skip, taking_next, taking_end, apart_default, apart_none}
use Rattle.elab_step_blocks.proofs.Saving.{saved_own, saved_within, saved_is, back_ready, covers_same, each_same}
use Rattle.elab_step_blocks.proofs.Storing.{set_next, branch_is, choose_runs, runs_from, tests_kept, if_runs, if_else_runs, if_ready, if_else_ready, block_runs, runs_same, each_ready, running_at, running_end}
use Rattle.elab_step_blocks.proofs.blocks.+run.Goals as goal

pub branch-replaced-requires : goal.branch-replaced-requires
branch-replaced-requires t c = saved_within c.args.state.now c.args.fork.before.now c.args.dag.now c.requires.before

pub branch-run-requires : goal.branch-run-requires
branch-run-requires t c =
    let a = c.args.dag.now in
    let ms = c.args.state.now in
    let o = c.in_ok-others.ensures in (
      search (rules, the_lemmas),
      (
        set_next (option_copied c.args.reads) ms c.replaced.new.state a a c.requires.set (keeps_same a) (subst (λ z. AreReady z a) (sym o.given) (back_ready ms c.args.fork.before.now a c.requires.set.ready c.requires.before)) o.same,
        subst (λ v. IsReadyStmt v c.args.body.now) (sym o.same) c.requires.stmt,
      ),
    )

pub branch-join-requires-clause-others : goal.branch-join-requires-clause-others
branch-join-requires-clause-others t c =
    let o = c.in_ok-others.ensures in
    let r = c.in_ok-run.ensures in
    let ms = c.args.state.now in
    let a = c.args.dag.now in
    let ss = c.args.fork.before.now in
    subst (λ (z : List Saved). AreSaved c.run.new.state z c.run.new.dag) (sym (c.deref.ensures.value ∙ o.taken))
    (saved_own ms c.run.new.state (places_of ss) c.run.new.dag (r.same ∙ o.same) (saved_within ms ss a c.requires.before) (ready_kept ms a c.run.new.dag r.keeps c.requires.set.ready))

pub branch-returns-clause-set : goal.branch-returns-clause-set
branch-returns-clause-set t c =
    let o = c.in_ok-others.ensures in
    let r = c.in_ok-run.ensures in
    let j = c.in_ok-join.ensures in
    set_next (option_copied c.args.reads) c.args.state.now c.join.new.state c.args.dag.now c.join.new.dag c.requires.set (keeps_then c.args.dag.now c.run.new.dag c.join.new.dag r.keeps j.keeps) j.ready (j.same ∙ r.same ∙ o.same)

pub branch-returns-clause-branches : goal.branch-returns-clause-branches
branch-returns-clause-branches t c =
    let o = c.in_ok-others.ensures in
    let r = c.in_ok-run.ensures in
    let j = c.in_ok-join.ensures in
    let reads = option_copied c.args.reads in
    branch_is reads c.args.body.now c.args.fork.test c.args.fork.before.now c.deref.result.now c.args.state.now c.replaced.new.state c.run.new.state c.join.new.state c.args.dag.now c.run.new.dag c.join.new.dag
    c.requires.set c.requires.covers c.requires.test o.given (c.deref.ensures.value ∙ o.taken) r.keeps r.runs (r.same ∙ o.same) j.joins

pub run-part-requires : goal.run-part-requires
run-part-requires t c = (if_ready (declared c.args.state.now) c.in-If.condition c.in-If.body c.args.stmt.now c.in-If.is c.requires.stmt).1

pub run-condition_node-requires-clause-single : goal.run-condition_node-requires-clause-single
run-condition_node-requires-clause-single t c = (if_ready (declared c.args.state.now) c.in-If.condition c.in-If.body c.args.stmt.now c.in-If.is c.requires.stmt).0

pub run-part-body-requires : goal.run-part-body-requires
run-part-body-requires t c = (if_else_ready (declared c.args.state.now) c.in-IfElse.condition c.in-IfElse.body c.in-IfElse.other c.args.stmt.now c.in-IfElse.is c.requires.stmt).1

pub run-part-other-requires : goal.run-part-other-requires
run-part-other-requires t c = (if_else_ready (declared c.args.state.now) c.in-IfElse.condition c.in-IfElse.body c.in-IfElse.other c.args.stmt.now c.in-IfElse.is c.requires.stmt).2

pub run-condition_node-requires-in-IfElse-clause-single : goal.run-condition_node-requires-in-IfElse-clause-single
run-condition_node-requires-in-IfElse-clause-single t c = (if_else_ready (declared c.args.state.now) c.in-IfElse.condition c.in-IfElse.body c.in-IfElse.other c.args.stmt.now c.in-IfElse.is c.requires.stmt).0

pub run_row-one-requires : goal.run_row-one-requires
run_row-one-requires t c =
    let lt : c.loop-stmt.stmt-index < length c.args.stmts.now = omega (arith, c.loop-stmt-test.true, c.loop-stmt.auto.stmt-index-end) in
    subst (λ v. IsReadyStmt v c.stmt-item.result) (sym c.loop-stmt.invariant.same) (each_ready (declared c.args.state.now) c.args.stmts.now c.loop-stmt.stmt-index c.stmt-item.result _ c.requires.stmts lt c.stmt-item.is)

pub run_row-loop-stmt-preserved : goal.run_row-loop-stmt-preserved
run_row-loop-stmt-preserved t c =
    let lt : c.loop-stmt.stmt-index < length c.args.stmts.now = omega (arith, c.loop-stmt-test.true, c.loop-stmt.auto.stmt-index-end) in
    let r = c.in_ok-run.ensures in
    running_at (option_copied c.args.reads) c.args.stmts.now c.loop-stmt.stmt-index c.stmt-item.result c.one.result.now _ c.args.state.now c.loop-stmt.state c.run.new.state c.args.dag.now c.loop-stmt.dag c.run.new.dag
    lt c.stmt-item.is c.one.ensures.same c.requires.set c.loop-stmt.invariant r.keeps r.set r.same r.runs

pub run_row-returns-clause-runs : goal.run_row-returns-clause-runs
run_row-returns-clause-runs t c =
    let le : length c.args.stmts.now ≤ c.loop-stmt.stmt-index = omega (arith, c.loop-stmt-test.false, c.loop-stmt.auto.stmt-index-end) in
    running_end (option_copied c.args.reads) c.args.stmts.now c.loop-stmt.stmt-index c.args.state.now c.loop-stmt.state c.args.dag.now c.loop-stmt.dag le c.loop-stmt.invariant

pub run-returns-in_ok-run_row-in-Block-clause-runs : goal.run-returns-in_ok-run_row-in-Block-clause-runs
run-returns-in_ok-run_row-in-Block-clause-runs t c =
    let reads = option_copied c.args.reads in
    runs_same reads _ _ c.args.state.now c.run_row.new.state c.args.dag.now c.run_row.new.dag
    (λ gs p q x. block_runs (is_at_once reads) (flat gs) _ _ c.statements.result.now c.args.stmt.now p q x c.in-Block.is c.statements.ensures.same) c.in_ok-run_row-in-Block.ensures.runs

pub run-branch-dag-requires : goal.run-branch-dag-requires
run-branch-dag-requires t c =
    let ms = c.args.state.now in
    let os = c.run.new.state in
    let d = c.condition_node-in-IfElse.new.dag in
    let f = c.run.new.dag in
    let n = c.in_ok-test-in-IfElse.ensures in
    let r = c.in_ok-run-in-IfElse.ensures in
    let w = c.in_ok-before-in-IfElse.ensures in
    let ss = c.in_ok-before-in-IfElse.before.items in
    let is = sym c.deref.ensures.value in
    let body = c.part-body.result.now in (
      search (rules, the_lemmas),
      (
        r.set,
        (
          subst (λ (z : List Saved). AreSaved os z f) is (saved_is ms os ss f r.same w.saved (ready_kept ms d f r.keeps n.set.ready)),
          (
            subst (λ (z : List Saved). Covers os z body) is (covers_same ms os ss body r.same w.one),
            (
              node_kept d f c.in_ok-test-in-IfElse.test 1 r.keeps n.node,
              subst (λ v. IsReadyStmt v body) (sym r.same) c.part-body.ensures.ready,
            ),
          ),
        ),
      ),
    )

pub run-returns-in_ok-branch-in-IfElse-clause-runs : goal.run-returns-in_ok-branch-in-IfElse-clause-runs
run-returns-in_ok-branch-in-IfElse-clause-runs t c =
    let reads = option_copied c.args.reads in
    let ms = c.args.state.now in
    let a = c.args.dag.now in
    let d = c.condition_node-in-IfElse.new.dag in
    let f = c.run.new.dag in
    let os = c.run.new.state in
    let k = c.branch-dag.new.dag in
    let ks = c.branch-dag.new.state in
    let cond = c.in-IfElse.condition in
    let n = c.in_ok-test-in-IfElse.ensures in
    let r = c.in_ok-run-in-IfElse.ensures in
    let w = c.in_ok-before-in-IfElse.ensures in
    let held = c.deref.result.now in
    let b = subst (λ z. Branches reads z c.in_ok-test-in-IfElse.test held os f ks k) c.part-body.ensures.same c.in_ok-branch-in-IfElse.ensures.branches in
    let others = subst (λ z. Runs reads (λ gs. run (is_at_once reads) (flat gs) z) ms d os f) c.part-other.ensures.same r.runs in
    if_else_runs reads cond c.in-IfElse.body c.in-IfElse.other c.args.stmt.now ms ks a k c.in-IfElse.is
    (choose_runs reads c.in-IfElse.body (λ gs p q. not (is_false (flat gs) (seen (is_at_once reads) p q) cond)) (λ gs. run (is_at_once reads) (flat gs) c.in-IfElse.other) ms os ks held a f k c.in_ok-test-in-IfElse.test c.requires.set (keeps_then a d f n.keeps r.keeps)
    (subst (λ (z : List Saved). IsSaved ms z) (sym c.deref.ensures.value) w.saved) r.same
    (λ gs p q i leaves lt away.
    subst (λ z. run (is_at_once reads) (flat gs) z p q (name_at ms i) ≡ q (name_at ms i)) c.part-other.ensures.same (w.other i lt (subst (λ (z : List Saved). IsAway z i) c.deref.ensures.value away) gs (is_at_once reads) p q leaves))
    (tests_kept reads _ ms a d f c.in_ok-test-in-IfElse.test n.node r.keeps n.tests)
    (runs_from reads (λ gs. run (is_at_once reads) (flat gs) c.in-IfElse.other) ms os a d f c.requires.set n.keeps others) b)

pub run-case_tests-requires-clause-placed : goal.run-case_tests-requires-clause-placed
run-case_tests-requires-clause-placed t c =
    let v = declared c.args.state.now in
    let a = c.in-Case.subject in
    subst (λ (xs : List CaseItem). ArePlaced v (a ∷ each_labels xs) (case_width v a (each_labels xs)) (case_sign v a (each_labels xs))) (sym c.listed-items.ensures.same) (case_ready v c.in-Case.kind a c.in-Case.items c.args.stmt.now c.in-Case.is c.requires.stmt).0

pub run-listed-items-requires : goal.run-listed-items-requires
run-listed-items-requires t c = (case_ready (declared c.args.state.now) c.in-Case.kind c.in-Case.subject c.in-Case.items c.args.stmt.now c.in-Case.is c.requires.stmt).1

pub run_default-body-requires : goal.run_default-body-requires
run_default-body-requires t c =
    let lt : c.default_at-at.result < length c.args.items.now = omega (arith, c.if-at-items.true) in
    ready_item (declared c.args.state.now) c.args.items.now c.default_at-at.result c.index-items-at.result _ c.requires.items lt c.index-items-at.is

pub run_items-branch-dag-requires : goal.run_items-branch-dag-requires
run_items-branch-dag-requires t c =
    let h = c.loop-left.invariant in
    let ms = c.args.state.now in
    let os = c.loop-left.state in
    let items = c.args.items.now in
    let ss = c.args.forks.before.now in
    let k = c.loop-left.left - 1 in
    let x = c.index-items-left.result in
    let lt : k < length items = omega (arith, h.within, c.loop-left-test.true) in (
      search (rules, the_lemmas),
      (
        h.set,
        (
          h.nodes,
          (
            covered_item ms os ss items k x _ h.same c.requires.covers lt c.index-items-left.is,
            (
              bit_at items c.args.forks.tests.now c.loop-left.dag k 0 h.bits lt,
              ready_item (declared os) items k x _ h.items_ready lt c.index-items-left.is,
            ),
          ),
        ),
      ),
    )

pub run_items-bounds-forks-left : goal.run_items-bounds-forks-left
run_items-bounds-forks-left t c =
    let h = c.loop-left.invariant in
    let long = bits_long c.args.items.now c.args.forks.tests.now c.loop-left.dag h.bits in
    omega (arith, long, h.within, c.loop-left-test.true)

pub run_items-loop-left-preserved-then-is_default : goal.run_items-loop-left-preserved-then-is_default
run_items-loop-left-preserved-then-is_default t c =
    let is : c.loop-left.left ≡ c.loop-left.left - 1 + 1 = omega (arith, c.loop-left-test.true) in
    picking_skip (option_copied c.args.reads) c.args.items.now c.args.forks.tests.now c.args.forks.before.now c.args.state.now c.loop-left.state c.args.dag.now c.loop-left.dag
    c.loop-left.left (c.loop-left.left - 1) c.index-items-left.result is c.requires.tests c.loop-left.invariant
    (ap (λ (i : CaseItem). is_default i.labels) (sym c.index-items-left.is) ∙ (sym c.is_default.ensures ∙ c.if-is_default.true))

pub run_items-loop-left-preserved : goal.run_items-loop-left-preserved
run_items-loop-left-preserved t c =
    let r = c.in_ok-branch.ensures in
    let before = c.args.forks.before.now in
    let is : c.loop-left.left ≡ c.loop-left.left - 1 + 1 = omega (arith, c.loop-left-test.true) in
    picking_next (option_copied c.args.reads) c.args.items.now c.args.forks.tests.now before before c.args.state.now c.loop-left.state c.branch-dag.new.state c.args.dag.now c.loop-left.dag c.branch-dag.new.dag
    c.loop-left.left (c.loop-left.left - 1) _ c.index-items-left.result c.index-items-left.result.body is c.requires.set c.requires.before c.requires.covers c.requires.tests c.loop-left.invariant
    (ap (λ (i : CaseItem). is_default i.labels) (sym c.index-items-left.is) ∙ (sym c.is_default.ensures ∙ c.if-is_default.false))
    (ap (λ (i : CaseItem). i.body) c.index-items-left.is) refl refl r.keeps r.same r.set r.branches

pub run_items-returns-clause-picks : goal.run_items-returns-clause-picks
run_items-returns-clause-picks t c =
    let none : c.loop-left.left ≡ 0 = omega (arith, c.loop-left-test.false) in
    picking_end (option_copied c.args.reads) c.args.items.now c.args.forks.tests.now c.args.forks.before.now c.args.state.now c.loop-left.state c.args.dag.now c.loop-left.dag c.loop-left.left none c.loop-left.invariant

-- ---- what is kept at each exit

pub run-returns-in_err-run-in-IfElse-clause-keeps : goal.run-returns-in_err-run-in-IfElse-clause-keeps
run-returns-in_err-run-in-IfElse-clause-keeps t c = keeps_then c.args.dag.now c.condition_node-in-IfElse.new.dag c.run.new.dag c.in_ok-test-in-IfElse.ensures.keeps c.run.ensures.keeps

pub run-returns-in_err-branch-in-IfElse-clause-keeps : goal.run-returns-in_err-branch-in-IfElse-clause-keeps
run-returns-in_err-branch-in-IfElse-clause-keeps t c = keeps_then c.args.dag.now c.run.new.dag c.branch-dag.new.dag (keeps_then c.args.dag.now c.condition_node-in-IfElse.new.dag c.run.new.dag c.in_ok-test-in-IfElse.ensures.keeps c.in_ok-run-in-IfElse.ensures.keeps) c.branch-dag.ensures.keeps

pub run-returns-in_err-branch-in-IfElse-clause-same : goal.run-returns-in_err-branch-in-IfElse-clause-same
run-returns-in_err-branch-in-IfElse-clause-same t c = c.branch-dag.ensures.same ∙ c.in_ok-run-in-IfElse.ensures.same

pub run-returns-in_ok-branch-in-IfElse-clause-keeps : goal.run-returns-in_ok-branch-in-IfElse-clause-keeps
run-returns-in_ok-branch-in-IfElse-clause-keeps t c = keeps_then c.args.dag.now c.run.new.dag c.branch-dag.new.dag (keeps_then c.args.dag.now c.condition_node-in-IfElse.new.dag c.run.new.dag c.in_ok-test-in-IfElse.ensures.keeps c.in_ok-run-in-IfElse.ensures.keeps) c.in_ok-branch-in-IfElse.ensures.keeps

pub run-returns-in_ok-branch-in-IfElse-clause-same : goal.run-returns-in_ok-branch-in-IfElse-clause-same
run-returns-in_ok-branch-in-IfElse-clause-same t c = c.in_ok-branch-in-IfElse.ensures.same ∙ c.in_ok-run-in-IfElse.ensures.same

pub branch-returns-in_err-others-clause-keeps : goal.branch-returns-in_err-others-clause-keeps
branch-returns-in_err-others-clause-keeps t c = keeps_same c.args.dag.now

pub branch-returns-in_err-run-clause-same : goal.branch-returns-in_err-run-clause-same
branch-returns-in_err-run-clause-same t c = c.run.ensures.same ∙ c.in_ok-others.ensures.same

pub branch-returns-in_err-join-clause-keeps : goal.branch-returns-in_err-join-clause-keeps
branch-returns-in_err-join-clause-keeps t c = keeps_then c.args.dag.now c.run.new.dag c.join.new.dag c.in_ok-run.ensures.keeps c.join.ensures.keeps

pub branch-returns-in_err-join-clause-same : goal.branch-returns-in_err-join-clause-same
branch-returns-in_err-join-clause-same t c = c.join.ensures.same ∙ c.in_ok-run.ensures.same ∙ c.in_ok-others.ensures.same

pub branch-returns-clause-keeps : goal.branch-returns-clause-keeps
branch-returns-clause-keeps t c = keeps_then c.args.dag.now c.run.new.dag c.join.new.dag c.in_ok-run.ensures.keeps c.in_ok-join.ensures.keeps

pub branch-returns-clause-same : goal.branch-returns-clause-same
branch-returns-clause-same t c = c.in_ok-join.ensures.same ∙ c.in_ok-run.ensures.same ∙ c.in_ok-others.ensures.same

pub run_row-returns-in_err-run-clause-keeps : goal.run_row-returns-in_err-run-clause-keeps
run_row-returns-in_err-run-clause-keeps t c = keeps_then c.args.dag.now c.loop-stmt.dag c.run.new.dag c.loop-stmt.invariant.keeps c.run.ensures.keeps

pub run_row-returns-in_err-run-clause-same : goal.run_row-returns-in_err-run-clause-same
run_row-returns-in_err-run-clause-same t c = c.run.ensures.same ∙ c.loop-stmt.invariant.same

pub run_items-returns-in_err-branch-clause-keeps : goal.run_items-returns-in_err-branch-clause-keeps
run_items-returns-in_err-branch-clause-keeps t c = keeps_then c.args.dag.now c.loop-left.dag c.branch-dag.new.dag c.loop-left.invariant.keeps c.branch-dag.ensures.keeps

pub run_items-returns-in_err-branch-clause-same : goal.run_items-returns-in_err-branch-clause-same
run_items-returns-in_err-branch-clause-same t c = c.branch-dag.ensures.same ∙ c.loop-left.invariant.same

pub run_where-branch-dag-requires : goal.run_where-branch-dag-requires
run_where-branch-dag-requires t c =
    let ms = c.args.state.now in
    let a = c.args.dag.now in
    let ss = c.in_ok-before.before.items in
    let is = sym c.deref.ensures.value in (
      search (rules, the_lemmas),
      (
        c.requires.set,
        (
          subst (λ (z : List Saved). AreSaved ms z a) is (saved_is ms ms ss a refl c.in_ok-before.ensures.saved c.requires.set.ready),
          (
            subst (λ (z : List Saved). Covers ms z c.args.body.now) is c.in_ok-before.ensures.covers,
            (c.requires.test, c.requires.stmt),
          ),
        ),
      ),
    )

pub run_where-returns-clause-guards : goal.run_where-returns-clause-guards
run_where-returns-clause-guards t c =
    let ms = c.args.state.now in
    let before = c.deref.result.now in
    where_is (option_copied c.args.reads) c.args.body.now c.args.test before ms c.branch-dag.new.state c.args.dag.now c.branch-dag.new.dag
    (subst (λ (z : List Saved). IsSaved ms z) (sym c.deref.ensures.value) c.in_ok-before.ensures.saved) c.in_ok-branch.ensures.branches

-- ---- an `if`

pub run-returns-in_ok-run_where-in-If-clause-runs : goal.run-returns-in_ok-run_where-in-If-clause-runs
run-returns-in_ok-run_where-in-If-clause-runs t c =
    let reads = option_copied c.args.reads in
    let ms = c.args.state.now in
    let a = c.args.dag.now in
    let d = c.condition_node.new.dag in
    let k = c.run_where.new.dag in
    let ks = c.run_where.new.state in
    let cond = c.in-If.condition in
    let n = c.in_ok-test-in-If.ensures in
    if_runs reads cond c.in-If.body c.args.stmt.now ms ks a k c.in-If.is
    (guard_runs reads c.in-If.body (λ gs p q. not (is_false (flat gs) (seen (is_at_once reads) p q) cond)) ms ks a d k c.in_ok-test-in-If.test c.requires.set n.keeps n.tests
    (subst (λ z. Guards reads z c.in_ok-test-in-If.test ms d ks k) c.part.ensures.same c.in_ok-run_where-in-If.ensures.guards))

-- ---- a case statement

pub run_joined-run_items-requires : goal.run_joined-run_items-requires
run_joined-run_items-requires t c =
    let ms = c.args.state.now in
    let os = c.run_default.new.state in
    let a = c.args.dag.now in
    let d = c.run_default.new.dag in
    let items = c.args.items.now in
    let ss = c.in_ok-before.before.items in
    let r = c.in_ok-run_default.ensures in
    let is = sym c.deref.ensures.value in (
      search (rules, the_lemmas),
      (
        r.set,
        (
          subst (λ v. EachReadyItem v items) (sym r.same) c.requires.items,
          (
            bits_kept a d items c.args.tests.now r.keeps c.requires.tests,
            (
              subst (λ (z : List Saved). AreSaved os z d) is (saved_is ms os ss d r.same c.in_ok-before.ensures.saved (ready_kept ms a d r.keeps c.requires.set.ready)),
              subst (λ (z : List Saved). EachCovered os z items) is (each_same ms os ss items r.same c.in_ok-before.ensures.covers),
            ),
          ),
        ),
      ),
    )

pub run_joined-returns-clause-chooses : goal.run_joined-returns-clause-chooses
run_joined-returns-clause-chooses t c =
    let ms = c.args.state.now in
    let before = c.deref.result.now in
    let is = c.deref.ensures.value in
    let r = c.in_ok-run_default.ensures in
    let w = c.in_ok-before.ensures in
    joined_chooses (option_copied c.args.reads) c.args.items.now c.args.tests.now before ms c.run_default.new.state c.run_items.new.state c.args.dag.now c.run_default.new.dag c.run_items.new.dag c.requires.set r.keeps
    (subst (λ (z : List Saved). IsSaved ms z) (sym is) w.saved) (λ i lt away. w.covers i lt (subst (λ (z : List Saved). IsAway z i) is away)) r.same c.requires.tests r.runs c.in_ok-run_items.ensures.picks

pub run_each-body-stmt-requires : goal.run_each-body-stmt-requires
run_each-body-stmt-requires t c =
    let lt : c.loop-at.at < length c.args.items.now = omega (arith, c.loop-at-test.true) in
    ready_item (declared c.loop-at.state) c.args.items.now c.loop-at.at c.index-items-at.result _ c.loop-at.invariant.items_ready lt c.index-items-at.is

pub run_each-bounds-tests-at : goal.run_each-bounds-tests-at
run_each-bounds-tests-at t c =
    let long = bits_long c.args.items.now c.args.tests.now c.loop-at.dag c.loop-at.invariant.bits in
    omega (arith, long, c.loop-at-test.true)

pub run_each-first_of-requires-clause-test : goal.run_each-first_of-requires-clause-test
run_each-first_of-requires-clause-test t c =
    let lt : c.loop-at.at < length c.args.items.now = omega (arith, c.loop-at-test.true) in
    bit_at c.args.items.now c.args.tests.now c.loop-at.dag c.loop-at.at 0 c.loop-at.invariant.bits lt

pub run_each-or_matched-requires-clause-test : goal.run_each-or_matched-requires-clause-test
run_each-or_matched-requires-clause-test t c =
    let lt : c.loop-at.at < length c.args.items.now = omega (arith, c.loop-at-test.true) in
    let keeps = keeps_then c.loop-at.dag c.first_of.new.dag c.run_where.new.dag c.in_ok-first.ensures.keeps c.in_ok-run_where.ensures.keeps in
    node_kept c.loop-at.dag c.run_where.new.dag _ 1 keeps (bit_at c.args.items.now c.args.tests.now c.loop-at.dag c.loop-at.at 0 c.loop-at.invariant.bits lt)

pub run_each-loop-at-init : goal.run_each-loop-at-init
run_each-loop-at-init t c =
    let m = c.in_ok-matched.ensures in
    let b = c.constant.new.dag in
    taking_start (option_copied c.args.reads) c.args.items.now c.args.tests.now c.in_ok-matched.matched c.args.state.now c.args.dag.now b c.requires.set m.keeps
    (made_node b c.in_ok-matched.matched 1 _ m.makes) (λ e. made_number e b c.in_ok-matched.matched 1 _ m.makes) c.requires.tests c.requires.items

pub run_each-loop-at-preserved-then-is_default : goal.run_each-loop-at-preserved-then-is_default
run_each-loop-at-preserved-then-is_default t c =
    let lt : c.loop-at.at < length c.args.items.now = omega (arith, c.loop-at-test.true) in
    taking_skip (option_copied c.args.reads) c.args.items.now c.args.tests.now c.loop-at.matched c.args.state.now c.loop-at.state c.args.dag.now c.loop-at.dag c.loop-at.at c.index-items-at.result lt c.requires.tests
    (ap (λ (i : CaseItem). is_default i.labels) (sym c.index-items-at.is) ∙ (sym c.is_default.ensures ∙ c.if-is_default.true)) c.loop-at.invariant

pub run_each-loop-at-preserved : goal.run_each-loop-at-preserved
run_each-loop-at-preserved t c =
    let lt : c.loop-at.at < length c.args.items.now = omega (arith, c.loop-at-test.true) in
    let f = c.in_ok-first.ensures in
    let r = c.in_ok-run_where.ensures in
    let m = c.in_ok-matched-2.ensures in
    taking_next (option_copied c.args.reads) c.args.items.now c.args.tests.now c.loop-at.matched c.in_ok-first.first c.in_ok-matched-2.matched _ c.args.state.now c.loop-at.state c.run_where.new.state
    c.args.dag.now c.loop-at.dag c.first_of.new.dag c.run_where.new.dag c.or_matched.new.dag c.loop-at.at c.index-items-at.result c.body-stmt.result.now lt c.requires.set c.requires.tests c.loop-at.invariant
    (ap (λ (i : CaseItem). is_default i.labels) (sym c.index-items-at.is) ∙ (sym c.is_default.ensures ∙ c.if-is_default.false))
    (c.body-stmt.ensures.same ∙ ap (λ (i : CaseItem). i.body) c.index-items-at.is) refl
    f.keeps f.node f.number r.keeps r.same r.set r.guards m.keeps m.node m.number

pub run_each-returns-clause-takes : goal.run_each-returns-clause-takes
run_each-returns-clause-takes t c =
    let le : length c.args.items.now ≤ c.loop-at.at = omega (arith, c.loop-at-test.false) in
    taking_end (option_copied c.args.reads) c.args.items.now c.args.tests.now c.loop-at.matched c.args.state.now c.loop-at.state c.args.dag.now c.loop-at.dag c.loop-at.at le c.loop-at.invariant

pub run_apart-body-stmt-requires : goal.run_apart-body-stmt-requires
run_apart-body-stmt-requires t c =
    let lt : c.default_at-at.result < length c.args.items.now = omega (arith, c.if-at-items.true) in
    ready_item (declared c.run_each.new.state) c.args.items.now c.default_at-at.result c.index-items-at.result _ (subst (λ v. EachReadyItem v c.args.items.now) (sym c.in_ok-matched.ensures.same) c.requires.items) lt c.index-items-at.is

pub run-returns-in_ok-run_chosen-in-Case-clause-runs : goal.run-returns-in_ok-run_chosen-in-Case-clause-runs
run-returns-in_ok-run_chosen-in-Case-clause-runs t c =
    let reads = option_copied c.args.reads in
    let o = is_at_once reads in
    let ms = c.args.state.now in
    let b = c.case_tests.new.dag in
    let ks = c.run_chosen.new.state in
    let k = c.run_chosen.new.dag in
    let kind = c.in-Case.kind in
    let subject = c.in-Case.subject in
    let items = c.in-Case.items in
    let zs = c.in_ok-tests-in-Case.tests.items in
    let n = c.in_ok-tests-in-Case.ensures in
    let same = c.listed-items.ensures.same in
    case_runs reads kind subject items c.args.stmt.now zs ms ks c.args.dag.now b k c.in-Case.is c.requires.set n.keeps
    (subst (λ (xs : List CaseItem). AreBits xs zs b) same n.bits)
    (subst (λ (xs : List CaseItem). AreTests reads (λ gs. case_test o (flat gs) kind subject xs) ms c.args.dag.now b xs zs) same n.tests)
    (subst (λ (ys : List ℕ). Chooses reads items ys ms b ks k) c.deref-in-Case.ensures.value
    (subst (λ (xs : List CaseItem). Chooses reads xs c.deref-in-Case.result.now ms b ks k) same c.in_ok-run_chosen-in-Case.ensures.chooses))

pub run_apart-returns-in_ok-run_where-clause-chooses : goal.run_apart-returns-in_ok-run_where-clause-chooses
run_apart-returns-in_ok-run_where-clause-chooses t c =
    let lt : c.default_at-at.result < length c.args.items.now = omega (arith, c.if-at-items.true) in
    let m = c.in_ok-matched.ensures in
    let u = c.in_ok-rest.ensures in
    apart_default (option_copied c.args.reads) c.args.items.now c.args.tests.now c.in_ok-matched.matched c.in_ok-rest.rest c.args.state.now c.run_each.new.state c.run_where.new.state c.args.dag.now c.run_each.new.dag c.unmatched.new.dag c.run_where.new.dag
    c.default_at-at.result c.index-items-at.result c.body-stmt.result.now c.requires.set m.set m.keeps m.same m.takes c.default_at-at.ensures lt (c.body-stmt.ensures.same ∙ ap (λ (i : CaseItem). i.body) c.index-items-at.is) u.keeps u.number c.in_ok-run_where.ensures.guards

pub run_apart-returns-else-at-items-clause-chooses : goal.run_apart-returns-else-at-items-clause-chooses
run_apart-returns-else-at-items-clause-chooses t c =
    let le : length c.args.items.now ≤ c.default_at-at.result = omega (arith, c.if-at-items.false) in
    apart_none (option_copied c.args.reads) c.args.items.now c.args.tests.now c.in_ok-matched.matched c.args.state.now c.run_each.new.state c.args.dag.now c.run_each.new.dag c.default_at-at.result c.in_ok-matched.ensures.takes c.default_at-at.ensures le
