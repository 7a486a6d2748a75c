use Rattle.std.proofs.Common.{◌≡◌, ◌<◌, ◌↔◌, [], ◌∷◌, ℕ, List, take, length, map, inl, inr, sym, ap, ◌∙◌, subst, arith, rules}
use Rattle.vlog_tree_runs.specs.Places.{Among}
use Rattle.vlog_tree.specs.declared.expr.Expr.{Expr}
use Rattle.vlog_tree.specs.declared.stmt.CaseItem.{CaseItem}
use Rattle.vlog_tree.specs.declared.stmt.Stmt.{the_lemmas}
use Rattle.elab_flat_drivers.proofs.Growing.{ok_then}
use Rattle.elab_step_flow.specs.Assigned.{IsAssigned, assigned_in}
use Rattle.elab_step_flow.specs.Branches.{AreInside, SpotsAdded, PutTo, AnyAssigned}
use Rattle.elab_step_flow.specs.Cases.{at_rest, expr_meant, labels_of, IsComparable}
use Rattle.elab_step_flow.specs.Passes.{EnterTo}
use Rattle.elab_step_flow.specs.Ready.{IsReady, EachReady, EachItemReady}
use Rattle.elab_step_flow.specs.Sets.{tables}
use Rattle.elab_step_flow.proofs.Assigning.{any_within}
use Rattle.elab_step_flow.proofs.Listing.{among_at}
use Rattle.elab_step_flow.proofs.Blocks.{block_ready, if_ready, if_else_ready, case_ready, each_ready, item_ready, block_passes, passing_next}
use Rattle.elab_step_flow.proofs.Branching.{changes_more, changes_wider, branched, put_is}
use Rattle.elab_step_flow.proofs.Closing.{if_inside_done, if_done, if_done_changes, if_else_inside_done, if_else_done, if_else_done_changes, case_inside_done, case_done, case_done_changes, gathering_next}
use Rattle.elab_step_flow.proofs.Edging.{Row}
use Rattle.elab_step_flow.proofs.Ending.{block_assigns}
use Rattle.elab_step_flow.proofs.pass.+pass.Goals as goal

pub pass-pass_row-requires : goal.pass-pass_row-requires
pass-pass_row-requires t c = (
  search (rules, the_lemmas),
  (c.requires.distinct, (c.requires.narrow, (subst (EachReady c.args.scope.now) (sym c.as_slice.ensures) (block_ready c.args.scope.now _ c.in-Block.stmts c.args.stmt.now c.in-Block.is c.requires.ready), search rules))),
)

pub pass-pass_branch-requires : goal.pass-pass_branch-requires
pass-pass_branch-requires t c = (
  search (rules, the_lemmas),
  (c.requires.distinct, (c.requires.narrow, (subst (IsReady c.args.scope.now) (sym c.get-body.ensures) (if_ready c.args.scope.now c.in-If.test c.in-If.body c.args.stmt.now c.in-If.is c.requires.ready), search rules))),
)

pub pass-pass_branch-requires-in-IfElse : goal.pass-pass_branch-requires-in-IfElse
pass-pass_branch-requires-in-IfElse t c = (
  search (rules, the_lemmas),
  (c.requires.distinct, (c.requires.narrow, (subst (IsReady c.args.scope.now) (sym c.get-body-in-IfElse.ensures) (if_else_ready c.args.scope.now c.in-IfElse.test c.in-IfElse.body c.in-IfElse.other c.args.stmt.now c.in-IfElse.is c.requires.ready).0, search rules))),
)

pub pass-pass_branch-requires-in-IfElse-2 : goal.pass-pass_branch-requires-in-IfElse-2
pass-pass_branch-requires-in-IfElse-2 t c = (
  search (rules, the_lemmas),
  (c.requires.distinct, (c.requires.narrow, (subst (IsReady c.args.scope.now) (sym c.get-other.ensures) (if_else_ready c.args.scope.now c.in-IfElse.test c.in-IfElse.body c.in-IfElse.other c.args.stmt.now c.in-IfElse.is c.requires.ready).1, search rules))),
)

pub pass-pass_items-requires : goal.pass-pass_items-requires
pass-pass_items-requires t c =
    let is = c.in-Case.is in
    let same = c.as_slice-items.ensures in (
      (let d = c.decreases in rw same (first_of (search (rules, the_lemmas), search (rules, the_lemmas, d, is), grind (arith, the_lemmas, d, is), omega (arith, the_lemmas, d, is)))),
      (c.requires.distinct, (c.requires.narrow, (subst (EachItemReady c.args.scope.now) (sym same) (case_ready c.args.scope.now c.in-Case.kind c.in-Case.subject c.in-Case.items c.args.stmt.now is c.requires.ready).1, (search rules, (search rules, search rules))))),
    )

pub pass-branches-requires-clause-ready : goal.pass-branches-requires-clause-ready
pass-branches-requires-clause-ready t c =
    let gs = c.args.scope.now in
    subst (λ (xs : List CaseItem). IsComparable (at_rest gs) c.in-Case.subject (labels_of xs)) (sym c.as_slice-items.ensures) (case_ready gs c.in-Case.kind c.in-Case.subject c.in-Case.items c.args.stmt.now c.in-Case.is c.requires.ready).0

pub pass-returns-in-Block-clause-passes : goal.pass-returns-in-Block-clause-passes
pass-returns-in-Block-clause-passes t c =
    ok_then c.pass_row.result _ _ c.pass_row.ensures.passes
    (λ h. block_passes c.args.scope.now c.args.around.now _ c.in-Block.stmts c.as_slice.result.now c.args.stmt.now (tables c.args.flow.now) (tables c.pass_row.new.flow) c.in-Block.is c.as_slice.ensures h)

pub pass-returns-in-Block-clause-changes : goal.pass-returns-in-Block-clause-changes
pass-returns-in-Block-clause-changes t c =
    ok_then c.pass_row.result _ _ c.pass_row.ensures.changes
    (λ h. changes_wider _ _ (tables c.args.flow.now) (tables c.pass_row.new.flow) (block_assigns c.args.scope.now _ c.in-Block.stmts c.as_slice.result.now c.args.stmt.now c.in-Block.is c.as_slice.ensures) h)

-- ---- `if`

pub pass-join-requires-clause-within : goal.pass-join-requires-clause-within
pass-join-requires-clause-within t c =
    let b = c.in_ok-branches-in-If.ensures in
    let h = c.in_ok-pass_branch-in-If.ensures in
    let before = tables c.enter_test.new.flow in
    subst (λ n. AreInside n c.pass_branch.new.branches) (sym h.sized.unset)
    (if_inside_done c.args.scope.now c.args.stmt.now (tables c.args.flow.now) before c.in-If.test c.in-If.body c.get-body.result.now c.in_ok-inner-in-If.inner.items c.deref.result.now (tables c.pass_branch.new.flow) before c.in_ok-branches-in-If.branches c.pass_branch.new.branches
    c.in-If.is c.deref.ensures.value c.get-body.ensures h.back b.spots b.common b.outside h.branch)

pub pass-returns-in_ok-pass_branch-in-If-clause-passes : goal.pass-returns-in_ok-pass_branch-in-If-clause-passes
pass-returns-in_ok-pass_branch-in-If-clause-passes t c =
    let b = c.in_ok-branches-in-If.ensures in
    let h = c.in_ok-pass_branch-in-If.ensures in
    ok_then c.join.result _ _ c.join.ensures.joined
    (λ e. if_done c.args.scope.now c.args.stmt.now (tables c.args.flow.now) (tables c.enter_test.new.flow) c.in-If.test c.in-If.body c.get-body.result.now c.in_ok-inner-in-If.inner.items c.deref.result.now (tables c.pass_branch.new.flow) (tables c.join.new.self)
    c.in_ok-branches-in-If.branches c.pass_branch.new.branches c.in-If.is c.deref.ensures.value c.get-body.ensures h.back b.spots b.common b.outside h.branch e c.args.around.now c.in_ok-inner-in-If.ensures.enters)

pub pass-returns-in_ok-pass_branch-in-If-clause-changes : goal.pass-returns-in_ok-pass_branch-in-If-clause-changes
pass-returns-in_ok-pass_branch-in-If-clause-changes t c =
    let b = c.in_ok-branches-in-If.ensures in
    let h = c.in_ok-pass_branch-in-If.ensures in
    ok_then c.join.result _ _ c.join.ensures.joined
    (λ e. if_done_changes c.args.scope.now c.args.stmt.now (tables c.args.flow.now) (tables c.enter_test.new.flow) c.in-If.test c.in-If.body c.get-body.result.now c.in_ok-inner-in-If.inner.items c.deref.result.now (tables c.pass_branch.new.flow) (tables c.join.new.self)
    c.in_ok-branches-in-If.branches c.pass_branch.new.branches c.in-If.is c.deref.ensures.value c.get-body.ensures h.back b.spots b.common b.outside h.branch e c.in_ok-inner-in-If.ensures.changes)

-- ---- `if` with `else`

pub pass-join-requires-in-IfElse-clause-within : goal.pass-join-requires-in-IfElse-clause-within
pass-join-requires-in-IfElse-clause-within t c =
    let b = c.in_ok-branches-in-IfElse.ensures in
    let h = c.in_ok-pass_branch-in-IfElse.ensures in
    let k = c.in_ok-pass_branch-in-IfElse-2.ensures in
    let before = tables c.enter_test-in-IfElse.new.flow in
    subst (λ n. AreInside n c.pass_branch-in-IfElse-2.new.branches) (sym k.sized.unset)
    (if_else_inside_done c.args.scope.now c.args.stmt.now (tables c.args.flow.now) before c.in-IfElse.test c.in-IfElse.body c.get-body-in-IfElse.result.now c.in-IfElse.other c.get-other.result.now c.in_ok-inner-in-IfElse.inner.items c.deref-in-IfElse.result.now c.deref-in-IfElse-2.result.now
    (tables c.pass_branch-in-IfElse.new.flow) (tables c.pass_branch-in-IfElse-2.new.flow) before c.in_ok-branches-in-IfElse.branches c.pass_branch-in-IfElse.new.branches c.pass_branch-in-IfElse-2.new.branches c.in-IfElse.is c.deref-in-IfElse.ensures.value
    c.deref-in-IfElse-2.ensures.value c.get-body-in-IfElse.ensures c.get-other.ensures h.back k.back b.spots b.common b.outside h.branch k.branch)

pub pass-returns-in_ok-pass_branch-in-IfElse-2-clause-passes : goal.pass-returns-in_ok-pass_branch-in-IfElse-2-clause-passes
pass-returns-in_ok-pass_branch-in-IfElse-2-clause-passes t c =
    let b = c.in_ok-branches-in-IfElse.ensures in
    let h = c.in_ok-pass_branch-in-IfElse.ensures in
    let k = c.in_ok-pass_branch-in-IfElse-2.ensures in
    let before = tables c.enter_test-in-IfElse.new.flow in
    ok_then c.join-in-IfElse.result _ _ c.join-in-IfElse.ensures.joined
    (λ e. if_else_done c.args.scope.now c.args.stmt.now (tables c.args.flow.now) before c.in-IfElse.test c.in-IfElse.body c.get-body-in-IfElse.result.now c.in-IfElse.other c.get-other.result.now c.in_ok-inner-in-IfElse.inner.items c.deref-in-IfElse.result.now
    c.deref-in-IfElse-2.result.now (tables c.pass_branch-in-IfElse.new.flow) (tables c.pass_branch-in-IfElse-2.new.flow) (tables c.join-in-IfElse.new.self) c.in_ok-branches-in-IfElse.branches c.pass_branch-in-IfElse.new.branches c.pass_branch-in-IfElse-2.new.branches
    c.in-IfElse.is c.deref-in-IfElse.ensures.value c.deref-in-IfElse-2.ensures.value c.get-body-in-IfElse.ensures c.get-other.ensures h.back k.back b.spots b.common b.outside h.branch k.branch e c.args.around.now c.in_ok-inner-in-IfElse.ensures.enters)

pub pass-returns-in_ok-pass_branch-in-IfElse-2-clause-changes : goal.pass-returns-in_ok-pass_branch-in-IfElse-2-clause-changes
pass-returns-in_ok-pass_branch-in-IfElse-2-clause-changes t c =
    let b = c.in_ok-branches-in-IfElse.ensures in
    let h = c.in_ok-pass_branch-in-IfElse.ensures in
    let k = c.in_ok-pass_branch-in-IfElse-2.ensures in
    let before = tables c.enter_test-in-IfElse.new.flow in
    ok_then c.join-in-IfElse.result _ _ c.join-in-IfElse.ensures.joined
    (λ e. if_else_done_changes c.args.scope.now c.args.stmt.now (tables c.args.flow.now) before c.in-IfElse.test c.in-IfElse.body c.get-body-in-IfElse.result.now c.in-IfElse.other c.get-other.result.now c.in_ok-inner-in-IfElse.inner.items c.deref-in-IfElse.result.now
    c.deref-in-IfElse-2.result.now (tables c.pass_branch-in-IfElse.new.flow) (tables c.pass_branch-in-IfElse-2.new.flow) (tables c.join-in-IfElse.new.self) c.in_ok-branches-in-IfElse.branches c.pass_branch-in-IfElse.new.branches c.pass_branch-in-IfElse-2.new.branches
    c.in-IfElse.is c.deref-in-IfElse.ensures.value c.deref-in-IfElse-2.ensures.value c.get-body-in-IfElse.ensures c.get-other.ensures h.back k.back b.spots b.common b.outside h.branch k.branch e c.in_ok-inner-in-IfElse.ensures.changes)

-- ---- case statements

pub pass-join-requires-in-Case-clause-within : goal.pass-join-requires-in-Case-clause-within
pass-join-requires-in-Case-clause-within t c =
    let b = c.in_ok-branches-in-Case.ensures in
    let h = c.in_ok-pass_items-in-Case.ensures in
    let before = tables c.enter.new.flow in
    subst (λ n. AreInside n c.pass_items.new.branches) (sym h.sized.unset)
    (case_inside_done c.args.scope.now c.args.stmt.now (tables c.args.flow.now) before c.in-Case.kind c.in-Case.subject c.in-Case.items c.as_slice-items.result.now c.in_ok-inner-in-Case.inner.items c.deref-in-Case-2.result.now (tables c.pass_items.new.flow) before
    c.in_ok-branches-in-Case.branches c.pass_items.new.branches b.common.0 c.in-Case.is c.deref-in-Case-2.ensures.value c.as_slice-items.ensures h.back b.common.2 h.items)

pub pass-returns-in_ok-pass_items-in-Case-clause-passes : goal.pass-returns-in_ok-pass_items-in-Case-clause-passes
pass-returns-in_ok-pass_items-in-Case-clause-passes t c =
    let b = c.in_ok-branches-in-Case.ensures in
    let h = c.in_ok-pass_items-in-Case.ensures in
    let before = tables c.enter.new.flow in
    let same = c.as_slice-items.ensures in
    let enters = subst (λ (es : List Expr). EnterTo c.args.scope.now c.args.around.now (c.in-Case.subject ∷ es) (tables c.args.flow.now) before c.in_ok-inner-in-Case.inner.items) (ap (map expr_meant) c.deref-in-Case.ensures.value ∙ (c.in_ok-labels-in-Case.ensures ∙ ap labels_of same)) c.in_ok-inner-in-Case.ensures.enters in
    ok_then c.join-in-Case.result _ _ c.join-in-Case.ensures.joined
    (λ e. case_done c.args.scope.now c.args.stmt.now (tables c.args.flow.now) before c.in-Case.kind c.in-Case.subject c.in-Case.items c.as_slice-items.result.now c.in_ok-inner-in-Case.inner.items c.deref-in-Case-2.result.now (tables c.pass_items.new.flow)
    (tables c.join-in-Case.new.self) c.in_ok-branches-in-Case.branches c.pass_items.new.branches b.common.0 c.in-Case.is c.deref-in-Case-2.ensures.value same h.back b.common.2 h.items e c.args.around.now enters b.common.1)

pub pass-returns-in_ok-pass_items-in-Case-clause-changes : goal.pass-returns-in_ok-pass_items-in-Case-clause-changes
pass-returns-in_ok-pass_items-in-Case-clause-changes t c =
    let b = c.in_ok-branches-in-Case.ensures in
    let h = c.in_ok-pass_items-in-Case.ensures in
    let before = tables c.enter.new.flow in
    ok_then c.join-in-Case.result _ _ c.join-in-Case.ensures.joined
    (λ e. case_done_changes c.args.scope.now c.args.stmt.now (tables c.args.flow.now) before c.in-Case.kind c.in-Case.subject c.in-Case.items c.as_slice-items.result.now c.in_ok-inner-in-Case.inner.items c.deref-in-Case-2.result.now (tables c.pass_items.new.flow)
    (tables c.join-in-Case.new.self) c.in_ok-branches-in-Case.branches c.pass_items.new.branches b.common.0 c.in-Case.is c.deref-in-Case-2.ensures.value c.as_slice-items.ensures h.back b.common.2 h.items e c.in_ok-inner-in-Case.ensures.changes)

-- ---- one after another

pub pass_row-pass-requires : goal.pass_row-pass-requires
pass_row-pass-requires t c = (
  search (rules, the_lemmas),
  (c.requires.distinct, (c.requires.narrow, (each_ready c.args.scope.now c.args.stmts.now c.loop-stmt.stmt-index c.stmt-item.result c.requires.ready c.loop-stmt-test.true c.stmt-item.is, search rules))),
)

pub pass_row-loop-stmt-preserved : goal.pass_row-loop-stmt-preserved
pass_row-loop-stmt-preserved t c =
    let gs = c.args.scope.now in
    let x = c.stmt-item.result in
    let v = tables c.args.flow.now in
    let now = tables c.loop-stmt.flow in
    let next = tables c.pass.new.flow in
    let here = among_at c.args.stmts.now c.loop-stmt.stmt-index x c.loop-stmt-test.true c.stmt-item.is in
    record {
      sized = c.in_ok-pass.ensures.sized;
      passes = passing_next gs c.args.around.now c.args.stmts.now c.loop-stmt.stmt-index x v now next c.loop-stmt-test.true c.stmt-item.is c.loop-stmt.invariant.passes c.in_ok-pass.ensures.passes;
      changes = changes_more (λ i. AnyAssigned gs c.args.stmts.now i) (λ i. IsAssigned gs x i) (λ i. AnyAssigned gs c.args.stmts.now i) v now next (λ i f. f) (λ i f. (x, here, f)) c.loop-stmt.invariant.changes c.in_ok-pass.ensures.changes;
    }

pub pass_items-pass_branch-requires : goal.pass_items-pass_branch-requires
pass_items-pass_branch-requires t c = (
  search (rules, the_lemmas),
  (c.requires.distinct, (c.requires.narrow, (item_ready c.args.scope.now c.args.items.now c.loop-item.item-index c.item-item.result c.requires.ready c.loop-item-test.true c.item-item.is, search rules))),
)

pub pass_items-loop-item-preserved : goal.pass_items-loop-item-preserved
pass_items-loop-item-preserved t c =
    let h = c.in_ok-pass_branch.ensures in
    let inv = c.loop-item.invariant in
    record {
      sized = h.sized;
      back = h.back ∙ inv.back;
      items = gathering_next c.args.scope.now (tables c.args.flow.now) c.args.branches.now.common.items c.args.around.now c.args.items.now c.loop-item.item-index c.item-item.result (tables c.loop-item.flow) c.loop-item.branches c.pass_branch.new.branches
          c.loop-item-test.true c.item-item.is inv.back inv.items h.branch;
    }

-- ---- one branch

pub pass_branch-spots_at-requires-clause-within : goal.pass_branch-spots_at-requires-clause-within
pass_branch-spots_at-requires-clause-within t c = λ i m.
    let h = any_within c.args.scope.now (assigned_in c.args.body.now) i ((c.in_ok-places.ensures.assigned i).0 (subst (λ (z : List ℕ). Among z i) c.deref.ensures.value m)) in
    subst (λ n. i < n) (sym c.requires.sized.unset) h

pub pass_branch-add-requires-clause-within : goal.pass_branch-add-requires-clause-within
pass_branch-add-requires-clause-within t c = λ i m.
    let h = any_within c.args.scope.now (assigned_in c.args.body.now) i ((c.in_ok-places.ensures.assigned i).0 (subst (λ (z : List ℕ). Among z i) c.deref-2.ensures.value m)) in
    subst (λ n. i < n) (sym c.in_ok-pass.ensures.sized.unset) h

pub pass_branch-put_back-requires-clause-within : goal.pass_branch-put_back-requires-clause-within
pass_branch-put_back-requires-clause-within t c = λ x m.
    let k : Among c.deref.result.now x.place = elim (c.in_ok-before.ensures.only x (subst (λ z. Among z x) c.deref-3.ensures.value m)) [ inl f ↦ absurd f | inr f ↦ f.1 ] in
    let h = any_within c.args.scope.now (assigned_in c.args.body.now) x.place ((c.in_ok-places.ensures.assigned x.place).0 (subst (λ (z : List ℕ). Among z x.place) c.deref.ensures.value k)) in
    subst (λ n. x.place < n) (sym c.in_ok-pass.ensures.sized.unset) h

pub pass_branch-returns-clause-branch : goal.pass_branch-returns-clause-branch
pass_branch-returns-clause-branch t c =
    let places = c.in_ok-places.places.items in
    let before = tables c.args.flow.now in
    let after = tables c.pass.new.flow in
    let added = c.in_ok-add.ensures in
    let reads : c.len-reads.result ≡ length c.args.flow.now.outside.items = omega (arith, c.len-reads.ensures, c.args.flow.now.outside.ok) in
    let same = c.deref-2.ensures.value in
    let old = c.args.branches.now in
    let new = c.add.new.self in (
      after,
      c.in_ok-pass.ensures.passes,
      branched c.args.scope.now c.args.body.now places before after c.in_ok-places.ensures.assigned c.in_ok-pass.ensures.changes old new c.len-reads.result (subst (λ (z : List ℕ). SpotsAdded z after old.spots.items new.spots.items) same added.spots)
          (λ i. subst (λ (z : List ℕ). Among new.common.items i ↔ (Among old.common.items i × Among z i)) same (added.common i)) reads added.outside,
    )

pub pass_branch-returns-clause-back : goal.pass_branch-returns-clause-back
pass_branch-returns-clause-back t c =
    let places = c.in_ok-places.places.items in
    let before = tables c.args.flow.now in
    let after = tables c.pass.new.flow in
    let back = tables c.put_back.new.self in
    let spots = c.in_ok-before.before.items in
    let reads : c.len-reads.result ≡ length c.args.flow.now.outside.items = omega (arith, c.len-reads.ensures, c.args.flow.now.outside.ok) in
    put_is c.args.scope.now c.args.body.now places before after c.in_ok-places.ensures.assigned c.in_ok-pass.ensures.changes spots back c.len-reads.result c.truncate.new.self.items (subst (λ (z : List ℕ). SpotsAdded z before [] spots) c.deref.ensures.value c.in_ok-before.ensures)
    (subst (λ z. PutTo z after back) c.deref-3.ensures.value c.in_ok-put_back.ensures.put) reads (c.truncate.ensures.items ∙ ap (λ (z : Row). take c.len-reads.result z.items) c.in_ok-put_back.ensures.outside)
