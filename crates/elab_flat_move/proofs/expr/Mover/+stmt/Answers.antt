use Rattle.std.proofs.Common.{◌≡◌, Ok, refl}
use Rattle.std.proofs.lemmas.Result.{IfOk-weaker, IfOk-at_ok}
use Rattle.vlog_tree.specs.declared.stmt.Stmt.TheVariants as s
use Rattle.elab_flat_move.proofs.Stmts.{block_moved, case_moved, if_moved, if_else_moved, blocking_moved, nonblocking_moved}
use Rattle.elab_flat_move.proofs.Pairs.{made}
use Rattle.elab_flat_move.proofs.expr.Mover.+stmt.Goals as goal

pub stmt-returns-in-Block : goal.stmt-returns-in-Block
stmt-returns-in-Block t c =
    IfOk-weaker c.block.result _ _
    (λ r h. block_moved c.args.self.now.prefix.now c.args.self.now.params.now c.args.stmt.now c.in-Block.name _ c.in-Block.stmts _ _ r c.in-Block.is refl c.as_slice.ensures refl h)
    c.block.ensures

pub stmt-returns-in-If : goal.stmt-returns-in-If
stmt-returns-in-If t c =
    IfOk-weaker c.if_only.result _ _
    (λ r h. if_moved c.args.self.now.prefix.now c.args.self.now.params.now c.args.stmt.now c.in-If.condition _ c.in-If.body _ _ r c.in-If.is refl c.get.ensures refl h)
    c.if_only.ensures

pub stmt-returns-in_ok-condition-in-IfElse : goal.stmt-returns-in_ok-condition-in-IfElse
stmt-returns-in_ok-condition-in-IfElse t c =
    let all = c.in_ok-condition-in-IfElse.ensures in
    if_else_moved c.args.self.now.prefix.now c.args.self.now.params.now c.args.stmt.now c.in-IfElse.condition _ c.in-IfElse.body _ _ c.in-IfElse.other _ _ _
    c.in-IfElse.is (made _ _ _ all.first c.expr.ensures) c.get-in-IfElse.ensures
    (made _ _ _ (IfOk-at_ok (λ p. c.branch-self.result ≡ Ok p.0) all.second c.both-branches.ensures.first) c.branch-self.ensures) c.get-in-IfElse-2.ensures
    (made _ _ _ (IfOk-at_ok (λ p. c.branch-self-in-IfElse.result ≡ Ok p.1) all.second c.both-branches.ensures.second) c.branch-self-in-IfElse.ensures) refl

pub stmt-returns-in-Case : goal.stmt-returns-in-Case
stmt-returns-in-Case t c =
    IfOk-weaker c.case.result _ _
    (λ r h. case_moved c.args.self.now.prefix.now c.args.self.now.params.now c.args.stmt.now c.in-Case.kind c.in-Case.subject _ c.in-Case.items _ _ r c.in-Case.is c.as_slice-in-Case.ensures refl refl h)
    c.case.ensures

pub stmt-returns-in-Blocking : goal.stmt-returns-in-Blocking
stmt-returns-in-Blocking t c =
    IfOk-weaker c.blocking.result _ _
    (λ r h. blocking_moved c.args.self.now.prefix.now c.args.self.now.params.now c.args.stmt.now c.in-Blocking.left _ c.in-Blocking.right _ r c.in-Blocking.is refl refl h)
    c.blocking.ensures

pub stmt-returns-in-Nonblocking : goal.stmt-returns-in-Nonblocking
stmt-returns-in-Nonblocking t c =
    IfOk-weaker c.nonblocking.result _ _
    (λ r h. nonblocking_moved c.args.self.now.prefix.now c.args.self.now.params.now c.args.stmt.now c.in-Nonblocking.left _ c.in-Nonblocking.right _ r c.in-Nonblocking.is refl refl h)
    c.nonblocking.ensures

pub block-returns : goal.block-returns
block-returns t c = λ z. s.Block (made _ _ _ c.in_ok-name.ensures.first c.copied.ensures z) (made _ _ _ c.in_ok-name.ensures.second c.stmts.ensures z)

pub if_only-returns : goal.if_only-returns
if_only-returns t c = λ z. s.If (made _ _ _ c.in_ok-condition.ensures.first c.expr.ensures z) (made _ _ _ c.in_ok-condition.ensures.second c.branch-self.ensures z)

pub case-returns : goal.case-returns
case-returns t c = λ z. s.Case c.args.kind (made _ _ _ c.in_ok-subject.ensures.first c.expr.ensures z) (made _ _ _ c.in_ok-subject.ensures.second c.cases.ensures z)
