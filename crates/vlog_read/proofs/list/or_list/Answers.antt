use Rattle.std.proofs.Common.{◌≡◌, [], ◌∷◌, ◌++◌, arith, refl, ◌∙◌, ap}
use Rattle.std.proofs.lemmas.Result.{err_from_is_err_and}
use Rattle.vlog_read_expr.proofs.SignTests.{yes_by, no_by}
use Rattle.vlog_read.proofs.ListSteps.{or_separates, begins, grows, ends, first_refuses, item_refuses}
use Rattle.vlog_read.proofs.Steps.{or_within}
use Rattle.vlog_tree.specs.Statements.{OrComma}
use Rattle.vlog_read.proofs.list.or_list.Goals as goal

pub loop-alloc-init : goal.loop-alloc-init
loop-alloc-init g c =
    let q : c.push.new.self ≡ c.in_ok-first.first.tree ∷ [] = c.in_ok-push.ensures.ok ∙ ap (λ z. z ++ c.in_ok-first.first.tree ∷ []) c.new-items.ensures in
    begins c.args.tokens.now g.T.Part.height (OrComma c.args.tokens.now) (g.T.Part.spells c.args.tokens.now) c.args.at c.args.depth (or_separates _) _ c.in_ok-first.ensures.found c.in_ok-first.ensures.forward _ q

pub after-requires : goal.after-requires
after-requires g c = or_within _ _ (yes_by _ c.is_or.ensures c.loop-alloc-test.true)

pub loop-alloc-smaller : goal.loop-alloc-smaller
loop-alloc-smaller g c = omega (arith, c.in_ok-item.ensures.forward, c.in_ok-item.ensures.found.within, c.after.ensures, or_within _ _ (yes_by _ c.is_or.ensures c.loop-alloc-test.true))

pub loop-alloc-preserved : goal.loop-alloc-preserved
loop-alloc-preserved g c =
    grows c.args.tokens.now g.T.Part.height (OrComma c.args.tokens.now) (g.T.Part.spells c.args.tokens.now) c.args.at c.args.depth (or_separates _) _ _ _ c.loop-alloc.invariant (yes_by _ c.is_or.ensures c.loop-alloc-test.true) (or_within _ _ (yes_by _ c.is_or.ensures c.loop-alloc-test.true)) _ (rw c.after.ensures at c.in_ok-item.ensures.found) _ c.in_ok-push-2.ensures.ok _ c.max-height.ensures

pub returns : goal.returns
returns g c = record { found = ends c.args.tokens.now g.T.Part.height (OrComma c.args.tokens.now) (g.T.Part.spells c.args.tokens.now) c.args.at c.args.depth (or_separates _) _ _ _ c.loop-alloc.invariant (no_by _ c.is_or.ensures c.loop-alloc-test.false) _ refl refl refl; forward = c.loop-alloc.invariant.past }

pub returns-in_err-first : goal.returns-in_err-first
returns-in_err-first g c =
    let p = err_from_is_err_and c.from_residual.result c.from_residual.ensures.1 in
    rw (p.1, p.2) (record { found = first_refuses c.args.tokens.now g.T.Part.height (OrComma c.args.tokens.now) (g.T.Part.spells c.args.tokens.now) c.args.at c.args.depth (or_separates _) _ c.in_err-first.ensures.found; forward = tt })

pub returns-in_err-item : goal.returns-in_err-item
returns-in_err-item g c =
    let p = err_from_is_err_and c.from_residual-in_err-item.result c.from_residual-in_err-item.ensures.1 in
    rw (p.1, p.2) (record { found = item_refuses c.args.tokens.now g.T.Part.height (OrComma c.args.tokens.now) (g.T.Part.spells c.args.tokens.now) c.args.at c.args.depth (or_separates _) _ _ _ c.loop-alloc.invariant (yes_by _ c.is_or.ensures c.loop-alloc-test.true) _ (rw c.after.ensures at c.in_err-item.ensures.found); forward = tt })
