use Rattle.std.proofs.Common.{◌≡◌, [], ◌∷◌, ◌++◌, arith, refl, ◌∙◌, ap}
use Rattle.vlog_read_spelling.proofs.Tokens.{kind_within}
use Rattle.std.proofs.lemmas.Result.{err_from_is_err_and}
use Rattle.vlog_read_expr.proofs.SignTests.{yes_by, no_by}
use Rattle.vlog_read.proofs.ListSteps.{comma_separates, begins, grows, ends, first_refuses, item_refuses}
use Rattle.vlog_tree.specs.Lists.{Comma}
use Rattle.vlog_read.proofs.list.comma_list.Goals as goal

pub loop-alloc-init : goal.loop-alloc-init
loop-alloc-init g c =
    let q : c.push.new.self ≡ c.in_ok-first.first.tree ∷ [] = c.in_ok-push.ensures.ok ∙ ap (λ z. z ++ c.in_ok-first.first.tree ∷ []) c.new-items.ensures in
    begins c.args.tokens.now g.T.Part.height (Comma c.args.tokens.now) (g.T.Part.spells c.args.tokens.now) c.args.at c.args.depth (comma_separates _) _ c.in_ok-first.ensures.found c.in_ok-first.ensures.forward _ q

pub after-requires : goal.after-requires
after-requires g c = kind_within _ _ _ (yes_by _ c.is_sign.ensures c.loop-alloc-test.true)

pub loop-alloc-smaller : goal.loop-alloc-smaller
loop-alloc-smaller g c = omega (arith, c.in_ok-item.ensures.forward, c.in_ok-item.ensures.found.within, c.after.ensures, kind_within _ _ _ (yes_by _ c.is_sign.ensures c.loop-alloc-test.true))

pub loop-alloc-preserved : goal.loop-alloc-preserved
loop-alloc-preserved g c =
    grows c.args.tokens.now g.T.Part.height (Comma c.args.tokens.now) (g.T.Part.spells c.args.tokens.now) c.args.at c.args.depth (comma_separates _) _ _ _ c.loop-alloc.invariant (yes_by _ c.is_sign.ensures c.loop-alloc-test.true) (kind_within _ _ _ (yes_by _ c.is_sign.ensures c.loop-alloc-test.true)) _ (rw c.after.ensures at c.in_ok-item.ensures.found) _ c.in_ok-push-2.ensures.ok _ c.max-height.ensures

pub returns : goal.returns
returns g c = record { found = ends c.args.tokens.now g.T.Part.height (Comma c.args.tokens.now) (g.T.Part.spells c.args.tokens.now) c.args.at c.args.depth (comma_separates _) _ _ _ c.loop-alloc.invariant (no_by _ c.is_sign.ensures c.loop-alloc-test.false) _ refl refl refl; forward = c.loop-alloc.invariant.past }

pub returns-in_err-first : goal.returns-in_err-first
returns-in_err-first g c =
    let p = err_from_is_err_and c.from_residual.result c.from_residual.ensures.1 in
    rw (p.1, p.2) (record { found = first_refuses c.args.tokens.now g.T.Part.height (Comma c.args.tokens.now) (g.T.Part.spells c.args.tokens.now) c.args.at c.args.depth (comma_separates _) _ c.in_err-first.ensures.found; forward = tt })

pub returns-in_err-item : goal.returns-in_err-item
returns-in_err-item g c =
    let p = err_from_is_err_and c.from_residual-in_err-item.result c.from_residual-in_err-item.ensures.1 in
    rw (p.1, p.2) (record { found = item_refuses c.args.tokens.now g.T.Part.height (Comma c.args.tokens.now) (g.T.Part.spells c.args.tokens.now) c.args.at c.args.depth (comma_separates _) _ _ _ c.loop-alloc.invariant (yes_by _ c.is_sign.ensures c.loop-alloc-test.true) _ (rw c.after.ensures at c.in_err-item.ensures.found); forward = tt })
