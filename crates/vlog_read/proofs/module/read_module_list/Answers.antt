use Rattle.std.proofs.Common.{◌≡◌, [], ◌∷◌, ◌++◌, true, arith, sym, ◌∙◌, ap}
use Rattle.std.specs.Prelude.{is_ok}
use Rattle.std.proofs.lemmas.Result.{err_from_is_err_and}
use Rattle.vlog_read.proofs.ItemSteps.{modules_begin, modules_grow, modules_end, first_refuses, next_refuses}
use Rattle.vlog_read.proofs.module.read_module_list.Goals as goal

pub loop-end-init : goal.loop-end-init
loop-end-init c =
    let ok : is_ok c.push.result ≡ true = sym c.in_ok-map_err.ensures.variant in
    let items : c.push.new.self.items ≡ c.new-list.result.items ++ c.in_ok-first.first.tree ∷ [] = rw ok at c.push.ensures.items in
    let one : c.push.new.self.items ≡ c.in_ok-first.first.tree ∷ [] = items ∙ ap (λ z. z ++ c.in_ok-first.first.tree ∷ []) c.new-list.ensures.items in
    modules_begin _ _ c.in_ok-first.ensures _ one

pub loop-end-preserved : goal.loop-end-preserved
loop-end-preserved c =
    let ok : is_ok c.push-in-loop-end.result ≡ true = sym c.in_ok-map_err-2.ensures.variant in
    let items : c.push-in-loop-end.new.self.items ≡ c.loop-end.list.items ++ c.in_ok-next.next.tree ∷ [] = rw ok at c.push-in-loop-end.ensures.items in
    modules_grow _ _ _ c.loop-end.invariant c.loop-end-test.true _ c.in_ok-next.ensures _ items

pub loop-end-smaller : goal.loop-end-smaller
loop-end-smaller c = omega (arith, c.in_ok-next.ensures.1, c.in_ok-next.ensures.0.within, c.loop-end-test.true)

pub returns : goal.returns
returns c = let r = modules_end _ _ _ c.loop-end.invariant (omega (arith, c.loop-end-test.false)) in record { ok = r.0; low = r.1; err = tt }

pub returns-in_err-first : goal.returns-in_err-first
returns-in_err-first c =
    let p = err_from_is_err_and c.from_residual.result c.from_residual.ensures.1 in
    rw (p.1, p.2) (record { ok = tt; low = tt; err = first_refuses _ _ c.in_err-first.ensures })

pub returns-in_err-next : goal.returns-in_err-next
returns-in_err-next c =
    let p = err_from_is_err_and c.from_residual-in_err-next.result c.from_residual-in_err-next.ensures.1 in
    rw (p.1, p.2) (record { ok = tt; low = tt; err = next_refuses _ _ _ c.loop-end.invariant c.loop-end-test.true _ c.in_err-next.ensures })
