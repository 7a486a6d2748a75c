use Rattle.std.proofs.Common.{◌≡◌, true, false, refl, sym, subst, ◌∙◌}
use Rattle.elab_flat_scopes.specs.Borrowed.{given_meant}
use Rattle.elab_flat_names.specs.Rows.{IsBadGiven}
use Rattle.elab_flat_names.proofs.Searches.{among_here, among_past, none_left}
use Rattle.elab_flat_names.proofs.inner.bad_output.Goals as goal

pub returns-then-is_bad : goal.returns-then-is_bad
returns-then-is_bad c = (
  given_meant c.gift-item.result,
  among_here given_meant c.args.given.now c.loop-gift.gift-index c.gift-item.result c.loop-gift-test.true c.gift-item.is,
  refl,
  c.is_bad.ensures.0 c.if-is_bad.true,
)

pub loop-gift-preserved : goal.loop-gift-preserved
loop-gift-preserved c = λ d among bad.
    among_past given_meant c.args.given.now c.loop-gift.gift-index c.gift-item.result c.loop-gift-test.true c.gift-item.is d (c.loop-gift.invariant d among bad)
    (λ same. let z : true ≡ false = sym (c.is_bad.ensures.1 (subst (IsBadGiven c.args.ports.now c.args.signals.now) (sym same) bad)) ∙ c.if-is_bad.false in cc)

pub returns : goal.returns
returns c = λ x h. none_left given_meant c.args.given.now c.loop-gift.gift-index c.loop-gift-test.false h.0 (c.loop-gift.invariant h.0 h.1 h.3)
