use Rattle.std.proofs.Common.{sym, subst}
use Rattle.std.specs.Prelude.{IfOk}
use Rattle.vlog_tree.specs.declared.expr.Span.{Span}
use Rattle.elab_flat_faults.specs.Constants.{IsOwnDefined, IsBoundDefined}
use Rattle.elab_flat_params.proofs.Divisors.{Decides, decides_both}
use Rattle.elab_flat_params.proofs.bounds.bound_defined.Goals as goal

pub returns-in_ok-low-in-Fixed : goal.returns-in_ok-low-in-Fixed
returns-in_ok-low-in-Fixed c =
    subst (λ (s : Span). Decides (IsBoundDefined c.args.valuation.now s c.args.a.now c.args.b.now) c.both.result) (sym c.in-Fixed.is)
    (decides_both (IsOwnDefined c.args.valuation.now c.args.a.now) (IsOwnDefined c.args.valuation.now c.args.b.now) c.in_ok-high-in-Fixed.high c.in_ok-low-in-Fixed.low c.both.result
    c.in_ok-high-in-Fixed.ensures c.in_ok-low-in-Fixed.ensures c.both.ensures)

pub returns-in-Up : goal.returns-in-Up
returns-in-Up c =
    subst (λ (s : Span). IfOk c.own_defined-in-Up.result (Decides (IsBoundDefined c.args.valuation.now s c.args.a.now c.args.b.now))) (sym c.in-Up.is) c.own_defined-in-Up.ensures

pub returns-in-Down : goal.returns-in-Down
returns-in-Down c =
    subst (λ (s : Span). IfOk c.own_defined-in-Down.result (Decides (IsBoundDefined c.args.valuation.now s c.args.a.now c.args.b.now))) (sym c.in-Down.is) c.own_defined-in-Down.ensures
