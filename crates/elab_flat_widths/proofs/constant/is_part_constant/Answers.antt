use Rattle.std.proofs.Common.{sym, subst}
use Rattle.vlog_tree.specs.declared.expr.Span.{Span}
use Rattle.vlog_tree.specs.Value.{NamesOnly, IsPartConstant}
use Rattle.elab_flat_params.specs.Constants.{is_known}
use Rattle.elab_flat_params.proofs.Divisors.{Decides, decides_both}
use Rattle.elab_flat_widths.proofs.constant.is_part_constant.Goals as goal

pub returns-in-Fixed : goal.returns-in-Fixed
returns-in-Fixed c =
    let test = is_known c.args.params.now in
    subst (λ (s : Span). Decides (IsPartConstant test s c.args.a.now c.args.b.now) c.both.result) (sym c.in-Fixed.is)
    (decides_both (NamesOnly test c.args.a.now) (NamesOnly test c.args.b.now) c.is_constant.result c.is_constant-in-Fixed.result c.both.result c.is_constant.ensures c.is_constant-in-Fixed.ensures c.both.ensures)

pub returns-in-Up : goal.returns-in-Up
returns-in-Up c = subst (λ (s : Span). Decides (IsPartConstant (is_known c.args.params.now) s c.args.a.now c.args.b.now) c.is_constant-in-Up.result) (sym c.in-Up.is) c.is_constant-in-Up.ensures

pub returns-in-Down : goal.returns-in-Down
returns-in-Down c = subst (λ (s : Span). Decides (IsPartConstant (is_known c.args.params.now) s c.args.a.now c.args.b.now) c.is_constant-in-Down.result) (sym c.in-Down.is) c.is_constant-in-Down.ensures
