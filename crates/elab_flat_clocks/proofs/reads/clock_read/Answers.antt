use Rattle.std.proofs.Common.{map, sym, subst}
use Rattle.std.specs.Prelude.{◌↔◌}
use Rattle.std.specs.Option.{option_copied}
use Rattle.vlog_tree.specs.declared.expr.Expr.{Expr}
use Rattle.vlog_tree_runs.specs.Places.{Among}
use Rattle.elab_flat_faults.specs.Texts.{own_exprs}
use Rattle.elab_flat_names.proofs.Searches.{one_found, none_found}
use Rattle.elab_flat_names.specs.Exprs.{expr_meant}
use Rattle.elab_flat_clocks.specs.Clocking.{IsReadAmong}
use Rattle.elab_flat_clocks.proofs.Reading.{own_found, others_found}
use Rattle.elab_flat_clocks.proofs.reads.clock_read.Goals as goal

pub returns-in-Some : goal.returns-in-Some
returns-in-Some c =
    let m = c.args.text.now in
    let own = map expr_meant c.deref.result.now in
    let same : (a : Expr) → Among own a ↔ Among (own_exprs m) a = λ a. subst (λ es. Among (map expr_meant es) a ↔ Among (own_exprs m) a) (sym c.deref.ensures.value) (c.in_ok-own.ensures a) in
    own_found m own (map expr_meant c.args.kept.now) same c.args.table.now c.args.clock.now c.in-Some.name.now
    (one_found (IsReadAmong own c.args.table.now c.args.clock.now) c.in_ok-name.field-0 c.in-Some.name c.in_ok-name.ensures c.in-Some.is)

pub returns : goal.returns
returns c =
    let m = c.args.text.now in
    let own = map expr_meant c.deref.result.now in
    let same : (a : Expr) → Among own a ↔ Among (own_exprs m) a = λ a. subst (λ es. Among (map expr_meant es) a ↔ Among (own_exprs m) a) (sym c.deref.ensures.value) (c.in_ok-own.ensures a) in
    others_found m own (map expr_meant c.args.kept.now) same c.args.table.now c.args.clock.now
    (none_found (IsReadAmong own c.args.table.now c.args.clock.now) c.in_ok-name.field-0 c.in_ok-name.ensures c.in_default.not-Some)
    (option_copied c.in_ok-found.found) c.in_ok-found.ensures
