use Rattle.std.proofs.Common.{◌≡◌, List, Some, map, sym, ap, ◌∙◌}
use Rattle.std.specs.Option.{option_copied}
use Rattle.vlog_tree_runs.specs.Places.{Name}
use Rattle.vlog_tree_runs.specs.Scopes.{Given, module_at, inner_prefix, overriding}
use Rattle.elab_flat_scopes.specs.Borrowed.{inner_meant, given_meant}
use Rattle.elab_flat_instances.specs.Unfolding.{scope_meant}
use Rattle.elab_flat_instances.proofs.Params.{child_fault}
use Rattle.elab_flat_instances.proofs.child.child_of.Goals as goal

pub returns-in-Err-Bad-clause-err : goal.returns-in-Err-Bad-clause-err
returns-in-Err-Bad-clause-err c =
    let ms = c.args.modules.now in
    let s = scope_meant c.args.outer.now in
    let i = inner_meant c.args.inner.now in
    let m = c.in-Some.text.now in
    let there : module_at ms i.of_module ≡ Some m = ap (module_at ms) (sym c.bytes.ensures) ∙ (sym c.at.ensures ∙ ap option_copied c.in-Some.is) in
    let ds : List Given = map given_meant c.deref.result.now in
    let given : ds ≡ overriding m i.overrides = ap (map given_meant) c.deref.ensures.value ∙ c.in_ok-given-in-Some.ensures in
    let prefix : c.bytes-in-Err-Bad.result.now ≡ inner_prefix s.prefix i.name =
    c.bytes-in-Err-Bad.ensures ∙ (c.in_ok-prefix-in-Some.ensures ∙ (ap (λ (p : Name). inner_prefix p c.bytes-in-Some-2.result.now) c.bytes-in-Some.ensures ∙ ap (inner_prefix s.prefix) c.bytes-in-Some-2.ensures)) in
    child_fault ms s i m c.requires there ds given c.in-Err-Bad.field-0 c.in-Err-Bad.at c.in-Err-Bad.cause c.in-Err-Bad.field-0-is c.in-Err-Bad.ensures.err
    c.in_ok-param_fault-in-Err-Bad.field-0 c.bytes-in-Err-Bad.result.now prefix c.in_ok-param_fault-in-Err-Bad.ensures
