use Rattle.std.proofs.Common.{◌≡◌, List, Some, map, sym, ap, ◌∙◌}
use Rattle.std.specs.Option.{option_copied}
use Rattle.vlog_tree_runs.specs.Scopes.{Given, module_at, overriding}
use Rattle.elab_flat_scopes.specs.Borrowed.{inner_meant, given_meant}
use Rattle.elab_flat_instances.specs.Unfolding.{scope_meant}
use Rattle.elab_flat_widths.proofs.Inners.{never_bad}
use Rattle.elab_flat_widths.proofs.inner.Parent.inner_scope.Goals as goal

pub unreachable-requires : goal.unreachable-requires
unreachable-requires c =
    let ms = c.args.self.now.modules.now in
    let s = scope_meant c.args.self.now.scope.now in
    let i = inner_meant c.args.inner.now in
    let m = c.in-Some.text.now in
    let there : module_at ms i.of_module ≡ Some m = ap (module_at ms) (sym c.bytes.ensures) ∙ (sym c.at.ensures ∙ ap option_copied c.in-Some.is) in
    let ds : List Given = map given_meant c.deref.result.now in
    let given : ds ≡ overriding m i.overrides = ap (map given_meant) c.deref.ensures.value ∙ c.in_ok-given-in-Some.ensures in
    never_bad ms s i c.requires m there ds given c.in-Err-Bad.field-0 c.in-Err-Bad.field-0-0 c.in-Err-Bad.field-0-1 c.in-Err-Bad.field-0-is c.in-Err-Bad.ensures.err
