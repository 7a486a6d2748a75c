use Rattle.std.proofs.Common.{◌≡◌, List, None, map, sym, ap, ◌∙◌}
use Rattle.vlog_tree_runs.specs.Places.{Name}
use Rattle.elab_flat_scopes.specs.Finding.{place_in, module_name}
use Rattle.elab_flat_instances.proofs.Tops.{placed}
use Rattle.elab_flat_instances.proofs.unfold.top_recursion.Goals as goal

pub unreachable-requires : goal.unreachable-requires
unreachable-requires c =
    let ms = c.args.modules.now in
    let top = c.args.top.now in
    let none : place_in (map module_name ms) top ≡ None = ap (λ (ns : List Name). place_in ns top) (sym c.in_ok-names.ensures) ∙ (sym c.place.ensures ∙ c.in-None.is) in
    placed ms top c.requires.0 c.requires.1 none
