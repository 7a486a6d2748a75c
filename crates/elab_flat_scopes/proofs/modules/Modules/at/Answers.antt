use Rattle.std.proofs.Common.{sym, ap, ◌∙◌}
use Rattle.vlog_tree_runs.specs.Scopes.{module_at}
use Rattle.elab_flat_scopes.specs.Finding.{module_name}
use Rattle.elab_flat_scopes.proofs.Finding.{finds_at, finds_none, module_found, got}
use Rattle.elab_flat_scopes.proofs.modules.Modules.at.Goals as goal

pub returns-in-Some : goal.returns-in-Some
returns-in-Some c =
    got c.self.inside.list.now c.in-Some.place c.get.result c.get.ensures.lookup
    ∙ (finds_at module_name c.self.inside.list.now c.self.inside.names c.args.name.now c.self.invariant c.place.result c.place.ensures c.in-Some.place c.in-Some.is
    ∙ (module_found c.self.inside.list.now c.args.name.now ∙ ap (λ ms. module_at ms c.args.name.now) c.self.view_is))

pub returns-in-None : goal.returns-in-None
returns-in-None c =
    sym (finds_none module_name c.self.inside.list.now c.self.inside.names c.args.name.now c.self.invariant c.place.result c.place.ensures c.in-None.is)
    ∙ (module_found c.self.inside.list.now c.args.name.now ∙ ap (λ ms. module_at ms c.args.name.now) c.self.view_is)
