use Rattle.std.proofs.Common.{sym, ap, ◌∙◌, map}
use Rattle.vlog_tree_runs.specs.Scopes.{decl_at}
use Rattle.elab_flat_scopes.specs.Borrowed.{decl_meant}
use Rattle.elab_flat_scopes.specs.Finding.{decl_name}
use Rattle.elab_flat_scopes.proofs.Finding.{finds_at, finds_none, decl_found, got_meant}
use Rattle.elab_flat_scopes.proofs.signal.Signals.at.Goals as goal

pub returns-in-Some : goal.returns-in-Some
returns-in-Some c =
    let ds = map decl_meant c.self.inside.list.items in
    got_meant decl_meant c.self.inside.list.items c.in-Some.place c.get.result (rw c.deref.ensures.value at c.get.ensures.lookup)
    ∙ (finds_at decl_name ds c.self.inside.names c.args.name.now c.self.invariant c.place.result c.place.ensures c.in-Some.place c.in-Some.is
    ∙ (decl_found ds c.args.name.now ∙ ap (λ ms. decl_at ms c.args.name.now) c.self.view_is))

pub returns-in-None : goal.returns-in-None
returns-in-None c =
    let ds = map decl_meant c.self.inside.list.items in
    sym (finds_none decl_name ds c.self.inside.names c.args.name.now c.self.invariant c.place.result c.place.ensures c.in-None.is)
    ∙ (decl_found ds c.args.name.now ∙ ap (λ ms. decl_at ms c.args.name.now) c.self.view_is)
