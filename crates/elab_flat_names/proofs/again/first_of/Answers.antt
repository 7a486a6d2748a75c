use Rattle.std.proofs.Common.{map, sym, ◌∙◌}
use Rattle.elab_flat_scopes.specs.Borrowed.{decl_meant}
use Rattle.elab_flat_scopes.specs.Finding.{decl_name}
use Rattle.elab_flat_scopes.proofs.Finding.{finds_at, finds_none, decl_found, got_meant}
use Rattle.elab_flat_names.proofs.again.first_of.Goals as goal

pub returns-in-Some : goal.returns-in-Some
returns-in-Some c =
    let ds = map decl_meant c.args.decls.now in
    got_meant decl_meant c.args.decls.now c.in-Some.place c.get.result c.get.ensures.lookup
    ∙ (finds_at decl_name ds c.args.places.now c.args.name.now c.requires c.place.result c.place.ensures c.in-Some.place c.in-Some.is ∙ decl_found ds c.args.name.now)

pub returns-in-None : goal.returns-in-None
returns-in-None c =
    let ds = map decl_meant c.args.decls.now in
    sym (finds_none decl_name ds c.args.places.now c.args.name.now c.requires c.place.result c.place.ensures c.in-None.is) ∙ decl_found ds c.args.name.now
