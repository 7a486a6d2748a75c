use Rattle.std.specs.Prelude.{Ok, Err}
use Rattle.std.proofs.lemmas.List.Sorted.{searched}
use Rattle.clause_check_texts.proofs.IdLemmas.{not_falling, place_found, place_none, not_between}
use Rattle.clause_check_texts.proofs.ids.place_of.Goals as goal

pub returns-in-Ok : goal.returns-in-Ok
returns-in-Ok c =
    let ids = c.args.ids.now in
    let s = searched ids c.args.id (Ok c.in-Ok.place) c.in-Ok.ensures.position (not_falling ids c.requires) in
    place_found ids c.requires c.args.id c.in-Ok.place s.0 s.1

pub returns-in-Err : goal.returns-in-Err
returns-in-Err c =
    let ids = c.args.ids.now in
    let s = searched ids c.args.id (Err c.in-Err.field-0) c.in-Err.ensures.position (not_falling ids c.requires) in
    place_none ids c.args.id (not_between ids c.args.id c.in-Err.field-0 s.1 s.2)
