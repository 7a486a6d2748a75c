use Rattle.std.proofs.Common.{Some, None, sym, ap, ◌∙◌, map}
use Rattle.std.specs.Option.{option_map}
use Rattle.elab_flat_scopes.specs.Borrowed.{given_meant}
use Rattle.elab_flat_scopes.specs.Finding.{place_in}
use Rattle.elab_flat_scopes.proofs.Finding.{finds_at, finds_none, got_meant}
use Rattle.elab_flat_params.specs.Parameters.{given_name}
use Rattle.elab_flat_params.proofs.Parameters.{given_is}
use Rattle.elab_flat_clocks.proofs.table.given_at.Goals as goal

pub returns-in-Some-get : goal.returns-in-Some-get
returns-in-Some-get c =
    let ds = map given_meant c.args.given.now in
    given_is ds c.args.name.now (Some (given_meant c.in-Some-get.gift.now))
    (ap (option_map (λ x. given_meant x.now)) (sym c.in-Some-get.is)
    ∙ (got_meant given_meant c.args.given.now c.in-Some.place c.get.result c.get.ensures.lookup
    ∙ finds_at given_name ds c.args.names.now c.args.name.now c.requires c.place.result (c.place.ensures ∙ ap (place_in c.args.names.now) c.bytes.ensures) c.in-Some.place c.in-Some.is))

pub returns-in-None-get : goal.returns-in-None-get
returns-in-None-get c =
    let ds = map given_meant c.args.given.now in
    given_is ds c.args.name.now None
    (ap (option_map (λ x. given_meant x.now)) (sym c.in-None-get.is)
    ∙ (got_meant given_meant c.args.given.now c.in-Some.place c.get.result c.get.ensures.lookup
    ∙ finds_at given_name ds c.args.names.now c.args.name.now c.requires c.place.result (c.place.ensures ∙ ap (place_in c.args.names.now) c.bytes.ensures) c.in-Some.place c.in-Some.is))

pub returns-in-None : goal.returns-in-None
returns-in-None c =
    let ds = map given_meant c.args.given.now in
    given_is ds c.args.name.now None (sym (finds_none given_name ds c.args.names.now c.args.name.now c.requires c.place.result (c.place.ensures ∙ ap (place_in c.args.names.now) c.bytes.ensures) c.in-None.is))
