use Rattle.std.proofs.Common.{Some, None, sym, ap, ◌∙◌, map}
use Rattle.std.specs.Option.{option_map}
use Rattle.elab_flat_scopes.proofs.Finding.{finds_at, finds_none, got_meant}
use Rattle.elab_flat_clocks.specs.Tables.{link_meant, link_name, input_at}
use Rattle.elab_flat_clocks.proofs.Inputs.{link_is}
use Rattle.elab_flat_clocks.proofs.table.Table.input.Goals as goal

pub returns-in-Some-get : goal.returns-in-Some-get
returns-in-Some-get c =
    let ls = map link_meant c.self.inside.list.items in
    link_is ls c.args.name.now (Some (link_meant c.in-Some-get.link.now))
    (ap (option_map (λ x. link_meant x.now)) (sym c.in-Some-get.is)
    ∙ (got_meant link_meant c.self.inside.list.items c.in-Some.place c.get.result (rw c.deref.ensures.value at c.get.ensures.lookup)
    ∙ finds_at link_name ls c.self.inside.names c.args.name.now c.self.invariant c.place.result c.place.ensures c.in-Some.place c.in-Some.is))
    ∙ ap (λ zs. input_at zs c.args.name.now) c.self.view_is

pub returns-in-None-get : goal.returns-in-None-get
returns-in-None-get c =
    let ls = map link_meant c.self.inside.list.items in
    link_is ls c.args.name.now None
    (ap (option_map (λ x. link_meant x.now)) (sym c.in-None-get.is)
    ∙ (got_meant link_meant c.self.inside.list.items c.in-Some.place c.get.result (rw c.deref.ensures.value at c.get.ensures.lookup)
    ∙ finds_at link_name ls c.self.inside.names c.args.name.now c.self.invariant c.place.result c.place.ensures c.in-Some.place c.in-Some.is))
    ∙ ap (λ zs. input_at zs c.args.name.now) c.self.view_is

pub returns-in-None : goal.returns-in-None
returns-in-None c =
    let ls = map link_meant c.self.inside.list.items in
    link_is ls c.args.name.now None (sym (finds_none link_name ls c.self.inside.names c.args.name.now c.self.invariant c.place.result c.place.ensures c.in-None.is))
    ∙ ap (λ zs. input_at zs c.args.name.now) c.self.view_is
