use Rattle.std.proofs.Common.{◌<◌, length, get_or, arith, ap, sym, subst, ◌∙◌, List, Some}
use Rattle.vlog_tree.specs.declared.valuation.Entry.{Entry}
use Rattle.vlog_tree.specs.Valuation.{EntryFits}
use Rattle.vlog_tree.proofs.Places.{at_none, at_place, fits_at}
use Rattle.vlog_tree.proofs.valuation.Valuation.find.Goals as goal

pub index-requires : goal.index-requires
index-requires c =
    let r = at_place c.args.self.now c.args.name.now c.args.offset c.in-Some.place (sym c.place.ensures ∙ c.in-Some.is) in
    let lt : c.in-Some.place < length c.self.inside.entries.items = subst (λ (ns : List Entry). c.in-Some.place < length ns) (sym c.self.view_is) r.0 in
    omega arith

pub returns-in-Some-clause-found : goal.returns-in-Some-clause-found
returns-in-Some-clause-found c =
    let r = at_place c.args.self.now c.args.name.now c.args.offset c.in-Some.place (sym c.place.ensures ∙ c.in-Some.is) in
    r.1 c.index.result.now ∙ ap Some (sym (c.index.ensures ∙ ap (λ (ns : List Entry). get_or ns c.in-Some.place c.index.result.now) c.self.view_is))

pub returns-in-Some-clause-fits : goal.returns-in-Some-clause-fits
returns-in-Some-clause-fits c =
    let r = at_place c.args.self.now c.args.name.now c.args.offset c.in-Some.place (sym c.place.ensures ∙ c.in-Some.is) in
    let lt = subst (λ (ns : List Entry). c.in-Some.place < length ns) (sym c.self.view_is) r.0 in
    subst EntryFits (sym c.index.ensures) (fits_at c.self.inside.entries.items c.in-Some.place c.index.result.now c.self.invariant.0 lt)

pub returns-in-None-clause-none : goal.returns-in-None-clause-none
returns-in-None-clause-none c = at_none c.args.self.now c.args.name.now c.args.offset (sym c.place.ensures ∙ c.in-None.is)
