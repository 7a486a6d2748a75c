use Rattle.std.proofs.Common.{◌≡◌, inr, sym, ap, ◌∙◌}
use Rattle.elab_flat_graphs.specs.declared.search.Mark.TheVariants as m
use Rattle.elab_flat_graphs.specs.Searching.{searched, mark_at}
use Rattle.elab_flat_graphs.proofs.Searching.{new_or, leads, cycles}
use Rattle.elab_flat_graphs.proofs.search.Search.enter.Goals as goal

pub open-requires : goal.open-requires
open-requires c =
    let g = searched c.args.self.now in
    let s = c.args.self.now in
    let l = c.requires.graph c.args.v c.args.next c.requires.next in
    let e : mark_at s.marks.items c.args.next ≡ m.New = ap (λ z. mark_at z c.args.next) (sym c.deref.ensures.value) ∙ sym c.mark_of.ensures ∙ new_or _ (λ d. c.requires.open (ap (λ z. mark_at z c.args.next) (sym c.deref.ensures.value) ∙ sym c.mark_of.ensures ∙ d)) c.in-New.is in
    record { search = c.requires.search; vertex = l; new = e; path = inr (leads g _ _ _ _ c.args.v c.args.next c.requires.search c.requires.last c.requires.next) }

pub returns-in-Open-clause-cycle : goal.returns-in-Open-clause-cycle
returns-in-Open-clause-cycle c =
    let s = c.args.self.now in
    let e : mark_at s.marks.items c.args.next ≡ m.Open = ap (λ z. mark_at z c.args.next) (sym c.deref.ensures.value) ∙ sym c.mark_of.ensures ∙ c.in-Open.is in
    cycles (searched c.args.self.now) _ _ _ _ c.args.v c.args.next c.requires.search c.requires.last c.requires.next e
