use Rattle.std.proofs.Common.{ℕ, List, set, arith, sym, subst, ◌∙◌}
use Rattle.elab_flat_graphs.specs.declared.search.Mark.TheVariants as m
use Rattle.elab_flat_graphs.specs.Searching.{searched, IsSearch}
use Rattle.elab_flat_graphs.proofs.Searching.{opened, known_set, open_new, open_changes, mark_same}
use Rattle.elab_flat_graphs.proofs.search.Search.open.Goals as goal

pub returns-clause-search : goal.returns-clause-search
returns-clause-search c =
    let g = searched c.args.self.now in
    let s = c.args.self.now in
    let P : List ℕ → Type 0 = λ z. IsSearch g (set s.marks.items c.args.v m.Open) s.passed.items z s.done.items in
    subst P (sym c.in_ok-push.ensures.items)
    (opened g s.marks.items s.passed.items s.path.items s.done.items c.args.v c.requires.search c.requires.vertex c.requires.new c.requires.path)

pub returns-clause-known : goal.returns-clause-known
returns-clause-known c =
    let s = c.args.self.now in
    let k = c.requires.search.marks_long in
    let h = c.requires.vertex in
    known_set s.marks.items c.args.v m.Open open_new (omega (arith, h, k))

pub returns-clause-here : goal.returns-clause-here
returns-clause-here c i =
    let s = c.args.self.now in
    let k = c.requires.search.marks_long in
    let h = c.requires.vertex in
    open_new (sym (mark_same s.marks.items c.args.v m.Open (omega (arith, h, k))) ∙ i)

pub returns-clause-changes : goal.returns-clause-changes
returns-clause-changes c =
    let s = c.args.self.now in
    let k = c.requires.search.marks_long in
    let h = c.requires.vertex in
    open_changes s.marks.items c.args.v (omega (arith, h, k)) c.requires.new
