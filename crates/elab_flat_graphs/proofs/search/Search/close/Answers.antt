use Rattle.std.proofs.Common.{ℕ, List, set, arith, sym, subst, ◌∙◌, ◌≡◌}
use Rattle.elab_flat_graphs.specs.declared.search.Mark.TheVariants as m
use Rattle.elab_flat_graphs.specs.Searching.{searched, IsSearch}
use Rattle.elab_flat_graphs.proofs.Searching.{closed, known_set, done_new, done_changes, front_taken}
use Rattle.elab_flat_graphs.proofs.Searching.{opens_at}
use Rattle.elab_flat_graphs.proofs.search.Search.close.Goals as goal

pub index_mut-requires : goal.index_mut-requires
index_mut-requires c =
    let o = opens_at _ _ _ _ _ c.args.v c.requires.search c.requires.last in
    let l = c.args.self.now.marks.ok.0 in
    let h = o.0 in
    omega (arith, l, h)

pub returns-clause-search : goal.returns-clause-search
returns-clause-search c =
    let g = searched c.args.self.now in
    let s = c.args.self.now in
    let last = c.requires.last in
    let n = s.path.ok.0 in
    let r : c.pop.new.self.items ≡ last.0 = c.pop.ensures.rest ∙ front_taken s.path.items last.0 c.args.v s.path.len last.1 (omega (arith, n)) in
    let P : List ℕ → Type 0 = λ z. IsSearch g (set s.marks.items c.args.v m.Done) s.passed.items z c.push.new.self.items in
    let Q : List ℕ → Type 0 = λ z. IsSearch g (set s.marks.items c.args.v m.Done) s.passed.items last.0 z in
    let R : List ℕ → Type 0 = λ z. IsSearch g s.marks.items s.passed.items z s.done.items in
    subst P (sym r) (subst Q (sym c.in_ok-push.ensures.items) (closed g s.marks.items s.passed.items last.0 s.done.items c.args.v (subst R last.1 c.requires.search) c.requires.successors))

pub returns-clause-known : goal.returns-clause-known
returns-clause-known c =
    let s = c.args.self.now in
    known_set s.marks.items c.args.v m.Done done_new (opens_at _ _ _ _ _ c.args.v c.requires.search c.requires.last).0

pub returns-clause-changes : goal.returns-clause-changes
returns-clause-changes c =
    let s = c.args.self.now in
    let o = opens_at _ _ _ _ _ c.args.v c.requires.search c.requires.last in
    done_changes s.marks.items c.args.v o.0 o.1
