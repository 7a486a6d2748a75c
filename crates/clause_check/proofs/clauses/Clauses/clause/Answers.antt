use Rattle.std.proofs.Common.{arith, ◌≡◌, ◌≤◌, ◌+◌, ℕ, List, [], length, get_or, subst, sym, ◌∙◌, ap, refl}
use Rattle.std.specs.Prelude.{slice_range}
use Rattle.clause_check.specs.declared.literal.Lit.{Lit}
use Rattle.clause_check.specs.Clauses.{IsClause}
use Rattle.clause_check.proofs.PartLemmas.{part_at, bounds_len}
use Rattle.clause_check.proofs.clauses.Clauses.clause.Goals as goal

-- what stands between the same bounds of the same literals
same_part : (lits ms : List Lit) (bs cs : List ℕ) (k next : ℕ) → ms ≡ lits → cs ≡ bs → slice_range ms (get_or cs k 0) (get_or cs next 0) ≡ slice_range lits (get_or bs k 0) (get_or bs next 0)
same_part lits ms bs cs k next el eb = ap (λ (xs : List Lit). slice_range xs (get_or cs k 0) (get_or cs next 0)) el ∙ ap (λ (ns : List ℕ). slice_range lits (get_or ns k 0) (get_or ns next 0)) eb

pub part-requires-clause-known : goal.part-requires-clause-known
part-requires-clause-known c =
    omega (arith, c.requires, ap length c.self.view_is, bounds_len c.self.inside.lits.items c.self.inside.bounds.items c.self.invariant, ap length c.deref-2.ensures.value)

pub part-requires-clause-ordered : goal.part-requires-clause-ordered
part-requires-clause-ordered c =
    let p = part_at c.self.inside.lits.items c.self.inside.bounds.items c.args.number (c.args.number + 1) c.self.invariant refl (omega (arith, c.requires, ap length c.self.view_is)) in
    subst (λ (bs : List ℕ). get_or bs c.args.number 0 ≤ get_or bs (c.args.number + 1) 0) (sym c.deref-2.ensures.value) p.ordered

pub part-requires-clause-within : goal.part-requires-clause-within
part-requires-clause-within c =
    let p = part_at c.self.inside.lits.items c.self.inside.bounds.items c.args.number (c.args.number + 1) c.self.invariant refl (omega (arith, c.requires, ap length c.self.view_is)) in
    subst (λ (bs : List ℕ). get_or bs (c.args.number + 1) 0 ≤ length c.deref.result.now) (sym c.deref-2.ensures.value) (omega (arith, p.within, ap length c.deref.ensures.value))

pub returns-clause-lits : goal.returns-clause-lits
returns-clause-lits c =
    let p = part_at c.self.inside.lits.items c.self.inside.bounds.items c.args.number (c.args.number + 1) c.self.invariant refl (omega (arith, c.requires, ap length c.self.view_is)) in
    let same = same_part c.self.inside.lits.items c.deref.result.now c.self.inside.bounds.items c.deref-2.result.now c.args.number (c.args.number + 1) c.deref.ensures.value c.deref-2.ensures.value in
    c.part.ensures ∙ (same ∙ (sym (p.is []) ∙ ap (λ (cs : List (List Lit)). get_or cs c.args.number []) c.self.view_is))

pub returns-clause-distinct : goal.returns-clause-distinct
returns-clause-distinct c =
    let p = part_at c.self.inside.lits.items c.self.inside.bounds.items c.args.number (c.args.number + 1) c.self.invariant refl (omega (arith, c.requires, ap length c.self.view_is)) in
    let same = same_part c.self.inside.lits.items c.deref.result.now c.self.inside.bounds.items c.deref-2.result.now c.args.number (c.args.number + 1) c.deref.ensures.value c.deref-2.ensures.value in
    subst IsClause (sym (c.part.ensures ∙ same)) p.distinct
