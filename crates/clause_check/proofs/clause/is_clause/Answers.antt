use Rattle.std.proofs.Common.{◌≡◌, ◌↔◌, IsTrue, map, subst, rules}
use Rattle.std.specs.List.Sorted.{IsPermutation, IsStrictlyIncreasing}
use Rattle.clause_check.specs.declared.literal.Lit.{Lit}
use Rattle.clause_check.proofs.DistinctLemmas.{clause_from_sorted}
use Rattle.clause_check.proofs.clause.is_clause.Goals as goal

pub returns : goal.returns
returns c =
    let lits = c.args.lits.now in
    let items : c.in_ok-vars.vars.items ≡ map (λ (l : Lit). l.var) lits = search rules in
    let moves : IsPermutation (map (λ (l : Lit). l.var) lits) c.sort.new.self.items = subst (λ xs. IsPermutation xs c.sort.new.self.items) items c.in_ok-sort.ensures.permutation in
    let same = clause_from_sorted lits c.sort.new.self.items moves c.in_ok-sort.ensures.sorted in
    let rises : IsTrue c.is_rising.result ↔ IsStrictlyIncreasing c.sort.new.self.items = subst (λ xs. IsTrue c.is_rising.result ↔ IsStrictlyIncreasing xs) c.as_slice.ensures.value c.is_rising.ensures in
    (λ h. same.0 (rises.0 h), λ h. rises.1 (same.1 h))
