-- What is known of a search that stopped, by the reason.
use Rattle.std.proofs.Common.{◌≡◌, ◌≤◌, ◌^◌, ℕ, length, subst, sym, arith}
use Rattle.clause_check.specs.declared.formula.Cnf.{Cnf}
use Rattle.cdcl.specs.declared.search.Search.{Search}
use Rattle.cdcl.specs.declared.solver.Stop.{Stop}
use Rattle.cdcl.specs.declared.solver.Stop.TheVariants as p
use Rattle.cdcl.specs.Closed.{IsHonest}
use Rattle.cdcl.specs.Ends.{IsStop}
use Rattle.cdcl.specs.Turns.{IsLost, Ends}
use Rattle.cdcl.proofs.CountLemmas.{few_steps}

module _ (cnf : Cnf) (budget : ℕ) (old s : Search) (stop : Stop) (h : IsStop cnf budget old stop) (same : s ≡ old) where
  pub lost_search : (number : ℕ) → stop ≡ p.Lost number → IsLost cnf s number
  lost_search number is = subst (λ (z : Search). IsLost cnf z number) (sym same) (subst (λ (z : Stop). IsStop cnf budget old z) is h)

  pub whole_search : stop ≡ p.Whole → Ends cnf s
  whole_search is = subst (λ (z : Search). Ends cnf z) (sym same) (subst (λ (z : Stop). IsStop cnf budget old z) is h)

  pub spent_search : stop ≡ p.Spent → (length s.steps.items ≡ budget) × IsHonest cnf s.steps.items
  spent_search is = subst (λ (z : Search). (length z.steps.items ≡ budget) × IsHonest cnf z.steps.items) (sym same) (subst (λ (z : Stop). IsStop cnf budget old z) is h)

-- an honest chain isn't that long
pub not_spent : (cnf : Cnf) (budget : ℕ) (s : Search) → (length s.steps.items ≡ budget) × IsHonest cnf s.steps.items → 3 ^ cnf.vars ≤ budget → ⊥
not_spent cnf budget s h le =
    let few = few_steps cnf s.steps.items h.1 in
    omega (arith, few, h.0, le)
