-- An honest chain has fewer steps than an ample budget.
use Rattle.std.proofs.Common.{ℕ, ◌^◌, ◌<◌, List, [], ◌∷◌, length, subst, arith}
use Rattle.std.specs.List.{AllZip}
use Rattle.word_dag.specs.Nodes.{Parts}
use Rattle.cnf_build.specs.Lower.{netlist}
use Rattle.cdcl.proofs.CountLemmas.{few_steps}
use Rattle.job_pool.specs.Ample.{DecidesIfAmple}
use Rattle.job_pool.specs.Shown.{IsShown}
use Rattle.job_pool.specs.declared.evidence.Evidence.{Evidence}
use Rattle.job_pool.specs.declared.evidence.Evidence.TheVariants.{Derivation, Values, Chain}

pub decides : (budget : ℕ) (ob : Parts) (evidence : Evidence) → IsShown budget ob evidence → DecidesIfAmple budget ob evidence
decides budget ob (Derivation steps) h ample = tt
decides budget ob (Values us) h ample = tt
decides budget ob (Chain steps) h ample =
    let few : length steps.items < 3 ^ length (netlist ob.nodes) = subst (λ n. length steps.items < 3 ^ n) h.vars (few_steps h.formula steps.items h.shown.1) in
    let whole = h.shown.0 in
    absurd (omega (arith, few, whole, ample))

pub all_decide : (budget : ℕ) (obs : List Parts) (ends : List Evidence) → AllZip (IsShown budget) obs ends → AllZip (DecidesIfAmple budget) obs ends
all_decide budget [] [] h = tt
all_decide budget [] (e ∷ ends) h = h
all_decide budget (ob ∷ obs) [] h = h
all_decide budget (ob ∷ obs) (e ∷ ends) h = (decides budget ob e h.0, all_decide budget obs ends h.1)
