-- Counts of faults and helpers over several calls.
use Rattle.std.proofs.Common.{◌≡◌, sym, subst, arith}
use Rattle.proof_store.specs.Counts.{NoneFalls}
use Rattle.proof_store.specs.Provers.{Counts, Proceeds, Rises}
use Rattle.proof_store.proofs.Asking.{none_falls_on, none_falls_same}
use Rattle.proof_store.proofs.Faults.{rises_on}

-- nothing happened
pub proceeds_same : (failed : Type 0) (c : Counts) → (failed → ⊥) → Proceeds failed c c
proceeds_same failed c never = record { keeper = record { later = omega arith; rose = λ f. absurd (never f) }; helpers = none_falls_same c.asked }

-- one after another
pub proceeds_on : (before failed : Type 0) (a b c : Counts) → Proceeds before a b → Proceeds failed b c → Proceeds failed a c
proceeds_on before failed a b c first then = record {
  keeper = rises_on before failed a.faults b.faults c.faults first.keeper then.keeper;
  helpers = none_falls_on a.asked b.asked c.asked first.helpers then.helpers;
}

-- only the keeper was asked
pub keeper_proceeds : (failed : Type 0) (a b : Counts) → Rises failed a.faults b.faults → b.asked ≡ a.asked → Proceeds failed a b
keeper_proceeds failed a b rises same = record { keeper = rises; helpers = subst (NoneFalls a.asked) (sym same) (none_falls_same a.asked) }

-- what came to no refusal of the keeper
pub proceeds_well : (before failed : Type 0) (a b : Counts) → (failed → ⊥) → Proceeds before a b → Proceeds failed a b
proceeds_well before failed a b never h = record { keeper = record { later = h.keeper.later; rose = λ f. absurd (never f) }; helpers = h.helpers }
