-- A count of faults over several calls.
use Rattle.std.proofs.Common.{ℕ, ◌≤◌, ◌<◌, inl, inr, ⊎_elim, arith}
use Rattle.outside.specs.Faults.{Rose}
use Rattle.proof_store.specs.Provers.{Rises}

-- what rose after a while rose in all
pub rose_from : (before now after : ℕ) → before ≤ now → Rose now after → Rose before after
rose_from before now after later rose = ⊎_elim (λ less. inl (less_than before now after later less)) (λ top. inr top) rose
  where
    less_than : (a b c : ℕ) → a ≤ b → b < c → a < c
    less_than a b c p q = omega arith

pub rises_on : (before failed : Type 0) (a b c : ℕ) → Rises before a b → Rises failed b c → Rises failed a c
rises_on before failed a b c first then = record {
  later = let one = first.later in let two = then.later in omega (arith, one, two);
  rose = λ f. rose_from a b c first.later (then.rose f);
}
