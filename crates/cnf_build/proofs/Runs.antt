-- Runs of a netlist in parts.
use Rattle.std.proofs.Common.{◌≡◌, ℕ, suc, ◌+◌, Bool, List, [], ◌∷◌, ◌++◌, length, subst, arith}
use Rattle.cnf_build.specs.declared.gates.Gate.{Gate}
use Rattle.cnf_build.specs.Gates.{Runs}

pub Runs-front : (s : ℕ → Bool) (k : ℕ) (xs ys : List Gate) → Runs s k (xs ++ ys) → Runs s k xs
Runs-front s k [] ys r = tt
Runs-front s k (x ∷ xs) ys r = (r.0, Runs-front s (suc k) xs ys r.1)

pub Runs-back : (s : ℕ → Bool) (k : ℕ) (xs ys : List Gate) → Runs s k (xs ++ ys) → Runs s (k + length xs) ys
Runs-back s k [] ys r = let e : k ≡ k + 0 = omega arith in subst (λ n. Runs s n ys) e r
Runs-back s k (x ∷ xs) ys r =
    let e : suc k + length xs ≡ k + suc (length xs) = omega arith in
    subst (λ n. Runs s n ys) e (Runs-back s (suc k) xs ys r.1)
