-- Clauses that are added one after the other.
use Rattle.std.proofs.Common.{◌≡◌, List, [], ◌∷◌, ◌++◌, refl, ap, append_assoc}
use Rattle.clause_check.specs.declared.literal.Lit.{Lit}

pub append_nil : (xs : List (List Lit)) → xs ++ [] ≡ xs
append_nil [] = refl
append_nil (x ∷ xs) = ap (λ r. x ∷ r) (append_nil xs)

pub append_two : (xs a b : List (List Lit)) → (xs ++ a) ++ b ≡ xs ++ (a ++ b)
append_two xs a b = append_assoc xs a b

pub ruleset joined = (append_nil, append_two)
