-- The top bit of a word.
use Rattle.std.proofs.Common.{◌≡◌, suc, ◌-◌, ◌<◌, List, [], ◌∷◌, ◌++◌, length, take, get_or, refl, ap, ◌∙◌, arith}
use Rattle.clause_check.specs.declared.literal.Lit.{Lit}
use Rattle.clause_check.specs.Clauses.{negated}
use Rattle.cnf_build.proofs.Comparisons.{length-top_turned}
use Rattle.cnf_build.specs.Circuits.{top_of, top_turned, false_lit}

last_of : (l : Lit) (xs : List Lit) (d : Lit) → get_or (l ∷ xs) (length xs) d ≡ top_of (l ∷ xs)
last_of l [] d = refl
last_of l (x ∷ xs) d = last_of x xs d

pub top_is_last : (xs : List Lit) (d : Lit) → 0 < length xs → get_or xs (length xs - 1) d ≡ top_of xs
top_is_last [] d p = absurd (omega arith)
top_is_last (l ∷ xs) d p = let e : suc (length xs) - 1 ≡ length xs = omega arith in ap (λ k. get_or (l ∷ xs) k d) e ∙ last_of l xs d

pub top_of_none : (xs : List Lit) → length xs ≡ 0 → top_of xs ≡ false_lit
top_of_none [] e = refl
top_of_none (x ∷ xs) e = absurd (omega arith)

turn_last : (l : Lit) (xs : List Lit) (d : Lit) → take (length xs) (l ∷ xs) ++ negated (get_or (l ∷ xs) (length xs) d) ∷ [] ≡ top_turned (l ∷ xs)
turn_last l [] d = refl
turn_last l (x ∷ xs) d = ap (λ r. l ∷ r) (turn_last x xs d)

pub turned_is_last : (xs : List Lit) (d : Lit) → 0 < length xs → take (length xs - 1) xs ++ negated (get_or xs (length xs - 1) d) ∷ [] ≡ top_turned xs
turned_is_last [] d p = absurd (omega arith)
turned_is_last (l ∷ xs) d p = let e : suc (length xs) - 1 ≡ length xs = omega arith in ap (λ k. take k (l ∷ xs) ++ negated (get_or (l ∷ xs) k d) ∷ []) e ∙ turn_last l xs d

pub turned_none : (xs : List Lit) → length xs ≡ 0 → [] ≡ top_turned xs
turned_none [] e = refl
turned_none (x ∷ xs) e = absurd (omega arith)

pub ruleset tops = (top_is_last, top_of_none, turned_is_last, turned_none)

pub turned_long : (xs ys : List Lit) → ys ≡ top_turned xs → length ys ≡ length xs
turned_long xs ys e = ap length e ∙ length-top_turned xs

pub ruleset lengths = (turned_long, length-top_turned)
