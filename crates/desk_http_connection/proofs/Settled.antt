-- A front that a bound ended is the front of all longer bytes too.
use Rattle.std.proofs.Common.{◌≡◌, ◌≤◌, ◌<◌, ℕ, ◌-◌, Bool, true, false, cond, List, [], ◌∷◌, ◌++◌, take, length, refl, ap, ◌∙◌, arith}
use Prim.Native.Nat.{zero, suc}
use Rattle.std.proofs.lemmas.Bool.Decides.{nat_tests}
use Rattle.std.specs.Prelude.{◌==◌, ◌||◌, nat_le}
use Rattle.desk_http_request.specs.Front.{front, is_full, is_line_break, lines_after_breaks, lines_left, lines_of, skip_breaks}
use Rattle.desk_http_request.proofs.Lines.{lines_of-none}

lines_ended : (n : ℕ) (xs ys : List ℕ) → lines_left n xs ≡ 0 → lines_of n (xs ++ ys) ≡ lines_of n xs
lines_ended n [] ys e = ap (λ (m : ℕ). lines_of m ys) e ∙ lines_of-none ys
lines_ended n (x ∷ xs) ys e = go (n == 0) (lines_ended (cond (x == 10) (n - 1) n) xs ys) e
  where
    go : (b : Bool) → (lines_left (cond (x == 10) (n - 1) n) xs ≡ 0 → lines_of (cond (x == 10) (n - 1) n) (xs ++ ys) ≡ lines_of (cond (x == 10) (n - 1) n) xs)
        → cond b 0 (lines_left (cond (x == 10) (n - 1) n) xs) ≡ 0
        → cond b [] (x ∷ lines_of (cond (x == 10) (n - 1) n) (xs ++ ys)) ≡ cond b [] (x ∷ lines_of (cond (x == 10) (n - 1) n) xs)
    go true h l = refl
    go false h l = ap (λ (t : List ℕ). x ∷ t) (h l)

ended_after_breaks : (n : ℕ) (xs ys : List ℕ) → 0 < n → lines_left n (skip_breaks xs) ≡ 0
    → lines_after_breaks n (xs ++ ys) ≡ lines_after_breaks n xs
ended_after_breaks n [] ys some e = absurd (omega (arith, some, e))
ended_after_breaks n (x ∷ xs) ys some e = go (is_line_break x) (ended_after_breaks n xs ys some) (lines_ended n (x ∷ xs) ys) e
  where
    go : (b : Bool) → (lines_left n (skip_breaks xs) ≡ 0 → lines_after_breaks n (xs ++ ys) ≡ lines_after_breaks n xs)
        → (lines_left n (x ∷ xs) ≡ 0 → lines_of n (x ∷ (xs ++ ys)) ≡ lines_of n (x ∷ xs))
        → lines_left n (cond b (skip_breaks xs) (x ∷ xs)) ≡ 0
        → cond b (x ∷ lines_after_breaks n (xs ++ ys)) (lines_of n (x ∷ (xs ++ ys))) ≡ cond b (x ∷ lines_after_breaks n xs) (lines_of n (x ∷ xs))
    go true h l e = ap (λ (t : List ℕ). x ∷ t) (h e)
    go false h l e = l e

none_taken : (a b : List ℕ) → take 0 a ≡ take 0 b
none_taken [] [] = refl
none_taken [] (y ∷ b) = refl
none_taken (x ∷ a) [] = refl
none_taken (x ∷ a) (y ∷ b) = refl

same_lines : (k n : ℕ) (xs ys : List ℕ) → k ≤ length xs → take k (lines_of n (xs ++ ys)) ≡ take k (lines_of n xs)
same_lines zero n xs ys le = none_taken (lines_of n (xs ++ ys)) (lines_of n xs)
same_lines (suc k) n [] ys le = absurd (omega (arith, le))
same_lines (suc k) n (x ∷ xs) ys le = go (n == 0) (same_lines k (cond (x == 10) (n - 1) n) xs ys (omega (arith, le)))
  where
    go : (b : Bool) → take k (lines_of (cond (x == 10) (n - 1) n) (xs ++ ys)) ≡ take k (lines_of (cond (x == 10) (n - 1) n) xs)
        → take (suc k) (cond b [] (x ∷ lines_of (cond (x == 10) (n - 1) n) (xs ++ ys))) ≡ take (suc k) (cond b [] (x ∷ lines_of (cond (x == 10) (n - 1) n) xs))
    go true h = refl
    go false h = ap (λ (t : List ℕ). x ∷ t) h

same_after_breaks : (k n : ℕ) (xs ys : List ℕ) → k ≤ length xs → take k (lines_after_breaks n (xs ++ ys)) ≡ take k (lines_after_breaks n xs)
same_after_breaks zero n xs ys le = none_taken (lines_after_breaks n (xs ++ ys)) (lines_after_breaks n xs)
same_after_breaks (suc k) n [] ys le = absurd (omega (arith, le))
same_after_breaks (suc k) n (x ∷ xs) ys le =
    go (is_line_break x) (same_after_breaks k n xs ys (omega (arith, le))) (same_lines (suc k) n (x ∷ xs) ys le)
  where
    go : (b : Bool) → take k (lines_after_breaks n (xs ++ ys)) ≡ take k (lines_after_breaks n xs)
        → take (suc k) (lines_of n (x ∷ (xs ++ ys))) ≡ take (suc k) (lines_of n (x ∷ xs))
        → take (suc k) (cond b (x ∷ lines_after_breaks n (xs ++ ys)) (lines_of n (x ∷ (xs ++ ys))))
        ≡ take (suc k) (cond b (x ∷ lines_after_breaks n xs) (lines_of n (x ∷ xs)))
    go true h l = ap (λ (t : List ℕ). x ∷ t) h
    go false h l = l

pub front_settled : (bytes more : List ℕ) → is_full bytes ≡ true → front (bytes ++ more) ≡ front bytes
front_settled bytes more full = go (nat_le 16384 (length bytes)) refl full
  where
    go : (b : Bool) → nat_le 16384 (length bytes) ≡ b → (b || lines_left 66 (skip_breaks bytes) == 0) ≡ true → front (bytes ++ more) ≡ front bytes
    go true e f = same_after_breaks 16384 66 bytes more (grind (arith, nat_tests))
    go false e f =
        let none : lines_left 66 (skip_breaks bytes) ≡ 0 = grind (arith, nat_tests) in
        ap (take 16384) (ended_after_breaks 66 bytes more (omega arith) none)
