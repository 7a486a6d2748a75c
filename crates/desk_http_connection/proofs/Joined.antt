-- A head that was read, and the body read after it.
use Rattle.std.proofs.Common.{◌≡◌, ◌≤◌, ℕ, ◌-◌, Bool, true, false, cond, List, [], ◌∷◌, ◌++◌, take, drop, length, refl, sym, ap, subst, ◌∙◌, arith}
use Prim.Native.Nat.{zero, suc}
use Rattle.std.specs.Prelude.{◌==◌}
use Rattle.std.proofs.lemmas.Grind.{common_steps}
use Rattle.std.proofs.lemmas.List.{take_all}
use Rattle.httparse.specs.Grammar.{RequestHead, ReadsRequest}
use Rattle.httparse.proofs.GrammarLemmas.{ReadsRequest-append}
use Rattle.desk_http_request.specs.Front.{front, lines_of, lines_after_breaks, is_line_break}
use Rattle.desk_http_connection.specs.Request.{BeginsWith}

abbrev Grows : List ℕ → List ℕ → Type 0
Grows xs ys = (zs : List ℕ) × (ys ≡ xs ++ zs)

lines_grow : (n : ℕ) (xs ys : List ℕ) → Grows (lines_of n xs) (lines_of n (xs ++ ys))
lines_grow n [] ys = (lines_of n ys, refl)
lines_grow n (x ∷ xs) ys = go (n == 0) (lines_grow (cond (x == 10) (n - 1) n) xs ys)
  where
    go : (b : Bool) → Grows (lines_of (cond (x == 10) (n - 1) n) xs) (lines_of (cond (x == 10) (n - 1) n) (xs ++ ys))
        → Grows (cond b [] (x ∷ lines_of (cond (x == 10) (n - 1) n) xs)) (cond b [] (x ∷ lines_of (cond (x == 10) (n - 1) n) (xs ++ ys)))
    go true h = ([], refl)
    go false h = (h.0, ap (λ (l : List ℕ). x ∷ l) h.1)

after_breaks_grow : (n : ℕ) (xs ys : List ℕ) → Grows (lines_after_breaks n xs) (lines_after_breaks n (xs ++ ys))
after_breaks_grow n [] ys = (lines_after_breaks n ys, refl)
after_breaks_grow n (x ∷ xs) ys = go (is_line_break x) (after_breaks_grow n xs ys) (lines_grow n (x ∷ xs) ys)
  where
    go : (b : Bool) → Grows (lines_after_breaks n xs) (lines_after_breaks n (xs ++ ys)) → Grows (lines_of n (x ∷ xs)) (lines_of n (x ∷ xs ++ ys))
        → Grows (cond b (x ∷ lines_after_breaks n xs) (lines_of n (x ∷ xs))) (cond b (x ∷ lines_after_breaks n (xs ++ ys)) (lines_of n (x ∷ (xs ++ ys))))
    go true h l = (h.0, ap (λ (l : List ℕ). x ∷ l) h.1)
    go false h l = l

take_grow : (k : ℕ) (xs zs : List ℕ) → Grows (take k xs) (take k (xs ++ zs))
take_grow k [] zs = (take k zs, grind (arith, common_steps))
take_grow zero (x ∷ xs) zs = ([], grind (arith, common_steps))
take_grow (suc k) (x ∷ xs) zs = let h = take_grow k xs zs in (h.0, ap (λ (l : List ℕ). x ∷ l) h.1)

pub front_grows : (bytes more : List ℕ) → Grows (front bytes) (front (bytes ++ more))
front_grows bytes more =
    let lines = after_breaks_grow 66 bytes more in
    let taken = take_grow 16384 (lines_after_breaks 66 bytes) lines.0 in
    (taken.0, ap (take 16384) lines.1 ∙ taken.1)

-- a head at the start stays the head when bytes follow
pub begins_still : (bytes more : List ℕ) (h : RequestHead) → BeginsWith bytes h → BeginsWith (bytes ++ more) h
begins_still bytes more h begins =
    let grown = front_grows bytes more in
    (begins.0 ++ grown.0, subst (λ (l : List ℕ). ReadsRequest l h (begins.0 ++ grown.0)) (sym grown.1) (ReadsRequest-append (front bytes) h begins.0 grown.0 begins.1))

-- a body that was filled up to the count is the first bytes after the head
pub filled_is : (count : ℕ) (xs d : List ℕ) → length (take count xs ++ d) ≡ count → take count (xs ++ d) ≡ take count xs ++ d
filled_is zero [] d e = take_all 0 d (omega (arith, e))
filled_is (suc count) [] d e = take_all (suc count) d (omega (arith, e))
filled_is zero (x ∷ xs) d e = grind (arith, common_steps)
filled_is (suc count) (x ∷ xs) d e = ap (λ (l : List ℕ). x ∷ l) (filled_is count xs d (omega (arith, e)))

pub drop_front : (n : ℕ) (xs d : List ℕ) → n ≤ length xs → drop n (xs ++ d) ≡ drop n xs ++ d
drop_front n xs d le = grind (arith, common_steps)
