-- The lists of lines, one line after another.
use Rattle.std.proofs.Common.{◌≡◌, ℕ, zero, suc, ◌+◌, ◌-◌, ◌≤◌, Bool, true, false, List, [], ◌∷◌, ◌++◌, map, refl, sym, ap, ◌∙◌, arith, append_assoc}
use Rattle.std.specs.List.{filter, flat_map}
use Rattle.std.proofs.lemmas.List.{flat_map_more}
use Rattle.std.proofs.lemmas.List.Elements.{filter-append}
use Rattle.set_tree.specs.declared.line.Line.{Line}
use Rattle.set_tree.specs.Report.{numbers_from}

map_more : {X A : Type 0} (f : X → A) (xs : List X) (x : X) → map f (xs ++ x ∷ []) ≡ map f xs ++ f x ∷ []
map_more f [] x = refl
map_more f (y ∷ xs) x = ap (λ (ys : List _). f y ∷ ys) (map_more f xs x)

pub numbers_more : (n k : ℕ) → numbers_from n (k + 1) ≡ numbers_from n k ++ (n + k) ∷ []
numbers_more n k = let next : k + 1 ≡ suc k = omega arith in rw next (at n k)
  where
    at : (n k : ℕ) → numbers_from n (suc k) ≡ numbers_from n k ++ (n + k) ∷ []
    at n zero = let here : n ≡ n + 0 = omega arith in ap (λ (m : ℕ). m ∷ []) here
    at n (suc k) = let here : suc n + k ≡ n + suc k = omega arith in ap (λ (ms : List ℕ). n ∷ ms) (at (suc n) k ∙ ap (λ (m : ℕ). numbers_from (suc n) k ++ m ∷ []) here)

-- one more line for a number
pub all_step : (f : ℕ → Line) (old new next : List Line) (k : ℕ) → new ≡ old ++ map f (numbers_from 0 k) → next ≡ new ++ f k ∷ [] → next ≡ old ++ map f (numbers_from 0 (k + 1))
all_step f old new next k is made =
    let here : 0 + k ≡ k = omega arith in
    made ∙ (ap (λ (ls : List Line). ls ++ f k ∷ []) is ∙ (append_assoc old (map f (numbers_from 0 k)) (f k ∷ []) ∙ ap (λ (ls : List Line). old ++ ls) (sym (map_more f (numbers_from 0 k) k) ∙ ap (map f) (ap (λ (m : ℕ). numbers_from 0 k ++ m ∷ []) (sym here) ∙ sym (numbers_more 0 k)))))

-- one more number that passes the test, and one that doesn't
numbers_next : (p : ℕ) → 1 ≤ p → numbers_from 1 (p + 1 - 1) ≡ numbers_from 1 (p - 1) ++ p ∷ []
numbers_next p le =
    let count : p + 1 - 1 ≡ p - 1 + 1 = omega arith in
    let here : 1 + (p - 1) ≡ p = omega (arith, le) in
    ap (numbers_from 1) count ∙ (numbers_more 1 (p - 1) ∙ ap (λ (m : ℕ). numbers_from 1 (p - 1) ++ m ∷ []) here)

filter_one : (h : ℕ → Bool) (p : ℕ) → h p ≡ true → filter h (p ∷ []) ≡ p ∷ []
filter_one h p is = rw is refl

filter_none : (h : ℕ → Bool) (p : ℕ) → h p ≡ false → filter h (p ∷ []) ≡ []
filter_none h p is = rw is refl

append_nil : {X : Type 0} (xs : List X) → xs ++ [] ≡ xs
append_nil [] = refl
append_nil (x ∷ xs) = ap (λ (ys : List _). x ∷ ys) (append_nil xs)

pub until_step : (f : ℕ → Line) (h : ℕ → Bool) (old new next : List Line) (p : ℕ) → 1 ≤ p → h p ≡ true → new ≡ old ++ map f (filter h (numbers_from 1 (p - 1))) → next ≡ new ++ f p ∷ [] → next ≡ old ++ map f (filter h (numbers_from 1 (p + 1 - 1)))
until_step f h old new next p le passes is made =
    let before = filter h (numbers_from 1 (p - 1)) in
    let more : filter h (numbers_from 1 (p + 1 - 1)) ≡ before ++ p ∷ [] = ap (filter h) (numbers_next p le) ∙ (filter-append h (numbers_from 1 (p - 1)) (p ∷ []) ∙ ap (λ (ns : List ℕ). before ++ ns) (filter_one h p passes)) in
    made ∙ (ap (λ (ls : List Line). ls ++ f p ∷ []) is ∙ (append_assoc old (map f before) (f p ∷ []) ∙ ap (λ (ls : List Line). old ++ ls) (sym (map_more f before p) ∙ ap (map f) (sym more))))

pub until_same : (f : ℕ → Line) (h : ℕ → Bool) (old new : List Line) (p : ℕ) → 1 ≤ p → h p ≡ false → new ≡ old ++ map f (filter h (numbers_from 1 (p - 1))) → new ≡ old ++ map f (filter h (numbers_from 1 (p + 1 - 1)))
until_same f h old new p le fails is =
    let before = filter h (numbers_from 1 (p - 1)) in
    let more : filter h (numbers_from 1 (p + 1 - 1)) ≡ before = ap (filter h) (numbers_next p le) ∙ (filter-append h (numbers_from 1 (p - 1)) (p ∷ []) ∙ (ap (λ (ns : List ℕ). before ++ ns) (filter_none h p fails) ∙ append_nil before)) in
    is ∙ ap (λ (ns : List ℕ). old ++ map f ns) (sym more)

-- the lines of one more property
pub edges_step : (f : ℕ → List Line) (old new next : List Line) (k : ℕ) → new ≡ old ++ flat_map f (numbers_from 0 k) → next ≡ new ++ f k → next ≡ old ++ flat_map f (numbers_from 0 (k + 1))
edges_step f old new next k is made =
    let here : 0 + k ≡ k = omega arith in
    made ∙ (ap (λ (ls : List Line). ls ++ f k) is ∙ (flat_map_more f old (numbers_from 0 k) k ∙ ap (λ (ns : List ℕ). old ++ flat_map f ns) (ap (λ (m : ℕ). numbers_from 0 k ++ m ∷ []) (sym here) ∙ sym (numbers_more 0 k))))
