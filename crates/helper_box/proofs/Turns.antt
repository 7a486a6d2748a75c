-- Helpers that are asked in turn.
use Rattle.std.proofs.Common.{◌≡◌, ℕ, zero, suc, ◌+◌, ◌<◌, ◌≤◌, List, [], ◌∷◌, ◌++◌, length, map, get_or, set, take, drop, refl, sym, ap, ◌∙◌, arith}
use Rattle.helper_box.specs.Asked.{one_more, AsksSome}
use lib.Seq.{map-set}
use Rattle.std.proofs.lemmas.List.{length-map}

-- the first i have been asked
abbrev pub after : ℕ → List ℕ → List ℕ
after i counts = map one_more (take i counts) ++ drop i counts

next : (counts : List ℕ) (i n : ℕ) → i < length counts → n ≡ one_more (get_or (after i counts) i 0) → set (after i counts) i n ≡ after (suc i) counts
next [] i n lt is = absurd (omega arith)
next (x ∷ xs) zero n lt is = ap (λ k. k ∷ xs) is
next (x ∷ xs) (suc i) n lt is = ap (λ l. one_more x ∷ l) (next xs i n (omega arith) is)

length_after : (i : ℕ) (counts : List ℕ) → length (after i counts) ≡ length counts
length_after zero counts = refl
length_after (suc i) [] = refl
length_after (suc i) (x ∷ xs) = ap suc (length_after i xs)

at_map : {A : Type 0} (f : A → ℕ) (xs : List A) (i : ℕ) (d : A) → i < length xs → get_or (map f xs) i 0 ≡ f (get_or xs i d)
at_map f [] i d lt = absurd (omega arith)
at_map f (x ∷ xs) zero d lt = refl
at_map f (x ∷ xs) (suc i) d lt = at_map f xs i d (omega arith)

pub asked_next : {A : Type 0} (f : A → ℕ) (before now : List A) (i : ℕ) (d b : A) → i < length before → map f now ≡ after i (map f before) → f b ≡ one_more (f (get_or now i d))
    → map f (set now i b) ≡ after (i + 1) (map f before)
asked_next f before now i d b lt are more =
    let long : length now ≡ length before = sym (length-map now f) ∙ (ap length are ∙ (length_after i (map f before) ∙ length-map before f)) in
    let was : f (get_or now i d) ≡ get_or (after i (map f before)) i 0 = sym (at_map f now i d (omega arith)) ∙ ap (λ l. get_or l i 0) are in
    let fits : i < length (map f before) = omega (arith, length-map before f) in
    let one : i + 1 ≡ suc i = omega arith in
    map-set f now i b
    ∙ (ap (λ l. set l i (f b)) are ∙ (next (map f before) i (f b) fits (more ∙ ap one_more was) ∙ ap (λ k. after k (map f before)) (sym one)))

pub nobody : (counts : List ℕ) → counts ≡ after 0 counts
nobody counts = refl

pub everybody : (counts : List ℕ) → after (length counts) counts ≡ map one_more counts
everybody [] = refl
everybody (x ∷ xs) = ap (λ l. one_more x ∷ l) (everybody xs)

pub all_asked : {A : Type 0} (f : A → ℕ) (before now : List A) (i : ℕ) → length before ≤ i → i ≤ length before → map f now ≡ after i (map f before) → map f now ≡ map one_more (map f before)
all_asked f before now i enough within are =
    let all : i ≡ length (map f before) = omega (arith, length-map before f) in
    are ∙ (ap (λ k. after k (map f before)) all ∙ everybody (map f before))

pub asks_all : {A : Type 0} (f : A → ℕ) (before now : List A) → map f now ≡ map one_more (map f before) → AsksSome (map f before) (map f now)
asks_all f before now are = record { many = length (map f before); within = omega arith; first = λ some. some; after_is = are ∙ sym (everybody (map f before)) }

pub asked_so_far : {A : Type 0} (f : A → ℕ) (before now : List A) (i : ℕ) → i < length before → map f now ≡ after (i + 1) (map f before) → AsksSome (map f before) (map f now)
asked_so_far f before now i lt are = record { many = i + 1; within = omega (arith, length-map before f); first = λ _. omega arith; after_is = are }
