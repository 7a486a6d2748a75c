-- Lines of one kind that are those of a report's list.
use Rattle.std.proofs.Common.{◌≡◌, ℕ, ◌<◌, List, [], ◌∷◌, ◌++◌, length, map, take, get_or, sym, ap, ◌∙◌, subst, arith}
use Rattle.std.specs.List.{All}
use Rattle.std.proofs.Math.ListN.{get_or-map}
use Rattle.std.proofs.lemmas.List.{get_or_default, length-map, map-append}
use Rattle.std.proofs.lemmas.List.Elements.{All-take}
use Rattle.set_tree.specs.declared.line.Line.{Line}

-- as many
pub counted : {X : Type 0} (line : X → Line) (xs : List X) (all : List Line) (n : ℕ) → map line xs ≡ all → n < length all → n < length xs
counted line xs all n are lt = let long = length-map xs line in let same = ap (λ (ls : List Line). length ls) are in omega (arith, long, same, lt)

-- what holds of each line of the list
pub each_is : {X : Type 0} (line : X → Line) (P : Line → Type 0) (xs : List X) (all : List Line) → map line xs ≡ all → All P all → All (λ x. P (line x)) xs
each_is line P xs all are h = λ i d lt.
    let long = length-map xs line in
    let same = ap (λ (ls : List Line). length ls) are in
    let lt' : i < length all = omega (arith, long, same, lt) in
    subst P (ap (λ (ls : List Line). get_or ls i (line d)) (sym are) ∙ get_or-map line xs i d) (h i (line d) lt')

-- holds of the first of them
pub first_are : {X : Type 0} (line : X → Line) (P : Line → Type 0) (xs first : List X) (all : List Line) (number : ℕ) → map line xs ≡ all → first ≡ take number xs → All P all → All (λ x. P (line x)) first
first_are line P xs first all number are cut h = subst (λ (zs : List _). All (λ x. P (line x)) zs) (sym cut) (All-take (λ x. P (line x)) number xs (each_is line P xs all are h))

-- and the one at a number is the line of that number
pub line_is : {X : Type 0} (line : X → Line) (xs : List X) (all : List Line) (number : ℕ) (x : X) (d : Line) → map line xs ≡ all → number < length xs → x ≡ get_or xs number x → line x ≡ get_or all number d
line_is line xs all number x d are lt at =
    let long = length-map xs line in
    let lt' : number < length (map line xs) = omega (arith, long, lt) in
    ap line at ∙ (sym (get_or-map line xs number x) ∙ (get_or_default (map line xs) number (line x) d lt' ∙ ap (λ (ls : List Line). get_or ls number d) are))

-- one more line
pub line_more : {X : Type 0} (line : X → Line) (old new : List X) (x : X) (l : Line) → new ≡ old ++ x ∷ [] → line x ≡ l → map line new ≡ map line old ++ l ∷ []
line_more line old new x l made is = ap (λ (xs : List _). map line xs) made ∙ (map-append line old (x ∷ []) ∙ ap (λ (k : Line). map line old ++ k ∷ []) is)
