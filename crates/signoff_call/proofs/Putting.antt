-- Bytes that go out one part after another.
use Rattle.std.proofs.Common.{◌≡◌, ◌≤◌, ◌+◌, ◌-◌, ◌++◌, ℕ, List, [], take, drop, Option, Some, None, Ok, Err, OnErr, sym, ap, ◌∙◌, subst, append_assoc, append-nil, arith}
use Rattle.std.specs.Prelude.{Result, min}
use Rattle.std.proofs.lemmas.Grind.{common_steps}
use Rattle.std.proofs.lemmas.List.{drop-take, take-append-drop, take-take}
use Rattle.std.specs.Io.KnownBytes.{Appends}
use Rattle.signoff_call.specs.Run.{AppendsPrefix}

pub appends_none : (o : Option (List ℕ)) → Appends o o []
appends_none None = tt
appends_none (Some xs) = sym (append-nil xs)

pub appends_then : (o p q : Option (List ℕ)) (xs ys : List ℕ) → Appends o p xs → Appends p q ys → Appends o q (xs ++ ys)
appends_then None p q xs ys h k = tt
appends_then (Some a) None q xs ys h k = elim h [ ]
appends_then (Some a) (Some b) None xs ys h k = elim k [ ]
appends_then (Some a) (Some b) (Some c) xs ys h k = k ∙ ap (λ (l : List ℕ). l ++ ys) h ∙ append_assoc a xs ys

take_then : (n m : ℕ) (xs : List ℕ) → take n xs ++ take m (drop n xs) ≡ take (n + m) xs
take_then n m xs =
    ap (λ (l : List ℕ). l ++ take m (drop n xs)) (sym (take-take n (n + m) xs (omega arith))) ∙ (ap (λ (l : List ℕ). take n (take (n + m) xs) ++ l) (sym (drop-take n m xs)) ∙ take-append-drop n (take (n + m) xs))

take_most : (n m : ℕ) (xs : List ℕ) → take n (take m xs) ≡ take (min n m) xs
take_most n m xs = grind (arith, common_steps)

-- the bytes up to `to`, after those up to `n`
pub part_out : (o p q : Option (List ℕ)) (n to : ℕ) (xs : List ℕ) → n ≤ to → Appends o p (take n xs) → Appends p q (take (to - n) (drop n xs)) → Appends o q (take to xs)
part_out o p q n to xs le h k = subst (λ (l : List ℕ). Appends o q l) (take_then n (to - n) xs ∙ ap (λ (k : ℕ). take k xs) (omega (arith, le))) (appends_then o p q (take n xs) (take (to - n) (drop n xs)) h k)

-- a prefix of them
pub part_failed : {E : Type 0} (r : Result (Unit {0}) E) (o p q : Option (List ℕ)) (n m : ℕ) (xs : List ℕ) → Appends o p (take n xs) →
    (k : ℕ) × Appends p q (take k (take m (drop n xs))) → OnErr r (AppendsPrefix o q xs)
part_failed (Ok a) o p q n m xs h k = tt
part_failed (Err e) o p q n m xs h k = (n + min k.0 m, subst (λ (l : List ℕ). Appends o q l) (take_then n (min k.0 m) xs) (appends_then o p q (take n xs) (take (min k.0 m) (drop n xs)) h (subst (λ (l : List ℕ). Appends p q l) (take_most k.0 m (drop n xs)) k.1)))
