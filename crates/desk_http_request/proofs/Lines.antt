-- Lines and line feeds.
use Rattle.std.proofs.Common.{◌≡◌, ℕ, ◌+◌, min, List, [], ◌∷◌, ◌++◌, take, drop, refl, sym, ap, ◌∙◌, arith}
use Rattle.std.proofs.lemmas.Grind.{common_steps}
use Prim.Native.Nat.{zero, suc}
use Rattle.desk_http_request.specs.Front.{lines_of, lines_left, lines_after_breaks}

-- no line is left
pub lines_of-none : (bs : List ℕ) → lines_of 0 bs ≡ []
lines_of-none [] = refl
lines_of-none (b ∷ bs) = refl

pub lines_left-none : (bs : List ℕ) → lines_left 0 bs ≡ 0
lines_left-none [] = refl
lines_left-none (b ∷ bs) = refl

take_take : {X : Type 0} (k m : ℕ) (xs : List X) → take m (take k xs) ≡ take (min k m) xs
take_take k m [] = grind (arith, common_steps)
take_take zero m (x ∷ xs) = grind (arith, common_steps)
take_take (suc k) zero (x ∷ xs) = grind (arith, common_steps)
take_take (suc k) (suc m) (x ∷ xs) =
    let e : min (suc k) (suc m) ≡ suc (min k m) = omega arith in rw e (ap (λ l. x ∷ l) (take_take k m xs))

pub take_plus : {X : Type 0} (b l : ℕ) (xs : List X) → take b xs ++ take l (drop b xs) ≡ take (b + l) xs
take_plus b l [] = grind (arith, common_steps)
take_plus zero l (x ∷ xs) = grind (arith, common_steps)
take_plus (suc b) l (x ∷ xs) =
    let e : suc b + l ≡ suc (b + l) = omega arith in rw e (ap (λ l. x ∷ l) (take_plus b l xs))

-- the bytes before the first other byte, and then the lines
pub front_cut : (bytes : List ℕ) (b l n m : ℕ) → lines_after_breaks n bytes ≡ take b bytes ++ lines_of n (drop b bytes)
    → take l (drop b bytes) ≡ lines_of n (drop b bytes) → take (min (b + l) m) bytes ≡ take m (lines_after_breaks n bytes)
front_cut bytes b l n m split lines =
    sym (ap (take m) (split ∙ ap (λ r. take b bytes ++ r) (sym lines) ∙ take_plus b l bytes) ∙ take_take (b + l) m bytes)

pub drop_plus : {X : Type 0} (b l : ℕ) (xs : List X) → drop l (drop b xs) ≡ drop (b + l) xs
drop_plus b l [] = grind (arith, common_steps)
drop_plus zero l (x ∷ xs) = grind (arith, common_steps)
drop_plus (suc b) l (x ∷ xs) =
    let e : suc b + l ≡ suc (b + l) = omega arith in rw e (drop_plus b l xs)
