-- How often helpers were asked over several calls.
use Rattle.std.proofs.Common.{◌≡◌, ℕ, zero, suc, ◌+◌, ◌<◌, ◌≤◌, List, [], ◌∷◌, ◌++◌, length, map, take, drop, refl, sym, ap, ◌∙◌, subst, arith}
use Rattle.helper_box.specs.Asked.{one_more, AsksSome}
use Rattle.proof_store.specs.Counts.{so_many_more, first_of, NoneFalls, FirstRose}

pub none_falls_same : (xs : List ℕ) → NoneFalls xs xs
none_falls_same [] = tt
none_falls_same (x ∷ xs) = (omega arith, none_falls_same xs)

pub none_falls_on : (xs ys zs : List ℕ) → NoneFalls xs ys → NoneFalls ys zs → NoneFalls xs zs
none_falls_on [] [] [] a b = tt
none_falls_on [] [] (z ∷ zs) a b = absurd b
none_falls_on [] (y ∷ ys) zs a b = absurd a
none_falls_on (x ∷ xs) [] zs a b = absurd a
none_falls_on (x ∷ xs) (y ∷ ys) [] a b = absurd b
none_falls_on (x ∷ xs) (y ∷ ys) (z ∷ zs) a b = let p : x ≤ y = a.0 in let q : y ≤ z = b.0 in (omega arith, none_falls_on xs ys zs a.1 b.1)

none_falls_map : (xs : List ℕ) (k : ℕ) → NoneFalls xs (map one_more (take k xs) ++ drop k xs)
none_falls_map xs zero = none_falls_same xs
none_falls_map [] (suc k) = tt
none_falls_map (x ∷ xs) (suc k) = (omega arith, none_falls_map xs k)

first_asked : (xs : List ℕ) (k : ℕ) → 0 < length xs → 0 < k → first_of (map one_more (take k xs) ++ drop k xs) ≡ one_more (first_of xs)
first_asked [] k some some_k = absurd (omega arith)
first_asked (x ∷ xs) zero some some_k = absurd (omega arith)
first_asked (x ∷ xs) (suc k) some some_k = refl

none_falls_length : (xs ys : List ℕ) → NoneFalls xs ys → length ys ≡ length xs
none_falls_length [] [] h = refl
none_falls_length [] (y ∷ ys) h = absurd h
none_falls_length (x ∷ xs) [] h = absurd h
none_falls_length (x ∷ xs) (y ∷ ys) h = ap suc (none_falls_length xs ys h.1)

pub asks_none_falls : (xs ys : List ℕ) → AsksSome xs ys → NoneFalls xs ys
asks_none_falls xs ys h = subst (NoneFalls xs) (sym h.after_is) (none_falls_map xs h.many)

one_time : (n : ℕ) → one_more n ≡ so_many_more 1 n
one_time n = omega arith

more_and_more : (j k n : ℕ) → so_many_more k (so_many_more j n) ≡ so_many_more (j + k) n
more_and_more j k n = omega arith

pub rose_none : (xs : List ℕ) → FirstRose 0 xs xs
rose_none xs = record { none_falls = none_falls_same xs; first = λ some. omega arith }

-- with no helper, nobody is asked
pub rose_nobody : (k : ℕ) (xs : List ℕ) → length xs ≡ 0 → FirstRose k xs xs
rose_nobody k xs none = record { none_falls = none_falls_same xs; first = λ some. absurd (omega (arith, some, none)) }

pub rose_one : (xs ys : List ℕ) → AsksSome xs ys → FirstRose 1 xs ys
rose_one xs ys asks = record {
  none_falls = asks_none_falls xs ys asks;
  first = λ some. ap first_of asks.after_is ∙ (first_asked xs asks.many some (asks.first some) ∙ one_time (first_of xs));
}

pub rose_on : (j k : ℕ) (xs ys zs : List ℕ) → FirstRose j xs ys → FirstRose k ys zs → FirstRose (j + k) xs zs
rose_on j k xs ys zs a b = record {
  none_falls = none_falls_on xs ys zs a.none_falls b.none_falls;
  first = λ some.
      let some_y : 0 < length ys = omega (arith, some, none_falls_length xs ys a.none_falls) in
      b.first some_y ∙ (ap (so_many_more k) (a.first some) ∙ more_and_more j k (first_of xs));
}
