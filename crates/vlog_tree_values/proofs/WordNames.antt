-- Names of a memory's words.
use Rattle.std.proofs.Common.{◌≡◌, ℕ, zero, suc, ◌+◌, ◌-◌, ◌/◌, ◌%◌, ◌^◌, ◌<◌, ◌≤◌, true, false, refl, sym, ap, ◌∙◌, List, [], ◌∷◌, ◌++◌, length, take, drop, get_or, inl, inr, ◌⊎◌, add-one, arith, decimal, ⊎_elim}
use Rattle.std.specs.Str.{bytes_eq}
use Rattle.std.proofs.lemmas.Slice.Eq.{bytes_eq-Decides}
use Rattle.std.proofs.lemmas.List.{take-append-drop, append_cancel_left, length-append, length-drop}
use Rattle.std.proofs.Math.Seq.{drop-cons, take-append_seam, drop-append_seam, append_snoc, take-length}
use Rattle.std.proofs.Math.ListN.{drop_of_length-le}
use Rattle.std.proofs.Math.Nat.{mod-eq_of_lt}
use Rattle.std.specs.Prelude.{nat_eq, nat_lt}
use Rattle.std.proofs.lemmas.Bool.{ltb-true, ltb-false}
use Rattle.std.proofs.lemmas.Bool.Decides.{nat_tests}
use Rattle.std.proofs.lemmas.Fmt.{decimal_digit, decimal_step}
use Rattle.vlog_tree_values.proofs.Numbers.{bool_cases}

-- two tests of the same, and a test of what is not so
same : (ps qs xs ys : List ℕ) → (ps ≡ qs → xs ≡ ys) → (xs ≡ ys → ps ≡ qs) → bytes_eq ps qs ≡ bytes_eq xs ys
same ps qs xs ys there back =
    ⊎_elim
    (λ (h : bytes_eq ps qs ≡ true). h ∙ sym ((bytes_eq-Decides xs ys).1 (there ((bytes_eq-Decides ps qs).0 h))))
    (λ (h : bytes_eq ps qs ≡ false).
    ⊎_elim
    (λ (k : bytes_eq xs ys ≡ true). let t : bytes_eq ps qs ≡ true = (bytes_eq-Decides ps qs).1 (back ((bytes_eq-Decides xs ys).0 k)) in cc)
    (λ (k : bytes_eq xs ys ≡ false). h ∙ sym k)
    (bool_cases (bytes_eq xs ys)))
    (bool_cases (bytes_eq ps qs))

pub differs : (xs ys : List ℕ) → (xs ≡ ys → ⊥) → false ≡ bytes_eq xs ys
differs xs ys no_ =
    ⊎_elim
    (λ (h : bytes_eq xs ys ≡ true). absurd (no_ ((bytes_eq-Decides xs ys).0 h)))
    (λ (h : bytes_eq xs ys ≡ false). sym h)
    (bool_cases (bytes_eq xs ys))

-- a list by its front and its last element
by_last : (xs : List ℕ) (n : ℕ) → length xs ≡ suc n → xs ≡ take n xs ++ get_or xs n 0 ∷ []
by_last xs n e =
    let d : drop n xs ≡ get_or xs n 0 ∷ drop (suc n) xs = drop-cons xs n 0 (omega arith) in
    let empty : drop (suc n) xs ≡ [] = drop_of_length-le xs {i = suc n} (omega arith) in
    sym (take-append-drop n xs) ∙ ap (λ l. take n xs ++ l) (d ∙ ap (λ l. get_or xs n 0 ∷ l) empty)

ends : (xs ys : List ℕ) (x y : ℕ) → xs ++ x ∷ [] ≡ ys ++ y ∷ [] → (xs ≡ ys) × (x ≡ y)
ends [] [] x y e = (refl, cc)
ends [] (b ∷ ys) x y e = let l : suc zero ≡ suc (length ys + 1) = ap length e ∙ ap suc (length-append ys (y ∷ [])) in absurd (omega (arith, l))
ends (a ∷ xs) [] x y e = let l : suc (length xs + 1) ≡ suc zero = sym (ap suc (length-append xs (x ∷ []))) ∙ ap length e in absurd (omega (arith, l))
ends (a ∷ xs) (b ∷ ys) x y e =
    let h : a ≡ b = cc in
    let t : xs ++ x ∷ [] ≡ ys ++ y ∷ [] = cc in
    let r = ends xs ys x y t in
    let u : xs ≡ ys = r.0 in
    (cc, r.1)

pub no_digits : (bs : List ℕ) (n : ℕ) → n < 2 ^ 64 → length bs ≡ 0 → false ≡ bytes_eq bs (decimal n)
no_digits bs n lt e = differs bs (decimal n) (λ h. short (ap length h))
  where
    long : (m : ℕ) → (m < 10) ⊎ (10 ≤ m) → m < 2 ^ 64 → 1 ≤ length (decimal m)
    long m (inl l) lt = rw (decimal_digit m l) (omega arith)
    long m (inr l) lt = rw (decimal_step m l lt, length-append) (omega arith)

    cases : (m : ℕ) → (m < 10) ⊎ (10 ≤ m)
    cases m = ⊎_elim (λ (t : nat_lt m 10 ≡ true). inl (ltb-true m 10 t)) (λ (t : nat_lt m 10 ≡ false). inr (ltb-false m 10 t)) (bool_cases (nat_lt m 10))

    short : length bs ≡ length (decimal n) → ⊥
    short l = omega (arith, long n (cases n) lt)

-- the last digit is another
pub other_digit : (bs : List ℕ) (n k : ℕ) → n < 2 ^ 64 → length bs ≡ suc k → (get_or bs k 0 ≡ 48 + n % 10 → ⊥) → false ≡ bytes_eq bs (decimal n)
other_digit bs n k lt e apart = differs bs (decimal n) (λ h. apart (found (cases n) h))
  where
    cases : (m : ℕ) → (m < 10) ⊎ (10 ≤ m)
    cases m = ⊎_elim (λ (t : nat_lt m 10 ≡ true). inl (ltb-true m 10 t)) (λ (t : nat_lt m 10 ≡ false). inr (ltb-false m 10 t)) (bool_cases (nat_lt m 10))

    found : (n < 10) ⊎ (10 ≤ n) → bs ≡ decimal n → get_or bs k 0 ≡ 48 + n % 10
    found (inl l) h =
        let small : n % 10 ≡ n = mod-eq_of_lt l in
        let d : take k bs ++ get_or bs k 0 ∷ [] ≡ [] ++ (48 + n) ∷ [] = sym (by_last bs k e) ∙ h ∙ decimal_digit n l in
        (ends (take k bs) [] (get_or bs k 0) (48 + n) d).1 ∙ ap (λ m. 48 + m) (sym small)
    found (inr l) h = (ends (take k bs) (decimal (n / 10)) (get_or bs k 0) (48 + n % 10) (sym (by_last bs k e) ∙ h ∙ decimal_step n l lt)).1

-- one digit
pub one_digit : (bs : List ℕ) (n k : ℕ) → n < 10 → length bs ≡ suc k → get_or bs k 0 ≡ 48 + n % 10 → nat_eq k 0 ≡ bytes_eq bs (decimal n)
one_digit bs n zero l e d =
    let small : n % 10 ≡ n = mod-eq_of_lt l in
    let h : bs ≡ decimal n = by_last bs zero e ∙ ap (λ m. m ∷ []) (d ∙ ap (λ m. 48 + m) small) ∙ sym (decimal_digit n l) in
    sym ((bytes_eq-Decides bs (decimal n)).1 h)
one_digit bs n (suc k) l e d =
    let z : nat_eq (suc k) 0 ≡ false = grind (arith, nat_tests) in
    z ∙ differs bs (decimal n) (λ h. absurd (omega (arith, e, ap length (h ∙ decimal_digit n l))))

-- more digits
pub more_digits : (bs : List ℕ) (n k : ℕ) → 10 ≤ n → n < 2 ^ 64 → length bs ≡ suc k → get_or bs k 0 ≡ 48 + n % 10 → bytes_eq (take k bs) (decimal (n / 10)) ≡ bytes_eq bs (decimal n)
more_digits bs n k l lt e d =
    same (take k bs) (decimal (n / 10)) bs (decimal n)
    (λ h. by_last bs k e ∙ ap (λ m. take k bs ++ m ∷ []) d ∙ ap (λ f. f ++ (48 + n % 10) ∷ []) h ∙ sym (decimal_step n l lt))
    (λ h. (ends (take k bs) (decimal (n / 10)) (get_or bs k 0) (48 + n % 10) (sym (by_last bs k e) ∙ h ∙ decimal_step n l lt)).0)

-- a name, a `$` and digits
pub too_short : (bs nm ds : List ℕ) → length bs ≤ length nm → false ≡ bytes_eq bs (nm ++ 36 ∷ [] ++ ds)
too_short bs nm ds le =
    differs bs (nm ++ 36 ∷ [] ++ ds) (λ h. absurd (omega (arith, ap length h ∙ length-append (nm ++ 36 ∷ []) ds ∙ ap (λ k. k + length ds) (length-append nm (36 ∷ [])))))

regroup : (nm ds : List ℕ) → nm ++ 36 ∷ [] ++ ds ≡ nm ++ 36 ∷ ds
regroup nm ds = append_snoc nm 36 ds

pub other_name : (bs nm ds : List ℕ) → bytes_eq (take (length nm) bs) nm ≡ false → false ≡ bytes_eq bs (nm ++ 36 ∷ [] ++ ds)
other_name bs nm ds apart =
    differs bs (nm ++ 36 ∷ [] ++ ds) (λ h.
    let t : bytes_eq (take (length nm) bs) nm ≡ true = (bytes_eq-Decides (take (length nm) bs) nm).1 (ap (λ l. take (length nm) l) (h ∙ regroup nm ds) ∙ take-append_seam nm (36 ∷ ds)) in
    cc)

pub other_sign : (bs nm ds : List ℕ) → length nm < length bs → (get_or bs (length nm) 0 ≡ 36 → ⊥) → false ≡ bytes_eq bs (nm ++ 36 ∷ [] ++ ds)
other_sign bs nm ds lt apart =
    differs bs (nm ++ 36 ∷ [] ++ ds) (λ h.
    let d : get_or bs (length nm) 0 ∷ drop (suc (length nm)) bs ≡ 36 ∷ ds =
    sym (drop-cons bs (length nm) 0 lt) ∙ ap (λ l. drop (length nm) l) (h ∙ regroup nm ds) ∙ drop-append_seam nm (36 ∷ ds) in
    let e : get_or bs (length nm) 0 ≡ 36 = cc in
    apart e)

pub word_digits : (bs nm ds : List ℕ) → length nm < length bs → bytes_eq (take (length nm) bs) nm ≡ true → get_or bs (length nm) 0 ≡ 36 → bytes_eq (drop (suc (length nm)) bs) ds ≡ bytes_eq bs (nm ++ 36 ∷ [] ++ ds)
word_digits bs nm ds lt is sign =
    let f : take (length nm) bs ≡ nm = (bytes_eq-Decides (take (length nm) bs) nm).0 is in
    let whole : bs ≡ nm ++ 36 ∷ drop (suc (length nm)) bs =
    sym (take-append-drop (length nm) bs) ∙ ap (λ l. l ++ drop (length nm) bs) f ∙ ap (λ l. nm ++ l) (drop-cons bs (length nm) 0 lt ∙ ap (λ k. k ∷ drop (suc (length nm)) bs) sign) in
    same (drop (suc (length nm)) bs) ds bs (nm ++ 36 ∷ [] ++ ds)
    (λ h. whole ∙ ap (λ l. nm ++ 36 ∷ l) h ∙ sym (regroup nm ds))
    (λ h.
    let c : 36 ∷ drop (suc (length nm)) bs ≡ 36 ∷ ds = append_cancel_left nm _ _ (sym whole ∙ h ∙ regroup nm ds) in
    let e : drop (suc (length nm)) bs ≡ ds = cc in
    e)

pub all_after : (bs : List ℕ) (n : ℕ) → take (length bs - (n + 1)) (drop (n + 1) bs) ≡ drop (suc n) bs
all_after bs n = rw add-one (ap (λ k. take k (drop (suc n) bs)) (sym (length-drop (suc n) bs)) ∙ take-length (drop (suc n) bs))
