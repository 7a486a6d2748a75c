-- The keys of proofs in their order.
use Rattle.std.proofs.Common.{◌≡◌, ℕ, zero, suc, ◌+◌, List, [], ◌∷◌, ◌++◌, map, take, Bool, true, false, cond, Option, None, Some, length, refl, sym, ap, ◌∙◌, subst, arith}
use Rattle.std.specs.Prelude.{All, Contains, T, find, is_some, slice_get, ◌&&◌}
use Rattle.std.specs.declared.cmp.Ordering.{Ordering}
use Rattle.std.specs.declared.cmp.Ordering.TheVariants.{Less, Equal, Greater}
use Rattle.std.specs.Ordering.{eq_by_cmp, is_eq, is_lt, nat_cmp, ordering_reverse}
use Rattle.std.specs.Cmp.Lexicographic.{slice_cmp}
use Rattle.std.specs.FinMap.{entries, entries-insert, entries_sorted, get, get-entries, insert, is_sorted, keys, nat_cmp-IsAntisymmetric, slice_cmp-IsAntisymmetric}
use Rattle.std.specs.FinMap.Entries.{below_all, by_order, length-put, put}
use Rattle.std.specs.FinMap.Entries.{find as find_entry}
use Rattle.std.proofs.lemmas.Cmp.{nat_list_cmp_total, tied_itself}
use Rattle.std.proofs.lemmas.List.Elements.{All-cons, All-nil, Contains-append_right}
use Rattle.outside.specs.Keys.{is_above}
use Rattle.outside.specs.Tables.{ByBytes}

abbrev order : List ℕ → List ℕ → Ordering
order = slice_cmp nat_cmp

abbrev keys_of : {X : Type 0} → List (List ℕ × X) → List (List ℕ)
keys_of es = map (λ e. e.0) es

first : (a b : Bool) → T (a && b) → T a
first true b p = tt
first false b p = p

second : (a b : Bool) → T (a && b) → T b
second true b p = p
second false b p = absurd p

holds : (b : Bool) → T b → b ≡ true
holds true p = refl
holds false p = absurd p

less : (o : Ordering) → T (is_lt o) → o ≡ Less
less Less p = refl
less Equal p = absurd p
less Greater p = absurd p

equal : (o : Ordering) → is_eq o ≡ true → o ≡ Equal
equal Less p = absurd (cc)
equal Equal p = refl
equal Greater p = absurd (cc)

not_above_itself : (key : List ℕ) → is_above (Some key) key ≡ false
not_above_itself key = ap is_lt (tied_itself nat_list_cmp_total key)

not_above_later : (key other : List ℕ) → T (is_lt (order key other)) → is_above (Some other) key ≡ false
not_above_later key other lower = ap is_lt (nat_list_cmp_total.antisymm other key ∙ ap ordering_reverse (less (order key other) lower))

-- the last of these keys, or the one before them
abbrev pub last_from : Option (List ℕ) → List (List ℕ) → Option (List ℕ)
last_from low [] = low
last_from low (k ∷ ks) = last_from (Some k) ks

pub last_of_more : (low : Option (List ℕ)) (ks : List (List ℕ)) (k : List ℕ) → last_from low (ks ++ k ∷ []) ≡ Some k
last_of_more low [] k = refl
last_of_more low (j ∷ ks) k = last_of_more (Some j) ks k

-- a key that isn't above `low` and is below all keys that follow isn't above the last of them
stays_below : {X : Type 0} (key : List ℕ) (low : Option (List ℕ)) (es : List (List ℕ × X)) (j : ℕ) → is_above low key ≡ false → T (below_all order key es) → is_above (last_from low (take j (keys_of es))) key ≡ false
stays_below key low es zero below h = below
stays_below key low [] (suc j) below h = below
stays_below key low (e ∷ es) (suc j) below h = stays_below key (Some e.0) es j (not_above_later key e.0 (first _ _ h)) (second _ _ h)

abbrev HeadAbove : {X : Type 0} → Option (List ℕ) → List (List ℕ × X) → Type 0
HeadAbove low [] = Unit {0}
HeadAbove low (e ∷ es) = is_above low e.0 ≡ true

head_above : {X : Type 0} (key : List ℕ) (es : List (List ℕ × X)) → T (below_all order key es) → HeadAbove (Some key) es
head_above key [] h = tt
head_above key (e ∷ es) h = holds _ (first _ _ h)

next_after : {X : Type 0} (low : Option (List ℕ)) (es : List (List ℕ × X)) (j : ℕ) → HeadAbove low es → T (is_sorted order es) → find (is_above (last_from low (take j (keys_of es)))) (keys_of es) ≡ slice_get (keys_of es) j
next_after low [] zero above h = refl
next_after low (e ∷ es) zero above h = ap (λ (b : Bool). cond b (Some e.0) (find (is_above low) (keys_of es))) above
next_after low [] (suc j) above h = refl
next_after low (e ∷ es) (suc j) above h =
    ap (λ (b : Bool). cond b (Some e.0) (find (is_above (last_from (Some e.0) (take j (keys_of es)))) (keys_of es)))
    (stays_below e.0 (Some e.0) es j (not_above_itself e.0) (first _ _ h))
    ∙ next_after (Some e.0) es j (head_above e.0 es (first _ _ h)) (second _ _ h)

all_above : {X : Type 0} (es : List (List ℕ × X)) → HeadAbove None es
all_above [] = tt
all_above (e ∷ es) = refl

-- above the last of the first keys the next one is found
pub next_key_is : {X : Type 0} (m : ByBytes X) (i : ℕ) → find (is_above (last_from None (take i (keys m)))) (keys m) ≡ slice_get (keys m) i
next_key_is m i = next_after None (entries m) i (all_above (entries m)) (entries_sorted m)

abbrev NotAbove : Option (List ℕ) → List ℕ → Type 0
NotAbove low key = is_above low key ≡ false

none_above : {X : Type 0} (low : Option (List ℕ)) (es : List (List ℕ × X)) (j : ℕ) → T (is_sorted order es) → All (NotAbove (last_from low (take j (keys_of es)))) (take j (keys_of es))
none_above low es zero h = All-nil (NotAbove low)
none_above low [] (suc j) h = All-nil (NotAbove low)
none_above low (e ∷ es) (suc j) h =
    All-cons (NotAbove (last_from (Some e.0) (take j (keys_of es)))) e.0 (take j (keys_of es)) (stays_below e.0 (Some e.0) es j (not_above_itself e.0) (first _ _ h)) (none_above (Some e.0) es j (second _ _ h))

-- none of the first keys is above the last of them
pub first_not_above : {X : Type 0} (m : ByBytes X) (i : ℕ) → All (NotAbove (last_from None (take i (keys m)))) (take i (keys m))
first_not_above m i = none_above None (entries m) i (entries_sorted m)

-- what is found passes
pub found_passes : (p : List ℕ → Bool) (ks : List (List ℕ)) (k : List ℕ) → find p ks ≡ Some k → p k ≡ true
found_passes p [] k is = absurd (cc)
found_passes p (j ∷ ks) k is = by (p j) refl is (found_passes p ks k)
  where
    by : (b : Bool) → p j ≡ b → cond b (Some j) (find p ks) ≡ Some k → (find p ks ≡ Some k → p k ≡ true) → p k ≡ true
    by true passed found rest = let same : j ≡ k = cc in subst (λ (x : List ℕ). p x ≡ true) same passed
    by false refused found rest = rest found

-- ---- a row put in place of another
same_keys : {X : Type 0} (k : List ℕ) (v w : X) (es : List (List ℕ × X)) → T (is_sorted order es) → find_entry order k es ≡ Some w → keys_of (put order k v es) ≡ keys_of es
same_keys k v w [] h is = absurd (cc)
same_keys {X} k v w (e ∷ es) h is = by (order k e.0) refl is (same_keys k v w es (second _ _ h))
  where
    long : length (put order k v (e ∷ es)) ≡ suc (length es)
    long = length-put order nat_list_cmp_total k v (e ∷ es) h ∙ ap (λ (o : Option X). cond (is_some o) (suc (length es)) (suc (length es) + 1)) is

    by : (o : Ordering) → order k e.0 ≡ o → cond (is_eq o) (Some e.1) (find_entry order k es) ≡ Some w → (find_entry order k es ≡ Some w → keys_of (put order k v es) ≡ keys_of es) → keys_of (by_order o ((k, v) ∷ e ∷ es) ((e.0, v) ∷ es) (e ∷ put order k v es)) ≡ keys_of (e ∷ es)
    by Less o found rest =
        let longer : length (put order k v (e ∷ es)) ≡ suc (suc (length es)) = ap (λ (r : Ordering). length (by_order r ((k, v) ∷ e ∷ es) ((e.0, v) ∷ es) (e ∷ put order k v es))) o in
        absurd (omega (arith, long, longer))
    by Equal o found rest = refl
    by Greater o found rest = ap (λ (ks : List (List ℕ)). e.0 ∷ ks) (rest found)

-- a row put in place of another leaves the keys
pub put_keys : {X : Type 0} (m : ByBytes X) (k : List ℕ) (v w : X) → get m k ≡ Some w → keys (insert m k v) ≡ keys m
put_keys m k v w is = ap keys_of (entries-insert nat_list_cmp_total m k v) ∙ same_keys k v w (entries m) (entries_sorted m) (sym (get-entries m k) ∙ is)

found_among : {X : Type 0} (k : List ℕ) (w : X) (es : List (List ℕ × X)) → find_entry order k es ≡ Some w → Contains (keys_of es) k
found_among k w [] is = absurd (cc)
found_among k w (e ∷ es) is = by (eq_by_cmp order k e.0) refl is (found_among k w es)
  where
    by : (b : Bool) → eq_by_cmp order k e.0 ≡ b → cond b (Some e.1) (find_entry order k es) ≡ Some w → (find_entry order k es ≡ Some w → Contains (keys_of es) k) → Contains (e.0 ∷ keys_of es) k
    by true tied found rest = let same : k ≡ e.0 = slice_cmp-IsAntisymmetric nat_cmp-IsAntisymmetric k e.0 (equal (order k e.0) tied) in (0, omega arith, sym same)
    by false apart found rest = Contains-append_right (e.0 ∷ []) (keys_of es) k (rest found)

-- a key with a row is one of the keys
pub key_among : {X : Type 0} (m : ByBytes X) (k : List ℕ) (w : X) → get m k ≡ Some w → Contains (keys m) k
key_among m k w is = found_among k w (entries m) (sym (get-entries m k) ∙ is)
