-- An ordered map whose keys are bytes is a finite map with its keys in byte order.
use Rattle.std.proofs.Common.{◌≡◌, ℕ, List, [], ◌∷◌, map, length, Bool, true, false, cond, Option, None, Some, Bor, option_map, refl, sym, ap, subst, ◌∙◌}
use Rattle.std.specs.Prelude.{IsTrue, IfOk, Result, T, Vec, find, slice_get, filter, ◌&&◌}
use Rattle.std.specs.declared.alloc.Global.{Global}
use Rattle.std.specs.declared.cmp.Ordering.{Ordering}
use Rattle.std.specs.declared.cmp.Ordering.TheVariants.{Less, Equal, Greater}
use Rattle.std.specs.Ordering.{nat_cmp, is_lt, is_eq, match_ordering}
use Rattle.std.specs.Cmp.Lexicographic.{slice_cmp}
use Rattle.std.specs.List.{AllByRecursion}
use Rattle.std.specs.List.Sorted.{IsStrictlySortedBy}
use Rattle.std.specs.Map.{keys_of, lookup}
use Rattle.std.specs.Map.Iter.{TakesFirst, deref, deref_pair}
use Rattle.std.specs.BTreeMap.Range.{entries_between}
use Rattle.std.specs.declared.ops.Bound.TheVariants.{Excluded, Unbounded}
use Rattle.std.specs.BTreeMap.{insert_entry, is_at}
use Rattle.std.specs.FinMap.{FinMap, from_sorted, insert, empty, entries, keys, is_sorted, put, entries-insert, entries-from_sorted, same_entries_map, empty_of_len, len-entries}
use Rattle.std.specs.FinMap as finmap
use Rattle.std.specs.FinMap.Entries.{below_all, by_order}
use Rattle.std.proofs.lemmas.Cmp.{nat_list_cmp_total}
use Rattle.outside.specs.Keys.{is_above, rows_of}

abbrev pub vec_cmp : Vec ℕ Global → Vec ℕ Global → Ordering
vec_cmp x y = slice_cmp nat_cmp x.items y.items

abbrev Rows : Type 0 → Type 0
Rows X = List (Vec ℕ Global × X)

holds : (b : Bool) → IsTrue b → T b
holds true e = tt
holds false e = cc

both : (a b : Bool) → a ≡ true → b ≡ true → (a && b) ≡ true
both true b p q = q
both false b p q = cc

same_choice : {A : Type 0} (o : Ordering) (a b c d : A) → c ≡ d → match_ordering o a b c ≡ by_order o a b d
same_choice Less a b c d e = refl
same_choice Equal a b c d e = refl
same_choice Greater a b c d e = e

module _ {X : Type 0} where
  rows-match : (o : Ordering) (a b c : Rows X) → rows_of (match_ordering o a b c) ≡ match_ordering o (rows_of a) (rows_of b) (rows_of c)
  rows-match Less a b c = refl
  rows-match Equal a b c = refl
  rows-match Greater a b c = refl

  -- an insertion into the ordered map is a put
  pub rows-insert_entry : (es : Rows X) (k : Vec ℕ Global) (v : X) → rows_of (insert_entry vec_cmp es k v) ≡ put (slice_cmp nat_cmp) k.items v (rows_of es)
  rows-insert_entry [] k v = refl
  rows-insert_entry (e ∷ es) k v = rows-match (vec_cmp k e.0) _ _ _ ∙ same_choice (vec_cmp k e.0) _ _ _ _ (ap (λ (rs : List (List ℕ × X)). (e.0.items, e.1) ∷ rs) (rows-insert_entry es k v))

  below_rows : (k : Vec ℕ Global) (es : Rows X) → AllByRecursion (λ y. vec_cmp k y ≡ Less) (keys_of es) → below_all (slice_cmp nat_cmp) k.items (rows_of es) ≡ true
  below_rows k [] h = refl
  below_rows k (e ∷ es) h = both _ _ (ap is_lt h.0) (below_rows k es h.1)

  -- where the keys of the ordered map rise, its rows are sorted
  pub rows_sorted : (es : Rows X) → IsStrictlySortedBy vec_cmp (keys_of es) → IsTrue (is_sorted (slice_cmp nat_cmp) (rows_of es))
  unfolding IsStrictlySortedBy
  rows_sorted [] h = refl
  rows_sorted (e ∷ es) h = both _ _ (below_rows e.0 es h.0) (rows_sorted es h.1)

  -- what the ordered map finds is what the finite map finds
  pub rows-lookup : (k : List ℕ) (es : Rows X) → lookup (is_at (λ y. slice_cmp nat_cmp k y.items)) es ≡ finmap.find (slice_cmp nat_cmp) k (rows_of es)
  rows-lookup k [] = refl
  rows-lookup k (e ∷ es) = ap (λ r. cond (is_eq (slice_cmp nat_cmp k e.0.items)) (Some e.1) r) (rows-lookup k es)

  pub get-rows : (k : List ℕ) (es : Rows X) → IsTrue (is_sorted (slice_cmp nat_cmp) (rows_of es))
      → lookup (is_at (λ y. slice_cmp nat_cmp k y.items)) es ≡ finmap.get (from_sorted {R = slice_cmp nat_cmp} (rows_of es)) k
  get-rows k es h = rows-lookup k es ∙ sym (finmap.get-from_sorted (slice_cmp nat_cmp) (rows_of es) k (holds _ h))

  pub insert-rows : (es now : Rows X) (k : Vec ℕ Global) (v : X) → IsTrue (is_sorted (slice_cmp nat_cmp) (rows_of es)) → IsTrue (is_sorted (slice_cmp nat_cmp) (rows_of now))
      → now ≡ insert_entry vec_cmp es k v → from_sorted {R = slice_cmp nat_cmp} (rows_of now) ≡ insert (from_sorted (rows_of es)) k.items v
  insert-rows es now k v h i e =
      let old : entries (from_sorted {R = slice_cmp nat_cmp} (rows_of es)) ≡ rows_of es = entries-from_sorted (slice_cmp nat_cmp) (rows_of es) (holds _ h) in
      let new : entries (from_sorted {R = slice_cmp nat_cmp} (rows_of now)) ≡ rows_of now = entries-from_sorted (slice_cmp nat_cmp) (rows_of now) (holds _ i) in
      let put_in : rows_of now ≡ put (slice_cmp nat_cmp) k.items v (rows_of es) = ap rows_of e ∙ rows-insert_entry es k v in
      let inserted : entries (insert (from_sorted (rows_of es)) k.items v) ≡ put (slice_cmp nat_cmp) k.items v (rows_of es) =
      entries-insert nat_list_cmp_total (from_sorted (rows_of es)) k.items v ∙ ap (put (slice_cmp nat_cmp) k.items v) old in
      same_entries_map _ _ (new ∙ (put_in ∙ sym inserted))

  keys_of_rows : (es : Rows X) → map (λ e. e.0) (rows_of es) ≡ map (λ e. e.0.items) es
  keys_of_rows [] = refl
  keys_of_rows (e ∷ es) = ap (λ ks. e.0.items ∷ ks) (keys_of_rows es)

  pub keys-rows : (es : Rows X) → IsTrue (is_sorted (slice_cmp nat_cmp) (rows_of es)) → keys (from_sorted {R = slice_cmp nat_cmp} (rows_of es)) ≡ map (λ e. e.0.items) es
  keys-rows es h = ap (λ rs. map (λ e. e.0) rs) (entries-from_sorted (slice_cmp nat_cmp) (rows_of es) (holds _ h)) ∙ keys_of_rows es

  pub no-rows : from_sorted {K = List ℕ} {X = X} {R = slice_cmp nat_cmp} [] ≡ empty
  no-rows = empty_of_len _ (len-entries _ ∙ ap length (entries-from_sorted (slice_cmp nat_cmp) [] tt))

  first_kept : (b : Bool) (p : List ℕ → Bool) (e : Vec ℕ Global × X) (kept es : Rows X)
      → find p (map (λ e. e.0.items) es) ≡ option_map (λ e. e.0.items) (slice_get kept 0)
      → cond b (Some e.0.items) (find p (map (λ e. e.0.items) es)) ≡ option_map (λ e. e.0.items) (slice_get (cond b (e ∷ kept) kept) 0)
  first_kept true p e kept es h = refl
  first_kept false p e kept es h = h

  -- the first key that passes is that of the first row kept
  pub find-keys : (p : List ℕ → Bool) (es : Rows X) → find p (map (λ e. e.0.items) es) ≡ option_map (λ e. e.0.items) (slice_get (filter (λ e. p e.0.items) es) 0)
  find-keys p [] = refl
  find-keys p (e ∷ es) = first_kept (p e.0.items) p e (filter (λ e. p e.0.items) es) es (find-keys p es)

  -- the bytes of the keys, from the keys or from the entries
  pub map-keys : (es : Rows X) (ks : List (Vec ℕ Global)) → ks ≡ keys_of es → map (λ k. k.items) ks ≡ map (λ e. e.0.items) es
  map-keys es ks is = rw is (same es)
    where
      same : (es : Rows X) → map (λ k. k.items) (keys_of es) ≡ map (λ e. e.0.items) es
      same [] = refl
      same (e ∷ es) = ap (λ (ns : List (List ℕ)). e.0.items ∷ ns) (same es)

  first_is : (kept rest : Rows X) (r : Option (Bor (Vec ℕ Global) × Bor X)) → TakesFirst deref_pair kept r rest
      → option_map (λ p. p.0.now.items) r ≡ option_map (λ e. e.0.items) (slice_get kept 0)
  first_is kept rest None h = rw h.0 refl
  first_is kept rest (Some x) h = rw h refl

  above_only : (low : Vec ℕ Global) (es : Rows X) → entries_between vec_cmp (Excluded low) Unbounded es ≡ filter (λ e. is_lt (slice_cmp nat_cmp low.items e.0.items)) es
  above_only low [] = refl
  above_only low (e ∷ es) = kept_alone (is_lt (slice_cmp nat_cmp low.items e.0.items)) e _ _ (above_only low es)
    where
      kept_alone : (b : Bool) (e : Vec ℕ Global × X) (xs ys : Rows X) → xs ≡ ys → cond (b && true) (e ∷ xs) xs ≡ cond b (e ∷ ys) ys
      kept_alone true e xs ys h = ap (λ (zs : Rows X). e ∷ zs) h
      kept_alone false e xs ys h = h

  -- the first row above a key has the first key above it
  pub first_row : (low : Vec ℕ Global) (es between rest : Rows X) (r : Option (Bor (Vec ℕ Global) × Bor X)) → between ≡ entries_between vec_cmp (Excluded low) Unbounded es
      → TakesFirst deref_pair between r rest → option_map (λ p. p.0.now.items) r ≡ find (λ k. is_lt (slice_cmp nat_cmp low.items k)) (map (λ e. e.0.items) es)
  first_row low es between rest r is h =
      first_is between rest r h ∙ ap (λ (kept : Rows X). option_map (λ e. e.0.items) (slice_get kept 0)) (is ∙ above_only low es)
      ∙ sym (find-keys (λ k. is_lt (slice_cmp nat_cmp low.items k)) es)

  pub first_key : (es : Rows X) (ks rest : List (Vec ℕ Global)) (r : Option (Bor (Vec ℕ Global))) → ks ≡ keys_of es → TakesFirst deref ks r rest
      → option_map (λ k. k.now.items) r ≡ find (is_above None) (map (λ e. e.0.items) es)
  first_key [] ks rest None is h = refl
  first_key [] ks rest (Some x) is h = cc
  first_key (e ∷ es) ks rest None is h = cc
  first_key (e ∷ es) ks rest (Some x) is h = let same : x.now ≡ e.0 = cc in ap (λ (k : Vec ℕ Global). Some k.items) same

  -- what is found among the bytes of the keys is found among the keys of the map
  pub key_found : {E : Type 0} (r : Result (Option (List ℕ)) E) (low found : Option (List ℕ)) (es : Rows X) (m : FinMap (slice_cmp nat_cmp) X) → IsTrue (is_sorted (slice_cmp nat_cmp) (rows_of es))
      → from_sorted (rows_of es) ≡ m → found ≡ find (is_above low) (map (λ e. e.0.items) es) → IfOk r (λ key. key ≡ found) → IfOk r (λ key. key ≡ find (is_above low) (keys m))
  key_found r low found es m h is e ok =
      let same : found ≡ find (is_above low) (keys m) = e ∙ ap (find (is_above low)) (sym (keys-rows es h) ∙ ap keys is) in
      subst (λ (o : Option (List ℕ)). IfOk r (λ key. key ≡ o)) same ok
