-- The first key above another one in a sorted list is the least one above it.
use Rattle.std.proofs.Common.{◌≡◌, ℕ, suc, List, [], ◌∷◌, map, Bool, true, false, cond, Option, None, Some, refl, ap, arith}
use Rattle.std.specs.Prelude.{All, MatchOption, T, find, ◌&&◌}
use Rattle.std.specs.declared.cmp.Ordering.{Ordering}
use Rattle.std.specs.declared.cmp.Ordering.TheVariants.{Less, Equal, Greater}
use Rattle.std.specs.Ordering.{nat_cmp, is_gt, is_lt}
use Rattle.std.specs.Cmp.Lexicographic.{slice_cmp}
use Rattle.std.specs.FinMap.{entries, entries_sorted, is_sorted}
use Rattle.std.specs.FinMap.Entries.{below_all}
use Rattle.std.proofs.lemmas.Cmp.{nat_list_cmp_total, tied_itself}
use Rattle.std.proofs.lemmas.List.Elements.{All-cons, All-nil}
use Rattle.outside.specs.Keys.{is_above, IsLeastAbove}
use Rattle.outside.specs.Tables.{NextKeyIsLeast}

left : (a b : Bool) → T (a && b) → T a
left true b p = tt
left false b p = p

right : (a b : Bool) → T (a && b) → T b
right true b p = p
right false b p = absurd p

lower : (o : Ordering) → T (is_lt o) → is_gt o ≡ false
lower Less p = refl
lower Equal p = absurd p
lower Greater p = absurd p

abbrev keys_of : {X : Type 0} → List (List ℕ × X) → List (List ℕ)
keys_of es = map (λ e. e.0) es

module _ (low : Option (List ℕ)) where
  abbrev NotAfter : List ℕ → List ℕ → Type 0
  NotAfter key other = is_above low other ≡ true → is_gt (slice_cmp nat_cmp key other) ≡ false

  all_after : {X : Type 0} (key : List ℕ) (es : List (List ℕ × X)) → T (below_all (slice_cmp nat_cmp) key es) → All (NotAfter key) (keys_of es)
  all_after key [] h = All-nil (NotAfter key)
  all_after key (e ∷ es) h = All-cons (NotAfter key) e.0 (keys_of es) (λ _. lower _ (left _ _ h)) (all_after key es (right _ _ h))

  abbrev IsNext : List (List ℕ) → Option (List ℕ) → Type 0
  IsNext keys next = MatchOption next (All (λ key. is_above low key ≡ false) keys) (IsLeastAbove low keys)

  later : (first : List ℕ) (keys : List (List ℕ)) (next : Option (List ℕ)) → is_above low first ≡ false → IsNext keys next → IsNext (first ∷ keys) next
  later first keys None below rest = All-cons (λ key. is_above low key ≡ false) first keys below rest
  later first keys (Some key) below rest = record {
    among = (suc rest.among.0, omega (arith, rest.among.1), rest.among.2);
    above = rest.above;
    least = All-cons (NotAfter key) first keys (λ over. cc) rest.least;
  }

  next_is_least : {X : Type 0} (es : List (List ℕ × X)) → T (is_sorted (slice_cmp nat_cmp) es) → IsNext (keys_of es) (find (is_above low) (keys_of es))
  next_is_least [] h = All-nil (λ key. is_above low key ≡ false)
  next_is_least (e ∷ es) h = at (is_above low e.0) refl (next_is_least es (right _ _ h))
    where
      at : (b : Bool) → is_above low e.0 ≡ b → IsNext (keys_of es) (find (is_above low) (keys_of es)) → IsNext (e.0 ∷ keys_of es) (cond b (Some e.0) (find (is_above low) (keys_of es)))
      at true over rest = record {
        among = (0, omega arith, refl);
        above = over;
        least = All-cons (NotAfter e.0) e.0 (keys_of es) (λ _. ap is_gt (tied_itself nat_list_cmp_total e.0)) (all_after e.0 es (left _ _ h));
      }
      at false below rest = later e.0 (keys_of es) _ below rest

pub next_key : NextKeyIsLeast
next_key t low = next_is_least low (entries t.proofs) (entries_sorted t.proofs)
