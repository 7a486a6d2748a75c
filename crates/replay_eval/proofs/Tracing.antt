-- Rows as traces.
use Rattle.std.proofs.Common.{◌≡◌, ℕ, zero, suc, ◌+◌, ◌<◌, ◌^◌, Bool, true, false, not, List, [], ◌∷◌, ◌++◌, length, drop, get_or, drop-cons, add-one, refl, sym, ap, ◌∙◌, subst, arith}
use Rattle.std.specs.Prelude.{◌&&◌, ◌||◌, nat_eq, nat_lt}
use Rattle.std.specs.List.{All}
use Rattle.std.proofs.lemmas.Slice.Zip.{AllZip-long}
use Rattle.vlog_tree.specs.declared.valuation.Entry.{Entry}
use Rattle.vlog_tree.specs.Valuation.{IsLength, EntryFits}
use Rattle.set_tree.specs.declared.set.Name.{Name}
use Rattle.set_tree.specs.Formulas.{entry_of, row_entries}
use Rattle.set_tree.specs.Meaning.{Row}
use Rattle.set_tree.specs.Parts.{is_input}
use Rattle.set_tree.specs.Traces.{IsRow}
use Rattle.replay_eval.specs.Traces.{fits_names, agrees, all_agree}

pub cut : {X : Type 0} (xs : List X) (i : ℕ) (x : X) → i < length xs → x ≡ get_or xs i x → drop i xs ≡ x ∷ drop (i + 1) xs
cut xs i x lt is = rw add-one (drop-cons xs i x lt ∙ ap (λ z. z ∷ drop (suc i) xs) (sym is))

still_false : (b x : Bool) → false ≡ x → false ≡ (b && x)
still_false true x h = h
still_false false x h = refl

-- rows of another length
pub other_length : (names : List Name) (row : Row) → (length names ≡ length row → ⊥) → false ≡ fits_names names row
other_length [] [] h = absurd (h refl)
other_length [] (v ∷ row) h = refl
other_length (n ∷ names) [] h = refl
other_length (n ∷ names) (v ∷ row) h = still_false (nat_lt v (2 ^ n.width)) (fits_names names row) (other_length names row (λ same. h (ap suc same)))

-- ---- inputs

pub not_as_long : (names : List Name) (xs ys : Row) → (length names ≡ length xs → length names ≡ length ys → ⊥) → false ≡ agrees names xs ys
not_as_long [] [] [] h = absurd (h refl refl)
not_as_long [] [] (y ∷ ys) h = refl
not_as_long [] (x ∷ xs) ys h = refl
not_as_long (n ∷ names) [] ys h = refl
not_as_long (n ∷ names) (x ∷ xs) [] h = refl
not_as_long (n ∷ names) (x ∷ xs) (y ∷ ys) h = still_false (not (is_input n.role) || nat_eq x y) (agrees names xs ys) (not_as_long names xs ys (λ one other. h (ap suc one) (ap suc other)))

pub not_as_many : (names : List Name) (xs ys : List Row) → (length xs ≡ length ys → ⊥) → false ≡ all_agree names xs ys
not_as_many names [] [] h = absurd (h refl)
not_as_many names [] (y ∷ ys) h = refl
not_as_many names (x ∷ xs) [] h = refl
not_as_many names (x ∷ xs) (y ∷ ys) h = still_false (agrees names x y) (all_agree names xs ys) (not_as_many names xs ys (λ same. h (ap suc same)))

-- ---- entries

pub row_long : (names : List Name) (row : Row) → IsRow names row → length row ≡ length names
row_long names row h = AllZip-long (λ (name : Name) v. v < 2 ^ name.width) names row h

-- an element doesn't depend on what stands for a missing one
pub get_same : {X : Type 0} (xs : List X) (i : ℕ) (d e : X) → i < length xs → get_or xs i d ≡ get_or xs i e
get_same [] i d e lt = absurd (omega arith)
get_same (x ∷ xs) zero d e lt = refl
get_same (x ∷ xs) (suc i) d e lt = get_same xs i d e (omega arith)

value_fits : (names : List Name) (row : Row) (i d : ℕ) (x : Name) → IsRow names row → i < length names → x ≡ get_or names i x → get_or row i d < 2 ^ x.width
value_fits [] row i d x h lt is = absurd (omega arith)
value_fits (n ∷ names) [] i d x h lt is = absurd h
value_fits (n ∷ names) (u ∷ row) zero d x h lt is = rw is h.0
value_fits (n ∷ names) (u ∷ row) (suc i) d x h lt is = value_fits names row i d x h.1 (omega arith) is

pub entry_fits : (names : List Name) (row : Row) (i d offset : ℕ) (x : Name) (e : Entry) → All (λ (n : Name). IsLength n.width) names → IsRow names row → i < length names → x ≡ get_or names i x → e ≡ entry_of x offset (get_or row i d) → EntryFits e
entry_fits names row i d offset x e widths h lt is made = rw made (subst (λ (n : Name). IsLength n.width) (sym is) (widths i x lt), value_fits names row i d x h lt is)

pub row_next : (names : List Name) (row : Row) (offset i d : ℕ) (x : Name) (old new : List Entry) (e : Entry) → IsRow names row → i < length names → x ≡ get_or names i x → e ≡ entry_of x offset (get_or row i d) → new ≡ old ++ e ∷ [] →
    new ++ row_entries (drop (i + 1) names) offset (drop (i + 1) row) ≡ old ++ row_entries (drop i names) offset (drop i row)
row_next names row offset i d x old new e h lt is made pushed =
    let long = row_long names row h in
    let below : i < length row = omega (arith, long) in
    rw (cut names i x lt is, cut row i (get_or row i d) below (get_same row i d (get_or row i d) below), pushed, made) (joined old (entry_of x offset (get_or row i d)) (row_entries (drop (i + 1) names) offset (drop (i + 1) row)))
  where
    joined : (xs : List Entry) (y : Entry) (ys : List Entry) → (xs ++ y ∷ []) ++ ys ≡ xs ++ y ∷ ys
    joined [] y ys = refl
    joined (x ∷ xs) y ys = ap (λ zs. x ∷ zs) (joined xs y ys)
