-- Formulas that are well formed over rows of zeros are well formed over all rows.
use Rattle.std.proofs.Common.{◌≡◌, ℕ, suc, inl, inr, List, [], ◌∷◌, length, Option, Some, None, true, false, refl, sym, ap, subst, arith}
use Rattle.std.specs.Prelude.{nat_eq, ◌&&◌, unwrap_or, IsSomeAnd}
use Rattle.std.specs.List.{All}
use Rattle.std.specs.Option.{option_map, option_or}
use Rattle.std.specs.Str.{bytes_eq}
use Rattle.vlog_tree.specs.declared.expr.Constant.{Constant}
use Rattle.vlog_tree.specs.declared.expr.Expr.{Expr}
use Rattle.vlog_tree.specs.declared.expr.Name.{Name as Read}
use Rattle.vlog_tree.specs.declared.valuation.Entry.{Entry}
use Rattle.vlog_tree.specs.Valuation.{IsLength, entry_at, meant}
use Rattle.vlog_tree.specs.Value.{IsFormed}
use Rattle.set_tree.specs.declared.set.Name.{Name}
use Rattle.set_tree.specs.Formulas.{largest_offset, row_entries, entries_from}
use Rattle.set_tree.specs.Meaning.{Row}
use Rattle.set_tree.specs.Traces.{IsRow}
use Rattle.set_read_lookup.specs.Faults.{Has}
use Rattle.set_read_lookup.specs.Formed.{zero_rows, IsFormedOver}
use Rattle.set_read_lookup.proofs.Searches.{by_test}
use Rattle.set_read_lookup.proofs.Zeros.{zeros, at_both, flat_rows}
use Rattle.set_read_lookup.proofs.Alike.{Alike, same_formed}
use Rattle.set_read_lookup.proofs.Elements.{has_contains}
use Rattle.std.proofs.lemmas.List.Elements.{All-contains}

-- entries that differ in their values at most
Pair : Option Entry → Option Entry → Type 0
Pair None None = Unit {0}
Pair (Some a) (Some b) = (a.width ≡ b.width) × (a.low ≡ b.low) × (a.signed ≡ b.signed)
Pair None (Some b) = ⊥
Pair (Some a) None = ⊥

row_pair : (names : List Name) (row : Row) (o j : ℕ) (x : List ℕ) → length row ≡ length names → Pair (entry_at (row_entries names o (zeros names)) x j) (entry_at (row_entries names o row) x j)
unfolding Pair
row_pair [] row o j x h = tt
row_pair (n ∷ ns) [] o j x h = absurd (omega (arith, h))
row_pair (n ∷ ns) (v ∷ row) o j x h = by_test (nat_eq o j && bytes_eq n.name x)
    (λ (t : (nat_eq o j && bytes_eq n.name x) ≡ true). rw t (refl, refl, refl))
    (λ (t : (nat_eq o j && bytes_eq n.name x) ≡ false). rw t (row_pair ns row o j x (omega (arith, h))))

or_pair : (a b c d : Option Entry) → Pair a b → Pair c d → Pair (option_or a c) (option_or b d)
unfolding Pair
or_pair None None c d p q = q
or_pair (Some a) (Some b) c d p q = p
or_pair None (Some b) c d p q = absurd p
or_pair (Some a) None c d p q = absurd p

rows_pair : (names : List Name) (rows : List Row) (o j : ℕ) (x : List ℕ) → ((row : Row) → Has rows row → length row ≡ length names)
    → Pair (entry_at (entries_from names o (zero_rows names (length rows))) x j) (entry_at (entries_from names o rows) x j)
unfolding Pair
rows_pair names [] o j x h = tt
rows_pair names (row ∷ rows) o j x h =
    subst (λ z. Pair z (entry_at (entries_from names o (row ∷ rows)) x j)) (sym (at_both (row_entries names o (zeros names)) (entries_from names (suc o) (zero_rows names (length rows))) x j))
    (subst (λ z. Pair (option_or (entry_at (row_entries names o (zeros names)) x j) (entry_at (entries_from names (suc o) (zero_rows names (length rows))) x j)) z)
    (sym (at_both (row_entries names o row) (entries_from names (suc o) rows) x j))
    (or_pair (entry_at (row_entries names o (zeros names)) x j) (entry_at (row_entries names o row) x j) (entry_at (entries_from names (suc o) (zero_rows names (length rows))) x j) (entry_at (entries_from names (suc o) rows) x j)
    (row_pair names row o j x (h row (inl refl))) (rows_pair names rows (suc o) j x (λ r k. h r (inr k)))))

abbrev nowhere : Constant
nowhere = record { width = 1; low = 0; signed = false; value = 0 }

pair_width : (a b : Option Entry) → Pair a b → (unwrap_or (option_map meant a) nowhere).width ≡ (unwrap_or (option_map meant b) nowhere).width
unfolding Pair
pair_width None None p = refl
pair_width (Some a) (Some b) p = p.0
pair_width None (Some b) p = absurd p
pair_width (Some a) None p = absurd p

pair_low : (a b : Option Entry) → Pair a b → (unwrap_or (option_map meant a) nowhere).low ≡ (unwrap_or (option_map meant b) nowhere).low
unfolding Pair
pair_low None None p = refl
pair_low (Some a) (Some b) p = p.1
pair_low None (Some b) p = absurd p
pair_low (Some a) None p = absurd p

pair_signed : (a b : Option Entry) → Pair a b → (unwrap_or (option_map meant a) nowhere).signed ≡ (unwrap_or (option_map meant b) nowhere).signed
unfolding Pair
pair_signed None None p = refl
pair_signed (Some a) (Some b) p = p.2
pair_signed None (Some b) p = absurd p
pair_signed (Some a) None p = absurd p

pair_stands : (a b : Option Entry) → Pair a b → IsSomeAnd (option_map meant a) (λ k. IsLength k.width) → IsSomeAnd (option_map meant b) (λ k. IsLength k.width)
unfolding Pair
pair_stands None None p h = h
pair_stands (Some a) (Some b) p h = subst IsLength p.0 h
pair_stands None (Some b) p h = absurd p
pair_stands (Some a) None p h = absurd p

row_length : (names : List Name) (row : Row) → IsRow names row → length row ≡ length names
row_length [] [] h = refl
row_length [] (v ∷ row) h = absurd h
row_length (n ∷ ns) [] h = absurd h
row_length (n ∷ ns) (v ∷ row) h = ap suc (row_length ns row h.1)

module _ (names : List Name) (rows : List Row) (n : ℕ) (size : length rows ≡ n) (fit : All (IsRow names) rows) where
  wide : (row : Row) → Has rows row → length row ≡ length names
  wide row h = row_length names row (All-contains (IsRow names) rows row fit (has_contains rows row h))

  pairs : (x : Read) → Pair (entry_at (entries_from names 0 (zero_rows names n)) x.text x.offset) (entry_at (entries_from names 0 rows) x.text x.offset)
  pairs x = subst (λ k. Pair (entry_at (entries_from names 0 (zero_rows names k)) x.text x.offset) (entry_at (entries_from names 0 rows) x.text x.offset)) size (rows_pair names rows 0 x.offset x.text wide)

  alike : Alike (entries_from names 0 (zero_rows names n)) (entries_from names 0 rows)
  alike = record {
    width = λ x. pair_width (entry_at (entries_from names 0 (zero_rows names n)) x.text x.offset) (entry_at (entries_from names 0 rows) x.text x.offset) (pairs x);
    low = λ x. pair_low (entry_at (entries_from names 0 (zero_rows names n)) x.text x.offset) (entry_at (entries_from names 0 rows) x.text x.offset) (pairs x);
    signed = λ x. pair_signed (entry_at (entries_from names 0 (zero_rows names n)) x.text x.offset) (entry_at (entries_from names 0 rows) x.text x.offset) (pairs x);
    stands = λ x. pair_stands (entry_at (entries_from names 0 (zero_rows names n)) x.text x.offset) (entry_at (entries_from names 0 rows) x.text x.offset) (pairs x);
    left = λ x. flat_rows names (zero_rows names n) 0 x.offset x.text;
    right = λ x. flat_rows names rows 0 x.offset x.text;
  }

  over_rows : (f : Expr) → suc (largest_offset f) ≡ n → IsFormedOver names f → IsFormed (entries_from names 0 rows) f
  over_rows f e p =
      same_formed (entries_from names 0 (zero_rows names n)) (entries_from names 0 rows) f alike p.constant
      (subst (λ k. IsFormed (entries_from names 0 (zero_rows names k)) f) e p.formed)

pub formed_over : (names : List Name) (rows : List Row) (f : Expr) → All (IsRow names) rows → length rows ≡ suc (largest_offset f) → IsFormedOver names f → IsFormed (entries_from names 0 rows) f
formed_over names rows f fit size p = over_rows names rows (suc (largest_offset f)) size fit f refl p
