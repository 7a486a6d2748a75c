-- What declared names mean in rows of zeros.
use Rattle.std.proofs.Common.{◌≡◌, ℕ, zero, suc, ◌+◌, ◌^◌, ◌<◌, ◌≤◌, List, [], ◌∷◌, ◌++◌, map, Option, Some, None, Bool, true, false, refl, sym, ap, ◌∙◌, subst, arith}
use Rattle.std.specs.Prelude.{nat_eq, nat_lt, nat_le, ◌&&◌, ◌-◌, unwrap_or}
use Rattle.std.specs.Option.{option_map, option_or}
use Rattle.std.specs.Str.{bytes_eq}
use Rattle.std.proofs.lemmas.Bool.{ltb-true, eqb-true, eqb-false, eq-eqb, ne_eqb}
use Rattle.vlog_tree.specs.declared.expr.Expr.{Expr}
use Rattle.vlog_tree.specs.declared.valuation.Entry.{Entry}
use Rattle.vlog_tree.specs.Valuation.{IsLength, entry_at, meant}
use Rattle.vlog_tree.specs.Value.{IsFormed}
use Rattle.set_tree.specs.declared.set.Name.{Name}
use Rattle.set_tree.specs.declared.text.Bits.{Bits}
use Rattle.set_tree.specs.declared.text.Declaration.{Declaration}
use Rattle.set_tree.specs.Formulas.{largest_offset, entry_of, row_entries, entries_from}
use Rattle.set_tree.specs.Meaning.{Row}
use Rattle.set_read_lookup.specs.Meaning.{each, joined, name_of, name_with, within, width_of, low_of}
use Rattle.set_read_lookup.specs.Formed.{zero_rows, IsFormedOver}
use Rattle.set_read_lookup.specs.Tests.{present, entry_for, put, declared_entries, IsPresent}
use Rattle.set_read_lookup.proofs.Searches.{by_test}
use Rattle.set_read_lookup.proofs.Readings.{Same, formed_there, formed_here}

abbrev pub zeros : List Name → Row
zeros names = map (λ x. 0) names

-- ---- the declared names

pub width_fits : (b : Option Bits) (w : ℕ) → Some w ≡ width_of b → IsLength w
width_fits None w h = let g : w ≡ 1 = cc in (omega (arith, g), omega (arith, g))
width_fits (Some b) w h = by_test (nat_le b.low b.high && nat_lt (b.high - b.low) 64)
    (λ (t : (nat_le b.low b.high && nat_lt (b.high - b.low) 64) ≡ true).
    let k : Some w ≡ Some (b.high - b.low + 1) = rw t at h in
    let g : w ≡ b.high - b.low + 1 = cc in
    let l : b.high - b.low < 64 = ltb-true (b.high - b.low) 64 (second (nat_le b.low b.high) (nat_lt (b.high - b.low) 64) t) in
    (omega (arith, g), omega (arith, g, l)))
    (λ (t : (nat_le b.low b.high && nat_lt (b.high - b.low) 64) ≡ false). let k : Some w ≡ None = rw t at h in absurd (cc))
  where
    second : (p q : Bool) → (p && q) ≡ true → q ≡ true
    second true q h = h
    second false q h = absurd (cc)

pub record IsDeclared (d : Declaration) (n : Name) : Type 0 where
  pub name : n.name ≡ d.name
  pub width : width_of d.bits ≡ Some n.width
  pub low : within (2 ^ 32) (low_of d.bits) ≡ Some n.low
  pub signed : n.signed ≡ d.signed
  pub role : n.role ≡ d.role
  pub domain : n.domain ≡ d.domain

pub declared_by : (d : Declaration) (n : Name) (w l : Option ℕ) → name_with d w l ≡ Some n → w ≡ width_of d.bits → l ≡ within (2 ^ 32) (low_of d.bits) → IsDeclared d n
declared_by d n (Some w) (Some l) h p q =
    let g : record { name = d.name; role = d.role; width = w; low = l; signed = d.signed; domain = d.domain } ≡ n = cc in
    record { name = sym (ap (λ (x : Name). x.name) g); width = sym p ∙ ap (λ (x : Name). Some x.width) g; low = sym q ∙ ap (λ (x : Name). Some x.low) g; signed = sym (ap (λ (x : Name). x.signed) g); role = sym (ap (λ (x : Name). x.role) g); domain = sym (ap (λ (x : Name). x.domain) g) }
declared_by d n None l h p q = absurd (cc)
declared_by d n (Some w) None h p q = absurd (cc)

pub within_gives : (bound l m : ℕ) → within bound l ≡ Some m → l ≡ m
within_gives bound l m h = by_test (nat_lt l bound)
    (λ (t : nat_lt l bound ≡ true). let k : Some l ≡ Some m = rw t at h in cc)
    (λ (t : nat_lt l bound ≡ false). let k : None ≡ Some m = rw t at h in absurd (cc))

entry_is : (d : Declaration) (n : Name) → IsDeclared d n → entry_for d n.width ≡ entry_of n 0 0
entry_is d n h =
    λ r. record { name = sym h.name r; offset = 0; width = n.width; low = within_gives (2 ^ 32) (low_of d.bits) n.low h.low r; signed = sym h.signed r; depth = 0; value = 0 }

pub split : {B : Type 0} (a : Option B) (b : Option (List B)) (ys : List B) → joined a b ≡ Some ys → (y : B) × (rest : List B) × (a ≡ Some y) × (b ≡ Some rest) × (ys ≡ y ∷ rest)
split (Some y) (Some rest) ys h = let g : y ∷ rest ≡ ys = cc in (y, rest, refl, refl, sym g)
split None b ys h = absurd (cc)
split (Some y) None ys h = absurd (cc)

pub declared_are : (ds : List Declaration) (names : List Name) → each name_of ds ≡ Some names → declared_entries ds ≡ row_entries names 0 (zeros names)
declared_are [] names h = let g : [] ≡ names = cc in ap (λ ns. row_entries ns 0 (zeros ns)) g
declared_are (d ∷ ds) names h =
    let s = split (name_of d) (each name_of ds) names h in
    let n = s.0 in
    let rest = s.1 in
    let one : IsDeclared d n = declared_by d n (width_of d.bits) (within (2 ^ 32) (low_of d.bits)) s.2 refl refl in
    ap (λ w. put d w (declared_entries ds)) one.width
    ∙ ((λ r. entry_is d n one r ∷ declared_are ds rest s.3 r) ∙ sym (ap (λ ns. row_entries ns 0 (zeros ns)) s.4))

-- ---- entries one after another

pub at_both : (xs ys : List Entry) (x : List ℕ) (j : ℕ) → entry_at (xs ++ ys) x j ≡ option_or (entry_at xs x j) (entry_at ys x j)
at_both [] ys x j = refl
at_both (e ∷ es) ys x j = by_test (nat_eq e.offset j && bytes_eq e.name x)
    (λ (t : (nat_eq e.offset j && bytes_eq e.name x) ≡ true). rw t refl)
    (λ (t : (nat_eq e.offset j && bytes_eq e.name x) ≡ false). rw t (at_both es ys x j))

other_row : (names : List Name) (row : Row) (o j : ℕ) (x : List ℕ) → nat_eq o j ≡ false → entry_at (row_entries names o row) x j ≡ None
other_row [] row o j x h = refl
other_row (n ∷ ns) [] o j x h = refl
other_row (n ∷ ns) (v ∷ row) o j x h = rw h (other_row ns row o j x h)

same_nat : (o : ℕ) → nat_eq o o ≡ true
same_nat o = eq-eqb o o refl

this_row : (names : List Name) (row : Row) (o : ℕ) (x : List ℕ) → option_map meant (entry_at (row_entries names o row) x o) ≡ option_map meant (entry_at (row_entries names 0 row) x 0)
this_row [] row o x = refl
this_row (n ∷ ns) [] o x = refl
this_row (n ∷ ns) (v ∷ row) o x = by_test (bytes_eq n.name x)
    (λ (t : bytes_eq n.name x ≡ true). rw (same_nat o, t) refl)
    (λ (t : bytes_eq n.name x ≡ false). rw (same_nat o, t) (this_row ns row o x))

-- no row is before the first
apart : (o j : ℕ) → j < o → nat_eq o j ≡ false
apart o j h = ne_eqb o j (λ e. omega (arith, h, e))

before : (names : List Name) (rows : List Row) (o j : ℕ) (x : List ℕ) → j < o → entry_at (entries_from names o rows) x j ≡ None
before names [] o j x h = refl
before names (row ∷ rows) o j x h =
    at_both (row_entries names o row) (entries_from names (suc o) rows) x j
    ∙ (λ r. option_or (other_row names row o j x (apart o j h) r) (before names rows (suc o) j x (omega (arith, h)) r))

or_none : {A : Type 0} (a : Option A) → option_or a None ≡ a
or_none None = refl
or_none (Some a) = refl

step : (o j k : ℕ) → o ≤ j → nat_eq o j ≡ false → j < o + suc k → (suc o ≤ j) × (j < suc o + k)
step o j k a h b = let n : o ≡ j → ⊥ = eqb-false o j h in (omega (arith, a, n), omega (arith, b))

zeros_mean : (names : List Name) (k o j : ℕ) (x : List ℕ) → o ≤ j → j < o + k
    → option_map meant (entry_at (entries_from names o (zero_rows names k)) x j) ≡ option_map meant (entry_at (row_entries names 0 (zeros names)) x 0)
zeros_mean names zero o j x a b = absurd (omega (arith, a, b))
zeros_mean names (suc k) o j x a b = by_test (nat_eq o j)
    (λ (t : nat_eq o j ≡ true).
    ap (option_map meant) (at_both (row_entries names o (zeros names)) (entries_from names (suc o) (zero_rows names k)) x j
    ∙ (ap (option_or (entry_at (row_entries names o (zeros names)) x j)) (before names (zero_rows names k) (suc o) j x (let e = eqb-true o j t in omega (arith, e)))
    ∙ or_none (entry_at (row_entries names o (zeros names)) x j)))
    ∙ (ap (λ i. option_map meant (entry_at (row_entries names o (zeros names)) x i)) (sym (eqb-true o j t)) ∙ this_row names (zeros names) o x))
    (λ (t : nat_eq o j ≡ false).
    let s = step o j k a t b in
    ap (option_map meant) (at_both (row_entries names o (zeros names)) (entries_from names (suc o) (zero_rows names k)) x j
    ∙ ap (λ z. option_or z (entry_at (entries_from names (suc o) (zero_rows names k)) x j)) (other_row names (zeros names) o j x t))
    ∙ zeros_mean names k (suc o) j x s.0 s.1)

-- ---- none is a memory

abbrev depth_in : Option Entry → ℕ
depth_in o = unwrap_or (option_map (λ e. e.depth) o) 0

flat_or : (a b : Option Entry) → depth_in a ≡ 0 → depth_in b ≡ 0 → depth_in (option_or a b) ≡ 0
flat_or None b g h = h
flat_or (Some a) b g h = g

flat_row : (names : List Name) (row : Row) (o j : ℕ) (x : List ℕ) → depth_in (entry_at (row_entries names o row) x j) ≡ 0
flat_row [] row o j x = refl
flat_row (n ∷ ns) [] o j x = refl
flat_row (n ∷ ns) (v ∷ row) o j x = by_test (nat_eq o j && bytes_eq n.name x)
    (λ (t : (nat_eq o j && bytes_eq n.name x) ≡ true). rw t refl)
    (λ (t : (nat_eq o j && bytes_eq n.name x) ≡ false). rw t (flat_row ns row o j x))

pub flat_rows : (names : List Name) (rows : List Row) (o j : ℕ) (x : List ℕ) → depth_in (entry_at (entries_from names o rows) x j) ≡ 0
flat_rows names [] o j x = refl
flat_rows names (row ∷ rows) o j x =
    ap depth_in (at_both (row_entries names o row) (entries_from names (suc o) rows) x j)
    ∙ flat_or (entry_at (row_entries names o row) x j) (entry_at (entries_from names (suc o) rows) x j) (flat_row names row o j x) (flat_rows names rows (suc o) j x)

-- ---- formulas

same_zeros : (names : List Name) (n : ℕ) → Same (entries_from names 0 (zero_rows names (suc n))) (row_entries names 0 (zeros names)) n
same_zeros names n = record {
  meaning = λ x h. sym (zeros_mean names (suc n) 0 x.offset x.text (omega arith) (omega (arith, h)));
  left = λ x. flat_rows names (zero_rows names (suc n)) 0 x.offset x.text;
  right = λ x. flat_row names (zeros names) 0 x.offset x.text;
}

pub is_over : (ds : List Declaration) (names : List Name) (f : Expr) → each name_of ds ≡ Some names → IsPresent (declared_entries ds) f → IsFormedOver names f
is_over ds names f h p = record {
  constant = p.constant;
  formed = formed_there (entries_from names 0 (zero_rows names (suc (largest_offset f)))) (row_entries names 0 (zeros names)) (largest_offset f) (same_zeros names (largest_offset f)) f (omega arith)
      (subst (λ v. IsFormed v (present f)) (declared_are ds names h) p.formed);
}

pub over_is : (ds : List Declaration) (names : List Name) (f : Expr) → each name_of ds ≡ Some names → IsFormedOver names f → IsPresent (declared_entries ds) f
over_is ds names f h p = record {
  constant = p.constant;
  formed = subst (λ v. IsFormed v (present f)) (sym (declared_are ds names h))
      (formed_here (entries_from names 0 (zero_rows names (suc (largest_offset f)))) (row_entries names 0 (zeros names)) (largest_offset f) (same_zeros names (largest_offset f)) f (omega arith) p.formed);
}
