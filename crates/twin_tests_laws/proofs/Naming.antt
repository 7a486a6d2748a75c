-- The windows of a naming, and the naming of two windows.
use Rattle.std.proofs.Common.{◌≡◌, ◌≢◌, inl, inr, ℕ, zero, suc, ◌+◌, ◌<◌, Bool, true, false, List, [], ◌∷◌, length, get_or, map, refl, sym, ◌∙◌, ap, arith}
use Rattle.std.specs.Prelude.{◌^◌, ◌%◌, ◌==◌, if◌then◌else◌, pos, nat_abs, bytes_eq, cond}
use Rattle.std.proofs.Math.Nat.{mod-lt, mod-eq_of_lt}
use Rattle.std.proofs.lemmas.Nat.{pow_pos}
use Rattle.std.proofs.lemmas.Slice.Eq.{bytes_eq-Decides}
use Rattle.std.proofs.lemmas.Bool.{cases_Bool}
use Rattle.std.proofs.lemmas.List.{length-map}
use Rattle.std.specs.List.{All, AllPairs}
use Rattle.std.proofs.lemmas.List.Elements.{All-cons, All-nil}
use Rattle.set_tree.specs.declared.set.Set.{Set}
use Rattle.set_tree.specs.declared.set.Name.{Name}
use Rattle.set_tree.specs.declared.set.Role.{Role}
use Rattle.set_tree.specs.declared.set.Role.TheVariants.{Input, Output, State}
use Rattle.set_tree.specs.Meaning.{Row}
use Rattle.set_tree.specs.Parts.{is_input, input_values}
use Rattle.set_tree.specs.Traces.{IsRow}
use Rattle.word_dag.specs.Nodes.{Naming}
use Rattle.twin_tests_laws.specs.Windows.{named_value, rows_from, HasDistinctNames}
use Rattle.twin_tests_laws.specs.Laws.{AreNamedRows, WindowsHaveValues}

pub length-rows_from : (names : List Name) (e : Naming) (side t k : ℕ) → length (rows_from names e side t k) ≡ k
length-rows_from names e side t zero = refl
length-rows_from names e side t (suc k) = ap suc (length-rows_from names e side (suc t) k)

named_row : (names : List Name) (e : Naming) (side t : ℕ) → IsRow names (map (named_value e side t) names)
named_row [] e side t = tt
named_row (name ∷ names) e side t = (mod-lt _ (pow_pos name.width), named_row names e side t)

rows_are : (names : List Name) (e : Naming) (side t k : ℕ) → All (IsRow names) (rows_from names e side t k)
rows_are names e side t zero = All-nil (IsRow names)
rows_are names e side t (suc k) = All-cons (IsRow names) _ _ (named_row names e side t) (rows_are names e side (suc t) k)

inputs_next : (name : Name) (names : List Name) (e : Naming) (t : ℕ) (r : Role) → name.role ≡ r → input_values names (map (named_value e 0 t) names) ≡ input_values names (map (named_value e 1 t) names) → input_values (name ∷ names) (map (named_value e 0 t) (name ∷ names)) ≡ input_values (name ∷ names) (map (named_value e 1 t) (name ∷ names))
inputs_next name names e t Input is rest = rw is (ap (λ (vs : List ℕ). e name.name 0 (pos t) % 2 ^ name.width ∷ vs) rest)
inputs_next name names e t Output is rest = rw is rest
inputs_next name names e t State is rest = rw is rest

inputs_agree : (names : List Name) (e : Naming) (t : ℕ) → input_values names (map (named_value e 0 t) names) ≡ input_values names (map (named_value e 1 t) names)
inputs_agree [] e t = refl
inputs_agree (name ∷ names) e t = inputs_next name names e t name.role refl (inputs_agree names e t)

rows_inputs : (names : List Name) (e : Naming) (t k : ℕ) → map (input_values names) (rows_from names e 0 t k) ≡ map (input_values names) (rows_from names e 1 t k)
rows_inputs names e t zero = refl
rows_inputs names e t (suc k) =
    let here = inputs_agree names e t in
    let rest = rows_inputs names e (suc t) k in
    cc

pub are_named_rows : (set : Set) (e : Naming) (end : ℕ) → AreNamedRows set e end
are_named_rows set e end = record {
  size = length-rows_from set.names e 0 0 (end + 1);
  other_size = length-rows_from set.names e 1 0 (end + 1);
  first = rows_are set.names e 0 0 (end + 1);
  second = rows_are set.names e 1 0 (end + 1);
  inputs = rows_inputs set.names e 0 (end + 1);
}

-- the value that a row has for a name
abbrev value_in : List Name → List ℕ → Row → ℕ
value_in [] x row = 0
value_in (name ∷ names) x [] = 0
value_in (name ∷ names) x (v ∷ row) = if bytes_eq x name.name then v else value_in names x row

-- the values of free words that give these two windows
abbrev naming_of : List Name → List Row → List Row → Naming
naming_of names xs ys x side cycle = if side == 0 then value_in names x (get_or xs (nat_abs cycle) []) else value_in names x (get_or ys (nat_abs cycle) [])

-- the other names have other texts
abbrev IsApart : Name → List Name → Type 0
IsApart name [] = Unit {0}
IsApart name (other ∷ names) = (bytes_eq other.name name.name ≡ false) × IsApart name names

abbrev AreApart : List Name → Type 0
AreApart [] = Unit {0}
AreApart (name ∷ names) = IsApart name names × AreApart names

other_text : (x y : List ℕ) → x ≢ y → bytes_eq y x ≡ false
other_text x y differ = elim (cases_Bool (bytes_eq y x)) [ inl same ↦ absurd (differ (sym ((bytes_eq-Decides y x).0 same))) | inr other ↦ other ]

apart_from : (name : Name) (names : List Name) → ((j : ℕ) → j < length names → name.name ≢ get_or (map (λ (n : Name). n.name) names) j []) → IsApart name names
apart_from name [] differ = tt
apart_from name (other ∷ names) differ =
    (other_text name.name other.name (differ 0 (omega arith)), apart_from name names (λ j lt. differ (suc j) (omega arith)))

are_apart : (names : List Name) → AllPairs (λ x y. x ≢ y) (map (λ (n : Name). n.name) names) → AreApart names
are_apart [] distinct = tt
are_apart (name ∷ names) distinct =
    let size = length-map names (λ (n : Name). n.name) in (
      apart_from name names (λ j lt. distinct 0 (suc j) [] (omega arith) (omega (arith, size))),
      are_apart names (λ i j d before lt. distinct (suc i) (suc j) d (omega arith) (omega arith)),
    )

-- a fact of each name
abbrev EachName : (Name → Type 0) → List Name → Type 0
EachName P [] = Unit {0}
EachName P (name ∷ names) = P name × EachName P names

-- what a row has for a name: inputs are read in the first of two rows
abbrev mixed : List Name → Row → Row → Name → ℕ
mixed names xr yr name = value_in names name.name (cond (is_input name.role) xr yr) % 2 ^ name.width

bytes_same : (x : List ℕ) → bytes_eq x x ≡ true
bytes_same x = (bytes_eq-Decides x x).1 refl

value_later : (name : Name) (names : List Name) (x : List ℕ) (v u : ℕ) (xr yr : Row) (b : Bool) → bytes_eq x name.name ≡ false → value_in (name ∷ names) x (cond b (v ∷ xr) (u ∷ yr)) ≡ value_in names x (cond b xr yr)
value_later name names x v u xr yr true other = rw other refl
value_later name names x v u xr yr false other = rw other refl

later : (name : Name) (names ns : List Name) (g : Name → ℕ) (v u : ℕ) (xr yr : Row) → IsApart name ns → EachName (λ n. g n ≡ mixed (name ∷ names) (v ∷ xr) (u ∷ yr) n) ns → EachName (λ n. g n ≡ mixed names xr yr n) ns
later name names [] g v u xr yr apart each = tt
later name names (n ∷ ns) g v u xr yr apart each =
    (each.0 ∙ ap (λ k. k % 2 ^ n.width) (value_later name names n.name v u xr yr (is_input n.role) apart.0), later name names ns g v u xr yr apart.1 each.1)

-- the value at a name of its own
own_value : (name : Name) (names : List Name) (v u : ℕ) (xr yr : Row) (r : Role) → name.role ≡ r → input_values (name ∷ names) (v ∷ xr) ≡ input_values (name ∷ names) (u ∷ yr) → value_in (name ∷ names) name.name (cond (is_input name.role) (v ∷ xr) (u ∷ yr)) ≡ u
own_value name names v u xr yr Input is same =
    let same' : v ∷ input_values names xr ≡ u ∷ input_values names yr = rw is at same in
    let first : v ≡ u = cc in
    rw (is, bytes_same name.name) first
own_value name names v u xr yr Output is same = rw (is, bytes_same name.name) refl
own_value name names v u xr yr State is same = rw (is, bytes_same name.name) refl

other_inputs : (name : Name) (names : List Name) (v u : ℕ) (xr yr : Row) (r : Role) → name.role ≡ r → input_values (name ∷ names) (v ∷ xr) ≡ input_values (name ∷ names) (u ∷ yr) → input_values names xr ≡ input_values names yr
other_inputs name names v u xr yr Input is same =
    let same' : v ∷ input_values names xr ≡ u ∷ input_values names yr = rw is at same in
    cc
other_inputs name names v u xr yr Output is same =
    let same' : input_values names xr ≡ input_values names yr = rw is at same in
    same'
other_inputs name names v u xr yr State is same =
    let same' : input_values names xr ≡ input_values names yr = rw is at same in
    same'

row_made : (names : List Name) (g : Name → ℕ) (xr yr : Row) → IsRow names xr → IsRow names yr → input_values names xr ≡ input_values names yr → AreApart names → EachName (λ n. g n ≡ mixed names xr yr n) names → map g names ≡ yr
row_made [] g xr [] fits fits' same apart each = refl
row_made [] g xr (u ∷ yr) fits fits' same apart each = absurd fits'
row_made (name ∷ names) g [] yr fits fits' same apart each = absurd fits
row_made (name ∷ names) g (v ∷ xr) [] fits fits' same apart each = absurd fits'
row_made (name ∷ names) g (v ∷ xr) (u ∷ yr) fits fits' same apart each =
    let here : g name ≡ u = each.0 ∙ (ap (λ k. k % 2 ^ name.width) (own_value name names v u xr yr name.role refl same) ∙ mod-eq_of_lt fits'.0) in
    let rest : map g names ≡ yr = row_made names g xr yr fits.1 fits'.1 (other_inputs name names v u xr yr name.role refl same) apart.1 (later name names names g v u xr yr apart.0 each.1) in
    cc

rows_made : (names : List Name) (e : Naming) (side t : ℕ) (xs : List Row) → ((i : ℕ) → i < length xs → map (named_value e side (t + i)) names ≡ get_or xs i []) → rows_from names e side t (length xs) ≡ xs
rows_made names e side t [] h = refl
rows_made names e side t (x ∷ xs) h =
    let same : t ≡ t + 0 = omega arith in
    let here : map (named_value e side t) names ≡ x = ap (λ (i : ℕ). map (named_value e side i) names) same ∙ h 0 (omega arith) in
    let rest = rows_made names e side (suc t) xs (λ i lt. let next : suc t + i ≡ t + suc i = omega arith in ap (λ (j : ℕ). map (named_value e side j) names) next ∙ h (suc i) (omega arith)) in
    cc

inputs_at : (names : List Name) (xs ys : List Row) (i : ℕ) → map (input_values names) xs ≡ map (input_values names) ys → input_values names (get_or xs i []) ≡ input_values names (get_or ys i [])
inputs_at names [] [] i same = refl
inputs_at names [] (y ∷ ys) i same = cc
inputs_at names (x ∷ xs) [] i same = cc
inputs_at names (x ∷ xs) (y ∷ ys) zero same = let here : input_values names x ≡ input_values names y = cc in here
inputs_at names (x ∷ xs) (y ∷ ys) (suc i) same = let rest : map (input_values names) xs ≡ map (input_values names) ys = cc in inputs_at names xs ys i rest

same_length : (names : List Name) (xs ys : List Row) → map (input_values names) xs ≡ map (input_values names) ys → length xs ≡ length ys
same_length names [] [] same = refl
same_length names [] (y ∷ ys) same = cc
same_length names (x ∷ xs) [] same = cc
same_length names (x ∷ xs) (y ∷ ys) same = let rest : map (input_values names) xs ≡ map (input_values names) ys = cc in ap suc (same_length names xs ys rest)

-- what the naming of two windows has for a name
first_values : (all names : List Name) (xs ys : List Row) (t : ℕ) → EachName (λ n. named_value (naming_of all xs ys) 0 t n ≡ mixed all (get_or xs t []) (get_or xs t []) n) names
first_values all [] xs ys t = tt
first_values all (name ∷ names) xs ys t = (by_role name.role refl, first_values all names xs ys t)
  where
    by_role : (r : Role) → name.role ≡ r → named_value (naming_of all xs ys) 0 t name ≡ mixed all (get_or xs t []) (get_or xs t []) name
    by_role Input is = rw is refl
    by_role Output is = rw is refl
    by_role State is = rw is refl

second_values : (all names : List Name) (xs ys : List Row) (t : ℕ) → EachName (λ n. named_value (naming_of all xs ys) 1 t n ≡ mixed all (get_or xs t []) (get_or ys t []) n) names
second_values all [] xs ys t = tt
second_values all (name ∷ names) xs ys t = (by_role name.role refl, second_values all names xs ys t)
  where
    by_role : (r : Role) → name.role ≡ r → named_value (naming_of all xs ys) 1 t name ≡ mixed all (get_or xs t []) (get_or ys t []) name
    by_role Input is = rw is refl
    by_role Output is = rw is refl
    by_role State is = rw is refl

pub windows_have_values : (set : Set) → HasDistinctNames set → WindowsHaveValues set
windows_have_values set distinct end xs ys size first second same =
    let names = set.names in
    let apart = are_apart names distinct in
    let e = naming_of names xs ys in
    let size' : length ys ≡ end + 1 = sym (same_length names xs ys same) ∙ size in
    let one = rows_made names e 0 0 xs (λ i lt.
    let at : 0 + i ≡ i = omega arith in
    ap (λ (j : ℕ). map (named_value e 0 j) names) at ∙ row_made names (named_value e 0 i) _ _ (first i [] lt) (first i [] lt) refl apart (first_values names names xs ys i)) in
    let two = rows_made names e 1 0 ys (λ i lt.
    let at : 0 + i ≡ i = omega arith in
    let lt' : i < length xs = omega (arith, size, size') in
    ap (λ (j : ℕ). map (named_value e 1 j) names) at ∙ row_made names (named_value e 1 i) _ _ (first i [] lt') (second i [] lt) (inputs_at names xs ys i same) apart (second_values names names xs ys i)) in
    (e, ap (rows_from names e 0 0) (sym size) ∙ one, ap (rows_from names e 1 0) (sym size') ∙ two)
