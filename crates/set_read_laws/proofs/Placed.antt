-- The names of a set's properties and invariants stand at different places of one list.
use Rattle.std.proofs.Common.{◌≡◌, ◌≢◌, ℕ, zero, suc, ◌+◌, ◌<◌, ◌≤◌, List, [], ◌∷◌, ◌++◌, length, map, get_or, refl, sym, ap, ◌∙◌, arith, length-append, inl, inr}
use Rattle.std.specs.Prelude.{slice_get}
use Rattle.std.specs.List.{AllPairs}
use Rattle.std.proofs.Math.ListN.{get_or-append}
use Rattle.std.proofs.lemmas.Bool.{cases_lt}
use Rattle.std.proofs.lemmas.List.{get_or-append-add, get_or-map, length-map}
use Rattle.set_tree.specs.declared.set.Property.{Property}
use Rattle.set_tree.specs.declared.set.Rule.{Rule}
use Rattle.set_tree.specs.declared.set.Set.{Set}
use Rattle.set_tree.specs.Parts.{IsPosition}
use Rattle.set_tree_structure.specs.Condition.{IsWellFormed, rule_names}
use Rattle.twin_tests_laws.specs.Names.{invariant_name, name_of_rule, property_name}

abbrev Names : Type 0
Names = List (List ℕ)

-- in a list of different names equal ones stand at one place
one_place : (ns : Names) → AllPairs (λ x y. x ≢ y) ns → (i j : ℕ) → i < length ns → j < length ns → get_or ns i [] ≡ get_or ns j [] → i ≡ j
one_place ns apart i j li lj same = elim (cases_lt i j) [
  | inl less ↦ absurd (apart i j [] less lj same)
  | inr no_less ↦ elim (cases_lt j i) [ inl more ↦ absurd (apart j i [] more li (sym same)) | inr no_more ↦ omega arith ]
]

rule_at : (rs : List Rule) (i : ℕ) → i < length rs → name_of_rule (slice_get rs i) ≡ get_or (map (λ (r : Rule). r.name) rs) i []
rule_at [] i lt = absurd (omega arith)
rule_at (r ∷ rs) zero lt = refl
rule_at (r ∷ rs) (suc i) lt = rule_at rs i (omega arith)

abbrev constraint_names : Set → Names
constraint_names set = map (λ (r : Rule). r.name) set.constraints

abbrev invariant_names : Set → Names
invariant_names set = map (λ (r : Rule). r.name) set.invariants

abbrev operation_names : Set → Names
operation_names set = map (λ (p : Property). p.name) set.operations

-- where the name of a property stands, and that of an invariant
abbrev property_place : Set → ℕ → ℕ
property_place set zero = 0
property_place set (suc i) = suc (length (constraint_names set ++ invariant_names set) + i)

abbrev invariant_place : Set → ℕ → ℕ
invariant_place set i = suc (length (constraint_names set) + i)

property_there : (set : Set) (p : ℕ) → IsPosition set p → get_or (rule_names set) (property_place set p) [] ≡ property_name set p
property_there set zero at = refl
property_there set (suc i) at =
    get_or-append-add (constraint_names set ++ invariant_names set) (operation_names set) i []
    ∙ get_or-map (λ (p : Property). p.name) set.operations i set.first [] (omega arith)

invariant_there : (set : Set) (i : ℕ) → i < length set.invariants → get_or (rule_names set) (invariant_place set i) [] ≡ invariant_name set i
invariant_there set i lt =
    let many = length-map set.invariants (λ (r : Rule). r.name) in
    let whole = length-append (constraint_names set) (invariant_names set) in
    get_or-append (constraint_names set ++ invariant_names set) (operation_names set) [] (length (constraint_names set) + i) (omega (arith, many, whole))
    ∙ (get_or-append-add (constraint_names set) (invariant_names set) i [] ∙ sym (rule_at set.invariants i lt))

names_many : (set : Set) → length (rule_names set) ≡ suc (length (constraint_names set ++ invariant_names set) + length set.operations)
names_many set =
    let many = length-map set.operations (λ (p : Property). p.name) in
    let whole = length-append (constraint_names set ++ invariant_names set) (operation_names set) in
    omega (arith, many, whole)

property_within : (set : Set) (p : ℕ) → IsPosition set p → property_place set p < length (rule_names set)
property_within set zero at = let many = names_many set in omega (arith, many)
property_within set (suc i) at = let many = names_many set in omega (arith, many, at)

invariant_within : (set : Set) (i : ℕ) → i < length set.invariants → invariant_place set i < length (rule_names set)
invariant_within set i lt =
    let many = names_many set in
    let rules = length-map set.invariants (λ (r : Rule). r.name) in
    let whole = length-append (constraint_names set) (invariant_names set) in
    omega (arith, many, rules, whole)

place_back : (set : Set) (p q : ℕ) → property_place set p ≡ property_place set q → p ≡ q
place_back set zero zero same = refl
place_back set zero (suc j) same = absurd (omega (arith, same))
place_back set (suc i) zero same = absurd (omega (arith, same))
place_back set (suc i) (suc j) same = omega (arith, same)

pub property_known : (set : Set) → IsWellFormed set → (p q : ℕ) → IsPosition set p → IsPosition set q → property_name set p ≡ property_name set q → p ≡ q
property_known set formed p q in_p in_q same =
    place_back set p q (one_place (rule_names set) formed.distinct_rules (property_place set p) (property_place set q) (property_within set p in_p) (property_within set q in_q)
    (property_there set p in_p ∙ (same ∙ sym (property_there set q in_q))))

pub invariant_known : (set : Set) → IsWellFormed set → (i j : ℕ) → i < length set.invariants → j < length set.invariants → invariant_name set i ≡ invariant_name set j → i ≡ j
invariant_known set formed i j in_i in_j same =
    let place = one_place (rule_names set) formed.distinct_rules (invariant_place set i) (invariant_place set j) (invariant_within set i in_i) (invariant_within set j in_j)
    (invariant_there set i in_i ∙ (same ∙ sym (invariant_there set j in_j))) in
    omega (arith, place)
