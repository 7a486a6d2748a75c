-- Invariants of a set with a sound structure.
use Rattle.std.proofs.Common.{◌≡◌, ℕ, ◌<◌, ◌++◌, List, length, get_or, map, Some, sym, ap, ◌∙◌, subst, arith}
use Rattle.std.specs.Prelude.{slice_get}
use Rattle.std.specs.List.{Contains, flat_map}
use Rattle.std.specs.Option.{option_to_list}
use Rattle.std.proofs.lemmas.List.{length-map, get_or-map}
use Rattle.std.proofs.lemmas.List.Elements.{All-contains, Contains-append_left, Contains-append_right}
use Rattle.std.proofs.lemmas.Option.{slice_get_within, get_or_from_slice_get}
use Rattle.set_tree.specs.declared.set.Name.{Name}
use Rattle.set_tree.specs.declared.set.Rule.{Rule}
use Rattle.set_tree.specs.declared.set.Set.{Set}
use Rattle.set_tree.specs.Formulas.{meaning_of}
use Rattle.set_tree.specs.Structure.{IsSound}
use Rattle.set_tree_structure.specs.Condition.{IsFormula, IsWellFormed, formulas_of, property_formulas}
use Rattle.twin_tests.specs.Building.{IsReadable}

member : {X : Type 0} (xs : List X) (i : ℕ) (x : X) → slice_get xs i ≡ Some x → Contains xs x
member xs i x there = (i, slice_get_within xs i x there, get_or_from_slice_get xs i x x there)

mapped : {X Y : Type 0} (f : X → Y) (xs : List X) (x : X) → Contains xs x → Contains (map f xs) (f x)
mapped f xs x c = let long = length-map xs f in (c.0, omega (arith, long, c.1), get_or-map f xs c.0 x (f x) c.1 ∙ ap f c.2)

-- an invariant is one of the set's formulas
formed_one : (set : Set) (rule : Rule) → IsWellFormed set → Contains set.invariants rule → IsFormula set rule.formula
formed_one set rule formed there =
    let constraints = map (λ (r : Rule). r.formula) set.constraints in
    let invariants = map (λ (r : Rule). r.formula) set.invariants in
    let domains = flat_map (λ (n : Name). option_to_list n.domain) set.names in
    let rest = flat_map property_formulas set.operations in
    let first = property_formulas set.first in
    let here = Contains-append_right constraints invariants rule.formula (mapped (λ (r : Rule). r.formula) set.invariants rule there) in
    let some = Contains-append_left (constraints ++ invariants) domains rule.formula here in
    let more = Contains-append_left ((constraints ++ invariants) ++ domains) first rule.formula some in
    All-contains (IsFormula set) (formulas_of set) rule.formula formed.formulas (Contains-append_left (((constraints ++ invariants) ++ domains) ++ first) rest rule.formula more)

-- it reads the first row alone
readable : (set : Set) (rule : Rule) (k : ℕ) → IsSound (meaning_of set) set → IsWellFormed set → Contains set.invariants rule → 0 < k → IsReadable set k rule.formula
readable set rule k sound formed there some = record {
  formed = formed_one set rule formed there;
  fits = let least = sound.offsets.invariants rule there in omega (arith, least, some);
}

-- that at a position, as the set was handed out
pub readable_at : (set own : Set) (i k : ℕ) (rule : Rule) → own ≡ set → slice_get own.invariants i ≡ Some rule → IsSound (meaning_of set) set → IsWellFormed set → 0 < k → IsReadable set k rule.formula
readable_at set own i k rule same there sound formed some =
    readable set rule k sound formed (member set.invariants i rule (subst (λ (s : Set). slice_get s.invariants i ≡ Some rule) same there)) some

-- each in turn
pub readable_each : (set own : Set) (rules : List Rule) (i k : ℕ) (rule : Rule) → own ≡ set → rules ≡ own.invariants → rule ≡ get_or rules i rule → i < length rules → IsSound (meaning_of set) set → IsWellFormed set → 0 < k → IsReadable set k rule.formula
readable_each set own rules i k rule same listed is lt sound formed some =
    let these : rules ≡ set.invariants = listed ∙ ap (λ (s : Set). s.invariants) same in
    readable set rule k sound formed (subst (λ (rs : List Rule). Contains rs rule) these (i, lt, sym is)) some
