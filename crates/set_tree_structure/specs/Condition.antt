-- What is asked of a set before its structure is tested: it holds of every set that is read.
use Rattle.std.specs.Prelude.{◌≡◌, ◌≢◌, ℕ, ◌+◌, ◌^◌, ◌<◌, ◌≤◌, false, List, [], ◌∷◌, ◌++◌, length, map, codes, None}
use Rattle.std.specs.List.{Contains, All, AllPairs, flat_map}
use Rattle.std.specs.Option.{option_to_list}
use Rattle.vlog_tree.specs.declared.expr.Binary.{Binary}
use Rattle.vlog_tree.specs.declared.expr.Binary.TheVariants as b
use Rattle.vlog_tree.specs.declared.expr.Expr.{Expr, Row_of-Expr, end_of-Expr, more_of-Expr}
use Rattle.vlog_tree.specs.declared.expr.Expr.TheVariants as e
use Rattle.vlog_tree.specs.Valuation.{IsLength as IsWidth}
use Rattle.vlog_tree.specs.Value.{IsFormed, HasConstantParts}
use Rattle.set_tree.specs.declared.set.Cover.{Cover}
use Rattle.set_tree.specs.declared.set.Property.{Property}
use Rattle.set_tree.specs.declared.set.Set.{Set}
use Rattle.set_tree.specs.Formulas.{largest_offset, entries_from}
use Rattle.set_tree.specs.Meaning.{Row}
use Rattle.set_tree.specs.Parts.{property_at, window_of, IsPosition, IsOperation, IsOutput}
use Rattle.set_tree.specs.Structure.{IsLength}
use Rattle.set_tree.specs.Traces.{IsTrace}

-- positions fit 32 bits, and successors are positions of properties
pub record IsIndexed (set : Set) : Type 0 where
  pub names : length set.names < 2 ^ 32
  pub invariants : length set.invariants < 2 ^ 32
  pub operations : length set.operations + 1 < 2 ^ 32
  pub successors : (p q : ℕ) → IsPosition set p → Contains (property_at set p).next q → IsPosition set q

-- ---- formulas

-- neither `/` nor `%`
abbrev pub IsNoDivision : Binary → Type 0
IsNoDivision b.Div = ⊥
IsNoDivision b.Rem = ⊥
IsNoDivision op = Unit {0}

abbrev mutual
  pub HasNoDivision : Expr → Type 0
  HasNoDivision (e.Number n) = Unit {0}
  HasNoDivision (e.Name x) = Unit {0}
  HasNoDivision (e.Select' x h (more_of-Expr a end_of-Expr)) = HasNoDivision a
  HasNoDivision (e.Part' x span h (more_of-Expr a end_of-Expr) g (more_of-Expr c end_of-Expr)) = HasNoDivision a × HasNoDivision c
  HasNoDivision (e.ConstantSelect' k h (more_of-Expr a end_of-Expr)) = HasNoDivision a
  HasNoDivision (e.ConstantPart' k span h (more_of-Expr a end_of-Expr) g (more_of-Expr c end_of-Expr)) = HasNoDivision a × HasNoDivision c
  HasNoDivision (e.Cast' cast h (more_of-Expr a end_of-Expr)) = HasNoDivision a
  HasNoDivision (e.Paren' h (more_of-Expr a end_of-Expr)) = HasNoDivision a
  HasNoDivision (e.Concat' h row) = AllHaveNoDivision row
  HasNoDivision (e.Repeat' h (more_of-Expr a end_of-Expr) g row) = HasNoDivision a × AllHaveNoDivision row
  HasNoDivision (e.Unary' op h (more_of-Expr a end_of-Expr)) = HasNoDivision a
  HasNoDivision (e.Binary' op h (more_of-Expr a end_of-Expr) g (more_of-Expr c end_of-Expr)) = IsNoDivision op × HasNoDivision a × HasNoDivision c
  HasNoDivision (e.Choice' h (more_of-Expr c end_of-Expr) g (more_of-Expr a end_of-Expr) i (more_of-Expr d end_of-Expr)) =
      HasNoDivision c × HasNoDivision a × HasNoDivision d

  pub AllHaveNoDivision : {m : _} → Row_of-Expr m → Type 0
  AllHaveNoDivision end_of-Expr = Unit {0}
  AllHaveNoDivision (more_of-Expr a rest) = HasNoDivision a × AllHaveNoDivision rest

-- a formula is well formed over the declared names in each trace that it fits; bounds, widths and counts name nothing
-- (IEEE 1364-2005, 5.2.1 and 5.1.14); nothing is divided
pub record IsFormula (set : Set) (e : Expr) : Type 0 where
  pub formed : (rows : List Row) → IsTrace set rows → length rows ≡ largest_offset e + 1 → IsFormed (entries_from set.names 0 rows) e
  pub constant : HasConstantParts (λ _. false) e
  pub undivided : HasNoDivision e

abbrev pub property_formulas : Property → List Expr
property_formulas p = p.assume ++ p.commit ++ p.hand ++ option_to_list p.length.until

-- all formulas of a set
abbrev pub formulas_of : Set → List Expr
formulas_of set =
    map (λ r. r.formula) set.constraints ++ map (λ r. r.formula) set.invariants ++ flat_map (λ n. option_to_list n.domain) set.names
    ++ property_formulas set.first ++ flat_map property_formulas set.operations

-- ---- sets

-- the names of properties, constraints and invariants
abbrev pub rule_names : Set → List (List ℕ)
rule_names set = codes "reset" ∷ map (λ r. r.name) set.constraints ++ map (λ r. r.name) set.invariants ++ map (λ p. p.name) set.operations

-- the bounds of a set's quantities
pub record IsBounded (set : Set) : Type 0 where
  pub cycles : (1 ≤ set.cycles) × (set.cycles ≤ 16)
  pub names : (1 ≤ length set.names) × (length set.names ≤ 256)
  pub widths : All (λ n. IsWidth n.width) set.names
  pub constraints : length set.constraints ≤ 64
  pub invariants : length set.invariants ≤ 64
  pub operations : (1 ≤ length set.operations) × (length set.operations ≤ 64)
  pub hands : All (λ p. length p.hand ≤ 64) set.operations
  -- the length of an operation is from 1 to its window, that of reset from 0, and windows are up to 64
  pub lengths : (p : ℕ) → IsPosition set p → IsLength (property_at set p).length (window_of set p)
  pub advances : (p : ℕ) → IsOperation set p → 1 ≤ (property_at set p).length.low
  pub windows : (p : ℕ) → IsPosition set p → window_of set p ≤ 64
  pub constraint_windows : All (λ r. largest_offset r.formula ≤ 64) set.constraints

pub record IsWellFormed (set : Set) : Type 0 where
  pub bounds : IsBounded set
  -- reset has a fixed length and assumes nothing
  pub reset_fixed : set.first.length.until ≡ None
  pub reset_free : set.first.assume ≡ []
  -- no two declarations have one name, and no two properties or rules
  pub distinct_names : AllPairs (λ x y. x ≢ y) (map (λ n. n.name) set.names)
  pub distinct_rules : AllPairs (λ x y. x ≢ y) (rule_names set)
  pub formulas : All (IsFormula set) (formulas_of set)
  -- successors are positions of properties, none twice in a list
  pub successors : (p q : ℕ) → IsPosition set p → Contains (property_at set p).next q → IsPosition set q
  pub distinct_successors : (p : ℕ) → IsPosition set p → AllPairs (λ x y. x ≢ y) (property_at set p).next
  -- what is covered is an output
  pub outputs : (p : ℕ) (cover : Cover) → IsPosition set p → Contains (property_at set p).covers cover → IsOutput set cover.output
