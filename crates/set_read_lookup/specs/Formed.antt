-- Formulas that are well formed over the names that a set declares.
use Rattle.std.specs.Prelude.{ℕ, zero, suc, ◌++◌, List, [], ◌∷◌, false, map}
use Rattle.std.specs.List.{flat_map}
use Rattle.std.specs.Option.{option_to_list, option_map}
use Rattle.vlog_tree.specs.declared.expr.Expr.{Expr}
use Rattle.vlog_tree.specs.Value.{IsFormed, HasConstantParts}
use Rattle.set_tree.specs.declared.set.Name.{Name}
use Rattle.set_tree.specs.declared.text.PropertyText.{PropertyText}
use Rattle.set_tree.specs.declared.text.SetText.{SetText}
use Rattle.set_tree.specs.Formulas.{largest_offset, entries_from}
use Rattle.set_tree.specs.Meaning.{Row}

-- n rows in which each declared name has the value 0
abbrev pub zero_rows : List Name → ℕ → List Row
zero_rows names zero = []
zero_rows names (suc n) = map (λ x. 0) names ∷ zero_rows names n

-- its bounds, widths and counts name nothing (IEEE 1364-2005, 5.2.1 and 5.1.14), and it is well formed where each declared name has the
-- value 0 in each row that it reads
pub record IsFormedOver (names : List Name) (f : Expr) : Type 0 where
  pub constant : HasConstantParts (λ _. false) f
  pub formed : IsFormed (entries_from names 0 (zero_rows names (suc (largest_offset f)))) f

-- the formulas of a property, and of a set
abbrev pub formulas_of : PropertyText → List Expr
formulas_of p = option_to_list (option_map (λ u. u.condition) p.length.until) ++ (p.assume ++ (p.commit ++ p.hand))

abbrev pub formulas_in : SetText → List Expr
formulas_in t = flat_map (λ d. option_to_list d.domain) t.declarations ++ (map (λ r. r.formula) t.rules ++ flat_map formulas_of (t.first ∷ t.operations))
