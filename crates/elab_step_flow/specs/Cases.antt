-- Case statements at rest, where each signal is 0 (IEEE 1364-2005, section 9.5).
use Rattle.std.specs.Prelude.{ℕ, ◌≡◌, ◌<◌, ◌^◌, ◌↔◌, Bool, true, IsTrue, List}
use Rattle.std.specs.Borrow.{Bor}
use Rattle.std.specs.List.{flat_map}
use Rattle.vlog_tree.specs.declared.expr.Expr.{Expr}
use Rattle.vlog_tree.specs.declared.stmt.CaseItem.{CaseItem}
use Rattle.vlog_tree.specs.declared.valuation.Entry.{Entry}
use Rattle.vlog_tree.specs.Value.{IsFormed, IsDefined, NamesOnly, extend}
use Rattle.vlog_tree_runs.specs.declared.flat.Signal.{Signal}
use Rattle.vlog_tree_runs.specs.Places.{Among, valuation}
use Rattle.vlog_tree_runs.specs.Blocks.{exprs_in, is_default, case_width, case_sign}
use Rattle.elab_flat_faults.specs.Paths.{IsLabel}
use Rattle.elab_step_laws.specs.Laws.{place_over}
use Rattle.elab_flat_drivers.specs.Claims.{nothing}

-- what the names of signals stand for at rest
abbrev pub at_rest : List Signal → List Entry
at_rest gs = valuation (place_over gs) (λ x. 0)

abbrev pub expr_meant : Bor Expr → Expr
expr_meant a = a.now

-- the labels of an item, and of all items
abbrev pub item_labels : CaseItem → List Expr
item_labels i = exprs_in i.labels

abbrev pub labels_of : List CaseItem → List Expr
labels_of items = flat_map item_labels items

-- one of the items is the default
abbrev pub AnyDefault : List CaseItem → Type 0
AnyDefault items = (i : CaseItem) × Among items i × IsTrue (is_default i.labels)

-- a case expression and labels are well formed, and the labels have values where they are compared
pub record IsComparable (v : List Entry) (a : Expr) (labels : List Expr) : Type 0 where
  pub subject : IsFormed v a
  pub formed : (b : Expr) → Among labels b → IsFormed v b
  pub defined : (b : Expr) → Among labels b → IsDefined v b (case_width v a labels) (case_sign v a labels)

-- no label has a name
abbrev pub AreConstant : List Expr → Type 0
AreConstant labels = (b : Expr) → Among labels b → NamesOnly nothing b

-- a set of numbers is that of labels, at a length and a sign
abbrev pub AreValues : List Entry → ℕ → Bool → List Expr → (ℕ → Bool) → Type 0
AreValues v n signed labels set = (x : ℕ) → (set x ≡ true) ↔ IsLabel v n signed labels x

-- every number of w bits is in a set, as it is extended to n bits
abbrev pub HasAll : ℕ → ℕ → Bool → (ℕ → Bool) → Type 0
HasAll w n signed set = (x : ℕ) → x < 2 ^ w → set (extend signed w n x) ≡ true
