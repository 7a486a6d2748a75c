-- Which labels of a case statement match a number (IEEE 1364-2005, section 9.5).
use Rattle.std.specs.Prelude.{ℕ, ◌≡◌, Bool, List, [], ◌∷◌, ◌++◌, not, ◌&&◌, nat_eq, bit_or, if◌then◌else◌}
use Rattle.std.specs.List.{list_any}
use Rattle.vlog_tree.specs.declared.expr.Expr.{Expr}
use Rattle.vlog_tree.specs.declared.stmt.CaseItem.{CaseItem}
use Rattle.vlog_tree.specs.declared.stmt.CaseKind.{CaseKind}
use Rattle.vlog_tree.specs.declared.stmt.Labels.{Labels}
use Rattle.vlog_tree.specs.declared.valuation.Entry.{Entry}
use Rattle.vlog_tree.specs.Value.{value_of, bit}
use Rattle.word_dag.specs.declared.node.Node.{Node}
use Rattle.word_dag.specs.Nodes.{Naming}
use Rattle.elab_step_expr.specs.declared.leaves.Leaf.{Leaf}
use Rattle.elab_step_expr.specs.Leaves.{valued}
use Rattle.elab_step_expr.specs.Nodes.{IsNode, number_at, words}
use Rattle.vlog_tree_runs.specs.Places.{Cycle, Place, valuation}
use Rattle.vlog_tree_runs.specs.Blocks.{ignored, exprs_in, is_default, seen, any_matches, case_width, case_sign, run}

-- two numbers are the same but for some bits
abbrev pub is_same_but : ℕ → ℕ → ℕ → Bool
is_same_but bits x y = nat_eq (bit_or x bits) (bit_or y bits)

-- a label matches the number of the case expression, both of n bits
abbrev pub is_match : CaseKind → List Entry → ℕ → Bool → ℕ → Expr → Bool
is_match kind v n signed x label = is_same_but (ignored kind label) x (value_of v label n signed)

-- one of an item's labels does
abbrev pub is_chosen : CaseKind → List Entry → ℕ → Bool → ℕ → Labels → Bool
is_chosen kind v n signed x labels = list_any (is_match kind v n signed x) (exprs_in labels)

-- the labels of items
abbrev pub each_labels : List CaseItem → List Expr
each_labels [] = []
each_labels (i ∷ rest) = exprs_in i.labels ++ each_labels rest

-- what stands for `default`
abbrev pub each_default : Bool → Place → List CaseItem → Cycle → Cycle → Cycle
each_default at_once p [] c d x = d x
each_default at_once p (i ∷ rest) c d x = if is_default i.labels then run at_once p i.body c d x else each_default at_once p rest c d x

-- whether a label of a case statement matches, the cycle before the edge and the one so far being these
abbrev pub case_test : Bool → Place → CaseKind → Expr → List CaseItem → Cycle → Cycle → Labels → Bool
case_test at_once place kind subject items c d labels =
    let v = valuation place (seen at_once c d) in
    any_matches kind v (case_width v subject (each_labels items)) (case_sign v subject (each_labels items)) subject labels

-- for each item a bit that is 1 where one of its labels matches, at a length of n bits
abbrev pub AreMatches : CaseKind → List Leaf → Expr → ℕ → Bool → List Node → List CaseItem → List ℕ → List Node → Type 0
AreMatches kind ls subject n signed old [] [] new = Unit {0}
AreMatches kind ls subject n signed old [] (z ∷ zs) new = ⊥
AreMatches kind ls subject n signed old (i ∷ rest) [] new = ⊥
AreMatches kind ls subject n signed old (i ∷ rest) (z ∷ zs) new =
    IsNode new z 1 × ((e : Naming) → number_at e new z ≡ bit (any_matches kind (valued ls (words e old)) n signed subject i.labels))
    × AreMatches kind ls subject n signed old rest zs new

-- what the first item whose bit is 1 makes of a cycle, the default aside, and otherwise another one
abbrev pub picked : Bool → Place → List CaseItem → List ℕ → Cycle → Cycle → Cycle → Cycle
picked at_once p [] bs c d otherwise x = otherwise x
picked at_once p (i ∷ rest) [] c d otherwise x = otherwise x
picked at_once p (i ∷ rest) (b ∷ bs) c d otherwise x =
    if not (is_default i.labels) && nat_eq b 1 then run at_once p i.body c d x else picked at_once p rest bs c d otherwise x
