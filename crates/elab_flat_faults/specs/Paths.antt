-- Paths through a combinational block: what it reads and assigns on each (IEEE 1364-2005, sections 9.4, 9.5 and 9.7.5).
use Rattle.std.specs.Prelude.{ℕ, zero, suc, ℤ, pos, ◌-ℤ◌, ◌≡◌, ◌⊎◌, ◌<◌, ◌^◌, Bool, IsTrue, List, [], ◌∷◌, ◌++◌, unwrap_or}
use Rattle.std.specs.Option.{option_map}
use Rattle.std.specs.List.{flat_map}
use Rattle.vlog_tree.specs.declared.expr.Expr.{Expr}
use Rattle.vlog_tree.specs.declared.expr.Expr.TheVariants as e
use Rattle.vlog_tree.specs.declared.stmt.CaseKind.{CaseKind}
use Rattle.vlog_tree.specs.declared.stmt.CaseKind.TheVariants as c
use Rattle.vlog_tree.specs.declared.stmt.Lval.{Lval, Row_of-Lval, end_of-Lval, more_of-Lval}
use Rattle.vlog_tree.specs.declared.stmt.Lval.TheVariants as l
use Rattle.vlog_tree.specs.declared.stmt.Stmt.{Stmt, Row_of-Stmt, end_of-Stmt, more_of-Stmt, Row_of-CaseItem, end_of-CaseItem, more_of-CaseItem}
use Rattle.vlog_tree.specs.declared.stmt.Stmt.TheVariants as s
use Rattle.vlog_tree.specs.declared.valuation.Entry.{Entry}
use Rattle.vlog_tree.specs.Value.{NamesOnly, operand_of, own_integer, width_of, value_of, extend, part_low, part_width}
use Rattle.vlog_tree_runs.specs.Places.{Name, Among, Place, valuation}
use Rattle.vlog_tree_runs.specs.Blocks.{is_parameter, low_in, signal_at, IsWithin, is_default, labels_in, case_width, case_sign, left_names}
use Rattle.elab_flat_faults.specs.Texts.{names_in, numbers_in}

-- an expression of numbers alone
abbrev pub IsConstant : Place → Expr → Type 0
IsConstant p a = NamesOnly (is_parameter p) a

abbrev pub constant : Place → Expr → ℤ
constant p a = own_integer (operand_of p.params a)

-- a left side surely sets bit b of a signal, counted from its lowest one: at an index that isn't constant it sets none
abbrev mutual
  pub Sets : Place → Lval → Name → ℕ → Type 0
  Sets p (l.Name y) x b = y ≡ x
  Sets p (l.Select y a) x b = (y ≡ x) × IsConstant p a × (constant p a -ℤ pos (low_in p y) ≡ pos b)
  Sets p (l.Part y span a a') x b =
      (y ≡ x) × IsConstant p a × IsConstant p a'
      × IsWithin (part_low span (constant p a) (constant p a') -ℤ pos (low_in p y)) (part_width span (constant p a) (constant p a')) b
  Sets p (l.Concat' h row) x b = AnySets p row x b

  pub AnySets : {m : _} → Place → Row_of-Lval m → Name → ℕ → Type 0
  AnySets p end_of-Lval x b = ⊥
  AnySets p (more_of-Lval a rest) x b = Sets p a x b ⊎ AnySets p rest x b

-- ---- full cases

abbrev pub AllConstant : Place → List Expr → Type 0
AllConstant p [] = Unit {0}
AllConstant p (a ∷ as') = IsConstant p a × AllConstant p as'

-- a number stands among labels, at a length and a sign
abbrev pub IsLabel : List Entry → ℕ → Bool → List Expr → ℕ → Type 0
IsLabel v n signed labels x = (a : Expr) × Among labels a × (value_of v a n signed ≡ x)

-- a name, a select or a concatenation
abbrev pub IsSimple : Expr → Type 0
IsSimple (e.Name x) = Unit {0}
IsSimple (e.Select' x h a) = Unit {0}
IsSimple (e.Part' x span h a g b) = Unit {0}
IsSimple (e.ConstantSelect' k h a) = Unit {0}
IsSimple (e.ConstantPart' k span h a g b) = Unit {0}
IsSimple (e.Concat' h row) = Unit {0}
IsSimple a = ⊥

-- every number of the comparison's length stands among the labels, or every one of the expression's own length, as it is extended
abbrev pub CoversAll : List Entry → Expr → List Expr → Type 0
CoversAll v a labels =
    let n = case_width v a labels in
    let signed = case_sign v a labels in
    ((x : ℕ) → x < 2 ^ n → IsLabel v n signed labels x)
    ⊎ (IsSimple a × ((x : ℕ) → x < 2 ^ width_of v a → IsLabel v n signed labels (extend signed (width_of v a) n x)))

-- no path leads past the items of a full case; one of `casez` always does
abbrev pub IsFull : Place → CaseKind → Expr → List Expr → Type 0
IsFull p c.Case a labels = AllConstant p labels × CoversAll (valuation p (λ x. 0)) a labels
IsFull p c.Casez a labels = ⊥

abbrev pub HasDefault : {m : _} → Row_of-CaseItem m → Type 0
HasDefault end_of-CaseItem = ⊥
HasDefault (more_of-CaseItem labels body rest) = IsTrue (is_default labels) ⊎ HasDefault rest

-- ---- paths

-- a step on a path: expressions are read; a branch begins, whose condition reads expressions; a branch ends; or a left side is assigned, by
-- expressions on both sides
pub data Step : Type 0 where
  Reads : List Expr → Step
  Enters : List Expr → Step
  Leaves : Step
  Assigns : Lval → List Expr → Step

-- the expressions that a step reads
abbrev pub reads_in : Step → List Expr
reads_in (Reads as') = as'
reads_in (Enters as') = as'
reads_in Leaves = []
reads_in (Assigns left as') = []

-- the steps of a branch, under its condition
abbrev pub branch : List Expr → List Step → List Step
branch as' steps = Enters as' ∷ steps ++ Leaves ∷ []

abbrev pub assignment : Lval → Expr → List Step
assignment left right = Reads (right ∷ numbers_in left) ∷ Assigns left (right ∷ numbers_in left) ∷ []

-- the steps are those of a path through a statement
abbrev mutual
  pub IsPath : Place → Stmt → List Step → Type 0
  IsPath p s.Empty steps = steps ≡ []
  IsPath p (s.Block' n h row) steps = IsRowPath p row steps
  IsPath p (s.If' a h (more_of-Stmt x end_of-Stmt)) steps =
      (inner : List Step) × (steps ≡ branch (a ∷ []) inner) × ((inner ≡ []) ⊎ IsPath p x inner)
  IsPath p (s.IfElse' a h (more_of-Stmt x end_of-Stmt) g (more_of-Stmt y end_of-Stmt)) steps =
      (inner : List Step) × (steps ≡ branch (a ∷ []) inner) × (IsPath p x inner ⊎ IsPath p y inner)
  IsPath p (s.Case' kind a h row) steps =
      (inner : List Step) × (steps ≡ branch (a ∷ labels_in row) inner)
      × (IsItemPath p row inner ⊎ ((inner ≡ []) × (HasDefault row → ⊥) × (IsFull p kind a (labels_in row) → ⊥)))
  IsPath p (s.Blocking left right) steps = steps ≡ assignment left right
  IsPath p (s.Nonblocking left right) steps = steps ≡ assignment left right

  pub IsRowPath : {m : _} → Place → Row_of-Stmt m → List Step → Type 0
  IsRowPath p end_of-Stmt steps = steps ≡ []
  IsRowPath p (more_of-Stmt a rest) steps = (first second : List Step) × (steps ≡ first ++ second) × IsPath p a first × IsRowPath p rest second

  pub IsItemPath : {m : _} → Place → Row_of-CaseItem m → List Step → Type 0
  IsItemPath p end_of-CaseItem steps = ⊥
  IsItemPath p (more_of-CaseItem labels body rest) steps = IsPath p body steps ⊎ IsItemPath p rest steps

-- bit b of x is set by some step
abbrev pub IsSetBy : Place → List Step → Name → ℕ → Type 0
IsSetBy p [] x b = ⊥
IsSetBy p (Reads as' ∷ steps) x b = IsSetBy p steps x b
IsSetBy p (Enters as' ∷ steps) x b = IsSetBy p steps x b
IsSetBy p (Leaves ∷ steps) x b = IsSetBy p steps x b
IsSetBy p (Assigns left as' ∷ steps) x b = Sets p left x b ⊎ IsSetBy p steps x b

abbrev pub width_in : Place → Name → ℕ
width_in p x = unwrap_or (option_map (λ g. g.width) (signal_at p.signals x)) 0

-- all of x is
abbrev pub IsAllSet : Place → List Step → Name → Type 0
IsAllSet p steps x = (b : ℕ) → b < width_in p x → IsSetBy p steps x b

-- ---- what a read counts as, after steps of a path of which the last one comes first: what the earlier assignments to the name depend on, and
-- the name itself unless all of it was assigned before. An assignment depends on what it reads, and on what the conditions around it read
-- where they stand

-- a read of x counts as z: by itself, or through earlier assignments to it
abbrev pub Counts : Place → List Step → Name → Name → Type 0 → Type 0
Counts p earlier x z through = ((z ≡ x) × (IsAllSet p earlier x → ⊥)) ⊎ through

abbrev mutual
  -- an earlier assignment to x depends on z
  pub Through : Place → List Step → Name → Name → Type 0
  Through p [] x z = ⊥
  Through p (Reads as' ∷ earlier) x z = Through p earlier x z
  Through p (Enters as' ∷ earlier) x z = Through p earlier x z
  Through p (Leaves ∷ earlier) x z = Through p earlier x z
  Through p (Assigns left as' ∷ earlier) x z =
      (Among (left_names left) x
      × (((y : Name) × Among (flat_map names_in as') y × Counts p earlier y z (Through p earlier y z)) ⊎ Around p 0 earlier z))
      ⊎ Through p earlier x z

  -- a condition around what follows counts as z; n branches have ended since
  pub Around : Place → ℕ → List Step → Name → Type 0
  Around p n [] z = ⊥
  Around p n (Reads as' ∷ earlier) z = Around p n earlier z
  Around p zero (Enters as' ∷ earlier) z =
      ((y : Name) × Among (flat_map names_in as') y × Counts p earlier y z (Through p earlier y z)) ⊎ Around p zero earlier z
  Around p (suc n) (Enters as' ∷ earlier) z = Around p n earlier z
  Around p n (Leaves ∷ earlier) z = Around p (suc n) earlier z
  Around p n (Assigns left as' ∷ earlier) z = Around p n earlier z

-- an assignment by these expressions, after such steps, depends on z
abbrev pub DependsAt : Place → List Step → List Expr → Name → Type 0
DependsAt p earlier as' z = ((y : Name) × Among (flat_map names_in as') y × Counts p earlier y z (Through p earlier y z)) ⊎ Around p 0 earlier z
