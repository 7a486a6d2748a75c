-- The texts of the machine and of a path.
use Rattle.std.specs.Prelude.{ℕ, List, [], ◌∷◌, ◌++◌, codes, map, Option, Some, None}
use Rattle.std.specs.Fmt.{decimal}
use Rattle.std.specs.List.{flat_map}
use Rattle.vlog_tree.specs.declared.expr.Expr.{Expr}
use Rattle.set_tree.specs.declared.path.At.{At}
use Rattle.set_tree.specs.declared.path.Path.{Path}
use Rattle.set_tree.specs.declared.set.Property.{Property}
use Rattle.set_tree.specs.declared.set.Set.{Set}
use Rattle.twin_tests_laws.specs.Names.{property_name}
use Rattle.word_dag.specs.Text.{line}
use Rattle.path_machine.specs.declared.rows.RowFault.{RowFault}
use Rattle.path_machine.specs.declared.rows.RowFault.TheVariants.{Long, Row, Short, Memory}

-- `n`, or `a..b` where a condition ends the property
abbrev pub length_text : ℕ → ℕ → Option Expr → List ℕ
length_text low high None = decimal low
length_text low high (Some e) = decimal low ++ (codes ".." ++ decimal high)

-- a property: its name, its length, and its successors
abbrev pub transition : Set → List ℕ → Property → List ℕ
transition set name p = line name (length_text p.length.low p.length.high p.length.until ∷ codes "->" ∷ map (property_name set) p.next)

-- the operations, each under its name
abbrev pub operations_text : Set → List Property → List ℕ
operations_text set ps = flat_map (λ (p : Property). transition set p.name p) ps

-- the reset property and the operations, a line for each
abbrev pub machine_text : Set → List ℕ
machine_text set = transition set (codes "reset") set.first ++ operations_text set set.operations

-- a property of the path, with the cycle at which it starts
abbrev pub step_text : Set → At → List ℕ
step_text set at = line (decimal at.start) (property_name set at.property ∷ [])

abbrev pub steps_text : Set → List At → List ℕ
steps_text set steps = flat_map (step_text set) steps

abbrev pub path_text : Set → Path → List ℕ
path_text set path = steps_text set path.steps

-- a fault of rows
abbrev pub fault_text : RowFault → List ℕ
fault_text Long = codes "Long"
fault_text (Row n) = codes "Row " ++ decimal n
fault_text Short = codes "Short"
fault_text Memory = codes "Memory"
