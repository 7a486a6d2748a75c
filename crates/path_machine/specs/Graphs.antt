-- The machine as a graph in Graphviz's language (`digraph`, with nodes and names in double quotes; `\n` breaks a label's line).
use Rattle.std.specs.Prelude.{ℕ, List, ◌++◌, codes}
use Rattle.std.specs.List.{flat_map}
use Rattle.set_tree.specs.declared.set.Length.{Length}
use Rattle.set_tree.specs.declared.set.Property.{Property}
use Rattle.set_tree.specs.declared.set.Set.{Set}
use Rattle.twin_tests_laws.specs.Names.{property_name}
use Rattle.path_machine.specs.Texts.{length_text}

-- a node: the name of a property, with its name and its length as a label
unfoldable pub node_text : List ℕ → Length → List ℕ
node_text name span =
    codes "  \"" ++ name ++ codes "\" [label=\"" ++ name ++ codes "\\n" ++ length_text span.low span.high span.until ++ codes "\"];\n"

-- an edge to a successor
unfoldable pub edge_text : List ℕ → List ℕ → List ℕ
edge_text name successor = codes "  \"" ++ name ++ codes "\" -> \"" ++ successor ++ codes "\";\n"

abbrev pub edges_text : Set → List ℕ → List ℕ → List ℕ
edges_text set name next = flat_map (λ at. edge_text name (property_name set at)) next

-- a property: its node, and an edge to each successor
unfoldable pub property_graph : Set → List ℕ → Property → List ℕ
property_graph set name p = node_text name p.length ++ edges_text set name p.next

-- the operations, each under its name
abbrev pub operations_graph : Set → List Property → List ℕ
operations_graph set ps = flat_map (λ (p : Property). property_graph set p.name p) ps

-- the reset property and the operations
unfoldable pub machine_graph : Set → List ℕ
machine_graph set =
    codes "digraph machine {\n  rankdir=LR;\n  node [shape=box];\n" ++ property_graph set (codes "reset") set.first
    ++ operations_graph set set.operations ++ codes "}\n"
