-- The values of an obligation are those of a dag, where free nodes take the values of a naming.
use Rattle.std.proofs.Common.{◌≡◌, ℕ, List, [], ◌∷◌, ◌++◌, refl, ap, ◌∙◌}
use Rattle.word_core.specs.Words.{Bits}
use Rattle.word_dag.specs.declared.node.Node.{Node}
use Rattle.word_dag.specs.declared.node.Node.TheVariants.{Free, Const, Two, Not, Slice, Zext, Sext, Mux}
use Rattle.word_dag.specs.Nodes.{Naming, word_at, dag_values, ob_values, root_value, node_value}
use Rattle.word_dag.specs.Given.{free_values, RootsAgree}
use Rattle.word_dag.specs.Walks.{MeansSame}

values_same : (e : Naming) (vs : List Bits) (ns : List Node) → ob_values (free_values e ns) vs ns ≡ dag_values e vs ns
values_same e vs [] = refl
values_same e vs (Free name width side cycle ∷ ns) =
    values_same e (vs ++ node_value (e name side cycle) vs (Free name width side cycle) ∷ []) ns
values_same e vs (Const w ∷ ns) = values_same e (vs ++ w ∷ []) ns
values_same e vs (Two op width a b ∷ ns) =
    values_same e (vs ++ node_value 0 vs (Two op width a b) ∷ []) ns
values_same e vs (Not width a ∷ ns) = values_same e (vs ++ node_value 0 vs (Not width a) ∷ []) ns
values_same e vs (Slice width a lo ∷ ns) =
    values_same e (vs ++ node_value 0 vs (Slice width a lo) ∷ []) ns
values_same e vs (Zext width a ∷ ns) = values_same e (vs ++ node_value 0 vs (Zext width a) ∷ []) ns
values_same e vs (Sext width a ∷ ns) = values_same e (vs ++ node_value 0 vs (Sext width a) ∷ []) ns
values_same e vs (Mux width c a b ∷ ns) =
    values_same e (vs ++ node_value 0 vs (Mux width c a b) ∷ []) ns

pub root_at_naming : (e : Naming) (nodes : List Node) (root : ℕ) → root_value (free_values e nodes) nodes root ≡ word_at (dag_values e [] nodes) root
root_at_naming e nodes root = ap (λ (vs : List Bits). word_at vs root) (values_same e [] nodes)

pub roots_agree : (dag nodes : List Node) (root root' : ℕ) → MeansSame dag root nodes root' → RootsAgree dag root nodes root'
roots_agree dag nodes root root' means e = root_at_naming e nodes root' ∙ means e
