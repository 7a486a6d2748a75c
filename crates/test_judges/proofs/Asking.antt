-- Values of nodes where no free word is given one.
use Rattle.std.proofs.Common.{◌≡◌, ℕ, zero, suc, ◌^◌, ◌<◌, List, [], ◌∷◌, ◌++◌, refl, ap, arith}
use Rattle.std.proofs.Math.Nat.{pow-suc}
use Rattle.word_core.specs.Words.{Bits}
use Rattle.word_dag.specs.declared.node.Node.{Node}
use Rattle.word_dag.specs.declared.node.Node.TheVariants.{Free, Const, Two, Not, Slice, Zext, Sext, Mux}
use Rattle.word_dag.specs.Nodes.{word_at, node_value, ob_values, root_value}
use Rattle.word_dag.specs.Given.{AllFit, free_values}
use Rattle.test_judges.specs.Numbers.{nought}

positive : (k : ℕ) → 0 < 2 ^ k
positive zero = omega arith
positive (suc k) = omega (arith, pow-suc 2 k, positive k)

pub none_fit : (ns : List Node) → AllFit [] ns
none_fit [] = tt
none_fit (Free name width side cycle ∷ ns) = (positive width, none_fit ns)
none_fit (Const w ∷ ns) = (tt, none_fit ns)
none_fit (Two op width a b ∷ ns) = (tt, none_fit ns)
none_fit (Not width a ∷ ns) = (tt, none_fit ns)
none_fit (Slice width a lo ∷ ns) = (tt, none_fit ns)
none_fit (Zext width a ∷ ns) = (tt, none_fit ns)
none_fit (Sext width a ∷ ns) = (tt, none_fit ns)
none_fit (Mux width c a b ∷ ns) = (tt, none_fit ns)

values_none : (ns : List Node) (vs : List Bits) → ob_values [] vs ns ≡ ob_values (free_values nought ns) vs ns
values_none [] vs = refl
values_none (Free name width side cycle ∷ ns) vs = values_none ns (vs ++ node_value 0 vs (Free name width side cycle) ∷ [])
values_none (Const w ∷ ns) vs = values_none ns (vs ++ node_value 0 vs (Const w) ∷ [])
values_none (Two op width a b ∷ ns) vs = values_none ns (vs ++ node_value 0 vs (Two op width a b) ∷ [])
values_none (Not width a ∷ ns) vs = values_none ns (vs ++ node_value 0 vs (Not width a) ∷ [])
values_none (Slice width a lo ∷ ns) vs = values_none ns (vs ++ node_value 0 vs (Slice width a lo) ∷ [])
values_none (Zext width a ∷ ns) vs = values_none ns (vs ++ node_value 0 vs (Zext width a) ∷ [])
values_none (Sext width a ∷ ns) vs = values_none ns (vs ++ node_value 0 vs (Sext width a) ∷ [])
values_none (Mux width c a b ∷ ns) vs = values_none ns (vs ++ node_value 0 vs (Mux width c a b) ∷ [])

-- the root's value without values is that under a naming in which every free word is 0
pub root_none : (ns : List Node) (root : ℕ) → root_value [] ns root ≡ root_value (free_values nought ns) ns root
root_none ns root = ap (λ vs. word_at vs root) (values_none ns [])
