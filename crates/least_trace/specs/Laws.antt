-- What the definitions of the least values say together.
use Rattle.std.specs.Prelude.{◌≡◌, ℕ, List}
use Rattle.word_dag.specs.declared.node.Node.{Node}
use Rattle.word_dag.specs.Nodes.{Parts}
use Rattle.least_trace.specs.declared.bits.Bit.{Bit}
use Rattle.least_trace.specs.declared.ends.Excluded.{Excluded}
use Rattle.least_trace.specs.Bits.{InOrder}
use Rattle.least_trace.specs.Least.{IsFound}

-- the bits of an obligation stand in one order
abbrev pub OrderIsOne : Type 0
OrderIsOne = (nodes : List Node) (xs ys : List Bit) → InOrder nodes xs → InOrder nodes ys → xs ≡ ys

-- and there is one list of least values
abbrev pub LeastIsOne : Type 0
LeastIsOne = (ob : Parts) (us vs : List ℕ) (es fs : List Excluded) → IsFound ob us es → IsFound ob vs fs → us ≡ vs
