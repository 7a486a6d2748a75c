-- The clauses of an obligation: its nodes as gates, the gates as clauses, and the root's bit.
use Rattle.std.specs.Prelude.{ℕ, zero, suc, ◌+◌, ◌-◌, List, [], ◌∷◌, ◌++◌, length, map, take, drop, replicate}
use Rattle.clause_check.specs.declared.literal.Lit.{Lit}
use Rattle.clause_check.specs.Clauses.{negated}
use Rattle.cnf_build.specs.declared.gates.Gate.{Gate}
use Rattle.cnf_build.specs.declared.gates.Gate.TheVariants.{True}
use Rattle.cnf_build.specs.declared.gates.Gate.TheVariants as Gates
use Rattle.cnf_build.specs.Gates.{clauses_from}
use Rattle.cnf_build.specs.Circuits.{Made, true_lit, false_lit, row, and_made, or_made, xor_made, mux_made, adder, subtractor, equal_from, moved_up, moved_down, product_from, shifter, const_lits, top_of, top_turned}
use Rattle.word_dag.specs.declared.node.Op.{Op}
use Rattle.word_dag.specs.declared.node.Op.TheVariants.{Add, Sub, Mul, And, Or, Xor, Shl, Shr, Sar, Ult, Slt, Eq, Concat}
use Rattle.word_dag.specs.declared.node.Node.{Node}
use Rattle.word_dag.specs.declared.node.Node.TheVariants.{Free, Const, Two, Not, Slice, Zext, Sext, Mux}

-- the literals of a node
abbrev pub lits_at : List (List Lit) → ℕ → List Lit
lits_at [] i = []
lits_at (ls ∷ t) zero = ls
lits_at (ls ∷ t) (suc i) = lits_at t i

-- the lowest bit
abbrev pub low_of : List Lit → Lit
low_of [] = false_lit
low_of (l ∷ ls) = l

-- literals without further gates
abbrev pub wired : List Lit → Made
wired ls = record { gates = []; lits = ls }

-- the circuit of an operation, whose next variable is n
abbrev pub op_made : ℕ → Op → List Lit → List Lit → Made
op_made n Add xs ys = let d = adder n false_lit xs ys in record { gates = d.gates; lits = d.lits }
op_made n Sub xs ys = let d = subtractor n xs ys in record { gates = d.gates; lits = d.lits }
op_made n Mul xs ys = product_from n (replicate (length xs) false_lit) xs ys
op_made n And xs ys = and_made n xs ys
op_made n Or xs ys = or_made n xs ys
op_made n Xor xs ys = xor_made n xs ys
op_made n Shl xs ys = shifter n moved_up 1 xs ys
op_made n Shr xs ys = shifter n (λ j. moved_down j false_lit) 1 xs ys
op_made n Sar xs ys = shifter n (λ j. moved_down j (top_of xs)) 1 xs ys
op_made n Ult xs ys = let d = subtractor n xs ys in record { gates = d.gates; lits = negated d.carry ∷ [] }
op_made n Slt xs ys =
    let d = subtractor n (top_turned xs) (top_turned ys) in
    record { gates = d.gates; lits = negated d.carry ∷ [] }
op_made n Eq xs ys = let d = equal_from n true_lit xs ys in record { gates = d.gates; lits = d.lit ∷ [] }
op_made n Concat xs ys = wired (ys ++ xs)

-- the circuit of a node, from the literals of the nodes before it
abbrev pub node_made : ℕ → List (List Lit) → Node → Made
node_made n t (Free name width side cycle) = row n (replicate width Gates.Free)
node_made n t (Const w) = wired (const_lits w.width w.value)
node_made n t (Two op width a b) = op_made n op (lits_at t a) (lits_at t b)
node_made n t (Not width a) = wired (map negated (lits_at t a))
node_made n t (Slice width a lo) = wired (take width (drop lo (lits_at t a)))
node_made n t (Zext width a) = let xs = lits_at t a in wired (xs ++ replicate (width - length xs) false_lit)
node_made n t (Sext width a) = let xs = lits_at t a in wired (xs ++ replicate (width - length xs) (top_of xs))
node_made n t (Mux width c a b) = mux_made n (low_of (lits_at t c)) (lits_at t a) (lits_at t b)

-- the w variables from n on
abbrev pub vars : ℕ → ℕ → List ℕ
vars n zero = []
vars n (suc w) = n ∷ vars (suc n) w

-- the variables of a free node
abbrev pub free_vars : ℕ → Node → List (List ℕ)
free_vars n (Free name width side cycle) = vars n width ∷ []
free_vars n (Const w) = []
free_vars n (Two op width a b) = []
free_vars n (Not width a) = []
free_vars n (Slice width a lo) = []
free_vars n (Zext width a) = []
free_vars n (Sext width a) = []
free_vars n (Mux width c a b) = []

-- the gates of the further nodes, the literals of all nodes, and the variables of the further free nodes
pub record Lowered : Type 0 where
  pub gates : List Gate
  pub table : List (List Lit)
  pub frees : List (List ℕ)

abbrev pub lower : ℕ → List (List Lit) → List Node → Lowered
lower n t [] = record { gates = []; table = t; frees = [] }
lower n t (node ∷ nodes) =
    let m = node_made n t node in
    let rest = lower (n + length m.gates) (t ++ m.lits ∷ []) nodes in
    record { gates = m.gates ++ rest.gates; table = rest.table; frees = free_vars n node ++ rest.frees }

-- variable 0 is true
abbrev pub lowered : List Node → Lowered
lowered nodes = lower 1 [] nodes

abbrev pub netlist : List Node → List Gate
netlist nodes = True ∷ (lowered nodes).gates

-- the clauses of an obligation
abbrev pub ob_clauses : List Node → ℕ → List (List Lit)
ob_clauses nodes root = clauses_from 0 (netlist nodes) ++ ((low_of (lits_at (lowered nodes).table root) ∷ []) ∷ [])

-- the variables of the bits of the free nodes
abbrev pub ob_bits : List Node → List (List ℕ)
ob_bits nodes = (lowered nodes).frees
