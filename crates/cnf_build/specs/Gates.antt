-- Gates: gate k of a netlist defines variable k.
use Rattle.std.specs.Prelude.{◌≡◌, ℕ, suc, ◌<◌, Bool, true, false, not, ◌&&◌, if◌then◌else◌, List, [], ◌∷◌, ◌++◌}
use Rattle.clause_check.specs.declared.literal.Lit.{Lit}
use Rattle.clause_check.specs.Clauses.{negated}
use Rattle.cnf_build.specs.Literals.{plus, minus, holds, tidied}
use Rattle.cnf_build.specs.declared.gates.Gate.{Gate}
use Rattle.cnf_build.specs.declared.gates.Gate.TheVariants.{True, Free, And, Xor, Mux}

abbrev pub xor : Bool → Bool → Bool
xor true b = not b
xor false b = b

-- the value that an assignment owes the variable k of a gate
abbrev pub gate_value : (ℕ → Bool) → ℕ → Gate → Bool
gate_value s k True = true
gate_value s k Free = s k
gate_value s k (And a b) = holds s a && holds s b
gate_value s k (Xor a b) = xor (holds s a) (holds s b)
gate_value s k (Mux c a b) = if holds s c then holds s a else holds s b

-- the assignment gives each gate's variable its value; the first gate's variable is k
abbrev pub Runs : (ℕ → Bool) → ℕ → List Gate → Type 0
Runs s k [] = Unit {0}
Runs s k (g ∷ gs) = (s k ≡ gate_value s k g) × Runs s (suc k) gs

-- a gate's operands are earlier variables
abbrev pub IsAfter : ℕ → Gate → Type 0
IsAfter k True = Unit {0}
IsAfter k Free = Unit {0}
IsAfter k (And a b) = (a.var < k) × (b.var < k)
IsAfter k (Xor a b) = (a.var < k) × (b.var < k)
IsAfter k (Mux c a b) = (c.var < k) × (a.var < k) × (b.var < k)

abbrev pub IsNet : ℕ → List Gate → Type 0
IsNet k [] = Unit {0}
IsNet k (g ∷ gs) = IsAfter k g × IsNet (suc k) gs

abbrev pub IsFree : Gate → Type 0
IsFree Free = Unit {0}
IsFree True = ⊥
IsFree (And a b) = ⊥
IsFree (Xor a b) = ⊥
IsFree (Mux c a b) = ⊥

-- the clauses of a gate whose variable is k, as they are written down
abbrev pub raw_clauses : ℕ → Gate → List (List Lit)
raw_clauses k True = (plus k ∷ []) ∷ []
raw_clauses k Free = []
raw_clauses k (And a b) =
    (minus k ∷ a ∷ []) ∷ (minus k ∷ b ∷ []) ∷ (plus k ∷ negated a ∷ negated b ∷ []) ∷ []
raw_clauses k (Xor a b) =
    (minus k ∷ a ∷ b ∷ []) ∷ (minus k ∷ negated a ∷ negated b ∷ []) ∷ (plus k ∷ negated a ∷ b ∷ []) ∷ (plus k ∷ a ∷ negated b ∷ []) ∷ []
raw_clauses k (Mux c a b) =
    (negated c ∷ minus k ∷ a ∷ []) ∷ (negated c ∷ plus k ∷ negated a ∷ []) ∷ (c ∷ minus k ∷ b ∷ []) ∷ (c ∷ plus k ∷ negated b ∷ []) ∷ []

-- literals of variables below k
abbrev pub Below : ℕ → List Lit → Type 0
Below k [] = Unit {0}
Below k (l ∷ ls) = (l.var < k) × Below k ls

-- the clauses of a netlist whose first variable is k
abbrev pub clauses_from : ℕ → List Gate → List (List Lit)
clauses_from k [] = []
clauses_from k (g ∷ gs) = tidied (raw_clauses k g) ++ clauses_from (suc k) gs

-- the variables of free gates have the values that are chosen
abbrev pub Follows : (ℕ → Bool) → (ℕ → Bool) → ℕ → List Gate → Type 0
Follows s chosen k [] = Unit {0}
Follows s chosen k (g ∷ gs) = (IsFree g → s k ≡ chosen k) × Follows s chosen (suc k) gs
