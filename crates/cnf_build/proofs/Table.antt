-- Looking up the nodes' literals, and the loops over bits.
use Rattle.std.proofs.Common.{◌≡◌, ℕ, zero, suc, ◌<◌, ◌≤◌, List, [], ◌∷◌, ◌++◌, length, get_or, refl, ap, arith}
use Rattle.std.specs.Prelude.{map, slice_index}
use Rattle.clause_check.specs.declared.literal.Lit.{Lit}
use Rattle.cnf_build.specs.declared.gates.Gate.{Gate}
use Rattle.cnf_build.specs.Lower.{lits_at}
use Rattle.cnf_build.specs.Table.{AllShort}

pub lits_at-get_or : (t : List (List Lit)) (i : ℕ) (d : List Lit) → i < length t → get_or t i d ≡ lits_at t i
lits_at-get_or [] i d lt = absurd (omega arith)
lits_at-get_or (ls ∷ t) zero d lt = refl
lits_at-get_or (ls ∷ t) (suc i) d lt = lits_at-get_or t i d (omega arith)

pub width_at-table : (t : List (List Lit)) (i : ℕ) → slice_index (map length t) i ≡ length (lits_at t i)
width_at-table [] i = refl
width_at-table (ls ∷ t) zero = refl
width_at-table (ls ∷ t) (suc i) = width_at-table t i

pub length-table : (t : List (List Lit)) → length (map length t) ≡ length t
length-table [] = refl
length-table (ls ∷ t) = ap suc (length-table t)

pub short_at : (t : List (List Lit)) (i : ℕ) → AllShort t → length (lits_at t i) ≤ 64
short_at [] i s = omega arith
short_at (ls ∷ t) zero s = s.0
short_at (ls ∷ t) (suc i) s = short_at t i s.1

pub no_gates : (gs : List Gate) → gs ≡ gs ++ []
no_gates [] = refl
no_gates (g ∷ gs) = ap (λ r. g ∷ r) (no_gates gs)

pub ruleset table_facts = (lits_at-get_or, width_at-table, length-table, short_at, no_gates)
