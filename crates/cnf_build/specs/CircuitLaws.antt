-- What the circuits compute.
use Rattle.std.specs.Prelude.{◌≡◌, ◌↔◌, ◌-◌, ◌<◌, ◌≤◌, ◌++◌, take, drop, replicate, nat_lt, ℕ, ◌+◌, ◌*◌, ◌/◌, ◌%◌, ◌^◌, true, false, ◌==◌, ◌&&◌, Bool, List, length, map, bit_and, bit_or, bit_xor, if◌then◌else◌}
use Rattle.clause_check.specs.declared.literal.Lit.{Lit}
use Rattle.clause_check.specs.Clauses.{negated}
use Rattle.cnf_build.specs.Literals.{holds, all_hold}
use Rattle.cnf_build.specs.Gates.{Runs, IsNet, Below, clauses_from, Follows}
use Rattle.cnf_build.specs.declared.gates.Gate.{Gate}
use Rattle.cnf_build.specs.Circuits.{bit, number, adder, equal_from, and_made, or_made, xor_made, mux_made, moved_up, moved_down, product_from, shifter, subtractor, false_lit, const_lits, top_of, top_turned}

abbrev pub AdderAdds : Type 0
AdderAdds = (s : ℕ → Bool) (n : ℕ) (c : Lit) (xs ys : List Lit) → length xs ≡ length ys → Runs s n (adder n c xs ys).gates → number s (adder n c xs ys).lits + 2 ^ length xs * bit (holds s (adder n c xs ys).carry) ≡ number s xs + number s ys + bit (holds s c)

-- the circuits with a gate for each bit
pub record RowsCompute (s : ℕ → Bool) (n : ℕ) (xs ys : List Lit) : Type 0 where
  pub ands : Runs s n (and_made n xs ys).gates → number s (and_made n xs ys).lits ≡ bit_and (number s xs) (number s ys)
  pub ors : Runs s n (or_made n xs ys).gates → number s (or_made n xs ys).lits ≡ bit_or (number s xs) (number s ys)
  pub xors : Runs s n (xor_made n xs ys).gates → number s (xor_made n xs ys).lits ≡ bit_xor (number s xs) (number s ys)
  pub picks : (c : Lit) → Runs s n (mux_made n c xs ys).gates → number s (mux_made n c xs ys).lits ≡ (if holds s c then number s xs else number s ys)
  pub compares : (c : Lit) → Runs s n (equal_from n c xs ys).gates → holds s (equal_from n c xs ys).lit ≡ (holds s c && (number s xs == number s ys))

abbrev pub RowLaws : Type 0
RowLaws = (s : ℕ → Bool) (n : ℕ) (xs ys : List Lit) → length xs ≡ length ys → RowsCompute s n xs ys

-- a word moved up by k bits, and down
pub record Moves (s : ℕ → Bool) (k : ℕ) (xs : List Lit) : Type 0 where
  pub up : s 0 ≡ true → number s (moved_up k xs) ≡ number s xs * 2 ^ k % 2 ^ length xs
  pub down : (fill : Lit) → holds s fill ≡ false → number s (moved_down k fill xs) ≡ number s xs / 2 ^ k
  pub down_ones : (fill : Lit) → holds s fill ≡ true → number s (map negated (moved_down k fill xs)) ≡ number s (map negated xs) / 2 ^ k

abbrev pub MoveLaws : Type 0
MoveLaws = (s : ℕ → Bool) (k : ℕ) (xs : List Lit) → Moves s k xs

-- products and shifts by a word; weight is that of the distance's lowest bit
pub record Shifts (s : ℕ → Bool) (n weight : ℕ) (xs ys : List Lit) : Type 0 where
  pub product : (sum : List Lit) → length sum ≡ length xs → Runs s n (product_from n sum xs ys).gates → number s (product_from n sum xs ys).lits ≡ (number s sum + number s xs * number s ys) % 2 ^ length xs
  pub up : Runs s n (shifter n moved_up weight xs ys).gates → number s (shifter n moved_up weight xs ys).lits ≡ (number s xs * 2 ^ (weight * number s ys)) % 2 ^ length xs
  pub down : (fill : Lit) → holds s fill ≡ false → Runs s n (shifter n (λ j. moved_down j fill) weight xs ys).gates → number s (shifter n (λ j. moved_down j fill) weight xs ys).lits ≡ number s xs / 2 ^ (weight * number s ys)
  pub down_ones : (fill : Lit) → holds s fill ≡ true → Runs s n (shifter n (λ j. moved_down j fill) weight xs ys).gates → number s (map negated (shifter n (λ j. moved_down j fill) weight xs ys).lits) ≡ number s (map negated xs) / 2 ^ (weight * number s ys)

abbrev pub ShiftLaws : Type 0
ShiftLaws = (s : ℕ → Bool) (n weight : ℕ) (xs ys : List Lit) → s 0 ≡ true → Shifts s n weight xs ys

-- differences and comparisons by the carry
pub record Compares (s : ℕ → Bool) (n : ℕ) (xs ys : List Lit) : Type 0 where
  pub sums : Runs s n (adder n false_lit xs ys).gates → number s (adder n false_lit xs ys).lits ≡ (number s xs + number s ys) % 2 ^ length xs
  pub differences : Runs s n (subtractor n xs ys).gates → number s (subtractor n xs ys).lits ≡ (number s xs + (2 ^ length xs - number s ys)) % 2 ^ length xs
  pub borrows : Runs s n (subtractor n xs ys).gates → holds s (negated (subtractor n xs ys).carry) ≡ nat_lt (number s xs) (number s ys)

abbrev pub CompareLaws : Type 0
CompareLaws = (s : ℕ → Bool) (n : ℕ) (xs ys : List Lit) → s 0 ≡ true → length xs ≡ length ys → Compares s n xs ys

-- what only rearranges literals
pub record WiresCompute (s : ℕ → Bool) (xs : List Lit) : Type 0 where
  pub constant : (w v : ℕ) → number s (const_lits w v) ≡ v % 2 ^ w
  pub slice : (lo w : ℕ) → lo + w ≤ length xs → number s (take w (drop lo xs)) ≡ number s xs / 2 ^ lo % 2 ^ w
  pub zext : (k : ℕ) → number s (xs ++ replicate k false_lit) ≡ number s xs
  pub sext : (k : ℕ) → 0 < length xs → number s (xs ++ replicate k (top_of xs)) ≡ number s xs + number s xs / 2 ^ (length xs - 1) * (2 ^ (length xs + k) - 2 ^ length xs)
  pub concat : (ys : List Lit) → number s (ys ++ xs) ≡ number s ys + 2 ^ length ys * number s xs
  pub turned : 0 < length xs → number s (top_turned xs) ≡ (number s xs + 2 ^ (length xs - 1)) % 2 ^ length xs
  pub top : 0 < length xs → bit (holds s (top_of xs)) ≡ number s xs / 2 ^ (length xs - 1)

abbrev pub WireLaws : Type 0
WireLaws = (s : ℕ → Bool) (xs : List Lit) → s 0 ≡ true → WiresCompute s xs

abbrev pub ProductSound : Type 0
ProductSound = (n : ℕ) (sum xs ys : List Lit) → 0 < n → Below n sum → Below n xs → Below n ys → IsNet n (product_from n sum xs ys).gates × Below (n + length (product_from n sum xs ys).gates) (product_from n sum xs ys).lits

-- the clauses of a netlist hold exactly where the assignment runs it
abbrev pub ClausesRun : Type 0
ClausesRun = (s : ℕ → Bool) (k : ℕ) (gs : List Gate) → (all_hold s (clauses_from k gs) ≡ true) ↔ Runs s k gs

-- whatever is chosen for the free variables, some assignment runs the netlist with it
abbrev pub RunExists : Type 0
RunExists = (chosen : ℕ → Bool) (gs : List Gate) → IsNet 0 gs → (s : ℕ → Bool) × (Runs s 0 gs × Follows s chosen 0 gs)
