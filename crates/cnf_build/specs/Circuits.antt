-- The circuits of the operations on words. A word is the list of its literals, from the lowest bit.
use Rattle.std.specs.Prelude.{ℕ, zero, suc, ◌+◌, ◌-◌, ◌*◌, ◌/◌, ◌%◌, ◌==◌, min, Bool, true, false, if◌then◌else◌, List, [], ◌∷◌, ◌++◌, length, map, take, drop, replicate}
use Rattle.clause_check.specs.declared.literal.Lit.{Lit}
use Rattle.clause_check.specs.Clauses.{negated}
use Rattle.cnf_build.specs.Literals.{plus, minus, holds}
use Rattle.cnf_build.specs.declared.gates.Gate.{Gate}
use Rattle.cnf_build.specs.declared.gates.Gate.TheVariants.{And, Xor, Mux}

-- the number of a bit, and of a word's bits under an assignment
abbrev pub bit : Bool → ℕ
bit true = 1
bit false = 0

abbrev pub number : (ℕ → Bool) → List Lit → ℕ
number s [] = 0
number s (l ∷ ls) = bit (holds s l) + 2 * number s ls

-- the constants: variable 0 is true
abbrev pub true_lit : Lit
true_lit = plus 0

abbrev pub false_lit : Lit
false_lit = minus 0

-- further gates, and the literals of a word that they make
pub record Made : Type 0 where
  pub gates : List Gate
  pub lits : List Lit

-- the variables from n up, one for each gate
abbrev pub row_lits : ℕ → List Gate → List Lit
row_lits n [] = []
row_lits n (g ∷ gs) = plus n ∷ row_lits (suc n) gs

-- a gate for each bit
abbrev pub row : ℕ → List Gate → Made
row n gs = record { gates = gs; lits = row_lits n gs }

abbrev pub zip_gates : (Lit → Lit → Gate) → List Lit → List Lit → List Gate
zip_gates f [] ys = []
zip_gates f (a ∷ xs) [] = []
zip_gates f (a ∷ xs) (b ∷ ys) = f a b ∷ zip_gates f xs ys

abbrev pub and_made : ℕ → List Lit → List Lit → Made
and_made n xs ys = row n (zip_gates And xs ys)

abbrev pub xor_made : ℕ → List Lit → List Lit → Made
xor_made n xs ys = row n (zip_gates Xor xs ys)

abbrev pub mux_made : ℕ → Lit → List Lit → List Lit → Made
mux_made n c xs ys = row n (zip_gates (Mux c) xs ys)

abbrev pub nor_gate : Lit → Lit → Gate
nor_gate a b = And (negated a) (negated b)

abbrev pub or_made : ℕ → List Lit → List Lit → Made
or_made n xs ys = let r = row n (zip_gates nor_gate xs ys) in record { gates = r.gates; lits = map negated r.lits }

-- a sum, with the carry that goes out
pub record Sum : Type 0 where
  pub gates : List Gate
  pub lits : List Lit
  pub carry : Lit

-- one bit of an adder: the variables n to n + 4
abbrev pub add_bit_gates : ℕ → Lit → Lit → Lit → List Gate
add_bit_gates n c a b =
    let sum = suc n in
    let both = suc sum in
    let through = suc both in
    Xor a b ∷ Xor (plus n) c ∷ And a b ∷ And (plus n) c ∷ And (minus both) (minus through) ∷ []

abbrev pub adder : ℕ → Lit → List Lit → List Lit → Sum
adder n c [] ys = record { gates = []; lits = []; carry = c }
adder n c (a ∷ xs) [] = record { gates = []; lits = []; carry = c }
adder n c (a ∷ xs) (b ∷ ys) =
    let out = suc (suc (suc (suc n))) in
    let rest = adder (suc out) (minus out) xs ys in
    record { gates = add_bit_gates n c a b ++ rest.gates; lits = plus (suc n) ∷ rest.lits; carry = rest.carry }

abbrev pub subtractor : ℕ → List Lit → List Lit → Sum
subtractor n xs ys = adder n true_lit xs (map negated ys)

-- are the words equal, where acc says it of the lower bits?
pub record Flag : Type 0 where
  pub gates : List Gate
  pub lit : Lit

abbrev pub equal_from : ℕ → Lit → List Lit → List Lit → Flag
equal_from n acc [] ys = record { gates = []; lit = acc }
equal_from n acc (a ∷ xs) [] = record { gates = []; lit = acc }
equal_from n acc (a ∷ xs) (b ∷ ys) =
    let next = suc n in
    let rest = equal_from (suc next) (plus next) xs ys in
    record { gates = Xor a b ∷ And acc (minus n) ∷ rest.gates; lit = rest.lit }

-- a word moved up or down by k bits, with what comes in
abbrev pub moved_up : ℕ → List Lit → List Lit
moved_up k ls = replicate (min k (length ls)) false_lit ++ take (length ls - k) ls

abbrev pub moved_down : ℕ → Lit → List Lit → List Lit
moved_down k fill ls = drop k ls ++ replicate (min k (length ls)) fill

-- a product: sum so far, the left operand moved up so far, the bits of the right one
abbrev pub product_from : ℕ → List Lit → List Lit → List Lit → Made
product_from n sum xs [] = record { gates = []; lits = sum }
product_from n sum xs (b ∷ ys) =
    let part = zip_gates And xs (replicate (length xs) b) in
    let added = adder (n + length part) false_lit sum (row_lits n part) in
    let rest = product_from (n + length part + length added.gates) added.lits (moved_up 1 xs) ys in
    record { gates = part ++ (added.gates ++ rest.gates); lits = rest.lits }

-- a shift by a word: each bit of the distance chooses between the word moved by its weight and the word
abbrev pub shifter : ℕ → (ℕ → List Lit → List Lit) → ℕ → List Lit → List Lit → Made
shifter n moved weight ls [] = record { gates = []; lits = ls }
shifter n moved weight ls (b ∷ ys) =
    let stage = zip_gates (Mux b) (moved weight ls) ls in
    let rest = shifter (n + length stage) moved (2 * weight) (row_lits n stage) ys in
    record { gates = stage ++ rest.gates; lits = rest.lits }

-- the literals of a constant
abbrev pub const_lits : ℕ → ℕ → List Lit
const_lits zero v = []
const_lits (suc w) v = (if v % 2 == 1 then true_lit else false_lit) ∷ const_lits w (v / 2)

-- the top bit
abbrev pub top_of : List Lit → Lit
top_of [] = false_lit
top_of (l ∷ []) = l
top_of (l ∷ m ∷ ls) = top_of (m ∷ ls)

abbrev pub top_turned : List Lit → List Lit
top_turned [] = []
top_turned (l ∷ []) = negated l ∷ []
top_turned (l ∷ m ∷ ls) = l ∷ top_turned (m ∷ ls)
