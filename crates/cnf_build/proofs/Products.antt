-- Products and shifts by a word.
use Rattle.std.proofs.Common.{◌≡◌, ℕ, ◌+◌, ◌*◌, ◌/◌, ◌%◌, ◌^◌, ◌<◌, Bool, true, false, List, [], ◌∷◌, ◌++◌, length, refl, sym, ap, ◌∙◌, subst, arith}
use Rattle.std.specs.Prelude.{not, map, replicate, if◌then◌else◌}
use Rattle.std.proofs.Math.Nat.{mod-eq_of_lt, add-mul-mod_self_left, pow-zero}
use Rattle.std.proofs.lemmas.Nat.{pow-add, mul-mod_first, shr-shr}
use Rattle.std.proofs.lemmas.List.{length-replicate}
use Rattle.clause_check.specs.declared.literal.Lit.{Lit}
use Rattle.clause_check.specs.Clauses.{negated}
use Rattle.cnf_build.specs.Literals.{holds}
use Rattle.cnf_build.specs.declared.gates.Gate.{Gate}
use Rattle.cnf_build.specs.declared.gates.Gate.TheVariants.{And, Mux}
use Rattle.cnf_build.specs.Gates.{Runs}
use Rattle.cnf_build.specs.Circuits.{bit, number, row_lits, zip_gates, adder, false_lit, moved_up, moved_down, product_from, shifter}
use Rattle.cnf_build.proofs.Runs.{Runs-front, Runs-back}
use Rattle.cnf_build.proofs.Numbers.{number-lt, number-negated}
use Rattle.cnf_build.proofs.Rows.{length-row_lits, length-zip_gates, part_is, mux_picks}
use Rattle.cnf_build.proofs.Adders.{adder_adds, length-adder}
use Rattle.cnf_build.proofs.Moves.{length-moved_up, length-moved_down, number-moved_up, number-moved_down, negated-moved_down}

-- one step of a product, modulo m
product_step : (sum a b low added up carry m : ℕ) → added + m * carry ≡ sum + low * a → up ≡ a * 2 % m → (added + up * b) % m ≡ (sum + a * (low + 2 * b)) % m
product_step sum a b low added up carry m e f =
    let q = a * 2 / m in
    let double : m * q + up ≡ a * 2 = omega (arith, f) in
    let times : (m * q + up) * b ≡ a * 2 * b = ap (λ n. n * b) double in
    let split : sum + a * (low + 2 * b) ≡ (added + up * b) + m * (carry + q * b) = omega (arith, e, times) in
    sym (ap (λ n. n % m) split ∙ add-mul-mod_self_left (added + up * b) m (carry + q * b))

pub product_multiplies : (s : ℕ → Bool) (n : ℕ) (sum xs ys : List Lit) → s 0 ≡ true → length sum ≡ length xs → Runs s n (product_from n sum xs ys).gates → number s (product_from n sum xs ys).lits ≡ (number s sum + number s xs * number s ys) % 2 ^ length xs
product_multiplies s n sum xs [] h e r =
    let small : number s sum < 2 ^ length xs = subst (λ k. number s sum < 2 ^ k) e (number-lt s sum) in
    let same : number s sum + number s xs * 0 ≡ number s sum = omega arith in
    sym (ap (λ k. k % 2 ^ length xs) same ∙ mod-eq_of_lt small)
product_multiplies s n sum xs (y ∷ ys) h e r =
    let part = zip_gates And xs (replicate (length xs) y) in
    let here = row_lits n part in
    let added = adder (n + length part) false_lit sum here in
    let up = moved_up 1 xs in
    let next = product_from (n + length part + length added.gates) added.lits up ys in
    let long_part : length part ≡ length xs = length-zip_gates And xs (replicate (length xs) y) (sym (length-replicate (length xs) y)) in
    let long_here : length sum ≡ length here = omega (arith, length-row_lits n part, long_part) in
    let long_up : length up ≡ length xs = length-moved_up 1 xs in
    let long_added : length added.lits ≡ length up = omega (arith, length-adder (n + length part) false_lit sum here long_here, long_up) in
    let rs = Runs-back s n part (added.gates ++ next.gates) r in
    let is_part = part_is s n xs y (Runs-front s n part (added.gates ++ next.gates) r) in
    let adds = adder_adds s (n + length part) false_lit sum here long_here (Runs-front s (n + length part) added.gates next.gates rs) in
    let off : bit (not (s 0)) ≡ 0 = ap (λ b. bit (not b)) h in
    let W : 2 ^ length sum ≡ 2 ^ length xs = ap (λ k. 2 ^ k) e in
    let carried : number s added.lits + 2 ^ length xs * bit (holds s added.carry) ≡ number s sum + bit (holds s y) * number s xs = omega (arith, adds, ap (λ k. k * bit (holds s added.carry)) W, is_part, off) in
    let moved : number s up ≡ number s xs * 2 % 2 ^ length xs = number-moved_up s 1 xs h in
    let rest = product_multiplies s (n + length part + length added.gates) added.lits up ys h long_added (Runs-back s (n + length part) added.gates next.gates rs) in
    rest ∙ ap (λ k. (number s added.lits + number s up * number s ys) % 2 ^ k) long_up ∙ product_step (number s sum) (number s xs) (number s ys) (bit (holds s y)) (number s added.lits) (number s up) (bit (holds s added.carry)) (2 ^ length xs) carried moved

-- one bit of the distance
up_step : (b : Bool) (x x' k n m : ℕ) → x' ≡ (if b then x * 2 ^ k % m else x) → (x' * 2 ^ (2 * k * n)) % m ≡ (x * 2 ^ (k * (bit b + 2 * n))) % m
up_step true x x' k n m e =
    let far : k * (1 + 2 * n) ≡ k + 2 * k * n = omega arith in
    let apart : x * 2 ^ k * 2 ^ (2 * k * n) ≡ x * 2 ^ (k * (1 + 2 * n)) = omega (arith, ap (λ j. x * j) (sym (pow-add 2 k (2 * k * n)) ∙ ap (λ j. 2 ^ j) (sym far))) in
    ap (λ j. (j * 2 ^ (2 * k * n)) % m) e ∙ mul-mod_first (x * 2 ^ k) (2 ^ (2 * k * n)) m ∙ ap (λ j. j % m) apart
up_step false x x' k n m e =
    let far : 2 * k * n ≡ k * (0 + 2 * n) = omega arith in
    ap (λ j. (j * 2 ^ (2 * k * n)) % m) e ∙ ap (λ j. (x * 2 ^ j) % m) far

down_step : (b : Bool) (x x' k n : ℕ) → x' ≡ (if b then x / 2 ^ k else x) → x' / 2 ^ (2 * k * n) ≡ x / 2 ^ (k * (bit b + 2 * n))
down_step true x x' k n e =
    let far : k + 2 * k * n ≡ k * (1 + 2 * n) = omega arith in
    ap (λ j. j / 2 ^ (2 * k * n)) e ∙ shr-shr x k (2 * k * n) ∙ ap (λ j. x / 2 ^ j) far
down_step false x x' k n e =
    let far : 2 * k * n ≡ k * (0 + 2 * n) = omega arith in
    ap (λ j. j / 2 ^ (2 * k * n)) e ∙ ap (λ j. x / 2 ^ j) far

module _ (s : ℕ → Bool) where
  -- a stage of a shifter: its word is the moved word or the word
  stage_picks : (n : ℕ) (b : Lit) (ms xs : List Lit) (rest : List Gate) → length ms ≡ length xs → Runs s n (zip_gates (Mux b) ms xs ++ rest) → number s (row_lits n (zip_gates (Mux b) ms xs)) ≡ (if holds s b then number s ms else number s xs)
  stage_picks n b ms xs rest e r = mux_picks s n b ms xs e (Runs-front s n (zip_gates (Mux b) ms xs) rest r)

  length-stage : (n : ℕ) (b : Lit) (ms xs : List Lit) → length ms ≡ length xs → length (row_lits n (zip_gates (Mux b) ms xs)) ≡ length xs
  length-stage n b ms xs e = length-row_lits n (zip_gates (Mux b) ms xs) ∙ length-zip_gates (Mux b) ms xs e ∙ e

  pub shifter_up : (n k : ℕ) (xs ys : List Lit) → s 0 ≡ true → Runs s n (shifter n moved_up k xs ys).gates → number s (shifter n moved_up k xs ys).lits ≡ (number s xs * 2 ^ (k * number s ys)) % 2 ^ length xs
  shifter_up n k xs [] h r =
      let none : k * 0 ≡ 0 = omega arith in
      let one : number s xs * 2 ^ (k * 0) ≡ number s xs = ap (λ j. number s xs * 2 ^ j) none ∙ omega (arith, pow-zero 2) in
      sym (ap (λ j. j % 2 ^ length xs) one ∙ mod-eq_of_lt (number-lt s xs))
  shifter_up n k xs (y ∷ ys) h r =
      let ms = moved_up k xs in
      let stage = zip_gates (Mux y) ms xs in
      let rest = shifter (n + length stage) moved_up (2 * k) (row_lits n stage) ys in
      let picks = stage_picks n y ms xs rest.gates (length-moved_up k xs) r in
      let picks' = picks ∙ ap (λ j. if holds s y then j else number s xs) (number-moved_up s k xs h) in
      let after = shifter_up (n + length stage) (2 * k) (row_lits n stage) ys h (Runs-back s n stage rest.gates r) in
      after ∙ ap (λ j. (number s (row_lits n stage) * 2 ^ (2 * k * number s ys)) % 2 ^ j) (length-stage n y ms xs (length-moved_up k xs)) ∙ up_step (holds s y) (number s xs) (number s (row_lits n stage)) k (number s ys) (2 ^ length xs) picks'

  pub shifter_down : (fill : Lit) (n k : ℕ) (xs ys : List Lit) → holds s fill ≡ false → Runs s n (shifter n (λ j. moved_down j fill) k xs ys).gates → number s (shifter n (λ j. moved_down j fill) k xs ys).lits ≡ number s xs / 2 ^ (k * number s ys)
  shifter_down fill n k xs [] h r =
      let none : k * 0 ≡ 0 = omega arith in
      sym (ap (λ j. number s xs / 2 ^ j) none ∙ omega (arith, pow-zero 2))
  shifter_down fill n k xs (y ∷ ys) h r =
      let ms = moved_down k fill xs in
      let stage = zip_gates (Mux y) ms xs in
      let rest = shifter (n + length stage) (λ j. moved_down j fill) (2 * k) (row_lits n stage) ys in
      let picks = stage_picks n y ms xs rest.gates (length-moved_down k fill xs) r in
      let picks' = picks ∙ ap (λ j. if holds s y then j else number s xs) (number-moved_down s k fill xs h) in
      let after = shifter_down fill (n + length stage) (2 * k) (row_lits n stage) ys h (Runs-back s n stage rest.gates r) in
      after ∙ down_step (holds s y) (number s xs) (number s (row_lits n stage)) k (number s ys) picks'

  -- words of one number have negations of one number
  negated_same : (xs ys : List Lit) → length xs ≡ length ys → number s xs ≡ number s ys → number s (map negated xs) ≡ number s (map negated ys)
  negated_same xs ys e f = omega (arith, number-negated s xs, number-negated s ys, ap (λ k. 2 ^ k) e)

  negated_picks : (v : Bool) (zs xs ys : List Lit) → length zs ≡ length xs → length zs ≡ length ys → number s zs ≡ (if v then number s xs else number s ys) → number s (map negated zs) ≡ (if v then number s (map negated xs) else number s (map negated ys))
  negated_picks true zs xs ys e f g = negated_same zs xs e g
  negated_picks false zs xs ys e f g = negated_same zs ys f g

  pub shifter_down_ones : (fill : Lit) (n k : ℕ) (xs ys : List Lit) → holds s fill ≡ true → Runs s n (shifter n (λ j. moved_down j fill) k xs ys).gates → number s (map negated (shifter n (λ j. moved_down j fill) k xs ys).lits) ≡ number s (map negated xs) / 2 ^ (k * number s ys)
  shifter_down_ones fill n k xs [] h r =
      let none : k * 0 ≡ 0 = omega arith in
      sym (ap (λ j. number s (map negated xs) / 2 ^ j) none ∙ omega (arith, pow-zero 2))
  shifter_down_ones fill n k xs (y ∷ ys) h r =
      let ms = moved_down k fill xs in
      let stage = zip_gates (Mux y) ms xs in
      let rest = shifter (n + length stage) (λ j. moved_down j fill) (2 * k) (row_lits n stage) ys in
      let same = length-moved_down k fill xs in
      let long = length-stage n y ms xs same in
      let picks = negated_picks (holds s y) (row_lits n stage) ms xs (long ∙ sym same) long (stage_picks n y ms xs rest.gates same r) in
      let picks' = picks ∙ ap (λ j. if holds s y then j else number s (map negated xs)) (negated-moved_down s k fill xs h) in
      let after = shifter_down_ones fill (n + length stage) (2 * k) (row_lits n stage) ys h (Runs-back s n stage rest.gates r) in
      after ∙ down_step (holds s y) (number s (map negated xs)) (number s (map negated (row_lits n stage))) k (number s ys) picks'

  pub length-shifter : (moved : ℕ → List Lit → List Lit) → ((k : ℕ) (xs : List Lit) → length (moved k xs) ≡ length xs) → (n k : ℕ) (xs ys : List Lit) → length (shifter n moved k xs ys).lits ≡ length xs
  length-shifter moved keeps n k xs [] = refl
  length-shifter moved keeps n k xs (y ∷ ys) =
      let stage = zip_gates (Mux y) (moved k xs) xs in
      length-shifter moved keeps (n + length stage) (2 * k) (row_lits n stage) ys ∙ length-stage n y (moved k xs) xs (keeps k xs)

pub length-product : (n : ℕ) (sum xs ys : List Lit) → length sum ≡ length xs → length (product_from n sum xs ys).lits ≡ length xs
length-product n sum xs [] e = e
length-product n sum xs (y ∷ ys) e =
    let part = zip_gates And xs (replicate (length xs) y) in
    let here = row_lits n part in
    let long_part : length part ≡ length xs = length-zip_gates And xs (replicate (length xs) y) (sym (length-replicate (length xs) y)) in
    let long_here : length sum ≡ length here = omega (arith, length-row_lits n part, long_part) in
    let added = adder (n + length part) false_lit sum here in
    let long_up : length (moved_up 1 xs) ≡ length xs = length-moved_up 1 xs in
    length-product (n + length part + length added.gates) added.lits (moved_up 1 xs) ys (omega (arith, length-adder (n + length part) false_lit sum here long_here, long_up)) ∙ long_up
