-- The circuit of an operation gives the word that the operation gives.
use Rattle.std.proofs.Common.{◌≡◌, ℕ, ◌+◌, ◌-◌, ◌*◌, ◌/◌, ◌%◌, ◌^◌, ◌<◌, ◌≤◌, min, Bool, true, false, List, [], ◌∷◌, ◌++◌, length, refl, sym, ap, ◌∙◌, subst, arith, inl, inr, nat_lt, length-append}
use Rattle.std.specs.Prelude.{not, map, replicate, if◌then◌else◌, ◌⊎◌, ◌==◌, ◌&&◌}
use Rattle.std.proofs.Math.Nat.{mul-mod_left, div-eq_of_lt, pow-le-pow_right}
use Rattle.std.proofs.lemmas.Nat.{pow-add, pow_pos, shr_high}
use Rattle.std.proofs.lemmas.List.{length-replicate}
use Rattle.clause_check.specs.declared.literal.Lit.{Lit}
use Rattle.clause_check.specs.Clauses.{negated}
use Rattle.cnf_build.specs.Literals.{holds}
use Rattle.cnf_build.specs.declared.gates.Gate.TheVariants as Gates
use Rattle.cnf_build.specs.Gates.{Runs}
use Rattle.cnf_build.specs.Circuits.{bit, number, true_lit, false_lit, row_lits, zip_gates, nor_gate, moved_up, moved_down, top_of, top_turned}
use Rattle.cnf_build.proofs.Numbers.{number-append, number-lt, number-negated, number-none}
use Rattle.cnf_build.proofs.Rows.{length-row_lits, length-zip_gates, and_ands, or_ors, xor_xors}
use Rattle.cnf_build.proofs.Equals.{equal_compares}
use Rattle.cnf_build.proofs.Adders.{length-adder}
use Rattle.cnf_build.proofs.Moves.{length-moved_up, length-moved_down}
use Rattle.cnf_build.proofs.Products.{product_multiplies, length-product, shifter_up, shifter_down, shifter_down_ones, length-shifter}
use Rattle.cnf_build.proofs.Comparisons.{adds_mod, subtracts, borrows, length-subtractor, length-top_turned, number-top_turned, number-top_of, length-negated}
use Rattle.word_core.specs.Words.{Bits, flag}
use Rattle.word_dag.specs.declared.node.Op.{Op}
use Rattle.word_dag.specs.declared.node.Op.TheVariants.{Add, Sub, Mul, And, Or, Xor, Shl, Shr, Sar, Ult, Slt, Eq, Concat}
use Rattle.word_dag.specs.Nodes.{FitsOp, op_value}
use Rattle.cnf_build.specs.Lower.{op_made}
use Rattle.cnf_build.specs.Meaning.{denoted}

pub same_word : (v w m n : ℕ) → v ≡ w → m ≡ n → (let b : Bits = record { width = v; value = m } in b) ≡ record { width = w; value = n }
same_word v w m n e f = rw (e, f) refl

pub denoted_flag : (s : ℕ → Bool) (l : Lit) (b : Bool) → holds s l ≡ b → denoted s (l ∷ []) ≡ flag b
denoted_flag s l b e = same_word 1 1 (bit (holds s l) + 2 * 0) (if b then 1 else 0) refl (omega (arith, ap bit e, flag_bit b))
  where
    flag_bit : (c : Bool) → bit c ≡ (if c then 1 else 0)
    flag_bit true = refl
    flag_bit false = refl

le_or_lt : (m n : ℕ) → (m ≤ n) ⊎ (n < m)
le_or_lt m n = grind arith

-- shifts reach no farther than the width
up_reach : (a b w : ℕ) → (a * 2 ^ (1 * b)) % 2 ^ w ≡ (a * 2 ^ min b w) % 2 ^ w
up_reach a b w = elim (le_or_lt b w) [ inl le ↦ near le | inr lt ↦ far lt ]
  where
    near : b ≤ w → (a * 2 ^ (1 * b)) % 2 ^ w ≡ (a * 2 ^ min b w) % 2 ^ w
    near le = let e : 1 * b ≡ min b w = omega arith in ap (λ k. (a * 2 ^ k) % 2 ^ w) e

    gone : (k : ℕ) → w ≤ k → (a * 2 ^ k) % 2 ^ w ≡ 0
    gone k le =
        let e : (k - w) + w ≡ k = omega arith in
        let pow : 2 ^ k ≡ 2 ^ (k - w) * 2 ^ w = subst (λ j. 2 ^ j ≡ 2 ^ (k - w) * 2 ^ w) e (pow-add 2 (k - w) w) in
        let f : a * 2 ^ k ≡ (a * 2 ^ (k - w)) * 2 ^ w = omega (arith, ap (λ j. a * j) pow) in
        ap (λ j. j % 2 ^ w) f ∙ mul-mod_left (a * 2 ^ (k - w)) (2 ^ w)

    far : w < b → (a * 2 ^ (1 * b)) % 2 ^ w ≡ (a * 2 ^ min b w) % 2 ^ w
    far lt = gone (1 * b) (omega arith) ∙ sym (gone (min b w) (omega arith))

down_reach : (a b w : ℕ) → a < 2 ^ w → a / 2 ^ (1 * b) ≡ a / 2 ^ min b w
down_reach a b w fits = elim (le_or_lt b w) [ inl le ↦ near le | inr lt ↦ far lt ]
  where
    near : b ≤ w → a / 2 ^ (1 * b) ≡ a / 2 ^ min b w
    near le = let e : 1 * b ≡ min b w = omega arith in ap (λ k. a / 2 ^ k) e

    gone : (k : ℕ) → w ≤ k → a / 2 ^ k ≡ 0
    gone k le = let g : 2 ^ w ≤ 2 ^ k = pow-le-pow_right (omega arith) le in div-eq_of_lt (omega arith)

    far : w < b → a / 2 ^ (1 * b) ≡ a / 2 ^ min b w
    far lt = gone (1 * b) (omega arith) ∙ sym (gone (min b w) (omega arith))

-- a word and its negation, moved down by m bits
ones_down : (a m w : ℕ) → a < 2 ^ w → m ≤ w → (2 ^ w - 1 - a) / 2 ^ m + a / 2 ^ m + 1 ≡ 2 ^ (w - m)
ones_down a m w fits le =
    let q = a / 2 ^ m in
    let r = a % 2 ^ m in
    let p = pow_pos m in
    let e : (w - m) + m ≡ w = omega arith in
    let pow : 2 ^ w ≡ 2 ^ (w - m) * 2 ^ m = subst (λ j. 2 ^ j ≡ 2 ^ (w - m) * 2 ^ m) e (pow-add 2 (w - m) m) in
    let whole : a ≡ q * 2 ^ m + r = omega arith in
    let small : r < 2 ^ m = omega arith in
    let below : q < 2 ^ (w - m) = below_of q (2 ^ (w - m)) (2 ^ m) (omega arith) in
    let split : 2 ^ w - 1 - a ≡ (2 ^ (w - m) - 1 - q) * 2 ^ m + (2 ^ m - 1 - r) = parts (2 ^ (w - m)) q (2 ^ m) r a (2 ^ w) pow whole small below in
    let high : (2 ^ w - 1 - a) / 2 ^ m ≡ 2 ^ (w - m) - 1 - q = ap (λ k. k / 2 ^ m) split ∙ shr_high (2 ^ (w - m) - 1 - q) m (2 ^ m - 1 - r) (omega arith) in
    omega arith
  where
    below_of : (x y z : ℕ) → x * z < y * z → x < y
    below_of x y z lt = grind arith

    parts : (h q u r a v : ℕ) → v ≡ h * u → a ≡ q * u + r → r < u → q < h → v - 1 - a ≡ (h - 1 - q) * u + (u - 1 - r)
    parts h q u r a v e f lt below =
        let k = h - 1 - q in
        let up : h ≡ k + 1 + q = omega arith in
        let times : h * u ≡ (k + 1 + q) * u = ap (λ j. j * u) up in
        omega arith

sar_zero : (a b w t : ℕ) → a < 2 ^ w → 0 ≡ t → a / 2 ^ (1 * b) ≡ a / 2 ^ min b w + t * (2 ^ w - 2 ^ (w - min b w))
sar_zero a b w t fits e = omega (arith, down_reach a b w fits, ap (λ k. k * (2 ^ w - 2 ^ (w - min b w))) e)

sar_one : (a b w t n m : ℕ) → a < 2 ^ w → 1 ≡ t → m + a + 1 ≡ 2 ^ w → (2 ^ w - 1 - a) / 2 ^ (1 * b) + n + 1 ≡ 2 ^ w → n ≡ a / 2 ^ min b w + t * (2 ^ w - 2 ^ (w - min b w))
sar_one a b w t n m fits e f g =
    let d = min b w in
    let reach = down_reach (2 ^ w - 1 - a) b w (omega arith) in
    let ones = ones_down a d w fits (omega arith) in
    let less : 2 ^ (w - d) ≤ 2 ^ w = pow-le-pow_right (omega arith) (omega arith) in
    omega (arith, reach, ones, less, ap (λ k. k * (2 ^ w - 2 ^ (w - d))) e)

pub op_denotes : (s : ℕ → Bool) → s 0 ≡ true → (n : ℕ) (op : Op) (w : ℕ) (xs ys : List Lit) → 0 < length xs → FitsOp op w (length xs) (length ys) → Runs s n (op_made n op xs ys).gates → denoted s (op_made n op xs ys).lits ≡ op_value op (denoted s xs) (denoted s ys)
op_denotes s h n Add w xs ys p f r =
    let e = f.0 ∙ sym f.1 in
    same_word _ _ _ _ (length-adder n false_lit xs ys e) (adds_mod s n false_lit xs ys e (ap not h) r)
op_denotes s h n Sub w xs ys p f r =
    let e = f.0 ∙ sym f.1 in
    same_word _ _ _ _ (length-subtractor n xs ys e) (subtracts s n xs ys h e r)
op_denotes s h n Mul w xs ys p f r =
    let zeros = replicate (length xs) false_lit in
    let none : number s zeros ≡ 0 = number-none s (length xs) h in
    let long = length-replicate (length xs) false_lit in
    let times : number s zeros + number s xs * number s ys ≡ number s xs * number s ys = omega arith in
    same_word _ _ _ _ (length-product n zeros xs ys long) (product_multiplies s n zeros xs ys h long r ∙ ap (λ k. k % 2 ^ length xs) times)
op_denotes s h n And w xs ys p f r =
    let e = f.0 ∙ sym f.1 in
    same_word _ _ _ _ (length-row_lits n (zip_gates Gates.And xs ys) ∙ length-zip_gates Gates.And xs ys e) (and_ands s n xs ys e r)
op_denotes s h n Or w xs ys p f r =
    let e = f.0 ∙ sym f.1 in
    let gs = zip_gates nor_gate xs ys in
    same_word _ _ _ _ (length-negated (row_lits n gs) ∙ length-row_lits n gs ∙ length-zip_gates nor_gate xs ys e) (or_ors s n xs ys e r)
op_denotes s h n Xor w xs ys p f r =
    let e = f.0 ∙ sym f.1 in
    same_word _ _ _ _ (length-row_lits n (zip_gates Gates.Xor xs ys) ∙ length-zip_gates Gates.Xor xs ys e) (xor_xors s n xs ys e r)
op_denotes s h n Shl w xs ys p f r =
    same_word _ _ _ _ (length-shifter s moved_up length-moved_up n 1 xs ys) (shifter_up s n 1 xs ys h r ∙ up_reach (number s xs) (number s ys) (length xs))
op_denotes s h n Shr w xs ys p f r =
    same_word _ _ _ _ (length-shifter s (λ j. moved_down j false_lit) (λ k. length-moved_down k false_lit) n 1 xs ys) (shifter_down s false_lit n 1 xs ys (ap not h) r ∙ down_reach (number s xs) (number s ys) (length xs) (number-lt s xs))
op_denotes s h n Sar w xs ys p f r = by_top (holds s (top_of xs)) refl
  where
    out : List Lit
    out = (op_made n Sar xs ys).lits

    long : length out ≡ length xs
    long = length-shifter s (λ j. moved_down j (top_of xs)) (λ k. length-moved_down k (top_of xs)) n 1 xs ys

    by_top : (t : Bool) → holds s (top_of xs) ≡ t → denoted s out ≡ op_value Sar (denoted s xs) (denoted s ys)
    by_top false e =
        let top = sym (ap bit e) ∙ number-top_of s xs p in
        same_word _ _ _ _ long (shifter_down s (top_of xs) n 1 xs ys e r ∙ sar_zero (number s xs) (number s ys) (length xs) (number s xs / 2 ^ (length xs - 1)) (number-lt s xs) top)
    by_top true e =
        let top = sym (ap bit e) ∙ number-top_of s xs p in
        let over : number s (map negated xs) + number s xs + 1 ≡ 2 ^ length xs = number-negated s xs in
        let flipped : number s (map negated xs) ≡ 2 ^ length xs - 1 - number s xs = omega arith in
        let down = shifter_down_ones s (top_of xs) n 1 xs ys e r ∙ ap (λ k. k / 2 ^ (1 * number s ys)) flipped in
        let back : (2 ^ length xs - 1 - number s xs) / 2 ^ (1 * number s ys) + number s out + 1 ≡ 2 ^ length xs = omega (arith, down, number-negated s out, ap (λ k. 2 ^ k) long) in
        same_word _ _ _ _ long (sar_one (number s xs) (number s ys) (length xs) (number s xs / 2 ^ (length xs - 1)) (number s out) (number s (map negated xs)) (number-lt s xs) top over back)
op_denotes s h n Ult w xs ys p f r = denoted_flag s _ _ (borrows s n xs ys h f.1 r)
op_denotes s h n Slt w xs ys p f r =
    let e = length-top_turned xs ∙ f.1 ∙ sym (length-top_turned ys) in
    let q : 0 < length ys = omega (arith, f.1) in
    denoted_flag s _ _ (borrows s n (top_turned xs) (top_turned ys) h e r ∙ ap (λ k. nat_lt k (number s (top_turned ys))) (number-top_turned s xs p) ∙ ap (λ k. nat_lt ((number s xs + 2 ^ (length xs - 1)) % 2 ^ length xs) k) (number-top_turned s ys q))
op_denotes s h n Eq w xs ys p f r =
    denoted_flag s _ _ (equal_compares s n true_lit xs ys f.1 r ∙ ap (λ b. b && (number s xs == number s ys)) h)
op_denotes s h n Concat w xs ys p f r =
    let long : length (ys ++ xs) ≡ length xs + length ys = omega (arith, length-append ys xs) in
    let value : number s (ys ++ xs) ≡ number s xs * 2 ^ length ys + number s ys = omega (arith, number-append s ys xs) in
    same_word _ _ _ _ long value

-- and as many bits
pub length-op_made : (n : ℕ) (op : Op) (w : ℕ) (xs ys : List Lit) → FitsOp op w (length xs) (length ys) → length (op_made n op xs ys).lits ≡ w
length-op_made n Add w xs ys f = length-adder n false_lit xs ys (f.0 ∙ sym f.1) ∙ f.0
length-op_made n Sub w xs ys f = length-subtractor n xs ys (f.0 ∙ sym f.1) ∙ f.0
length-op_made n Mul w xs ys f = length-product n (replicate (length xs) false_lit) xs ys (length-replicate (length xs) false_lit) ∙ f.0
length-op_made n And w xs ys f = length-row_lits n (zip_gates Gates.And xs ys) ∙ length-zip_gates Gates.And xs ys (f.0 ∙ sym f.1) ∙ f.0
length-op_made n Or w xs ys f = length-negated (row_lits n (zip_gates nor_gate xs ys)) ∙ length-row_lits n (zip_gates nor_gate xs ys) ∙ length-zip_gates nor_gate xs ys (f.0 ∙ sym f.1) ∙ f.0
length-op_made n Xor w xs ys f = length-row_lits n (zip_gates Gates.Xor xs ys) ∙ length-zip_gates Gates.Xor xs ys (f.0 ∙ sym f.1) ∙ f.0
length-op_made n Shl w xs ys f = length-shifter (λ v. true) moved_up length-moved_up n 1 xs ys ∙ f
length-op_made n Shr w xs ys f = length-shifter (λ v. true) (λ j. moved_down j false_lit) (λ k. length-moved_down k false_lit) n 1 xs ys ∙ f
length-op_made n Sar w xs ys f = length-shifter (λ v. true) (λ j. moved_down j (top_of xs)) (λ k. length-moved_down k (top_of xs)) n 1 xs ys ∙ f
length-op_made n Ult w xs ys f = sym f.0
length-op_made n Slt w xs ys f = sym f.0
length-op_made n Eq w xs ys f = sym f.0
length-op_made n Concat w xs ys f = omega (arith, length-append ys xs, f.0)
