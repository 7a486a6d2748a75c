-- Loops over the bits of two words: what was made so far, and what the bits that are left will make.
use Rattle.std.proofs.Common.{◌≡◌, ℕ, zero, suc, ◌+◌, ◌<◌, ◌≤◌, List, [], ◌∷◌, ◌++◌, length, drop, get_or, refl, sym, ap, ◌∙◌, arith, length-append, append_assoc, add-one}
use Rattle.std.proofs.Math.Seq.{drop-cons}
use Rattle.clause_check.specs.declared.literal.Lit.{Lit}
use Rattle.cnf_build.specs.Literals.{plus, minus}
use Rattle.cnf_build.specs.declared.gates.Gate.{Gate}
use Rattle.cnf_build.specs.declared.gates.Gate.TheVariants.{And, Xor, Mux}
use Rattle.cnf_build.specs.Circuits.{Made, Sum, Flag, zip_gates, row_lits, row, add_bit_gates, adder, equal_from, shifter, product_from, moved_up, false_lit}
use Rattle.cnf_build.proofs.Numbers.{twice}
use Rattle.cnf_build.proofs.Adders.{length-adder}
use Rattle.cnf_build.proofs.Moves.{length-moved_up}
use Rattle.std.specs.Prelude.{replicate, ◌*◌, ◌^◌}
use Rattle.cnf_build.specs.Building.{Makes, Sums, Decides, part_made}
use Rattle.cnf_build.proofs.Rows.{length-row_lits, length-zip_gates}
use Rattle.std.proofs.lemmas.List.{length-replicate}

append_nil : {A : Type 0} (xs : List A) → xs ++ [] ≡ xs
append_nil [] = refl
append_nil (x ∷ xs) = ap (λ r. x ∷ r) (append_nil xs)

pub drop_all : {A : Type 0} (xs : List A) (i : ℕ) → length xs ≤ i → drop i xs ≡ []
drop_all [] zero le = refl
drop_all [] (suc i) le = refl
drop_all (x ∷ xs) zero le = absurd (omega arith)
drop_all (x ∷ xs) (suc i) le = drop_all xs i (omega arith)

-- one more element
pub drop_next : {A : Type 0} (xs : List A) (i : ℕ) (x : A) → i < length xs → x ≡ get_or xs i x → drop i xs ≡ x ∷ drop (i + 1) xs
drop_next xs i x lt e = rw (add-one) (drop-cons xs i x lt ∙ ap (λ y. y ∷ drop (suc i) xs) (sym e))

-- a gate for each bit, up to bit i
pub record RowLoop (f : Lit → Lit → Gate) (start gates : List Gate) (lits xs ys : List Lit) (i : ℕ) : Type 0 where
  pub gates_so_far : gates ++ zip_gates f (drop i xs) (drop i ys) ≡ start ++ zip_gates f xs ys
  pub lits_so_far : lits ++ row_lits (length gates) (zip_gates f (drop i xs) (drop i ys)) ≡ row_lits (length start) (zip_gates f xs ys)

pub row_step : (f : Lit → Lit → Gate) (start gates : List Gate) (lits xs ys : List Lit) (i : ℕ) (x y : Lit) → drop i xs ≡ x ∷ drop (i + 1) xs → drop i ys ≡ y ∷ drop (i + 1) ys → RowLoop f start gates lits xs ys i → RowLoop f start (gates ++ f x y ∷ []) (lits ++ plus (length gates) ∷ []) xs ys (i + 1)
row_step f start gates lits xs ys i x y ex ey r =
    let rest = zip_gates f (drop (i + 1) xs) (drop (i + 1) ys) in
    let e : zip_gates f (drop i xs) (drop i ys) ≡ f x y ∷ rest = ap (λ k. zip_gates f k (drop i ys)) ex ∙ ap (λ k. zip_gates f (x ∷ drop (i + 1) xs) k) ey in
    let long : length (gates ++ f x y ∷ []) ≡ suc (length gates) = omega (arith, length-append gates (f x y ∷ [])) in
    record {
      gates_so_far = append_assoc gates (f x y ∷ []) rest ∙ ap (λ k. gates ++ k) (sym e) ∙ r.gates_so_far;
      lits_so_far = append_assoc lits (plus (length gates) ∷ []) (row_lits (length (gates ++ f x y ∷ [])) rest) ∙ ap (λ k. lits ++ plus (length gates) ∷ row_lits k rest) long ∙ ap (λ k. lits ++ row_lits (length gates) k) (sym e) ∙ r.lits_so_far;
    }

pub row_end : (f : Lit → Lit → Gate) (start gates : List Gate) (lits xs ys : List Lit) (i : ℕ) → length xs ≤ i → RowLoop f start gates lits xs ys i → Makes start gates lits (row (length start) (zip_gates f xs ys))
row_end f start gates lits xs ys i le r =
    let none : zip_gates f (drop i xs) (drop i ys) ≡ [] = ap (λ k. zip_gates f k (drop i ys)) (drop_all xs i le) in
    record {
      gates = sym (append_nil gates) ∙ ap (λ k. gates ++ k) (sym none) ∙ r.gates_so_far;
      lits_are = sym (append_nil lits) ∙ ap (λ k. lits ++ row_lits (length gates) k) (sym none) ∙ r.lits_so_far;
    }

-- an adder, up to bit i
pub record AddLoop (start gates : List Gate) (lits : List Lit) (carry : Lit) (whole : Sum) (xs ys : List Lit) (i : ℕ) : Type 0 where
  pub gates_so_far : gates ++ (adder (length gates) carry (drop i xs) (drop i ys)).gates ≡ start ++ whole.gates
  pub lits_so_far : lits ++ (adder (length gates) carry (drop i xs) (drop i ys)).lits ≡ whole.lits
  pub carry_so_far : (adder (length gates) carry (drop i xs) (drop i ys)).carry ≡ whole.carry

pub add_step : (start gates more : List Gate) (lits : List Lit) (carry : Lit) (whole : Sum) (xs ys : List Lit) (i : ℕ) (x y sum next : Lit) → drop i xs ≡ x ∷ drop (i + 1) xs → drop i ys ≡ y ∷ drop (i + 1) ys → more ≡ gates ++ add_bit_gates (length gates) carry x y → sum ≡ plus (suc (length gates)) → next ≡ minus (suc (suc (suc (suc (length gates))))) → AddLoop start gates lits carry whole xs ys i → AddLoop start more (lits ++ sum ∷ []) next whole xs ys (i + 1)
add_step start gates more lits carry whole xs ys i x y sum next ex ey em es en r =
    let as' = drop (i + 1) xs in
    let bs' = drop (i + 1) ys in
    let n = length gates in
    let out = suc (suc (suc (suc n))) in
    let bit = add_bit_gates n carry x y in
    let long : length (gates ++ bit) ≡ suc out = omega (arith, length-append gates bit) in
    let e : adder n carry (drop i xs) (drop i ys) ≡ adder n carry (x ∷ as') (y ∷ bs') = ap (λ k. adder n carry k (drop i ys)) ex ∙ ap (λ k. adder n carry (x ∷ as') k) ey in
    let after : adder (length more) next as' bs' ≡ adder (suc out) (minus out) as' bs' = ap (λ k. adder (length k) next as' bs') em ∙ ap (λ k. adder k next as' bs') long ∙ ap (λ k. adder (suc out) k as' bs') en in
    record {
      gates_so_far = ap (λ k. more ++ k.gates) after ∙ ap (λ k. k ++ (adder (suc out) (minus out) as' bs').gates) em ∙ append_assoc gates bit (adder (suc out) (minus out) as' bs').gates ∙ ap (λ k. gates ++ k.gates) (sym e) ∙ r.gates_so_far;
      lits_so_far = ap (λ k. (lits ++ sum ∷ []) ++ k.lits) after ∙ append_assoc lits (sum ∷ []) (adder (suc out) (minus out) as' bs').lits ∙ ap (λ k. lits ++ k ∷ (adder (suc out) (minus out) as' bs').lits) es ∙ ap (λ k. lits ++ k.lits) (sym e) ∙ r.lits_so_far;
      carry_so_far = ap (λ k. k.carry) after ∙ ap (λ k. k.carry) (sym e) ∙ r.carry_so_far;
    }

pub add_end : (start gates : List Gate) (lits : List Lit) (carry : Lit) (whole : Sum) (xs ys : List Lit) (i : ℕ) → length xs ≤ i → AddLoop start gates lits carry whole xs ys i → Sums start gates lits carry whole
add_end start gates lits carry whole xs ys i le r =
    let none : adder (length gates) carry (drop i xs) (drop i ys) ≡ record { gates = []; lits = []; carry = carry } = ap (λ k. adder (length gates) carry k (drop i ys)) (drop_all xs i le) in
    record {
      gates = sym (append_nil gates) ∙ ap (λ k. gates ++ k.gates) (sym none) ∙ r.gates_so_far;
      lits_are = sym (append_nil lits) ∙ ap (λ k. lits ++ k.lits) (sym none) ∙ r.lits_so_far;
      carry_is = ap (λ k. k.carry) (sym none) ∙ r.carry_so_far;
    }

-- a comparison, up to bit i
pub record EqualLoop (start gates : List Gate) (same : Lit) (whole : Flag) (xs ys : List Lit) (i : ℕ) : Type 0 where
  pub gates_so_far : gates ++ (equal_from (length gates) same (drop i xs) (drop i ys)).gates ≡ start ++ whole.gates
  pub lit_so_far : (equal_from (length gates) same (drop i xs) (drop i ys)).lit ≡ whole.lit

pub equal_step : (start gates : List Gate) (same : Lit) (whole : Flag) (xs ys : List Lit) (i : ℕ) (x y : Lit) (more most : List Gate) (next : Lit) → drop i xs ≡ x ∷ drop (i + 1) xs → drop i ys ≡ y ∷ drop (i + 1) ys → more ≡ gates ++ Xor x y ∷ [] → most ≡ more ++ And same (minus (length gates)) ∷ [] → next ≡ plus (length more) → EqualLoop start gates same whole xs ys i → EqualLoop start most next whole xs ys (i + 1)
equal_step start gates same whole xs ys i x y more most next ex ey em et en r =
    let as' = drop (i + 1) xs in
    let bs' = drop (i + 1) ys in
    let n = length gates in
    let here = Xor x y ∷ And same (minus n) ∷ [] in
    let long : length more ≡ suc n = omega (arith, ap length em, length-append gates (Xor x y ∷ [])) in
    let both : most ≡ gates ++ here = et ∙ ap (λ k. k ++ And same (minus n) ∷ []) em ∙ append_assoc gates (Xor x y ∷ []) (And same (minus n) ∷ []) in
    let longer : length most ≡ suc (suc n) = omega (arith, ap length both, length-append gates here) in
    let e : equal_from n same (drop i xs) (drop i ys) ≡ equal_from n same (x ∷ as') (y ∷ bs') = ap (λ k. equal_from n same k (drop i ys)) ex ∙ ap (λ k. equal_from n same (x ∷ as') k) ey in
    let after : equal_from (length most) next as' bs' ≡ equal_from (suc (suc n)) (plus (suc n)) as' bs' = ap (λ k. equal_from k next as' bs') longer ∙ ap (λ k. equal_from (suc (suc n)) k as' bs') (en ∙ ap plus long) in
    record {
      gates_so_far = ap (λ k. most ++ k.gates) after ∙ ap (λ k. k ++ (equal_from (suc (suc n)) (plus (suc n)) as' bs').gates) both ∙ append_assoc gates here (equal_from (suc (suc n)) (plus (suc n)) as' bs').gates ∙ ap (λ k. gates ++ k.gates) (sym e) ∙ r.gates_so_far;
      lit_so_far = ap (λ k. k.lit) after ∙ ap (λ k. k.lit) (sym e) ∙ r.lit_so_far;
    }

pub equal_end : (start gates : List Gate) (same : Lit) (whole : Flag) (xs ys : List Lit) (i : ℕ) → length xs ≤ i → EqualLoop start gates same whole xs ys i → Decides start gates same whole
equal_end start gates same whole xs ys i le r =
    let none : equal_from (length gates) same (drop i xs) (drop i ys) ≡ record { gates = []; lit = same } = ap (λ k. equal_from (length gates) same k (drop i ys)) (drop_all xs i le) in
    record {
      gates = sym (append_nil gates) ∙ ap (λ k. gates ++ k.gates) (sym none) ∙ r.gates_so_far;
      lit_is = ap (λ k. k.lit) (sym none) ∙ r.lit_so_far;
    }

-- a shift, up to bit i of the distance
pub record ShiftLoop (start gates : List Gate) (moved : ℕ → List Lit → List Lit) (lits : List Lit) (whole : Made) (ys : List Lit) (i : ℕ) : Type 0 where
  pub gates_so_far : gates ++ (shifter (length gates) moved (2 ^ i) lits (drop i ys)).gates ≡ start ++ whole.gates
  pub lits_so_far : (shifter (length gates) moved (2 ^ i) lits (drop i ys)).lits ≡ whole.lits

pub shift_step : (start gates : List Gate) (moved : ℕ → List Lit → List Lit) (lits : List Lit) (whole : Made) (ys : List Lit) (i : ℕ) (y : Lit) (more : List Gate) (next : List Lit) → drop i ys ≡ y ∷ drop (i + 1) ys → Makes gates more next (row (length gates) (zip_gates (Mux y) (moved (2 ^ i) lits) lits)) → ShiftLoop start gates moved lits whole ys i → ShiftLoop start more moved next whole ys (i + 1)
shift_step start gates moved lits whole ys i y more next ey made r =
    let rest = drop (i + 1) ys in
    let n = length gates in
    let stage = zip_gates (Mux y) (moved (2 ^ i) lits) lits in
    let long : length more ≡ n + length stage = omega (arith, ap length made.gates, length-append gates stage) in
    let double : 2 ^ (i + 1) ≡ 2 * 2 ^ i = rw add-one (twice i) in
    let e : shifter n moved (2 ^ i) lits (drop i ys) ≡ shifter n moved (2 ^ i) lits (y ∷ rest) = ap (λ k. shifter n moved (2 ^ i) lits k) ey in
    let after : shifter (length more) moved (2 ^ (i + 1)) next rest ≡ shifter (n + length stage) moved (2 * 2 ^ i) (row_lits n stage) rest = ap (λ k. shifter k moved (2 ^ (i + 1)) next rest) long ∙ ap (λ k. shifter (n + length stage) moved k next rest) double ∙ ap (λ k. shifter (n + length stage) moved (2 * 2 ^ i) k rest) made.lits_are in
    let later = shifter (n + length stage) moved (2 * 2 ^ i) (row_lits n stage) rest in
    record {
      gates_so_far = ap (λ k. more ++ k.gates) after ∙ ap (λ k. k ++ later.gates) made.gates ∙ append_assoc gates stage later.gates ∙ ap (λ k. gates ++ k.gates) (sym e) ∙ r.gates_so_far;
      lits_so_far = ap (λ k. k.lits) after ∙ ap (λ k. k.lits) (sym e) ∙ r.lits_so_far;
    }

pub shift_end : (start gates : List Gate) (moved : ℕ → List Lit → List Lit) (lits : List Lit) (whole : Made) (ys : List Lit) (i : ℕ) → length ys ≤ i → ShiftLoop start gates moved lits whole ys i → Makes start gates lits whole
shift_end start gates moved lits whole ys i le r =
    let none : shifter (length gates) moved (2 ^ i) lits (drop i ys) ≡ record { gates = []; lits = lits } = ap (λ k. shifter (length gates) moved (2 ^ i) lits k) (drop_all ys i le) in
    record {
      gates = sym (append_nil gates) ∙ ap (λ k. gates ++ k.gates) (sym none) ∙ r.gates_so_far;
      lits_are = ap (λ k. k.lits) (sym none) ∙ r.lits_so_far;
    }

-- a product, up to bit i of the second word
pub record ProductLoop (start gates : List Gate) (sum up : List Lit) (whole : Made) (ys : List Lit) (i : ℕ) : Type 0 where
  pub gates_so_far : gates ++ (product_from (length gates) sum up (drop i ys)).gates ≡ start ++ whole.gates
  pub lits_so_far : (product_from (length gates) sum up (drop i ys)).lits ≡ whole.lits
  pub long : length sum ≡ length up

pub product_step : (start gates : List Gate) (sum up : List Lit) (whole : Made) (ys : List Lit) (i : ℕ) (y : Lit) (more : List Gate) (sum' up' : List Lit) → drop i ys ≡ y ∷ drop (i + 1) ys → Makes gates more sum' (part_made (length gates) sum up y) → up' ≡ moved_up 1 up → ProductLoop start gates sum up whole ys i → ProductLoop start more sum' up' whole ys (i + 1)
product_step start gates sum up whole ys i y more sum' up' ey made eu r =
    let rest = drop (i + 1) ys in
    let n = length gates in
    let stage = zip_gates And up (replicate (length up) y) in
    let add_spec = adder (n + length stage) false_lit sum (row_lits n stage) in
    let m = n + length stage + length add_spec.gates in
    let long_more : length more ≡ m = omega (arith, ap length made.gates, length-append gates (stage ++ add_spec.gates), length-append stage add_spec.gates) in
    let e : product_from n sum up (drop i ys) ≡ product_from n sum up (y ∷ rest) = ap (λ k. product_from n sum up k) ey in
    let later = product_from m add_spec.lits (moved_up 1 up) rest in
    let after : product_from (length more) sum' up' rest ≡ later = ap (λ k. product_from k sum' up' rest) long_more ∙ ap (λ k. product_from m k up' rest) made.lits_are ∙ ap (λ k. product_from m add_spec.lits k rest) eu in
    let glue : (stage ++ add_spec.gates) ++ later.gates ≡ stage ++ (add_spec.gates ++ later.gates) = append_assoc stage add_spec.gates later.gates in
    let long_row : length sum ≡ length (row_lits n stage) = r.long ∙ sym (length-row_lits n stage ∙ length-zip_gates And up (replicate (length up) y) (sym (length-replicate (length up) y))) in
    let long_sum : length sum' ≡ length sum = ap length made.lits_are ∙ length-adder (n + length stage) false_lit sum (row_lits n stage) long_row in
    let long_up : length up' ≡ length up = ap length eu ∙ length-moved_up 1 up in
    record {
      gates_so_far = ap (λ k. more ++ k.gates) after ∙ ap (λ k. k ++ later.gates) made.gates ∙ append_assoc gates (stage ++ add_spec.gates) later.gates ∙ ap (λ k. gates ++ k) glue ∙ ap (λ k. gates ++ k.gates) (sym e) ∙ r.gates_so_far;
      lits_so_far = ap (λ k. k.lits) after ∙ ap (λ k. k.lits) (sym e) ∙ r.lits_so_far;
      long = long_sum ∙ r.long ∙ sym long_up;
    }

pub product_end : (start gates : List Gate) (sum up : List Lit) (whole : Made) (ys : List Lit) (i : ℕ) → length ys ≤ i → ProductLoop start gates sum up whole ys i → Makes start gates sum whole
product_end start gates sum up whole ys i le r =
    let none : product_from (length gates) sum up (drop i ys) ≡ record { gates = []; lits = sum } = ap (λ k. product_from (length gates) sum up k) (drop_all ys i le) in
    record {
      gates = sym (append_nil gates) ∙ ap (λ k. gates ++ k.gates) (sym none) ∙ r.gates_so_far;
      lits_are = ap (λ k. k.lits) (sym none) ∙ r.lits_so_far;
    }

-- the next element, as the code reads it
pub drop_step : {A : Type 0} (xs : List A) (i : ℕ) (d : A) → i < length xs → drop i xs ≡ get_or xs i d ∷ drop (i + 1) xs
drop_step xs i d lt = rw add-one (drop-cons xs i d lt)
