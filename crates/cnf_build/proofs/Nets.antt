-- Circuits read earlier variables alone, and their literals stand below the next variable.
use Rattle.std.proofs.Common.{◌≡◌, ℕ, zero, suc, ◌+◌, ◌-◌, ◌*◌, ◌<◌, ◌≤◌, min, Bool, true, false, List, [], ◌∷◌, ◌++◌, length, take, drop, subst, arith, length-append}
use Rattle.std.specs.Prelude.{map, replicate, ◌%◌, ◌/◌, ◌==◌, if◌then◌else◌}
use Rattle.clause_check.specs.declared.literal.Lit.{Lit}
use Rattle.clause_check.specs.Clauses.{negated}
use Rattle.cnf_build.specs.Literals.{plus, minus}
use Rattle.cnf_build.specs.declared.gates.Gate.{Gate}
use Rattle.cnf_build.specs.declared.gates.Gate.TheVariants.{Free, And, Mux}
use Rattle.cnf_build.specs.Gates.{IsAfter, IsNet, Below}
use Rattle.cnf_build.specs.Circuits.{true_lit, false_lit, row_lits, zip_gates, adder, equal_from, moved_up, moved_down, product_from, shifter, const_lits, top_of, top_turned}

pub Below-more : (k m : ℕ) (ls : List Lit) → k ≤ m → Below k ls → Below m ls
Below-more k m [] le b = tt
Below-more k m (l ∷ ls) le b = (omega (arith, b.0), Below-more k m ls le b.1)

pub Below-append : (k : ℕ) (xs ys : List Lit) → Below k xs → Below k ys → Below k (xs ++ ys)
Below-append k [] ys b c = c
Below-append k (x ∷ xs) ys b c = (b.0, Below-append k xs ys b.1 c)

pub Below-take : (k n : ℕ) (xs : List Lit) → Below k xs → Below k (take n xs)
Below-take k zero xs b = tt
Below-take k (suc n) [] b = tt
Below-take k (suc n) (x ∷ xs) b = (b.0, Below-take k n xs b.1)

pub Below-drop : (k n : ℕ) (xs : List Lit) → Below k xs → Below k (drop n xs)
Below-drop k zero xs b = b
Below-drop k (suc n) [] b = tt
Below-drop k (suc n) (x ∷ xs) b = Below-drop k n xs b.1

pub Below-replicate : (k n : ℕ) (l : Lit) → l.var < k → Below k (replicate n l)
Below-replicate k zero l p = tt
Below-replicate k (suc n) l p = (p, Below-replicate k n l p)

pub Below-negated : (k : ℕ) (xs : List Lit) → Below k xs → Below k (map negated xs)
Below-negated k [] b = tt
Below-negated k (x ∷ xs) b = (b.0, Below-negated k xs b.1)

pub Below-const : (k w v : ℕ) → 0 < k → Below k (const_lits w v)
Below-const k zero v p = tt
Below-const k (suc w) v p = (either (v % 2 == 1), Below-const k w (v / 2) p)
  where
    either : (t : Bool) → (if t then true_lit else false_lit).var < k
    either true = p
    either false = p

pub Below-top : (k : ℕ) (xs : List Lit) → 0 < k → Below k xs → (top_of xs).var < k
Below-top k [] p b = p
Below-top k (x ∷ []) p b = b.0
Below-top k (x ∷ y ∷ xs) p b = Below-top k (y ∷ xs) p b.1

pub Below-turned : (k : ℕ) (xs : List Lit) → Below k xs → Below k (top_turned xs)
Below-turned k [] b = tt
Below-turned k (x ∷ []) b = (b.0, tt)
Below-turned k (x ∷ y ∷ xs) b = (b.0, Below-turned k (y ∷ xs) b.1)

pub Below-row : (n : ℕ) (gs : List Gate) → Below (n + length gs) (row_lits n gs)
Below-row n [] = tt
Below-row n (g ∷ gs) = let e : suc n + length gs ≡ n + suc (length gs) = omega arith in (omega arith, subst (λ k. Below k (row_lits (suc n) gs)) e (Below-row (suc n) gs))

pub IsNet-append : (k : ℕ) (xs ys : List Gate) → IsNet k xs → IsNet (k + length xs) ys → IsNet k (xs ++ ys)
IsNet-append k [] ys a b = let e : k + 0 ≡ k = omega arith in subst (λ n. IsNet n ys) e b
IsNet-append k (x ∷ xs) ys a b =
    let e : k + suc (length xs) ≡ suc k + length xs = omega arith in
    (a.0, IsNet-append (suc k) xs ys a.1 (subst (λ n. IsNet n ys) e b))

pub IsNet-frees : (k w : ℕ) → IsNet k (replicate w Free)
IsNet-frees k zero = tt
IsNet-frees k (suc w) = (tt, IsNet-frees (suc k) w)

-- gates that read two literals
pub IsNet-zip : (f : Lit → Lit → Gate) → ((k : ℕ) (a b : Lit) → a.var < k → b.var < k → IsAfter k (f a b)) → (m k : ℕ) (xs ys : List Lit) → m ≤ k → Below m xs → Below m ys → IsNet k (zip_gates f xs ys)
IsNet-zip f reads m k [] ys le b c = tt
IsNet-zip f reads m k (x ∷ xs) [] le b c = tt
IsNet-zip f reads m k (x ∷ xs) (y ∷ ys) le b c =
    (reads k x y (omega (arith, b.0)) (omega (arith, c.0)), IsNet-zip f reads m (suc k) xs ys (omega arith) b.1 c.1)

pub IsNet-mux : (b : Lit) (m k : ℕ) (xs ys : List Lit) → m ≤ k → b.var < m → Below m xs → Below m ys → IsNet k (zip_gates (Mux b) xs ys)
IsNet-mux b m k [] ys le p bx by = tt
IsNet-mux b m k (x ∷ xs) [] le p bx by = tt
IsNet-mux b m k (x ∷ xs) (y ∷ ys) le p bx by =
    ((omega arith, omega (arith, bx.0), omega (arith, by.0)), IsNet-mux b m (suc k) xs ys (omega arith) p bx.1 by.1)

-- the gates are a net from n on, and the literals stand below what follows
pub record IsSound (n : ℕ) (gates : List Gate) (lits : List Lit) : Type 0 where
  pub net : IsNet n gates
  pub below : Below (n + length gates) lits

pub adder_sound : (n : ℕ) (c : Lit) (xs ys : List Lit) → c.var < n → Below n xs → Below n ys → IsSound n (adder n c xs ys).gates ((adder n c xs ys).carry ∷ (adder n c xs ys).lits)
adder_sound n c [] ys p bx by = record { net = tt; below = (omega arith, tt) }
adder_sound n c (x ∷ xs) [] p bx by = record { net = tt; below = (omega arith, tt) }
adder_sound n c (x ∷ xs) (y ∷ ys) p bx by =
    let out = suc (suc (suc (suc n))) in
    let rest = adder_sound (suc out) (minus out) xs ys (omega arith) (Below-more n (suc out) xs (omega arith) bx.1) (Below-more n (suc out) ys (omega arith) by.1) in
    let all = adder (suc out) (minus out) xs ys in
    let e : suc out + length all.gates ≡ n + suc (suc (suc (suc (suc (length all.gates))))) = omega arith in
    let below = subst (λ k. Below k (all.carry ∷ all.lits)) e rest.below in
    record {
      net = ((bx.0, by.0), ((omega arith, omega arith), ((omega (arith, bx.0), omega (arith, by.0)), ((omega arith, omega arith), ((omega arith, omega arith), rest.net)))));
      below = (below.0, (omega arith, below.1));
    }

pub equal_sound : (n : ℕ) (acc : Lit) (xs ys : List Lit) → acc.var < n → Below n xs → Below n ys → IsSound n (equal_from n acc xs ys).gates ((equal_from n acc xs ys).lit ∷ [])
equal_sound n acc [] ys p bx by = record { net = tt; below = (omega arith, tt) }
equal_sound n acc (x ∷ xs) [] p bx by = record { net = tt; below = (omega arith, tt) }
equal_sound n acc (x ∷ xs) (y ∷ ys) p bx by =
    let next = suc n in
    let rest = equal_sound (suc next) (plus next) xs ys (omega arith) (Below-more n (suc next) xs (omega arith) bx.1) (Below-more n (suc next) ys (omega arith) by.1) in
    let all = equal_from (suc next) (plus next) xs ys in
    let e : suc next + length all.gates ≡ n + suc (suc (length all.gates)) = omega arith in
    record {
      net = ((bx.0, by.0), ((omega arith, omega arith), rest.net));
      below = subst (λ k. Below k (all.lit ∷ [])) e rest.below;
    }

pub Below-moved_up : (k n : ℕ) (xs : List Lit) → 0 < k → Below k xs → Below k (moved_up n xs)
Below-moved_up k n xs p b =
    Below-append k (replicate (min n (length xs)) false_lit) (take (length xs - n) xs) (Below-replicate k (min n (length xs)) false_lit p) (Below-take k (length xs - n) xs b)

pub Below-moved_down : (k n : ℕ) (fill : Lit) (xs : List Lit) → fill.var < k → Below k xs → Below k (moved_down n fill xs)
Below-moved_down k n fill xs p b =
    Below-append k (drop n xs) (replicate (min n (length xs)) fill) (Below-drop k n xs b) (Below-replicate k (min n (length xs)) fill p)

-- two circuits, one after the other
pub sound_after : (n : ℕ) (gs hs : List Gate) (lits : List Lit) → IsNet n gs → IsSound (n + length gs) hs lits → IsSound n (gs ++ hs) lits
sound_after n gs hs lits a r =
    let e : n + length gs + length hs ≡ n + length (gs ++ hs) = omega (arith, length-append gs hs) in
    record { net = IsNet-append n gs hs a r.net; below = subst (λ k. Below k lits) e r.below }

pub product_sound : (n : ℕ) (sum xs ys : List Lit) → 0 < n → Below n sum → Below n xs → Below n ys → IsSound n (product_from n sum xs ys).gates (product_from n sum xs ys).lits
product_sound n sum xs [] p bs bx by = record { net = tt; below = Below-more n (n + 0) sum (omega arith) bs }
product_sound n sum xs (y ∷ ys) p bs bx by =
    let part = zip_gates And xs (replicate (length xs) y) in
    let here = row_lits n part in
    let m = n + length part in
    let added = adder m false_lit sum here in
    let next = product_from (m + length added.gates) added.lits (moved_up 1 xs) ys in
    let net_part = IsNet-zip And (λ k a b q r. (q, r)) n n xs (replicate (length xs) y) (omega arith) bx (Below-replicate n (length xs) y by.0) in
    let adds = adder_sound m false_lit sum here (omega arith) (Below-more n m sum (omega arith) bs) (Below-row n part) in
    let rest = product_sound (m + length added.gates) added.lits (moved_up 1 xs) ys (omega arith) adds.below.1 (Below-moved_up (m + length added.gates) 1 xs (omega arith) (Below-more n (m + length added.gates) xs (omega arith) bx)) (Below-more n (m + length added.gates) ys (omega arith) by.1) in
    sound_after n part (added.gates ++ next.gates) next.lits net_part (sound_after m added.gates next.gates next.lits adds.net rest)

pub shifter_sound : (moved : ℕ → List Lit → List Lit) (m : ℕ) → ((j k : ℕ) (ls : List Lit) → m ≤ k → Below k ls → Below k (moved j ls)) → (n k : ℕ) (xs ys : List Lit) → m ≤ n → Below n xs → Below n ys → IsSound n (shifter n moved k xs ys).gates (shifter n moved k xs ys).lits
shifter_sound moved m keeps n k xs [] le bx by = record { net = tt; below = Below-more n (n + 0) xs (omega arith) bx }
shifter_sound moved m keeps n k xs (y ∷ ys) le bx by =
    let stage = zip_gates (Mux y) (moved k xs) xs in
    let next = shifter (n + length stage) moved (2 * k) (row_lits n stage) ys in
    let net_stage = IsNet-mux y n n (moved k xs) xs (omega arith) by.0 (keeps k n xs le bx) bx in
    let rest = shifter_sound moved m keeps (n + length stage) (2 * k) (row_lits n stage) ys (omega arith) (Below-row n stage) (Below-more n (n + length stage) ys (omega arith) by.1) in
    sound_after n stage next.gates next.lits net_stage rest
