-- Values that agree in some bits, and those that come before others by them.
use Rattle.std.proofs.Common.{◌≡◌, ℕ, zero, suc, ◌+◌, ◌<◌, ◌==◌, Bool, true, false, if◌then◌else◌, List, [], ◌∷◌, ◌++◌, length, map, take, get_or, refl, sym, ap, ap₂, ◌∙◌, arith, inl, inr, ◌⊎◌, append_assoc}
use Rattle.std.specs.List.{All}
use Rattle.std.proofs.lemmas.List.Elements.{All-head, All-tail, All-cons, All-nil}
use Rattle.word_dag.specs.declared.node.Node.{Node}
use Rattle.least_trace.specs.declared.bits.Bit.{Bit}
use Rattle.least_trace.specs.Bits.{bit_in, Before}
use Rattle.least_trace.specs.Least.{as_in, is_zero, units_below, ones_from, var_of}
use Rattle.least_trace.proofs.Reading.{unit_of}

abbrev pub Same : List ℕ → List ℕ → Bit → Type 0
Same us vs b = bit_in us b ≡ bit_in vs b

-- the values are the same in these bits
abbrev pub Agree : List Bit → List ℕ → List ℕ → Type 0
Agree bits us vs = All (Same us vs) bits

-- what comes before by one more bit
pub before_push : (bits : List Bit) (b : Bit) (us vs : List ℕ) → Before (bits ++ b ∷ []) us vs → Before bits us vs ⊎ (Agree bits us vs × (bit_in us b ≡ 0) × (bit_in vs b ≡ 1))
before_push [] b us vs h = elim h [ inl d ↦ inr (All-nil (Same us vs), d.0, d.1) | inr r ↦ absurd r.1 ]
before_push (c ∷ bits) b us vs h = elim h [
  | inl d ↦ inl (inl d)
  | inr r ↦ elim (before_push bits b us vs r.1) [ inl d ↦ inl (inr (r.0, d)) | inr d ↦ inr (All-cons (Same us vs) c bits r.0 d.0, d.1, d.2) ]
]

pub before_same : (bits : List Bit) (us vs ws : List ℕ) → Agree bits vs ws → Before bits us ws → Before bits us vs
before_same [] us vs ws a h = h
before_same (b ∷ bits) us vs ws a h =
    let here = All-head (Same vs ws) b bits a in
    elim h [ inl d ↦ inl (d.0, here ∙ d.1) | inr r ↦ inr (r.0 ∙ sym here, before_same bits us vs ws (All-tail (Same vs ws) b bits a) r.1) ]

as_same : (nodes : List Node) (us vs : List ℕ) (b : Bit) → Same us vs b → as_in nodes us b ≡ as_in nodes vs b
as_same nodes us vs b e = ap (unit_of (var_of nodes b)) e

pub units_same : (nodes : List Node) (us vs : List ℕ) (bits : List Bit) → Agree bits us vs → map (as_in nodes us) bits ≡ map (as_in nodes vs) bits
units_same nodes us vs [] a = refl
units_same nodes us vs (b ∷ bits) a =
    ap₂ ◌∷◌ (as_same nodes us vs b (All-head (Same us vs) b bits a)) (units_same nodes us vs bits (All-tail (Same us vs) b bits a))

pub below_same : (nodes : List Node) (us vs : List ℕ) (bits : List Bit) (i j : ℕ) → j < i → Agree (take i bits) us vs → units_below nodes us bits j ≡ units_below nodes vs bits j
below_same nodes us vs [] i j lt a = refl
below_same nodes us vs (b ∷ bits) i zero lt a = refl
below_same nodes us vs (b ∷ bits) zero (suc j) lt a = absurd (omega arith)
below_same nodes us vs (b ∷ bits) (suc i) (suc j) lt a =
    ap₂ ◌∷◌ (as_same nodes us vs b (All-head (Same us vs) b (take i bits) a)) (below_same nodes us vs bits i j (omega arith) (All-tail (Same us vs) b (take i bits) a))

pub below_are : (nodes : List Node) (us : List ℕ) (bits : List Bit) (i : ℕ) (d : Bit) → i < length bits → units_below nodes us bits i ≡ map (as_in nodes us) (take i bits) ++ is_zero nodes (get_or bits i d) ∷ []
below_are nodes us [] i d lt = absurd (omega arith)
below_are nodes us (b ∷ bits) zero d lt = refl
below_are nodes us (b ∷ bits) (suc i) d lt = ap (λ r. as_in nodes us b ∷ r) (below_are nodes us bits i d (omega arith))

ones_cons : (one : Bool) (k : ℕ) (rest : List ℕ) → (if one then k ∷ rest else rest) ≡ (if one then k ∷ [] else []) ++ rest
ones_cons true k rest = refl
ones_cons false k rest = refl

pub ones_same : (k : ℕ) (us vs : List ℕ) (bits : List Bit) → Agree bits us vs → ones_from k us bits ≡ ones_from k vs bits
ones_same k us vs [] a = refl
ones_same k us vs (b ∷ bits) a =
    let here = All-head (Same us vs) b bits a in
    ap (λ u. if u == 1 then k ∷ ones_from (suc k) us bits else ones_from (suc k) us bits) here ∙ ap (λ r. if bit_in vs b == 1 then k ∷ r else r) (ones_same (suc k) us vs bits (All-tail (Same us vs) b bits a))

pub ones_push : (k : ℕ) (us : List ℕ) (bits : List Bit) (b : Bit) → ones_from k us (bits ++ b ∷ []) ≡ ones_from k us bits ++ (if bit_in us b == 1 then (k + length bits) ∷ [] else [])
ones_push k us [] b = let none : k ≡ k + 0 = omega arith in ap (λ j. if bit_in us b == 1 then j ∷ [] else []) none
ones_push k us (c ∷ bits) b =
    let next : suc k + length bits ≡ k + suc (length bits) = omega arith in
    let last = if bit_in us b == 1 then (k + suc (length bits)) ∷ [] else [] in
    let more = ones_push (suc k) us bits b ∙ ap (λ j. ones_from (suc k) us bits ++ (if bit_in us b == 1 then j ∷ [] else [])) next in
    ap (λ r. if bit_in us c == 1 then k ∷ r else r) more
    ∙ ones_cons (bit_in us c == 1) k (ones_from (suc k) us bits ++ last)
    ∙ sym (append_assoc (if bit_in us c == 1 then k ∷ [] else []) (ones_from (suc k) us bits) last)
    ∙ sym (ap (λ r. r ++ last) (ones_cons (bit_in us c == 1) k (ones_from (suc k) us bits)))
