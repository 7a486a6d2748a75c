use Rattle.std.proofs.Common.{◌≡◌, ◌<◌, ◌≤◌, ◌+◌, ◌-◌, ◌*◌, ◌^◌, ℕ, List, [], ◌∷◌, ◌++◌, length, ap, sym, refl, ◌∙◌, inl, inr, arith}
use Rattle.std.specs.List.{All, flat_map}
use Rattle.std.proofs.lemmas.Bool.{cases_lt}
use Rattle.std.proofs.lemmas.Bool.Decides.{nat_tests}
use Rattle.std.proofs.lemmas.List.{append_assoc, append-nil, get_or_at, length-append}
use Rattle.std.proofs.lemmas.List.Elements.{All-push, All-same}
use Rattle.proof_store_records.specs.Varint.{varint}
use Rattle.proof_store_records.specs.Layout.{distance, distances, distances_after}

abbrev pub Below : ℕ → Type 0
Below h = h < 2 ^ 32

pub down : (before h : ℕ) → h < before → distance before h ≡ 2 * (before - h) + 1
down before h lower = grind (arith, nat_tests)

pub up : (before h : ℕ) → before ≤ h → distance before h ≡ 2 * (h - before)
up before h higher = grind (arith, nat_tests)

pub distance_same : (before h k : ℕ) → distance before h ≡ distance before k → h ≡ k
distance_same before h k e = elim (cases_lt h before) [
  | inl low ↦ let d = down before h low in elim (cases_lt k before) [
    | inl low_k ↦ let f = down before k low_k in omega arith
    | inr high_k ↦ let f = up before k high_k in absurd (omega arith)
  ]
  | inr high ↦ let d = up before h high in elim (cases_lt k before) [
    | inl low_k ↦ let f = down before k low_k in absurd (omega arith)
    | inr high_k ↦ let f = up before k high_k in omega arith
  ]
]

after_same : (before : ℕ) (hs ks : List ℕ) → distances_after before hs ≡ distances_after before ks → hs ≡ ks
after_same before [] [] e = refl
after_same before [] (k ∷ ks) e = cc
after_same before (h ∷ hs) [] e = cc
after_same before (h ∷ hs) (k ∷ ks) e =
    let head : distance before h ≡ distance before k = cc in
    let same = distance_same before h k head in
    let tail : distances_after h hs ≡ distances_after k ks = cc in
    ap (λ n. n ∷ hs) same ∙ ap (λ ns. k ∷ ns) (after_same k hs ks (ap (λ n. distances_after n hs) (sym same) ∙ tail))

pub distances_same : (hs ks : List ℕ) → distances hs ≡ distances ks → hs ≡ ks
distances_same [] [] e = refl
distances_same [] (k ∷ ks) e = cc
distances_same (h ∷ hs) [] e = cc
distances_same (h ∷ hs) (k ∷ ks) e =
    let head : h ≡ k = cc in
    let tail : distances_after h hs ≡ distances_after k ks = cc in
    ap (λ n. n ∷ hs) head ∙ ap (λ ns. k ∷ ns) (after_same k hs ks (ap (λ n. distances_after n hs) (sym head) ∙ tail))

-- These hints were read, the last of them is `before`, and the numbers that are left tell the others.
pub record HintsSoFar (numbers left hints : List ℕ) (before : ℕ) : Type 0 where
  pub below : All Below hints
  pub last : Below before
  pub written : (tail : List ℕ) → distances_after before tail ≡ left → distances (hints ++ tail) ≡ numbers
  pub only : (hs : List ℕ) → distances hs ≡ numbers → (tail : List ℕ) × (hs ≡ hints ++ tail) × (distances_after before tail ≡ left)

only_more : (before n h : ℕ) (rest hints hs tail : List ℕ) → distance before h ≡ n → hs ≡ hints ++ tail → distances_after before tail ≡ n ∷ rest → (more : List ℕ) × (hs ≡ (hints ++ h ∷ []) ++ more) × (distances_after h more ≡ rest)
only_more before n h rest hints hs [] is e told = cc
only_more before n h rest hints hs (k ∷ ks) is e told =
    let head : distance before k ≡ n = cc in
    let tail : distances_after k ks ≡ rest = cc in
    let same = distance_same before k h (head ∙ sym is) in
    (ks, e ∙ (ap (λ m. hints ++ (m ∷ ks)) same ∙ sym (append_assoc hints (h ∷ []) ks)), ap (λ m. distances_after m ks) (sym same) ∙ tail)

pub hints_more : (numbers left rest hints : List ℕ) (before n h : ℕ) → HintsSoFar numbers left hints before → left ≡ n ∷ rest → h < 2 ^ 32 → distance before h ≡ n → HintsSoFar numbers rest (hints ++ h ∷ []) h
hints_more numbers left rest hints before n h so_far e below is = record {
  below = All-push Below hints h so_far.below below;
  last = below;
  written = λ tail told. ap distances (append_assoc hints (h ∷ []) tail) ∙ so_far.written (h ∷ tail) (ap (λ m. m ∷ distances_after h tail) is ∙ (ap (λ ds. n ∷ ds) told ∙ sym e));
  only = λ hs told.
      let o = so_far.only hs told in
      only_more before n h rest hints hs o.0 is o.1 (o.2 ∙ e);
}

no_hint : (before n : ℕ) (rest hints hs tail : List ℕ) → ((h : ℕ) → h < 2 ^ 32 → distance before h ≡ n → ⊥) → All Below hs → hs ≡ hints ++ tail → distances_after before tail ≡ n ∷ rest → ⊥
no_hint before n rest hints hs [] none below e told = cc
no_hint before n rest hints hs (k ∷ ks) none below e told =
    let head : distance before k ≡ n = cc in
    let h = All-same Below (hints ++ k ∷ ks) hs (sym e) below (length hints) k (omega (arith, length-append hints (k ∷ ks))) in
    none k (rw (get_or_at hints k ks k (length hints) refl) at h) head

pub hints_stuck : (numbers left rest hints : List ℕ) (before n : ℕ) → HintsSoFar numbers left hints before → left ≡ n ∷ rest → ((h : ℕ) → h < 2 ^ 32 → distance before h ≡ n → ⊥) → (hs : List ℕ) → All Below hs → distances hs ≡ numbers → ⊥
hints_stuck numbers left rest hints before n so_far e none hs below told =
    let o = so_far.only hs told in
    no_hint before n rest hints hs o.0 none below o.1 (o.2 ∙ e)

pub hints_all : (numbers left hints : List ℕ) (before : ℕ) → HintsSoFar numbers left hints before → left ≡ [] → distances hints ≡ numbers
hints_all numbers left hints before so_far e = ap distances (sym (append-nil hints)) ∙ so_far.written [] (sym e)

-- the distance of one more hint is written
pub written_more : (out now all : List ℕ) (before h : ℕ) (left rest : List ℕ) → left ≡ h ∷ rest → now ≡ out ++ varint (distance before h) → out ++ flat_map varint (distances_after before left) ≡ all → now ++ flat_map varint (distances_after h rest) ≡ all
written_more out now all before h left rest e is so_far =
    ap (λ n. n ++ flat_map varint (distances_after h rest)) is
    ∙ (append_assoc out (varint (distance before h)) (flat_map varint (distances_after h rest)) ∙ (ap (λ l. out ++ flat_map varint (distances_after before l)) (sym e) ∙ so_far))
