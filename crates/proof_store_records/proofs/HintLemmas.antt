use Rattle.std.proofs.Common.{◌≡◌, ◌<◌, ◌^◌, ℕ, List, [], ◌∷◌, length, ap, refl, inl, inr, arith}
use Rattle.std.specs.List.{All}
use Rattle.std.proofs.lemmas.Bool.{cases_lt}
use Rattle.std.proofs.lemmas.List.Elements.{All-nil, All-cons, All-head, All-tail, All-weaker}
use Rattle.proof_store_records.specs.declared.version.Version.{Version}
use Rattle.proof_store_records.specs.declared.version.Version.TheVariants.{First, Second}
use Rattle.proof_store_records.specs.Front.{Lacks, Starts}
use Rattle.proof_store_records.specs.Layout.{distance, distances, distances_after, hint_numbers, list_bytes, hints_bytes, FitsNumbers, FitsHints}
use Rattle.proof_store_records.proofs.FrontLemmas.{by_none, by_odd, by_one}
use Rattle.proof_store_records.proofs.DistanceLemmas.{Below, down, up, distances_same}

abbrev Word : ℕ → Type 0
Word n = n < 2 ^ 64

distance_word : (before h : ℕ) → Below before → Below h → Word (distance before h)
distance_word before h low below = elim (cases_lt h before) [
  | inl lower ↦ let d = down before h lower in omega arith
  | inr higher ↦ let d = up before h higher in omega arith
]

after_words : (before : ℕ) (hs : List ℕ) → Below before → All Below hs → All Word (distances_after before hs)
after_words before [] low below = All-nil Word
after_words before (h ∷ hs) low below =
    let head = All-head Below h hs below in
    All-cons Word (distance before h) (distances_after h hs) (distance_word before h low head) (after_words h hs head (All-tail Below h hs below))

words : (hs : List ℕ) → All Below hs → All Word (distances hs)
words [] below = All-nil Word
words (h ∷ hs) below =
    let head = All-head Below h hs below in
    All-cons Word h (distances_after h hs) (omega arith) (after_words h hs head (All-tail Below h hs below))

length_after : (before : ℕ) (hs : List ℕ) → length (distances_after before hs) ≡ length hs
length_after before [] = refl
length_after before (h ∷ hs) = let e = length_after h hs in omega arith

pub length_distances : (hs : List ℕ) → length (distances hs) ≡ length hs
length_distances [] = refl
length_distances (h ∷ hs) = let e = length_after h hs in omega arith

length_numbers : (version : Version) (hints : List ℕ) → length (hint_numbers version hints) ≡ length hints
length_numbers First hints = refl
length_numbers Second hints = length_distances hints

numbers_same : (version : Version) (hs ks : List ℕ) → hint_numbers version hs ≡ hint_numbers version ks → hs ≡ ks
numbers_same First hs ks e = e
numbers_same Second hs ks e = distances_same hs ks e

numbers_fit : (version : Version) (hints : List ℕ) → FitsHints version hints → FitsNumbers version (hint_numbers version hints)
numbers_fit First hints fits = record { count = fits.count; each = All-weaker Below Word (λ h low. omega arith) hints fits.each }
numbers_fit Second hints fits = record { count = let few = fits.count in omega (arith, length_distances hints); each = words hints fits.each }

pub hints_none : (version : Version) (bytes : List ℕ) → Lacks (FitsNumbers version) (list_bytes version) bytes → Lacks (FitsHints version) (hints_bytes version) bytes
hints_none version bytes none = by_none (FitsNumbers version) (list_bytes version) (hint_numbers version) (FitsHints version) (numbers_fit version) bytes none

pub hints_odd : (version : Version) (bytes numbers rest : List ℕ) → Starts (FitsNumbers version) (list_bytes version) bytes numbers rest
    → ((hs : List ℕ) → All (λ h. h < 2 ^ 32) hs → hint_numbers version hs ≡ numbers → ⊥) → Lacks (FitsHints version) (hints_bytes version) bytes
hints_odd version bytes numbers rest starts odd =
    by_odd (FitsNumbers version) (list_bytes version) (hint_numbers version) (FitsHints version) (numbers_fit version) bytes numbers rest starts (λ hs fits told. odd hs fits.each told)

pub hints_told : (version : Version) (bytes numbers rest hints : List ℕ) → Starts (FitsNumbers version) (list_bytes version) bytes numbers rest
    → All (λ h. h < 2 ^ 32) hints → hint_numbers version hints ≡ numbers → Starts (FitsHints version) (hints_bytes version) bytes hints rest
hints_told version bytes numbers rest hints starts below told =
    by_one (FitsNumbers version) (list_bytes version) (hint_numbers version) (FitsHints version) (numbers_fit version) bytes numbers hints rest starts told
    (record { count = let few = starts.fits.count in omega (arith, ap length told, length_numbers version hints); each = below })
    (λ others fits same. numbers_same version others hints same)
