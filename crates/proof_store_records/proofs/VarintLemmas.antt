use Rattle.std.proofs.Common.{◌≡◌, ◌≢◌, ◌<◌, ◌≤◌, ◌+◌, ◌-◌, ◌*◌, ◌/◌, ◌%◌, ◌^◌, ℕ, zero, suc, List, [], ◌∷◌, ◌++◌, length, ap, sym, refl, ◌∙◌, inl, inr, arith}
use Rattle.std.proofs.Math.Nat.{div-lt_iff_lt-mul, pow-suc}
use Rattle.std.proofs.Math.Numerals.{add-one}
use Rattle.std.proofs.lemmas.Bool.{cases_lt, cases_eq}
use Rattle.std.proofs.lemmas.Bool.Decides.{nat_tests}
use Rattle.proof_store_records.specs.Front.{Lacks, Starts}
use Rattle.proof_store_records.specs.Varint.{low_first, varint, HasDigits}

pub low_first-short : (more n : ℕ) → n < 128 → low_first more n ≡ n ∷ []
unfolding low_first
low_first-short zero n below = refl
low_first-short (suc more) n below = grind (arith, nat_tests)

pub low_first-suc : (more n : ℕ) → 128 ≤ n → low_first (suc more) n ≡ (128 + n % 128) ∷ low_first more (n / 128)
unfolding low_first
low_first-suc more n up = grind (arith, nat_tests)

pub low_first-long : (more n : ℕ) → more ≢ 0 → 128 ≤ n → low_first more n ≡ (128 + n % 128) ∷ low_first (more - 1) (n / 128)
low_first-long zero n some up = absurd (some refl)
low_first-long (suc more) n some up =
    let e : suc more - 1 ≡ more = omega arith in
    rw e (low_first-suc more n up)

digits_down : (more n : ℕ) → n < 128 ^ (suc more + 1) → n / 128 < 128 ^ (more + 1)
digits_down more n few =
    let e : 128 ^ (suc more + 1) ≡ 128 ^ (more + 1) * 128 = rw (add-one, pow-suc 128 (suc more)) (ap (λ k. 128 ^ k * 128) (sym (add-one more))) in
    (div-lt_iff_lt-mul {k = 128} {x = n} {y = 128 ^ (more + 1)} (omega arith)).1 (rw (← e) few)

low_first-more : (more n : ℕ) → n < 128 ^ (more + 1) → low_first (suc more) n ≡ low_first more n
low_first-more zero n few = low_first-short 1 n few ∙ sym (low_first-short 0 n few)
low_first-more (suc more) n few = elim (cases_lt n 128) [
  | inl short ↦ low_first-short (suc (suc more)) n short ∙ sym (low_first-short (suc more) n short)
  | inr long ↦ low_first-suc (suc more) n long
      ∙ (ap (λ ds. (128 + n % 128) ∷ ds) (low_first-more more (n / 128) (digits_down more n few)) ∙ sym (low_first-suc more n long))
]

pub varint-short : (n : ℕ) → n < 128 → varint n ≡ n ∷ []
unfolding varint
varint-short n below = low_first-short 9 n below

pub varint-long : (n : ℕ) → 128 ≤ n → n < 2 ^ 64 → varint n ≡ (128 + n % 128) ∷ varint (n / 128)
unfolding varint
varint-long n up word =
    low_first-suc 8 n up ∙ ap (λ ds. (128 + n % 128) ∷ ds) (sym (low_first-more 8 (n / 128) (omega arith)))

below_power : (more d : ℕ) → d < 128 → d < 128 ^ (more + 1)
below_power zero d below = below
below_power (suc more) d below =
    let h = below_power more d below in
    rw (add-one, pow-suc 128 (suc more)) (let g = rw add-one at h in omega arith)

short_front : (more d x : ℕ) (bytes rest r : List ℕ) → bytes ≡ d ∷ rest → bytes ≡ low_first more x ++ r → x < 128 → d ∷ rest ≡ x ∷ r
short_front more d x bytes rest r e is short = sym e ∙ (is ∙ ap (λ ds. ds ++ r) (low_first-short more x short))

long_front : (more d x : ℕ) (bytes rest r : List ℕ) → bytes ≡ d ∷ rest → bytes ≡ low_first more x ++ r → more ≢ 0 → 128 ≤ x → d ∷ rest ≡ (128 + x % 128) ∷ (low_first (more - 1) (x / 128) ++ r)
long_front more d x bytes rest r e is some long = sym e ∙ (is ∙ ap (λ ds. ds ++ r) (low_first-long more x some long))

head_of : (x y : ℕ) (xs ys : List ℕ) → x ∷ xs ≡ y ∷ ys → x ≡ y
head_of x y xs ys e = cc

tail_of : (x y : ℕ) (xs ys : List ℕ) → x ∷ xs ≡ y ∷ ys → xs ≡ ys
tail_of x y xs ys e = cc

-- a last digit has no top bit
no_last : (more x : ℕ) → HasDigits more x → more ≡ 0 → x < 128
no_last more x fits none = let few = fits.few in let e : 128 ^ (more + 1) ≡ 128 = ap (λ m. 128 ^ (m + 1)) none in omega (arith, few, e)

-- what follows a byte with the top bit
record Longer (more d : ℕ) (rest : List ℕ) (x : ℕ) (r : List ℕ) : Type 0 where
  long : 128 ≤ x
  fits : HasDigits (more - 1) (x / 128)
  digit : d ≡ 128 + x % 128
  is : rest ≡ low_first (more - 1) (x / 128) ++ r

fits_down : (more x : ℕ) → more ≢ 0 → HasDigits more x → HasDigits (more - 1) (x / 128)
fits_down zero x some fits = absurd (some refl)
fits_down (suc more) x some fits =
    let e : suc more - 1 ≡ more = omega arith in
    let w = fits.word in
    record { word = omega arith; few = rw e (digits_down more x fits.few) }

longer : (more d : ℕ) (bytes rest : List ℕ) → bytes ≡ d ∷ rest → 128 ≤ d → more ≢ 0 → (x : ℕ) (r : List ℕ) → HasDigits more x → bytes ≡ low_first more x ++ r → Longer more d rest x r
longer more d bytes rest e up some x r fits is = elim (cases_lt x 128) [
  | inl short ↦ let h = head_of d x rest r (short_front more d x bytes rest r e is short) in absurd (omega arith)
  | inr long ↦
      let front = long_front more d x bytes rest r e is some long in
      record {
        long = long;
        fits = fits_down more x some fits;
        digit = head_of d (128 + x % 128) rest (low_first (more - 1) (x / 128) ++ r) front;
        is = tail_of d (128 + x % 128) rest (low_first (more - 1) (x / 128) ++ r) front;
      }
]

-- a number of one digit in front
pub starts_short : (more d : ℕ) (bytes rest : List ℕ) → bytes ≡ d ∷ rest → d < 128 → Starts (HasDigits more) (low_first more) bytes d rest
starts_short more d bytes rest e below = record {
  fits = record { word = omega arith; few = below_power more d below };
  is = e ∙ ap (λ ds. ds ++ rest) (sym (low_first-short more d below));
  only = λ x r fits is. elim (cases_lt x 128) [
    | inl short ↦
        let front = short_front more d x bytes rest r e is short in
        (sym (head_of d x rest r front), sym (tail_of d x rest r front))
    | inr long ↦ elim (cases_eq more 0) [
      | inl none ↦ let few = no_last more x fits none in absurd (omega arith)
      | inr some ↦
          let front = head_of d (128 + x % 128) rest (low_first (more - 1) (x / 128) ++ r) (long_front more d x bytes rest r e is some long) in
          absurd (omega arith)
    ]
  ];
}

pub lacks_nil : (more : ℕ) (bytes : List ℕ) → length bytes ≡ 0 → Lacks (HasDigits more) (low_first more) bytes
lacks_nil more bytes e x rest fits is = elim (cases_lt x 128) [
  | inl short ↦
      let s = ap length is ∙ ap (λ ds. length (ds ++ rest)) (low_first-short more x short) in
      absurd (omega arith)
  | inr long ↦ elim (cases_eq more 0) [
    | inl none ↦ let few = no_last more x fits none in absurd (omega arith)
    | inr some ↦
        let s = ap length is ∙ ap (λ ds. length (ds ++ rest)) (low_first-long more x some long) in
        absurd (omega arith)
  ]
]

-- no digit may follow, and the byte says that one does
pub lacks_last : (more d : ℕ) (bytes rest : List ℕ) → bytes ≡ d ∷ rest → 128 ≤ d → more ≡ 0 → Lacks (HasDigits more) (low_first more) bytes
lacks_last more d bytes rest e up none x r fits is =
    let few = no_last more x fits none in
    let h = head_of d x rest r (short_front more d x bytes rest r e is few) in
    omega arith

pub lacks_rest : (more d : ℕ) (bytes rest : List ℕ) → bytes ≡ d ∷ rest → 128 ≤ d → more ≢ 0 → Lacks (HasDigits (more - 1)) (low_first (more - 1)) rest → Lacks (HasDigits more) (low_first more) bytes
lacks_rest more d bytes rest e up some none x r fits is =
    let l = longer more d bytes rest e up some x r fits is in
    none (x / 128) r l.fits l.is

digits_up : (more high low : ℕ) → more ≢ 0 → high < 128 ^ (more - 1 + 1) → low < 128 → 128 * high + low < 128 ^ (more + 1)
digits_up zero high low some few below = absurd (some refl)
digits_up (suc more) high low some few below =
    let e : suc more - 1 + 1 ≡ suc more = omega arith in
    let h = rw e at few in
    rw (add-one, pow-suc 128 (suc more)) (omega arith)

-- the digits that follow are those of this number
module _ (more d high : ℕ) (bytes rest after : List ℕ) (e : bytes ≡ d ∷ rest) (up : 128 ≤ d) (some : more ≢ 0)
    (follows : Starts (HasDigits (more - 1)) (low_first (more - 1)) rest high after) where
  -- it is 0, or it has no room
  pub lacks_odd : (1 ≤ high → high < 2 ^ 57 → ⊥) → Lacks (HasDigits more) (low_first more) bytes
  lacks_odd odd x r fits is =
      let l = longer more d bytes rest e up some x r fits is in
      let same = (follows.only (x / 128) r l.fits l.is).0 in
      let long = l.long in
      let word = fits.word in
      odd (omega arith) (omega arith)

  pub starts_long : 1 ≤ high → high < 2 ^ 57 → d < 256 → Starts (HasDigits more) (low_first more) bytes (128 * high + (d - 128)) after
  starts_long low room byte =
      let n : ℕ = 128 * high + (d - 128) in
      let down : n / 128 ≡ high = omega arith in
      let digit : 128 + n % 128 ≡ d = omega arith in
      let code : low_first more n ≡ d ∷ low_first (more - 1) high = low_first-long more n some (omega arith) ∙ (ap (λ k. k ∷ low_first (more - 1) (n / 128)) digit ∙ ap (λ k. d ∷ low_first (more - 1) k) down) in
      record {
        fits = record { word = omega arith; few = digits_up more high (d - 128) some follows.fits.few (omega arith) };
        is = e ∙ (ap (λ ds. d ∷ ds) follows.is ∙ ap (λ ds. ds ++ after) (sym code));
        only = λ x r fits is.
            let l = longer more d bytes rest e up some x r fits is in
            let same = follows.only (x / 128) r l.fits l.is in
            let first = l.digit in
            let high_is = same.0 in
            let is_n : x ≡ n = omega arith in
            (is_n, same.1);
      }

wide : (n : ℕ) → n < 2 ^ 64 → HasDigits 9 n
wide n word = record { word = word; few = omega arith }

pub lacks_varint : (bytes : List ℕ) → Lacks (HasDigits 9) (low_first 9) bytes → Lacks (λ n. n < 2 ^ 64) varint bytes
unfolding varint
lacks_varint bytes none x r word is = none x r (wide x word) is

pub starts_varint : (bytes rest : List ℕ) (n : ℕ) → Starts (HasDigits 9) (low_first 9) bytes n rest → Starts (λ n. n < 2 ^ 64) varint bytes n rest
unfolding varint
starts_varint bytes rest n s = record { fits = s.fits.word; is = s.is; only = λ x r word is. s.only x r (wide x word) is }
