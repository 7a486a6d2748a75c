use Rattle.std.proofs.Common.{◌≡◌, ◌<◌, ◌≤◌, ◌^◌, ℕ, List, ◌++◌, length, get_or, take, drop, ap, sym, refl, ◌∙◌, inl, inr, arith}
use Rattle.std.specs.Int.{w32, w64, to_be_bytes, from_be_bytes}
use Rattle.std.proofs.lemmas.Bool.{cases_lt}
use Rattle.std.proofs.lemmas.List.{take-append-drop, take_at, drop_at, get_or-take, get_or_past, length-take-le, length-append}
use Rattle.std.proofs.lemmas.Nat.{be_bytes_4, be_bytes_8, from_be_bytes-to_be_bytes_4, from_be_bytes-to_be_bytes_8}
use Rattle.proof_store_records.specs.declared.version.Version.TheVariants.{First}
use Rattle.proof_store_records.specs.Front.{Lacks, Starts}
use Rattle.proof_store_records.specs.Layout.{count_bytes, number_bytes}

abbrev AreBytes : List ℕ → Type 0
AreBytes bytes = (i : ℕ) → get_or bytes i 0 < 256

bytes_in_front : (width : ℕ) (bytes : List ℕ) → width ≤ length bytes → AreBytes bytes → AreBytes (take width bytes)
bytes_in_front width bytes long small i = elim (cases_lt i width) [
  | inl inside ↦ let h = small i in rw (get_or-take width bytes i 0 inside) h
  | inr past ↦ rw (get_or_past (take width bytes) i 0 (omega (arith, length-take-le width bytes long))) (omega arith)
]

-- numbers of a fixed width
module _ (width limit : ℕ) (code : ℕ → List ℕ) (value : List ℕ → ℕ)
    (wide : (n : ℕ) → length (code n) ≡ width)
    (back : (n : ℕ) → n < limit → value (code n) ≡ n)
    (forth : (bytes : List ℕ) (n : ℕ) → length bytes ≡ width → AreBytes bytes → n ≡ value bytes → code n ≡ bytes) where
  lacks_fixed : (bytes : List ℕ) → length bytes < width → Lacks (λ n. n < limit) code bytes
  lacks_fixed bytes short x r fits is =
      let e = ap length is ∙ length-append (code x) r in
      let w = wide x in
      omega arith

  starts_fixed : (bytes : List ℕ) (n : ℕ) → width ≤ length bytes → AreBytes bytes → n ≡ value (take width bytes) → n < limit → Starts (λ n. n < limit) code bytes n (drop width bytes)
  starts_fixed bytes n long small e below = record {
    fits = below;
    is = sym (take-append-drop width bytes) ∙ ap (λ ds. ds ++ drop width bytes) (sym (forth (take width bytes) n (length-take-le width bytes long) (bytes_in_front width bytes long small) e));
    only = λ x r fits is.
        let front : take width bytes ≡ code x = ap (take width) is ∙ take_at (code x) r width (wide x) in
        let rest : drop width bytes ≡ r = ap (drop width) is ∙ drop_at (code x) r width (wide x) in
        (sym (back x fits) ∙ (ap value (sym front) ∙ sym e), sym rest);
  }

pub lacks_four : (bytes : List ℕ) → length bytes < 4 → Lacks (λ n. n < 2 ^ 32) (count_bytes First) bytes
unfolding count_bytes
lacks_four bytes short = lacks_fixed 4 (2 ^ 32) (to_be_bytes w32) (from_be_bytes w32) (λ n. refl) from_be_bytes-to_be_bytes_4 be_bytes_4 bytes short

pub starts_four : (bytes : List ℕ) (n : ℕ) → 4 ≤ length bytes → AreBytes bytes → n ≡ from_be_bytes w32 (take 4 bytes) → n < 2 ^ 32 → Starts (λ n. n < 2 ^ 32) (count_bytes First) bytes n (drop 4 bytes)
unfolding count_bytes
starts_four bytes n long small e below = starts_fixed 4 (2 ^ 32) (to_be_bytes w32) (from_be_bytes w32) (λ n. refl) from_be_bytes-to_be_bytes_4 be_bytes_4 bytes n long small e below

pub lacks_eight : (bytes : List ℕ) → length bytes < 8 → Lacks (λ n. n < 2 ^ 64) (number_bytes First) bytes
unfolding number_bytes
lacks_eight bytes short = lacks_fixed 8 (2 ^ 64) (to_be_bytes w64) (from_be_bytes w64) (λ n. refl) from_be_bytes-to_be_bytes_8 be_bytes_8 bytes short

pub starts_eight : (bytes : List ℕ) (n : ℕ) → 8 ≤ length bytes → AreBytes bytes → n ≡ from_be_bytes w64 (take 8 bytes) → n < 2 ^ 64 → Starts (λ n. n < 2 ^ 64) (number_bytes First) bytes n (drop 8 bytes)
unfolding number_bytes
starts_eight bytes n long small e below = starts_fixed 8 (2 ^ 64) (to_be_bytes w64) (from_be_bytes w64) (λ n. refl) from_be_bytes-to_be_bytes_8 be_bytes_8 bytes n long small e below
