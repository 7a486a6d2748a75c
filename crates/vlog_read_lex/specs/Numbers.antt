-- The numbers that digits spell.
use Rattle.std.specs.Prelude.{ℕ, ◌+◌, ◌-◌, ◌*◌, ◌%◌, ◌^◌, ◌||◌, ◌&&◌, Bool, true, false, not, nat_le, nat_lt, ◌==◌, if◌then◌else◌, List, [], ◌∷◌, Option, Some, None, fold}
use Rattle.std.specs.List.{list_any, list_all}
use Rattle.vlog_tree.specs.declared.token.Number.{Number}
use Rattle.vlog_read_lex.specs.declared.class.Base.{Base}
use Rattle.vlog_read_lex.specs.declared.class.Base.TheVariants as base
use Rattle.vlog_read_lex.specs.declared.number.Size.{Size}
use Rattle.vlog_read_lex.specs.declared.number.Size.TheVariants as size
use Rattle.vlog_read_lex.specs.Bytes.{is_digit, is_hex, takes_mark}

abbrev pub radix : Base → ℕ
radix base.Two = 2
radix base.Eight = 8
radix base.Ten = 10
radix base.Sixteen = 16

abbrev pub base_of : ℕ → Option Base
base_of letter =
    if (letter == 98) || (letter == 66) then Some base.Two else (
    if (letter == 111) || (letter == 79) then Some base.Eight else (
    if (letter == 100) || (letter == 68) then Some base.Ten else (
    if (letter == 104) || (letter == 72) then Some base.Sixteen else None)))

-- `?` and `z`: any bits
abbrev pub is_wild : ℕ → Bool
is_wild b = (b == 63) || (b == 122) || (b == 90)

abbrev pub is_unknown : ℕ → Bool
is_unknown b = (b == 120) || (b == 88)

-- what a digit counts; one that stands for any bits counts 0
abbrev pub digit_value : ℕ → ℕ
digit_value b =
    if is_digit b then b - 48 else (
    if nat_le 97 b && nat_le b 102 then b - 87 else (
    if nat_le 65 b && nat_le b 70 then b - 55 else 0))

-- a digit of the base, or an underscore
unfoldable pub is_digit_of : Base → ℕ → Bool
is_digit_of base b = (b == 95) || (is_hex b && nat_lt (digit_value b) (radix base)) || (is_wild b && takes_mark base)

-- one more digit behind what the digits before it make; an underscore is none
abbrev pub put_digit : Base → ℕ → ℕ → ℕ
put_digit base made d = if d == 95 then made else made * radix base + digit_value d

-- what the digits make, from the left
unfoldable pub value : Base → List ℕ → ℕ
value base ds = fold (put_digit base) 0 ds

-- all bits of a digit that stands for any bits
abbrev pub wild_digit : Base → ℕ → ℕ
wild_digit base d = if is_wild d then radix base - 1 else 0

-- the same for the bits that stand for any bits, of which 64 are kept
abbrev pub put_wild : Base → ℕ → ℕ → ℕ
put_wild base made d = if d == 95 then made else ((made * radix base) % 2 ^ 64 + wild_digit base d) % 2 ^ 64

-- where the first digit stands for any bits, all bits on its left do
abbrev pub filled : List ℕ → ℕ
filled [] = 0
filled (d ∷ ds) = if is_wild d then 2 ^ 64 - 1 else 0

unfoldable pub wild : Base → List ℕ → ℕ
wild base ds = fold (put_wild base) (filled ds) ds

-- a value of 64 bits
unfoldable pub fit : ℕ → Option ℕ
fit v = if nat_lt v (2 ^ 64) then Some v else None

abbrev pub size_of_value : Option ℕ → Size
size_of_value (Some n) = if nat_le 1 n && nat_le n 64 then size.Bits n else size.Wrong
size_of_value None = size.Wrong

-- a size is from 1 to 64
abbrev pub size_of : List ℕ → Size
size_of ds = size_of_value (fit (value base.Ten ds))

abbrev pub begins_with_digit : List ℕ → Bool
begins_with_digit [] = false
begins_with_digit (d ∷ ds) = not (d == 95)

-- a digit of the base comes first, and all others are digits of it or underscores
abbrev pub is_spelt : Base → List ℕ → Bool
is_spelt base ds = begins_with_digit ds && list_all (is_digit_of base) ds

abbrev pub has_wild : List ℕ → Bool
has_wild ds = list_any is_wild ds

abbrev pub has_unknown : List ℕ → Bool
has_unknown ds = list_any is_unknown ds

abbrev pub is_plain : List ℕ → Bool
is_plain ds = list_all is_digit ds

abbrev pub decimal_of : List ℕ → Option ℕ → Option Number
decimal_of ds (Some v) =
    if nat_lt v (2 ^ 32) then Some (record { size = None; signed = true; value = v; wild = 0; wildcard = false; plain = is_plain ds }) else None
decimal_of ds None = None

-- a number without base has 32 bits and a sign
abbrev pub decimal_number : List ℕ → Option Number
decimal_number ds = decimal_of ds (fit (value base.Ten ds))

-- cut to its size; digits that stand for any bits go with an unsigned size alone, and a number without size has 32 bits
abbrev pub sized_number : Size → Bool → Base → List ℕ → Option ℕ → Option Number
sized_number size.Unsized signed base ds (Some v) =
    if nat_lt v (2 ^ 32) && not (has_wild ds)
    then Some (record { size = None; signed = signed; value = v; wild = 0; wildcard = false; plain = false }) else None
sized_number (size.Bits n) signed base ds (Some v) =
    if not (signed && has_wild ds)
    then Some (record { size = Some n; signed = signed; value = v % 2 ^ n; wild = wild base ds % 2 ^ n; wildcard = has_wild ds; plain = false }) else None
sized_number _ signed base ds _ = None

abbrev pub based_number : Size → Bool → Base → List ℕ → Option Number
based_number size signed base ds = if is_spelt base ds then sized_number size signed base ds (fit (value base ds)) else None
