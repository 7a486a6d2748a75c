-- Classes of bytes.
use Rattle.std.specs.Prelude.{ℕ, ◌||◌, ◌&&◌, Bool, true, false, not, nat_le, ◌==◌}
use Rattle.vlog_read_lex.specs.declared.class.Base.{Base}
use Rattle.vlog_read_lex.specs.declared.class.Base.TheVariants as base
use Rattle.vlog_read_lex.specs.declared.class.Class.{Class}
use Rattle.vlog_read_lex.specs.declared.class.Class.TheVariants as class

-- space, tab, line feed, carriage return, form feed
abbrev pub is_space : ℕ → Bool
is_space b = (b == 32) || (b == 9) || (b == 10) || (b == 13) || (b == 12)

abbrev pub is_digit : ℕ → Bool
is_digit b = nat_le 48 b && nat_le b 57

-- what begins a word
abbrev pub is_letter : ℕ → Bool
is_letter b = (nat_le 65 b && nat_le b 90) || (nat_le 97 b && nat_le b 122) || (b == 95)

-- what continues a word
abbrev pub is_word : ℕ → Bool
is_word b = is_letter b || is_digit b || (b == 36)

abbrev pub is_hex : ℕ → Bool
is_hex b = is_digit b || (nat_le 97 b && nat_le b 102) || (nat_le 65 b && nat_le b 70)

-- the digit `?` goes with each base but ten
abbrev pub takes_mark : Base → Bool
takes_mark base.Ten = false
takes_mark _ = true

abbrev pub has : Class → ℕ → Bool
has class.Space b = is_space b
has class.Word b = is_word b
has class.Decimal b = is_digit b || (b == 95)
has (class.Digits base) b = is_hex b || (b == 120) || (b == 88) || (b == 122) || (b == 90) || (b == 95) || ((b == 63) && takes_mark base)
has class.Line b = not (b == 10)
