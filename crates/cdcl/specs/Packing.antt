use Rattle.std.specs.Prelude.{ℕ, ◌/◌, ◌%◌, nat_eq}
use Rattle.clause_check.specs.declared.literal.Lit.{Lit}

-- twice a variable, and one more for its negation, as a literal
abbrev pub lit_of : ℕ → Lit
lit_of code = record { var = code / 2; negative = nat_eq (code % 2) 1 }
