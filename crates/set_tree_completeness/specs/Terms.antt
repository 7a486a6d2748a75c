-- Formulas and parts of properties as data, each by the way it is spelt.
use Rattle.std.specs.Prelude.{ℕ, List, Some, None, true, false}
use Rattle.vlog_tree.specs.declared.expr.Binary.{Binary}
use Rattle.vlog_tree.specs.declared.expr.Binary.TheVariants as b
use Rattle.vlog_tree.specs.declared.expr.Expr.{Expr, end_of-Expr, more_of-Expr}
use Rattle.vlog_tree.specs.declared.expr.Expr.TheVariants as e
use Rattle.vlog_tree.specs.declared.expr.Unary.TheVariants as u
use Rattle.set_tree.specs.declared.set.Cover.{Cover}
use Rattle.set_tree.specs.declared.set.Length.{Length}
use Rattle.set_tree.specs.declared.set.Name.{Name}
use Rattle.set_tree.specs.declared.set.Role.{Role}
use Rattle.set_tree.specs.declared.set.To.TheVariants.{At}

-- `name@offset`
abbrev pub name_at : List ℕ → ℕ → Expr
name_at name offset = e.Name (record { text = name; offset = offset })

-- `size'dvalue`
abbrev pub sized : ℕ → ℕ → Expr
sized size value = e.Number (record { size = Some size; signed = false; value = value; wild = 0; wildcard = false; plain = false })

-- decimal digits alone: a signed number of 32 bits
abbrev pub unsized : ℕ → Expr
unsized value = e.Number (record { size = None; signed = true; value = value; wild = 0; wildcard = false; plain = true })

abbrev pub binary : Binary → Expr → Expr → Expr
binary op x y = e.Binary' op tt (more_of-Expr x end_of-Expr) tt (more_of-Expr y end_of-Expr)

-- `!x`
abbrev pub negated : Expr → Expr
negated x = e.Unary' u.LogicalNot tt (more_of-Expr x end_of-Expr)

-- `(x)`
abbrev pub paren : Expr → Expr
paren x = e.Paren' tt (more_of-Expr x end_of-Expr)

-- `c ? x : y`
abbrev pub choice : Expr → Expr → Expr → Expr
choice c x y = e.Choice' tt (more_of-Expr c end_of-Expr) tt (more_of-Expr x end_of-Expr) tt (more_of-Expr y end_of-Expr)

abbrev pub equals : Expr → Expr → Expr
equals = binary b.Equal

abbrev pub differs : Expr → Expr → Expr
differs = binary b.NotEqual

abbrev pub plus : Expr → Expr → Expr
plus = binary b.Add

abbrev pub and_also : Expr → Expr → Expr
and_also = binary b.LogicalAnd

abbrev pub or_else : Expr → Expr → Expr
or_else = binary b.LogicalOr

-- an unsigned name without a domain, whose lowest bit is number 0
abbrev pub declared : List ℕ → Role → ℕ → Name
declared name role width = record { name = name; role = role; width = width; low = 0; signed = false; domain = None }

-- `length n;`
abbrev pub fixed : ℕ → Length
fixed n = record { low = n; high = n; until = None }

-- `cover output from low to high;`
abbrev pub cover_to : ℕ → ℕ → ℕ → Cover
cover_to output low high = record { output = output; from = low; to = At high }
