-- The tests that the search for formulas which aren't well formed makes. The crate's lemmas show that they decide the definitions.
use Rattle.std.specs.Prelude.{ℕ, ◌&&◌, List, [], ◌∷◌, Option, Some, None, Bool, true, false}
use Rattle.vlog_tree.specs.declared.expr.Binary.{Binary}
use Rattle.vlog_tree.specs.declared.expr.Binary.TheVariants as b
use Rattle.vlog_tree.specs.declared.expr.Expr.{Expr, Row_of-Expr, end_of-Expr, more_of-Expr}
use Rattle.vlog_tree.specs.declared.expr.Expr.TheVariants as e
use Rattle.vlog_tree.specs.declared.expr.Name.{Name as Read}
use Rattle.vlog_tree.specs.declared.expr.Span.{Span}
use Rattle.vlog_tree.specs.declared.expr.Span.TheVariants as w
use Rattle.vlog_tree.specs.declared.valuation.Entry.{Entry}
use Rattle.vlog_tree.specs.Value.{IsFormed, HasConstantParts}
use Rattle.set_tree.specs.declared.text.Declaration.{Declaration}
use Rattle.set_read_lookup.specs.Meaning.{width_of, low_of}
use Rattle.set_read_lookup.specs.Faults.{Has, names_in}

-- a name, and a formula, read in the present row alone
abbrev pub present_name : Read → Read
present_name x = record { text = x.text; offset = 0 }

abbrev mutual
  pub present : Expr → Expr
  present (e.Number n) = e.Number n
  present (e.Name x) = e.Name (present_name x)
  present (e.Select' x h (more_of-Expr a end_of-Expr)) = e.Select' (present_name x) h (more_of-Expr (present a) end_of-Expr)
  present (e.Part' x span h (more_of-Expr a end_of-Expr) g (more_of-Expr c end_of-Expr)) =
      e.Part' (present_name x) span h (more_of-Expr (present a) end_of-Expr) g (more_of-Expr (present c) end_of-Expr)
  present (e.ConstantSelect' k h (more_of-Expr a end_of-Expr)) = e.ConstantSelect' k h (more_of-Expr (present a) end_of-Expr)
  present (e.ConstantPart' k span h (more_of-Expr a end_of-Expr) g (more_of-Expr c end_of-Expr)) =
      e.ConstantPart' k span h (more_of-Expr (present a) end_of-Expr) g (more_of-Expr (present c) end_of-Expr)
  present (e.Cast' cast h (more_of-Expr a end_of-Expr)) = e.Cast' cast h (more_of-Expr (present a) end_of-Expr)
  present (e.Paren' h (more_of-Expr a end_of-Expr)) = e.Paren' h (more_of-Expr (present a) end_of-Expr)
  present (e.Concat' h row) = e.Concat' h (present_row row)
  present (e.Repeat' h (more_of-Expr a end_of-Expr) g row) = e.Repeat' h (more_of-Expr (present a) end_of-Expr) g (present_row row)
  present (e.Unary' op h (more_of-Expr a end_of-Expr)) = e.Unary' op h (more_of-Expr (present a) end_of-Expr)
  present (e.Binary' op h (more_of-Expr a end_of-Expr) g (more_of-Expr c end_of-Expr)) =
      e.Binary' op h (more_of-Expr (present a) end_of-Expr) g (more_of-Expr (present c) end_of-Expr)
  present (e.Choice' h (more_of-Expr c end_of-Expr) g (more_of-Expr a end_of-Expr) i (more_of-Expr d end_of-Expr)) =
      e.Choice' h (more_of-Expr (present c) end_of-Expr) g (more_of-Expr (present a) end_of-Expr) i (more_of-Expr (present d) end_of-Expr)

  pub present_row : {m : _} → Row_of-Expr m → Row_of-Expr m
  present_row end_of-Expr = end_of-Expr
  present_row (more_of-Expr a rest) = more_of-Expr (present a) (present_row rest)

-- the declared names whose lengths are good, with the value 0 in the present row
abbrev pub entry_for : Declaration → ℕ → Entry
entry_for d w = record { name = d.name; offset = 0; width = w; low = low_of d.bits; signed = d.signed; depth = 0; value = 0 }

abbrev pub put : Declaration → Option ℕ → List Entry → List Entry
put d None es = es
put d (Some w) es = entry_for d w ∷ es

abbrev pub declared_entries : List Declaration → List Entry
declared_entries [] = []
declared_entries (d ∷ ds) = put d (width_of d.bits) (declared_entries ds)

-- a formula names nothing
abbrev pub is_empty : List Read → Bool
is_empty [] = true
is_empty (x ∷ xs) = false

abbrev pub names_nothing : Expr → Bool
names_nothing f = is_empty (names_in f)

-- the parts that must be constant name nothing
abbrev pub is_part_constant : Span → Expr → Expr → Bool
is_part_constant w.Fixed a c = names_nothing a && names_nothing c
is_part_constant w.Up a c = names_nothing c
is_part_constant w.Down a c = names_nothing c

abbrev pub is_division_constant : Binary → Expr → Expr → Bool
is_division_constant b.Div a c = names_nothing a && names_nothing c
is_division_constant b.Rem a c = names_nothing a && names_nothing c
is_division_constant op a c = true

abbrev mutual
  pub has_constant_parts : Expr → Bool
  has_constant_parts (e.Number n) = true
  has_constant_parts (e.Name x) = true
  has_constant_parts (e.Select' x h (more_of-Expr a end_of-Expr)) = has_constant_parts a
  has_constant_parts (e.Part' x span h (more_of-Expr a end_of-Expr) g (more_of-Expr c end_of-Expr)) =
      has_constant_parts a && (has_constant_parts c && is_part_constant span a c)
  has_constant_parts (e.ConstantSelect' k h (more_of-Expr a end_of-Expr)) = has_constant_parts a
  has_constant_parts (e.ConstantPart' k span h (more_of-Expr a end_of-Expr) g (more_of-Expr c end_of-Expr)) =
      has_constant_parts a && (has_constant_parts c && is_part_constant span a c)
  has_constant_parts (e.Cast' cast h (more_of-Expr a end_of-Expr)) = has_constant_parts a
  has_constant_parts (e.Paren' h (more_of-Expr a end_of-Expr)) = has_constant_parts a
  has_constant_parts (e.Concat' h row) = all_have_constant_parts row
  has_constant_parts (e.Repeat' h (more_of-Expr a end_of-Expr) g row) = has_constant_parts a && (names_nothing a && all_have_constant_parts row)
  has_constant_parts (e.Unary' op h (more_of-Expr a end_of-Expr)) = has_constant_parts a
  has_constant_parts (e.Binary' op h (more_of-Expr a end_of-Expr) g (more_of-Expr c end_of-Expr)) =
      has_constant_parts a && (has_constant_parts c && is_division_constant op a c)
  has_constant_parts (e.Choice' h (more_of-Expr c end_of-Expr) g (more_of-Expr a end_of-Expr) i (more_of-Expr d end_of-Expr)) =
      has_constant_parts c && (has_constant_parts a && has_constant_parts d)

  pub all_have_constant_parts : {m : _} → Row_of-Expr m → Bool
  all_have_constant_parts end_of-Expr = true
  all_have_constant_parts (more_of-Expr a rest) = has_constant_parts a && all_have_constant_parts rest

-- a formula is well formed by what the code looks at: its constant parts, and the formula in the present row
pub record IsPresent (v : List Entry) (f : Expr) : Type 0 where
  pub constant : HasConstantParts (λ _. false) f
  pub formed : IsFormed v (present f)

-- whether P holds of each element of a list
abbrev pub Judges : {A : Type 0} → (A → Type 0) → List A → Bool → Type 0
Judges P xs true = (x : _) → Has xs x → P x
Judges P xs false = (x : _) × Has xs x × (P x → ⊥)
