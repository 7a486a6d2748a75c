-- What the formulas of a set mean: their own value by the rules of expressions, each name being read in the row of its offset.
use Rattle.std.specs.Prelude.{ℕ, suc, ◌+◌, max, List, [], ◌∷◌, ◌++◌, take}
use Rattle.vlog_tree.specs.declared.expr.Expr.{Expr, Row_of-Expr, end_of-Expr, more_of-Expr}
use Rattle.vlog_tree.specs.declared.expr.Expr.TheVariants as e
use Rattle.vlog_tree.specs.declared.valuation.Entry.{Entry}
use Rattle.vlog_tree.specs.Value.{own_value}
use Rattle.set_tree.specs.declared.set.Name.{Name}
use Rattle.set_tree.specs.declared.set.Set.{Set}
use Rattle.set_tree.specs.Meaning.{Row, Meaning}

-- the largest offset of the names in a formula
abbrev mutual
  pub largest_offset : Expr → ℕ
  largest_offset (e.Number n) = 0
  largest_offset (e.Name x) = x.offset
  largest_offset (e.Select' x h (more_of-Expr a end_of-Expr)) = max x.offset (largest_offset a)
  largest_offset (e.Part' x span h (more_of-Expr a end_of-Expr) g (more_of-Expr b end_of-Expr)) = max x.offset (max (largest_offset a) (largest_offset b))
  largest_offset (e.ConstantSelect' k h (more_of-Expr a end_of-Expr)) = largest_offset a
  largest_offset (e.ConstantPart' k span h (more_of-Expr a end_of-Expr) g (more_of-Expr b end_of-Expr)) = max (largest_offset a) (largest_offset b)
  largest_offset (e.Cast' cast h (more_of-Expr a end_of-Expr)) = largest_offset a
  largest_offset (e.Paren' h (more_of-Expr a end_of-Expr)) = largest_offset a
  largest_offset (e.Concat' h row) = largest_of_row row
  largest_offset (e.Repeat' h (more_of-Expr a end_of-Expr) g row) = max (largest_offset a) (largest_of_row row)
  largest_offset (e.Unary' op h (more_of-Expr a end_of-Expr)) = largest_offset a
  largest_offset (e.Binary' op h (more_of-Expr a end_of-Expr) g (more_of-Expr b end_of-Expr)) = max (largest_offset a) (largest_offset b)
  largest_offset (e.Choice' h (more_of-Expr c end_of-Expr) g (more_of-Expr a end_of-Expr) i (more_of-Expr b end_of-Expr)) =
      max (largest_offset c) (max (largest_offset a) (largest_offset b))

  pub largest_of_row : {m : _} → Row_of-Expr m → ℕ
  largest_of_row end_of-Expr = 0
  largest_of_row (more_of-Expr a rest) = max (largest_offset a) (largest_of_row rest)

-- what a declared name stands for at an offset
abbrev pub entry_of : Name → ℕ → ℕ → Entry
entry_of n offset v = record { name = n.name; offset = offset; width = n.width; low = n.low; signed = n.signed; depth = 0; value = v }

-- the entries of the declared names in the row of an offset
abbrev pub row_entries : List Name → ℕ → Row → List Entry
row_entries [] offset row = []
row_entries (n ∷ ns) offset [] = []
row_entries (n ∷ ns) offset (v ∷ row) = entry_of n offset v ∷ row_entries ns offset row

-- the entries of the declared names in rows, the first of which has this offset
abbrev pub entries_from : List Name → ℕ → List Row → List Entry
entries_from names offset [] = []
entries_from names offset (row ∷ rows) = row_entries names offset row ++ entries_from names (suc offset) rows

-- a formula's value is its own value, the names being read in the rows up to its largest offset
abbrev pub meaning_of : Set → Meaning
meaning_of set = record {
  value = λ f rows. own_value (entries_from set.names 0 (take (largest_offset f + 1) rows)) f;
  largest = largest_offset;
}
