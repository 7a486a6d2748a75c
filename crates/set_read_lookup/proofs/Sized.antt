-- The offsets of a formula whose names keep a bound.
use Rattle.std.proofs.Common.{ℕ, ◌≤◌, max, inl, inr, List, ◌++◌, refl, arith}
use Rattle.vlog_tree.specs.declared.expr.Expr.{Expr, Row_of-Expr, end_of-Expr, more_of-Expr}
use Rattle.vlog_tree.specs.declared.expr.Expr.TheVariants as e
use Rattle.vlog_tree.specs.declared.expr.Name.{Name}
use Rattle.set_tree.specs.Formulas.{largest_offset, largest_of_row}
use Rattle.set_read_lookup.specs.Faults.{Has, names_in, names_in_row}
use Rattle.set_read_lookup.proofs.Meant.{has_left, has_right}

abbrev Keeps : ℕ → List Name → Type 0
Keeps n xs = (x : Name) → Has xs x → x.offset ≤ n

left : (n : ℕ) (xs ys : List Name) → Keeps n (xs ++ ys) → Keeps n xs
left n xs ys h = λ x k. h x (has_left xs ys x k)

right : (n : ℕ) (xs ys : List Name) → Keeps n (xs ++ ys) → Keeps n ys
right n xs ys h = λ x k. h x (has_right xs ys x k)

most : (a b n : ℕ) → a ≤ n → b ≤ n → max a b ≤ n
most a b n p q = omega (arith, p, q)

mutual
  pub keeps_largest : (n : ℕ) (f : Expr) → Keeps n (names_in f) → largest_offset f ≤ n
  keeps_largest n (e.Number k) h = omega arith
  keeps_largest n (e.Name x) h = h x (inl refl)
  keeps_largest n (e.Select' x s (more_of-Expr a end_of-Expr)) h = most x.offset (largest_offset a) n (h x (inl refl)) (keeps_largest n a (λ y k. h y (inr k)))
  keeps_largest n (e.Part' x span s (more_of-Expr a end_of-Expr) t (more_of-Expr b end_of-Expr)) h =
      let g : Keeps n (names_in a ++ names_in b) = λ y k. h y (inr k) in
      most x.offset (max (largest_offset a) (largest_offset b)) n (h x (inl refl))
      (most (largest_offset a) (largest_offset b) n (keeps_largest n a (left n (names_in a) (names_in b) g)) (keeps_largest n b (right n (names_in a) (names_in b) g)))
  keeps_largest n (e.ConstantSelect' k s (more_of-Expr a end_of-Expr)) h = keeps_largest n a h
  keeps_largest n (e.ConstantPart' k span s (more_of-Expr a end_of-Expr) t (more_of-Expr b end_of-Expr)) h =
      most (largest_offset a) (largest_offset b) n (keeps_largest n a (left n (names_in a) (names_in b) h)) (keeps_largest n b (right n (names_in a) (names_in b) h))
  keeps_largest n (e.Cast' cast s (more_of-Expr a end_of-Expr)) h = keeps_largest n a h
  keeps_largest n (e.Paren' s (more_of-Expr a end_of-Expr)) h = keeps_largest n a h
  keeps_largest n (e.Concat' s row) h = keeps_row n row h
  keeps_largest n (e.Repeat' s (more_of-Expr a end_of-Expr) t row) h =
      most (largest_offset a) (largest_of_row row) n (keeps_largest n a (left n (names_in a) (names_in_row row) h)) (keeps_row n row (right n (names_in a) (names_in_row row) h))
  keeps_largest n (e.Unary' op s (more_of-Expr a end_of-Expr)) h = keeps_largest n a h
  keeps_largest n (e.Binary' op s (more_of-Expr a end_of-Expr) t (more_of-Expr b end_of-Expr)) h =
      most (largest_offset a) (largest_offset b) n (keeps_largest n a (left n (names_in a) (names_in b) h)) (keeps_largest n b (right n (names_in a) (names_in b) h))
  keeps_largest n (e.Choice' s (more_of-Expr c end_of-Expr) t (more_of-Expr a end_of-Expr) u (more_of-Expr b end_of-Expr)) h =
      let g = right n (names_in c) (names_in a ++ names_in b) h in
      most (largest_offset c) (max (largest_offset a) (largest_offset b)) n (keeps_largest n c (left n (names_in c) (names_in a ++ names_in b) h))
      (most (largest_offset a) (largest_offset b) n (keeps_largest n a (left n (names_in a) (names_in b) g)) (keeps_largest n b (right n (names_in a) (names_in b) g)))

  keeps_row : {m : _} (n : ℕ) (row : Row_of-Expr m) → Keeps n (names_in_row row) → largest_of_row row ≤ n
  keeps_row n end_of-Expr h = omega arith
  keeps_row n (more_of-Expr a rest) h =
      most (largest_offset a) (largest_of_row rest) n (keeps_largest n a (left n (names_in a) (names_in_row rest) h)) (keeps_row n rest (right n (names_in a) (names_in_row rest) h))
