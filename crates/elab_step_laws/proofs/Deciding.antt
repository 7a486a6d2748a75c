-- What a path sets can be told.
use Rattle.std.proofs.Common.{arith, ◌≡◌, ℕ, zero, suc, ◌<◌, Bool, true, false, List, [], ◌∷◌, sym, refl, ◌⊎◌, inl, inr, ⊎_elim, subst, ℤ, pos, ◌-ℤ◌}
use Rattle.std.specs.Ordering.{int_eq}
use Rattle.std.specs.Str.{bytes_eq}
use Rattle.std.proofs.lemmas.Bool.Decides.{Decides-int_eq}
use Rattle.std.proofs.lemmas.Slice.Eq.{bytes_eq-Decides}
use Rattle.vlog_tree.specs.declared.expr.Expr.{Expr, Row_of-Expr, end_of-Expr, more_of-Expr}
use Rattle.vlog_tree.specs.declared.expr.Expr.TheVariants as e
use Rattle.vlog_tree.specs.declared.stmt.Lval.{Lval, Row_of-Lval, end_of-Lval, more_of-Lval}
use Rattle.vlog_tree.specs.declared.stmt.Lval.TheVariants as l
use Rattle.vlog_tree.specs.Value.{NamesOnly, AllNamesOnly, part_low, part_width}
use Rattle.vlog_tree_runs.specs.Places.{Name, Place}
use Rattle.vlog_tree_runs.specs.Blocks.{is_parameter, low_in}
use Rattle.elab_flat_faults.specs.Paths.{constant, Sets, AnySets, Step, Reads, Enters, Leaves, Assigns, IsSetBy, IsAllSet, width_in}
use Rattle.elab_step_laws.proofs.Giving.{within_or}

abbrev pub Either : Type 0 → Type 0
Either A = A ⊎ (A → ⊥)

both_or : {A B : Type 0} → Either A → Either B → Either (A × B)
both_or h g = ⊎_elim (λ a. ⊎_elim (λ b. inl (a, b)) (λ n. inr (λ p. n p.1)) g) (λ n. inr (λ p. n p.0)) h

three_or : {A B C : Type 0} → Either A → Either B → Either C → Either (A × B × C)
three_or h g f =
    ⊎_elim (λ a. ⊎_elim (λ b. ⊎_elim (λ c. inl (a, b, c)) (λ n. inr (λ p. n p.2)) f) (λ n. inr (λ p. n p.1)) g) (λ n. inr (λ p. n p.0)) h

four_or : {A B C D : Type 0} → Either A → Either B → Either C → Either D → Either (A × B × C × D)
four_or h g f k =
    ⊎_elim
    (λ a. ⊎_elim (λ b. ⊎_elim (λ c. ⊎_elim (λ d. inl (a, b, c, d)) (λ n. inr (λ p. n p.3)) k) (λ n. inr (λ p. n p.2)) f) (λ n. inr (λ p. n p.1)) g)
    (λ n. inr (λ p. n p.0))
    h

one_or : {A B : Type 0} → Either A → Either B → Either (A ⊎ B)
one_or h g = ⊎_elim (λ a. inl (inl a)) (λ n. ⊎_elim (λ b. inl (inr b)) (λ m. inr (λ p. ⊎_elim n m p)) g) h

true_or : (t : Bool) → Either (t ≡ true)
true_or true = inl refl
true_or false = inr (λ e. cc)

pub name_or : (x y : Name) → Either (x ≡ y)
name_or x y = ⊎_elim (λ t. inl ((bytes_eq-Decides x y).0 t)) (λ n. inr (λ e. n ((bytes_eq-Decides x y).1 e))) (true_or (bytes_eq x y))

integer_or : (x y : ℤ) → Either (x ≡ y)
integer_or x y = ⊎_elim (λ t. inl ((Decides-int_eq x y).0 t)) (λ n. inr (λ e. n ((Decides-int_eq x y).1 e))) (true_or (int_eq x y))

-- ---- constants

module _ (test : Name → Bool) where
  mutual
    names_or : (a : Expr) → Either (NamesOnly test a)
    names_or (e.Number n) = inl tt
    names_or (e.Name x) = true_or (test x.text)
    names_or (e.Select' x h (more_of-Expr a end_of-Expr)) = both_or (true_or (test x.text)) (names_or a)
    names_or (e.Part' x span h (more_of-Expr a end_of-Expr) g (more_of-Expr b end_of-Expr)) =
        three_or (true_or (test x.text)) (names_or a) (names_or b)
    names_or (e.ConstantSelect' k h (more_of-Expr a end_of-Expr)) = names_or a
    names_or (e.ConstantPart' k span h (more_of-Expr a end_of-Expr) g (more_of-Expr b end_of-Expr)) = both_or (names_or a) (names_or b)
    names_or (e.Cast' cast h (more_of-Expr a end_of-Expr)) = names_or a
    names_or (e.Paren' h (more_of-Expr a end_of-Expr)) = names_or a
    names_or (e.Concat' h row) = row_names_or row
    names_or (e.Repeat' h (more_of-Expr a end_of-Expr) g row) = both_or (names_or a) (row_names_or row)
    names_or (e.Unary' op h (more_of-Expr a end_of-Expr)) = names_or a
    names_or (e.Binary' op h (more_of-Expr a end_of-Expr) g (more_of-Expr b end_of-Expr)) = both_or (names_or a) (names_or b)
    names_or (e.Choice' h (more_of-Expr c end_of-Expr) g (more_of-Expr a end_of-Expr) i (more_of-Expr b end_of-Expr)) = three_or (names_or c) (names_or a) (names_or b)

    row_names_or : {n : _} (row : Row_of-Expr n) → Either (AllNamesOnly test row)
    row_names_or end_of-Expr = inl tt
    row_names_or (more_of-Expr a rest) = both_or (names_or a) (row_names_or rest)

-- ---- bits that are set

mutual
  sets_or : (p : Place) (left : Lval) (x : Name) (b : ℕ) → Either (Sets p left x b)
  sets_or p (l.Name y) x b = name_or y x
  sets_or p (l.Select y a) x b = three_or (name_or y x) (names_or (is_parameter p) a) (integer_or (constant p a -ℤ pos (low_in p y)) (pos b))
  sets_or p (l.Part y span a c) x b =
      four_or (name_or y x) (names_or (is_parameter p) a) (names_or (is_parameter p) c)
      (within_or (part_low span (constant p a) (constant p c) -ℤ pos (low_in p y)) (part_width span (constant p a) (constant p c)) b)
  sets_or p (l.Concat' h row) x b = any_sets_or p row x b

  any_sets_or : {n : _} (p : Place) (row : Row_of-Lval n) (x : Name) (b : ℕ) → Either (AnySets p row x b)
  any_sets_or p end_of-Lval x b = inr (λ h. h)
  any_sets_or p (more_of-Lval a rest) x b = one_or (sets_or p a x b) (any_sets_or p rest x b)

set_or : (p : Place) (steps : List Step) (x : Name) (b : ℕ) → Either (IsSetBy p steps x b)
set_or p [] x b = inr (λ h. h)
set_or p (Reads as' ∷ steps) x b = set_or p steps x b
set_or p (Enters as' ∷ steps) x b = set_or p steps x b
set_or p (Leaves ∷ steps) x b = set_or p steps x b
set_or p (Assigns left as' ∷ steps) x b = one_or (sets_or p left x b) (set_or p steps x b)

-- what can be told of each number below a bound: all have it, or one hasn't
all_or : (P : ℕ → Type 0) → ((b : ℕ) → Either (P b)) → (n : ℕ) → ((b : ℕ) → b < n → P b) ⊎ ((b : ℕ) × (b < n) × (P b → ⊥))
all_or P h zero = inl (λ b l. absurd (omega (arith, l)))
all_or P h (suc n) =
    ⊎_elim
    (λ all. ⊎_elim (λ t. inl (λ b l. ⊎_elim (λ (e : b ≡ n). subst P (sym e) t) (λ (k : b < n). all b k) (last b l))) (λ m. inr (n, omega arith, m)) (h n))
    (λ r. inr (r.0, omega (arith, r.1), r.2))
    (all_or P h n)
  where
    last : (b : ℕ) → b < suc n → (b ≡ n) ⊎ (b < n)
    last b l = grind arith

-- where not all bits of a name are set, one isn't
pub one_unset : (p : Place) (steps : List Step) (x : Name) → (IsAllSet p steps x → ⊥) → (b : ℕ) × (b < width_in p x) × (IsSetBy p steps x b → ⊥)
one_unset p steps x n = ⊎_elim (λ h. absurd (n h)) (λ r. r) (all_or (λ b. IsSetBy p steps x b) (set_or p steps x) (width_in p x))
