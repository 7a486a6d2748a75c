-- Which bits the parts of a left side are.
use Rattle.std.proofs.Common.{arith, ◌≡◌, ℕ, ◌<◌, List, [], ◌∷◌, ◌++◌, sym, ap, ◌∙◌, refl, inl, inr, ⊎_elim, subst, ℤ, pos, ◌-ℤ◌}
use Rattle.std.specs.Prelude.{nat_eq, if◌then◌else◌}
use Rattle.std.specs.List.{flat_map}
use Rattle.std.proofs.lemmas.Int.{ints}
use Rattle.vlog_tree.specs.declared.expr.Expr.{Expr}
use Rattle.vlog_tree.specs.declared.expr.Span.{Span}
use Rattle.vlog_tree.specs.declared.stmt.Lval.{Lval, Row_of-Lval, end_of-Lval, more_of-Lval}
use Rattle.vlog_tree.specs.declared.stmt.Lval.TheVariants as l
use Rattle.vlog_tree.specs.Valuation.{named}
use Rattle.vlog_tree.specs.Value.{NamesOnly, operand_of, own_integer, part_width, part_low}
use Rattle.vlog_tree_runs.specs.declared.flat.Signal.{Signal}
use Rattle.vlog_tree_runs.specs.Places.{Name, Cycle, Among, read, pieces, row_pieces, bit_piece, word_piece}
use Rattle.vlog_tree_runs.specs.Blocks.{IsWithin, low_in, left_names, row_names, Drives, AnyDrives}
use Rattle.elab_flat_faults.specs.Texts.{names_in, numbers_in, row_numbers_in}
use Rattle.elab_flat_faults.specs.Paths.{Sets, AnySets, width_in}
use Rattle.elab_flat_laws.proofs.Lists.{append_left, append_right, flat_append}
use Rattle.elab_step_laws.specs.Laws.{place_over, AreVectors}
use Rattle.elab_step_laws.proofs.Giving.{AnyCovers, covers_append, covers_left, covers_right}
use Rattle.elab_step_laws.proofs.Reading.{nothing, values, ReadAlike, first_of_two, second_of_two, same_operand, constant_is, no_depth, low_is, read_shape, width_reaches}

one_bit : (i : ℤ) (b : ℕ) → IsWithin i 1 b → i ≡ pos b
one_bit i b h = omega (arith, ints, h)

bit_within : (i : ℤ) (b : ℕ) → i ≡ pos b → IsWithin i 1 b
bit_within i b h = (omega (arith, ints, h), omega (arith, ints, h))

from_lowest : (n b : ℕ) → b < n → IsWithin (pos 0) n b
from_lowest n b h = (omega (arith, ints, h), omega (arith, ints, h))

module _ (gs : List Signal) (vectors : AreVectors gs) where
  -- a select is of a vector
  select_is : (c : Cycle) (x : Name) (a : Expr) → pieces (place_over gs) c (l.Select x a) ≡ bit_piece x (named (values gs c) (read x)) (operand_of (values gs c) a) ∷ []
  select_is c x a =
      ap (λ n. (if nat_eq n 0 then bit_piece x (named (values gs c) (read x)) (operand_of (values gs c) a) else word_piece [] x (values gs c) (operand_of (values gs c) a)) ∷ [])
      (no_depth gs c (read x) vectors)

  -- ---- parts whose numbers read the same

  mutual
    pub same_pieces : (c d : Cycle) (left : Lval) → ReadAlike (values gs c) (values gs d) (flat_map names_in (numbers_in left)) →
        pieces (place_over gs) c left ≡ pieces (place_over gs) d left
    same_pieces c d (l.Name x) m = ap (λ n. record { name = x; size = n; from = pos 0; count = n } ∷ []) (read_shape gs c d x 0 vectors).width
    same_pieces c d (l.Select x a) m =
        let s = read_shape gs c d x 0 vectors in
        let o = same_operand (values gs c) (values gs d) a (first_of_two (values gs c) (values gs d) (names_in a) [] m) in
        select_is c x a ∙ ((λ r. record { name = x; size = s.width r; from = own_integer (o r) -ℤ pos (s.low r); count = 1 } ∷ []) ∙ sym (select_is d x a))
    same_pieces c d (l.Part x span a b) m =
        let s = read_shape gs c d x 0 vectors in
        let o = same_operand (values gs c) (values gs d) a (first_of_two (values gs c) (values gs d) (names_in a) (names_in b ++ []) m) in
        let q = same_operand (values gs c) (values gs d) b
        (first_of_two (values gs c) (values gs d) (names_in b) [] (second_of_two (values gs c) (values gs d) (names_in a) (names_in b ++ []) m)) in
        λ r. record {
          name = x;
          size = s.width r;
          from = part_low span (own_integer (o r)) (own_integer (q r)) -ℤ pos (s.low r);
          count = part_width span (own_integer (o r)) (own_integer (q r));
        } ∷ []
    same_pieces c d (l.Concat' h row) m = same_rows c d row m

    same_rows : {n : _} (c d : Cycle) (row : Row_of-Lval n) → ReadAlike (values gs c) (values gs d) (flat_map names_in (row_numbers_in row)) →
        row_pieces (place_over gs) c row ≡ row_pieces (place_over gs) d row
    same_rows c d end_of-Lval m = refl
    same_rows c d (more_of-Lval a rest) m =
        let k = subst (λ xs. ReadAlike (values gs c) (values gs d) xs) (flat_append names_in (numbers_in a) (row_numbers_in rest)) m in
        let o = same_pieces c d a (first_of_two (values gs c) (values gs d) (flat_map names_in (numbers_in a)) (flat_map names_in (row_numbers_in rest)) k) in
        let q = same_rows c d rest (second_of_two (values gs c) (values gs d) (flat_map names_in (numbers_in a)) (flat_map names_in (row_numbers_in rest)) k) in
        λ r. o r ++ q r

  -- ---- a bit of a part is driven

  -- what is so of a bit of a left side
  pub record Covered (c : Cycle) (x : Name) (b : ℕ) (Driven : Type 0) (xs : List Name) : Type 0 where
    pub drives : Driven
    pub among : Among xs x
    pub below : b < (named (values gs c) (read x)).width

  fixed_bit : (c : Cycle) (y : Name) (a : Expr) → NamesOnly nothing a →
      own_integer (operand_of (values gs c) a) -ℤ pos (named (values gs c) (read y)).low ≡ own_integer (operand_of [] a) -ℤ pos (low_in (place_over gs) y)
  fixed_bit c y a n = let o = constant_is gs c a vectors n in let s = low_is gs c y vectors in λ r. own_integer (o r) -ℤ pos (s r)

  fixed_part : (c : Cycle) (y : Name) (span : Span) (a a' : Expr) (b : ℕ) → NamesOnly nothing a → NamesOnly nothing a' →
      IsWithin (part_low span (own_integer (operand_of (values gs c) a)) (own_integer (operand_of (values gs c) a')) -ℤ pos (named (values gs c) (read y)).low)
      (part_width span (own_integer (operand_of (values gs c) a)) (own_integer (operand_of (values gs c) a'))) b
      ≡ IsWithin (part_low span (own_integer (operand_of [] a)) (own_integer (operand_of [] a')) -ℤ pos (low_in (place_over gs) y))
      (part_width span (own_integer (operand_of [] a)) (own_integer (operand_of [] a'))) b
  fixed_part c y span a a' b n m =
      let o = constant_is gs c a vectors n in
      let q = constant_is gs c a' vectors m in
      let s = low_is gs c y vectors in
      λ r. IsWithin (part_low span (own_integer (o r)) (own_integer (q r)) -ℤ pos (s r)) (part_width span (own_integer (o r)) (own_integer (q r))) b

  reach : (c : Cycle) (x y : Name) (b : ℕ) → y ≡ x → b < (named (values gs c) (read y)).width → b < (named (values gs c) (read x)).width
  reach c x y b e h = subst (λ z. b < (named (values gs c) (read z)).width) e h

  mutual
    pub covered : (c : Cycle) (left : Lval) (x : Name) (b : ℕ) → AnyCovers (pieces (place_over gs) c left) x b →
        Covered c x b (Drives (place_over gs) left x b) (left_names left)
    covered c (l.Name y) x b h =
        ⊎_elim (λ k. record { drives = k.0; among = inl k.0; below = reach c x y b k.0 k.2 }) (λ n. absurd n) h
    covered c (l.Select y a) x b h =
        ⊎_elim
        (λ k. record { drives = (k.0, λ n. sym (fixed_bit c y a n) ∙ one_bit _ b k.1); among = inl k.0; below = reach c x y b k.0 k.2 })
        (λ n. absurd n)
        (subst (λ qs. AnyCovers qs x b) (select_is c y a) h)
    covered c (l.Part y span a a') x b h =
        ⊎_elim
        (λ k. record { drives = (k.0, λ n m. subst (λ (T : Type 0). T) (fixed_part c y span a a' b n m) k.1); among = inl k.0; below = reach c x y b k.0 k.2 })
        (λ n. absurd n)
        h
    covered c (l.Concat' h row) x b k = covered_row c row x b k

    covered_row : {n : _} (c : Cycle) (row : Row_of-Lval n) (x : Name) (b : ℕ) → AnyCovers (row_pieces (place_over gs) c row) x b →
        Covered c x b (AnyDrives (place_over gs) row x b) (row_names row)
    covered_row c end_of-Lval x b h = absurd h
    covered_row c (more_of-Lval a rest) x b h =
        ⊎_elim
        (λ k. let r = covered c a x b k in record { drives = inl r.drives; among = append_left (left_names a) (row_names rest) x r.among; below = r.below })
        (λ k. let r = covered_row c rest x b k in record { drives = inr r.drives; among = append_right (left_names a) (row_names rest) x r.among; below = r.below })
        (covers_append (pieces (place_over gs) c a) (row_pieces (place_over gs) c rest) x b h)

  -- ---- a bit that is surely set is one of a part

  back : (c : Cycle) (x y : Name) (b : ℕ) → y ≡ x → b < width_in (place_over gs) x → b < (named (values gs c) (read y)).width
  back c x y b e h = subst (λ z. b < (named (values gs c) (read z)).width) (sym e) (width_reaches gs c x b vectors h)

  mutual
    pub sets_covers : (c : Cycle) (left : Lval) (x : Name) (b : ℕ) → b < width_in (place_over gs) x → Sets (place_over gs) left x b → AnyCovers (pieces (place_over gs) c left) x b
    sets_covers c (l.Name y) x b h s = let k = back c x y b s h in inl (s, from_lowest _ b k, k)
    sets_covers c (l.Select y a) x b h s =
        subst (λ qs. AnyCovers qs x b) (sym (select_is c y a)) (inl (s.0, bit_within _ b (fixed_bit c y a s.1 ∙ s.2), back c x y b s.0 h))
    sets_covers c (l.Part y span a a') x b h s =
        inl (s.0, subst (λ (T : Type 0). T) (sym (fixed_part c y span a a' b s.1 s.2)) s.3, back c x y b s.0 h)
    sets_covers c (l.Concat' q row) x b h s = sets_covers_row c row x b h s

    sets_covers_row : {n : _} (c : Cycle) (row : Row_of-Lval n) (x : Name) (b : ℕ) → b < width_in (place_over gs) x → AnySets (place_over gs) row x b →
        AnyCovers (row_pieces (place_over gs) c row) x b
    sets_covers_row c end_of-Lval x b h s = absurd s
    sets_covers_row c (more_of-Lval a rest) x b h s =
        ⊎_elim
        (λ k. covers_left (pieces (place_over gs) c a) (row_pieces (place_over gs) c rest) x b (sets_covers c a x b h k))
        (λ k. covers_right (pieces (place_over gs) c a) (row_pieces (place_over gs) c rest) x b (sets_covers_row c rest x b h k))
        s
