-- The parts of a left side, their lengths, and what is assigned to each.
use Rattle.std.proofs.Common.{◌≡◌, ℕ, zero, suc, ◌+◌, ◌-◌, ◌<◌, ◌≤◌, List, [], ◌∷◌, ◌++◌, map, length, drop, get_or, drop_of_length-le, sym, ap, ◌∙◌, subst, refl, arith, min, ℤ, pos, ◌-ℤ◌, ◌+ℤ◌}
use Rattle.std.specs.Borrow.{Bor}
use Rattle.std.specs.List.{flat_map}
use Rattle.vlog_tree.specs.declared.expr.Expr.{Expr}
use Rattle.vlog_tree.specs.declared.expr.Span.{Span}
use Rattle.vlog_tree.specs.declared.expr.Span.TheVariants as w
use Rattle.vlog_tree.specs.Value.{natural, part_width}
use Rattle.vlog_tree.specs.declared.stmt.Lval.{Lval, Row_of-Lval, end_of-Lval, more_of-Lval, items-the_row-Lval, items_hidden-the_row-Lval-0}
use Rattle.vlog_tree.specs.declared.stmt.Lval.TheVariants as l
use Rattle.vlog_tree.specs.declared.stmt.Lval.TheBlock.{hidden-the_row-Lval-0}
use Rattle.vlog_tree.specs.declared.stmt.Stmt.{Stmt}
use Rattle.vlog_tree.specs.declared.valuation.Entry.{Entry}
use Rattle.elab_flat_faults.specs.Drivers.{parts_of, row_parts_of}
use Rattle.mem_laws.specs.Spread.{part_length, lefts_length, part_stores, part_store, bits_from}
use Rattle.mem_faults.specs.Asked.{HasEvaluableLeft, HaveEvaluableLefts, EachEvaluableLeft}
use Rattle.mem_flat.specs.Borrowed.{left_meant}
use Rattle.mem_faults.proofs.Growing.{cut}

rows_parted : {m : _} (row : Row_of-Lval m) → row_parts_of row ≡ flat_map parts_of (items-the_row-Lval m row)
rows_parted end_of-Lval = refl
rows_parted (more_of-Lval a rest) = ap (λ xs. parts_of a ++ xs) (rows_parted rest)

pub concat_parts : (xs ys : List Lval) (tree : Lval) → tree ≡ l.Concat xs → ys ≡ xs → flat_map parts_of ys ≡ parts_of tree
concat_parts xs ys tree is same =
    sym (ap parts_of is ∙ rows_parted (hidden-the_row-Lval-0 xs) ∙ ap (flat_map parts_of) (items_hidden-the_row-Lval-0 xs ∙ sym same))

-- ---- what is asked of each part

append_asked : (v : List Entry) (xs ys : List Lval) → EachEvaluableLeft v xs → EachEvaluableLeft v ys → EachEvaluableLeft v (xs ++ ys)
append_asked v [] ys h k = k
append_asked v (x ∷ xs) ys h k = (h.0, append_asked v xs ys h.1 k)

mutual
  pub parts_asked : (v : List Entry) (left : Lval) → HasEvaluableLeft v left → EachEvaluableLeft v (parts_of left)
  parts_asked v (l.Name x) h = (h, tt)
  parts_asked v (l.Select x a) h = (h, tt)
  parts_asked v (l.Part x span a b) h = (h, tt)
  parts_asked v (l.Concat' g row) h = rows_asked v row h

  rows_asked : {m : _} (v : List Entry) (row : Row_of-Lval m) → HaveEvaluableLefts v row → EachEvaluableLeft v (row_parts_of row)
  rows_asked v end_of-Lval h = tt
  rows_asked v (more_of-Lval a rest) h = append_asked v (parts_of a) (row_parts_of rest) (parts_asked v a h.0) (rows_asked v rest h.1)

pub from_same : (v : List Entry) (q : Lval) (right : Expr) (n i j : ℕ) (r : Stmt) → i ≡ j → r ≡ part_store v q (bits_from right n i) → r ≡ part_store v q (bits_from right n j)
from_same v q right n i j r e h = subst (λ (k : ℕ). r ≡ part_store v q (bits_from right n k)) e h

-- ---- part-selects

pub fixed_clipped : (span : Span) (a b : ℤ) (r : ℕ) → span ≡ w.Fixed → part_width span a b ≤ 64 → r ≡ min 64 (natural ((a -ℤ b) +ℤ pos 1)) → r ≡ part_width span a b
fixed_clipped span a b r e few h =
    let k : part_width span a b ≡ natural ((a -ℤ b) +ℤ pos 1) = ap (λ (z : Span). part_width z a b) e in
    omega arith

pub up_clipped : (span : Span) (a b : ℤ) (r : ℕ) → span ≡ w.Up → part_width span a b ≤ 64 → r ≡ min 64 (natural b) → r ≡ part_width span a b
up_clipped span a b r e few h = let k : part_width span a b ≡ natural b = ap (λ (z : Span). part_width z a b) e in omega arith

pub down_clipped : (span : Span) (a b : ℤ) (r : ℕ) → span ≡ w.Down → part_width span a b ≤ 64 → r ≡ min 64 (natural b) → r ≡ part_width span a b
down_clipped span a b r e few h = let k : part_width span a b ≡ natural b = ap (λ (z : Span). part_width z a b) e in omega arith

-- ---- one part after another

meant_cut : (xs : List (Bor Lval)) (i : ℕ) (x : Bor Lval) → i < length xs → x ≡ get_or xs i x → map left_meant (drop i xs) ≡ x.now ∷ map left_meant (drop (i + 1) xs)
meant_cut xs i x lt is = ap (map left_meant) (cut xs i x lt is)

meant_end : (xs : List (Bor Lval)) (i : ℕ) → length xs ≤ i → map left_meant (drop i xs) ≡ []
meant_end xs i le = ap (map left_meant) (drop_of_length-le xs {i = i} le)

module _ (v : List Entry) (xs : List (Bor Lval)) (i : ℕ) where
  abbrev rest : ℕ
  rest = lefts_length v (map left_meant (drop i xs))

  abbrev later : ℕ
  later = lefts_length v (map left_meant (drop (i + 1) xs))

  pub part_asked : (x : Bor Lval) → i < length xs → x ≡ get_or xs i x → EachEvaluableLeft v (map left_meant xs) → HasEvaluableLeft v x.now
  part_asked x lt is h = at xs i x lt is h
    where
      at : (ys : List (Bor Lval)) (j : ℕ) (y : Bor Lval) → j < length ys → y ≡ get_or ys j y → EachEvaluableLeft v (map left_meant ys) → HasEvaluableLeft v y.now
      at [] j y lt is h = absurd (omega arith)
      at (z ∷ ys) zero y lt is h = subst (λ (w : Bor Lval). HasEvaluableLeft v w.now) (sym is) h.0
      at (z ∷ ys) (suc j) y lt is h = at ys j y (omega arith) is h.1

  pub rest_is : (x : Bor Lval) → i < length xs → x ≡ get_or xs i x → rest ≡ part_length v x.now + later
  rest_is x lt is = ap (lefts_length v) (meant_cut xs i x lt is)

  pub none_left : length xs ≤ i → rest ≡ 0
  none_left le = ap (lefts_length v) (meant_end xs i le)

  -- the bits of a part end where those of the later ones begin
  pub later_is : (x : Bor Lval) (from n : ℕ) → i < length xs → x ≡ get_or xs i x → from ≡ rest → n ≡ part_length v x.now → from - n ≡ later
  later_is x from n lt is e h = let k = rest_is x lt is in omega arith

  -- one more store
  pub stores_next : (n : ℕ) (right : Expr) (x : Bor Lval) (r : Stmt) (old new whole : List Stmt) → i < length xs → x ≡ get_or xs i x →
      r ≡ part_store v x.now (bits_from right n later) → new ≡ old ++ r ∷ [] → old ++ part_stores v n right (map left_meant (drop i xs)) ≡ whole →
      new ++ part_stores v n right (map left_meant (drop (i + 1) xs)) ≡ whole
  stores_next n right x r old new whole lt is e put h =
      let ends = part_stores v n right (map left_meant (drop (i + 1) xs)) in
      ap (λ z. z ++ ends) put ∙ (push old r ends ∙ (ap (λ z. old ++ z) (ap (λ z. z ∷ ends) e ∙ sym (ap (part_stores v n right) (meant_cut xs i x lt is))) ∙ h))
    where
      push : (a : List Stmt) (b : Stmt) (c : List Stmt) → (a ++ b ∷ []) ++ c ≡ a ++ b ∷ c
      push [] b c = refl
      push (z ∷ a) b c = ap (λ w. z ∷ w) (push a b c)

  pub stores_end : (n : ℕ) (right : Expr) (all whole : List Stmt) → length xs ≤ i → all ++ part_stores v n right (map left_meant (drop i xs)) ≡ whole → all ≡ whole
  stores_end n right all whole le h = sym (nil all) ∙ (ap (λ z. all ++ z) (sym (ap (part_stores v n right) (meant_end xs i le))) ∙ h)
    where
      nil : (a : List Stmt) → a ++ [] ≡ a
      nil [] = refl
      nil (z ∷ a) = ap (λ w. z ∷ w) (nil a)
