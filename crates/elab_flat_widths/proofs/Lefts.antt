-- Left sides by their parts.
use Rattle.std.proofs.Common.{◌≡◌, ◌+◌, Bool, true, false, List, [], ◌∷◌, ◌++◌, inl, inr, ⊎_elim, refl, sym, ap, subst, ◌∙◌, add_assoc, zero-add, if◌then◌else◌}
use Rattle.std.specs.Prelude.{nat_eq}
use Rattle.vlog_tree.specs.declared.stmt.Lval.{Lval, Row_of-Lval, end_of-Lval, more_of-Lval}
use Rattle.vlog_tree.specs.declared.stmt.Lval.TheVariants as l
use Rattle.vlog_tree.specs.declared.valuation.Entry.{Entry}
use Rattle.vlog_tree.specs.Valuation.{named, depth_of}
use Rattle.vlog_tree.specs.Value.{operand_of}
use Rattle.vlog_tree_runs.specs.Places.{Name, Among, Place, Piece, read, pieces, row_pieces, total, bit_piece, word_piece}
use Rattle.elab_flat_laws.proofs.Lists.{among_append, append_left, append_right}
use Rattle.elab_flat_faults.specs.Constants.{at_rest, HasConstantNumbers, AllHaveConstantNumbers, HasConstantSpans, AllHaveConstantSpans, AreSpansDefined, AllSpansDefined, IsLeftFormed, AreLeftsFormed}
use Rattle.elab_flat_faults.specs.Drivers.{parts_of, row_parts_of}
use Rattle.elab_flat_widths.specs.Lefts.{part_count, bits_in}

only : (P : Lval → Type 0) (x q : Lval) → Among (x ∷ []) q → P x → P q
only P x q (inl e) h = subst P e h
only P x q (inr a) h = absurd a

module _ (test : Name → Bool) where
  mutual
    pub each_numbers : (left : Lval) → HasConstantNumbers test left → (q : Lval) → Among (parts_of left) q → HasConstantNumbers test q
    each_numbers (l.Name x) h q a = only (HasConstantNumbers test) (l.Name x) q a h
    each_numbers (l.Select x i) h q a = only (HasConstantNumbers test) (l.Select x i) q a h
    each_numbers (l.Part x span i j) h q a = only (HasConstantNumbers test) (l.Part x span i j) q a h
    each_numbers (l.Concat' g row) h q a = each_row_numbers row h q a

    each_row_numbers : {m : _} (row : Row_of-Lval m) → AllHaveConstantNumbers test row → (q : Lval) → Among (row_parts_of row) q → HasConstantNumbers test q
    each_row_numbers end_of-Lval h q a = absurd a
    each_row_numbers (more_of-Lval x rest) h q a = ⊎_elim (λ k. each_numbers x h.0 q k) (λ k. each_row_numbers rest h.1 q k) (among_append (parts_of x) (row_parts_of rest) q a)

  mutual
    pub all_numbers : (left : Lval) → ((q : Lval) → Among (parts_of left) q → HasConstantNumbers test q) → HasConstantNumbers test left
    all_numbers (l.Name x) h = h (l.Name x) (inl refl)
    all_numbers (l.Select x i) h = h (l.Select x i) (inl refl)
    all_numbers (l.Part x span i j) h = h (l.Part x span i j) (inl refl)
    all_numbers (l.Concat' g row) h = all_row_numbers row h

    all_row_numbers : {m : _} (row : Row_of-Lval m) → ((q : Lval) → Among (row_parts_of row) q → HasConstantNumbers test q) → AllHaveConstantNumbers test row
    all_row_numbers end_of-Lval h = tt
    all_row_numbers (more_of-Lval x rest) h =
        (all_numbers x (λ q a. h q (append_left (parts_of x) (row_parts_of rest) q a)), all_row_numbers rest (λ q a. h q (append_right (parts_of x) (row_parts_of rest) q a)))

  mutual
    pub each_spans : (left : Lval) → HasConstantSpans test left → (q : Lval) → Among (parts_of left) q → HasConstantSpans test q
    each_spans (l.Name x) h q a = only (HasConstantSpans test) (l.Name x) q a h
    each_spans (l.Select x i) h q a = only (HasConstantSpans test) (l.Select x i) q a h
    each_spans (l.Part x span i j) h q a = only (HasConstantSpans test) (l.Part x span i j) q a h
    each_spans (l.Concat' g row) h q a = each_row_spans row h q a

    each_row_spans : {m : _} (row : Row_of-Lval m) → AllHaveConstantSpans test row → (q : Lval) → Among (row_parts_of row) q → HasConstantSpans test q
    each_row_spans end_of-Lval h q a = absurd a
    each_row_spans (more_of-Lval x rest) h q a = ⊎_elim (λ k. each_spans x h.0 q k) (λ k. each_row_spans rest h.1 q k) (among_append (parts_of x) (row_parts_of rest) q a)

  mutual
    pub all_spans : (left : Lval) → ((q : Lval) → Among (parts_of left) q → HasConstantSpans test q) → HasConstantSpans test left
    all_spans (l.Name x) h = h (l.Name x) (inl refl)
    all_spans (l.Select x i) h = h (l.Select x i) (inl refl)
    all_spans (l.Part x span i j) h = h (l.Part x span i j) (inl refl)
    all_spans (l.Concat' g row) h = all_row_spans row h

    all_row_spans : {m : _} (row : Row_of-Lval m) → ((q : Lval) → Among (row_parts_of row) q → HasConstantSpans test q) → AllHaveConstantSpans test row
    all_row_spans end_of-Lval h = tt
    all_row_spans (more_of-Lval x rest) h =
        (all_spans x (λ q a. h q (append_left (parts_of x) (row_parts_of rest) q a)), all_row_spans rest (λ q a. h q (append_right (parts_of x) (row_parts_of rest) q a)))

module _ (v : List Entry) where
  mutual
    pub each_formed : (left : Lval) → IsLeftFormed v left → (q : Lval) → Among (parts_of left) q → IsLeftFormed v q
    each_formed (l.Name x) h q a = only (IsLeftFormed v) (l.Name x) q a h
    each_formed (l.Select x i) h q a = only (IsLeftFormed v) (l.Select x i) q a h
    each_formed (l.Part x span i j) h q a = only (IsLeftFormed v) (l.Part x span i j) q a h
    each_formed (l.Concat' g row) h q a = each_row_formed row h q a

    each_row_formed : {m : _} (row : Row_of-Lval m) → AreLeftsFormed v row → (q : Lval) → Among (row_parts_of row) q → IsLeftFormed v q
    each_row_formed end_of-Lval h q a = absurd a
    each_row_formed (more_of-Lval x rest) h q a = ⊎_elim (λ k. each_formed x h.0 q k) (λ k. each_row_formed rest h.1 q k) (among_append (parts_of x) (row_parts_of rest) q a)

  mutual
    pub all_formed : (left : Lval) → ((q : Lval) → Among (parts_of left) q → IsLeftFormed v q) → IsLeftFormed v left
    all_formed (l.Name x) h = h (l.Name x) (inl refl)
    all_formed (l.Select x i) h = h (l.Select x i) (inl refl)
    all_formed (l.Part x span i j) h = h (l.Part x span i j) (inl refl)
    all_formed (l.Concat' g row) h = all_row_formed row h

    all_row_formed : {m : _} (row : Row_of-Lval m) → ((q : Lval) → Among (row_parts_of row) q → IsLeftFormed v q) → AreLeftsFormed v row
    all_row_formed end_of-Lval h = tt
    all_row_formed (more_of-Lval x rest) h =
        (all_formed x (λ q a. h q (append_left (parts_of x) (row_parts_of rest) q a)), all_row_formed rest (λ q a. h q (append_right (parts_of x) (row_parts_of rest) q a)))

  mutual
    pub all_defined : (left : Lval) → ((q : Lval) → Among (parts_of left) q → AreSpansDefined v q) → AreSpansDefined v left
    all_defined (l.Name x) h = h (l.Name x) (inl refl)
    all_defined (l.Select x i) h = h (l.Select x i) (inl refl)
    all_defined (l.Part x span i j) h = h (l.Part x span i j) (inl refl)
    all_defined (l.Concat' g row) h = all_row_defined row h

    all_row_defined : {m : _} (row : Row_of-Lval m) → ((q : Lval) → Among (row_parts_of row) q → AreSpansDefined v q) → AllSpansDefined v row
    all_row_defined end_of-Lval h = tt
    all_row_defined (more_of-Lval x rest) h =
        (all_defined x (λ q a. h q (append_left (parts_of x) (row_parts_of rest) q a)), all_row_defined rest (λ q a. h q (append_right (parts_of x) (row_parts_of rest) q a)))

-- ---- lengths

total_both : (xs ys : List Piece) → total (xs ++ ys) ≡ total xs + total ys
total_both [] ys = sym (zero-add (total ys))
total_both (x ∷ xs) ys = ap (λ n. x.count + n) (total_both xs ys) ∙ sym (add_assoc x.count (total xs) (total ys))

bits_both : (v : List Entry) (xs ys : List Lval) → bits_in v (xs ++ ys) ≡ bits_in v xs + bits_in v ys
bits_both v [] ys = sym (zero-add (bits_in v ys))
bits_both v (x ∷ xs) ys = ap (λ n. part_count v x + n) (bits_both v xs ys) ∙ sym (add_assoc (part_count v x) (bits_in v xs) (bits_in v ys))

counted : (b : Bool) (x y : Piece) → (if b then x else y).count ≡ (if b then x.count else y.count)
counted true x y = refl
counted false x y = refl

module _ (p : Place) where
  abbrev v : List Entry
  v = at_rest p

  mutual
    pub total_is : (left : Lval) → total (pieces p (λ x. 0) left) ≡ bits_in v (parts_of left)
    total_is (l.Name x) = refl
    total_is (l.Select x a) =
        ap (λ n. n + 0) (counted (nat_eq (depth_of v (read x)) 0) (bit_piece (p.prefix ++ x) (named v (read x)) (operand_of v a)) (word_piece p.prefix x v (operand_of v a)))
    total_is (l.Part x span a c) = refl
    total_is (l.Concat' g row) = row_total row

    row_total : {m : _} (row : Row_of-Lval m) → total (row_pieces p (λ x. 0) row) ≡ bits_in v (row_parts_of row)
    row_total end_of-Lval = refl
    row_total (more_of-Lval a rest) =
        total_both (pieces p (λ x. 0) a) (row_pieces p (λ x. 0) rest) ∙ ((λ i. total_is a i + row_total rest i) ∙ sym (bits_both v (parts_of a) (row_parts_of rest)))
