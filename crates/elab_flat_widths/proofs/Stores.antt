-- What holds of the parts of a left side holds of it.
use Rattle.std.proofs.Common.{◌≡◌, ◌⊎◌, ℕ, List, [], ◌∷◌, ◌++◌, map, inl, inr, ⊎_elim, refl, sym, ap, subst, ◌∙◌}
use Rattle.std.specs.Prelude.{Bool, IsTrue}
use Rattle.std.specs.List.{flat_map}
use Rattle.vlog_tree.specs.declared.expr.Expr.{Expr}
use Rattle.vlog_tree.specs.declared.expr.Span.{Span}
use Rattle.vlog_tree.specs.declared.expr.Span.TheVariants as w
use Rattle.vlog_tree.specs.declared.item.Assign.{Assign}
use Rattle.vlog_tree.specs.declared.stmt.Lval.{Lval, Row_of-Lval, end_of-Lval, more_of-Lval}
use Rattle.vlog_tree.specs.declared.stmt.Lval.TheVariants as l
use Rattle.vlog_tree.specs.declared.valuation.Entry.{Entry}
use Rattle.vlog_tree.specs.Valuation.{IsLength}
use Rattle.vlog_tree.specs.Value.{IsFormed, operand_of, own_defined}
use Rattle.vlog_tree_runs.specs.Places.{Name, Among, Place, pieces, total}
use Rattle.vlog_tree_runs.specs.Blocks.{is_parameter}
use Rattle.elab_flat_laws.proofs.Lists.{among_append, append_left, append_right, among_map, map_among, among_flat, flat_among}
use Rattle.elab_flat_faults.specs.Constants.{at_rest, alone, stored, assigned_to, HasConstantNumbers, AllHaveConstantNumbers, HasConstantSpans, AllHaveConstantSpans, AreSpansDefined, AllSpansDefined, IsBoundDefined, IsLeftFormed}
use Rattle.elab_flat_faults.specs.Texts.{numbers_in, row_numbers_in}
use Rattle.elab_flat_faults.specs.Drivers.{parts_of, row_parts_of}
use Rattle.elab_flat_widths.specs.declared.violation.Violation.{Violation}
use Rattle.elab_flat_widths.specs.declared.violation.Violation.TheVariants as b
use Rattle.elab_flat_widths.specs.declared.side.Side.{Side}
use Rattle.elab_flat_widths.specs.declared.side.Side.TheVariants as d
use Rattle.elab_flat_widths.specs.Taken.{IsSound, AllSound, Breaks, SomeBreaks}
use Rattle.elab_flat_widths.specs.Lefts.{HasDefinedNumbers, IsConstantAs, BreaksNumbers, HasSize, IsMissized}
use Rattle.elab_flat_widths.specs.Stores.{PartsHaveLegalNumbers, SomeBreaksNumbers, AreSoundParts, BreaksParts, IsSoundTo, BreaksTo, HasLegalNumbers, HasLegalSize, NamesSignals, IsSoundLeft, BreaksSize, BreaksLeft, IsSoundStore, BreaksStore}
use Rattle.elab_flat_widths.proofs.Lefts.{each_numbers, all_numbers, each_spans, all_spans, each_formed, all_formed, total_is}

-- the numbers of a left side are those of its parts
mutual
  pub parts_numbers : (left : Lval) (a : Expr) → Among (numbers_in left) a → Among (flat_map numbers_in (parts_of left)) a
  parts_numbers (l.Name x) a h = absurd h
  parts_numbers (l.Select x i) a h = append_left (i ∷ []) [] a h
  parts_numbers (l.Part x span i j) a h = append_left (i ∷ j ∷ []) [] a h
  parts_numbers (l.Concat' g row) a h = row_parts row a h

  row_parts : {m : _} (row : Row_of-Lval m) (a : Expr) → Among (row_numbers_in row) a → Among (flat_map numbers_in (row_parts_of row)) a
  row_parts end_of-Lval a h = absurd h
  row_parts (more_of-Lval x rest) a h =
      let from = among_append (numbers_in x) (row_numbers_in rest) a h in
      ⊎_elim (λ k. let r = among_flat numbers_in (parts_of x) a (parts_numbers x a k) in flat_among numbers_in (parts_of x ++ row_parts_of rest) r.0 a (append_left (parts_of x) (row_parts_of rest) r.0 r.1) r.2)
      (λ k. let r = among_flat numbers_in (row_parts_of rest) a (row_parts rest a k) in flat_among numbers_in (parts_of x ++ row_parts_of rest) r.0 a (append_right (parts_of x) (row_parts_of rest) r.0 r.1) r.2) from

mutual
  pub numbers_parts : (left : Lval) (q : Lval) (a : Expr) → Among (parts_of left) q → Among (numbers_in q) a → Among (numbers_in left) a
  numbers_parts (l.Name x) q a (inl e) h = subst (λ z. Among (numbers_in z) a) (sym e) h
  numbers_parts (l.Name x) q a (inr k) h = absurd k
  numbers_parts (l.Select x i) q a (inl e) h = subst (λ z. Among (numbers_in z) a) (sym e) h
  numbers_parts (l.Select x i) q a (inr k) h = absurd k
  numbers_parts (l.Part x span i j) q a (inl e) h = subst (λ z. Among (numbers_in z) a) (sym e) h
  numbers_parts (l.Part x span i j) q a (inr k) h = absurd k
  numbers_parts (l.Concat' g row) q a k h = row_numbers row q a k h

  row_numbers : {m : _} (row : Row_of-Lval m) (q : Lval) (a : Expr) → Among (row_parts_of row) q → Among (numbers_in q) a → Among (row_numbers_in row) a
  row_numbers end_of-Lval q a k h = absurd k
  row_numbers (more_of-Lval x rest) q a k h =
      ⊎_elim (λ i. append_left (numbers_in x) (row_numbers_in rest) a (numbers_parts x q a i h)) (λ i. append_right (numbers_in x) (row_numbers_in rest) a (row_numbers rest q a i h)) (among_append (parts_of x) (row_parts_of rest) q k)

-- numbers that keep the rules are well formed
pub fine : (test : Name → Bool) (v : List Entry) (q : Lval) → AllSound test v (map (alone v) (numbers_in q)) → HasDefinedNumbers v q
fine test v q all a k = let s = all (alone v a) (map_among (alone v) (numbers_in q) a k) in (s.formed, s.defined)

module _ (v : List Entry) where
  spans_defined : (span : Span) (a c : Expr) → IsTrue (own_defined (operand_of v a)) → IsTrue (own_defined (operand_of v c)) → IsBoundDefined v span a c
  spans_defined w.Fixed a c f g = (λ _. f, λ _. g)
  spans_defined w.Up a c f g = λ _. g
  spans_defined w.Down a c f g = λ _. g

  mutual
    fine_defined : (left : Lval) → HasDefinedNumbers v left → AreSpansDefined v left
    fine_defined (l.Name x) h = tt
    fine_defined (l.Select x i) h = tt
    fine_defined (l.Part x span i j) h = spans_defined span i j (h i (inl refl)).1 (h j (inr (inl refl))).1
    fine_defined (l.Concat' g row) h = row_defined row h

    row_defined : {m : _} (row : Row_of-Lval m) → ((a : Expr) → Among (row_numbers_in row) a → IsFormed v a × IsTrue (own_defined (operand_of v a))) → AllSpansDefined v row
    row_defined end_of-Lval h = tt
    row_defined (more_of-Lval x rest) h =
        (fine_defined x (λ a k. h a (append_left (numbers_in x) (row_numbers_in rest) a k)), row_defined rest (λ a k. h a (append_right (numbers_in x) (row_numbers_in rest) a k)))

-- where all numbers are constant, those that say a length are
module _ (test : Name → Bool) where
  mutual
    numbers_spans : (left : Lval) → HasConstantNumbers test left → HasConstantSpans test left
    numbers_spans (l.Name x) h = tt
    numbers_spans (l.Select x i) h = tt
    numbers_spans (l.Part x w.Fixed i j) h = h
    numbers_spans (l.Part x w.Up i j) h = h.1
    numbers_spans (l.Part x w.Down i j) h = h.1
    numbers_spans (l.Concat' g row) h = row_spans row h

    row_spans : {m : _} (row : Row_of-Lval m) → AllHaveConstantNumbers test row → AllHaveConstantSpans test row
    row_spans end_of-Lval h = tt
    row_spans (more_of-Lval x rest) h = (numbers_spans x h.0, row_spans rest h.1)

  pub spans_of : (side : Side) (left : Lval) → IsConstantAs side test left → HasConstantSpans test left
  spans_of d.Continuous left h = numbers_spans left h
  spans_of d.Procedural left h = h

  all_constant : (side : Side) (left : Lval) → ((q : Lval) → Among (parts_of left) q → IsConstantAs side test q) → IsConstantAs side test left
  all_constant d.Continuous left h = all_numbers test left h
  all_constant d.Procedural left h = all_spans test left h

  each_constant : (side : Side) (left : Lval) → IsConstantAs side test left → (q : Lval) → Among (parts_of left) q → IsConstantAs side test q
  each_constant d.Continuous left h = each_numbers test left h
  each_constant d.Procedural left h = each_spans test left h

module _ (side : Side) (p : Place) (left : Lval) where
  abbrev v : List Entry
  v = at_rest p

  abbrev test : Name → Bool
  test = is_parameter p

  abbrev qs : List Lval
  qs = parts_of left

  pub legal_numbers : PartsHaveLegalNumbers side test v qs → HasLegalNumbers side p left
  legal_numbers all = record {
    numbers = λ t k.
        let r = among_map (alone v) (numbers_in left) t k in
        let q = among_flat numbers_in qs r.0 (parts_numbers left r.0 r.1) in
        subst (IsSound test v) r.2 ((all q.0 q.1).numbers (alone v r.0) (map_among (alone v) (numbers_in q.0) r.0 q.2));
    constant = all_constant test side left (λ q a. (all q a).constant);
  }

  pub legal_size : (n : ℕ) → HasSize v qs n → HasLegalSize p left
  legal_size n h = record {
    formed = all_formed v left h.formed;
    length = subst IsLength (h.size ∙ sym (total_is p left)) h.length;
  }

  -- a number of a part is one of the left side
  some_up : (q : Lval) (w : Violation) → Among qs q → SomeBreaks test v (map (alone v) (numbers_in q)) w → SomeBreaks test v (map (alone v) (numbers_in left)) w
  some_up q w a h =
      let r = among_map (alone v) (numbers_in q) h.0 h.1 in
      (h.0, subst (Among (map (alone v) (numbers_in left))) r.2 (map_among (alone v) (numbers_in left) r.0 (numbers_parts left q r.0 a r.1)), h.2)

  pub breaks_numbers : (w : Violation) → SomeBreaksNumbers side test v qs w → BreaksLeft side p left w
  breaks_numbers b.Constant (q, a, inl h) = inl (some_up q b.Constant a h)
  breaks_numbers b.Constant (q, a, inr n) = inr (λ h. n (each_constant test side left h q a))
  breaks_numbers b.Length (q, a, h) = inl (some_up q b.Length a h)
  breaks_numbers b.Memory (q, a, h) = h

  pub breaks_size : PartsHaveLegalNumbers side test v qs → IsMissized v qs → BreaksSize p left
  breaks_size all h =
      let good = legal_numbers all in
      (spans_of test side left good.constant, fine_defined v left (fine test v left good.numbers), sizes h)
    where
      sizes : IsMissized v qs → (IsLeftFormed v left → ⊥) ⊎ (IsLength (total (pieces p (λ x. 0) left)) → ⊥)
      sizes (inl k) = inl (λ g. k.2 (each_formed v left g k.0 k.1))
      sizes (inr n) = inr (λ g. n (subst IsLength (total_is p left) g))

  pub breaks_left : NamesSignals p left → (w : Violation) → BreaksParts side test v qs w → BreaksLeft side p left w
  breaks_left names b.Constant h = breaks_numbers b.Constant h
  breaks_left names b.Length (inl h) = breaks_numbers b.Length h
  breaks_left names b.Length (inr h) = inr (names, breaks_size h.0 h.1)
  breaks_left names b.Memory h = h

  pub sound_left : (n : ℕ) → AreSoundParts side test v qs n → IsSoundLeft side p left
  sound_left n h = record { good = legal_numbers h.numbers; size = λ names. legal_size n h.size }

  stored_is : (n : ℕ) (a : Expr) → HasSize v qs n → stored v n a ≡ assigned_to p (record { left = left; right = a })
  stored_is n a h = ap (λ k. stored v k a) (h.size ∙ sym (total_is p left))

  pub sound_store : (a : Expr) → IsSoundTo side test v qs a → IsSoundStore side p (record { left = left; right = a })
  sound_store a h = record { left = sound_left h.0 h.1; right = subst (IsSound test v) (stored_is h.0 a h.1.size) h.2 }

  pub breaks_store : (a : Expr) → NamesSignals p left → (w : Violation) → BreaksTo side test v qs a w → BreaksStore side p (record { left = left; right = a }) w
  breaks_store a names w (inl h) = inl (breaks_left names w h)
  breaks_store a names w (inr h) = inr (subst (λ t. Breaks test v t w) (stored_is h.0 a h.1.size) h.2)

-- a part that breaks a rule, or the right side, in the assignment
pub of_numbers : (side : Side) (test : Name → Bool) (v : List Entry) (qs : List Lval) (a : Expr) (w : Violation) → SomeBreaksNumbers side test v qs w → BreaksTo side test v qs a w
of_numbers side test v qs a b.Constant h = inl h
of_numbers side test v qs a b.Length h = inl (inl h)
of_numbers side test v qs a b.Memory h = inl h.2

-- a number that breaks a rule, in its part
pub of_some : (side : Side) (test : Name → Bool) (v : List Entry) (q : Lval) (w : Violation) → SomeBreaks test v (map (alone v) (numbers_in q)) w → BreaksNumbers side test v q w
of_some side test v q b.Constant h = inl h
of_some side test v q b.Length h = h
of_some side test v q b.Memory h = h.2

-- what the code tests by parts
module _ (side : Side) (p : Place) (a : Assign) (qs : List Lval) (v : List Entry) (parts : qs ≡ parts_of a.left) (rest : v ≡ at_rest p) where
  pub store_sound : IsSoundTo side (is_parameter p) v qs a.right → IsSoundStore side p a
  store_sound h =
      sound_store side p a.left a.right (subst (λ zs. IsSoundTo side (is_parameter p) (at_rest p) zs a.right) parts (subst (λ u. IsSoundTo side (is_parameter p) u qs a.right) rest h))

  pub store_breaks : NamesSignals p a.left → (w : Violation) → BreaksTo side (is_parameter p) v qs a.right w → BreaksStore side p a w
  store_breaks names w h =
      breaks_store side p a.left a.right names w (subst (λ zs. BreaksTo side (is_parameter p) (at_rest p) zs a.right w) parts (subst (λ u. BreaksTo side (is_parameter p) u qs a.right w) rest h))
