-- Bits that are set in the table of what drivers drive, and what the parts of a statement read.
use Rattle.std.proofs.Common.{◌≡◌, ℕ, ◌⊎◌, inl, inr, List, [], ◌∷◌, ◌++◌, length, refl, sym, ◌∙◌, subst}
use Rattle.std.specs.List.{flat_map}
use Rattle.vlog_tree.specs.declared.expr.Expr.{Expr}
use Rattle.vlog_tree.specs.declared.stmt.Lval.{Lval, Row_of-Lval, end_of-Lval, more_of-Lval}
use Rattle.vlog_tree.specs.declared.stmt.Lval.TheVariants as l
use Rattle.vlog_tree_runs.specs.declared.flat.Signal.{Signal}
use Rattle.vlog_tree_runs.specs.Places.{Name, Place, Among}
use Rattle.elab_flat_laws.proofs.Lists.{among_append, append_left, append_right, flat_append}
use Rattle.elab_flat_faults.specs.Texts.{numbers_in, row_numbers_in}
use Rattle.elab_flat_faults.specs.Drivers.{Driver, parts_of, row_parts_of, ReadsBit}
use Rattle.elab_flat_drivers.specs.Parts.{reads_of}
use Rattle.elab_flat_drivers.specs.Pieces.{Action, Tests, Assigns, Schedules}
use Rattle.elab_flat_drivers.specs.Claims.{IsClaimed}
use Rattle.elab_flat_drivers.specs.Masks.{IsSet, marked, AreWithin}
use Rattle.elab_flat_drivers.specs.Driving.{driver_claims}
use Rattle.elab_flat_drivers.specs.Wanting.{part_reads, left_reads, action_reads, driven_table}
use Rattle.elab_flat_drivers.proofs.Marking.{marked_is, stays_marked, is_marked, marked_length}
use Rattle.elab_flat_drivers.proofs.Parting.{AnyPart, IsPiece}
use Rattle.elab_flat_drivers.proofs.BitsRead.{reads_parts, parts_read, in_left, in_right, in_either}
use Rattle.elab_flat_drivers.proofs.Texts.{action_exprs}
use Rattle.elab_flat_drivers.proofs.Twice.{driver_within}

-- ---- what is driven

module _ (gs : List Signal) where
  pub driven_set : (ms : List ℕ) (ds : List Driver) (i b : ℕ) → length ms ≡ length gs → IsSet (driven_table gs ms ds) i b → IsSet ms i b ⊎ ((d : Driver) × Among ds d × IsClaimed (driver_claims gs d) i b)
  driven_set ms [] i b e h = inl h
  driven_set ms (d ∷ ds) i b e h =
      elim (driven_set (marked ms (driver_claims gs d)) ds i b (marked_length ms (driver_claims gs d) ∙ e) h) [
        | inl s ↦ elim (marked_is ms (driver_claims gs d) i b (subst (λ n. AreWithin n (driver_claims gs d)) (sym e) (driver_within gs d)) s) [ inl k ↦ inl k | inr k ↦ inr (d, inl refl, k) ]
        | inr r ↦ inr (r.0, inr r.1, r.2)
      ]

  stays_driven : (ms : List ℕ) (ds : List Driver) (i b : ℕ) → length ms ≡ length gs → IsSet ms i b → IsSet (driven_table gs ms ds) i b
  stays_driven ms [] i b e h = h
  stays_driven ms (d ∷ ds) i b e h =
      stays_driven (marked ms (driver_claims gs d)) ds i b (marked_length ms (driver_claims gs d) ∙ e)
      (stays_marked ms (driver_claims gs d) i b (subst (λ n. AreWithin n (driver_claims gs d)) (sym e) (driver_within gs d)) h)

  pub set_driven : (ms : List ℕ) (ds : List Driver) (d : Driver) (i b : ℕ) → length ms ≡ length gs → Among ds d → IsClaimed (driver_claims gs d) i b → IsSet (driven_table gs ms ds) i b
  set_driven ms [] d i b e a h = absurd a
  set_driven ms (x ∷ ds) d i b e (inl k) h =
      stays_driven (marked ms (driver_claims gs x)) ds i b (marked_length ms (driver_claims gs x) ∙ e)
      (is_marked ms (driver_claims gs x) i b (subst (λ n. AreWithin n (driver_claims gs x)) (sym e) (driver_within gs x)) (subst (λ z. IsClaimed (driver_claims gs z) i b) (sym k) h))
  set_driven ms (x ∷ ds) d i b e (inr k) h = set_driven (marked ms (driver_claims gs x)) ds d i b (marked_length ms (driver_claims gs x) ∙ e) k h

-- ---- what is wanted

module _ (p : Place) (x : Name) (b : ℕ) where
  abbrev Any : List Lval → Type 0
  Any qs = AnyPart p x b qs

  abbrev Read : List Expr → Type 0
  Read as' = (a : Expr) × Among as' a × ReadsBit p a x b

  wider : (as' bs : List Expr) → ((a : Expr) → Among as' a → Among bs a) → Read as' → Read bs
  wider as' bs f (a, h, r) = (a, f a h, r)

  one_part : (q : Lval) → Any (part_reads q) → Read (numbers_in q)
  one_part (l.Name y) (r, h, d) = absurd h
  one_part (l.Select y a) h = (a, inl refl, parts_read p x b a h)
  one_part (l.Part y span a c) h = elim (in_either p x b (reads_of a) (reads_of c) h) [ inl k ↦ (a, inl refl, parts_read p x b a k) | inr k ↦ (c, inr (inl refl), parts_read p x b c k) ]
  one_part (l.Concat' g row) (r, h, d) = absurd h

  part_any : (q : Lval) → Read (numbers_in q) → IsPiece q → Any (part_reads q)
  part_any (l.Name y) (a, h, r) t = absurd h
  part_any (l.Select y c) (a, inl e, r) t = reads_parts p x b c (subst (λ z. ReadsBit p z x b) (sym e) r)
  part_any (l.Select y c) (a, inr h, r) t = absurd h
  part_any (l.Part y span c d) (a, inl e, r) t = in_left p x b (reads_of c) (reads_of d) (reads_parts p x b c (subst (λ z. ReadsBit p z x b) (sym e) r))
  part_any (l.Part y span c d) (a, inr (inl e), r) t = in_right p x b (reads_of c) (reads_of d) (reads_parts p x b d (subst (λ z. ReadsBit p z x b) (sym e) r))
  part_any (l.Part y span c d) (a, inr (inr h), r) t = absurd h
  part_any (l.Concat' g row) h t = absurd t

  both_reads : (qs rs : List Lval) → Any (flat_map part_reads (qs ++ rs)) → Any (flat_map part_reads qs) ⊎ Any (flat_map part_reads rs)
  both_reads qs rs h = in_either p x b (flat_map part_reads qs) (flat_map part_reads rs) (subst Any (flat_append part_reads qs rs) h)

  only_reads : (q : Lval) → Any (flat_map part_reads (q ∷ [])) → Any (part_reads q)
  only_reads q h = elim (in_either p x b (part_reads q) [] h) [ inl k ↦ k | inr k ↦ absurd k.1 ]

  mutual
    left_numbers : (left : Lval) → Any (left_reads left) → Read (numbers_in left)
    left_numbers (l.Name y) h = one_part (l.Name y) (only_reads (l.Name y) h)
    left_numbers (l.Select y a) h = one_part (l.Select y a) (only_reads (l.Select y a) h)
    left_numbers (l.Part y span a c) h = one_part (l.Part y span a c) (only_reads (l.Part y span a c) h)
    left_numbers (l.Concat' g row) h = row_numbers row h

    row_numbers : {m : _} (row : Row_of-Lval m) → Any (flat_map part_reads (row_parts_of row)) → Read (row_numbers_in row)
    row_numbers end_of-Lval h = absurd h.1
    row_numbers (more_of-Lval a rest) h =
        elim (both_reads (parts_of a) (row_parts_of rest) h) [
          | inl k ↦ wider (numbers_in a) (numbers_in a ++ row_numbers_in rest) (append_left (numbers_in a) (row_numbers_in rest)) (left_numbers a k)
          | inr k ↦ wider (row_numbers_in rest) (numbers_in a ++ row_numbers_in rest) (append_right (numbers_in a) (row_numbers_in rest)) (row_numbers rest k)
        ]

  mutual
    numbers_left : (left : Lval) → Read (numbers_in left) → Any (left_reads left)
    numbers_left (l.Name y) h = in_left p x b (part_reads (l.Name y)) [] (part_any (l.Name y) h tt)
    numbers_left (l.Select y a) h = in_left p x b (part_reads (l.Select y a)) [] (part_any (l.Select y a) h tt)
    numbers_left (l.Part y span a c) h = in_left p x b (part_reads (l.Part y span a c)) [] (part_any (l.Part y span a c) h tt)
    numbers_left (l.Concat' g row) h = numbers_row row h

    numbers_row : {m : _} (row : Row_of-Lval m) → Read (row_numbers_in row) → Any (flat_map part_reads (row_parts_of row))
    numbers_row end_of-Lval h = absurd h.1
    numbers_row (more_of-Lval a rest) (c, h, r) =
        subst Any (sym (flat_append part_reads (parts_of a) (row_parts_of rest)))
        (elim (among_append (numbers_in a) (row_numbers_in rest) c h) [
          | inl k ↦ in_left p x b (flat_map part_reads (parts_of a)) (flat_map part_reads (row_parts_of rest)) (numbers_left a (c, k, r))
          | inr k ↦ in_right p x b (flat_map part_reads (parts_of a)) (flat_map part_reads (row_parts_of rest)) (numbers_row rest (c, k, r))
        ])

  -- an assignment reads what its numbers and its right side read
  pub store_reads : (left : Lval) (right : Expr) → Any (left_reads left ++ reads_of right) → Read (numbers_in left ++ right ∷ [])
  store_reads left right h =
      elim (in_either p x b (left_reads left) (reads_of right) h) [
        | inl k ↦ wider (numbers_in left) (numbers_in left ++ right ∷ []) (append_left (numbers_in left) (right ∷ [])) (left_numbers left k)
        | inr k ↦ (right, append_right (numbers_in left) (right ∷ []) right (inl refl), parts_read p x b right k)
      ]

  pub reads_store : (left : Lval) (right : Expr) → Read (numbers_in left ++ right ∷ []) → Any (left_reads left ++ reads_of right)
  reads_store left right (a, h, r) =
      elim (among_append (numbers_in left) (right ∷ []) a h) [
        | inl k ↦ in_left p x b (left_reads left) (reads_of right) (numbers_left left (a, k, r))
        | inr k ↦ in_right p x b (left_reads left) (reads_of right) (of_right k)
      ]
    where
      of_right : Among (right ∷ []) a → Any (reads_of right)
      of_right (inl e) = reads_parts p x b right (subst (λ z. ReadsBit p z x b) (sym e) r)
      of_right (inr h) = absurd h

  pub action_told : (d : Action) → Any (action_reads d) → Read (action_exprs d)
  action_told (Tests a) h = (a, inl refl, parts_read p x b a h)
  action_told (Assigns left right) h = store_reads left right h
  action_told (Schedules left right) h = store_reads left right h

  pub told_action : (d : Action) → Read (action_exprs d) → Any (action_reads d)
  told_action (Tests a) (c, inl e, r) = reads_parts p x b a (subst (λ z. ReadsBit p z x b) (sym e) r)
  told_action (Tests a) (c, inr h, r) = absurd h
  told_action (Assigns left right) h = reads_store left right h
  told_action (Schedules left right) h = reads_store left right h
