-- The bits that a part claims are those that it drives, and a left side drives the bits of its parts.
use Rattle.std.proofs.Common.{◌≡◌, ℕ, ◌<◌, min, ◌⊎◌, inl, inr, List, [], ◌∷◌, Option, Some, None, arith, refl, sym, ap, ◌∙◌, subst}
use Rattle.std.specs.Prelude.{ℤ, pos, ◌≤ℤ◌, ◌<ℤ◌, ◌-ℤ◌, ◌+ℤ◌}
use Rattle.std.specs.Int.{bit_at}
use Rattle.std.proofs.lemmas.Int.{ints}
use Rattle.vlog_tree.specs.declared.expr.Expr.{Expr}
use Rattle.vlog_tree.specs.declared.stmt.Lval.{Lval, Row_of-Lval, end_of-Lval, more_of-Lval}
use Rattle.vlog_tree.specs.declared.stmt.Lval.TheVariants as l
use Rattle.vlog_tree.specs.Value.{operand_of, own_integer, natural, part_low, part_width, NamesOnly}
use Rattle.vlog_tree_runs.specs.declared.flat.Signal.{Signal}
use Rattle.vlog_tree_runs.specs.Places.{Name, Place, Among}
use Rattle.vlog_tree_runs.specs.Blocks.{IsWithin, low_in, Drives, AnyDrives}
use Rattle.elab_flat_laws.proofs.Lists.{among_append, append_left, append_right}
use Rattle.elab_flat_faults.specs.Drivers.{parts_of, row_parts_of}
use Rattle.elab_flat_drivers.specs.declared.claims.Run.{Run}
use Rattle.elab_flat_drivers.specs.declared.claims.Spot.{Spot}
use Rattle.elab_flat_drivers.specs.Parts.{reads_of}
use Rattle.elab_flat_drivers.specs.Claims.{nothing, known, known_if, bit_run, span_run, part_run, part_name, claim_at, spot_in}
use Rattle.elab_flat_drivers.proofs.Bits.{ones_set, set_ones, run_set, set_run}
use Rattle.elab_flat_drivers.proofs.Constants.{no_names, no_reads}
use Rattle.elab_flat_drivers.proofs.Spots.{bare, low_is}

abbrev number : Expr → ℤ
number a = own_integer (operand_of [] a)

-- an expression has no names and a number, or it has names
abbrev Decided : Expr → Type 0
Decided a = ((known a ≡ Some (number a)) × NamesOnly nothing a) ⊎ ((known a ≡ None) × (NamesOnly nothing a → ⊥))

known_cases : (a : Expr) → Decided a
known_cases a = by_reads (reads_of a) refl
  where
    by_reads : (qs : List Lval) → reads_of a ≡ qs → Decided a
    by_reads [] e = inl (ap (λ z. known_if z (number a)) e, no_names a e)
    by_reads (q ∷ qs) e = inr (ap (λ z. known_if z (number a)) e, λ h. let z : q ∷ qs ≡ [] = sym e ∙ no_reads a h in cc)

-- the bits of a run
run_bits : (s : Spot) (r : Run) (b : ℕ) → bit_at (claim_at s (Some r)).bits b ≡ 1 → ((r.from -ℤ pos s.low) ≤ℤ pos b) × (pos b <ℤ (r.to -ℤ pos s.low)) × (b < s.width)
run_bits s r b h =
    run_set s.width b (r.from -ℤ pos s.low) (r.to -ℤ pos s.low) (ones_set (min s.width (natural (r.from -ℤ pos s.low))) (min s.width (natural (r.to -ℤ pos s.low))) b h)

bits_run : (s : Spot) (r : Run) (b : ℕ) → b < s.width → (r.from -ℤ pos s.low) ≤ℤ pos b → pos b <ℤ (r.to -ℤ pos s.low) → bit_at (claim_at s (Some r)).bits b ≡ 1
bits_run s r b lt le below =
    set_ones (min s.width (natural (r.from -ℤ pos s.low))) (min s.width (natural (r.to -ℤ pos s.low))) b (set_run s.width b (r.from -ℤ pos s.low) (r.to -ℤ pos s.low) lt le below)

whole_bits : (s : Spot) (b : ℕ) → bit_at (claim_at s None).bits b ≡ 1 → b < s.width
whole_bits s b h = (ones_set 0 s.width b h).high

bits_whole : (s : Spot) (b : ℕ) → b < s.width → bit_at (claim_at s None).bits b ≡ 1
bits_whole s b lt = set_ones 0 s.width b (record { low = omega arith; high = lt })

-- one part of a left side, no concatenation
abbrev pub IsPiece : Lval → Type 0
IsPiece (l.Name x) = Unit {0}
IsPiece (l.Select x a) = Unit {0}
IsPiece (l.Part x span a b) = Unit {0}
IsPiece (l.Concat' h row) = ⊥

module _ (gs : List Signal) (s : Spot) (b : ℕ) where
  abbrev sets : Option Run → Type 0
  sets r = bit_at (claim_at s r).bits b ≡ 1

  -- the bits that a part claims
  pub claimed : (q : Lval) → IsPiece q → spot_in gs (part_name q) ≡ Some s → sets (part_run q) → (b < s.width) × Drives (bare gs) q (part_name q) b
  claimed (l.Name x) t e h = (whole_bits s b h, refl)
  claimed (l.Select x a) t e h = by_index (known_cases a)
    where
      by_index : Decided a → (b < s.width) × Drives (bare gs) (l.Select x a) x b
      by_index (inl k) =
          let r = run_bits s (record { from = number a; to = number a +ℤ pos 1 }) b (subst (λ o. sets (bit_run o)) k.0 h) in
          (r.2, (refl, λ n. ap (λ m. number a -ℤ pos m) (low_is gs x s e) ∙ at_bit (number a) s.low r.0 r.1))
        where
          at_bit : (i : ℤ) (low : ℕ) → (i -ℤ pos low) ≤ℤ pos b → pos b <ℤ ((i +ℤ pos 1) -ℤ pos low) → i -ℤ pos low ≡ pos b
          at_bit i low f g = omega (arith, ints)
      by_index (inr k) = (whole_bits s b (subst (λ o. sets (bit_run o)) k.0 h), (refl, λ n. absurd (k.1 n)))
  claimed (l.Part x span a c) t e h = by_numbers (known_cases a) (known_cases c)
    where
      by_numbers : Decided a → Decided c → (b < s.width) × Drives (bare gs) (l.Part x span a c) x b
      by_numbers (inl k) (inl m) =
          let low = part_low span (number a) (number c) in
          let count = part_width span (number a) (number c) in
          let r = run_bits s (record { from = low; to = low +ℤ pos count }) b (subst (λ o. sets (span_run span (Some (number a)) o)) m.0 (subst (λ o. sets (span_run span o (known c))) k.0 h)) in
          (r.2, (refl, λ n o. subst (λ z. IsWithin (low -ℤ pos z) count b) (sym (low_is gs x s e)) (r.0, within low count s.low r.1)))
        where
          within : (low : ℤ) (count z : ℕ) → pos b <ℤ ((low +ℤ pos count) -ℤ pos z) → pos b <ℤ ((low -ℤ pos z) +ℤ pos count)
          within low count z f = omega (arith, ints)
      by_numbers (inr k) m = (whole_bits s b (subst (λ o. sets (span_run span o (known c))) k.0 h), (refl, λ n. absurd (k.1 n)))
      by_numbers (inl k) (inr m) =
          (whole_bits s b (subst (λ o. sets (span_run span (Some (number a)) o)) m.0 (subst (λ o. sets (span_run span o (known c))) k.0 h)), (refl, λ n o. absurd (m.1 o)))
  claimed (l.Concat' g row) t e h = absurd t

  -- the bits that it drives are claimed
  pub claims : (q : Lval) (x : Name) → IsPiece q → spot_in gs x ≡ Some s → b < s.width → Drives (bare gs) q x b → (part_name q ≡ x) × sets (part_run q)
  claims (l.Name y) x t e lt d = (d, bits_whole s b lt)
  claims (l.Select y a) x t e lt d = (d.0, by_index (known_cases a))
    where
      by_index : Decided a → sets (bit_run (known a))
      by_index (inl k) =
          let at : number a -ℤ pos s.low ≡ pos b = ap (λ m. number a -ℤ pos m) (sym (low_is gs x s e)) ∙ (ap (λ z. number a -ℤ pos (low_in (bare gs) z)) (sym d.0) ∙ d.1 k.1) in
          subst (λ o. sets (bit_run o)) (sym k.0) (bits_run s (record { from = number a; to = number a +ℤ pos 1 }) b lt (below (number a) s.low at) (above (number a) s.low at))
        where
          below : (i : ℤ) (low : ℕ) → i -ℤ pos low ≡ pos b → (i -ℤ pos low) ≤ℤ pos b
          below i low f = omega (arith, ints)

          above : (i : ℤ) (low : ℕ) → i -ℤ pos low ≡ pos b → pos b <ℤ ((i +ℤ pos 1) -ℤ pos low)
          above i low f = omega (arith, ints)
      by_index (inr k) = subst (λ o. sets (bit_run o)) (sym k.0) (bits_whole s b lt)
  claims (l.Part y span a c) x t e lt d = (d.0, by_numbers (known_cases a) (known_cases c))
    where
      by_numbers : Decided a → Decided c → sets (span_run span (known a) (known c))
      by_numbers (inl k) (inl m) =
          let low = part_low span (number a) (number c) in
          let count = part_width span (number a) (number c) in
          let w : IsWithin (low -ℤ pos s.low) count b = subst (λ z. IsWithin (low -ℤ pos z) count b) (ap (low_in (bare gs)) d.0 ∙ low_is gs x s e) (d.1 k.1 m.1) in
          subst (λ o. sets (span_run span o (known c))) (sym k.0) (subst (λ o. sets (span_run span (Some (number a)) o)) (sym m.0)
          (bits_run s (record { from = low; to = low +ℤ pos count }) b lt w.0 (beyond low count s.low w.1)))
        where
          beyond : (low : ℤ) (count z : ℕ) → pos b <ℤ ((low -ℤ pos z) +ℤ pos count) → pos b <ℤ ((low +ℤ pos count) -ℤ pos z)
          beyond low count z f = omega (arith, ints)
      by_numbers (inr k) m = subst (λ o. sets (span_run span o (known c))) (sym k.0) (bits_whole s b lt)
      by_numbers (inl k) (inr m) =
          subst (λ o. sets (span_run span o (known c))) (sym k.0) (subst (λ o. sets (span_run span (Some (number a)) o)) (sym m.0) (bits_whole s b lt))
  claims (l.Concat' g row) x t e lt d = absurd t

-- ---- left sides and their parts

mutual
  pub parts_are : (left q : Lval) → Among (parts_of left) q → IsPiece q
  parts_are (l.Name x) q (inl e) = subst IsPiece e tt
  parts_are (l.Name x) q (inr h) = absurd h
  parts_are (l.Select x a) q (inl e) = subst IsPiece e tt
  parts_are (l.Select x a) q (inr h) = absurd h
  parts_are (l.Part x span a c) q (inl e) = subst IsPiece e tt
  parts_are (l.Part x span a c) q (inr h) = absurd h
  parts_are (l.Concat' g row) q h = row_parts_are row q h

  row_parts_are : {m : _} (row : Row_of-Lval m) (q : Lval) → Among (row_parts_of row) q → IsPiece q
  row_parts_are end_of-Lval q h = absurd h
  row_parts_are (more_of-Lval a rest) q h = elim (among_append (parts_of a) (row_parts_of rest) q h) [ inl f ↦ parts_are a q f | inr f ↦ row_parts_are rest q f ]

module _ (p : Place) (x : Name) (b : ℕ) where
  -- a part of a list drives a bit
  abbrev pub AnyPart : List Lval → Type 0
  AnyPart qs = (q : Lval) × Among qs q × Drives p q x b

  mutual
    pub parts_drive : (left : Lval) → Drives p left x b → AnyPart (parts_of left)
    parts_drive (l.Name y) d = (l.Name y, inl refl, d)
    parts_drive (l.Select y a) d = (l.Select y a, inl refl, d)
    parts_drive (l.Part y span a c) d = (l.Part y span a c, inl refl, d)
    parts_drive (l.Concat' g row) d = row_parts_drive row d

    row_parts_drive : {m : _} (row : Row_of-Lval m) → AnyDrives p row x b → AnyPart (row_parts_of row)
    row_parts_drive end_of-Lval d = absurd d
    row_parts_drive (more_of-Lval a rest) (inl d) = let r = parts_drive a d in (r.0, append_left (parts_of a) (row_parts_of rest) r.0 r.1, r.2)
    row_parts_drive (more_of-Lval a rest) (inr d) = let r = row_parts_drive rest d in (r.0, append_right (parts_of a) (row_parts_of rest) r.0 r.1, r.2)

  mutual
    pub drives_parts : (left : Lval) → AnyPart (parts_of left) → Drives p left x b
    drives_parts (l.Name y) (q, inl e, d) = subst (λ z. Drives p z x b) (sym e) d
    drives_parts (l.Name y) (q, inr h, d) = absurd h
    drives_parts (l.Select y a) (q, inl e, d) = subst (λ z. Drives p z x b) (sym e) d
    drives_parts (l.Select y a) (q, inr h, d) = absurd h
    drives_parts (l.Part y span a c) (q, inl e, d) = subst (λ z. Drives p z x b) (sym e) d
    drives_parts (l.Part y span a c) (q, inr h, d) = absurd h
    drives_parts (l.Concat' g row) (q, h, d) = row_drives_parts row (q, h, d)

    row_drives_parts : {m : _} (row : Row_of-Lval m) → AnyPart (row_parts_of row) → AnyDrives p row x b
    row_drives_parts end_of-Lval (q, h, d) = absurd h
    row_drives_parts (more_of-Lval a rest) (q, h, d) =
        elim (among_append (parts_of a) (row_parts_of rest) q h) [ inl f ↦ inl (drives_parts a (q, f, d)) | inr f ↦ inr (row_drives_parts rest (q, f, d)) ]
