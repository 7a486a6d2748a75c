-- Which fault of memories is the first.
use Rattle.std.proofs.Common.{◌≡◌, ℕ, ◌<◌, ◌≤◌, true, List, ◌++◌, length, filter, arith, subst, sym, ap, ◌∙◌}
use Rattle.std.specs.List.{flat_map}
use Rattle.vlog_tree.specs.declared.stmt.Lval.{Lval}
use Rattle.vlog_tree_runs.specs.declared.flat.Always.{Always}
use Rattle.vlog_tree_runs.specs.declared.flat.Flat.{Flat}
use Rattle.vlog_tree_runs.specs.Places.{Name, Among}
use Rattle.mem_laws.specs.declared.fault.MemFault.{MemFault}
use Rattle.mem_laws.specs.declared.fault.MemFault.TheVariants as m
use Rattle.elab_flat_drivers.specs.Claims.{part_name}
use Rattle.mem_laws.specs.Stands.{Stands, IsFaultless, IsWronglyKept}
use Rattle.mem_laws.specs.Uses.{memory_uses}
use Rattle.mem_faults.specs.Faults.{rank, IsFirstFault}
use Rattle.mem_faults.specs.Used.{memories_of, uses_of, whole_names, block_listed, is_indexed, is_nested}
use Rattle.mem_faults.proofs.Telling.{is_one, one_is, whole_by, by_whole, nested_by, by_nested, use_count}

-- no fault of a kind stands
abbrev pub Lacks : Flat → (Name → MemFault) → Type 0
Lacks f fault = (x : Name) → Stands f (fault x) → ⊥

module _ (f : Flat) where
  none_before : (n : ℕ) → (1 < n → Lacks f m.Twice) → (2 < n → Lacks f m.Whole) → (3 < n → Lacks f m.Nested) → (4 < n → Lacks f m.Kind) → (5 < n → Stands f m.Uses → ⊥) → (other : MemFault) → rank other < n → Stands f other → ⊥
  none_before n a b c d e (m.Twice x) lt h = a lt x h
  none_before n a b c d e (m.Whole x) lt h = b lt x h
  none_before n a b c d e (m.Nested x) lt h = c lt x h
  none_before n a b c d e (m.Kind x) lt h = d lt x h
  none_before n a b c d e m.Uses lt h = e lt h
  none_before n a b c d e m.Memory lt h = h

  pub first_twice : (x : Name) → Stands f (m.Twice x) → IsFirstFault f (m.Twice x)
  first_twice x h = record { stands = h; first = none_before 1 (λ lt. absurd (omega arith)) (λ lt. absurd (omega arith)) (λ lt. absurd (omega arith)) (λ lt. absurd (omega arith)) (λ lt. absurd (omega arith)) }

  pub first_whole : (x : Name) → Lacks f m.Twice → Stands f (m.Whole x) → IsFirstFault f (m.Whole x)
  first_whole x a h = record { stands = h; first = none_before 2 (λ lt. a) (λ lt. absurd (omega arith)) (λ lt. absurd (omega arith)) (λ lt. absurd (omega arith)) (λ lt. absurd (omega arith)) }

  pub first_nested : (x : Name) → Lacks f m.Twice → Lacks f m.Whole → Stands f (m.Nested x) → IsFirstFault f (m.Nested x)
  first_nested x a b h = record { stands = h; first = none_before 3 (λ lt. a) (λ lt. b) (λ lt. absurd (omega arith)) (λ lt. absurd (omega arith)) (λ lt. absurd (omega arith)) }

  pub first_kind : (x : Name) → Lacks f m.Twice → Lacks f m.Whole → Lacks f m.Nested → Stands f (m.Kind x) → IsFirstFault f (m.Kind x)
  first_kind x a b c h = record { stands = h; first = none_before 4 (λ lt. a) (λ lt. b) (λ lt. c) (λ lt. absurd (omega arith)) (λ lt. absurd (omega arith)) }

  pub first_uses : Lacks f m.Twice → Lacks f m.Whole → Lacks f m.Nested → Lacks f m.Kind → Stands f m.Uses → IsFirstFault f m.Uses
  first_uses a b c d h = record { stands = h; first = none_before 5 (λ lt. a) (λ lt. b) (λ lt. c) (λ lt. d) (λ lt. absurd (omega arith)) }

  pub faultless : Lacks f m.Twice → Lacks f m.Whole → Lacks f m.Nested → Lacks f m.Kind → (Stands f m.Uses → ⊥) → IsFaultless f
  faultless a b c d e (m.Twice x) h = a x h
  faultless a b c d e (m.Whole x) h = b x h
  faultless a b c d e (m.Nested x) h = c x h
  faultless a b c d e (m.Kind x) h = d x h
  faultless a b c d e m.Uses h = e h
  faultless a b c d e m.Memory h = h

-- ---- what the tests of the code tell

module _ (f : Flat) (ms : List Name) (qs : List Lval) (e : ms ≡ memories_of f) (g : qs ≡ uses_of f) where
  abbrev InWholes : List Always → Name → Type 0
  InWholes bs x = Among (flat_map whole_names qs ++ flat_map block_listed bs) x

  same_wholes : (bs : List Always) → bs ≡ f.blocks → flat_map whole_names qs ++ flat_map block_listed bs ≡ flat_map whole_names (uses_of f) ++ flat_map block_listed f.blocks
  same_wholes bs h = λ i. flat_map whole_names (g i) ++ flat_map block_listed (h i)

  pub tells_whole : (bs : List Always) (x : Name) → bs ≡ f.blocks → InWholes bs x × Among ms x → Stands f (m.Whole x)
  tells_whole bs x h k =
      (is_one f x (subst (λ z. Among z x) e k.1), whole_by f x (subst (λ z. Among z x) (same_wholes bs h) k.0))

  pub lacks_whole : (bs : List Always) → bs ≡ f.blocks → ((x : Name) → InWholes bs x → Among ms x → ⊥) → Lacks f m.Whole
  lacks_whole bs h fails x k =
      fails x (subst (λ z. Among z x) (sym (same_wholes bs h)) (by_whole f x k.1)) (subst (λ z. Among z x) (sym e) (one_is f x k.0))

  pub tells_nested : (x : Name) → ((q : Lval) × Among qs q × (is_nested ms q ≡ true) × (part_name q ≡ x)) → Stands f (m.Nested x)
  tells_nested x (q, h, k, n) = nested_by f x q (subst (λ z. Among z q) g h) (ap (λ z. is_nested z q) (sym e) ∙ k) n

  pub lacks_nested : ((q : Lval) → Among qs q → is_nested ms q ≡ true → ⊥) → Lacks f m.Nested
  lacks_nested fails x = by_nested f (λ q h k. fails q (subst (λ z. Among z q) (sym g) h) (ap (λ z. is_nested z q) e ∙ k)) x

  pub tells_kind : (x : Name) → Among ms x × IsWronglyKept f x → Stands f (m.Kind x)
  tells_kind x h = (is_one f x (subst (λ z. Among z x) e h.0), h.1)

  pub lacks_kind : ((x : Name) → Among ms x → IsWronglyKept f x → ⊥) → Lacks f m.Kind
  lacks_kind fails x h = fails x (subst (λ z. Among z x) (sym e) (one_is f x h.0)) h.1

  counted : (n : ℕ) → n ≡ length (filter (is_indexed ms) qs) → n ≡ length (memory_uses f)
  counted n h = h ∙ ((λ i. length (filter (is_indexed (e i)) (g i))) ∙ sym (use_count f))

  pub tells_uses : (n : ℕ) → n ≡ length (filter (is_indexed ms) qs) → 1024 < n → Stands f m.Uses
  tells_uses n h lt = let k = counted n h in omega arith

  pub lacks_uses : (n : ℕ) → n ≡ length (filter (is_indexed ms) qs) → n ≤ 1024 → Stands f m.Uses → ⊥
  lacks_uses n h le s = let k = counted n h in omega arith
