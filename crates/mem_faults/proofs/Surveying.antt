-- Names and uses that a loop looks for, one after another.
use Rattle.std.proofs.Common.{◌≡◌, ℕ, zero, suc, ◌+◌, ◌<◌, ◌≤◌, ◌&&◌, ◌||◌, not, nat_eq, Bool, true, false, cond, ◌⊎◌, inl, inr, List, [], ◌∷◌, ◌++◌, map, filter, length, drop, get_or, drop_of_length-le, refl, sym, ap, ◌∙◌, subst, arith}
use Rattle.std.specs.List.{flat_map, list_any}
use Rattle.std.specs.Str.{bytes_eq}
use Rattle.vlog_tree.specs.declared.stmt.Lval.{Lval}
use Rattle.vlog_tree_runs.specs.declared.flat.Signal.{Signal}
use Rattle.vlog_tree_runs.specs.Places.{Name, Among}
use Rattle.vlog_tree_runs.specs.Blocks.{left_names}
use Rattle.vlog_tree_runs.specs.Contents.{is_among}
use Rattle.elab_flat_laws.proofs.Lists.{among_append, append_left, append_right}
use Rattle.elab_flat_drivers.specs.declared.parts.Part.{Part}
use Rattle.elab_flat_drivers.specs.Parts.{part_meant}
use Rattle.elab_flat_drivers.proofs.Naming.{among_of, of_among}
use Rattle.mem_faults.specs.Used.{memory_names}
use Rattle.mem_faults.proofs.Growing.{cut}
use Rattle.mem_faults.proofs.Telling.{both_true, true_both, kept_one}

-- ---- a name in a list of parts

module _ (ms : List Name) (ps : List Part) (i : ℕ) where
  abbrev from : ℕ → Bool
  from k = list_any (is_among ms) (flat_map left_names (map part_meant (drop k ps)))

  here : (p : Part) (x : Name) → i < length ps → p ≡ get_or ps i p → left_names (part_meant p) ≡ x ∷ [] → from i ≡ is_among ms x || from (i + 1)
  here p x lt is e =
      ap (λ z. list_any (is_among ms) (flat_map left_names (map part_meant z))) (cut ps i p lt is)
      ∙ ap (λ z. list_any (is_among ms) (z ++ flat_map left_names (map part_meant (drop (i + 1) ps)))) e

  pub any_here : (p : Part) (x : Name) (whole : Bool) → i < length ps → p ≡ get_or ps i p → left_names (part_meant p) ≡ x ∷ [] → is_among ms x ≡ true → from i ≡ whole → true ≡ whole
  any_here p x whole lt is e t h = sym (here p x lt is e ∙ ap (λ (b : Bool). b || from (i + 1)) t) ∙ h

  pub any_later : (p : Part) (x : Name) (whole : Bool) → i < length ps → p ≡ get_or ps i p → left_names (part_meant p) ≡ x ∷ [] → is_among ms x ≡ false → from i ≡ whole → from (i + 1) ≡ whole
  any_later p x whole lt is e t h = sym (here p x lt is e ∙ ap (λ (b : Bool). b || from (i + 1)) t) ∙ h

  pub any_nowhere : (whole : Bool) → length ps ≤ i → from i ≡ whole → false ≡ whole
  any_nowhere whole le h = sym (ap (λ z. list_any (is_among ms) (flat_map left_names (map part_meant z))) (drop_of_length-le ps {i = i} le)) ∙ h

-- ---- a part that passes a test

module _ (test : Lval → Bool) (ps : List Part) (i : ℕ) where
  pub part_later : (p : Part) (q : Lval) → i < length ps → p ≡ get_or ps i p → test (part_meant p) ≡ false → test q ≡ true → Among (map part_meant (drop i ps)) q → Among (map part_meant (drop (i + 1) ps)) q
  part_later p q lt is fails ok h = after (subst (λ z. Among (map part_meant z) q) (cut ps i p lt is) h)
    where
      after : (part_meant p ≡ q) ⊎ Among (map part_meant (drop (i + 1) ps)) q → Among (map part_meant (drop (i + 1) ps)) q
      after (inl e) = absurd (let k : false ≡ true = sym fails ∙ (ap test e ∙ ok) in cc)
      after (inr k) = k

  pub part_nowhere : (q : Lval) → length ps ≤ i → Among (map part_meant (drop i ps)) q → ⊥
  part_nowhere q le h = subst (λ z. Among (map part_meant z) q) (drop_of_length-le ps {i = i} le) h

  abbrev passing : ℕ → ℕ
  passing k = length (filter test (map part_meant (drop k ps)))

  counted : (p : Part) (t : Bool) → i < length ps → p ≡ get_or ps i p → test (part_meant p) ≡ t → passing i ≡ cond t (1 + passing (i + 1)) (passing (i + 1))
  counted p t lt is h =
      ap (λ z. length (filter test (map part_meant z))) (cut ps i p lt is)
      ∙ (ap length (kept_one test (part_meant p) (map part_meant (drop (i + 1) ps)) t h) ∙ by_test t)
    where
      by_test : (t : Bool) → length (cond t (part_meant p ∷ filter test (map part_meant (drop (i + 1) ps))) (filter test (map part_meant (drop (i + 1) ps)))) ≡ cond t (1 + passing (i + 1)) (passing (i + 1))
      by_test true = omega arith
      by_test false = refl

  fits : (t : Bool) (n r q rest whole : ℕ) → q ≡ cond t (1 + rest) rest → r ≡ cond t 1 0 → n + q ≡ whole → n + r + rest ≡ whole
  fits true n r q rest whole e h k = omega arith
  fits false n r q rest whole e h k = omega arith

  pub one_passed : (p : Part) (n r whole : ℕ) → i < length ps → p ≡ get_or ps i p → r ≡ cond (test (part_meant p)) 1 0 → n + passing i ≡ whole → n + r + passing (i + 1) ≡ whole
  one_passed p n r whole lt is h e = fits (test (part_meant p)) n r (passing i) (passing (i + 1)) whole (counted p (test (part_meant p)) lt is refl) h e

  pub all_counted : (n whole : ℕ) → length ps ≤ i → n + passing i ≡ whole → n ≡ whole
  all_counted n whole le e =
      let k : passing i ≡ 0 = ap (λ z. length (filter test (map part_meant z))) (drop_of_length-le ps {i = i} le) in
      omega arith

-- ---- memories that no name of a list is

module _ (gs : List Signal) (i : ℕ) (g : Signal) (lt : i < length gs) (is : g ≡ get_or gs i g) where
  memory_at : (x : Name) (t : Bool) → nat_eq g.depth 0 ≡ t → Among (flat_map memory_names (drop i gs)) x → Among (cond t [] (g.name ∷ [])) x ⊎ Among (flat_map memory_names (drop (i + 1) gs)) x
  memory_at x t e h =
      among_append (cond t [] (g.name ∷ [])) (flat_map memory_names (drop (i + 1) gs)) x
      (subst (λ (b : Bool). Among (cond b [] (g.name ∷ []) ++ flat_map memory_names (drop (i + 1) gs)) x) e (subst (λ z. Among (flat_map memory_names z) x) (cut gs i g lt is) h))

  turned : (b : Bool) → not b ≡ true → b ≡ false
  turned true h = sym h
  turned false h = refl

  -- the memory at this place isn't among the names
  pub left_out : (ns : List Name) → not (nat_eq g.depth 0) && not (is_among ns g.name) ≡ true → Among ns g.name → ⊥
  left_out ns h k =
      let r = both_true (not (nat_eq g.depth 0)) (not (is_among ns g.name)) h in
      let m : false ≡ true = sym (turned (is_among ns g.name) r.1) ∙ of_among ns g.name k in
      absurd (cc)

  pub is_memory_here : (ns : List Name) → not (nat_eq g.depth 0) && not (is_among ns g.name) ≡ true → Among (flat_map memory_names (drop i gs)) g.name
  is_memory_here ns h =
      let r = both_true (not (nat_eq g.depth 0)) (not (is_among ns g.name)) h in
      let k = turned (nat_eq g.depth 0) r.0 in
      subst (λ z. Among (flat_map memory_names z) g.name) (sym (cut gs i g lt is))
      (subst (λ (b : Bool). Among (cond b [] (g.name ∷ []) ++ flat_map memory_names (drop (i + 1) gs)) g.name) (sym k) (inl refl))

  pub passed_memory : (ns : List Name) (x : Name) → not (nat_eq g.depth 0) && not (is_among ns g.name) ≡ false → (Among ns x → ⊥) → Among (flat_map memory_names (drop i gs)) x → Among (flat_map memory_names (drop (i + 1) gs)) x
  passed_memory ns x h out k = by_depth (nat_eq g.depth 0) refl
    where
      among_it : (b : Bool) → not (nat_eq g.depth 0) ≡ true → is_among ns g.name ≡ b → g.name ≡ x → ⊥
      among_it true d e f = out (subst (λ z. Among ns z) f (among_of ns g.name e))
      among_it false d e f =
          let m : false ≡ true = sym h ∙ true_both (not (nat_eq g.depth 0)) (not (is_among ns g.name)) d (ap not e) in
          absurd (cc)

      by_depth : (t : Bool) → nat_eq g.depth 0 ≡ t → Among (flat_map memory_names (drop (i + 1) gs)) x
      by_depth true d = elim (memory_at x true d k) [ inl z ↦ absurd z | inr m ↦ m ]
      by_depth false d = elim (memory_at x false d k) [
        | inl m ↦ elim m [ inl f ↦ absurd (among_it (is_among ns g.name) (ap not d) refl f) | inr z ↦ absurd z ]
        | inr m ↦ m
      ]

pub memory_dropped : (gs : List Signal) (i : ℕ) (x : Name) → Among (flat_map memory_names (drop i gs)) x → Among (flat_map memory_names gs) x
memory_dropped [] zero x h = h
memory_dropped [] (suc i) x h = h
memory_dropped (g ∷ gs) zero x h = h
memory_dropped (g ∷ gs) (suc i) x h = append_right (memory_names g) (flat_map memory_names gs) x (memory_dropped gs i x h)

pub memories_passed : (gs : List Signal) (i : ℕ) (x : Name) → length gs ≤ i → Among (flat_map memory_names (drop i gs)) x → ⊥
memories_passed gs i x le h = subst (λ z. Among (flat_map memory_names z) x) (drop_of_length-le gs {i = i} le) h
