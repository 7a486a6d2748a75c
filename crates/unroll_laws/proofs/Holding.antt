-- The values that a segment's registers and inputs hold.
use Rattle.std.proofs.Common.{◌≡◌, ◌≢◌, ℕ, zero, suc, ◌<◌, ◌^◌, ◌%◌, Bool, true, false, List, [], ◌∷◌, ◌++◌, Some, map, refl, sym, ap, ◌∙◌, subst, arith, inl, inr, ⊎_elim}
use Rattle.std.specs.Prelude.{◌⊎◌, nat_eq, nat_lt, if◌then◌else◌}
use Rattle.std.specs.List.{AllPairs}
use Rattle.std.proofs.Math.Nat.{mod-mod, mod-eq_of_lt}
use Rattle.elab_step_design.specs.SetDesigns.{is_active}
use Rattle.set_tree.specs.declared.set.Set.{Set}
use Rattle.vlog_tree_runs.specs.Places.{Name, Cycle, Among}
use Rattle.word_core.specs.Words.{Bits}
use Rattle.word_dag.specs.Nodes.{Naming}
use Rattle.word_dag.proofs.NodeValues.{width_at-map}
use Rattle.word_dag.proofs.Valued.{word_wide}
use Rattle.elab_step_design.specs.declared.design.Net.{Net}
use Rattle.elab_step_design.specs.declared.design.Register.{Register}
use Rattle.elab_step_design.specs.Designs.{Parts, IsDesign, IsNode, IsCycleOf, FollowsIn, naming_of, source, sources, word_in}
use Rattle.unroll_binding.specs.Binding.{Fits, same}
use Rattle.unroll_laws.specs.Segments.{cycle_number}
use Rattle.unroll_laws.specs.Tests.{held, level, number_in, register_at, seen, shown}
use Rattle.elab_step_expr.proofs.Fits.{words_fit}
use Rattle.unroll_laws.proofs.Fitting.{reset_there}
use Rattle.unroll_laws.proofs.Searches.{apart, different_text, finds, none_found, same_text}
use Rattle.unroll_laws.proofs.Sources.{AgreeAtFirst, source_word, words_agree}

-- ---- registers and inputs

pub among_right : {A : Type 0} (xs ys : List A) (x : A) → Among ys x → Among (xs ++ ys) x
among_right [] ys x m = m
among_right (y ∷ xs) ys x m = inr (among_right xs ys x m)

pub register_among : (rs : List Register) (ns : List Net) (r : Register) → Among rs r → Among (map source rs ++ ns) (source r)
register_among [] ns r m = absurd m
register_among (q ∷ rs) ns r m =
    ⊎_elim (λ (is : q ≡ r). inl (ap (λ (u : Register). source u) is)) (λ (in' : Among rs r). inr (register_among rs ns r in')) m

-- each source is a register or an input
pub either_source : (rs : List Register) (ns : List Net) (s : Net) → Among (map source rs ++ ns) s → ((r : Register) × Among rs r × (source r ≡ s)) ⊎ Among ns s
either_source [] ns s m = inr m
either_source (q ∷ rs) ns s m =
    ⊎_elim (λ (is : source q ≡ s). inl (q, inl refl, is))
    (λ (in' : Among (map source rs ++ ns) s). ⊎_elim (λ (there : (r : Register) × Among rs r × (source r ≡ s)). inl (there.0, inr there.1, there.2)) (λ (input : Among ns s). inr input) (either_source rs ns s in')) m

pub register_source : (d : Parts) (r : Register) → Among d.registers r → Among (sources d) (source r)
register_source d r m = register_among d.registers d.inputs r m

pub input_source : (d : Parts) (n : Net) → Among d.inputs n → Among (sources d) n
input_source d n m = among_right (map source d.registers) d.inputs n m

abbrev Distinct : List Net → Type 0
Distinct ss = AllPairs (λ x y. x ≢ y) (map (λ (s : Net). s.name) ss)

distinct_tail : (s : Net) (ss : List Net) → Distinct (s ∷ ss) → Distinct ss
distinct_tail s ss h i j d l k = h (suc i) (suc j) d (omega (arith, l)) (omega (arith, k))

distinct_head : (s : Net) (ss : List Net) → Distinct (s ∷ ss) → (t : Net) → Among ss t → s.name ≢ t.name
distinct_head s ss h t m = apart (λ (u : Net). u.name) ss s.name (λ j l. h 0 (suc j) [] (omega arith) (omega (arith, l))) t m

pub register_apart : (rs : List Register) (ns : List Net) → Distinct (map source rs ++ ns) → (r : Register) (n : Net) → Among rs r → Among ns n → r.name ≢ n.name
register_apart [] ns h r n m k = absurd m
register_apart (q ∷ rs) ns h r n m k =
    ⊎_elim (λ (is : q ≡ r). λ (clash : r.name ≡ n.name). distinct_head (source q) (map source rs ++ ns) h n (among_right (map source rs) ns n k) (ap (λ (u : Register). u.name) is ∙ clash))
    (λ (in' : Among rs r). register_apart rs ns (distinct_tail (source q) (map source rs ++ ns) h) r n in' k) m

pub register_found : (rs : List Register) (ns : List Net) → Distinct (map source rs ++ ns) → (r : Register) → Among rs r → register_at rs r.name ≡ Some r
register_found [] ns h r m = absurd m
register_found (q ∷ rs) ns h r m =
    ⊎_elim (λ (is : q ≡ r). (let hit = same_text q.name r.name (ap (λ (u : Register). u.name) is) in rw hit (ap (λ u. Some u) is)))
    (λ (in' : Among rs r).
    let miss = different_text q.name r.name (distinct_head (source q) (map source rs ++ ns) h (source r) (register_among rs ns r in')) in
    rw miss (register_found rs ns (distinct_tail (source q) (map source rs ++ ns) h) r in')) m

-- ---- levels of the reset

pub level_means : (a high : Bool) → nat_eq ((if same a high then 1 else 0) % 2 ^ 1) (if high then 1 else 0) ≡ a
level_means true true = refl
level_means true false = refl
level_means false true = refl
level_means false false = refl

module _ (d : Parts) (h : IsDesign d) (set : Set) (fits : Fits d set) where
  -- a node of a design has a word of its length
  pub node_word : (c : Cycle) (i w : ℕ) → IsNode d.nodes i w → word_in d c i ≡ record { width = w; value = number_in d c i }
  node_word c i w is =
      let wide : (word_in d c i).width ≡ w = word_wide (naming_of c) d.nodes i h.fit ∙ (sym (width_at-map d.nodes i) ∙ is.1) in
      λ p. record { width = wide p; value = (word_in d c i).value }

  pub seen_net : (c : Cycle) (n : Net) → Among d.nets n → seen d c n.name ≡ number_in d c n.node
  seen_net c n m = ap (λ o. shown d c o) (finds (λ (u : Net). u.name) d.nets h.distinct_nets n m)

  pub seen_source : (c : Cycle) (s : Net) → Among (sources d) s → seen d c s.name ≡ c s.name % 2 ^ s.width
  seen_source c s m = seen_net c s (h.among s m) ∙ ap (λ (b : Bits). b.value) (source_word d h c s m)

  pub seen_agrees : (c : Cycle) → AgreeAtFirst d (seen d c) c
  seen_agrees c s m = ap (λ u. u % 2 ^ s.width) (seen_source c s m) ∙ mod-mod (c s.name) (2 ^ s.width)

  -- the signals' values are a cycle
  pub seen_cycle : (c : Cycle) → IsCycleOf d (seen d c)
  seen_cycle c n m =
      words_agree d h (seen d c) c (seen_agrees c) n.node (h.net n m).0
      ∙ (node_word c n.node n.width (h.net n m) ∙ ap (λ u. (let b : Bits = record { width = n.width; value = u } in b)) (sym (seen_net c n m)))

  -- the reset is a source of one bit
  pub reset_source : (s : Net) × Among (sources d) s × Among d.inputs s × (s.name ≡ set.reset) × (s.width ≡ 1)
  reset_source =
      let there = reset_there d set fits in
      (there.net, among_right (map source d.registers) d.inputs there.net there.among, there.among, there.name, there.width)

  pub at_reset : (c e : Cycle) → ((s : Net) → Among (sources d) s → c s.name ≡ e s.name % 2 ^ s.width) → c set.reset ≡ e set.reset % 2 ^ 1
  at_reset c e all =
      let s = reset_source in
      subst (λ (x : Name). c x ≡ e x % 2 ^ 1) s.3 (subst (λ (w : ℕ). c s.0.name ≡ e s.0.name % 2 ^ w) s.4 (all s.0 s.1))

  register_no_reset : (r : Register) → Among d.registers r → r.name ≢ set.reset
  register_no_reset r m same =
      let s = reset_source in
      register_apart d.registers d.inputs h.distinct_sources r s.0 m s.2 (same ∙ sym s.3)

  module _ (k : ℕ) (e : Naming) where
    pub held_reset : (i : ℕ) → held d set k e i set.reset ≡ level set (nat_lt i k)
    held_reset zero = let here = same_text set.reset set.reset refl in rw here refl
    held_reset (suc i) = let here = same_text set.reset set.reset refl in rw here refl

    pub held_first : (r : Register) → Among d.registers r → held d set k e 0 r.name ≡ e r.name 0 (cycle_number k 0)
    held_first r m = let other = different_text r.name set.reset (register_no_reset r m) in rw other refl

    pub held_register : (i : ℕ) (r : Register) → Among d.registers r → held d set k e (suc i) r.name ≡ number_in d (held d set k e i) r.next
    held_register i r m =
        let other = different_text r.name set.reset (register_no_reset r m) in
        let some = register_found d.registers d.inputs h.distinct_sources r m in
        rw (other, some) refl

    pub held_input : (i : ℕ) (n : Net) → Among d.inputs n → n.name ≢ set.reset → held d set k e i n.name ≡ e n.name 0 (cycle_number k i)
    held_input zero n m differ = let other = different_text n.name set.reset differ in rw other refl
    held_input (suc i) n m differ =
        let other = different_text n.name set.reset differ in
        let none = none_found (λ (r : Register). r.name) d.registers n.name (λ r in'. register_apart d.registers d.inputs h.distinct_sources r n in' m) in
        rw (other, none) refl

    -- reset is active in the cycles before cycle 0
    pub held_active : (i : ℕ) → is_active set (seen d (held d set k e i)) ≡ nat_lt i k
    held_active i =
        ap (λ v. nat_eq v (if set.high then 1 else 0)) (at_reset (seen d (held d set k e i)) (held d set k e i) (seen_source (held d set k e i)) ∙ ap (λ u. u % 2 ^ 1) (held_reset i))
        ∙ level_means (nat_lt i k) set.high

    -- each cycle follows the one before
    pub held_follows : (i : ℕ) → FollowsIn d (seen d (held d set k e i)) (seen d (held d set k e (suc i)))
    held_follows i r m =
        let c = held d set k e i in
        let there = h.next r m in
        let word : word_in d c r.next ≡ record { width = r.width; value = number_in d c r.next } = node_word c r.next r.width there in
        let bound = words_fit (naming_of c) d.nodes r.next h.fit there.0 in
        let small : number_in d c r.next < 2 ^ r.width = subst (λ (b : Bits). number_in d c r.next < 2 ^ b.width) word bound.fits in
        let after : seen d (held d set k e (suc i)) r.name ≡ number_in d c r.next = seen_source (held d set k e (suc i)) (source r) (register_source d r m) ∙ (ap (λ u. u % 2 ^ r.width) (held_register i r m) ∙ mod-eq_of_lt small) in
        words_agree d h (seen d c) c (seen_agrees c) r.next there.0 ∙ (word ∙ ap (λ u. (let b : Bits = record { width = r.width; value = u } in b)) (sym after))
