-- The run that values name, and that there is no other.
use Rattle.std.proofs.Common.{◌≡◌, ◌≢◌, ℕ, zero, suc, ◌+◌, ◌<◌, ◌≤◌, ◌^◌, ◌%◌, Bool, true, false, List, [], ◌∷◌, ◌++◌, length, map, refl, sym, ap, ◌∙◌, subst, arith, inl, inr, ⊎_elim}
use Rattle.std.specs.Prelude.{nat_eq, nat_lt, if◌then◌else◌}
use Rattle.std.specs.List.{All}
use Rattle.std.proofs.Math.Nat.{mod-mod, mod-lt}
use Rattle.std.specs.Str.{bytes_eq}
use Rattle.std.proofs.lemmas.Bool.{cases_Bool, eqb-true}
use Rattle.std.proofs.lemmas.Slice.Eq.{bytes_eq-Decides}
use Rattle.std.proofs.lemmas.List.Elements.{All-cons, All-head, All-nil, All-tail}
use Rattle.std.proofs.lemmas.Nat.{pow_pos}
use Rattle.elab_step_design.specs.SetDesigns.{is_active, row_of}
use Rattle.set_tree.specs.declared.set.Name.{Name as Declared}
use Rattle.set_tree.specs.declared.set.Set.{Set}
use Rattle.set_tree.specs.Meaning.{Row}
use Rattle.set_tree.specs.Runs.{GoesOnTo, IsRun, trace_of}
use Rattle.set_tree.specs.Traces.{IsRow, IsTrace}
use Rattle.vlog_tree_runs.specs.Places.{Name, Cycle, Among}
use Rattle.word_core.specs.Words.{Bits}
use Rattle.word_dag.specs.Nodes.{Naming}
use Rattle.elab_step_design.specs.declared.design.Net.{Net}
use Rattle.elab_step_design.specs.declared.design.Register.{Register}
use Rattle.elab_step_design.specs.Designs.{Parts, IsDesign, FollowsIn, naming_of, source}
use Rattle.elab_step_design.specs.Laws.{DesignCycle, word_design}
use Rattle.unroll_binding.specs.Binding.{Fits, same}
use Rattle.unroll_laws.specs.Segments.{cycle_number, HasNamedInputs, HasNamedRegisters, IsAsNamed, IsNamedBy}
use Rattle.unroll_laws.specs.Laws.{IsNamedRun, RowsAreOfRuns}
use Rattle.unroll_laws.specs.Tests.{held, number_in, row_at, rows_from, seen, segment_rows}
use Rattle.elab_step_expr.proofs.Fits.{words_fit}
use Rattle.unroll_laws.proofs.Fitting.{name_there}
use Rattle.unroll_laws.proofs.Holding.{at_reset, either_source, held_active, held_first, held_follows, held_input, held_register, held_reset, input_source, node_word, register_source, seen_cycle, seen_net, seen_source}
use Rattle.unroll_laws.proofs.Sources.{AgreeAtFirst, cycle_fits, words_agree}

-- functions that agree on the elements
pub map_agree : {A B : Type 0} (f g : A → B) (xs : List A) → ((x : A) → Among xs x → f x ≡ g x) → map f xs ≡ map g xs
map_agree f g [] all = refl
map_agree f g (x ∷ xs) all =
    let here = all x (inl refl) in
    let rest = map_agree f g xs (λ y m. all y (inr m)) in
    cc

-- the level that a reset input of one bit has
other_level : (u : ℕ) (a high : Bool) → u < 2 → nat_eq u (if high then 1 else 0) ≡ a → u ≡ (if same a high then 1 else 0)
other_level u true true small is = eqb-true u 1 is
other_level u true false small is = eqb-true u 0 is
other_level zero false true small is = refl
other_level (suc zero) false true small is = absurd cc
other_level (suc (suc u)) false true small is = absurd (omega arith)
other_level zero false false small is = absurd cc
other_level (suc zero) false false small is = refl
other_level (suc (suc u)) false false small is = absurd (omega arith)

module _ (d : Parts) (h : IsDesign d) (set : Set) (fits : Fits d set) (k : ℕ) (e : Naming) where
  -- ---- the cycles that the values make

  -- the cycle at a position
  abbrev pub whole : ℕ → DesignCycle d
  whole i = (seen d (held d set k e i), seen_cycle d h set fits (held d set k e i))

  abbrev pub made : ℕ → ℕ → List (DesignCycle d)
  made i zero = []
  made i (suc n) = whole i ∷ made (suc i) n

  pub made_length : (i n : ℕ) → length (made i n) ≡ n
  made_length i zero = refl
  made_length i (suc n) = ap suc (made_length (suc i) n)

  pub made_trace : (i n : ℕ) → trace_of (word_design d set) (made i n) ≡ rows_from d set k e i n
  made_trace i zero = refl
  made_trace i (suc n) = ap (λ (rows : List Row). row_at d set k e i ∷ rows) (made_trace (suc i) n)

  goes_on : (i n : ℕ) → GoesOnTo (word_design d set) (whole i) (made (suc i) n)
  goes_on i zero = tt
  goes_on i (suc n) = held_follows d h set fits k e i

  pub made_run : (i n : ℕ) → IsRun (word_design d set) (made i n)
  made_run i zero = tt
  made_run i (suc n) = (goes_on i n, made_run (suc i) n)

  pub made_append : (i a b : ℕ) → made i (a + b) ≡ made i a ++ made (i + a) b
  made_append i zero b =
      let none : zero + b ≡ b = omega arith in
      let start : i + zero ≡ i = omega arith in
      rw (none, start) refl
  made_append i (suc a) b =
      let more : suc a + b ≡ suc (a + b) = omega arith in
      let next : i + suc a ≡ suc i + a = omega arith in
      rw (more, next) (ap (λ cs. whole i ∷ cs) (made_append (suc i) a b))

  level_at : (i : ℕ) (b : Bool) → nat_lt i k ≡ b → (word_design d set).is_reset (whole i) ≡ b
  level_at i b is = held_active d h set fits k e i ∙ is

  pub made_active : (i n : ℕ) → i + n ≤ k → All (λ c. (word_design d set).is_reset c ≡ true) (made i n)
  made_active i zero le = All-nil (λ c. (word_design d set).is_reset c ≡ true)
  made_active i (suc n) le =
      All-cons (λ c. (word_design d set).is_reset c ≡ true) (whole i) (made (suc i) n) (level_at i true (before i (omega (arith, le)))) (made_active (suc i) n (omega (arith, le)))
    where
      before : (i : ℕ) → i < k → nat_lt i k ≡ true
      before i lt = grind arith

  pub made_inactive : (i n : ℕ) → k ≤ i → All (λ c. (word_design d set).is_reset c ≡ false) (made i n)
  made_inactive i zero le = All-nil (λ c. (word_design d set).is_reset c ≡ false)
  made_inactive i (suc n) le =
      All-cons (λ c. (word_design d set).is_reset c ≡ false) (whole i) (made (suc i) n) (level_at i false (past i le)) (made_inactive (suc i) n (omega (arith, le)))
    where
      past : (i : ℕ) → k ≤ i → nat_lt i k ≡ false
      past i le = grind arith

  pub made_inputs : (i n : ℕ) → HasNamedInputs d set k e i (made i n)
  made_inputs i zero = tt
  made_inputs i (suc n) = (
    λ s m differ. seen_source d h set fits (held d set k e i) s (input_source d s m) ∙ ap (λ u. u % 2 ^ s.width) (held_input d h set fits k e i s m differ),
    made_inputs (suc i) n,
  )

  pub made_registers : (n : ℕ) → HasNamedRegisters d k e (made 0 n)
  made_registers zero = tt
  made_registers (suc n) = λ r m.
      seen_source d h set fits (held d set k e 0) (source r) (register_source d r m) ∙ ap (λ u. u % 2 ^ r.width) (held_first d h set fits k e r m)

  pub made_named : (n : ℕ) → IsNamedBy d set k e (made 0 n)
  made_named n = record { registers = made_registers n; inputs = made_inputs 0 n }

  -- ---- no other cycles

  -- the cycles hold what the values make them hold
  abbrev pub Holds : ℕ → List (DesignCycle d) → Type 0
  Holds i [] = Unit {0}
  Holds i (c ∷ cycles) = AgreeAtFirst d c.0 (held d set k e i) × Holds (suc i) cycles

  -- reset is active in the cycles before cycle 0
  abbrev pub HasLevels : ℕ → List (DesignCycle d) → Type 0
  HasLevels i [] = Unit {0}
  HasLevels i (c ∷ cycles) = (is_active set c.0 ≡ nat_lt i k) × HasLevels (suc i) cycles

  reset_agrees : (i : ℕ) (c : DesignCycle d) → is_active set c.0 ≡ nat_lt i k → c.0 set.reset ≡ held d set k e i set.reset
  reset_agrees i c is =
      let cut = at_reset d h set fits c.0 c.0 (cycle_fits d h c.0 c.1) in
      let small : c.0 set.reset < 2 = subst (λ u. u < 2) (sym cut) (mod-lt (c.0 set.reset) (pow_pos 1)) in
      other_level (c.0 set.reset) (nat_lt i k) set.high small is ∙ sym (held_reset d h set fits k e i)

  input_agrees : (i : ℕ) (c : DesignCycle d) → ((n : Net) → Among d.inputs n → n.name ≢ set.reset → IsAsNamed e (cycle_number k i) c.0 n) → is_active set c.0 ≡ nat_lt i k →
      (n : Net) → Among d.inputs n → c.0 n.name % 2 ^ n.width ≡ held d set k e i n.name % 2 ^ n.width
  input_agrees i c named is n m = elim (cases_Bool (bytes_eq n.name set.reset)) [
    | inl hit ↦
        let same : n.name ≡ set.reset = (bytes_eq-Decides n.name set.reset).0 hit in
        ap (λ u. u % 2 ^ n.width) (subst (λ (x : Name). c.0 x ≡ held d set k e i x) (sym same) (reset_agrees i c is))
    | inr miss ↦
        let differ : n.name ≢ set.reset = λ same. (let hit : bytes_eq n.name set.reset ≡ true = (bytes_eq-Decides n.name set.reset).1 same in let clash : true ≡ false = sym hit ∙ miss in cc) in
        ap (λ u. u % 2 ^ n.width) (named n m differ) ∙ (mod-mod (e n.name 0 (cycle_number k i)) (2 ^ n.width) ∙ ap (λ u. u % 2 ^ n.width) (sym (held_input d h set fits k e i n m differ)))
  ]

  first_agrees : (c : DesignCycle d) (cycles : List (DesignCycle d)) → HasNamedRegisters d k e (c ∷ cycles) → HasNamedInputs d set k e 0 (c ∷ cycles) → HasLevels 0 (c ∷ cycles) → AgreeAtFirst d c.0 (held d set k e 0)
  first_agrees c cycles registers inputs levels s m =
      ⊎_elim (λ (there : (r : Register) × Among d.registers r × (source r ≡ s)).
      let r = there.0 in
      let here : c.0 r.name % 2 ^ r.width ≡ held d set k e 0 r.name % 2 ^ r.width = ap (λ u. u % 2 ^ r.width) (registers r there.1) ∙ (mod-mod (e r.name 0 (cycle_number k 0)) (2 ^ r.width) ∙ ap (λ u. u % 2 ^ r.width) (sym (held_first d h set fits k e r there.1))) in
      subst (λ (t : Net). c.0 t.name % 2 ^ t.width ≡ held d set k e 0 t.name % 2 ^ t.width) there.2 here)
      (λ (in' : Among d.inputs s). input_agrees 0 c inputs.0 levels.0 s in') (either_source d.registers d.inputs s m)

  next_agrees : (i : ℕ) (b c : DesignCycle d) → AgreeAtFirst d b.0 (held d set k e i) → FollowsIn d b.0 c.0 → ((n : Net) → Among d.inputs n → n.name ≢ set.reset → IsAsNamed e (cycle_number k (suc i)) c.0 n) → is_active set c.0 ≡ nat_lt (suc i) k → AgreeAtFirst d c.0 (held d set k e (suc i))
  next_agrees i b c before follows named is s m =
      ⊎_elim (λ (there : (r : Register) × Among d.registers r × (source r ≡ s)).
      let r = there.0 in
      let same = words_agree d h b.0 (held d set k e i) before r.next (h.next r there.1).0 in
      let here : c.0 r.name ≡ held d set k e (suc i) r.name = ap (λ (w : Bits). w.value) (sym (follows r there.1) ∙ same) ∙ sym (held_register d h set fits k e i r there.1) in
      subst (λ (t : Net). c.0 t.name % 2 ^ t.width ≡ held d set k e (suc i) t.name % 2 ^ t.width) there.2 (ap (λ u. u % 2 ^ r.width) here))
      (λ (in' : Among d.inputs s). input_agrees (suc i) c named is s in') (either_source d.registers d.inputs s m)

  later_hold : (i : ℕ) (b : DesignCycle d) (cycles : List (DesignCycle d)) → AgreeAtFirst d b.0 (held d set k e i) → IsRun (word_design d set) (b ∷ cycles) → HasNamedInputs d set k e (suc i) cycles → HasLevels (suc i) cycles → Holds (suc i) cycles
  later_hold i b [] before run inputs levels = tt
  later_hold i b (c ∷ cycles) before run inputs levels =
      let here = next_agrees i b c before run.0 inputs.0 levels.0 in
      (here, later_hold (suc i) c cycles here run.1 inputs.1 levels.1)

  pub all_hold : (cycles : List (DesignCycle d)) → IsRun (word_design d set) cycles → IsNamedBy d set k e cycles → HasLevels 0 cycles → Holds 0 cycles
  all_hold [] run named levels = tt
  all_hold (c ∷ cycles) run named levels =
      let here = first_agrees c cycles named.registers named.inputs levels in
      (here, later_hold 0 c cycles here run named.inputs.1 levels.1)

  pub hold_after : (i : ℕ) (resets cycles : List (DesignCycle d)) → Holds i (resets ++ cycles) → Holds (i + length resets) cycles
  hold_after i [] cycles all = let none : i + 0 ≡ i = omega arith in rw none all
  hold_after i (c ∷ resets) cycles all = let next : i + suc (length resets) ≡ suc i + length resets = omega arith in rw next (hold_after (suc i) resets cycles all.1)

  -- ---- rows

  value_agrees : (c : DesignCycle d) (f : Cycle) → AgreeAtFirst d c.0 f → (n : Declared) → Among set.names n → c.0 n.name ≡ seen d f n.name
  value_agrees c f agree n m =
      let there = name_there d set fits n m in
      let net = there.net in
      let here : c.0 net.name ≡ seen d f net.name = ap (λ (w : Bits). w.value) (sym (c.1 net there.among) ∙ words_agree d h c.0 f agree net.node (h.net net there.among).0) ∙ sym (seen_net d h set fits f net there.among) in
      subst (λ (x : Name). c.0 x ≡ seen d f x) there.name here

  pub rows_hold : (i : ℕ) (cycles : List (DesignCycle d)) → Holds i cycles → trace_of (word_design d set) cycles ≡ rows_from d set k e i (length cycles)
  rows_hold i [] all = refl
  rows_hold i (c ∷ cycles) all =
      let here : row_of set c.0 ≡ row_at d set k e i = map_agree (λ (n : Declared). c.0 n.name) (λ (n : Declared). seen d (held d set k e i) n.name) set.names (value_agrees c (held d set k e i) all.0) in
      let rest = rows_hold (suc i) cycles all.1 in
      ap (λ (r : Row). r ∷ trace_of (word_design d set) cycles) here ∙ ap (λ (rs : List Row). row_at d set k e i ∷ rs) rest

  value_fits : (f : Cycle) (n : Declared) → Among set.names n → seen d f n.name < 2 ^ n.width
  value_fits f n m =
      let there = name_there d set fits n m in
      let net = there.net in
      let is = h.net net there.among in
      let bound = words_fit (naming_of f) d.nodes net.node h.fit is.0 in
      let small : number_in d f net.node < 2 ^ net.width = subst (λ (b : Bits). number_in d f net.node < 2 ^ b.width) (node_word d h set fits f net.node net.width is) bound.fits in
      let value : seen d f net.name ≡ number_in d f net.node = seen_net d h set fits f net there.among in
      subst (λ (x : Name). seen d f x < 2 ^ n.width) there.name (subst (λ w. seen d f net.name < 2 ^ w) there.width (subst (λ u. u < 2 ^ net.width) (sym value) small))

  row_fits : (i : ℕ) (names : List Declared) → ((n : Declared) → Among names n → seen d (held d set k e i) n.name < 2 ^ n.width) → IsRow names (map (λ (n : Declared). seen d (held d set k e i) n.name) names)
  row_fits i [] all = tt
  row_fits i (n ∷ names) all = (all n (inl refl), row_fits i names (λ m in'. all m (inr in')))

  pub rows_fit : (i n : ℕ) → IsTrace set (rows_from d set k e i n)
  rows_fit i zero = All-nil (IsRow set.names)
  rows_fit i (suc n) = All-cons (IsRow set.names) _ _ (row_fits i set.names (value_fits (held d set k e i))) (rows_fit (suc i) n)

  -- ---- runs

  levels_past : (i : ℕ) (cycles : List (DesignCycle d)) → k ≤ i → All (λ c. (word_design d set).is_reset c ≡ false) cycles → HasLevels i cycles
  levels_past i [] le all = tt
  levels_past i (c ∷ cycles) le all =
      (All-head (λ c. (word_design d set).is_reset c ≡ false) c cycles all ∙ sym past, levels_past (suc i) cycles (omega (arith, le)) (All-tail (λ c. (word_design d set).is_reset c ≡ false) c cycles all))
    where
      past : nat_lt i k ≡ false
      past = grind arith

  -- reset is active in its cycles alone
  pub levels_of : (i : ℕ) (resets cycles : List (DesignCycle d)) → i + length resets ≡ k → All (λ c. (word_design d set).is_reset c ≡ true) resets → All (λ c. (word_design d set).is_reset c ≡ false) cycles → HasLevels i (resets ++ cycles)
  levels_of i [] cycles count active inactive = levels_past i cycles (omega (arith, count)) inactive
  levels_of i (c ∷ resets) cycles count active inactive =
      (All-head (λ c. (word_design d set).is_reset c ≡ true) c resets active ∙ sym before, levels_of (suc i) resets cycles (omega (arith, count)) (All-tail (λ c. (word_design d set).is_reset c ≡ true) c resets active) inactive)
    where
      before : nat_lt i k ≡ true
      before = grind (arith, count)

  pub only_rows : (end : ℕ) (resets cycles : List (DesignCycle d)) → IsNamedRun d set k e resets cycles → length cycles ≡ end + 1 → trace_of (word_design d set) cycles ≡ segment_rows d set k e end
  only_rows end resets cycles run size =
      let levels = levels_of 0 resets cycles (omega (arith, run.count)) run.active run.inactive in
      let all = hold_after 0 resets cycles (all_hold (resets ++ cycles) run.run run.named levels) in
      let start : 0 + length resets ≡ k = omega (arith, run.count) in
      let here : Holds k cycles = subst (λ i. Holds i cycles) start all in
      rows_hold k cycles here ∙ ap (λ n. rows_from d set k e k n) size

  pub a_run : (end : ℕ) → IsNamedRun d set k e (made 0 k) (made k (end + 1))
  a_run end =
      let start : 0 + k ≡ k = omega arith in
      let joined : made 0 (k + (end + 1)) ≡ made 0 k ++ made k (end + 1) = made_append 0 k (end + 1) ∙ ap (λ i. made 0 k ++ made i (end + 1)) start in
      record {
        run = subst (λ cs. IsRun (word_design d set) cs) joined (made_run 0 (k + (end + 1)));
        count = made_length 0 k;
        active = made_active 0 k (omega arith);
        inactive = made_inactive k (end + 1) (omega arith);
        named = subst (λ cs. IsNamedBy d set k e cs) joined (made_named (k + (end + 1)));
      }

pub rows_are_of_runs : (d : Parts) (set : Set) → IsDesign d → Fits d set → RowsAreOfRuns d set
rows_are_of_runs d set h fits = record {
  some = λ k e end. (made d h set fits k e 0 k, made d h set fits k e k (end + 1), a_run d h set fits k e end, made_trace d h set fits k e k (end + 1));
  only = λ k e end resets cycles run size. only_rows d h set fits k e end resets cycles run size;
  trace = λ k e end. rows_fit d h set fits k e k (end + 1);
}
