-- The run that rows of inputs give.
use Rattle.std.proofs.Common.{◌≡◌, ◌≢◌, ℕ, zero, suc, ◌+◌, ◌-◌, ◌<◌, ◌≤◌, ◌^◌, ◌%◌, Bool, true, false, not, List, [], ◌∷◌, ◌++◌, Option, Some, None, length, drop, map, refl, sym, ap, ◌∙◌, subst, arith, inl, inr}
use Rattle.std.specs.Prelude.{pos, ◌+ℤ◌, ◌-ℤ◌, ◌&&◌, cond, filter, is_some, slice_get, slice_index, IfOk, Result, Ok, Err, unwrap_or, if◌then◌else◌}
use Rattle.std.specs.List.{All, AllZip}
use Rattle.std.specs.Borrow.{Bor}
use Rattle.std.specs.Option.{option_copied}
use Rattle.std.specs.Slice.{IsItemAt}
use Rattle.std.specs.Str.{bytes_eq}
use Rattle.std.proofs.Math.Nat.{mod-eq_of_lt}
use Rattle.std.proofs.lemmas.Bool.{and_parts, cases_Bool}
use Rattle.std.proofs.lemmas.Int.{ints}
use Rattle.std.proofs.lemmas.List.Elements.{All-head, All-tail}
use Rattle.std.proofs.lemmas.Nat.{pow_pos}
use Rattle.std.proofs.lemmas.Slice.Eq.{bytes_eq-Decides}
use Rattle.set_tree.specs.declared.set.Name.{Name}
use Rattle.set_tree.specs.declared.set.Role.{Role}
use Rattle.set_tree.specs.declared.set.Role.TheVariants as role
use Rattle.set_tree.specs.declared.set.Set.{Set}
use Rattle.set_tree.specs.Meaning.{Row}
use Rattle.set_tree.specs.Parts.{is_input}
use Rattle.set_tree.specs.Runs.{IsRun}
use Rattle.vlog_tree_runs.specs.Places.{Among}
use Rattle.vlog_tree_runs.specs.Places.{Name as Text}
use Rattle.elab_flat_scopes.specs.Finding.{place_from}
use Rattle.elab_flat_scopes.proofs.Finding.{got}
use Rattle.word_dag.specs.Nodes.{Naming}
use Rattle.elab_step_design.specs.declared.design.Net.{Net}
use Rattle.elab_step_design.specs.declared.design.Register.{Register}
use Rattle.elab_step_design.specs.Designs.{IsDesign, Parts}
use Rattle.elab_step_design.specs.Laws.{DesignCycle, word_design}
use Rattle.unroll_binding.specs.declared.fault.BindFault.TheVariants as f
use Rattle.unroll_binding.specs.Binding.{Fits, is_clock_or_reset, is_other_role, net_at}
use Rattle.unroll_binding.specs.Binding.{is_input as is_design_input}
use Rattle.unroll_laws.specs.Segments.{cycle_number}
use Rattle.unroll_laws.specs.Tests.{rows_from}
use Rattle.unroll_laws.proofs.Fitting.{name_there}
use Rattle.unroll_laws.proofs.Holding.{input_source, register_apart}
use Rattle.unroll_laws.proofs.Running.{made, made_active, made_append, made_inactive, made_inputs, made_length, made_registers, made_run, made_trace}
use Rattle.unroll_laws.proofs.Searches.{different_text, finds, found}
use Rattle.path_machine.specs.Rows.{inputs_of}
use Rattle.path_machine.specs.Runs.{BeginsAt0, IsInputRow, IsRunTrace, TakesRows, given}
use Rattle.path_machine.specs.Stimuli.{IsGivenBy, given_by, name_of, placed, row_at, stimulus}

-- ---- the value that a row gives

pub given_named : (inputs : List Name) (row : Row) (x : Text) → given_by (map name_of inputs) row x ≡ given inputs row x
given_named [] row x = refl
given_named (input ∷ inputs) [] x = refl
given_named (input ∷ inputs) (u ∷ row) x = ap (λ v. if bytes_eq input.name x then u else v) (given_named inputs row x)

given_nothing : (names : List Text) (x : Text) → 0 ≡ given_by names [] x
given_nothing [] x = refl
given_nothing (name ∷ names) x = refl

-- behind the last row there is nothing
pub given_past : (names : List Text) (rows : List Row) (i : ℕ) (x : Text) (r : Option (Bor Row)) → IsItemAt rows i r → r ≡ None → 0 ≡ given_by names (row_at rows i) x
given_past names rows i x r item past = given_nothing names x ∙ ap (λ (row : Row). given_by names row x) (sym (none_at rows i (sym (got rows i r item) ∙ ap option_copied past)))
  where
    none_at : (rs : List Row) (k : ℕ) → slice_get rs k ≡ None → row_at rs k ≡ []
    none_at [] k is = refl
    none_at (row ∷ rs) zero is = absurd (let bad : Some row ≡ None = is in cc)
    none_at (row ∷ rs) (suc k) is = none_at rs k is

-- it is that at the place of the name
pub given_nowhere : (i : ℕ) (names : List Text) (row : Row) (x : Text) → place_from i names x ≡ None → 0 ≡ given_by names row x
given_nowhere i [] row x is = refl
given_nowhere i (name ∷ names) [] x is = refl
given_nowhere i (name ∷ names) (u ∷ row) x is = elim (cases_Bool (bytes_eq name x)) [
  | inl hit ↦ absurd (let bad : Some i ≡ None = rw hit at is in cc)
  | inr miss ↦ rw miss (given_nowhere (suc i) names row x (rw miss at is))
]

past_place : (i k : ℕ) (names : List Text) (x : Text) → place_from i names x ≡ Some k → i ≤ k
past_place i k [] x is = absurd (let bad : None ≡ Some k = is in cc)
past_place i k (name ∷ names) x is = elim (cases_Bool (bytes_eq name x)) [
  | inl hit ↦ (let here : Some i ≡ Some k = rw hit at is in let same : i ≡ k = cc in omega (arith, same))
  | inr miss ↦ (let rest = past_place (suc i) k names x (rw miss at is) in omega (arith, rest))
]

given_from : (i k : ℕ) (names : List Text) (row : Row) (x : Text) → place_from i names x ≡ Some k → slice_index row (k - i) ≡ given_by names row x
given_from i k [] row x is = absurd (let bad : None ≡ Some k = is in cc)
given_from i k (name ∷ names) [] x is = refl
given_from i k (name ∷ names) (u ∷ row) x is = elim (cases_Bool (bytes_eq name x)) [
  | inl hit ↦ (
      let here : Some i ≡ Some k = rw hit at is in
      let same : i ≡ k = cc in
      let start : k - i ≡ 0 = omega (arith, same) in
      rw (start, hit) refl)
  | inr miss ↦ (
      let there : place_from (suc i) names x ≡ Some k = rw miss at is in
      let le = past_place (suc i) k names x there in
      let next : k - i ≡ suc (k - suc i) = omega (arith, le) in
      rw (next, miss) (given_from (suc i) k names row x there))
]

pub given_there : (k : ℕ) (names : List Text) (row : Row) (x : Text) → place_from 0 names x ≡ Some k → slice_index row k ≡ given_by names row x
given_there k names row x is = ap (slice_index row) (let e : k ≡ k - 0 = omega arith in e) ∙ given_from 0 k names row x is

-- ---- cycles

-- the value in the cycle at a position
pub stimulus_at : (names : List Text) (k : ℕ) (rows : List Row) (x : Text) (i : ℕ) → stimulus names k rows x 0 (cycle_number k i) ≡ given_by names (row_at rows i) x
stimulus_at names k rows x i =
    let back : pos i -ℤ pos k +ℤ pos k ≡ pos i = omega (arith, ints) in
    ap (λ t. placed (λ j. given_by names (row_at rows j) x) t) back

-- the naming of rows has their values
pub given_same : (names own : List Text) (k j : ℕ) (rows read : List Row) → own ≡ names → j ≡ k → read ≡ rows → IsGivenBy own j read (stimulus names k rows)
given_same names own k j rows read listed count same = λ x t.
    ap (λ (ns : List Text). stimulus ns k rows x 0 t) (sym listed) ∙ (ap (λ n. stimulus own n rows x 0 t) (sym count) ∙ ap (λ (rs : List Row). stimulus own j rs x 0 t) (sym same))

-- ---- the inputs of a set

chosen : (p : Name → Bool) (xs : List Name) (x : Name) → Among (filter p xs) x → Among xs x × (p x ≡ true)
chosen p [] x m = absurd m
chosen p (y ∷ xs) x m = elim (cases_Bool (p y)) [
  | inl hit ↦ first hit (subst (λ (b : Bool). Among (cond b (y ∷ filter p xs) (filter p xs)) x) hit m) (chosen p xs x)
  | inr miss ↦ (let rest = chosen p xs x (subst (λ (b : Bool). Among (cond b (y ∷ filter p xs) (filter p xs)) x) miss m) in (inr rest.0, rest.1))
]
  where
    first : p y ≡ true → Among (y ∷ filter p xs) x → (Among (filter p xs) x → Among xs x × (p x ≡ true)) → Among (y ∷ xs) x × (p x ≡ true)
    first hit (inl same) later = (inl same, ap p (sym same) ∙ hit)
    first hit (inr there) later = let rest = later there in (inr rest.0, rest.1)

role_is : (r : Role) → is_input r ≡ true → r ≡ role.Input
role_is role.Input is = refl
role_is role.Output is = absurd cc
role_is role.State is = absurd cc

some_net : (o : Option Net) → is_some o ≡ true → (n : Net) × (o ≡ Some n)
some_net None is = absurd cc
some_net (Some n) is = (n, refl)

module _ (d : Parts) (h : IsDesign d) (set : Set) (fits : Fits d set) where
  -- an input of the set is one of the design
  design_input : (x : Name) → Among (inputs_of set) x → (n : Net) × Among d.inputs n × (n.name ≡ x.name)
  design_input x m =
      let there = chosen (λ (n : Name). is_input n.role) set.names x m in
      let good : not (is_design_input d x.name && not (is_clock_or_reset d set x.name)) ≡ false = by (is_design_input d x.name && not (is_clock_or_reset d set x.name)) (λ bad. fits (f.Role x.name) (inl (x, there.0, subst (λ r. is_other_role d set (record { name = x.name; role = r; width = x.width; low = x.low; signed = x.signed; domain = x.domain }) ≡ true) (sym (role_is x.role there.1)) bad, refl))) in
      let is = (and_parts (is_design_input d x.name) (not (is_clock_or_reset d set x.name)) (turned (is_design_input d x.name && not (is_clock_or_reset d set x.name)) good)).0 in
      let one = some_net (net_at d.inputs x.name) is in
      let at = found (λ (n : Net). n.name) d.inputs x.name one.0 one.1 in
      (one.0, at.0, at.1)
    where
      by : (b : Bool) → (not b ≡ true → ⊥) → not b ≡ false
      by true h = refl
      by false h = absurd (h refl)

      turned : (b : Bool) → not b ≡ false → b ≡ true
      turned true is = refl
      turned false is = absurd cc

  -- and has its length
  input_width : (x : Name) (n : Net) → Among (inputs_of set) x → Among d.inputs n → n.name ≡ x.name → n.width ≡ x.width
  input_width x n m there same =
      let t = name_there d set fits x (chosen (λ (y : Name). is_input y.role) set.names x m).0 in
      let own = finds (λ (y : Net). y.name) d.nets h.distinct_nets n (h.among n (input_source d n there)) in
      let both : Some n ≡ Some t.net = sym own ∙ (ap (net_at d.nets) same ∙ t.is) in
      let one : n ≡ t.net = cc in
      ap (λ (y : Net). y.width) one ∙ t.width

  -- a register is no input of the set
  register_other : (r : Register) → Among d.registers r → (x : Name) → Among (inputs_of set) x → x.name ≢ r.name
  register_other r m x there same =
      let n = design_input x there in
      register_apart d.registers d.inputs h.distinct_sources r n.0 m n.1 (sym same ∙ sym n.2)

  -- ---- the values of a row

  not_given : (inputs : List Name) (row : Row) (x : Text) → ((y : Name) → Among inputs y → y.name ≢ x) → given inputs row x ≡ 0
  not_given [] row x other = refl
  not_given (input ∷ inputs) [] x other = refl
  not_given (input ∷ inputs) (u ∷ row) x other =
      let miss = different_text input.name x (other input (inl refl)) in
      rw miss (not_given inputs row x (λ y m. other y (inr m)))

  given_small : (inputs : List Name) (row : Row) (x : Text) (w : ℕ) → AllZip (λ (input : Name) u. u < 2 ^ input.width) inputs row → ((y : Name) → Among inputs y → y.name ≡ x → y.width ≡ w) → given inputs row x < 2 ^ w
  given_small [] row x w all wide = pow_pos w
  given_small (input ∷ inputs) [] x w all wide = absurd all
  given_small (input ∷ inputs) (u ∷ row) x w all wide = elim (cases_Bool (bytes_eq input.name x)) [
    | inl hit ↦ (
        let same = (bytes_eq-Decides input.name x).0 hit in
        let own : u < 2 ^ w = subst (λ v. u < 2 ^ v) (wide input (inl refl) same) all.0 in
        rw hit own)
    | inr miss ↦ rw miss (given_small inputs row x w all.1 (λ y m same. wide y (inr m) same))
  ]

  -- ---- the run

  module _ (rows : List Row) (fit : All (IsInputRow set) rows) where
    abbrev pub values : Naming
    values = stimulus (map name_of (inputs_of set)) set.cycles rows

    begins_at : (n : ℕ) → BeginsAt0 d (made d h set fits set.cycles values 0 n)
    begins_at zero = tt
    begins_at (suc n) = λ r m.
        let named = made_registers d h set fits set.cycles values (suc n) r m in
        let nothing : values r.name 0 (cycle_number set.cycles 0) ≡ 0 =
        stimulus_at (map name_of (inputs_of set)) set.cycles rows r.name 0 ∙ (given_named (inputs_of set) (row_at rows 0) r.name ∙ not_given (inputs_of set) (row_at rows 0) r.name (register_other r m)) in
        named ∙ (ap (λ u. u % 2 ^ r.width) nothing ∙ mod-eq_of_lt (pow_pos r.width))

    takes_from : (rest : List Row) (i : ℕ) → drop i rows ≡ rest → All (IsInputRow set) rest → TakesRows d set rest (made d h set fits set.cycles values i (length rest))
    takes_from [] i is all = tt
    takes_from (row ∷ rest) i is all = (
      λ n m other.
          let named = (made_inputs d h set fits set.cycles values i (suc (length rest))).0 n m other in
          let here : row_at rows i ≡ row = first_of rows i row rest is in
          let value : values n.name 0 (cycle_number set.cycles i) ≡ given (inputs_of set) row n.name =
          stimulus_at (map name_of (inputs_of set)) set.cycles rows n.name i ∙ (ap (λ (r : Row). given_by (map name_of (inputs_of set)) r n.name) here ∙ given_named (inputs_of set) row n.name) in
          let small = given_small (inputs_of set) row n.name n.width (All-head (IsInputRow set) row rest all) (λ y there same. sym (input_width y n there m (sym same))) in
          named ∙ (ap (λ u. u % 2 ^ n.width) value ∙ mod-eq_of_lt small),
      takes_from rest (suc i) (rest_of rows i row rest is) (All-tail (IsInputRow set) row rest all),
    )
      where
        first_of : (xs : List Row) (j : ℕ) (y : Row) (ys : List Row) → drop j xs ≡ y ∷ ys → row_at xs j ≡ y
        first_of [] zero y ys e = absurd (let bad : [] ≡ y ∷ ys = e in cc)
        first_of [] (suc j) y ys e = absurd (let bad : [] ≡ y ∷ ys = e in cc)
        first_of (x ∷ xs) zero y ys e = let all : x ∷ xs ≡ y ∷ ys = e in cc
        first_of (x ∷ xs) (suc j) y ys e = first_of xs j y ys e

        rest_of : (xs : List Row) (j : ℕ) (y : Row) (ys : List Row) → drop j xs ≡ y ∷ ys → drop (suc j) xs ≡ ys
        rest_of [] zero y ys e = absurd (let bad : [] ≡ y ∷ ys = e in cc)
        rest_of [] (suc j) y ys e = absurd (let bad : [] ≡ y ∷ ys = e in cc)
        rest_of (x ∷ xs) zero y ys e = let all : x ∷ xs ≡ y ∷ ys = e in cc
        rest_of (x ∷ xs) (suc j) y ys e = rest_of xs j y ys e

    pub run_is : (n : ℕ) (trace : List Row) → length rows ≡ set.cycles + n → trace ≡ rows_from d set set.cycles values set.cycles n → IsRunTrace (word_design d set) d set rows trace
    run_is n trace long is =
        let k = set.cycles in
        let start : 0 + k ≡ k = omega arith in
        let joined : made d h set fits k values 0 (k + n) ≡ made d h set fits k values 0 k ++ made d h set fits k values k n = made_append d h set fits k values 0 k n ∙ ap (λ i. made d h set fits k values 0 k ++ made d h set fits k values i n) start in
        record {
          resets = made d h set fits k values 0 k;
          cycles = made d h set fits k values k n;
          from_reset = record {
            run = subst (λ (cs : List (DesignCycle d)). IsRun (word_design d set) cs) joined (made_run d h set fits k values 0 (k + n));
            count = made_length d h set fits k values 0 k;
            active = made_active d h set fits k values 0 k (omega arith);
            inactive = made_inactive d h set fits k values k n (omega arith);
          };
          begins = subst (λ (cs : List (DesignCycle d)). BeginsAt0 d cs) joined (begins_at (k + n));
          takes = subst (λ (cs : List (DesignCycle d)). TakesRows d set rows cs) joined (subst (λ m. TakesRows d set rows (made d h set fits k values 0 m)) long (takes_from rows 0 refl fit));
          is = is ∙ sym (made_trace d h set fits k values k n);
        }

-- ---- rows of a segment

pub rows_many : (d : Parts) (set : Set) (k : ℕ) (e : Naming) (i n : ℕ) → length (rows_from d set k e i n) ≡ n
rows_many d set k e i zero = refl
rows_many d set k e i (suc n) = ap suc (rows_many d set k e (suc i) n)

pub rows_behind : (d : Parts) (set : Set) (k : ℕ) (e : Naming) (i j n : ℕ) → drop j (rows_from d set k e i (j + n)) ≡ rows_from d set k e (i + j) n
rows_behind d set k e i zero n =
    let none : zero + n ≡ n = omega arith in
    let start : i + zero ≡ i = omega arith in
    rw (none, start) refl
rows_behind d set k e i (suc j) n =
    let more : suc j + n ≡ suc (j + n) = omega arith in
    let next : i + suc j ≡ suc i + j = omega arith in
    rw (more, next) (rows_behind d set k e (suc i) j n)

-- the rows behind the reset cycles
pub later_is : (d : Parts) (set : Set) (rows : List Row) (e : Naming) (resets count from : ℕ) (all later : List Row) → all ≡ rows_from d set resets e 0 count → resets ≡ set.cycles → count ≡ length rows → from ≡ set.cycles → set.cycles ≤ length rows → later ≡ drop from all →
    later ≡ rows_from d set set.cycles e set.cycles (length rows - set.cycles)
later_is d set rows e resets count from all later made first many behind enough is =
    let k = set.cycles in
    let n = length rows - k in
    let whole : count ≡ k + n = omega (arith, many, enough) in
    let start : 0 + k ≡ k = omega arith in
    let all_is : all ≡ rows_from d set k e 0 (k + n) = made ∙ (ap (λ j. rows_from d set j e 0 count) first ∙ ap (rows_from d set k e 0) whole) in
    is ∙ (ap (λ j. drop j all) behind ∙ (ap (λ (rs : List Row). drop k rs) all_is ∙ (rows_behind d set k e 0 k n ∙ ap (λ i. rows_from d set k e i n) start)))

pub all_long : (d : Parts) (set : Set) (rows : List Row) (e : Naming) (resets count from : ℕ) (all : List Row) → all ≡ rows_from d set resets e 0 count → count ≡ length rows → from ≡ set.cycles → set.cycles ≤ length rows → from ≤ length all
all_long d set rows e resets count from all made many behind enough =
    let long : length all ≡ count = ap (λ (rs : List Row). length rs) made ∙ rows_many d set resets e 0 count in
    omega (arith, long, many, behind, enough)

-- ---- results

pub if_ok_map : {T E : Type 0} (r : Result T E) (P Q : T → Type 0) → ((t : T) → P t → Q t) → IfOk r P → IfOk r Q
if_ok_map (Ok t) P Q to is = to t is
if_ok_map (Err e) P Q to is = is

pub index_is : (row : List ℕ) (k : ℕ) → unwrap_or (slice_get row k) 0 ≡ slice_index row k
index_is [] k = refl
index_is (u ∷ row) zero = refl
index_is (u ∷ row) (suc k) = index_is row k
