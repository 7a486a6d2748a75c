-- Modules whose runs a bound design has have runs from reset.
use Rattle.std.proofs.Common.{◌≡◌, ℕ, zero, suc, ◌+◌, ◌^◌, ◌%◌, false, List, [], ◌∷◌, ◌++◌, length, map, refl, sym, ap, ◌∙◌, subst, arith, append-nil}
use Rattle.std.specs.Prelude.{pos, nat_abs, ◌+ℤ◌, ◌-ℤ◌}
use Rattle.std.proofs.lemmas.Int.{ints}
use Rattle.std.proofs.lemmas.List.Elements.{All-nil}
use Rattle.vlog_tree.specs.declared.module.Module.{Module}
use Rattle.vlog_tree_runs.specs.declared.flat.Flat.{Flat}
use Rattle.vlog_tree_runs.specs.Places.{Cycle, Name}
use Rattle.elab_flat_laws.specs.Flattened.{KeepsRuns}
use Rattle.set_tree.specs.declared.set.Set.{Set}
use Rattle.set_tree.specs.Runs.{Design, IsRun}
use Rattle.elab_step_design.specs.SetDesigns.{CycleFrom, design_from}
use Rattle.word_dag.specs.Nodes.{Naming}
use Rattle.elab_step_design.specs.Designs.{HasRunsOf, IsDesign, Parts}
use Rattle.elab_step_design.specs.Laws.{DesignCycle, word_design}
use Rattle.unroll_binding.specs.Binding.{Fits}
use Rattle.unroll_laws.specs.Segments.{HasNamedInputs, HasNamedRegisters, cycle_number}
use Rattle.unroll_laws.specs.Tests.{rows_from}
use Rattle.unroll_laws.proofs.Running.{rows_are_of_runs}
use Rattle.unroll_laws.specs.Existence.{BeginsWith, BoundModulesRun, HasRunFromReset, Takes}
use Rattle.unroll_laws.proofs.Carried.{from_reset, map_append, steps_to_modules, to_modules}

-- the values as those of free words, k of the positions standing before cycle 0
abbrev naming_of : ℕ → (ℕ → Cycle) → Naming
naming_of k values x side t = values (nat_abs (t +ℤ pos k)) x

named_there : (k : ℕ) (values : ℕ → Cycle) (i : ℕ) (x : Name) → naming_of k values x 0 (cycle_number k i) ≡ values i x
named_there k values i x =
    let back : pos i -ℤ pos k +ℤ pos k ≡ pos i = omega (arith, ints) in
    ap (λ t. values (nat_abs t) x) back

many : {A B : Type 0} (f : A → B) (xs : List A) → length (map f xs) ≡ length xs
many f [] = refl
many f (x ∷ xs) = ap suc (many f xs)

rows_many : (d : Parts) (set : Set) (k : ℕ) (e : Naming) (i n : ℕ) → length (rows_from d set k e i n) ≡ n
rows_many d set k e i zero = refl
rows_many d set k e i (suc n) = ap suc (rows_many d set k e (suc i) n)

-- the first part of a run is a run
first_part : {A : Type 0} (d : Design A) (xs ys : List A) → IsRun d (xs ++ ys) → IsRun d xs
first_part d [] ys h = tt
first_part d (x ∷ []) ys h = (tt, tt)
first_part d (x ∷ y ∷ xs) ys h = (h.0, first_part d (y ∷ xs) ys h.1)

module _ (ms : List Module) (top : Name) (d : Parts) (set : Set) (values : ℕ → Cycle) where
  begins_first : (xs ys : List (CycleFrom ms top)) → BeginsWith ms top d (values 0) (xs ++ ys) → BeginsWith ms top d (values 0) xs
  begins_first [] ys h = tt
  begins_first (x ∷ xs) ys h = h

  takes_first : (i : ℕ) (xs ys : List (CycleFrom ms top)) → Takes ms top d set values i (xs ++ ys) → Takes ms top d set values i xs
  takes_first i [] ys h = tt
  takes_first i (x ∷ xs) ys h = (h.0, takes_first (suc i) xs ys h.1)

  -- without its cycles a run from reset is its reset cycles
  without_cycles : {n : ℕ} → HasRunFromReset ms top d set values n → HasRunFromReset ms top d set values 0
  without_cycles h =
      let none : h.resets ≡ h.resets ++ [] = sym (append-nil h.resets) in
      let before = h.resets in
      record {
        resets = before;
        cycles = [];
        from_reset = record {
          run = subst (λ cs. IsRun (design_from ms top set) cs) none (first_part (design_from ms top set) before h.cycles h.from_reset.run);
          count = h.from_reset.count;
          active = h.from_reset.active;
          inactive = All-nil (λ c. (design_from ms top set).is_reset c ≡ false);
        };
        size = refl;
        begins = subst (λ cs. BeginsWith ms top d (values 0) cs) none (begins_first before h.cycles h.begins);
        takes = subst (λ cs. Takes ms top d set values 0 cs) none (takes_first 0 before h.cycles h.takes);
      }

  module _ (f : Flat) (keeps : KeepsRuns ms top f) (runs : HasRunsOf f d) (k : ℕ) where
    abbrev to : DesignCycle d → CycleFrom ms top
    to c = to_modules ms top f d keeps runs c

    begins : (cs : List (DesignCycle d)) → HasNamedRegisters d k (naming_of k values) cs → BeginsWith ms top d (values 0) (map to cs)
    begins [] h = tt
    begins (c ∷ cs) h = λ r m. h r m ∙ ap (λ u. u % 2 ^ r.width) (named_there k values 0 r.name)

    takes : (i : ℕ) (cs : List (DesignCycle d)) → HasNamedInputs d set k (naming_of k values) i cs → Takes ms top d set values i (map to cs)
    takes i [] h = tt
    takes i (c ∷ cs) h = (λ n m other. h.0 n m other ∙ ap (λ u. u % 2 ^ n.width) (named_there k values i n.name), takes (suc i) cs h.1)

  module _ (f : Flat) (keeps : KeepsRuns ms top f) (runs : HasRunsOf f d) (h : IsDesign d) (fits : Fits d set) where
    -- a run with a cycle after reset
    some_cycles : (n : ℕ) → HasRunFromReset ms top d set values (suc n)
    some_cycles n =
        let k = set.cycles in
        let named = (rows_are_of_runs d set h fits).some k (naming_of k values) n in
        let rs = named.0 in
        let cs = named.1 in
        let run = named.2 in
        let carry = to f keeps runs k in
        let steps = steps_to_modules ms top f d set keeps runs in
        let joined = map_append (word_design d set) (design_from ms top set) carry steps (λ a. refl) (λ a. refl) rs cs in
        let long : length cs ≡ n + 1 = sym (many (word_design d set).row cs) ∙ (ap length named.3 ∙ rows_many d set k (naming_of k values) k (n + 1)) in
        record {
          resets = map carry rs;
          cycles = map carry cs;
          from_reset = from_reset (word_design d set) (design_from ms top set) carry steps (λ a. refl) (λ a. refl) set rs cs
              (record { run = run.run; count = run.count; active = run.active; inactive = run.inactive });
          size = many carry cs ∙ (long ∙ omega arith);
          begins = subst (λ zs. BeginsWith ms top d (values 0) zs) joined (begins f keeps runs k (rs ++ cs) run.named.registers);
          takes = subst (λ zs. Takes ms top d set values 0 zs) joined (takes f keeps runs k 0 (rs ++ cs) run.named.inputs);
        }

pub bound_modules_run : BoundModulesRun
bound_modules_run ms top f d set keeps runs h fits values zero = without_cycles ms top d set values (some_cycles ms top d set values f keeps runs h fits 0)
bound_modules_run ms top f d set keeps runs h fits values (suc n) = some_cycles ms top d set values f keeps runs h fits n
