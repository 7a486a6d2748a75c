-- What the faults that are looked for leave.
use Rattle.std.proofs.Common.{◌≡◌, ℕ, ◌+◌, Bool, true, false, not, ◌&&◌, List, [], ◌∷◌, ◌++◌, drop, refl, sym, ◌∙◌, subst, inl, inr, ⊎_elim}
use Rattle.std.specs.Prelude.{if◌then◌else◌}
use Rattle.std.specs.List.{flat_map}
use Rattle.vlog_tree_runs.specs.declared.flat.Flat.{Flat}
use Rattle.vlog_tree_runs.specs.declared.flat.TopPort.{TopPort}
use Rattle.vlog_tree_runs.specs.Places.{Name, Among}
use Rattle.vlog_tree_runs.specs.Contents.{is_among}
use Rattle.vlog_tree_runs.specs.Cycles.{IsInput, IsRegister}
use Rattle.vlog_tree_values.proofs.Facts.{both_true}
use Rattle.elab_flat_laws.proofs.Lists.{among_append, flat_among}
use Rattle.elab_flat_faults.specs.declared.elaborating.ElabFault.TheVariants as f
use Rattle.elab_flat_faults.specs.ElabStands.{Stands}
use Rattle.elab_flat_drivers.proofs.Naming.{among_of, of_among}
use Rattle.elab_step_nets.specs.Asked.{CanElaborate, IsFaultless}
use Rattle.elab_step.specs.Asked.{IsCleanButLoops, HasNoFault}
use Rattle.elab_step.specs.Parts.{input_name}
use Rattle.elab_step.specs.Sources.{clocked_names}
use Rattle.elab_step.proofs.Ordering.{inputs_in, in_inputs}
use Rattle.elab_step.proofs.Tracks.{clocked_register, register_clocked}

pub clean : (m : Flat) → ((x : Name) → Stands m (f.Kind x) → ⊥) → ((x : Name) (n : ℕ) → Stands m (f.Drivers x n) → ⊥) → ((x : Name) (n : ℕ) → Stands m (f.Undriven x n) → ⊥) → ((x : Name) → Stands m (f.Latch x) → ⊥) → ((x : Name) → Stands m (f.Sensitivity x) → ⊥)
    → IsCleanButLoops m
clean m k d u l s (f.Latch x) h = absurd (l x h)
clean m k d u l s (f.Loop x) h = (x, refl)
clean m k d u l s (f.Drivers x n) h = absurd (d x n h)
clean m k d u l s (f.Undriven x n) h = absurd (u x n h)
clean m k d u l s (f.Sensitivity x) h = absurd (s x h)
clean m k d u l s (f.Kind x) h = absurd (k x h)
clean m k d u l s f.Memory h = absurd h

-- ---- inputs, one after another

-- a port that isn't such an input is passed
pub input_passed : (ps : List TopPort) (i : ℕ) (p : TopPort) (names : List Name) → drop i ps ≡ p ∷ drop (i + 1) ps → (not p.output && is_among names p.name) ≡ false → (x : Name) → Among names x
    → Among (flat_map input_name (drop i ps)) x → Among (flat_map input_name (drop (i + 1) ps)) x
input_passed ps i p names cut test x k m =
    let n : Among (input_name p ++ flat_map input_name (drop (i + 1) ps)) x = subst (λ z. Among (flat_map input_name z) x) cut m in
    ⊎_elim (λ u. by p.output test u) (λ u. u) (among_append (input_name p) (flat_map input_name (drop (i + 1) ps)) x n)
  where
    by : (b : Bool) → (not b && is_among names p.name) ≡ false → Among (if b then [] else p.name ∷ []) x → Among (flat_map input_name (drop (i + 1) ps)) x
    by true t u = absurd u
    by false t (inl e) = let z : true ≡ false = sym (of_among names p.name (subst (λ y. Among names y) (sym e) k)) ∙ t in cc
    by false t (inr u) = absurd u

pub input_found : (ps : List TopPort) (p : TopPort) (names : List Name) → Among ps p → (not p.output && is_among names p.name) ≡ true → Among (flat_map input_name ps) p.name × Among names p.name
input_found ps p names m test =
    let b = both_true (not p.output) (is_among names p.name) test in (flat_among input_name ps p p.name m (by p.output b.0), among_of names p.name b.1)
  where
    by : (b : Bool) → not b ≡ true → Among (if b then [] else p.name ∷ []) p.name
    by true t = let z : false ≡ true = t in cc
    by false t = inl refl

-- ---- inputs that clocked blocks assign

pub taken : (m : Flat) → CanElaborate m → (x : Name) → Among (flat_map input_name m.ports) x → Among (clocked_names m) x → IsInput m x × IsRegister m x
taken m can x i r =
    let input = in_inputs m x i in
    let g = can.ports input.0 input.1 in
    let named : g.0.name ≡ x = g.2 ∙ input.3 in
    (input, subst (IsRegister m) named (clocked_register m can.plain g.0 g.1 (subst (λ z. Among (clocked_names m) z) (sym named) r)))

pub none_taken : (m : Flat) → CanElaborate m → ((x : Name) → Among (flat_map input_name m.ports) x → Among (clocked_names m) x → ⊥) → (x : Name) → IsInput m x → IsRegister m x → ⊥
none_taken m can h x i r = h x (inputs_in m x i) (register_clocked m can.plain x r)

-- ---- no fault

pub faultless : (m : Flat) → IsCleanButLoops m → ((x : Name) → Stands m (f.Loop x) → ⊥) → IsFaultless m
faultless m clean none e h = let r = clean e h in none r.0 (subst (Stands m) r.1 h)

pub fault_free : (m : Flat) → IsFaultless m → ((x : Name) → IsInput m x → IsRegister m x → ⊥) → HasNoFault m
fault_free m clean apart e (inl h) = clean e h
fault_free m clean apart (f.Kind x) (inr h) = apart x h.0 h.1
fault_free m clean apart (f.Latch x) (inr h) = h
fault_free m clean apart (f.Loop x) (inr h) = h
fault_free m clean apart (f.Drivers x n) (inr h) = h
fault_free m clean apart (f.Undriven x n) (inr h) = h
fault_free m clean apart (f.Sensitivity x) (inr h) = h
fault_free m clean apart f.Memory (inr h) = h
