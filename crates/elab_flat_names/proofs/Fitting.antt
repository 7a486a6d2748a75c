-- What an instance's outputs are connected to.
use Rattle.std.proofs.Common.{◌≡◌, inl, inr, Bool, true, false, not, List, map, Option, Some, Bor, refl, sym, ap, subst, ◌∙◌}
use Rattle.std.specs.Prelude.{IsTrue, ◌↔◌}
use Rattle.std.specs.Option.{option_copied}
use Rattle.std.proofs.lemmas.Bool.{cases_Bool}
use Rattle.vlog_tree.specs.declared.expr.Expr.{Expr}
use Rattle.vlog_tree.specs.declared.module.Module.{Module}
use Rattle.vlog_tree_runs.specs.Places.{Name, Among}
use Rattle.vlog_tree_runs.specs.Contents.{Decl, Inner, instances_in, port_names, signals_in}
use Rattle.vlog_tree_runs.specs.Scopes.{Scope, Given, given_to, decl_at, place_of}
use Rattle.elab_flat_faults.specs.declared.flattening.FlatFault.TheVariants as f
use Rattle.elab_flat_faults.specs.Declaring.{IsAssignable}
use Rattle.elab_flat_faults.specs.FlatStands.{Refuses, inside}
use Rattle.elab_flat_scopes.specs.Finding.{decl_name}
use Rattle.elab_flat_names.specs.Assignable.{is_assignable}
use Rattle.elab_flat_names.specs.Rows.{IsBadGiven, IsBadOutput, HasFitOutputs, StandsInside}
use Rattle.elab_flat_names.specs.Searching.{Finds}
use Rattle.elab_flat_names.proofs.Assigning.{can, of_can}
use Rattle.elab_flat_names.proofs.Searches.{one_found, none_found}
use Rattle.elab_flat_names.proofs.Using.{signals}

-- ---- one connection

not_false : (b : Bool) → not b ≡ true → b ≡ false
not_false true e = cc
not_false false e = refl

module _ (ports : List Decl) (ns : List Name) (d : Given) (port : Decl) (at : decl_at ports d.name ≡ Some port) where
  same_port : (other : Decl) → decl_at ports d.name ≡ Some other → port ≡ other
  same_port other e = let z : Some port ≡ Some other = sym at ∙ e in cc

  pub no_input : port.input ≡ true → IsBadGiven ports ns d → ⊥
  no_input t (other, e, i, o, u) = let z : true ≡ false = sym t ∙ (ap (λ (p : Decl). p.input) (same_port other e) ∙ i) in cc

  pub no_output : port.output ≡ false → IsBadGiven ports ns d → ⊥
  no_output t (other, e, i, o, u) = let z : false ≡ true = sym t ∙ (ap (λ (p : Decl). p.output) (same_port other e) ∙ o) in cc

  pub by_value : port.input ≡ false → port.output ≡ true → (r : Bool) → r ≡ is_assignable ns d.value → IsTrue (not r) ↔ IsBadGiven ports ns d
  by_value i o r g = (λ t. (port, at, i, o, sym g ∙ not_false r t), λ h. ap not (g ∙ h.4))

-- ---- the outputs of an instance

module _ (s : Scope) where
  abbrev names : List Name
  names = map decl_name (signals_in s.module')

  unfit : (a : Expr) → is_assignable names a ≡ false → IsAssignable (place_of s) a → ⊥
  unfit a e h = let z : true ≡ false = sym (of_can (place_of s) names (signals s.params (signals_in s.module')) a h) ∙ e in cc

  of_unfit : (a : Expr) → (IsAssignable (place_of s) a → ⊥) → is_assignable names a ≡ false
  of_unfit a n = elim (cases_Bool (is_assignable names a)) [ inl t ↦ absurd (n (can (place_of s) names (signals s.params (signals_in s.module')) a t)) | inr e ↦ e ]

  module _ (i : Inner) (m : Module) where
    abbrev given : List Given
    given = given_to (port_names m) i.args

    found_bad : (ds : List Given) → ds ≡ given → (ports : List Decl) → ports ≡ signals_in m → (ns : List Name) → ns ≡ names → (o : Option Name) → Finds (IsBadOutput ds ports ns) o → Finds (IsBadOutput given (signals_in m) names) o
    found_bad ds e ports g ns k o h =
        subst (λ z. Finds (IsBadOutput given (signals_in m) z) o) k (subst (λ z. Finds (IsBadOutput given z ns) o) g (subst (λ z. Finds (IsBadOutput z ports ns) o) e h))

    pub output_stands : Among (instances_in s.module') i → (ds : List Given) → ds ≡ given → (ports : List Decl) → ports ≡ signals_in m → (ns : List Name) → ns ≡ names → (o : Option (Bor Name)) (x : Bor Name) →
        Finds (IsBadOutput ds ports ns) (option_copied o) → o ≡ Some x → (n : Name) → n ≡ inside s i x.now → Refuses (StandsInside s i m) (f.Port n)
    output_stands among ds e ports g ns k o x found is n named = λ ms there path.
        let h = one_found (IsBadOutput given (signals_in m) names) o x (found_bad ds e ports g ns k (option_copied o) found) is in
        inr (i, among, m, there, inr (inr (h.0, h.1, h.3.0, h.3.1, h.3.2, h.3.3, unfit h.0.value h.3.4, named ∙ ap (inside s i) (sym h.2))))

    pub outputs_fit : (ds : List Given) → ds ≡ given → (ports : List Decl) → ports ≡ signals_in m → (ns : List Name) → ns ≡ names → (o : Option (Bor Name)) →
        Finds (IsBadOutput ds ports ns) (option_copied o) → ((x : Bor Name) → o ≡ Some x → ⊥) → HasFitOutputs s i m
    outputs_fit ds e ports g ns k o found no' = λ d among port at i' o' n.
        none_found (IsBadOutput given (signals_in m) names) o (found_bad ds e ports g ns k (option_copied o) found) no' d.name (d, among, refl, (port, at, i', o', of_unfit d.value n))
