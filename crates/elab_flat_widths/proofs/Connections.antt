-- The faults of what is connected to the ports of instances.
use Rattle.std.proofs.Common.{◌≡◌, List, Some, inl, inr, refl, sym, subst}
use Rattle.vlog_tree.specs.declared.module.Module.{Module}
use Rattle.vlog_tree_runs.specs.Places.{Name, Among}
use Rattle.vlog_tree_runs.specs.Contents.{Inner, instances_in}
use Rattle.vlog_tree_runs.specs.Scopes.{Scope, child, place_of}
use Rattle.elab_flat_faults.specs.declared.flattening.FlatFault.{FlatFault}
use Rattle.elab_flat_faults.specs.declared.flattening.FlatFault.TheVariants as f
use Rattle.elab_flat_faults.specs.FlatStands.{Refuses, StandsAt}
use Rattle.elab_flat_instances.specs.Unfolding.{HasSoundInners}
use Rattle.elab_flat_instances.proofs.Children.{refuses_map}
use Rattle.elab_flat_widths.specs.declared.violation.Violation.{Violation}
use Rattle.elab_flat_widths.specs.declared.violation.Violation.TheVariants as b
use Rattle.elab_flat_widths.specs.Ranges.{fault_of, StandsAlone}
use Rattle.elab_flat_widths.specs.Taken.{Fails}
use Rattle.elab_flat_widths.specs.Texts.{SomeConnectionBreaks, IsConnectionFault, IsInnerFault, IsSomeInnerFault, StandsAround}
use Rattle.elab_flat_widths.proofs.Standing.{text_stands}
use Rattle.elab_flat_widths.proofs.Texts.{BreaksText, inner_breaks}

module _ (path : Name) (t : Scope) (P Q : Violation → Type 0) (up : (w : Violation) → P w → Q w) where
  -- a rule that is broken in the scope
  pub own_fault : (n : Name) → n ≡ path → (w : Violation) → Fails P w → Refuses (IsConnectionFault path t Q) (fault_of n w)
  own_fault n same b.Constant h = inl (b.Constant, up b.Constant h, subst (λ m. f.Constant n ≡ f.Constant m) same refl)
  own_fault n same b.Length h = inl (b.Length, up b.Length h, subst (λ m. f.Width n ≡ f.Width m) same refl)
  own_fault n same b.Memory h = tt

  -- what is at fault with a connection is so with the instance
  pub wider : (fault : FlatFault) → Refuses (IsConnectionFault path t P) fault → Refuses (IsConnectionFault path t Q) fault
  wider = refuses_map (IsConnectionFault path t P) (IsConnectionFault path t Q) widen
    where
      widen : (fault : FlatFault) → IsConnectionFault path t P fault → IsConnectionFault path t Q fault
      widen fault (inl h) = inl (h.0, up h.0 h.1, h.2)
      widen fault (inr h) = inr h

-- a fault of the instance's scope
pub port_fault : (path : Name) (t : Scope) (Q : Violation → Type 0) (fault : FlatFault) → Refuses (StandsAlone t) fault → Refuses (IsConnectionFault path t Q) fault
port_fault path t Q = refuses_map (StandsAlone t) (IsConnectionFault path t Q) (λ fault h. inr h)

module _ (ms : List Module) (path : Name) (s : Scope) where
  -- one instance's fault
  pub inner_fault : (i : Inner) (t : Scope) → child ms s i ≡ Some t → (fault : FlatFault) → Refuses (IsConnectionFault path t (SomeConnectionBreaks (place_of s) t i)) fault → Refuses (IsInnerFault ms path s i) fault
  inner_fault i t is = refuses_map (IsConnectionFault path t (SomeConnectionBreaks (place_of s) t i)) (IsInnerFault ms path s i) (λ fault h. (t, is, h))

  pub among_fault : (i : Inner) → Among (instances_in s.module') i → (fault : FlatFault) → Refuses (IsInnerFault ms path s i) fault →
      Refuses (IsSomeInnerFault ms path s) fault
  among_fault i a = refuses_map (IsInnerFault ms path s i) (IsSomeInnerFault ms path s) (λ fault h. (i, a, h))

  -- a fault of the scope's own
  pub alone_around : (fault : FlatFault) → Refuses (StandsAlone s) fault → Refuses (StandsAround ms path s) fault
  alone_around = refuses_map (StandsAlone s) (StandsAround ms path s) (λ fault h. inl (h ms path))

  module _ (known : (path n : Name) → StandsAt ms path s (f.Unknown n) → ⊥) where
    -- a rule that the scope's text breaks
    pub text_around : (P : Violation → Type 0) → ((w : Violation) → P w → BreaksText ms s w) → (n : Name) → n ≡ path → (w : Violation) → Fails P w → Refuses (StandsAround ms path s) (fault_of n w)
    text_around P up n same b.Constant h = inl (subst (λ m. StandsAt ms path s (f.Constant m)) (sym same) (text_stands ms s known path b.Constant (up b.Constant h)))
    text_around P up n same b.Length h = inl (subst (λ m. StandsAt ms path s (f.Width m)) (sym same) (text_stands ms s known path b.Length (up b.Length h)))
    text_around P up n same b.Memory h = tt

    -- a fault of an instance's connections
    pub inner_around : HasSoundInners ms s → (fault : FlatFault) → Refuses (IsSomeInnerFault ms path s) fault → Refuses (StandsAround ms path s) fault
    inner_around sound = refuses_map (IsSomeInnerFault ms path s) (StandsAround ms path s) around
      where
        around : (fault : FlatFault) → IsSomeInnerFault ms path s fault → StandsAround ms path s fault
        around fault (i, a, (t, is, inl h)) = inl (subst (StandsAt ms path s) (sym h.2) (text_stands ms s known path h.0 (inner_breaks ms s i a t is h.0 h.1)))
        around fault (i, a, (t, is, inr h)) = inr (i, (sound i a).found, t, is, h ms)
