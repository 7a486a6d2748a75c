-- Where a set fits a design: names, lengths and roles.
use Rattle.std.specs.Prelude.{ℕ, ◌≡◌, ◌⊎◌, ◌&&◌, ◌||◌, not, nat_eq, is_some, Bool, true, false, List, Option, Some, None}
use Rattle.std.specs.List.{find, list_any}
use Rattle.std.specs.Str.{bytes_eq}
use Rattle.set_tree.specs.declared.set.Name.{Name}
use Rattle.set_tree.specs.declared.set.Role.{Role}
use Rattle.set_tree.specs.declared.set.Role.TheVariants as role
use Rattle.set_tree.specs.declared.set.Set.{Set}
use Rattle.vlog_tree_runs.specs.declared.flat.Async.{Async}
use Rattle.vlog_tree_runs.specs.Places.{Among}
use Rattle.elab_step_design.specs.declared.design.Net.{Net}
use Rattle.elab_step_design.specs.Designs.{Parts}
use Rattle.unroll_binding.specs.declared.fault.BindFault.{BindFault}
use Rattle.unroll_binding.specs.declared.fault.BindFault.TheVariants as f

-- a design with a set
pub record Pair : Type 0 where
  pub design : Parts
  pub set : Set

-- the signal of a name
abbrev pub net_at : List Net → List ℕ → Option Net
net_at ns x = find (λ n. bytes_eq n.name x) ns

abbrev pub has_width : Option Net → ℕ → Bool
has_width None w = false
has_width (Some n) w = nat_eq n.width w

abbrev pub is_missing : Parts → Name → Bool
is_missing d n = not (is_some (net_at d.nets n.name))

-- a signal of another length
abbrev pub is_other_width : Parts → Name → Bool
is_other_width d n = is_some (net_at d.nets n.name) && not (has_width (net_at d.nets n.name) n.width)

-- ---- inputs

abbrev pub is_input : Parts → List ℕ → Bool
is_input d x = is_some (net_at d.inputs x)

abbrev pub is_bit_input : Parts → List ℕ → Bool
is_bit_input d x = has_width (net_at d.inputs x) 1

abbrev pub is_declared : Set → List ℕ → Bool
is_declared set x = list_any (λ n. bytes_eq n.name x) set.names

-- an input other than the clock and the reset that the set doesn't declare
abbrev pub is_extra : Set → Net → Bool
is_extra set n = not (bytes_eq n.name set.clock) && (not (bytes_eq n.name set.reset) && not (is_declared set n.name))

-- ---- roles

abbrev pub is_name : List ℕ → Option (List ℕ) → Bool
is_name x None = false
is_name x (Some y) = bytes_eq y x

-- the clock that the design waits for, or the set's reset
abbrev pub is_clock_or_reset : Parts → Set → List ℕ → Bool
is_clock_or_reset d set x = is_name x d.clock || bytes_eq set.reset x

abbrev pub is_output : Parts → List ℕ → Bool
is_output d x = list_any (λ y. bytes_eq y x) d.outputs

abbrev pub fits_role : Parts → Set → Role → List ℕ → Bool
fits_role d set role.Input x = is_input d x && not (is_clock_or_reset d set x)
fits_role d set role.Output x = is_output d x
fits_role d set role.State x = not (is_input d x)

abbrev pub is_other_role : Parts → Set → Name → Bool
is_other_role d set n = not (fits_role d set n.role n.name)

-- the clock is an input of one bit, and the design waits for no other
abbrev pub waits_for_other : Parts → List ℕ → Bool
waits_for_other d x = is_some d.clock && not (is_name x d.clock)

abbrev pub is_bad_clock : Parts → Set → Bool
is_bad_clock d set = not (is_bit_input d set.clock) || waits_for_other d set.clock

-- the reset is another input of one bit
abbrev pub is_bad_reset : Parts → Set → Bool
is_bad_reset d set = not (is_bit_input d set.reset) || bytes_eq set.clock set.reset

-- an asynchronous reset that isn't the set's reset at its level
abbrev pub same : Bool → Bool → Bool
same true b = b
same false b = not b

abbrev pub is_other_reset : Set → Async → Bool
is_other_reset set a = not (bytes_eq a.name set.reset && same a.high set.high)

-- ---- faults

-- a name of the set, a signal, or a reset of the design, that fails a test, has this name
abbrev pub NameFails : (Name → Bool) → Set → List ℕ → Type 0
NameFails test set x = (n : Name) × Among set.names n × (test n ≡ true) × (n.name ≡ x)

abbrev pub InputFails : (Net → Bool) → Parts → List ℕ → Type 0
InputFails test d x = (n : Net) × Among d.inputs n × (test n ≡ true) × (n.name ≡ x)

abbrev pub ResetFails : (Async → Bool) → Parts → List ℕ → Type 0
ResetFails test d x = (a : Async) × Among d.asyncs a × (test a ≡ true) × (a.name ≡ x)

-- where each fault stands
abbrev pub Stands : Parts → Set → BindFault → Type 0
Stands d set (f.Missing x) = NameFails (is_missing d) set x
Stands d set (f.WidthOf x) = NameFails (is_other_width d) set x
Stands d set (f.ExtraInput x) = InputFails (is_extra set) d x
Stands d set (f.Role x) =
    NameFails (is_other_role d set) set x
    ⊎ (((x ≡ set.clock) × (is_bad_clock d set ≡ true))
    ⊎ (((x ≡ set.reset) × (is_bad_reset d set ≡ true)) ⊎ ResetFails (is_other_reset set) d x))
Stands d set f.Memory = ⊥

-- no fault stands
abbrev pub Fits : Parts → Set → Type 0
Fits d set = (fault : BindFault) → Stands d set fault → ⊥

-- what a refusal says: its fault stands, or memory ran out
abbrev pub Refuses : Parts → Set → BindFault → Type 0
Refuses d set f.Memory = Unit {0}
Refuses d set fault = Stands d set fault

-- what has been checked of names, and of roles
pub record HasNames (d : Parts) (set : Set) : Type 0 where
  pub present : find (is_missing d) set.names ≡ None
  pub widths : find (is_other_width d) set.names ≡ None
  pub inputs : find (is_extra set) d.inputs ≡ None

pub record HasRoles (d : Parts) (set : Set) : Type 0 where
  pub roles : find (is_other_role d set) set.names ≡ None
  pub clock : is_bad_clock d set ≡ false
  pub reset : is_bad_reset d set ≡ false
  pub resets : find (is_other_reset set) d.asyncs ≡ None
