-- What a set that fits a design finds in it: the reset among the inputs, and its names among the signals.
use Rattle.std.proofs.Common.{◌≡◌, ℕ, Bool, true, false, not, Option, Some, None, List, refl, sym, inl, inr}
use Rattle.std.specs.Prelude.{◌&&◌, ◌||◌, is_some}
use Rattle.std.proofs.lemmas.Bool.{eqb-true}
use Rattle.set_tree.specs.declared.set.Name.{Name as Declared}
use Rattle.set_tree.specs.declared.set.Set.{Set}
use Rattle.vlog_tree_runs.specs.Places.{Name, Among}
use Rattle.elab_step_design.specs.declared.design.Net.{Net}
use Rattle.elab_step_design.specs.Designs.{Parts}
use Rattle.unroll_binding.specs.declared.fault.BindFault.TheVariants as f
use Rattle.unroll_binding.specs.Binding.{Fits, has_width, is_bad_reset, is_bit_input, is_missing, is_other_width, net_at}
use Rattle.unroll_laws.proofs.Searches.{found}

-- the list has a signal of this name and length, and a search finds it
pub record IsThere (ns : List Net) (x : Name) (w : ℕ) : Type 0 where
  pub net : Net
  pub among : Among ns net
  pub name : net.name ≡ x
  pub width : net.width ≡ w
  pub is : net_at ns x ≡ Some net

untrue : (b : Bool) → (b ≡ true → ⊥) → b ≡ false
untrue true h = absurd (h refl)
untrue false h = refl

neither : (a b : Bool) → (a || b) ≡ false → a ≡ false
neither true b h = h
neither false b h = refl

turned : (a : Bool) → not a ≡ false → a ≡ true
turned true h = refl
turned false h = sym h

not_both : (a b : Bool) → a ≡ true → (a && not b) ≡ false → b ≡ true
not_both true b is h = turned b h
not_both false b is h = cc

there : (ns : List Net) (x : Name) (w : ℕ) (o : Option Net) → net_at ns x ≡ o → has_width o w ≡ true → IsThere ns x w
there ns x w None is h = absurd cc
there ns x w (Some n) is h =
    let in' = found (λ (m : Net). m.name) ns x n is in
    record { net = n; among = in'.0; name = in'.1; width = eqb-true n.width w h; is = is }

pub reset_there : (d : Parts) (set : Set) → Fits d set → IsThere d.inputs set.reset 1
reset_there d set fits =
    let good : is_bad_reset d set ≡ false = untrue (is_bad_reset d set) (λ bad. fits (f.Role set.reset) (inr (inr (inl (refl, bad))))) in
    there d.inputs set.reset 1 _ refl (turned (is_bit_input d set.reset) (neither (not (is_bit_input d set.reset)) _ good))

pub name_there : (d : Parts) (set : Set) → Fits d set → (n : Declared) → Among set.names n → IsThere d.nets n.name n.width
name_there d set fits n m =
    let present : is_missing d n ≡ false = untrue (is_missing d n) (λ bad. fits (f.Missing n.name) (n, m, bad, refl)) in
    let wide : is_other_width d n ≡ false = untrue (is_other_width d n) (λ bad. fits (f.WidthOf n.name) (n, m, bad, refl)) in
    there d.nets n.name n.width _ refl (not_both (is_some (net_at d.nets n.name)) (has_width (net_at d.nets n.name) n.width) (turned (is_some (net_at d.nets n.name)) present) wide)
