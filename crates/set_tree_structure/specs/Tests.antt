-- The faults of a set's structure as tests.
use Rattle.std.specs.Prelude.{ℕ, zero, suc, ◌+◌, ◌&&◌, ◌||◌, not, nat_eq, nat_le, Bool, true, false, List, length, Option, Some, None, slice_get}
use Rattle.std.specs.List.{find, list_any, list_all, count_by}
use Rattle.vlog_tree.specs.declared.expr.Expr.{Expr}
use Rattle.set_tree.specs.declared.set.Cover.{Cover}
use Rattle.set_tree.specs.declared.set.Length.{Length}
use Rattle.set_tree.specs.declared.set.Property.{Property}
use Rattle.set_tree.specs.declared.set.Role.{Role}
use Rattle.set_tree.specs.declared.set.Role.TheVariants as role
use Rattle.set_tree.specs.declared.set.Set.{Set}
use Rattle.set_tree.specs.declared.set.To.{To}
use Rattle.set_tree.specs.declared.set.To.TheVariants as to
use Rattle.set_tree.specs.Formulas.{largest_offset}
use Rattle.set_tree.specs.Parts.{cover_end}
use Rattle.set_tree_structure.specs.declared.fault.GraphFault.{GraphFault}
use Rattle.set_tree_structure.specs.declared.fault.GraphFault.TheVariants as g
use Rattle.set_tree_structure.specs.declared.fault.Place.TheVariants as at
use Rattle.set_tree_structure.specs.Faults.{candidates}

abbrev pub find_property : Set → ℕ → Option Property
find_property set zero = Some set.first
find_property set (suc i) = slice_get set.operations i

-- a test of what may be there; it fails where there is nothing
abbrev pub passes : {X : Type 0} → (X → Bool) → Option X → Bool
passes test None = false
passes test (Some x) = test x

-- ---- offsets

abbrev pub reads_within : ℕ → Expr → Bool
reads_within window e = nat_le (largest_offset e) window

abbrev pub all_read_within : ℕ → List Expr → Bool
all_read_within window es = list_all (reads_within window) es

-- a condition reads no later row
abbrev pub reads_ahead : Option Expr → Bool
reads_ahead o = passes (λ e. not (reads_within 0 e)) o

abbrev pub keeps_window : Property → Bool
keeps_window p =
    all_read_within p.window p.assume && (all_read_within p.window p.commit && (all_read_within p.window p.hand && not (reads_ahead p.length.until)))

-- ---- covers

abbrev pub is_output : Role → Bool
is_output role.Output = true
is_output role.Input = false
is_output role.State = false

abbrev pub is_output_at : Set → ℕ → Bool
is_output_at set o = passes (λ n. is_output n.role) (slice_get set.names o)

abbrev pub is_number : To → Bool
is_number (to.At r) = true
is_number (to.AfterEnd d) = false

-- the bounds of a cover
abbrev pub fits_cover : Property → Cover → Bool
fits_cover p c =
    (nat_le c.from (cover_end c.to p.length.low) && nat_le (cover_end c.to p.length.high) (p.window + 1))
    && not (passes (λ e. is_number c.to) p.length.until)

-- and in reset it begins at 0
abbrev pub is_cover_of : ℕ → Property → Cover → Bool
is_cover_of n p c = fits_cover p c && (not (nat_eq n 0) || nat_eq c.from 0)

abbrev pub has_cover : ℕ → Property → ℕ → Bool
has_cover n p o = nat_eq (count_by (λ c. nat_eq c.output o) p.covers) 1 && list_all (λ c. not (nat_eq c.output o) || is_cover_of n p c) p.covers

-- ---- edges

abbrev pub leads_to : ℕ → Property → Bool
leads_to q p = list_any (λ x. nat_eq x q) p.next

-- a cover ends where the next begins, at the first and at the last offset at which the property may end
abbrev pub ends_at : Length → To → ℕ → Bool
ends_at span end from = nat_eq (cover_end end span.low) (span.low + from) && nat_eq (cover_end end span.high) (span.high + from)

abbrev pub meets_all : Length → Cover → List Cover → Bool
meets_all span c next = list_all (λ d. not (nat_eq d.output c.output) || ends_at span c.to d.from) next

abbrev pub meets : Property → Property → ℕ → Bool
meets p q o = list_all (λ c. not (nat_eq c.output o) || meets_all p.length c q.covers) p.covers

-- ---- faults

abbrev pub stands : Set → GraphFault → Bool
stands set g.HandAtReset = not (nat_eq (length set.first.hand) 0)
stands set (g.Offset (at.Invariant i)) = passes (λ r. not (reads_within 0 r.formula)) (slice_get set.invariants i)
stands set (g.Offset (at.Output o)) = passes (λ n. reads_ahead n.domain) (slice_get set.names o)
stands set (g.Offset (at.Property p)) = passes (λ x. not (keeps_window x)) (find_property set p)
stands set (g.IntoReset p) = passes (leads_to 0) (find_property set p)
stands set (g.Cover p o) = passes (λ x. is_output_at set o && not (has_cover p x o)) (find_property set p)
stands set (g.Tile p q o) =
    passes (λ x. passes (λ y. leads_to q x && (is_output_at set o && not (meets x y o))) (find_property set q)) (find_property set p)

-- the first fault that stands
abbrev pub first_fault : Set → Option GraphFault
first_fault set = find (stands set) (candidates set)
