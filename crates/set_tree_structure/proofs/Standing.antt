-- Each test of a fault tells where it stands.
use Rattle.std.proofs.Common.{◌≡◌, ◌≢◌, ℕ, suc, ◌<◌, ◌&&◌, not, Bool, true, false, List, [], ◌∷◌, length, Option, Some, None, arith, refl, sym, ap, ◌∙◌, subst}
use Rattle.std.specs.Prelude.{nat_eq, nat_le, slice_get}
use Rattle.std.specs.Bool.{Decides}
use Rattle.std.specs.List.{Contains}
use Rattle.std.proofs.lemmas.Bool.{leb-false, lt-leb, ne_eqb}
use Rattle.std.proofs.lemmas.Bool.Decides.{Decides-like, Decides-and, Decides-not}
use Rattle.vlog_tree.specs.declared.expr.Expr.{Expr}
use Rattle.set_tree.specs.declared.set.Name.{Name}
use Rattle.set_tree.specs.declared.set.Property.{Property}
use Rattle.set_tree.specs.declared.set.Rule.{Rule}
use Rattle.set_tree.specs.declared.set.Set.{Set}
use Rattle.set_tree.specs.Formulas.{largest_offset}
use Rattle.set_tree.specs.Parts.{property_at, IsPosition, IsOutput}
use Rattle.set_tree_structure.specs.declared.fault.GraphFault.{GraphFault}
use Rattle.set_tree_structure.specs.declared.fault.GraphFault.TheVariants as g
use Rattle.set_tree_structure.specs.declared.fault.Place.TheVariants as at
use Rattle.set_tree_structure.specs.Condition.{IsWellFormed}
use Rattle.set_tree_structure.specs.Faults.{KeepsWindow, HasCover, Meets, Stands}
use Rattle.set_tree_structure.specs.Tests.{find_property, passes, reads_within, reads_ahead, keeps_window, is_output_at, has_cover, leads_to, meets, stands}
use Rattle.set_tree_structure.proofs.Decided.{Decides-window, Decides-output_at, Decides-cover, Decides-leads, Decides-meets}
use Rattle.set_tree_structure.proofs.Firsts.{find_is_at, find_within, find_at}

-- a test of the property at a position
at_property : (set : Set) (p : ℕ) (test : Property → Bool) (P : Type 0) → (IsPosition set p → Decides (test (property_at set p)) P) → Decides (passes test (find_property set p)) (IsPosition set p × P)
at_property set p test P d = (found (find_property set p) refl, λ h. rw (find_at set p h.0) ((d h.0).1 h.1))
  where
    found : (o : Option Property) → find_property set p ≡ o → passes test o ≡ true → IsPosition set p × P
    found None is h = let t : false ≡ true = h in cc
    found (Some x) is h =
        let within = find_within set p x is in
        (within, (d within).0 (rw (find_is_at set p x is) h))

-- a formula that reads above 0
Decides-ahead : (e : Expr) → Decides (not (reads_within 0 e)) (0 < largest_offset e)
Decides-ahead e = (λ h. leb-false (largest_offset e) 0 (negated (nat_le (largest_offset e) 0) h), λ lt. rw (lt-leb (largest_offset e) 0 lt) refl)
  where
    negated : (b : Bool) → not b ≡ true → b ≡ false
    negated true h = cc
    negated false h = refl

Decides-hand : (es : List Expr) → Decides (not (nat_eq (length es) 0)) (es ≢ [])
Decides-hand [] = (λ h. cc, λ f. absurd (f refl))
Decides-hand (e ∷ es) = (λ h is. cc, λ f. let some : nat_eq (suc (length es)) 0 ≡ false = ne_eqb (suc (length es)) 0 (λ z. omega (arith, z)) in rw some refl)

Decides-rule : (o : Option Rule) → Decides (passes (λ r. not (reads_within 0 r.formula)) o) ((rule : Rule) × (o ≡ Some rule) × (0 < largest_offset rule.formula))
Decides-rule None = (λ h. cc, λ h. let e = h.1 in cc)
Decides-rule (Some r) =
    (λ h. (r, refl, (Decides-ahead r.formula).0 h), λ h. let same : r ≡ h.0 = cc in (Decides-ahead r.formula).1 (subst (λ (s : Rule). 0 < largest_offset s.formula) (sym same) h.2))

Decides-domain : (o : Option Expr) → Decides (reads_ahead o) ((e : Expr) × (o ≡ Some e) × (0 < largest_offset e))
Decides-domain None = (λ h. cc, λ h. let e = h.1 in cc)
Decides-domain (Some x) = (λ h. (x, refl, (Decides-ahead x).0 h), λ h. let same : x ≡ h.0 = cc in (Decides-ahead x).1 (subst (λ (e : Expr). 0 < largest_offset e) (sym same) h.2))

Decides-name : (o : Option Name) → Decides (passes (λ n. reads_ahead n.domain) o) ((name : Name) × (e : Expr) × (o ≡ Some name) × (name.domain ≡ Some e) × (0 < largest_offset e))
Decides-name None = (λ h. cc, λ h. let e = h.2 in cc)
Decides-name (Some n) = (
  λ h. let d = (Decides-domain n.domain).0 h in (n, d.0, refl, d.1, d.2),
  λ h. let same : n ≡ h.0 = cc in (Decides-domain n.domain).1 (h.1, ap (λ (m : Name). m.domain) same ∙ h.3, h.4),
)

pub Decides-fault : (set : Set) → IsWellFormed set → (f : GraphFault) → Decides (stands set f) (Stands set f)
Decides-fault set formed g.HandAtReset = Decides-hand set.first.hand
Decides-fault set formed (g.Offset (at.Invariant i)) = Decides-rule (slice_get set.invariants i)
Decides-fault set formed (g.Offset (at.Output o)) = Decides-name (slice_get set.names o)
Decides-fault set formed (g.Offset (at.Property p)) = at_property set p (λ x. not (keeps_window x)) (¬ KeepsWindow set p) (λ _. Decides-not _ (Decides-window set p))
Decides-fault set formed (g.IntoReset p) = at_property set p (leads_to 0) (Contains (property_at set p).next 0) (λ _. Decides-leads 0 (property_at set p))
Decides-fault set formed (g.Cover p o) =
    Decides-like (stands set (g.Cover p o)) (λ h. (h.0, h.1.0, h.1.1)) (λ (h : Stands set (g.Cover p o)). (h.0, (h.1, h.2)))
    (at_property set p (λ x. is_output_at set o && not (has_cover p x o)) (IsOutput set o × ¬ HasCover set p o)
    (λ _. Decides-and _ _ (Decides-output_at set o) (Decides-not _ (Decides-cover set p o))))
Decides-fault set formed (g.Tile p q o) =
    Decides-like (stands set (g.Tile p q o)) (λ h. (h.0, h.1.1.0, h.1.1.1.0, h.1.1.1.1))
    (λ (h : Stands set (g.Tile p q o)). (h.0, (formed.successors p q h.0 h.1, (h.1, (h.2, h.3)))))
    (at_property set p (λ x. passes (λ y. leads_to q x && (is_output_at set o && not (meets x y o))) (find_property set q)) (IsPosition set q × (Contains (property_at set p).next q × (IsOutput set o × ¬ Meets set p q o)))
    (λ within. at_property set q (λ y. leads_to q (property_at set p) && (is_output_at set o && not (meets (property_at set p) y o))) (Contains (property_at set p).next q × (IsOutput set o × ¬ Meets set p q o))
    (λ _. Decides-and _ _ (Decides-leads q (property_at set p)) (Decides-and _ _ (Decides-output_at set o) (Decides-not _ (Decides-meets set p q o (formed.bounds.lengths p within).order))))))
