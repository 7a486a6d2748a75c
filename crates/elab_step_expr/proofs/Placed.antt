-- Leaves at the places of their names.
use Rattle.std.proofs.Common.{◌≡◌, ℕ, suc, ◌+◌, ◌<◌, ◌&&◌, nat_eq, List, [], ◌∷◌, length, get_or, Some, None, refl, ap, ◌∙◌, arith, inl, inr}
use Rattle.std.specs.List.{position_from}
use Rattle.std.specs.Str.{bytes_eq}
use Rattle.std.proofs.lemmas.Bool.{cases_Bool}
use Rattle.vlog_tree.specs.Valuation.{is_named, place_at}
use Rattle.elab_step_expr.specs.declared.leaves.Leaf.{Leaf}
use Rattle.elab_step_expr.specs.Leaves.{declared, leaf_at}

module _ (x : List ℕ) (j : ℕ) where
  found : (i k : ℕ) (ls : List Leaf) → position_from (is_named x j) i (declared ls) ≡ Some k → (m : ℕ) × (k ≡ i + m) × (m < length ls) × ((d : Leaf) → leaf_at ls x j ≡ Some (get_or ls m d))
  found i k [] e = cc
  found i k (l ∷ ls) e = elim (cases_Bool (nat_eq l.offset j && bytes_eq l.name x)) [
    | inl t ↦ (let is : Some i ≡ Some k = rw t at e in let same : i ≡ k = cc in (0, omega arith, omega arith, λ d. rw t refl))
    | inr n ↦ (let r = found (i + 1) k ls (rw n at e) in (suc r.0, omega (arith, r.1), omega (arith, r.2), λ d. rw n (r.3 d)))
  ]

  missing : (i : ℕ) (ls : List Leaf) → position_from (is_named x j) i (declared ls) ≡ None → leaf_at ls x j ≡ None
  missing i [] e = refl
  missing i (l ∷ ls) e = elim (cases_Bool (nat_eq l.offset j && bytes_eq l.name x)) [
    | inl t ↦ (let is : Some i ≡ None = rw t at e in cc)
    | inr n ↦ rw n (missing (i + 1) ls (rw n at e))
  ]

-- what the names' entries say of a place, the leaves say
pub leaf_placed : (ls : List Leaf) (x : List ℕ) (j k : ℕ) → place_at (declared ls) x j ≡ Some k → (k < length ls) × ((d : Leaf) → leaf_at ls x j ≡ Some (get_or ls k d))
leaf_placed ls x j k e =
    let r = found x j 0 k ls e in
    let same : r.0 ≡ k = omega (arith, r.1) in
    (omega (arith, r.1, r.2), λ d. r.3 d ∙ ap (λ n. Some (get_or ls n d)) same)

pub leaf_absent : (ls : List Leaf) (x : List ℕ) (j : ℕ) → place_at (declared ls) x j ≡ None → leaf_at ls x j ≡ None
leaf_absent ls x j e = missing x j 0 ls e
