-- Parts that are added.
use Rattle.std.proofs.Common.{◌≡◌, ℕ, zero, suc, ◌+◌, ◌<◌, Bool, true, false, List, [], ◌∷◌, length, drop, get_or, Some, arith, sym, ap, ◌∙◌, ⊎_elim}
use Rattle.std.specs.Prelude.{if◌then◌else◌}
use Rattle.std.specs.Str.{bytes_eq}
use Rattle.vlog_tree_runs.specs.declared.flat.TopPort.{TopPort}
use Rattle.vlog_tree_runs.specs.Places.{Name}
use Rattle.elab_step_design.specs.declared.design.Net.{Net}
use Rattle.elab_flat_scopes.specs.Finding.{place_from, place_in}
use Rattle.elab_step_expr.specs.declared.leaves.Leaf.{Leaf}
use Rattle.elab_step_nets.proofs.Solving.{bool_cases}
use Rattle.elab_step.specs.Parts.{own_net, first_net, net_at, input_of}

-- the place of a name is one of the list
pub place_below : (xs : List Name) (x : Name) (j k : ℕ) → place_from j xs x ≡ Some k → k < j + length xs
place_below [] x j k h = cc
place_below (y ∷ xs) x j k h =
    ⊎_elim (λ (e : bytes_eq y x ≡ true). let s : Some j ≡ Some k = rw e at h in let q : j ≡ k = cc in omega (arith, q))
    (λ (e : bytes_eq y x ≡ false). let s : place_from (suc j) xs x ≡ Some k = rw e at h in let r = place_below xs x (suc j) k s in omega (arith, r)) (bool_cases (bytes_eq y x))

first_at : (ls : List Leaf) (i : ℕ) (l : Leaf) → i < length ls → l ≡ get_or ls i l → first_net (drop i ls) ≡ own_net l ∷ []
first_at [] i l lt e = absurd (omega arith)
first_at (m ∷ ls) zero l lt e = ap (λ (z : Leaf). own_net z ∷ []) (sym e)
first_at (m ∷ ls) (suc i) l lt e = first_at ls i l (omega arith) e

pub input_made : (names : List Name) (ls : List Leaf) (p : TopPort) (i : ℕ) (l : Leaf) (n : Net) → p.output ≡ false → place_in names p.name ≡ Some i → i < length ls → l ≡ get_or ls i l → n ≡ own_net l → n ∷ [] ≡ input_of names ls p
input_made names ls p i l n o e lt q is =
    ap (λ z. z ∷ []) is ∙ sym (first_at ls i l lt q) ∙ sym (ap (λ z. net_at z ls) e) ∙ sym (ap (λ (b : Bool). if b then [] else net_at (place_in names p.name) ls) o)
