-- Lists of places, one place after another.
use Rattle.std.proofs.Common.{◌≡◌, ℕ, zero, suc, ◌+◌, ◌-◌, ◌<◌, List, [], ◌∷◌, length, take, drop, get_or, slice_set, Some, Vec, Global, arith, refl, sym, ap, ◌∙◌}
use Rattle.std.specs.Prelude.{nat_eq}
use Rattle.std.specs.List.{flat_map}
use Rattle.std.proofs.lemmas.List.{append-nil}
use Rattle.vlog_tree_runs.specs.declared.flat.Always.{Always}
use Rattle.vlog_tree_runs.specs.Places.{Name}
use Rattle.elab_flat_graphs.specs.Graphs.{graph_of}
use Rattle.elab_step.specs.Placing.{last_of, is_number, ending_in, placed_at}

last_get : (k : ℕ) (ks : List ℕ) → last_of (k ∷ ks) ≡ Some (get_or (k ∷ ks) (length ks) 0)
last_get k [] = refl
last_get k (j ∷ ks) = last_get j ks

pub last_is : (ks : List ℕ) (i : ℕ) → 0 < length ks → nat_eq (get_or ks (length ks - 1) 0) i ≡ is_number (last_of ks) i
last_is [] i l = absurd (omega arith)
last_is (k ∷ ks) i l =
    let n : length (k ∷ ks) - 1 ≡ length ks = omega arith in
    ap (λ j. nat_eq (get_or (k ∷ ks) j 0) i) n ∙ sym (ap (λ o. is_number o i) (last_get k ks))

pub set_placed : (xs : List (Vec ℕ Global)) (s i : ℕ) (v u : Vec ℕ Global) → s < length xs → u ≡ get_or xs s u → v.items ≡ ending_in i u.items → graph_of (slice_set xs s v) ≡ placed_at (Some s) i (graph_of xs)
set_placed [] s i v u l e h = absurd (omega arith)
set_placed (x ∷ xs) zero i v u l e h = ap (λ ks. ks ∷ graph_of xs) (h ∙ ap (λ (w : Vec ℕ Global). ending_in i w.items) e)
set_placed (x ∷ xs) (suc s) i v u l e h = ap (λ r. x.items ∷ r) (set_placed xs s i v u (omega arith) e h)

pub placed_long : (xs : List (Vec ℕ Global)) → length (graph_of xs) ≡ length xs
placed_long [] = refl
placed_long (x ∷ xs) = ap suc (placed_long xs)

-- one block of a list
pub block_cut : (ks : List Always) (i : ℕ) (g : Always → List Name) → i < length ks → (k : Always) × (drop i ks ≡ k ∷ drop (i + 1) ks) × (flat_map g (take (i + 1 - i) (drop i ks)) ≡ g k)
block_cut ks i g lt =
    let n : i + 1 - i ≡ 1 = omega arith in
    let r = cut ks i lt in
    let one : take 1 (drop i ks) ≡ r.0 ∷ [] = ap (take 1) r.1 in
    (r.0, r.1, ap (λ m. flat_map g (take m (drop i ks))) n ∙ ap (flat_map g) one ∙ append-nil (g r.0))
  where
    next : (ks : List Always) (i : ℕ) → i < length ks → (k : Always) × (drop i ks ≡ k ∷ drop (suc i) ks)
    next [] i lt = absurd (omega arith)
    next (k ∷ ks) zero lt = (k, refl)
    next (k ∷ ks) (suc i) lt = next ks i (omega arith)

    cut : (ks : List Always) (i : ℕ) → i < length ks → (k : Always) × (drop i ks ≡ k ∷ drop (i + 1) ks)
    cut ks i lt = let r = next ks i lt in let z : suc i ≡ i + 1 = omega arith in (r.0, r.1 ∙ ap (λ j. r.0 ∷ drop j ks) z)
