-- What the comparison of leaves with values says of the cycle that they show.
use Rattle.std.proofs.Common.{◌≡◌, ℕ, ◌^◌, ◌<◌, ◌≤◌, ◌&&◌, true, false, List, [], ◌∷◌, Option, Some, None, map, length, arith, refl, sym, ap, ◌∙◌, ⊎_elim}
use Rattle.std.specs.Prelude.{min, pos, ◌-ℤ◌}
use Rattle.std.specs.Str.{bytes_eq}
use Rattle.std.proofs.lemmas.Nat.{or_lt}
use Rattle.std.proofs.Math.Nat.{pow-le-pow_right}
use Rattle.vlog_tree.specs.declared.stmt.Lval.{Lval}
use Rattle.vlog_tree.specs.Value.{natural}
use Rattle.vlog_tree_runs.specs.declared.flat.Signal.{Signal}
use Rattle.vlog_tree_runs.specs.Places.{Cycle}
use Rattle.word_dag.specs.declared.node.Node.{Node}
use Rattle.word_dag.specs.Nodes.{Naming}
use Rattle.elab_flat_drivers.specs.declared.claims.Run.{Run}
use Rattle.elab_flat_drivers.specs.Claims.{ones, claim_at, part_name, part_run}
use Rattle.elab_step_expr.specs.declared.leaves.Leaf.{Leaf}
use Rattle.elab_step_expr.specs.Nodes.{number_at}
use Rattle.elab_step_blocks.specs.Standing.{AreLeavesOf, AreShown}
use Rattle.elab_step_nets.proofs.Solving.{bool_cases}
use Rattle.elab_step_expr.specs.Leaves.{declared}
use Rattle.elab_step_nets.specs.Solving.{AreDistinct}
use Rattle.elab_step_nets.proofs.Fitting.{positive}
use Rattle.elab_step_nets.proofs.Boards.{same_leaves, leaves_long}
use Rattle.test_judges.specs.Values.{AreValues, held}
use Rattle.test_judges.specs.Driving.{spot_of, part_bits, bits_in}
use Rattle.test_judges.specs.Numbers.{same_within, leaves_same, AreBelow}
use Rattle.test_judges.specs.Showing.{AreHeld}
use Rattle.test_judges.specs.Judging.{each_same, whole}
use Rattle.test_judges.proofs.Holding.{values_long, held_leaves, leaves_apart, held_shown, leaves_below}

pub shown_same : (e : Naming) (ns : List Node) (d : Cycle) (ms : List ℕ) (gs : List Signal) (ls : List Leaf) (vs : List ℕ) → AreLeavesOf gs ls → AreShown e ns ls d → leaves_same (number_at e ns) ms ls vs ≡ each_same d ms gs vs
shown_same e ns d [] gs ls vs are h = refl
shown_same e ns d (m ∷ ms) [] [] vs are h = refl
shown_same e ns d (m ∷ ms) [] (l ∷ ls) vs are h = absurd are
shown_same e ns d (m ∷ ms) (g ∷ gs) [] vs are h = absurd are
shown_same e ns d (m ∷ ms) (g ∷ gs) (l ∷ ls) [] are h = refl
shown_same e ns d (m ∷ ms) (g ∷ gs) (l ∷ ls) (v ∷ vs) are h =
    let n : number_at e ns l.node ≡ d g.name = sym h.0 ∙ ap d are.0.name in
    let r = shown_same e ns d ms gs ls vs are.1 h.1 in
    λ i. same_within m (n i) v && r i

-- ---- masks are as long as their signals

ones_fit : (from to w : ℕ) → to ≤ w → ones from to < 2 ^ w
ones_fit from to w le = let p = positive from in let q : 2 ^ to ≤ 2 ^ w = pow-le-pow_right {n = 2} two le in let r = positive w in omega (arith, p, q, r)
  where
    two : 0 < 2
    two = omega arith

claim_fits : (g : Signal) (r : Option Run) → (claim_at (spot_of g) r).bits < 2 ^ g.width
claim_fits g None = ones_fit 0 g.width g.width (omega arith)
claim_fits g (Some r) = ones_fit (min g.width (natural (r.from -ℤ pos g.low))) (min g.width (natural (r.to -ℤ pos g.low))) g.width (omega arith)

part_fits : (g : Signal) (q : Lval) → part_bits g q < 2 ^ g.width
part_fits g q = ⊎_elim (λ (e : bytes_eq (part_name q) g.name ≡ true). rw e (claim_fits g (part_run q))) (λ (e : bytes_eq (part_name q) g.name ≡ false). rw e (positive g.width)) (bool_cases (bytes_eq (part_name q) g.name))

bits_fit : (qs : List Lval) (g : Signal) → bits_in qs g < 2 ^ g.width
bits_fit [] g = positive g.width
bits_fit (q ∷ qs) g = or_lt g.width (part_bits g q) (bits_in qs g) (part_fits g q) (bits_fit qs g)

pub masks_fit : (qs : List Lval) (gs : List Signal) → AreValues gs (map (bits_in qs) gs)
masks_fit qs [] = tt
masks_fit qs (g ∷ gs) = (bits_fit qs g, masks_fit qs gs)

pub whole_fit : (gs : List Signal) → AreValues gs (whole gs)
whole_fit [] = tt
whole_fit (g ∷ gs) = (ones_fit 0 g.width g.width (omega arith), whole_fit gs)

-- ---- leaves after a run

module _ (gs : List Signal) (ns : List Node) (ls ms : List Leaf) (us : List ℕ) (h : AreHeld ns gs ls us) (same : declared ms ≡ declared ls) where
  pub later : AreLeavesOf gs ms
  later = same_leaves gs ls ms same (held_leaves ns gs ls us h)

  pub later_below : (vs : List ℕ) → AreValues gs vs → AreBelow ms vs
  later_below vs k = leaves_below gs ms vs later k

  pub later_long : (vs : List ℕ) → AreValues gs vs → length vs ≡ length ms
  later_long vs k = values_long gs vs k ∙ sym (leaves_long gs ms later)

-- the values before a run
pub held_now : (e : Naming) (ns : List Node) (gs : List Signal) (ls : List Leaf) (vs : List ℕ) → AreDistinct (map (λ (g : Signal). g.name) gs) → AreHeld ns gs ls vs → AreShown e ns ls (held gs vs)
held_now e ns gs ls vs d h = held_shown e ns gs ls vs h (leaves_apart gs ls (held_leaves ns gs ls vs h) d)
