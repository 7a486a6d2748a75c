-- Clocked blocks that are run on leaves.
use Rattle.std.proofs.Common.{arith, ◌≡◌, ℕ, zero, suc, ◌+◌, ◌<◌, ◌≤◌, Bool, true, false, List, [], ◌∷◌, Some, refl, sym, ap, ◌∙◌, subst, length, get_or, drop}
use Rattle.std.specs.Prelude.{if◌then◌else◌}
use Rattle.vlog_tree_runs.specs.declared.flat.Always.{Always}
use Rattle.vlog_tree_runs.specs.declared.flat.Flat.{Flat}
use Rattle.vlog_tree_runs.specs.Places.{Cycle}
use Rattle.vlog_tree_runs.specs.Blocks.{run}
use Rattle.vlog_tree_runs.specs.Cycles.{flat_place}
use Rattle.word_dag.specs.declared.node.Node.{Node}
use Rattle.word_dag.specs.Nodes.{Naming}
use Rattle.word_dag.specs.Adding.{Keeps}
use Rattle.elab_step_expr.specs.declared.leaves.Leaf.{Leaf}
use Rattle.elab_step_expr.specs.Leaves.{declared}
use Rattle.elab_step_expr.proofs.Kept.{keeps_then}
use Rattle.elab_step_blocks.specs.Standing.{AreShown}
use Rattle.elab_step_blocks.specs.Runs.{AreSet, Runs}
use Rattle.elab_step_laws.specs.Laws.{place_over}
use Rattle.elab_step_nets.specs.Solving.{clocked, after_edge}
use Rattle.elab_step_nets.specs.Boards.{IsBoard, ShowsEdge}
use Rattle.elab_step_nets.proofs.Boards.{shown_kept, same_leaves}

pub record Running (f : Flat) (rest : List Always) (ls : List Leaf) (a : List Node) (ms : List Leaf) (b : List Node) : Type 0 where
  pub keeps : Keeps a b
  pub set : AreSet (Some ls) ms b
  pub same : declared ms ≡ declared ls
  pub shows : (e : Naming) (c : Cycle) → AreShown e a ls c → (d : Cycle) × AreShown e b ms d × (after_edge (flat_place f) (clocked rest) c d ≡ after_edge (flat_place f) (clocked f.blocks) c c)

pub running_next : (f : Flat) (k : Always) (rest : List Always) (ls ms ks : List Leaf) (a b d : List Node) → IsBoard f.signals ls a → k.clocked ≡ true → Running f (k ∷ rest) ls a ms b → Keeps b d → declared ks ≡ declared ms → AreSet (Some ls) ks d
    → Runs (Some ls) (λ gs. run false (place_over gs) k.body) ms b ks d → Running f rest ls a ks d
running_next f k rest ls ms ks a b d board t h keeps same set runs = record {
  keeps = keeps_then a b d h.keeps keeps;
  set = set;
  same = same ∙ h.same;
  shows = λ e c s.
      let r = h.shows e c s in (
        run false (flat_place f) k.body c r.0,
        runs f.signals e c r.0 (same_leaves f.signals ls ms h.same board.leaves) (shown_kept e ls a b c h.keeps board.ready s) r.1,
        sym (listed k.clocked c r.0 t) ∙ r.2,
      );
}
  where
    listed : (t : Bool) (c d : Cycle) → t ≡ true → after_edge (flat_place f) (if t then k.body ∷ clocked rest else clocked rest) c d ≡ after_edge (flat_place f) (clocked rest) c (run false (flat_place f) k.body c d)
    listed true c d e = refl
    listed false c d e = cc

pub running_past : (f : Flat) (k : Always) (rest : List Always) (ls ms : List Leaf) (a b : List Node) → k.clocked ≡ false → Running f (k ∷ rest) ls a ms b → Running f rest ls a ms b
running_past f k rest ls ms a b t h = record {
  keeps = h.keeps;
  set = h.set;
  same = h.same;
  shows = λ e c s. let r = h.shows e c s in (r.0, r.1, sym (listed k.clocked c r.0 t) ∙ r.2);
}
  where
    listed : (t : Bool) (c d : Cycle) → t ≡ false → after_edge (flat_place f) (if t then k.body ∷ clocked rest else clocked rest) c d ≡ after_edge (flat_place f) (clocked rest) c d
    listed true c d e = cc
    listed false c d e = refl

pub running_end : (f : Flat) (ls ms : List Leaf) (a b : List Node) → Running f [] ls a ms b → ShowsEdge f ls a ms b
running_end f ls ms a b h e c s = let r = h.shows e c s in subst (λ z. AreShown e b ms z) r.2 r.1

pub blocks_at : (ks : List Always) (i : ℕ) (k u : Always) → i < length ks → k ≡ get_or ks i u → drop i ks ≡ k ∷ drop (i + 1) ks
blocks_at ks i k u lt e = let n : i + 1 ≡ suc i = omega arith in next ks i lt e ∙ ap (λ z. k ∷ drop z ks) (sym n)
  where
    next : (ks : List Always) (i : ℕ) → i < length ks → k ≡ get_or ks i u → drop i ks ≡ k ∷ drop (suc i) ks
    next [] i lt e = absurd (omega arith)
    next (m ∷ ks) zero lt e = ap (λ z. z ∷ ks) (sym e)
    next (m ∷ ks) (suc i) lt e = next ks i (omega arith) e

pub blocks_all : (ks : List Always) (i : ℕ) → length ks ≤ i → drop i ks ≡ []
blocks_all [] zero le = refl
blocks_all [] (suc i) le = refl
blocks_all (k ∷ ks) zero le = absurd (omega arith)
blocks_all (k ∷ ks) (suc i) le = blocks_all ks i (omega arith)
