-- A solution's leaves, and what their nodes are in a cycle.
use Rattle.std.proofs.Common.{arith, ◌≡◌, ℕ, ◌<◌, Bool, true, false, List, [], ◌∷◌, Some, refl, sym, ◌∙◌, subst, inl, inr, length}
use Rattle.std.proofs.Math.Nat.{mod-eq_of_lt}
use Rattle.vlog_tree_runs.specs.declared.flat.Flat.{Flat}
use Rattle.vlog_tree_runs.specs.declared.flat.Signal.{Signal}
use Rattle.vlog_tree_runs.specs.Places.{Name, Cycle}
use Rattle.vlog_tree_runs.specs.Contents.{is_among}
use Rattle.vlog_tree_runs.specs.Cycles.{flat_place}
use Rattle.word_dag.specs.declared.node.Node.{Node}
use Rattle.word_dag.specs.Nodes.{Naming}
use Rattle.word_dag.specs.Adding.{Keeps}
use Rattle.word_dag.proofs.Valued.{grows_kept}
use Rattle.elab_step_design.specs.Designs.{naming_of}
use Rattle.elab_step_expr.specs.declared.leaves.Leaf.{Leaf}
use Rattle.elab_step_expr.specs.Leaves.{AreReady}
use Rattle.elab_step_expr.specs.Nodes.{AddsFrees, number_at}
use Rattle.elab_step_expr.proofs.Kept.{number_kept, ready_kept, keeps_then}
use Rattle.elab_step_blocks.specs.Saving.{node_at}
use Rattle.elab_step_blocks.specs.Standing.{AreLeavesOf, AreShown}
use Rattle.elab_step_blocks.specs.Runs.{AreSet}
use Rattle.elab_step_laws.specs.Laws.{AreFit}
use Rattle.elab_step_nets.specs.Solving.{clocked, processes, after_edge, solved, joined}
use Rattle.elab_step_nets.specs.Boards.{IsBoard, AreBegun, IsFreeOf, Shows, ShowsEdge, IsSolution, name_of, unset}
use Rattle.elab_step_nets.proofs.Boards.{shown_kept, shown_at, begun_grown, leaves_long}

pub shown_before : (e : Naming) (ls : List Leaf) (a b : List Node) (c : Cycle) → Keeps a b → AreReady ls a → AreShown e b ls c → AreShown e a ls c
shown_before e [] a b c k r h = tt
shown_before e (l ∷ ls) a b c k r h = (h.0 ∙ number_kept e a b l.node l.width k r.1, shown_before e ls a b c k r.2 h.1)

board_kept : (gs : List Signal) (ls : List Leaf) (a b : List Node) → Keeps a b → IsBoard gs ls a → IsBoard gs ls b
board_kept gs ls a b k h = record { leaves = h.leaves; ready = ready_kept ls a b k h.ready; apart = h.apart }

pub solution : (f : Flat) (xss : List (List Name)) (ts : List Bool) (a b d : List Node) (first start now next : List Leaf) → IsBoard f.signals first a → AreBegun a f.signals ts first → AddsFrees (IsFreeOf f.signals ts) [] a → start ≡ first → Keeps a b → IsBoard f.signals now b
    → Shows (solved (flat_place f) (processes f) xss) start a now b → Keeps b d → AreSet (Some now) next d → ShowsEdge f now b next d → IsSolution f xss ts d first now next
solution f xss ts a b d first start now next board begun frees e k nb shows m set edge =
    let km = keeps_then a b d k m in
    let P : List Leaf → Type 0 = λ z. Shows (solved (flat_place f) (processes f) xss) z a now b in
    let sh = subst P e shows in
    record {
      first_board = board_kept f.signals first a d km board;
      begun = begun_grown a d f.signals ts first (grows_kept a d km) board.ready begun;
      frees = λ n i free at. elim (frees n i free (km.frees n i free at)) [ inl none ↦ absurd (omega (arith, none.0)) | inr g ↦ g ];
      board = board_kept f.signals now b d m nb;
      set = set;
      shows = λ e c s. shown_kept e now b d (solved (flat_place f) (processes f) xss c) m nb.ready (sh e c (shown_before e first a d c km board.ready s));
      edge = λ e c s. edge e c (shown_before e now b d c m nb.ready s);
    }

-- the flags tell the names of a list
abbrev pub AreFlags : List Name → List Signal → List Bool → Type 0
AreFlags xs [] [] = Unit {0}
AreFlags xs (g ∷ gs) (t ∷ ts) = (is_among xs g.name ≡ t) × AreFlags xs gs ts
AreFlags xs gs ts = ⊥

-- leaves that are begun show a cycle in which the nets are 0
pub begun_shown : (ns : List Node) (xs : List Name) (c : Cycle) (gs : List Signal) (ts : List Bool) (ls : List Leaf) → AreFlags xs gs ts → AreBegun ns gs ts ls → AreFit gs c → AreShown (naming_of c) ns ls (unset xs c)
begun_shown ns xs c [] [] [] f h fits = tt
begun_shown ns xs c [] [] (l ∷ ls) f h fits = absurd h
begun_shown ns xs c [] (t ∷ ts) ls f h fits = absurd f
begun_shown ns xs c (g ∷ gs) [] ls f h fits = absurd f
begun_shown ns xs c (g ∷ gs) (t ∷ ts) [] f h fits = absurd h
begun_shown ns xs c (g ∷ gs) (true ∷ ts) (l ∷ ls) f h fits = (
  subst (λ x. unset xs c x ≡ number_at (naming_of c) ns l.node) (sym h.0.name) (rw f.0 (sym (h.1 (naming_of c)))),
  begun_shown ns xs c gs ts ls f.1 h.2 (λ k m. fits k (inr m)),
)
begun_shown ns xs c (g ∷ gs) (false ∷ ts) (l ∷ ls) f h fits = (
  subst (λ x. unset xs c x ≡ number_at (naming_of c) ns l.node) (sym h.0.name) (rw f.0 (sym (h.1.1 (naming_of c) ∙ mod-eq_of_lt (fits g (inl refl))))),
  begun_shown ns xs c gs ts ls f.1 h.2 (λ k m. fits k (inr m)),
)

module _ (f : Flat) (xss : List (List Name)) (ts : List Bool) (ns : List Node) (first now next : List Leaf) (is : IsSolution f xss ts ns first now next) (flags : AreFlags (joined xss) f.signals ts) (c : Cycle) (fits : AreFit f.signals c) where
  abbrev solved_to : Cycle
  solved_to = solved (flat_place f) (processes f) xss (unset (joined xss) c)

  now_shown : AreShown (naming_of c) ns now solved_to
  now_shown = is.shows (naming_of c) (unset (joined xss) c) (begun_shown ns (joined xss) c f.signals ts first flags is.begun fits)

  -- and its next node what the clocked blocks leave
  pub next_number : AreLeavesOf f.signals next → (i : ℕ) → i < length f.signals → number_at (naming_of c) ns (node_at next i) ≡ after_edge (flat_place f) (clocked f.blocks) solved_to solved_to (name_of f.signals i)
  next_number are i l =
      let n = leaves_long f.signals next are in
      sym (shown_at (naming_of c) ns (after_edge (flat_place f) (clocked f.blocks) solved_to solved_to) f.signals next i are (omega (arith, l, n)) (is.edge (naming_of c) solved_to now_shown))
