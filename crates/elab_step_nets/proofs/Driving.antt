-- Nets that statements drive, and the copies of what blocks leave.
use Rattle.std.proofs.Common.{arith, ◌≡◌, ℕ, zero, suc, ◌+◌, ◌-◌, ◌^◌, ◌<◌, ◌≤◌, true, false, List, [], ◌∷◌, refl, sym, ap, ◌∙◌, subst, inl, inr, ⊎_elim, map, length, get_or, drop, Vec, Global}
use Rattle.std.specs.Prelude.{replicate}
use Rattle.std.specs.List.{All}
use Rattle.std.proofs.Math.Nat.{mod-eq_of_lt}
use Rattle.vlog_tree.specs.declared.stmt.Stmt.{Stmt}
use Rattle.vlog_tree_runs.specs.declared.flat.Always.{Always}
use Rattle.vlog_tree_runs.specs.declared.flat.Flat.{Flat}
use Rattle.vlog_tree_runs.specs.declared.flat.Signal.{Signal}
use Rattle.vlog_tree_runs.specs.Places.{Name, Cycle, Among}
use Rattle.vlog_tree_runs.specs.Blocks.{run}
use Rattle.vlog_tree_runs.specs.Cycles.{flat_place}
use Rattle.word_core.specs.Words.{Bits}
use Rattle.word_dag.specs.declared.node.Node.{Node}
use Rattle.word_dag.specs.Adding.{Keeps}
use Rattle.word_dag.specs.Nodes.{FitFrom, Naming}
use Rattle.elab_step_design.specs.Designs.{naming_of}
use Rattle.elab_step_expr.specs.declared.leaves.Leaf.{Leaf}
use Rattle.elab_step_expr.specs.Leaves.{declared, AreReady, with_node}
use Rattle.elab_step_expr.specs.Nodes.{number_at}
use Rattle.elab_step_expr.proofs.Kept.{number_fits, ready_kept, keeps_same}
use Rattle.elab_step_expr.proofs.Leaving.{declared_with}
use Rattle.elab_step_blocks.specs.declared.branches.Saved.{Saved}
use Rattle.elab_step_blocks.specs.Saving.{node_at, places_of, put_back, AreWithin, AreSaved}
use Rattle.elab_step_blocks.specs.Standing.{flat, AreLeavesOf, AreApart, AreShown}
use Rattle.elab_step_blocks.specs.Targets.{name_at}
use Rattle.elab_step_blocks.proofs.Joins.{apart_same}
use Rattle.elab_step_blocks.proofs.Saving.{back_declared, back_ready}
use Rattle.elab_step_blocks.proofs.Saving as saving
use Rattle.elab_step_laws.specs.Laws.{AreFit}
use Rattle.elab_step_copies.specs.declared.copier.Copier.{Copier}
use Rattle.elab_step_copies.specs.Copies.{AreCopies, AreMoved, EachCopy, IsSound}
use Rattle.elab_step_copies.proofs.Moving.{width_same}
use Rattle.elab_step_nets.specs.declared.nets.Processes.{Processes}
use Rattle.elab_step_nets.specs.declared.outcomes.Outcome.{Outcome}
use Rattle.elab_step_nets.specs.Solving.{taking, settled, driven, drivers_in, processes}
use Rattle.elab_step_nets.specs.Asked.{CanElaborate}
use Rattle.elab_step_nets.specs.Boards.{IsBoard, IsProcess, AreBegun, Shows, driven_by, statements, statement_at, picked, name_of, names_of, groups_of}
use Rattle.elab_step_nets.specs.Outcomes.{IsSource, IsOutcome, AreOutcomes, AreRoots, AreProcesses, AreSameProcesses, CanDrive, AreDriven}
use Rattle.elab_step_nets.proofs.Boards.{shown_kept, shown_at, shown_taking, leaves_long, others_shown, lacks_name, taking_next, same_leaves, same_long, rest_is, each_within, block_at, statements_long, Clearing, Settling, settling_start, settling_next, settling_end, follows_end, Solving, solving_start, solving_next}
use Rattle.elab_step_nets.proofs.Solving.{taken, kept}

-- ---- leaves that a step leaves as they are

-- a cycle that leaves show
abbrev cycle_of : Naming → List Node → List Leaf → Cycle
cycle_of e ns [] = λ x. 0
cycle_of e ns (l ∷ ls) = taking (l.name ∷ []) (λ x. number_at e ns l.node) (cycle_of e ns ls)

cycle_shown : (e : Naming) (ns : List Node) (ls : List Leaf) → AreApart ls → AreShown e ns ls (cycle_of e ns ls)
cycle_shown e ns [] h = tt
cycle_shown e ns (l ∷ ls) h = (
  taken (l.name ∷ []) l.name (λ x. number_at e ns l.node) (cycle_of e ns ls) (inl refl),
  others_shown e ns l.name (λ x. number_at e ns l.node) (cycle_of e ns ls) ls h.0 (cycle_shown e ns ls h.1),
)

one_place : (gs : List Signal) (ls : List Leaf) (i j : ℕ) → AreLeavesOf gs ls → AreApart ls → i < length ls → j < length ls → name_of gs i ≡ name_of gs j → i ≡ j
one_place [] [] i j are apart li lj q = absurd (omega arith)
one_place [] (l ∷ ls) i j are apart li lj q = absurd are
one_place (g ∷ gs) [] i j are apart li lj q = absurd are
one_place (g ∷ gs) (l ∷ ls) zero zero are apart li lj q = refl
one_place (g ∷ gs) (l ∷ ls) zero (suc j) are apart li lj q = absurd (lacks_name l.name gs ls j are.1 (omega arith) apart.0 (are.0.name ∙ q))
one_place (g ∷ gs) (l ∷ ls) (suc i) zero are apart li lj q = absurd (lacks_name l.name gs ls i are.1 (omega arith) apart.0 (are.0.name ∙ sym q))
one_place (g ∷ gs) (l ∷ ls) (suc i) (suc j) are apart li lj q = ap suc (one_place gs ls i j are.1 apart.1 (omega arith) (omega arith) q)

names_miss : (gs : List Signal) (ls : List Leaf) (is : List ℕ) (j : ℕ) → AreLeavesOf gs ls → AreApart ls → j < length ls → ((i : ℕ) → Among is i → i < length ls) → (Among is j → ⊥) → Among (names_of gs is) (name_of gs j) → ⊥
names_miss gs ls [] j are apart lt within miss m = m
names_miss gs ls (i ∷ is) j are apart lt within miss m =
    ⊎_elim (λ (q : name_of gs i ≡ name_of gs j). miss (inl (one_place gs ls i j are apart (within i (inl refl)) lt q)))
    (λ n. names_miss gs ls is j are apart lt (λ k r. within k (inr r)) (λ r. miss (inr r)) n) m

-- where leaves show another cycle's values of some nets, all others have the numbers that they had
others_kept : (gs : List Signal) (is : List ℕ) (f : Cycle → Cycle) (ls ms : List Leaf) (a b : List Node) → IsBoard gs ls a → IsBoard gs ms b → length ms ≡ length ls → AreWithin ls is → Shows (λ c. taking (names_of gs is) (f c) c) ls a ms b
    → (e : Naming) (j : ℕ) → j < length ls → (Among is j → ⊥) → number_at e b (node_at ms j) ≡ number_at e a (node_at ls j)
others_kept gs is f ls ms a b old new long within shows e j lt miss =
    let c = cycle_of e a ls in
    let h : AreShown e a ls c = cycle_shown e a ls old.apart in
    let d : Cycle = taking (names_of gs is) (f c) c in
    let m : AreShown e b ms d = shows e c h in
    sym (shown_at e b d gs ms j new.leaves (omega (arith, lt, long)) m)
    ∙ (kept (names_of gs is) (name_of gs j) (f c) c (names_miss gs ls is j old.leaves old.apart lt (each_within ls is within) miss) ∙ shown_at e a c gs ls j old.leaves lt h)

-- so the leaves of nets alone have moved
pub nets_moved : (gs : List Signal) (is : List ℕ) (f : Cycle → Cycle) (ls ms : List Leaf) (a b : List Node) → IsBoard gs ls a → IsBoard gs ms b → Keeps a b → AreWithin ls is → Shows (λ c. taking (names_of gs is) (f c) c) ls a ms b → AreMoved is ls a ms b
nets_moved gs is f ls ms a b old new keeps within shows =
    let same : declared ms ≡ declared ls = rest_is gs ms new.leaves ∙ sym (rest_is gs ls old.leaves) in
    record { keeps = keeps; same = same; numbers = others_kept gs is f ls ms a b old new (same_long ls ms same) within shows }

back_apart : (ls : List Leaf) (ss : List Saved) (j : ℕ) → (Among (places_of ss) j → ⊥) → node_at (put_back ls ss) j ≡ node_at ls j
back_apart ls [] j miss = refl
back_apart ls (s ∷ ss) j miss = back_apart (with_node ls s.place s.node) ss j (λ m. miss (inr m)) ∙ saving.node_off ls s.place j s.node (λ q. miss (inl q))

pub back_moved : (ls : List Leaf) (ss : List Saved) (is : List ℕ) (ns : List Node) → places_of ss ≡ is → AreMoved is ls ns (put_back ls ss) ns
back_moved ls ss is ns places = record {
  keeps = keeps_same ns;
  same = back_declared ls ss;
  numbers = λ e j lt miss. ap (number_at e ns) (back_apart ls ss j (λ m. miss (subst (λ (z : List ℕ). Among z j) places m)));
}

-- ---- cycles that a source shows

shown_fit : (e : Naming) (ns : List Node) (c : Cycle) (gs : List Signal) (ls : List Leaf) → FitFrom [] ns → AreLeavesOf gs ls → AreReady ls ns → AreShown e ns ls c → AreFit gs c
shown_fit e ns c [] ls fit are ready h k m = absurd m
shown_fit e ns c (g ∷ gs) [] fit are ready h k m = absurd are
shown_fit e ns c (g ∷ gs) (l ∷ ls) fit are ready h k m =
    let one : c l.name < 2 ^ l.width = subst (λ v. v < 2 ^ l.width) (sym h.0) (number_fits e ns l.node l.width fit ready.1) in
    let here : c g.name < 2 ^ g.width = subst (λ w. c g.name < 2 ^ w) are.0.width (subst (λ (x : Name). c x < 2 ^ l.width) are.0.name one) in
    ⊎_elim (λ (q : g ≡ k). subst (λ (z : Signal). c z.name < 2 ^ z.width) q here) (λ n. shown_fit e ns c gs ls fit are.1 ready.2 h.1 k n) m

source_shown : (ns : List Node) (c : Cycle) (gs : List Signal) (ls : List Leaf) → AreBegun ns gs (replicate (length gs) false) ls → AreFit gs c → AreShown (naming_of c) ns ls c
source_shown ns c [] [] h fits = tt
source_shown ns c [] (l ∷ ls) h fits = absurd h
source_shown ns c (g ∷ gs) [] h fits = absurd h
source_shown ns c (g ∷ gs) (l ∷ ls) h fits = (
  subst (λ (x : Name). c x ≡ number_at (naming_of c) ns l.node) (sym h.0.name) (sym (h.1.1 (naming_of c) ∙ mod-eq_of_lt (fits g (inl refl)))),
  source_shown ns c gs ls h.2 (λ k m. fits k (inr m)),
)

-- ---- nodes that are put into leaves

-- each node has the number of its leaf's name in a cycle
abbrev AreGiven : Naming → List Node → Cycle → List Signal → ℕ → List Saved → Type 0
AreGiven e b d gs n [] = Unit {0}
AreGiven e b d gs n (s ∷ ss) = (s.place < n) × (d (name_of gs s.place) ≡ number_at e b s.node) × AreGiven e b d gs n ss

shown_given : (e : Naming) (b : List Node) (d : Cycle) (gs : List Signal) (n : ℕ) (ss : List Saved) (ls : List Leaf) (c : Cycle) → AreLeavesOf gs ls → AreApart ls → length ls ≡ n → AreGiven e b d gs n ss → AreShown e b ls c
    → AreShown e b (put_back ls ss) (taking (names_of gs (places_of ss)) d c)
shown_given e b d gs n [] ls c are apart long given h = h
shown_given e b d gs n (s ∷ ss) ls c are apart long given h =
    let next = with_node ls s.place s.node in
    let moved = declared_with ls s.place s.node in
    let lt = given.0 in
    subst (AreShown e b (put_back next ss)) (sym (taking_next (name_of gs s.place) (names_of gs (places_of ss)) d c))
    (shown_given e b d gs n ss next (taking (name_of gs s.place ∷ []) d c) (same_leaves gs ls next moved are) (apart_same ls next moved apart) (same_long ls next moved ∙ long) given.2
    (shown_taking e b d c gs ls s.place s.node are apart (omega (arith, lt, long)) h given.1))

names_same : (gs : List Signal) (ls : List Leaf) (i : ℕ) → AreLeavesOf gs ls → name_at ls i ≡ name_of gs i
names_same [] [] i are = refl
names_same [] (l ∷ ls) i are = absurd are
names_same (g ∷ gs) [] i are = absurd are
names_same (g ∷ gs) (l ∷ ls) zero are = are.0.name
names_same (g ∷ gs) (l ∷ ls) (suc i) are = names_same gs ls i are.1

rest_copies : (source : List Node) (ls : List Leaf) (ns : List Node) (r i : ℕ) (rs is : List ℕ) → EachCopy source ls ns (r ∷ rs) (i ∷ is) → EachCopy source ls ns rs is
rest_copies source ls ns r i rs is h = let n = h.0 in (omega (arith, n), λ k lt. h.1 (suc k) (omega (arith, lt)))

-- copies of what a statement leaves at places of a source's leaves
module _ (gs : List Signal) (first : List Leaf) (source : List Node) (body : Stmt) (ls : List Leaf) (b : List Node) (old : AreLeavesOf gs first) (are : AreLeavesOf gs ls) where
  given : (e : Naming) (c : Cycle) → AreShown (naming_of c) source first c → AreShown e b ls c → (ss : List Saved) (rs : List ℕ) → AreRoots first source body (places_of ss) rs
      → EachCopy source ls b rs (map (λ (s : Saved). s.node) ss) → AreWithin ls (places_of ss) → AreGiven e b (run true (flat gs) body c c) gs (length ls) ss
  given e c here there [] rs roots copies within = tt
  given e c here there (s ∷ ss) [] roots copies within = absurd roots
  given e c here there (s ∷ ss) (r ∷ rs) roots copies within =
      let d = run true (flat gs) body c c in
      let root : d (name_at first s.place) ≡ number_at (naming_of c) source r = roots.0.number gs (naming_of c) c old here in
      let copy = copies.1 0 (omega arith) in
      let number : number_at e b s.node ≡ number_at (naming_of c) source r = ap (λ (w : Bits). w.value) (copy.word e c there) in (
        within 0 0 (omega arith),
        ap d (sym (names_same gs first s.place old)) ∙ (root ∙ sym number),
        given e c here there ss rs roots.1 (rest_copies source ls b r s.node rs (map (λ (s : Saved). s.node) ss) copies) (λ k u lt. within (suc k) u (omega (arith, lt))),
      )

  copies_saved : (ss : List Saved) (rs : List ℕ) → AreRoots first source body (places_of ss) rs → EachCopy source ls b rs (map (λ (s : Saved). s.node) ss) → AreWithin ls (places_of ss) → AreSaved ls ss b
  copies_saved [] rs roots copies within = tt
  copies_saved (s ∷ ss) [] roots copies within = absurd roots
  copies_saved (s ∷ ss) (r ∷ rs) roots copies within =
      let same : declared first ≡ declared ls = rest_is gs first old ∙ sym (rest_is gs ls are) in
      let copy = copies.1 0 (omega arith) in (
        within 0 0 (omega arith),
        (copy.node.0, copy.node.1 ∙ (roots.0.node.1 ∙ width_same ls first s.place same)),
        copies_saved ss rs roots.1 (rest_copies source ls b r s.node rs (map (λ (s : Saved). s.node) ss) copies) (λ k u lt. within (suc k) u (omega (arith, lt))),
      )

-- ---- what a block leaves, given to nets

pub outcomes_long : (ls : List Leaf) (ns : List Node) (ks : List Always) (os : List Outcome) → AreOutcomes ls ns ks os → length os ≡ length ks
outcomes_long ls ns [] [] h = refl
outcomes_long ls ns [] (o ∷ os) h = absurd h
outcomes_long ls ns (k ∷ ks) [] h = absurd h
outcomes_long ls ns (k ∷ ks) (o ∷ os) h = ap suc (outcomes_long ls ns ks os h.1)

pub outcome_at : (ls : List Leaf) (ns : List Node) (ks : List Always) (os : List Outcome) (i : ℕ) (k u : Always) (o v : Outcome) → AreOutcomes ls ns ks os → i < length ks → k ≡ get_or ks i u → o ≡ get_or os i v → k.clocked ≡ false → IsOutcome ls ns k.body o
outcome_at ls ns [] os i k u o v h lt ek eo off = absurd (omega arith)
outcome_at ls ns (x ∷ ks) [] i k u o v h lt ek eo off = absurd h
outcome_at ls ns (x ∷ ks) (y ∷ os) zero k u o v h lt ek eo off =
    subst (λ (z : Outcome). IsOutcome ls ns k.body z) (sym eo) (subst (λ (z : Always). IsOutcome ls ns z.body y) (sym ek) (h.0 (subst (λ (z : Always). z.clocked ≡ false) ek off)))
outcome_at ls ns (x ∷ ks) (y ∷ os) (suc i) k u o v h lt ek eo off = outcome_at ls ns ks os i k u o v h.1 (omega arith) ek eo off

pub block_there : (ks : List Always) (i : ℕ) → i < length ks → (k : Always) × (k ≡ get_or ks i k)
block_there [] i lt = absurd (omega arith)
block_there (k ∷ ks) zero lt = (k, refl)
block_there (k ∷ ks) (suc i) lt = block_there ks i (omega arith)

pub roots_long : (ls : List Leaf) (ns : List Node) (body : Stmt) (ps rs : List ℕ) → AreRoots ls ns body ps rs → length rs ≡ length ps
roots_long ls ns body [] [] h = refl
roots_long ls ns body [] (r ∷ rs) h = absurd h
roots_long ls ns body (p ∷ ps) [] h = absurd h
roots_long ls ns body (p ∷ ps) (r ∷ rs) h = ap suc (roots_long ls ns body ps rs h.1)

pub roots_within : (ls : List Leaf) (ns : List Node) (body : Stmt) (ps rs : List ℕ) → AreRoots ls ns body ps rs → All (λ n. n < length ns) rs
roots_within ls ns body [] [] h k u lt = absurd (omega (arith, lt))
roots_within ls ns body [] (r ∷ rs) h k u lt = absurd h
roots_within ls ns body (p ∷ ps) [] h k u lt = absurd h
roots_within ls ns body (p ∷ ps) (r ∷ rs) h zero u lt = h.0.node.0
roots_within ls ns body (p ∷ ps) (r ∷ rs) h (suc k) u lt = roots_within ls ns body ps rs h.1 k u (omega (arith, lt))

module _ (p : Processes) (body : Stmt) (is rs cs : List ℕ) (ss : List Saved) (ls : List Leaf) (a b : List Node) (board : IsBoard p.flat.now.signals ls a) (keeps : Keeps a b) (are : AreProcesses p ls a)
    (roots : AreRoots p.first p.copier.source body is rs) (copies : EachCopy p.copier.source ls b rs cs) (within : AreWithin ls is) (places : places_of ss ≡ is) (nodes : map (λ (s : Saved). s.node) ss ≡ cs) where
  abbrev gs : List Signal
  gs = p.flat.now.signals

  roots_there : AreRoots p.first p.copier.source body (places_of ss) rs
  roots_there = subst (λ (z : List ℕ). AreRoots p.first p.copier.source body z rs) (sym places) roots

  copies_there : EachCopy p.copier.source ls b rs (map (λ (s : Saved). s.node) ss)
  copies_there = subst (λ (z : List ℕ). EachCopy p.copier.source ls b rs z) (sym nodes) copies

  within_there : AreWithin ls (places_of ss)
  within_there = subst (λ (z : List ℕ). AreWithin ls z) (sym places) within

  pub block_board : IsBoard p.flat.now.signals (put_back ls ss) b
  block_board = record {
    leaves = same_leaves gs ls (put_back ls ss) (back_declared ls ss) board.leaves;
    ready = back_ready ls ss b (ready_kept ls a b keeps board.ready) (copies_saved gs p.first p.copier.source body ls b are.source.board.leaves board.leaves ss rs roots_there copies_there within_there);
    apart = apart_same ls (put_back ls ss) (back_declared ls ss) board.apart;
  }

  pub block_shown : FitFrom [] b → Shows (λ c. taking (names_of p.flat.now.signals is) (run true (flat p.flat.now.signals) body c c) c) ls a (put_back ls ss) b
  block_shown fit e c h =
      let there : AreShown e b ls c = shown_kept e ls a b c keeps board.ready h in
      let fits : AreFit gs c = shown_fit e b c gs ls fit board.leaves (ready_kept ls a b keeps board.ready) there in
      let here : AreShown (naming_of c) p.copier.source p.first c = source_shown p.copier.source c gs p.first are.source.begun fits in
      let d = run true (flat gs) body c c in
      let P : List ℕ → Type 0 = λ z. AreShown e b (put_back ls ss) (taking (names_of gs z) d c) in
      subst P places
      (shown_given e b d gs (length ls) ss ls c board.leaves board.apart refl
      (given gs p.first p.copier.source body ls b are.source.board.leaves board.leaves e c here there ss rs roots_there copies_there within_there) there)

-- processes with another copier of the same source
pub processes_with : (p : Processes) (k : Copier) (ls ms : List Leaf) (a b : List Node) → AreProcesses p ls a → k.source ≡ p.copier.source → AreCopies k ms b → AreProcesses (record p { copier = k }) ms b
processes_with p k ls ms a b are same copies = record {
  source = subst (λ (z : List Node). IsSource p.flat.now.signals p.first z) (sym same) are.source;
  outcomes = subst (λ (z : List Node). AreOutcomes p.first z p.flat.now.blocks p.outcomes.items) (sym same) are.outcomes;
  copies = copies;
}

-- ---- a block by its place

pub block_unclocked : (f : Flat) (n place : ℕ) → n ≡ length f.assigns → n ≤ place → IsProcess f place → (place - n < length f.blocks) × ((k : Always) → k ≡ get_or f.blocks (place - n) k → k.clocked ≡ false)
block_unclocked f n place long le h =
    let lt = h.0 in
    let all = statements_long f in
    let at : place - n < length f.blocks = omega (arith, lt, all, long, le) in
    let is : place ≡ length f.assigns + (place - n) = omega (arith, long, le) in
    (at, λ k e. h.1 (place - n) k is at e)

pub block_driven : (p q : Processes) (n place : ℕ) (is : List ℕ) (ls ms : List Leaf) (a b : List Node) → n ≡ length p.flat.now.assigns → n ≤ place → IsProcess p.flat.now place
    → ((k : Always) → k ≡ get_or p.flat.now.blocks (place - n) k → AreDriven (driven_by p.flat.now is k.body) p q ls a ms b) → AreDriven (driven_by p.flat.now is (statement_at (statements p.flat.now) place)) p q ls a ms b
block_driven p q n place is ls ms a b long le h driven =
    let f = p.flat.now in
    let at = (block_unclocked f n place long le h).0 in
    let k = block_there f.blocks (place - n) at in
    let same : length f.assigns + (place - n) ≡ place = omega (arith, long, le) in
    let e : k.0.body ≡ statement_at (statements f) place = block_at f (place - n) k.0 k.0 at k.1 ∙ ap (statement_at (statements f)) same in
    let P : Stmt → Type 0 = λ z. AreDriven (driven_by f is z) p q ls a ms b in
    subst P e (driven k.0 k.1)

pub within_moved : (ls ms : List Leaf) (is : List ℕ) → length ms ≡ length ls → AreWithin ls is → AreWithin ms is
within_moved ls ms is long within j u lt = let w = within j u lt in omega (arith, w, long)

-- ---- the same processes

pub processes_then : (p q r : Processes) → AreSameProcesses p q → AreSameProcesses q r → AreSameProcesses p r
processes_then p q r h k = record { flat = k.flat ∙ h.flat; first = k.first ∙ h.first; outcomes = k.outcomes ∙ h.outcomes; source = k.source ∙ h.source }

-- ---- nets that are 0, and then driven

-- the leaves of nets alone have moved where they are 0
pub cleared_moved : (f : Flat) (is : List ℕ) (ls ms : List Leaf) (a b : List Node) → IsBoard f.signals ls a → AreWithin ls is → Clearing f (names_of f.signals is) [] ls a ms b → AreMoved is ls a ms b
cleared_moved f is ls ms a b board within h = nets_moved f.signals is (λ c y. 0) ls ms a b board h.board h.keeps within (follows_end (taking (names_of f.signals is) (λ y. 0)) ls ms a b h.follows)

pub sound_moved : (p : Processes) (ls ms : List Leaf) (ns : List Node) → AreProcesses p ls ns → length ms ≡ length ls → IsSound p.copier (length ms)
sound_moved p ls ms ns are long = subst (λ (n : ℕ). IsSound p.copier n) (sym long) are.copies.sound

pub boards_long : (gs : List Signal) (ls ms : List Leaf) (a b : List Node) → IsBoard gs ls a → IsBoard gs ms b → length ms ≡ length ls
boards_long gs ls ms a b h k = leaves_long gs ms k.leaves ∙ sym (leaves_long gs ls h.leaves)

pub record Settles (p q : Processes) (all : List Stmt) (xs : List Name) (rest : List Stmt) (ls : List Leaf) (a : List Node) (ms : List Leaf) (b : List Node) : Type 0 where
  pub settling : Settling p.flat.now all xs rest ls a ms b
  pub same : AreSameProcesses p q
  pub processes : AreProcesses q ms b

pub settles_start : (p q : Processes) (all : List Stmt) (xs : List Name) (ls ms : List Leaf) (a b : List Node) → Clearing p.flat.now xs [] ls a ms b → AreSameProcesses p q → AreProcesses q ms b → Settles p q all xs all ls a ms b
settles_start p q all xs ls ms a b h same are = record { settling = settling_start p.flat.now all xs ls ms a b h; same = same; processes = are }

-- nets can be driven by the next statement
pub settles_can : (p q : Processes) (is : List ℕ) (all rest : List Stmt) (xs : List Name) (ls ms : List Leaf) (a b : List Node) → CanDrive p ls a is → Settles p q all xs rest ls a ms b → CanDrive q ms b is
settles_can p q is all rest xs ls ms a b ready h =
    let board = h.settling.board in
    let long = boards_long p.flat.now.signals ls ms a b ready.board board in
    record {
      can = subst CanElaborate (sym h.same.flat) ready.can;
      board = subst (λ (z : Flat). IsBoard z.signals ms b) (sym h.same.flat) board;
      processes = h.processes;
      within = λ j u lt. let w = ready.within j u lt in omega (arith, w, long);
    }

pub settles_next : (p q r : Processes) (all rest : List Stmt) (is : List ℕ) (place : ℕ) (ls ms ks : List Leaf) (a b d : List Node)
    → Settles p q all (names_of p.flat.now.signals is) (statement_at (statements p.flat.now) place ∷ rest) ls a ms b → Keeps b d → AreDriven (driven_by q.flat.now is (statement_at (statements q.flat.now) place)) q r ms b ks d
    → Settles p r all (names_of p.flat.now.signals is) rest ls a ks d
settles_next p q r all rest is place ls ms ks a b d h keeps driven =
    let f = p.flat.now in
    let B : Flat → Type 0 = λ z. IsBoard z.signals ks d in
    let S : Flat → Type 0 = λ z. Shows (driven_by z is (statement_at (statements z) place)) ms b ks d in
    let board = subst B h.same.flat driven.board in
    record {
      settling = settling_next f all (names_of f.signals is) (statement_at (statements f) place) rest ls ms ks a b d h.settling keeps (boards_long f.signals ms ks b d h.settling.board board) board (subst S h.same.flat driven.shows);
      same = processes_then p q r h.same driven.same;
      processes = driven.processes;
    }

pub settles_end : (p q : Processes) (all : List Stmt) (xs : List Name) (ls ms : List Leaf) (a b : List Node) → Settles p q all xs [] ls a ms b → AreDriven (settled (flat_place p.flat.now) all xs) p q ls a ms b
settles_end p q all xs ls ms a b h = record { same = h.same; board = h.settling.board; processes = h.processes; shows = settling_end p.flat.now all xs ls ms a b h.settling }

-- ---- groups, one after another

pub record Rounds (f : Flat) (p : Processes) (vs : List (Vec ℕ Global)) (count : ℕ) (ls : List Leaf) (a : List Node) (ms : List Leaf) (b : List Node) : Type 0 where
  pub solving : Solving f (groups_of f.signals vs) (groups_of f.signals (drop count vs)) ls a ms b
  pub flat : p.flat.now ≡ f
  pub processes : AreProcesses p ms b

pub within_same : (gs : List Signal) (ls ms : List Leaf) (is : List ℕ) → AreLeavesOf gs ls → AreLeavesOf gs ms → AreWithin ls is → AreWithin ms is
within_same gs ls ms is h k within j u lt =
    let n = leaves_long gs ls h in
    let m = leaves_long gs ms k in
    let w = within j u lt in
    omega (arith, n, m, w)

-- what a block leaves, by its place
pub block_outcome : (p : Processes) (i : ℕ) (k : Always) (o : Outcome) (ls : List Leaf) (ns : List Node) → AreProcesses p ls ns → i < length p.flat.now.blocks → ((k : Always) → k ≡ get_or p.flat.now.blocks i k → k.clocked ≡ false) → k ≡ get_or p.flat.now.blocks i k
    → o ≡ get_or p.outcomes.items i o → IsOutcome p.first p.copier.source k.body o
block_outcome p i k o ls ns are lt off ek eo = outcome_at p.first p.copier.source p.flat.now.blocks p.outcomes.items i k k o o are.outcomes lt ek eo (off k ek)

pub rounds_start : (f : Flat) (p : Processes) (vs : List (Vec ℕ Global)) (ls : List Leaf) (a : List Node) → p.flat.now ≡ f → AreProcesses p ls a → IsBoard f.signals ls a → Rounds f p vs 0 ls a ls a
rounds_start f p vs ls a flat are board = record { solving = solving_start f (groups_of f.signals vs) ls a board; flat = flat; processes = are }

-- nets of the next group can be driven
pub rounds_can : (f : Flat) (p : Processes) (vs : List (Vec ℕ Global)) (i : ℕ) (is : List ℕ) (ls ms : List Leaf) (a b : List Node) → CanElaborate f → AreWithin ms is → Rounds f p vs i ls a ms b → CanDrive p ms b is
rounds_can f p vs i is ls ms a b can within h = record {
  can = subst CanElaborate (sym h.flat) can;
  board = subst (λ (z : Flat). IsBoard z.signals ms b) (sym h.flat) h.solving.board;
  processes = h.processes;
  within = within;
}

pub rounds_next : (f : Flat) (p q : Processes) (vs : List (Vec ℕ Global)) (i : ℕ) (is places : List ℕ) (ls ms ks : List Leaf) (a b d : List Node) → Rounds f p vs i ls a ms b
    → groups_of f.signals (drop i vs) ≡ names_of f.signals is ∷ groups_of f.signals (drop (i + 1) vs) → picked (statements f) places ≡ drivers_in (processes f) (names_of f.signals is) → Keeps b d
    → AreDriven (settled (flat_place p.flat.now) (picked (statements p.flat.now) places) (names_of p.flat.now.signals is)) p q ms b ks d → Rounds f q vs (i + 1) ls a ks d
rounds_next f p q vs i is places ls ms ks a b d h cut drivers keeps driven =
    let all = groups_of f.signals vs in
    let rest = groups_of f.signals (drop (i + 1) vs) in
    let P : List (List Name) → Type 0 = λ z. Solving f all z ls a ms b in
    let B : Flat → Type 0 = λ z. IsBoard z.signals ks d in
    let S : Flat → Type 0 = λ z. Shows (settled (flat_place z) (picked (statements z) places) (names_of z.signals is)) ms b ks d in
    record {
      solving = solving_next f all (names_of f.signals is) rest (picked (statements f) places) ls ms ks a b d (subst P cut h.solving) keeps (subst B h.flat driven.board) drivers (subst S h.flat driven.shows);
      flat = driven.same.flat ∙ h.flat;
      processes = driven.processes;
    }

-- and the nodes of it for some places
pub block_roots : (p : Processes) (i : ℕ) (k : Always) (o : Outcome) (is rs : List ℕ) (ls : List Leaf) (ns : List Node) → AreProcesses p ls ns → i < length p.flat.now.blocks → ((k : Always) → k ≡ get_or p.flat.now.blocks i k → k.clocked ≡ false) → k ≡ get_or p.flat.now.blocks i k
    → o ≡ get_or p.outcomes.items i o → ((ns : List Node) (body : Stmt) → AreReady p.first ns → IsOutcome p.first ns body o → AreRoots p.first ns body is rs) → AreRoots p.first p.copier.source k.body is rs
block_roots p i k o is rs ls ns are lt off ek eo made = made p.copier.source k.body are.source.board.ready (block_outcome p i k o ls ns are lt off ek eo)
