-- Items of a case statement that are run one after another, each where no other one is.
use Rattle.std.proofs.Common.{arith, ◌≡◌, ℕ, ◌+◌, ◌<◌, ◌≤◌, Bool, true, false, ◌&&◌, List, [], ◌∷◌, length, get_or, drop, map, refl, sym, ap, ◌∙◌, subst, Option, ◌⊎◌, inl, inr, ⊎_elim}
use Rattle.std.specs.Prelude.{not, nat_eq, if◌then◌else◌}
use Rattle.word_dag.specs.declared.node.Node.{Node}
use Rattle.word_dag.specs.Nodes.{Naming}
use Rattle.word_dag.specs.Adding.{Keeps}
use Rattle.vlog_tree.specs.declared.stmt.CaseItem.{CaseItem}
use Rattle.vlog_tree.specs.declared.stmt.Stmt.{Stmt}
use Rattle.vlog_tree.specs.Value.{bit}
use Rattle.vlog_tree_values.proofs.Numbers.{bool_cases}
use Rattle.vlog_tree_runs.specs.declared.flat.Signal.{Signal}
use Rattle.vlog_tree_runs.specs.Places.{Name, Cycle}
use Rattle.vlog_tree_runs.specs.Blocks.{is_default, run}
use Rattle.elab_step_expr.specs.declared.leaves.Leaf.{Leaf}
use Rattle.elab_step_expr.specs.Leaves.{declared}
use Rattle.elab_step_expr.specs.Nodes.{number_at, IsNode}
use Rattle.elab_step_expr.proofs.Kept.{keeps_then, number_kept, ready_kept}
use Rattle.elab_step_blocks.specs.Standing.{flat, AreLeavesOf, AreShown, chosen}
use Rattle.elab_step_blocks.specs.declared.branches.Saved.{Saved}
use Rattle.elab_step_blocks.specs.Saving.{IsSaved}
use Rattle.elab_step_blocks.specs.Ready.{EachReadyItem}
use Rattle.elab_step_blocks.specs.Cases.{each_default, picked}
use Rattle.elab_step_blocks.specs.Runs.{is_at_once, AreBefore, AreSet, Runs, Tests, Branches, Guards, AreBits, Takes, Chooses, IsDefaultAt}
use Rattle.elab_step_blocks.proofs.Joins.{shown_kept, shown_same, leaves_same}
use Rattle.elab_step_blocks.proofs.Saving.{back_saved}
use Rattle.elab_step_blocks.proofs.Storing.{before_kept, set_next}
use Rattle.elab_step_blocks.proofs.Labelling.{drop_at, drop_all}
use Rattle.elab_step_blocks.proofs.Picking.{bits_kept, bits_long, bit_at, default_is, default_away}

-- ---- a statement that is run where a bit is 1

-- it is run
goes : (e : Naming) (ks : List Leaf) (b : List Node) (n : ℕ) (c d : Cycle) → nat_eq n 1 ≡ true → AreShown e b ks (chosen n c d) → AreShown e b ks c
goes e ks b n c d is h = shown_same e ks b (chosen n c d) c (λ x. sym (ap (λ t. if t then c x else d x) is)) h

-- it isn't
stays : (e : Naming) (ks : List Leaf) (b : List Node) (n : ℕ) (c d : Cycle) → nat_eq n 1 ≡ false → AreShown e b ks (chosen n c d) → AreShown e b ks d
stays e ks b n c d is h = shown_same e ks b (chosen n c d) d (λ x. sym (ap (λ t. if t then c x else d x) is)) h

-- a branch on the nodes that stand, saved
pub where_is : (reads : Option (List Leaf)) (body : Stmt) (z : ℕ) (before : List Saved) (ms ks : List Leaf) (a k : List Node) → IsSaved ms before → Branches reads body z before ms a ks k → Guards reads body z ms a ks k
where_is reads body z before ms ks a k saved branch gs e p q leaves earlier now =
    branch gs e p q q leaves earlier (subst (λ m. AreShown e a m q) (sym (back_saved ms before saved)) now) now

bit_true : (t : Bool) → nat_eq (bit t) 1 ≡ t
bit_true true = refl
bit_true false = refl

-- a statement that is run where a test holds
pub guard_runs : (reads : Option (List Leaf)) (body : Stmt) (t : List Signal → Cycle → Cycle → Bool) (ms ks : List Leaf) (a b k : List Node) (z : ℕ) → AreSet reads ms a → Keeps a b → Tests reads t ms a b z → Guards reads body z ms b ks k
    → Runs reads (λ gs p q x. if t gs p q then run (is_at_once reads) (flat gs) body p q x else q x) ms a ks k
guard_runs reads body t ms ks a b k z set keeps test guards gs e p q leaves earlier now =
    let h : nat_eq (number_at e b z) 1 ≡ t gs p q = ap (λ m. nat_eq m 1) (test gs e p q leaves earlier now) ∙ bit_true (t gs p q) in
    shown_same e ks k _ _ (λ x. ap (λ m. if m then run (is_at_once reads) (flat gs) body p q x else q x) (sym h))
    (guards gs e p q leaves (before_kept e reads ms a b p set keeps earlier) (shown_kept e ms a b q keeps set.ready now))

-- ---- the items from one on

-- what is made by the first of the items from place k on whose bit is 1
abbrev pub picked_by : Option (List Leaf) → List Signal → Naming → List Node → List CaseItem → List ℕ → Cycle → Cycle → Cycle → Cycle
picked_by reads gs e a items tests p q d = picked (is_at_once reads) (flat gs) items (map (number_at e a) tests) p q d

picked_at : (reads : Option (List Leaf)) (gs : List Signal) (e : Naming) (a : List Node) (items : List CaseItem) (tests : List ℕ) (k : ℕ) (i : CaseItem) (p q d : Cycle) (x : Name) → k < length items → k < length tests
    → picked_by reads gs e a (drop k items) (drop k tests) p q d x
    ≡ (if not (is_default (get_or items k i).labels) && nat_eq (number_at e a (get_or tests k 0)) 1 then run (is_at_once reads) (flat gs) (get_or items k i).body p q x else picked_by reads gs e a (drop (k + 1) items) (drop (k + 1) tests) p q d x)
picked_at reads gs e a items tests k i p q d x lt zlt = λ j. picked_by reads gs e a (drop_at items k i lt j) (drop_at tests k 0 zlt j) p q d x

-- the item at place k is the one
picked_here : (reads : Option (List Leaf)) (gs : List Signal) (e : Naming) (a : List Node) (items : List CaseItem) (tests : List ℕ) (k : ℕ) (i : CaseItem) (body : Stmt) (p q d : Cycle) (x : Name) → k < length items → k < length tests
    → is_default (get_or items k i).labels ≡ false → nat_eq (number_at e a (get_or tests k 0)) 1 ≡ true → body ≡ (get_or items k i).body
    → picked_by reads gs e a (drop k items) (drop k tests) p q d x ≡ run (is_at_once reads) (flat gs) body p q x
picked_here reads gs e a items tests k i body p q d x lt zlt labelled one is =
    picked_at reads gs e a items tests k i p q d x lt zlt
    ∙ (λ j. if not (labelled j) && one j then run (is_at_once reads) (flat gs) (sym is j) p q x else picked_by reads gs e a (drop (k + 1) items) (drop (k + 1) tests) p q d x)

-- it isn't, by its labels or its bit
picked_past : (reads : Option (List Leaf)) (gs : List Signal) (e : Naming) (a : List Node) (items : List CaseItem) (tests : List ℕ) (k : ℕ) (i : CaseItem) (p q d : Cycle) (x : Name) → k < length items → k < length tests
    → (not (is_default (get_or items k i).labels) && nat_eq (number_at e a (get_or tests k 0)) 1) ≡ false
    → picked_by reads gs e a (drop k items) (drop k tests) p q d x ≡ picked_by reads gs e a (drop (k + 1) items) (drop (k + 1) tests) p q d x
picked_past reads gs e a items tests k i p q d x lt zlt away =
    picked_at reads gs e a items tests k i p q d x lt zlt
    ∙ ap (λ t. if t then run (is_at_once reads) (flat gs) (get_or items k i).body p q x else picked_by reads gs e a (drop (k + 1) items) (drop (k + 1) tests) p q d x) away

-- where no bit so far is 1, a node is 0, the leaves show what was shown, and the rest makes of it what all make; else the node is 1, and
-- the leaves show what all make
abbrev pub IsTaken : Naming → List Node → ℕ → List Leaf → Cycle → Cycle → Cycle → Type 0
IsTaken e b r os q all rest = ((number_at e b r ≡ 0) × AreShown e b os q × ((x : Name) → all x ≡ rest x)) ⊎ ((number_at e b r ≡ 1) × AreShown e b os all)

-- the items before place k were run
pub record Taking (reads : Option (List Leaf)) (items : List CaseItem) (tests : List ℕ) (r : ℕ) (ms : List Leaf) (a : List Node) (os : List Leaf) (b : List Node) (k : ℕ) : Type 0 where
  pub keeps : Keeps a b
  pub same : declared os ≡ declared ms
  pub set : AreSet reads os b
  pub node : IsNode b r 1
  pub bits : AreBits items tests b
  pub items_ready : EachReadyItem (declared os) items
  pub takes : (gs : List Signal) (e : Naming) (p q d : Cycle) → AreLeavesOf gs ms → AreBefore e a reads p → AreShown e a ms q
      → IsTaken e b r os q (picked_by reads gs e a items tests p q d) (picked_by reads gs e a (drop k items) (drop k tests) p q d)

module _ {X : Type 0} where
  drop_none : (xs : List X) → drop 0 xs ≡ xs
  drop_none [] = refl
  drop_none (x ∷ xs) = refl

pub taking_start : (reads : Option (List Leaf)) (items : List CaseItem) (tests : List ℕ) (r : ℕ) (ms : List Leaf) (a b : List Node) → AreSet reads ms a → Keeps a b → IsNode b r 1 → ((e : Naming) → number_at e b r ≡ 0) → AreBits items tests a → EachReadyItem (declared ms) items
    → Taking reads items tests r ms a ms b 0
taking_start reads items tests r ms a b set keeps node number bits ready = record {
  keeps = keeps;
  same = refl;
  set = set_next reads ms ms a b set keeps (ready_kept ms a b keeps set.ready) refl;
  node = node;
  bits = bits_kept a b items tests keeps bits;
  items_ready = ready;
  takes = λ gs e p q d leaves earlier now.
      inl (number e, shown_kept e ms a b q keeps set.ready now, λ x j. picked_by reads gs e a (sym (drop_none items) j) (sym (drop_none tests) j) p q d x);
}

-- the default is passed over
pub taking_skip : (reads : Option (List Leaf)) (items : List CaseItem) (tests : List ℕ) (r : ℕ) (ms os : List Leaf) (a b : List Node) (k : ℕ) (i : CaseItem) → k < length items → AreBits items tests a
    → is_default (get_or items k i).labels ≡ true → Taking reads items tests r ms a os b k → Taking reads items tests r ms a os b (k + 1)
taking_skip reads items tests r ms os a b k i lt bits default h = record {
  keeps = h.keeps;
  same = h.same;
  set = h.set;
  node = h.node;
  bits = h.bits;
  items_ready = h.items_ready;
  takes = λ gs e p q d leaves earlier now.
      let zlt : k < length tests = omega (arith, lt, bits_long items tests a bits) in
      elim (h.takes gs e p q d leaves earlier now) [
        | inl none ↦ inl (none.0, none.1, λ x. none.2 x ∙ picked_past reads gs e a items tests k i p q d x lt zlt (ap (λ t. not t && nat_eq (number_at e a (get_or tests k 0)) 1) default))
        | inr some ↦ inr some
      ];
}

-- one item more, the free words having these values
taken_next : (reads : Option (List Leaf)) (items : List CaseItem) (tests : List ℕ) (gs : List Signal) (e : Naming) (a b c d : List Node) (os ks : List Leaf) (r first m k : ℕ) (i : CaseItem) (body : Stmt) (p q f all : Cycle)
    → k < length items → k < length tests → is_default (get_or items k i).labels ≡ false → body ≡ (get_or items k i).body
    → number_at e c first ≡ (if nat_eq (number_at e b r) 1 then 0 else number_at e a (get_or tests k 0))
    → number_at e d m ≡ (if nat_eq (number_at e a (get_or tests k 0)) 1 then 1 else number_at e b r)
    → ((u : Cycle) → AreShown e b os u → AreShown e d ks (chosen (number_at e c first) (run (is_at_once reads) (flat gs) body p u) u))
    → IsTaken e b r os q all (picked_by reads gs e a (drop k items) (drop k tests) p q f)
    → IsTaken e d m ks q all (picked_by reads gs e a (drop (k + 1) items) (drop (k + 1) tests) p q f)
taken_next reads items tests gs e a b c d os ks r first m k i body p q f all lt zlt labelled body_is firsts matches guards h =
    let z = number_at e a (get_or tests k 0) in
    let made = run (is_at_once reads) (flat gs) body p in
    ⊎_elim
    (λ (one : nat_eq z 1 ≡ true). elim h [
      | inl none ↦
          inr (
            matches ∙ ap (λ t. if t then 1 else number_at e b r) one,
            shown_same e ks d (made q) all (λ x. none.2 x ∙ picked_here reads gs e a items tests k i body p q f x lt zlt labelled one body_is)
                (goes e ks d (number_at e c first) (made q) q (ap (λ v. nat_eq v 1) (is_first none.0) ∙ one) (guards q none.1)),
          )
      | inr some ↦
          inr (matches ∙ ap (λ t. if t then 1 else number_at e b r) one, stays e ks d (number_at e c first) (made all) all (ap (λ v. nat_eq v 1) (is_later some.0)) (guards all some.1))
    ])
    (λ (other : nat_eq z 1 ≡ false). elim h [
      | inl none ↦
          inl (
            matches ∙ (ap (λ t. if t then 1 else number_at e b r) other ∙ none.0),
            stays e ks d (number_at e c first) (made q) q (ap (λ v. nat_eq v 1) (is_first none.0) ∙ other) (guards q none.1),
            λ x. none.2 x ∙ picked_past reads gs e a items tests k i p q f x lt zlt (λ j. not (labelled j) && other j),
          )
      | inr some ↦
          inr (
            matches ∙ (ap (λ t. if t then 1 else number_at e b r) other ∙ some.0),
            stays e ks d (number_at e c first) (made all) all (ap (λ v. nat_eq v 1) (is_later some.0)) (guards all some.1),
          )
    ])
    (bool_cases (nat_eq z 1))
  where
    is_first : number_at e b r ≡ 0 → number_at e c first ≡ number_at e a (get_or tests k 0)
    is_first none = firsts ∙ ap (λ v. if nat_eq v 1 then 0 else number_at e a (get_or tests k 0)) none

    is_later : number_at e b r ≡ 1 → number_at e c first ≡ 0
    is_later some = firsts ∙ ap (λ v. if nat_eq v 1 then 0 else number_at e a (get_or tests k 0)) some

-- one item more: its bit where no earlier one is 1, the statement that is run where that is 1, and the bit of all items so far
pub taking_next : (reads : Option (List Leaf)) (items : List CaseItem) (tests : List ℕ) (r first m z : ℕ) (ms os ks : List Leaf) (a b c d f : List Node) (k : ℕ) (i : CaseItem) (body : Stmt) → k < length items → AreSet reads ms a → AreBits items tests a
    → Taking reads items tests r ms a os b k → is_default (get_or items k i).labels ≡ false → body ≡ (get_or items k i).body → z ≡ get_or tests k 0
    → Keeps b c → IsNode c first 1 → ((e : Naming) → number_at e c first ≡ (if nat_eq (number_at e b r) 1 then 0 else number_at e b z))
    → Keeps c d → declared ks ≡ declared os → AreSet reads ks d → Guards reads body first os c ks d
    → Keeps d f → IsNode f m 1 → ((e : Naming) → number_at e f m ≡ (if nat_eq (number_at e d z) 1 then 1 else number_at e d r))
    → Taking reads items tests m ms a ks f (k + 1)
taking_next reads items tests r first m z ms os ks a b c d f k i body lt set bits h labelled body_is z_is bc first_node first_is cd same set' guards df node m_is = record {
  keeps = keeps_then a d f ad df;
  same = same ∙ h.same;
  set = set_next reads ks ks d f set' df (ready_kept ks d f df set'.ready) refl;
  node = node;
  bits = bits_kept b f items tests (keeps_then b d f bd df) h.bits;
  items_ready = subst (λ v. EachReadyItem v items) (sym same) h.items_ready;
  takes = λ gs e p q g leaves earlier now.
      let zlt : k < length tests = omega (arith, lt, bits_long items tests a bits) in
      let zb : number_at e b z ≡ number_at e a (get_or tests k 0) = ap (number_at e b) z_is ∙ number_kept e a b (get_or tests k 0) 1 h.keeps (bit_at items tests a k 0 bits lt) in
      let zd : number_at e d z ≡ number_at e a (get_or tests k 0) = ap (number_at e d) z_is ∙ number_kept e a d (get_or tests k 0) 1 ad (bit_at items tests a k 0 bits lt) in
      let firsts : number_at e c first ≡ (if nat_eq (number_at e b r) 1 then 0 else number_at e a (get_or tests k 0)) = first_is e ∙ ap (λ v. if nat_eq (number_at e b r) 1 then 0 else v) zb in
      let matches : number_at e f m ≡ (if nat_eq (number_at e a (get_or tests k 0)) 1 then 1 else number_at e b r) = m_is e ∙ (λ j. if nat_eq (zd j) 1 then 1 else number_kept e b d r 1 bd h.node j) in
      taken_next reads items tests gs e a b c f os ks r first m k i body p q g (picked_by reads gs e a items tests p q g) lt zlt labelled body_is firsts matches
      (λ u shown. shown_kept e ks d f _ df set'.ready (guards gs e p u (leaves_same gs ms os h.same leaves) (before_kept e reads ms a c p set (keeps_then a b c h.keeps bc) earlier) (shown_kept e os b c u bc h.set.ready shown)))
      (h.takes gs e p q g leaves earlier now);
}
  where
    bd : Keeps b d
    bd = keeps_then b c d bc cd

    ad : Keeps a d
    ad = keeps_then a b d h.keeps bd

pub taking_end : (reads : Option (List Leaf)) (items : List CaseItem) (tests : List ℕ) (r : ℕ) (ms os : List Leaf) (a b : List Node) (k : ℕ) → length items ≤ k → Taking reads items tests r ms a os b k → Takes reads items tests r ms a os b
taking_end reads items tests r ms os a b k le h gs e p q d leaves earlier now =
    elim (h.takes gs e p q d leaves earlier now) [
      | inl none ↦ inl (none.0, none.1, λ x. none.2 x ∙ ap (λ (xs : List CaseItem). picked_by reads gs e a xs (drop k tests) p q d x) (drop_all items k le))
      | inr some ↦ inr some
    ]

-- ---- the default, after the items

pub apart_default : (reads : Option (List Leaf)) (items : List CaseItem) (tests : List ℕ) (r z : ℕ) (ms os ks : List Leaf) (a b c d : List Node) (k : ℕ) (i : CaseItem) (body : Stmt) → AreSet reads ms a → AreSet reads os b → Keeps a b → declared os ≡ declared ms
    → Takes reads items tests r ms a os b → IsDefaultAt items k → k < length items → body ≡ (get_or items k i).body
    → Keeps b c → ((e : Naming) → number_at e c z ≡ (if nat_eq (number_at e b r) 1 then 0 else 1)) → Guards reads body z os c ks d → Chooses reads items tests ms a ks d
apart_default reads items tests r z ms os ks a b c d k i body set set' ab same takes at lt is bc rest guards gs e p q leaves earlier now =
    let made = run (is_at_once reads) (flat gs) body p in
    let all = picked_by reads gs e a items tests p q (each_default (is_at_once reads) (flat gs) items p q) in
    elim (takes gs e p q (each_default (is_at_once reads) (flat gs) items p q) leaves earlier now) [
      | inl none ↦
          shown_same e ks d (made q) all (λ x. none.2 x ∙ default_is (is_at_once reads) (flat gs) items k i body p q x at lt is)
          (goes e ks d (number_at e c z) (made q) q (ap (λ v. nat_eq v 1) (rest e ∙ ap (λ v. if nat_eq v 1 then 0 else 1) none.0)) (guarded q none.1))
      | inr some ↦ stays e ks d (number_at e c z) (made all) all (ap (λ v. nat_eq v 1) (rest e ∙ ap (λ v. if nat_eq v 1 then 0 else 1) some.0)) (guarded all some.1)
    ]
  where
    guarded : (u : Cycle) → AreShown e b os u → AreShown e d ks (chosen (number_at e c z) (run (is_at_once reads) (flat gs) body p u) u)
    guarded u shown = guards gs e p u (leaves_same gs ms os same leaves) (before_kept e reads ms a c p set (keeps_then a b c ab bc) earlier) (shown_kept e os b c u bc set'.ready shown)

pub apart_none : (reads : Option (List Leaf)) (items : List CaseItem) (tests : List ℕ) (r : ℕ) (ms os : List Leaf) (a b : List Node) (k : ℕ) → Takes reads items tests r ms a os b → IsDefaultAt items k → length items ≤ k → Chooses reads items tests ms a os b
apart_none reads items tests r ms os a b k takes at le gs e p q leaves earlier now =
    elim (takes gs e p q (each_default (is_at_once reads) (flat gs) items p q) leaves earlier now) [
      | inl none ↦ shown_same e os b q _ (λ x. none.2 x ∙ default_away (is_at_once reads) (flat gs) items k p q x at le) none.1
      | inr some ↦ some.1
    ]
