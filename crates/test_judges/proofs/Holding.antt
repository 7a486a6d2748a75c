-- Leaves that hold the values of signals.
use Rattle.std.proofs.Common.{◌≡◌, ◌≢◌, ℕ, zero, suc, ◌+◌, ◌^◌, ◌<◌, ◌≤◌, List, [], ◌∷◌, ◌++◌, length, get_or, take, slice_index_or, refl, sym, ap, ◌∙◌, subst, arith, inl, inr, map}
use Rattle.std.specs.List.{All}
use Rattle.std.proofs.lemmas.List.{take_all}
use Rattle.vlog_tree_runs.specs.declared.flat.Signal.{Signal}
use Rattle.vlog_tree_runs.specs.Places.{Name, Cycle, Among}
use Rattle.word_dag.specs.declared.node.Node.{Node}
use Rattle.word_dag.specs.Nodes.{Naming}
use Rattle.word_dag.specs.Adding.{Keeps}
use Rattle.elab_step_expr.specs.declared.leaves.Leaf.{Leaf}
use Rattle.elab_step_expr.specs.Leaves.{AreReady}
use Rattle.elab_step_expr.proofs.Kept.{node_kept, number_kept}
use Rattle.elab_step_blocks.specs.Standing.{AreLeavesOf, Lacks, AreApart, AreShown}
use Rattle.elab_flat_drivers.proofs.Marking.{among_at}
use Rattle.elab_step_nets.specs.Solving.{AreDistinct}
use Rattle.elab_step_nets.proofs.Boards.{take_next}
use Rattle.elab_step_nets.proofs.Solving.{same_name, other_name}
use Rattle.test_judges.specs.Values.{AreValues, held}
use Rattle.test_judges.specs.Numbers.{AreBelow}
use Rattle.test_judges.specs.Showing.{IsHeld, AreHeld}

-- ---- lists

pub all_of : {X : Type 0} (P : X → Type 0) (xs ys : List X) → xs ≡ ys → ((x : X) → Among ys x → P x) → All P xs
all_of P xs ys e h = λ k d lt. h (get_or xs k d) (subst (λ zs. Among zs (get_or xs k d)) e (among_at xs k d lt))

pub values_long : (gs : List Signal) (vs : List ℕ) → AreValues gs vs → length vs ≡ length gs
values_long [] [] h = refl
values_long [] (v ∷ vs) h = absurd h
values_long (g ∷ gs) [] h = absurd h
values_long (g ∷ gs) (v ∷ vs) h = ap suc (values_long gs vs h.1)

pub value_at : (gs : List Signal) (vs : List ℕ) (i : ℕ) (g : Signal) → AreValues gs vs → i < length gs → g ≡ get_or gs i g → slice_index_or vs i 0 < 2 ^ g.width
value_at [] vs i g h lt e = absurd (omega arith)
value_at (k ∷ gs) [] i g h lt e = absurd h
value_at (k ∷ gs) (v ∷ vs) zero g h lt e = subst (λ (z : Signal). v < 2 ^ z.width) (sym e) h.0
value_at (k ∷ gs) (v ∷ vs) (suc i) g h lt e = value_at gs vs i g h.1 (omega arith) e

-- ---- leaves as they are added

one_kept : (a b : List Node) (g : Signal) (l : Leaf) (v : ℕ) → Keeps a b → IsHeld a g l v → IsHeld b g l v
one_kept a b g l v k h = record { leaf = h.leaf; long = h.long; node = node_kept a b l.node l.width k h.node; number = λ e. number_kept e a b l.node l.width k h.node ∙ h.number e }

held_kept : (a b : List Node) (gs : List Signal) (ls : List Leaf) (vs : List ℕ) → Keeps a b → AreHeld a gs ls vs → AreHeld b gs ls vs
held_kept a b [] [] [] k h = tt
held_kept a b [] [] (v ∷ vs) k h = absurd h
held_kept a b [] (l ∷ ls) vs k h = absurd h
held_kept a b (g ∷ gs) [] vs k h = absurd h
held_kept a b (g ∷ gs) (l ∷ ls) [] k h = absurd h
held_kept a b (g ∷ gs) (l ∷ ls) (v ∷ vs) k h = (one_kept a b g l v k h.0, held_kept a b gs ls vs k h.1)

held_push : (ns : List Node) (gs : List Signal) (ls : List Leaf) (vs : List ℕ) (g : Signal) (l : Leaf) (v : ℕ) → AreHeld ns gs ls vs → IsHeld ns g l v → AreHeld ns (gs ++ g ∷ []) (ls ++ l ∷ []) (vs ++ v ∷ [])
held_push ns [] [] [] g l v h k = (k, tt)
held_push ns [] [] (w ∷ vs) g l v h k = absurd h
held_push ns [] (m ∷ ls) vs g l v h k = absurd h
held_push ns (f ∷ gs) [] vs g l v h k = absurd h
held_push ns (f ∷ gs) (m ∷ ls) [] g l v h k = absurd h
held_push ns (f ∷ gs) (m ∷ ls) (w ∷ vs) g l v h k = (h.0, held_push ns gs ls vs g l v h.1 k)

pub held_next : (a b : List Node) (gs : List Signal) (ls new : List Leaf) (vs : List ℕ) (i : ℕ) (g : Signal) (l : Leaf) → Keeps a b → AreHeld a (take i gs) ls (take i vs) → i < length gs → i < length vs
    → g ≡ get_or gs i g → IsHeld b g l (slice_index_or vs i 0) → new ≡ ls ++ l ∷ [] → AreHeld b (take (i + 1) gs) new (take (i + 1) vs)
held_next a b gs ls new vs i g l k h lt lv e held is =
    subst (λ z. AreHeld b (take (i + 1) gs) z (take (i + 1) vs)) (sym is)
    (subst (λ z. AreHeld b z (ls ++ l ∷ []) (take (i + 1) vs)) (sym (take_next gs i g g lt e))
    (subst (λ z. AreHeld b (take i gs ++ g ∷ []) (ls ++ l ∷ []) z) (sym (take_next vs i (slice_index_or vs i 0) 0 lv (at vs i)))
    (held_push b (take i gs) ls (take i vs) g l (slice_index_or vs i 0) (held_kept a b (take i gs) ls (take i vs) k h) held)))
  where
    at : (vs : List ℕ) (i : ℕ) → slice_index_or vs i 0 ≡ get_or vs i 0
    at vs i = refl

pub held_all : (ns : List Node) (gs : List Signal) (ls : List Leaf) (vs : List ℕ) (i : ℕ) → length gs ≤ i → length vs ≤ i → AreHeld ns (take i gs) ls (take i vs) → AreHeld ns gs ls vs
held_all ns gs ls vs i l m h = subst (λ z. AreHeld ns z ls vs) (take_all i gs l) (subst (λ z. AreHeld ns (take i gs) ls z) (take_all i vs m) h)

-- ---- what they are

module _ (ns : List Node) where
  pub held_leaves : (gs : List Signal) (ls : List Leaf) (vs : List ℕ) → AreHeld ns gs ls vs → AreLeavesOf gs ls
  held_leaves [] [] [] h = tt
  held_leaves [] [] (v ∷ vs) h = absurd h
  held_leaves [] (l ∷ ls) vs h = absurd h
  held_leaves (g ∷ gs) [] vs h = absurd h
  held_leaves (g ∷ gs) (l ∷ ls) [] h = absurd h
  held_leaves (g ∷ gs) (l ∷ ls) (v ∷ vs) h = (h.0.leaf, held_leaves gs ls vs h.1)

  pub held_ready : (gs : List Signal) (ls : List Leaf) (vs : List ℕ) → AreHeld ns gs ls vs → AreReady ls ns
  held_ready [] [] [] h = tt
  held_ready [] [] (v ∷ vs) h = absurd h
  held_ready [] (l ∷ ls) vs h = absurd h
  held_ready (g ∷ gs) [] vs h = absurd h
  held_ready (g ∷ gs) (l ∷ ls) [] h = absurd h
  held_ready (g ∷ gs) (l ∷ ls) (v ∷ vs) h = (h.0.long, h.0.node, held_ready gs ls vs h.1)

names_lack : (gs : List Signal) (ls : List Leaf) (x : Name) → AreLeavesOf gs ls → (Among (map (λ (g : Signal). g.name) gs) x → ⊥) → Lacks x ls
names_lack [] [] x h n = tt
names_lack [] (l ∷ ls) x h n = absurd h
names_lack (g ∷ gs) [] x h n = absurd h
names_lack (g ∷ gs) (l ∷ ls) x h n = (λ e. n (inl (sym (e ∙ h.0.name))), names_lack gs ls x h.1 (λ m. n (inr m)))

pub leaves_apart : (gs : List Signal) (ls : List Leaf) → AreLeavesOf gs ls → AreDistinct (map (λ (g : Signal). g.name) gs) → AreApart ls
leaves_apart [] [] h d = tt
leaves_apart [] (l ∷ ls) h d = absurd h
leaves_apart (g ∷ gs) [] h d = absurd h
leaves_apart (g ∷ gs) (l ∷ ls) h d = (subst (λ x. Lacks x ls) (sym h.0.name) (names_lack gs ls g.name h.1 d.0), leaves_apart gs ls h.1 d.1)

-- ---- the cycle that they show

pub held_first : (g : Signal) (gs : List Signal) (v : ℕ) (vs : List ℕ) → held (g ∷ gs) (v ∷ vs) g.name ≡ v
held_first g gs v vs = rw (same_name g.name) refl

pub held_later : (g : Signal) (gs : List Signal) (v : ℕ) (vs : List ℕ) (x : Name) → g.name ≢ x → held (g ∷ gs) (v ∷ vs) x ≡ held gs vs x
held_later g gs v vs x n = rw (other_name g.name x n) refl

shown_as : (e : Naming) (ns : List Node) (ls : List Leaf) (c d : Cycle) → AreShown e ns ls c → ((l : Leaf) → Among ls l → d l.name ≡ c l.name) → AreShown e ns ls d
shown_as e ns [] c d h same = tt
shown_as e ns (l ∷ ls) c d h same = (same l (inl refl) ∙ h.0, shown_as e ns ls c d h.1 (λ k m. same k (inr m)))

lacks_each : (x : Name) (ls : List Leaf) (l : Leaf) → Lacks x ls → Among ls l → x ≢ l.name
lacks_each x [] l h m = absurd m
lacks_each x (k ∷ ls) l h (inl e) = subst (λ (z : Leaf). x ≢ z.name) e h.0
lacks_each x (k ∷ ls) l h (inr m) = lacks_each x ls l h.1 m

pub held_shown : (e : Naming) (ns : List Node) (gs : List Signal) (ls : List Leaf) (vs : List ℕ) → AreHeld ns gs ls vs → AreApart ls → AreShown e ns ls (held gs vs)
held_shown e ns [] [] [] h a = tt
held_shown e ns [] [] (v ∷ vs) h a = absurd h
held_shown e ns [] (l ∷ ls) vs h a = absurd h
held_shown e ns (g ∷ gs) [] vs h a = absurd h
held_shown e ns (g ∷ gs) (l ∷ ls) [] h a = absurd h
held_shown e ns (g ∷ gs) (l ∷ ls) (v ∷ vs) h a = (
  ap (held (g ∷ gs) (v ∷ vs)) h.0.leaf.name ∙ held_first g gs v vs ∙ sym (h.0.number e),
  shown_as e ns ls (held gs vs) (held (g ∷ gs) (v ∷ vs)) (held_shown e ns gs ls vs h.1 a.1)
      (λ k m. held_later g gs v vs k.name (λ r. lacks_each l.name ls k a.0 m (h.0.leaf.name ∙ r))),
)

pub leaves_below : (gs : List Signal) (ls : List Leaf) (vs : List ℕ) → AreLeavesOf gs ls → AreValues gs vs → AreBelow ls vs
leaves_below [] [] [] h k = tt
leaves_below [] [] (v ∷ vs) h k = absurd k
leaves_below [] (l ∷ ls) vs h k = absurd h
leaves_below (g ∷ gs) [] vs h k = absurd h
leaves_below (g ∷ gs) (l ∷ ls) [] h k = absurd k
leaves_below (g ∷ gs) (l ∷ ls) (v ∷ vs) h k = (subst (λ w. v < 2 ^ w) (sym h.0.width) k.0, leaves_below gs ls vs h.1 k.1)
