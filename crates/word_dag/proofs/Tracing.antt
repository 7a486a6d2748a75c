-- The walk places the nodes depth first.
use Rattle.std.proofs.Common.{◌≡◌, ◌≢◌, ℕ, zero, suc, ◌+◌, ◌-◌, ◌<◌, ◌≤◌, Bool, true, false, List, [], ◌∷◌, ◌++◌, length, get_or, take, Some, None, refl, sym, ap, ◌∙◌, subst, arith, inl, inr, length-append, append_assoc, set, get_or-set_same, get_or-set_other}
use Rattle.std.specs.Prelude.{slice_index, ◌==◌, ◌⊎◌, if◌then◌else◌}
use Rattle.std.proofs.lemmas.Bool.Decides.{nat_tests}
use Rattle.std.proofs.lemmas.List.{length-replicate}
use Rattle.std.specs.Prelude.{replicate}
use Rattle.word_dag.specs.declared.node.Node.{Node}
use Rattle.word_dag.specs.declared.node.Node.TheVariants.{Free, Const, Two, Not, Slice, Zext, Sext, Mux}
use Rattle.word_dag.specs.Nodes.{FitFrom, width_of, Parts}
use Rattle.word_dag.specs.Walks.{operands, renumbered, place_of, first_open, Each}
use Rattle.word_dag.specs.Order.{operands_of, has, each_in_turn, visit, depth_first, index_of, node_under, taken, taken_out}
use Rattle.word_dag.proofs.NodeValues.{operands_below, Each-map}
use Rattle.word_dag.proofs.Walking.{Walk, top_of, none_open, walk_start}

same_or : (i j : ℕ) → (i ≡ j) ⊎ (i ≢ j)
same_or i j = grind arith

test_same : (x i : ℕ) → x ≡ i → (x == i) ≡ true
test_same x i e = grind (arith, nat_tests)

test_other : (x i : ℕ) → x ≢ i → (x == i) ≡ false
test_other x i e = grind (arith, nat_tests)

has_front : (xs ys : List ℕ) (i : ℕ) → has xs i ≡ true → has (xs ++ ys) i ≡ true
has_front [] ys i h = cc
has_front (x ∷ xs) ys i h = by_test (x == i) h (has_front xs ys i)
  where
    by_test : (b : Bool) → (if b then true else has xs i) ≡ true → (has xs i ≡ true → has (xs ++ ys) i ≡ true) → (if b then true else has (xs ++ ys) i) ≡ true
    by_test true e r = refl
    by_test false e r = r e

has_last : (xs : List ℕ) (y : ℕ) → has (xs ++ y ∷ []) y ≡ true
has_last [] y = ap (λ b. if b then true else false) (test_same y y refl)
has_last (x ∷ xs) y = by_test (x == y) (has_last xs y)
  where
    by_test : (b : Bool) → has (xs ++ y ∷ []) y ≡ true → (if b then true else has (xs ++ y ∷ []) y) ≡ true
    by_test true r = refl
    by_test false r = r

has_other : (xs : List ℕ) (y i : ℕ) → y ≢ i → has (xs ++ y ∷ []) i ≡ has xs i
has_other [] y i ne = ap (λ b. if b then true else false) (test_other y i ne)
has_other (x ∷ xs) y i ne = ap (λ k. if x == i then true else k) (has_other xs y i ne)

index_front : (xs ys : List ℕ) (i : ℕ) → has xs i ≡ true → index_of (xs ++ ys) i ≡ index_of xs i
index_front [] ys i h = cc
index_front (x ∷ xs) ys i h = by_test (x == i) h (index_front xs ys i)
  where
    by_test : (b : Bool) → (if b then true else has xs i) ≡ true → (has xs i ≡ true → index_of (xs ++ ys) i ≡ index_of xs i) → (if b then 0 else suc (index_of (xs ++ ys) i)) ≡ (if b then 0 else suc (index_of xs i))
    by_test true e r = refl
    by_test false e r = ap suc (r e)

index_last : (xs : List ℕ) (y : ℕ) → has xs y ≡ false → index_of (xs ++ y ∷ []) y ≡ length xs
index_last [] y h = let z : ℕ = 0 in ap (λ b. if b then z else suc z) (test_same y y refl)
index_last (x ∷ xs) y h = by_test (x == y) h (index_last xs y)
  where
    by_test : (b : Bool) → (if b then true else has xs y) ≡ false → (has xs y ≡ false → index_of (xs ++ y ∷ []) y ≡ length xs) → (if b then 0 else suc (index_of (xs ++ y ∷ []) y)) ≡ suc (length xs)
    by_test true e r = cc
    by_test false e r = ap suc (r e)

-- the place of a number, plus 1; 0 is none
abbrev pub spot : List ℕ → ℕ → ℕ
spot order i = if has order i then suc (index_of order i) else 0

spot_none : (order : List ℕ) (i : ℕ) → spot order i ≡ 0 → has order i ≡ false
spot_none order i e = by_test (has order i) refl
  where
    by_test : (b : Bool) → has order i ≡ b → has order i ≡ false
    by_test true h = let s : spot order i ≡ suc (index_of order i) = ap (λ b. if b then suc (index_of order i) else 0) h in absurd (omega (arith, s))
    by_test false h = h

spot_some : (order : List ℕ) (i : ℕ) → 0 < spot order i → has order i ≡ true
spot_some order i lt = by_test (has order i) refl
  where
    by_test : (b : Bool) → has order i ≡ b → has order i ≡ true
    by_test true h = h
    by_test false h = let s : spot order i ≡ 0 = ap (λ b. if b then suc (index_of order i) else 0) h in absurd (omega (arith, s))

spot_is : (order : List ℕ) (i : ℕ) → has order i ≡ true → spot order i ≡ suc (index_of order i)
spot_is order i h = ap (λ b. if b then suc (index_of order i) else 0) h

spot_other : (order : List ℕ) (y i : ℕ) → y ≢ i → spot (order ++ y ∷ []) i ≡ spot order i
spot_other order y i ne = by_test (has order i) refl
  where
    same : has (order ++ y ∷ []) i ≡ has order i
    same = has_other order y i ne

    by_test : (b : Bool) → has order i ≡ b → spot (order ++ y ∷ []) i ≡ spot order i
    by_test true h = spot_is (order ++ y ∷ []) i (same ∙ h) ∙ ap suc (index_front order (y ∷ []) i h) ∙ sym (spot_is order i h)
    by_test false h = ap (λ b. if b then suc (index_of (order ++ y ∷ []) i) else 0) (same ∙ h) ∙ sym (ap (λ b. if b then suc (index_of order i) else 0) h)

-- visits
each_cong : (f g : List ℕ → ℕ → List ℕ) (o : List ℕ) (xs : List ℕ) → Each (λ x. (o : List ℕ) → f o x ≡ g o x) xs → each_in_turn f o xs ≡ each_in_turn g o xs
each_cong f g o [] h = refl
each_cong f g o (x ∷ xs) h = each_cong f g (f o x) xs h.1 ∙ ap (λ k. each_in_turn g k xs) (h.0 o)

down_from : (ws : List ℕ) (ns : List Node) (j : ℕ) → FitFrom ws ns → Each (λ a. a < length ws + j) (operands_of ns j)
down_from ws [] j f = tt
down_from ws (n ∷ ns) zero f =
    Each-map (λ a. a < length ws) (λ a. a < length ws + 0) (operands n) (λ a p. omega arith) (operands_below ws n f.0)
down_from ws (n ∷ ns) (suc j) f =
    let long = length-append ws (width_of n ∷ []) in
    Each-map (λ a. a < length (ws ++ width_of n ∷ []) + j) (λ a. a < length ws + suc j) (operands_of ns j) (λ a p. omega (arith, long)) (down_from (ws ++ width_of n ∷ []) ns j f.1)

down : (dag : List Node) → FitFrom [] dag → (i : ℕ) → Each (λ a. a < i) (operands_of dag i)
down dag f i = Each-map (λ a. a < 0 + i) (λ a. a < i) (operands_of dag i) (λ a p. omega arith) (down_from [] dag i f)

module _ (dag : List Node) (falls : (i : ℕ) → Each (λ a. a < i) (operands_of dag i)) where
  visit_fuel : (f g i : ℕ) (o : List ℕ) → i < f → i < g → visit f dag o i ≡ visit g dag o i
  visit_fuel zero g i o p q = absurd (omega arith)
  visit_fuel (suc f) zero i o p q = absurd (omega arith)
  visit_fuel (suc f) (suc g) i o p q =
      let same = each_cong (visit f dag) (visit g dag) o (operands_of dag i) (Each-map (λ a. a < i) (λ a. (o : List ℕ) → visit f dag o a ≡ visit g dag o a) (operands_of dag i) (λ a r o'. visit_fuel f g a o' (omega arith) (omega arith)) (falls i)) in
      ap (λ k. if has o i then o else k ++ i ∷ []) same

  visit_unfold : (f i : ℕ) (o : List ℕ) → i < f → visit f dag o i ≡ (if has o i then o else each_in_turn (visit f dag) o (operands_of dag i) ++ i ∷ [])
  visit_unfold zero i o p = absurd (omega arith)
  visit_unfold (suc f) i o p =
      let same = each_cong (visit f dag) (visit (suc f) dag) o (operands_of dag i) (Each-map (λ a. a < i) (λ a. (o : List ℕ) → visit f dag o a ≡ visit (suc f) dag o a) (operands_of dag i) (λ a r o'. visit_fuel f (suc f) a o' (omega arith) (omega arith)) (falls i)) in
      ap (λ k. if has o i then o else k ++ i ∷ []) same

each_mono : (f : List ℕ → ℕ → List ℕ) (x : ℕ) → ((o : List ℕ) (i : ℕ) → has o x ≡ true → has (f o i) x ≡ true) → (o xs : List ℕ) → has o x ≡ true → has (each_in_turn f o xs) x ≡ true
each_mono f x m o [] h = h
each_mono f x m o (y ∷ ys) h = each_mono f x m (f o y) ys (m o y h)

visit_mono : (f : ℕ) (dag : List Node) (x : ℕ) (o : List ℕ) (i : ℕ) → has o x ≡ true → has (visit f dag o i) x ≡ true
visit_mono zero dag x o i h = h
visit_mono (suc f) dag x o i h =
    by_test (has o i) (has_front (each_in_turn (visit f dag) o (operands_of dag i)) (i ∷ []) x (each_mono (visit f dag) x (λ o' j k. visit_mono f dag x o' j k) o (operands_of dag i) h))
  where
    by_test : (b : Bool) → has (each_in_turn (visit f dag) o (operands_of dag i) ++ i ∷ []) x ≡ true → has (if b then o else each_in_turn (visit f dag) o (operands_of dag i) ++ i ∷ []) x ≡ true
    by_test true e = h
    by_test false e = e

visit_seen : (f : ℕ) (dag : List Node) (o : List ℕ) (i : ℕ) → has o i ≡ true → visit f dag o i ≡ o
visit_seen zero dag o i h = refl
visit_seen (suc f) dag o i h = ap (λ b. if b then o else each_in_turn (visit f dag) o (operands_of dag i) ++ i ∷ []) h

visit_has : (f : ℕ) (dag : List Node) (o : List ℕ) (i : ℕ) → i < f → has (visit f dag o i) i ≡ true
visit_has zero dag o i p = absurd (omega arith)
visit_has (suc f) dag o i p = by_test (has o i) refl
  where
    by_test : (b : Bool) → has o i ≡ b → has (if b then o else each_in_turn (visit f dag) o (operands_of dag i) ++ i ∷ []) i ≡ true
    by_test true h = h
    by_test false h = has_last (each_in_turn (visit f dag) o (operands_of dag i)) i

visits_seen : (f : ℕ) (dag : List Node) (o xs : List ℕ) → Each (λ a. has o a ≡ true) xs → each_in_turn (visit f dag) o xs ≡ o
visits_seen f dag o [] h = refl
visits_seen f dag o (x ∷ xs) h = ap (λ k. each_in_turn (visit f dag) k xs) (visit_seen f dag o x h.0) ∙ visits_seen f dag o xs h.1

-- a visit of the first operand that is not there changes nothing of the visits of all
again : (f : ℕ) (dag : List Node) (places o xs : List ℕ) (a : ℕ) → ((i : ℕ) → slice_index places i ≡ spot o i) → Each (λ x. x < f) xs → first_open places xs ≡ Some a → each_in_turn (visit f dag) (visit f dag o a) xs ≡ each_in_turn (visit f dag) o xs
again f dag places o [] a s lt e = cc
again f dag places o (x ∷ xs) a s lt e = by_place (slice_index places x) refl (again f dag places o xs a s lt.1)
  where
    turn : List ℕ → List ℕ
    turn k = each_in_turn (visit f dag) k xs

    by_place : (p : ℕ) → slice_index places x ≡ p → (first_open places xs ≡ Some a → each_in_turn (visit f dag) (visit f dag o a) xs ≡ each_in_turn (visit f dag) o xs) → each_in_turn (visit f dag) (visit f dag (visit f dag o a) x) xs ≡ each_in_turn (visit f dag) (visit f dag o x) xs
    by_place zero g rest =
        let h : first_open places (x ∷ xs) ≡ Some x = ap (λ k. if k == 0 then Some x else first_open places xs) g in
        let is : x ≡ a = (let t : Some x ≡ Some a = sym h ∙ e in cc) in
        ap (λ k. each_in_turn (visit f dag) (visit f dag (visit f dag o k) x) xs) (sym is) ∙ ap (λ k. each_in_turn (visit f dag) k xs) (visit_seen f dag (visit f dag o x) x (visit_has f dag o x lt.0))
    by_place (suc p) g rest =
        let t : (slice_index places x == 0) ≡ false = test_other (slice_index places x) 0 (omega arith) in
        let h : first_open places (x ∷ xs) ≡ first_open places xs = ap (λ b. if b then Some x else first_open places xs) t in
        let there : has o x ≡ true = spot_some o x (omega (arith, s x)) in
        ap (λ k. each_in_turn (visit f dag) k xs) (visit_seen f dag (visit f dag o a) x (visit_mono f dag x o a there)) ∙ rest (sym h ∙ e) ∙ sym (ap (λ k. each_in_turn (visit f dag) k xs) (visit_seen f dag o x there))

-- what the visits of an open path make of an order, from the top down
abbrev pub rest : List Node → List ℕ → List ℕ → List ℕ
rest dag [] o = o
rest dag (b ∷ above) o =
    each_in_turn (visit (length dag) dag) (rest dag above o) (operands_of dag b) ++ b ∷ []

rest_push : (dag : List Node) (stack : List ℕ) (x : ℕ) (o : List ℕ) → rest dag (stack ++ x ∷ []) o ≡ rest dag stack (each_in_turn (visit (length dag) dag) o (operands_of dag x) ++ x ∷ [])
rest_push dag [] x o = refl
rest_push dag (b ∷ stack) x o =
    ap (λ k. each_in_turn (visit (length dag) dag) k (operands_of dag b) ++ b ∷ []) (rest_push dag stack x o)

take_last : (xs : List ℕ) → 0 < length xs → take (length xs - 1) xs ++ top_of xs ∷ [] ≡ xs
take_last [] lt = absurd (omega arith)
take_last (x ∷ []) lt = refl
take_last (x ∷ y ∷ xs) lt =
    let e : length (x ∷ y ∷ xs) - 1 ≡ suc (length (y ∷ xs) - 1) = omega arith in
    ap (λ k. take k (x ∷ y ∷ xs) ++ slice_index (x ∷ y ∷ xs) k ∷ []) e ∙ ap (λ r. x ∷ r) (take_last (y ∷ xs) (omega arith))

-- the order in which the nodes were placed
pub record Ordered (dag nodes : List Node) (places stack : List ℕ) (root : ℕ) : Type 0 where
  pub order : List ℕ
  pub whole : rest dag stack order ≡ depth_first dag root
  pub spots : (i : ℕ) → slice_index places i ≡ spot order i
  pub long : length nodes ≡ length order
  pub nodes_are : nodes ≡ taken dag [] order

taken_push : (dag : List Node) (before xs : List ℕ) (y : ℕ) → taken dag before (xs ++ y ∷ []) ≡ taken dag before xs ++ node_under (index_of (before ++ xs)) dag y
taken_push dag before [] y = nil (node_under (index_of before) dag y) ∙ ap (λ k. node_under (index_of k) dag y) (sym (nil' before))
  where
    nil : (ns : List Node) → ns ++ [] ≡ ns
    nil [] = refl
    nil (n ∷ ns) = ap (λ r. n ∷ r) (nil ns)

    nil' : (ns : List ℕ) → ns ++ [] ≡ ns
    nil' [] = refl
    nil' (n ∷ ns) = ap (λ r. n ∷ r) (nil' ns)
taken_push dag before (x ∷ xs) y =
    let here = node_under (index_of before) dag x in
    ap (λ k. here ++ k) (taken_push dag (before ++ x ∷ []) xs y) ∙ sym (append_assoc here (taken dag (before ++ x ∷ []) xs) (node_under (index_of ((before ++ x ∷ []) ++ xs)) dag y)) ∙ ap (λ k. (here ++ taken dag (before ++ x ∷ []) xs) ++ node_under (index_of k) dag y) (append_assoc before (x ∷ []) xs)

node_there : (dag : List Node) (i : ℕ) (n : Node) (f : ℕ → ℕ) → i < length dag → n ≡ get_or dag i n → node_under f dag i ≡ renumbered f n ∷ []
node_there [] i n f lt at = absurd (omega arith)
node_there (m ∷ dag) zero n f lt at = ap (λ k. renumbered f k ∷ []) (sym at)
node_there (m ∷ dag) (suc i) n f lt at = node_there dag i n f (omega arith) at

operands_there : (dag : List Node) (i : ℕ) (n : Node) → i < length dag → n ≡ get_or dag i n → operands_of dag i ≡ operands n
operands_there [] i n lt at = absurd (omega arith)
operands_there (m ∷ dag) zero n lt at = ap operands (sym at)
operands_there (m ∷ dag) (suc i) n lt at = operands_there dag i n (omega arith) at

renumbered_alike : (f g : ℕ → ℕ) (n : Node) → Each (λ a. f a ≡ g a) (operands n) → renumbered f n ≡ renumbered g n
renumbered_alike f g (Free name w side cycle) h = refl
renumbered_alike f g (Const w) h = refl
renumbered_alike f g (Two op w a b) h = ap (λ k. Two op w k (f b)) h.0 ∙ ap (λ k. Two op w (g a) k) h.1.0
renumbered_alike f g (Not w a) h = ap (λ k. Not w k) h.0
renumbered_alike f g (Slice w a lo) h = ap (λ k. Slice w k lo) h.0
renumbered_alike f g (Zext w a) h = ap (λ k. Zext w k) h.0
renumbered_alike f g (Sext w a) h = ap (λ k. Sext w k) h.0
renumbered_alike f g (Mux w c a b) h = ap (λ k. Mux w k (f a) (f b)) h.0 ∙ ap (λ k. Mux w (g c) k (f b)) h.1.0 ∙ ap (λ k. Mux w (g c) (g a) k) h.1.1.0

pub order_start : (dag : List Node) (places : List ℕ) (root : ℕ) → FitFrom [] dag → ((i : ℕ) → slice_index places i ≡ 0) → root < length dag → Ordered dag [] places (root ∷ []) root
order_start dag places root fit none lt = record {
  order = [];
  whole = sym (visit_unfold dag (down dag fit) (length dag) root [] lt);
  spots = λ i. none i;
  long = refl;
  nodes_are = refl;
}

pub order_end : (dag nodes : List Node) (places stack view : List ℕ) (root r : ℕ) → length stack ≤ 0 → view ≡ places → r ≡ place_of view root → Walk dag nodes places stack root → Ordered dag nodes places stack root → (let p : Parts = record { nodes = nodes; root = r } in p) ≡ taken_out dag root
order_end dag nodes places [] view root r e ev er w o =
    let p : 0 < slice_index places root = w.done refl in
    let there : has o.order root ≡ true = spot_some o.order root (omega (arith, p, o.spots root)) in
    let is : r ≡ index_of o.order root = omega (arith, er, ap (λ k. slice_index k root) ev, o.spots root, spot_is o.order root there) in
    ap (λ k. let p : Parts = record { nodes = nodes; root = k } in p) is ∙ ap (λ k. let p : Parts = record { nodes = k; root = index_of o.order root } in p) o.nodes_are ∙ ap (λ k. let p : Parts = record { nodes = taken dag [] k; root = index_of k root } in p) o.whole
order_end dag nodes places (s ∷ stack) view root r e ev er w o = absurd (omega arith)

-- one turn, at the node n of number t
module _ (dag nodes : List Node) (places stack : List ℕ) (root t : ℕ) (n : Node) (w : Walk dag nodes places stack root) (o : Ordered dag nodes places stack root) (some : 0 < length stack) (et : t ≡ top_of stack) (fitd : FitFrom [] dag) (at : n ≡ get_or dag t n) where
  t_in : t < length dag
  t_in = omega (arith, et, w.within (length stack - 1) (omega arith))

  path : take (length stack - 1) stack ++ t ∷ [] ≡ stack
  path = ap (λ k. take (length stack - 1) stack ++ k ∷ []) et ∙ take_last stack some

  ops : operands_of dag t ≡ operands n
  ops = operands_there dag t n t_in at

  whole_at : (k : List ℕ) → rest dag stack k ≡ rest dag (take (length stack - 1) stack) (each_in_turn (visit (length dag) dag) k (operands n) ++ t ∷ [])
  whole_at k =
      ap (λ s. rest dag s k) (sym path) ∙ rest_push dag (take (length stack - 1) stack) t k ∙ ap (λ s. rest dag (take (length stack - 1) stack) (each_in_turn (visit (length dag) dag) k s ++ t ∷ [])) ops

  small : Each (λ a. a < length dag) (operands n)
  small = subst (λ k. Each (λ a. a < length dag) k) ops (Each-map (λ a. a < t) (λ a. a < length dag) (operands_of dag t) (λ a p. omega (arith, t_in)) (down dag fitd t))

  pub push_order : (x : ℕ) (more view : List ℕ) → view ≡ places → more ≡ stack ++ x ∷ [] → Some x ≡ first_open view (operands n) → x < length dag → slice_index places x ≡ 0 → Ordered dag nodes places more root
  push_order x more view e em f lt open_x =
      let V = visit (length dag) dag in
      let first : first_open places (operands n) ≡ Some x = ap (λ k. first_open k (operands n)) (sym e) ∙ sym f in
      let out : has o.order x ≡ false = spot_none o.order x (sym (o.spots x) ∙ open_x) in
      let here : V o.order x ≡ each_in_turn V o.order (operands_of dag x) ++ x ∷ [] = visit_unfold dag (down dag fitd) (length dag) x o.order lt ∙ ap (λ b. if b then o.order else each_in_turn V o.order (operands_of dag x) ++ x ∷ []) out in
      record {
        order = o.order;
        whole = ap (λ s. rest dag s o.order) em ∙ rest_push dag stack x o.order ∙ ap (rest dag stack) (sym here) ∙ whole_at (V o.order x) ∙ ap (λ k. rest dag (take (length stack - 1) stack) (k ++ t ∷ [])) (again (length dag) dag places o.order (operands n) x o.spots small first) ∙ sym (whole_at o.order) ∙ o.whole;
        spots = o.spots;
        long = o.long;
        nodes_are = o.nodes_are;
      }

  pub emit_order : (seen view : List ℕ) (more : List Node) (rest' : List ℕ) (k : ℕ) → seen ≡ places → view ≡ places → None ≡ first_open seen (operands n) → more ≡ nodes ++ renumbered (place_of view) n ∷ [] → k ≡ length more → rest' ≡ take (length stack - 1) stack → Ordered dag more (set places t k) rest' root
  emit_order seen view more rest' k es e f em ek er =
      let V = visit (length dag) dag in
      let ready = none_open places (operands n) (ap (λ v. first_open v (operands n)) (sym es) ∙ sym f) in
      let there = Each-map (λ a. 0 < slice_index places a) (λ a. has o.order a ≡ true) (operands n) (λ a p. spot_some o.order a (omega (arith, p, o.spots a))) ready in
      let alike = Each-map (λ a. has o.order a ≡ true) (λ a. place_of view a ≡ index_of o.order a) (operands n) (λ a p. omega (arith, ap (λ v. slice_index v a) e, o.spots a, spot_is o.order a p)) there in
      let long = length-append nodes (renumbered (place_of view) n ∷ []) in
      let long' = length-append o.order (t ∷ []) in
      let more_long : length more ≡ suc (length o.order) = omega (arith, ap length em, long, o.long) in
      let is_open : slice_index places t ≡ 0 = ap (slice_index places) et ∙ w.are_open (length stack - 1) (omega arith) in
      let out : has o.order t ≡ false = spot_none o.order t (sym (o.spots t) ∙ is_open) in
      let lt : t < length places = omega (arith, w.long, t_in) in
      record {
        order = o.order ++ t ∷ [];
        whole = ap (λ s. rest dag s (o.order ++ t ∷ [])) er ∙ ap (λ s. rest dag (take (length stack - 1) stack) (s ++ t ∷ [])) (sym (visits_seen (length dag) dag o.order (operands n) there)) ∙ sym (whole_at o.order) ∙ o.whole;
        spots = λ i. elim (same_or i t) [
          | inl q ↦ ap (slice_index (set places t k)) q ∙ get_or-set_same places t k 0 lt ∙ ek ∙ more_long ∙ ap suc (sym (index_last o.order t out)) ∙ sym (spot_is (o.order ++ t ∷ []) t (has_last o.order t)) ∙ ap (spot (o.order ++ t ∷ [])) (sym q)
          | inr q ↦ get_or-set_other places t i k 0 q ∙ o.spots i ∙ sym (spot_other o.order t i (λ r. q (sym r)))
        ];
        long = omega (arith, more_long, long');
        nodes_are = em ∙ ap (λ m. nodes ++ m ∷ []) (renumbered_alike (place_of view) (index_of o.order) n alike) ∙ ap (λ m. nodes ++ m) (sym (node_there dag t n (index_of o.order) t_in at)) ∙ ap (λ m. m ++ node_under (index_of o.order) dag t) o.nodes_are ∙ sym (taken_push dag [] o.order t);
      }

zeros : (n i : ℕ) → slice_index (replicate n 0) i ≡ 0
zeros zero i = refl
zeros (suc n) zero = refl
zeros (suc n) (suc i) = zeros n i

-- the walk begins
pub both_start : (dag nodes : List Node) (places stack : List ℕ) (root n : ℕ) → nodes ≡ [] → stack ≡ root ∷ [] → n ≡ length dag → places ≡ replicate n 0 → FitFrom [] dag → root < length dag → Walk dag nodes places stack root × Ordered dag nodes places stack root
both_start dag nodes places stack root n en es el ep fit lt =
    let none : (i : ℕ) → slice_index places i ≡ 0 = λ i. ap (λ k. slice_index k i) ep ∙ zeros n i in
    let long : length places ≡ length dag = ap length ep ∙ length-replicate n 0 ∙ el in
    rw (en, es) (walk_start dag places root long none lt, order_start dag places root fit none lt)
