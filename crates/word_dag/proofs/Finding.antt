-- The search for an equal node.
use Rattle.std.proofs.Common.{◌≡◌, ℕ, zero, suc, ◌-◌, ◌<◌, ◌≤◌, Bool, true, false, List, [], ◌∷◌, length, get_or, refl, sym, ap, ◌∙◌, subst, arith, inl, inr}
use Rattle.std.specs.Prelude.{slice_index, map, ◌⊎◌}
use Rattle.word_dag.specs.declared.node.Node.{Node}
use Rattle.word_dag.specs.Keys.{IsLast}
use Rattle.word_dag.specs.Prints.{print_of, same}
use Rattle.word_dag.specs.Adding.{IsAt}
use Rattle.word_dag.proofs.SameNodes.{same_is, is_same}

pub length-prints : (ns : List Node) → length (map print_of ns) ≡ length ns
length-prints [] = refl
length-prints (n ∷ ns) = ap suc (length-prints ns)

pub print_at : (ns : List Node) (i : ℕ) (d : Node) → i < length ns → slice_index (map print_of ns) i ≡ print_of (get_or ns i d)
print_at [] i d lt = absurd (omega arith)
print_at (n ∷ ns) zero d lt = refl
print_at (n ∷ ns) (suc i) d lt = print_at ns i d (omega arith)

-- none of the nodes from place on is the one that is sought, and the one before place has its fingerprint
pub record FindLoop (nodes : List Node) (node : Node) (place : ℕ) : Type 0 where
  pub within : place ≤ length nodes
  pub none_later : (j : ℕ) → place ≤ j → IsAt nodes j node → ⊥
  pub here : 0 < place → slice_index (map print_of nodes) (place - 1) ≡ print_of node

-- a place that the index gives
not_here : (nodes : List Node) (node : Node) (keys : List ℕ) (n print r : ℕ) → keys ≡ map print_of nodes → print ≡ print_of node → IsLast keys n print r → (j : ℕ) → r ≤ j → j < n → IsAt nodes j node → ⊥
not_here nodes node keys n print r ek ep l j p q at =
    l.none_later j p q (ap (λ k. slice_index k j) ek ∙ print_at nodes j node at.0 ∙ ap print_of (sym at.1) ∙ sym ep)

pub find_start : (nodes : List Node) (node : Node) (keys : List ℕ) (print r : ℕ) → keys ≡ map print_of nodes → print ≡ print_of node → IsLast keys (length keys) print r → FindLoop nodes node r
find_start nodes node keys print r ek ep l =
    let long : length keys ≡ length nodes = ap length ek ∙ length-prints nodes in
    record {
      within = omega (arith, l.within);
      none_later = λ j p at. not_here nodes node keys (length keys) print r ek ep l j p (omega (arith, at.0)) at;
      here = λ p. ap (λ k. slice_index k (r - 1)) (sym ek) ∙ l.here p ∙ ep;
    }

below_or : (j n : ℕ) → (j < n) ⊎ (n ≤ j)
below_or j n = grind arith

pub find_step : (nodes : List Node) (node m : Node) (keys : List ℕ) (place number r : ℕ) (t : Bool) → 0 < place → number ≡ place - 1 → keys ≡ map print_of nodes → m ≡ get_or nodes number m → t ≡ same m node → t ≡ false → IsLast keys number (slice_index keys number) r → FindLoop nodes node place → FindLoop nodes node r
find_step nodes node m keys place number r t some en ek em et absent l f =
    let print : slice_index keys number ≡ print_of node = ap (λ k. slice_index k number) ek ∙ ap (slice_index (map print_of nodes)) en ∙ f.here some in
    record {
      within = omega (arith, l.within, f.within);
      none_later = λ j p at. elim (below_or j number) [
        | inl q ↦ not_here nodes node keys number (slice_index keys number) r ek print l j p q at
        | inr q ↦ elim (below_or j place) [ inl u ↦ differs j (omega arith) at | inr u ↦ f.none_later j u at ]
      ];
      here = λ p. ap (λ k. slice_index k (r - 1)) (sym ek) ∙ l.here p ∙ print;
    }
  where
    differs : (j : ℕ) → j ≡ number → IsAt nodes j node → ⊥
    differs j e at =
        let is : get_or nodes number m ≡ node = at_any nodes number node m (subst (λ k. IsAt nodes k node) e at) in
        let hit : same m node ≡ true = is_same m node (em ∙ is) in
        let b : true ≡ false = sym hit ∙ sym et ∙ absent in
        cc
      where
        at_any : (ns : List Node) (i : ℕ) (n d : Node) → IsAt ns i n → get_or ns i d ≡ n
        at_any [] i n d a = absurd (omega (arith, a.0))
        at_any (x ∷ ns) zero n d a = sym a.1
        at_any (x ∷ ns) (suc i) n d a = at_any ns i n d (omega (arith, a.0), a.1)

pub find_hit : (nodes : List Node) (node m : Node) (place number : ℕ) (t : Bool) → 0 < place → number ≡ place - 1 → m ≡ get_or nodes number m → t ≡ same m node → t ≡ true → FindLoop nodes node place → IsAt nodes number node
find_hit nodes node m place number t some en em et hit f =
    let is : m ≡ node = same_is m node (sym et ∙ hit) in
    (omega (arith, f.within), sym is ∙ em ∙ ap (get_or nodes number) is)

pub find_none : (nodes : List Node) (node : Node) (place : ℕ) → place ≤ 0 → FindLoop nodes node place → (j : ℕ) → IsAt nodes j node → ⊥
find_none nodes node place e f j at = f.none_later j (omega arith) at
