-- Cycles that agree on registers and inputs give all nodes the same words.
use Rattle.std.proofs.Common.{◌≡◌, ℕ, zero, suc, ◌<◌, ◌^◌, ◌%◌, List, [], ◌∷◌, get_or, length, refl, sym, ap, ◌∙◌, arith}
use Rattle.word_core.specs.Words.{Bits, word}
use Rattle.word_dag.specs.declared.node.Node.{Node}
use Rattle.word_dag.specs.declared.node.Node.TheVariants.{Free, Const, Two, Not, Slice, Zext, Sext, Mux}
use Rattle.word_dag.specs.Adding.{IsAt}
use Rattle.word_dag.specs.Nodes.{dag_values, named, node_value, width_of, word_at}
use Rattle.word_dag.specs.Walks.{operands, Each}
use Rattle.word_dag.proofs.NodeValues.{renumbered_value}
use Rattle.word_dag.proofs.Valued.{value_there}
use Rattle.vlog_tree_runs.specs.Places.{Name, Cycle, Among}
use Rattle.elab_step_design.specs.declared.design.Net.{Net}
use Rattle.elab_step_design.specs.Designs.{Parts, IsCycleOf, IsDesign, free, naming_of, sources, word_in}
use Rattle.unroll_laws.proofs.Values.{placed_well}

-- two cycles have the same values of the registers and inputs, cut to their lengths
abbrev pub AgreeAtFirst : Parts → Cycle → Cycle → Type 0
AgreeAtFirst d c e = (s : Net) → Among (sources d) s → c s.name % 2 ^ s.width ≡ e s.name % 2 ^ s.width

get_any : (ns : List Node) (i : ℕ) (a b : Node) → i < length ns → get_or ns i a ≡ get_or ns i b
get_any [] i a b lt = absurd (omega arith)
get_any (n ∷ ns) zero a b lt = refl
get_any (n ∷ ns) (suc i) a b lt = get_any ns i a b (omega arith)

pub one_node : (ns : List Node) (i j : ℕ) (n m : Node) → i ≡ j → IsAt ns i n → IsAt ns j m → n ≡ m
one_node ns i j n m same a b = a.1 ∙ (get_any ns i n m a.0 ∙ (ap (λ k. get_or ns k m) same ∙ sym b.1))

-- a free word of a design is one of its registers or inputs
pub free_source : (d : Parts) → IsDesign d → (i : ℕ) (x : Name) (w side : ℕ) (t : _) → IsAt d.nodes i (Free x w side t) → (s : Net) × Among (sources d) s × (s.name ≡ x) × (s.width ≡ w) × (s.node ≡ i)
free_source d h i x w side t at =
    let there = h.no_other x w side i t at in
    let s = there.0 in
    let one : free s.name s.width ≡ Free x w side t = one_node d.nodes s.node i (free s.name s.width) (Free x w side t) there.3 (h.free_words s there.1) at in
    (s, there.1, there.2, ap width_of one, there.3)

module _ (d : Parts) (h : IsDesign d) (c e : Cycle) (agree : AgreeAtFirst d c e) where
  word_same : (s : Net) (x : Name) (w : ℕ) → Among (sources d) s → s.name ≡ x → s.width ≡ w → word w (c x) ≡ word w (e x)
  word_same s x w m same wide =
      let here : c x % 2 ^ w ≡ e x % 2 ^ w = rw (← same, ← wide) (agree s m) in
      ap (λ u. (let b : Bits = record { width = w; value = u } in b)) here

  follows : (j : ℕ) (n : Node) → IsAt d.nodes j n → Each (λ a. word_at (dag_values (naming_of c) [] d.nodes) a ≡ word_at (dag_values (naming_of e) [] d.nodes) a) (operands n) → node_value (named (naming_of c) n) (dag_values (naming_of c) [] d.nodes) n ≡ node_value (named (naming_of e) n) (dag_values (naming_of e) [] d.nodes) n
  follows j (Free x w side t) at each = let s = free_source d h j x w side t at in word_same s.0 x w s.1 s.2 s.3
  follows j (Const w) at each = refl
  follows j (Two op w a b) at each = renumbered_value (naming_of c) _ _ (λ a. a) (Two op w a b) each
  follows j (Not w a) at each = renumbered_value (naming_of c) _ _ (λ a. a) (Not w a) each
  follows j (Slice w a lo) at each = renumbered_value (naming_of c) _ _ (λ a. a) (Slice w a lo) each
  follows j (Zext w a) at each = renumbered_value (naming_of c) _ _ (λ a. a) (Zext w a) each
  follows j (Sext w a) at each = renumbered_value (naming_of c) _ _ (λ a. a) (Sext w a) each
  follows j (Mux w k a b) at each = renumbered_value (naming_of c) _ _ (λ a. a) (Mux w k a b) each

  pub words_agree : (i : ℕ) → i < length d.nodes → word_in d c i ≡ word_in d e i
  words_agree i lt =
      placed_well (naming_of e) d.nodes h.fit (dag_values (naming_of c) [] d.nodes) (λ a. a) (λ j n at each. value_there (naming_of c) d.nodes j n h.fit at ∙ follows j n at each) i lt

-- a register or an input has the word of its value
pub source_word : (d : Parts) → IsDesign d → (c : Cycle) (s : Net) → Among (sources d) s → word_in d c s.node ≡ word s.width (c s.name)
source_word d h c s m = value_there (naming_of c) d.nodes s.node (free s.name s.width) h.fit (h.free_words s m)

-- in a cycle each register and input has a value that fits
pub cycle_fits : (d : Parts) → IsDesign d → (c : Cycle) → IsCycleOf d c → (s : Net) → Among (sources d) s → c s.name ≡ c s.name % 2 ^ s.width
cycle_fits d h c cycle s m = ap (λ (b : Bits). b.value) (sym (cycle s (h.among s m)) ∙ source_word d h c s m)
