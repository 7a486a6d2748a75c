-- The clauses of an obligation can be met exactly where its root can be 1.
use Rattle.std.proofs.Common.{◌≡◌, ℕ, zero, suc, ◌+◌, ◌^◌, ◌<◌, Bool, true, false, List, [], ◌∷◌, ◌++◌, length, refl, sym, ap, ◌∙◌, subst, arith, append_assoc, lit<}
use Rattle.std.specs.Prelude.{map, slice_index, ◌&&◌, ◌||◌}
use Rattle.std.proofs.Math.Nat.{mod-eq_of_lt}
use Rattle.clause_check.specs.declared.literal.Lit.{Lit}
use Rattle.cnf_build.specs.Literals.{holds, all_hold}
use Rattle.cnf_build.specs.Gates.{Runs, clauses_from}
use Rattle.cnf_build.specs.Circuits.{bit, number}
use Rattle.cnf_build.proofs.Runs.{Runs-front, Runs-back}
use Rattle.cnf_build.proofs.Numbers.{twice, bit-lt}
use Rattle.cnf_build.proofs.Tseitin.{clauses_run, run_clauses, all_hold-append, and_split, and_join}
use Rattle.word_dag.specs.declared.node.Node.{Node}
use Rattle.word_dag.specs.declared.node.Node.TheVariants.{Free, Const, Two, Not, Slice, Zext, Sext, Mux}
use Rattle.word_dag.specs.Nodes.{FitFrom, width_of, width_at, node_value, word_at, left_after, ob_values, root_value, IsOb}
use Rattle.cnf_build.specs.Lower.{node_made, lits_at, low_of, lower, free_vars, netlist, lowered, ob_clauses, ob_bits}
use Rattle.cnf_build.specs.Meaning.{denoted, read_word, read_words, RootIs1}
use Rattle.cnf_build.proofs.Nodes.{Agree, Filled, node_denotes, length-node_made, word_at-map, width_at-map, map_push, filled_push}

-- the first node's part of what agrees, and the others' part
agree_here : (s : ℕ → Bool) (n : ℕ) (node : Node) (fs : List (List ℕ)) (us : List ℕ) → Agree s (free_vars n node ++ fs) us → Agree s (free_vars n node) (slice_index us 0 ∷ []) × Agree s fs (left_after node us)
agree_here s n (Free name w side cycle) fs us a = ((a.0, tt), a.1)
agree_here s n (Const w) fs us a = (tt, a)
agree_here s n (Two op w x y) fs us a = (tt, a)
agree_here s n (Not w x) fs us a = (tt, a)
agree_here s n (Slice w x lo) fs us a = (tt, a)
agree_here s n (Zext w x) fs us a = (tt, a)
agree_here s n (Sext w x) fs us a = (tt, a)
agree_here s n (Mux w c x y) fs us a = (tt, a)

-- the table of literals denotes the values of the nodes
pub lower_denotes : (s : ℕ → Bool) → s 0 ≡ true → (n : ℕ) (t : List (List Lit)) (us : List ℕ) (nodes : List Node) → Filled t → FitFrom (map length t) nodes → Agree s (lower n t nodes).frees us → Runs s n (lower n t nodes).gates → map (denoted s) (lower n t nodes).table ≡ ob_values us (map (denoted s) t) nodes
lower_denotes s h n t us [] filled fit agree r = refl
lower_denotes s h n t us (node ∷ nodes) filled fit agree r =
    let m = node_made n t node in
    let n' = n + length m.gates in
    let t' = t ++ m.lits ∷ [] in
    let rest = lower n' t' nodes in
    let parts = agree_here s n node rest.frees us agree in
    let word = node_denotes s h t filled n (slice_index us 0) node fit.0 parts.0 (Runs-front s n m.gates rest.gates r) in
    let long = length-node_made s h t filled n node fit.0 in
    let widths : map length t' ≡ map length t ++ width_of node ∷ [] = map_push length t m.lits ∙ ap (λ k. map length t ++ k ∷ []) long.0 in
    let words : map (denoted s) t' ≡ map (denoted s) t ++ node_value (slice_index us 0) (map (denoted s) t) node ∷ [] = map_push (denoted s) t m.lits ∙ ap (λ k. map (denoted s) t ++ k ∷ []) word in
    let filled' = filled_push t m.lits filled (omega (arith, long.0, long.1)) in
    let later = lower_denotes s h n' t' (left_after node us) nodes filled' (subst (λ ws. FitFrom ws nodes) (sym widths) fit.1) parts.1 (Runs-back s n m.gates rest.gates r) in
    later ∙ ap (λ vs. ob_values (left_after node us) vs nodes) words

-- what is read agrees with itself
pub read_word-lt : (s : ℕ → Bool) (vs : List ℕ) → read_word s vs < 2 ^ length vs
read_word-lt s [] = lit< tt
read_word-lt s (v ∷ vs) = omega (arith, read_word-lt s vs, twice (length vs), bit-lt (s v))

reads_agree : (s : ℕ → Bool) (fs : List (List ℕ)) → Agree s fs (read_words s fs)
reads_agree s [] = tt
reads_agree s (vs ∷ fs) = (sym (mod-eq_of_lt (read_word-lt s vs)), reads_agree s fs)

-- a bit is 1 where it holds
bit_one : (b : Bool) → bit b ≡ 1 → b ≡ true
bit_one true e = refl
bit_one false e = absurd (omega arith)

low_bit : (s : ℕ → Bool) (ls : List Lit) → length ls ≡ 1 → number s ls ≡ bit (holds s (low_of ls))
low_bit s [] e = absurd (omega arith)
low_bit s (l ∷ []) e = omega arith
low_bit s (l ∷ m ∷ ls) e = absurd (omega arith)

-- the widths of the table are those of the nodes
table_widths : (s : ℕ → Bool) → s 0 ≡ true → (n : ℕ) (t : List (List Lit)) (nodes : List Node) → Filled t → FitFrom (map length t) nodes → map length (lower n t nodes).table ≡ map length t ++ map width_of nodes
table_widths s h n t [] filled fit = sym (append_nil (map length t))
  where
    append_nil : (xs : List ℕ) → xs ++ [] ≡ xs
    append_nil [] = refl
    append_nil (x ∷ xs) = ap (λ r. x ∷ r) (append_nil xs)
table_widths s h n t (node ∷ nodes) filled fit =
    let m = node_made n t node in
    let long = length-node_made s h t filled n node fit.0 in
    let widths : map length (t ++ m.lits ∷ []) ≡ map length t ++ width_of node ∷ [] = map_push length t m.lits ∙ ap (λ k. map length t ++ k ∷ []) long.0 in
    let filled' = filled_push t m.lits filled (omega (arith, long.0, long.1)) in
    table_widths s h (n + length m.gates) (t ++ m.lits ∷ []) nodes filled' (subst (λ ws. FitFrom ws nodes) (sym widths) fit.1) ∙ ap (λ k. k ++ map width_of nodes) widths ∙ append_assoc (map length t) (width_of node ∷ []) (map width_of nodes)

width_at-nodes : (nodes : List Node) (i : ℕ) → slice_index (map width_of nodes) i ≡ width_at nodes i
width_at-nodes [] i = refl
width_at-nodes (n ∷ ns) zero = refl
width_at-nodes (n ∷ ns) (suc i) = width_at-nodes ns i

module _ (nodes : List Node) (root : ℕ) (ob : IsOb nodes root) where
  root_lits : List Lit
  root_lits = lits_at (lowered nodes).table root

  root_long : length root_lits ≡ 1
  unfolding root_lits
  root_long =
      sym (width_at-map (lowered nodes).table root) ∙ ap (λ ws. slice_index ws root) (table_widths (λ v. true) refl 1 [] nodes tt ob.fit) ∙ width_at-nodes nodes root ∙ ob.one_bit

  -- whatever an assignment that runs the netlist is given, the root's bit is the root's value
  root_denotes : (s : ℕ → Bool) (us : List ℕ) → Runs s 0 (netlist nodes) → Agree s (ob_bits nodes) us → bit (holds s (low_of root_lits)) ≡ (root_value us nodes root).value
  unfolding root_lits
  root_denotes s us r agree =
      let words = lower_denotes s r.0 1 [] us nodes tt ob.fit agree r.1 in
      let at = sym (word_at-map s (lowered nodes).table root) ∙ ap (λ vs. word_at vs root) words in
      sym (low_bit s root_lits root_long) ∙ ap (λ w. w.value) at

  pub clauses_read : (s : ℕ → Bool) → all_hold s (ob_clauses nodes root) ≡ true → RootIs1 nodes root (read_words s (ob_bits nodes))
  unfolding root_lits
  clauses_read s h =
      let parts = and_split (all_hold s (clauses_from 0 (netlist nodes))) (all_hold s ((low_of root_lits ∷ []) ∷ [])) (sym (all_hold-append s (clauses_from 0 (netlist nodes)) ((low_of root_lits ∷ []) ∷ [])) ∙ h) in
      let on = unit_clause (holds s (low_of root_lits)) parts.1 in
      sym (root_denotes s (read_words s (ob_bits nodes)) (clauses_run s 0 (netlist nodes) parts.0) (reads_agree s (ob_bits nodes))) ∙ ap bit on
    where
      unit_clause : (b : Bool) → ((b || false) && true) ≡ true → b ≡ true
      unit_clause true e = refl
      unit_clause false e = e

  pub run_meets : (s : ℕ → Bool) (us : List ℕ) → Runs s 0 (netlist nodes) → Agree s (ob_bits nodes) us → RootIs1 nodes root us → all_hold s (ob_clauses nodes root) ≡ true
  unfolding root_lits
  run_meets s us r agree one =
      let on = bit_one (holds s (low_of root_lits)) (root_denotes s us r agree ∙ one) in
      all_hold-append s (clauses_from 0 (netlist nodes)) ((low_of root_lits ∷ []) ∷ []) ∙ and_join (all_hold s (clauses_from 0 (netlist nodes))) (all_hold s ((low_of root_lits ∷ []) ∷ [])) (run_clauses s 0 (netlist nodes) r) (ap (λ b. (b || false) && true) on)
