-- The variables of free nodes.
use Rattle.std.proofs.Common.{◌≡◌, ℕ, zero, suc, ◌+◌, ◌-◌, ◌^◌, ◌<◌, ◌≤◌, Bool, List, [], ◌∷◌, ◌++◌, length, refl, sym, ap, ◌∙◌, subst, arith, append_assoc, length-append}
use Rattle.std.specs.List.{All}
use Rattle.std.proofs.lemmas.List.{length-replicate}
use Rattle.clause_check.specs.declared.literal.Lit.{Lit}
use Rattle.clause_check.specs.Clauses.{IsInRange}
use Rattle.cnf_build.specs.declared.gates.Gate.TheVariants as Gates
use Rattle.cnf_build.specs.Gates.{Below, clauses_from}
use Rattle.cnf_build.proofs.InRange.{AllBelow, AllBelow-append, clauses_below, in_range}
use Rattle.word_dag.specs.declared.node.Node.{Node}
use Rattle.word_dag.specs.declared.node.Node.TheVariants.{Free, Const, Two, Not, Slice, Zext, Sext, Mux}
use Rattle.word_dag.specs.Nodes.{FitFrom}
use Rattle.word_dag.specs.Given.{AllFit}
use Rattle.cnf_build.specs.Lower.{node_made, lower, lowered, netlist, lits_at, low_of, vars, ob_clauses, ob_bits}
use Rattle.cnf_build.specs.Meaning.{read_word, read_words}
use Rattle.cnf_build.specs.Built.{IsBits}
use Rattle.cnf_build.proofs.Nodes.{length-vars}
use Rattle.cnf_build.proofs.Sound.{lower_sound, netlist_sound, table_at, low_below}
use Rattle.cnf_build.proofs.Root.{read_word-lt}

-- the variables of a word, so far and to come
pub record VarsLoop (list : List ℕ) (start width i : ℕ) : Type 0 where
  pub so_far : list ++ vars (start + i) (width - i) ≡ vars start width

append_nil : {A : Type 0} (xs : List A) → xs ++ [] ≡ xs
append_nil [] = refl
append_nil (x ∷ xs) = ap (λ r. x ∷ r) (append_nil xs)

pub vars_start : (start width : ℕ) → VarsLoop [] start width 0
vars_start start width = record { so_far = ap (λ k. vars k (width - 0)) (omega arith) ∙ ap (vars start) (omega arith) }

pub vars_step : (list more : List ℕ) (start width i : ℕ) → i < width → more ≡ list ++ (start + i) ∷ [] → VarsLoop list start width i → VarsLoop more start width (i + 1)
vars_step list more start width i lt em r =
    let k = width - (i + 1) in
    let e : width - i ≡ suc k = omega arith in
    let n : start + (i + 1) ≡ suc (start + i) = omega arith in
    record { so_far = ap (λ g. g ++ vars (start + (i + 1)) k) em ∙ append_assoc list ((start + i) ∷ []) (vars (start + (i + 1)) k) ∙ ap (λ g. list ++ (start + i) ∷ vars g k) n ∙ sym (ap (λ j. list ++ vars (start + i) j) e) ∙ r.so_far }

pub vars_end : (list : List ℕ) (start width i : ℕ) → width ≤ i → VarsLoop list start width i → list ≡ vars start width
vars_end list start width i le r =
    let e : width - i ≡ 0 = omega arith in
    sym (append_nil list) ∙ sym (ap (λ j. list ++ vars (start + i) j) e) ∙ r.so_far

vars_below : (n w m : ℕ) → n + w ≤ m → All (λ v. v < m) (vars n w)
vars_below n zero m le i d lt = absurd (omega arith)
vars_below n (suc w) m le zero d lt = omega arith
vars_below n (suc w) m le (suc i) d lt = vars_below (suc n) w m (omega arith) i d (omega arith)

AllBits-cons : (m : ℕ) (vs : List ℕ) (fs : List (List ℕ)) → IsBits m vs → All (IsBits m) fs → All (IsBits m) (vs ∷ fs)
AllBits-cons m vs fs a b zero d lt = a
AllBits-cons m vs fs a b (suc i) d lt = b i d (omega arith)

-- the bits of free nodes are below the count of gates
pub frees_in_range : (m n : ℕ) (t : List (List Lit)) (ws : List ℕ) (nodes : List Node) → FitFrom ws nodes → n + length (lower n t nodes).gates ≤ m → All (IsBits m) (lower n t nodes).frees
frees_in_range m n t ws [] f le = λ i d lt. absurd (omega arith)
frees_in_range m n t ws (Free name w side cycle ∷ nodes) f le =
    let made = node_made n t (Free name w side cycle) in
    let rest = lower (n + length made.gates) (t ++ made.lits ∷ []) nodes in
    let long : length made.gates ≡ w = length-replicate w Gates.Free in
    let whole = length-append made.gates rest.gates in
    let wide = length-vars n w in
    AllBits-cons m (vars n w) rest.frees (omega (arith, wide, f.0.0), omega (arith, wide, f.0.1), vars_below n w m (omega (arith, long, whole))) (frees_in_range m (n + length made.gates) (t ++ made.lits ∷ []) (ws ++ w ∷ []) nodes f.1 (omega (arith, whole)))
frees_in_range m n t ws (Const w ∷ nodes) f le =
    let made = node_made n t (Const w) in
    let rest = lower (n + length made.gates) (t ++ made.lits ∷ []) nodes in
    frees_in_range m (n + length made.gates) (t ++ made.lits ∷ []) (ws ++ w.width ∷ []) nodes f.1 (omega (arith, length-append made.gates rest.gates))
frees_in_range m n t ws (Two op w a b ∷ nodes) f le =
    let made = node_made n t (Two op w a b) in
    let rest = lower (n + length made.gates) (t ++ made.lits ∷ []) nodes in
    frees_in_range m (n + length made.gates) (t ++ made.lits ∷ []) (ws ++ w ∷ []) nodes f.1 (omega (arith, length-append made.gates rest.gates))
frees_in_range m n t ws (Not w a ∷ nodes) f le =
    let made = node_made n t (Not w a) in
    let rest = lower (n + length made.gates) (t ++ made.lits ∷ []) nodes in
    frees_in_range m (n + length made.gates) (t ++ made.lits ∷ []) (ws ++ w ∷ []) nodes f.1 (omega (arith, length-append made.gates rest.gates))
frees_in_range m n t ws (Slice w a lo ∷ nodes) f le =
    let made = node_made n t (Slice w a lo) in
    let rest = lower (n + length made.gates) (t ++ made.lits ∷ []) nodes in
    frees_in_range m (n + length made.gates) (t ++ made.lits ∷ []) (ws ++ w ∷ []) nodes f.1 (omega (arith, length-append made.gates rest.gates))
frees_in_range m n t ws (Zext w a ∷ nodes) f le =
    let made = node_made n t (Zext w a) in
    let rest = lower (n + length made.gates) (t ++ made.lits ∷ []) nodes in
    frees_in_range m (n + length made.gates) (t ++ made.lits ∷ []) (ws ++ w ∷ []) nodes f.1 (omega (arith, length-append made.gates rest.gates))
frees_in_range m n t ws (Sext w a ∷ nodes) f le =
    let made = node_made n t (Sext w a) in
    let rest = lower (n + length made.gates) (t ++ made.lits ∷ []) nodes in
    frees_in_range m (n + length made.gates) (t ++ made.lits ∷ []) (ws ++ w ∷ []) nodes f.1 (omega (arith, length-append made.gates rest.gates))
frees_in_range m n t ws (Mux w c a b ∷ nodes) f le =
    let made = node_made n t (Mux w c a b) in
    let rest = lower (n + length made.gates) (t ++ made.lits ∷ []) nodes in
    frees_in_range m (n + length made.gates) (t ++ made.lits ∷ []) (ws ++ w ∷ []) nodes f.1 (omega (arith, length-append made.gates rest.gates))

-- what is read fits the free nodes
pub reads_fit : (s : ℕ → Bool) (n : ℕ) (t : List (List Lit)) (nodes : List Node) → AllFit (read_words s (lower n t nodes).frees) nodes
reads_fit s n t [] = tt
reads_fit s n t (Free name w side cycle ∷ nodes) =
    let made = node_made n t (Free name w side cycle) in
    (subst (λ k. read_word s (vars n w) < 2 ^ k) (length-vars n w) (read_word-lt s (vars n w)), reads_fit s (n + length made.gates) (t ++ made.lits ∷ []) nodes)
reads_fit s n t (Const w ∷ nodes) = let made = node_made n t (Const w) in (tt, reads_fit s (n + length made.gates) (t ++ made.lits ∷ []) nodes)
reads_fit s n t (Two op w a b ∷ nodes) = let made = node_made n t (Two op w a b) in (tt, reads_fit s (n + length made.gates) (t ++ made.lits ∷ []) nodes)
reads_fit s n t (Not w a ∷ nodes) = let made = node_made n t (Not w a) in (tt, reads_fit s (n + length made.gates) (t ++ made.lits ∷ []) nodes)
reads_fit s n t (Slice w a lo ∷ nodes) = let made = node_made n t (Slice w a lo) in (tt, reads_fit s (n + length made.gates) (t ++ made.lits ∷ []) nodes)
reads_fit s n t (Zext w a ∷ nodes) = let made = node_made n t (Zext w a) in (tt, reads_fit s (n + length made.gates) (t ++ made.lits ∷ []) nodes)
reads_fit s n t (Sext w a ∷ nodes) = let made = node_made n t (Sext w a) in (tt, reads_fit s (n + length made.gates) (t ++ made.lits ∷ []) nodes)
reads_fit s n t (Mux w c a b ∷ nodes) = let made = node_made n t (Mux w c a b) in (tt, reads_fit s (n + length made.gates) (t ++ made.lits ∷ []) nodes)

-- the clauses speak of the gates' variables alone
pub ob_clauses_in_range : (nodes : List Node) (root : ℕ) → All (IsInRange (length (netlist nodes))) (ob_clauses nodes root)
ob_clauses_in_range nodes root =
    let m = length (netlist nodes) in
    let table = (lower_sound 1 [] nodes (omega arith) tt).1 in
    let e : 1 + length (lowered nodes).gates ≡ m = omega arith in
    let lits = lits_at (lowered nodes).table root in
    let low = subst (λ k. Below k (low_of lits ∷ [])) e (low_below (1 + length (lowered nodes).gates) lits (omega arith) (table_at (1 + length (lowered nodes).gates) (lowered nodes).table root table), tt) in
    in_range m (ob_clauses nodes root) (AllBelow-append m (clauses_from 0 (netlist nodes)) ((low_of lits ∷ []) ∷ []) (subst (λ k. AllBelow k (clauses_from 0 (netlist nodes))) (omega arith) (clauses_below 0 (netlist nodes) (netlist_sound nodes))) (low, tt))

pub bits_in_range : (nodes : List Node) → FitFrom [] nodes → All (IsBits (length (netlist nodes))) (ob_bits nodes)
bits_in_range nodes f = frees_in_range (length (netlist nodes)) 1 [] [] nodes f (omega arith)

pub cnf_in_range : (nodes : List Node) (root vars' : ℕ) (clauses : List (List Lit)) → clauses ≡ ob_clauses nodes root → vars' ≡ length (netlist nodes) → All (IsInRange vars') clauses
cnf_in_range nodes root vars' clauses ec ev = rw (ec, ev) (ob_clauses_in_range nodes root)

pub built_in_range : (nodes : List Node) (vars' : ℕ) (bits : List (List ℕ)) → FitFrom [] nodes → bits ≡ ob_bits nodes → vars' ≡ length (netlist nodes) → All (IsBits vars') bits
built_in_range nodes vars' bits f eb ev = rw (eb, ev) (bits_in_range nodes f)
