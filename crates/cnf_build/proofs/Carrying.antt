-- An assignment that meets the clauses is carried to values, and values to an assignment.
use Rattle.std.proofs.Common.{◌%◌, ◌^◌, Some, zero-add, ◌≡◌, ℕ, Bool, List, [], refl, sym, ap, ◌∙◌, subst, arith, ◌++◌, ◌∷◌, length, take, suc, zero, ◌+◌, ◌<◌, get_or}
use Rattle.clause_check.specs.declared.literal.Lit.{Lit}
use Rattle.cnf_build.proofs.Exists.{run_exists}
use Rattle.word_dag.specs.declared.node.Node.{Node}
use Rattle.word_dag.specs.declared.node.Node.TheVariants.{Free, Const, Two, Not, Slice, Zext, Sext, Mux}
use Rattle.word_dag.specs.Given.{AllFit, free_count}
use Rattle.clause_check.specs.declared.formula.Cnf.{Cnf}
use Rattle.clause_check.specs.Derivations.{Satisfies}
use Rattle.std.specs.List.{All}
use Rattle.std.specs.Prelude.{slice_get}
use Rattle.std.proofs.Math.Nat.{mod-eq_of_lt}
use Rattle.word_dag.specs.Nodes.{IsOb}
use Rattle.cnf_build.specs.Lower.{node_made, lower, vars, netlist, ob_clauses, ob_bits}
use Rattle.cnf_build.specs.Meaning.{read_word, read_words, RootIs1}
use Rattle.cnf_build.specs.Built.{Carries, Shows, at}
use Rattle.cnf_build.proofs.Root.{clauses_read, run_meets}
use Rattle.cnf_build.proofs.Sound.{netlist_sound}
use Rattle.cnf_build.proofs.Choice.{chosen_of, follows_agree}
use Rattle.cnf_build.proofs.BitLists.{reads_fit, ob_clauses_in_range, bits_in_range}
use Rattle.cnf_build.proofs.Bridging.{all_true, all_shown, words_read, values_from, length-values_from, values_from_at}
use Rattle.cnf_build.proofs.Nodes.{Agree, length-vars}

-- variables that agree with values that fit read as these values
reads_same : (s : ℕ → Bool) (n : ℕ) (t : List (List Lit)) (us : List ℕ) (nodes : List Node) → Agree s (lower n t nodes).frees us → AllFit us nodes → length us ≡ free_count nodes → read_words s (lower n t nodes).frees ≡ us
reads_same s n t [] [] a f e = refl
reads_same s n t (u ∷ us) [] a f e = absurd (omega arith)
reads_same s n t [] (Free name w side cycle ∷ nodes) a f e = absurd (omega arith)
reads_same s n t (u ∷ us) (Free name w side cycle ∷ nodes) a f e =
    let m = node_made n t (Free name w side cycle) in
    let here : read_word s (vars n w) ≡ u = a.0 ∙ ap (λ k. u % 2 ^ k) (length-vars n w) ∙ mod-eq_of_lt f.0 in
    ap (λ k. k ∷ read_words s (lower (n + length m.gates) (t ++ m.lits ∷ []) nodes).frees) here ∙ ap (λ k. u ∷ k) (reads_same s (n + length m.gates) (t ++ m.lits ∷ []) us nodes a.1 f.1 (omega arith))
reads_same s n t us (Const w ∷ nodes) a f e =
    let m = node_made n t (Const w) in
    reads_same s (n + length m.gates) (t ++ m.lits ∷ []) us nodes a f.1 e
reads_same s n t us (Two op w x y ∷ nodes) a f e =
    let m = node_made n t (Two op w x y) in
    reads_same s (n + length m.gates) (t ++ m.lits ∷ []) us nodes a f.1 e
reads_same s n t us (Not w x ∷ nodes) a f e =
    let m = node_made n t (Not w x) in
    reads_same s (n + length m.gates) (t ++ m.lits ∷ []) us nodes a f.1 e
reads_same s n t us (Slice w x lo ∷ nodes) a f e =
    let m = node_made n t (Slice w x lo) in
    reads_same s (n + length m.gates) (t ++ m.lits ∷ []) us nodes a f.1 e
reads_same s n t us (Zext w x ∷ nodes) a f e =
    let m = node_made n t (Zext w x) in
    reads_same s (n + length m.gates) (t ++ m.lits ∷ []) us nodes a f.1 e
reads_same s n t us (Sext w x ∷ nodes) a f e =
    let m = node_made n t (Sext w x) in
    reads_same s (n + length m.gates) (t ++ m.lits ∷ []) us nodes a f.1 e
reads_same s n t us (Mux w c x y ∷ nodes) a f e =
    let m = node_made n t (Mux w c x y) in
    reads_same s (n + length m.gates) (t ++ m.lits ∷ []) us nodes a f.1 e

-- values at which the root is 1 give an assignment that holds and has them
shown : (nodes : List Node) (root : ℕ) (cnf : Cnf) (bits : List (List ℕ)) → IsOb nodes root → cnf.clauses ≡ ob_clauses nodes root → cnf.vars ≡ length (netlist nodes) → bits ≡ ob_bits nodes → (us : List ℕ) → RootIs1 nodes root us → (a : List Bool) × Shows nodes cnf bits us a
shown nodes root cnf bits ob ec ev eb us one =
    let chosen = chosen_of (ob_bits nodes) us in
    let run = run_exists chosen (netlist nodes) (netlist_sound nodes) in
    let s = run.0 in
    let agree = follows_agree s chosen 1 [] us nodes (λ v le. refl) run.1.1.1 in
    let vars = length (netlist nodes) in
    let a = values_from s 0 vars in
    let is : (v : ℕ) → v < vars → slice_get a v ≡ Some (s v) = λ v lt. values_from_at s 0 vars v lt ∙ ap (λ k. Some (s k)) (zero-add v) in
    let true_there = run_meets nodes root ob s us run.1.0 agree one in
    let each : All (Satisfies a) (ob_clauses nodes root) = all_shown a s vars is (ob_clauses nodes root) (ob_clauses_in_range nodes root) true_there in (
      a,
      record {
        holds = record { whole = length-values_from s 0 vars ∙ sym ev; each = subst (λ cs. All (Satisfies a) cs) (sym ec) each };
        reads = λ fit long. ap (read_words (at a)) eb ∙ words_read a s vars is (ob_bits nodes) (bits_in_range nodes ob.fit) ∙ reads_same s 1 [] us nodes agree fit long;
      },
    )

pub carries : (nodes : List Node) (root : ℕ) (cnf : Cnf) (bits : List (List ℕ)) → IsOb nodes root → cnf.clauses ≡ ob_clauses nodes root → cnf.vars ≡ length (netlist nodes) → bits ≡ ob_bits nodes → Carries nodes root cnf bits
carries nodes root cnf bits ob ec ev eb = record {
  to_values = λ a h.
      subst (λ fs. RootIs1 nodes root (read_words (at a) fs)) (sym eb) (clauses_read nodes root ob (at a) (all_true a (ob_clauses nodes root) (subst (λ cs. All (Satisfies a) cs) ec h.each)));
  values_fit = λ a. subst (λ fs. AllFit (read_words (at a) fs) nodes) (sym eb) (reads_fit (at a) 1 [] nodes);
  from_values = shown nodes root cnf bits ob ec ev eb;
}

-- the words that were read so far
pub reads_step : (s : ℕ → Bool) (fs : List (List ℕ)) (i : ℕ) (vs d : List ℕ) → i < length fs → vs ≡ get_or fs i d → read_words s (take (i + 1) fs) ≡ read_words s (take i fs) ++ read_word s vs ∷ []
reads_step s [] i vs d lt e = absurd (omega arith)
reads_step s (f ∷ fs) zero vs d lt e = let one : 0 + 1 ≡ suc 0 = omega arith in ap (λ k. read_words s (take k (f ∷ fs))) one ∙ ap (λ k. read_word s k ∷ []) (sym e)
reads_step s (f ∷ fs) (suc i) vs d lt e =
    let next : suc i + 1 ≡ suc (i + 1) = omega arith in
    ap (λ k. read_words s (take k (f ∷ fs))) next ∙ ap (λ r. read_word s f ∷ r) (reads_step s fs i vs d (omega arith) e)
