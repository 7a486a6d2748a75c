-- The loop over nodes.
use Rattle.std.proofs.Common.{◌≡◌, ℕ, zero, suc, ◌+◌, ◌<◌, ◌≤◌, true, List, [], ◌∷◌, ◌++◌, length, drop, get_or, refl, sym, ap, ◌∙◌, subst, arith, add-one, append_assoc, length-append}
use Rattle.std.specs.Prelude.{map, slice_index}
use Rattle.std.proofs.Math.Seq.{drop-cons}
use Rattle.clause_check.specs.declared.literal.Lit.{Lit}
use Rattle.cnf_build.specs.declared.gates.Gate.{Gate}
use Rattle.cnf_build.specs.declared.gates.Gate.TheVariants as Gates
use Rattle.cnf_build.specs.Building.{Makes}
use Rattle.word_dag.specs.declared.node.Op.{Op}
use Rattle.word_dag.specs.declared.node.Op.TheVariants.{Add, Sub, Mul, And, Or, Xor, Shl, Shr, Sar, Ult, Slt, Eq, Concat}
use Rattle.word_dag.specs.declared.node.Node.{Node}
use Rattle.word_dag.specs.declared.node.Node.TheVariants.{Free, Const, Two, Not, Slice, Zext, Sext, Mux}
use Rattle.word_dag.specs.Nodes.{FitsNode, FitFrom, FitsOp, width_of}
use Rattle.cnf_build.specs.Lower.{node_made, lower, lowered, netlist, free_vars, ob_bits}
use Rattle.cnf_build.specs.Table.{AllShort}
use Rattle.cnf_build.proofs.Nodes.{Filled, filled_push, length-node_made, map_push}
use Rattle.cnf_build.proofs.Table.{width_at-table, short_at}

short_push : (t : List (List Lit)) (ls : List Lit) → AllShort t → length ls ≤ 64 → AllShort (t ++ ls ∷ [])
short_push [] ls s p = (p, tt)
short_push (m ∷ t) ls s p = (s.0, short_push t ls s.1 p)

op_short : (op : Op) (w a b : ℕ) → a ≤ 64 → FitsOp op w a b → w ≤ 64
op_short Add w a b p f = omega (arith, f.0)
op_short Sub w a b p f = omega (arith, f.0)
op_short Mul w a b p f = omega (arith, f.0)
op_short And w a b p f = omega (arith, f.0)
op_short Or w a b p f = omega (arith, f.0)
op_short Xor w a b p f = omega (arith, f.0)
op_short Shl w a b p f = omega (arith, f)
op_short Shr w a b p f = omega (arith, f)
op_short Sar w a b p f = omega (arith, f)
op_short Ult w a b p f = omega (arith, f.0)
op_short Slt w a b p f = omega (arith, f.0)
op_short Eq w a b p f = omega (arith, f.0)
op_short Concat w a b p f = f.1

node_short : (t : List (List Lit)) (n : Node) → AllShort t → FitsNode (map length t) n → width_of n ≤ 64
node_short t (Free name w side cycle) s f = f.1
node_short t (Const w) s f = f.most
node_short t (Two op w a b) s f = op_short op w (slice_index (map length t) a) (slice_index (map length t) b) (omega (arith, width_at-table t a, short_at t a s)) f.2
node_short t (Not w a) s f = omega (arith, width_at-table t a, short_at t a s, f.1)
node_short t (Slice w a lo) s f = omega (arith, width_at-table t a, short_at t a s, f.2)
node_short t (Zext w a) s f = f.2
node_short t (Sext w a) s f = f.2
node_short t (Mux w c a b) s f = omega (arith, width_at-table t a, short_at t a s, f.4)

-- what stands, and what the nodes that are left make
pub record LowerLoop (gates : List Gate) (table : List (List Lit)) (bits : List (List ℕ)) (nodes : List Node) (i : ℕ) : Type 0 where
  pub gates_so_far : gates ++ (lower (length gates) table (drop i nodes)).gates ≡ netlist nodes
  pub table_so_far : (lower (length gates) table (drop i nodes)).table ≡ (lowered nodes).table
  pub bits_so_far : bits ++ (lower (length gates) table (drop i nodes)).frees ≡ ob_bits nodes
  pub fit : FitFrom (map length table) (drop i nodes)
  pub short : AllShort table
  pub filled : Filled table

drop_at : (nodes : List Node) (i : ℕ) (n : Node) → i < length nodes → n ≡ get_or nodes i n → drop i nodes ≡ n ∷ drop (i + 1) nodes
drop_at nodes i n lt e = rw add-one (drop-cons nodes i n lt ∙ ap (λ k. k ∷ drop (suc i) nodes) (sym e))

pub lower_fits : (gates : List Gate) (table : List (List Lit)) (bits : List (List ℕ)) (nodes : List Node) (i : ℕ) (n : Node) → i < length nodes → n ≡ get_or nodes i n → LowerLoop gates table bits nodes i → FitsNode (map length table) n × AllShort table
lower_fits gates table bits nodes i n lt e r = ((subst (λ k. FitFrom (map length table) k) (drop_at nodes i n lt e) r.fit).0, r.short)

pub lower_step : (gates more : List Gate) (table : List (List Lit)) (bits more_bits : List (List ℕ)) (nodes : List Node) (i : ℕ) (n : Node) (lits : List Lit) → i < length nodes → n ≡ get_or nodes i n → Makes gates more lits (node_made (length gates) table n) → more_bits ≡ bits ++ free_vars (length gates) n → LowerLoop gates table bits nodes i → LowerLoop more (table ++ lits ∷ []) more_bits nodes (i + 1)
lower_step gates more table bits more_bits nodes i n lits lt e made eb r =
    let rest = drop (i + 1) nodes in
    let at = drop_at nodes i n lt e in
    let m = node_made (length gates) table n in
    let fit = subst (λ k. FitFrom (map length table) k) at r.fit in
    let long = length-node_made (λ v. true) refl table r.filled (length gates) n fit.0 in
    let long' : length lits ≡ width_of n = ap length made.lits_are ∙ long.0 in
    let count : length more ≡ length gates + length m.gates = omega (arith, ap length made.gates, length-append gates m.gates) in
    let later = lower (length gates + length m.gates) (table ++ m.lits ∷ []) rest in
    let after : lower (length more) (table ++ lits ∷ []) rest ≡ later = ap (λ k. lower k (table ++ lits ∷ []) rest) count ∙ ap (λ k. lower (length gates + length m.gates) (table ++ k ∷ []) rest) made.lits_are in
    let widths : map length (table ++ lits ∷ []) ≡ map length table ++ width_of n ∷ [] = map_push length table lits ∙ ap (λ k. map length table ++ k ∷ []) long' in
    record {
      gates_so_far = ap (λ k. more ++ k.gates) after ∙ ap (λ k. k ++ later.gates) made.gates ∙ append_assoc gates m.gates later.gates ∙ sym (ap (λ k. gates ++ (lower (length gates) table k).gates) at) ∙ r.gates_so_far;
      table_so_far = ap (λ k. k.table) after ∙ sym (ap (λ k. (lower (length gates) table k).table) at) ∙ r.table_so_far;
      bits_so_far = ap (λ k. more_bits ++ k.frees) after ∙ ap (λ k. k ++ later.frees) eb ∙ append_assoc bits (free_vars (length gates) n) later.frees ∙ sym (ap (λ k. bits ++ (lower (length gates) table k).frees) at) ∙ r.bits_so_far;
      fit = subst (λ k. FitFrom k rest) (sym widths) fit.1;
      short = short_push table lits r.short (omega (arith, long', node_short table n r.short fit.0));
      filled = filled_push table lits r.filled (omega (arith, long', long.1));
    }

drop_all : (nodes : List Node) (i : ℕ) → length nodes ≤ i → drop i nodes ≡ []
drop_all [] zero le = refl
drop_all [] (suc i) le = refl
drop_all (x ∷ xs) zero le = absurd (omega arith)
drop_all (x ∷ xs) (suc i) le = drop_all xs i (omega arith)

append_nil : {A : Type 0} (gs : List A) → gs ++ [] ≡ gs
append_nil [] = refl
append_nil (g ∷ gs) = ap (λ r. g ∷ r) (append_nil gs)

pub lower_end : (gates : List Gate) (table : List (List Lit)) (bits : List (List ℕ)) (nodes : List Node) (i : ℕ) → length nodes ≤ i → LowerLoop gates table bits nodes i → (gates ≡ netlist nodes) × (table ≡ (lowered nodes).table) × (bits ≡ ob_bits nodes)
lower_end gates table bits nodes i le r =
    let none = drop_all nodes i le in
    (sym (append_nil gates) ∙ sym (ap (λ k. gates ++ (lower (length gates) table k).gates) none) ∙ r.gates_so_far, sym (ap (λ k. (lower (length gates) table k).table) none) ∙ r.table_so_far, sym (append_nil bits) ∙ sym (ap (λ k. bits ++ (lower (length gates) table k).frees) none) ∙ r.bits_so_far)

pub lower_start : (gates : List Gate) (nodes : List Node) → gates ≡ Gates.True ∷ [] → FitFrom [] nodes → LowerLoop gates [] [] nodes 0
lower_start gates nodes e fit = rw e (record { gates_so_far = refl; table_so_far = refl; bits_so_far = refl; fit = fit; short = tt; filled = tt })

pub length-lower : (n : ℕ) (t : List (List Lit)) (nodes : List Node) → length (lower n t nodes).table ≡ length t + length nodes
length-lower n t [] = omega arith
length-lower n t (node ∷ nodes) =
    let m = node_made n t node in
    omega (arith, length-lower (n + length m.gates) (t ++ m.lits ∷ []) nodes, length-append t (m.lits ∷ []))
