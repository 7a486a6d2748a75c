-- The netlist of an obligation reads earlier variables alone.
use Rattle.std.proofs.Common.{◌≡◌, ℕ, zero, suc, ◌+◌, ◌-◌, ◌<◌, ◌≤◌, List, [], ◌∷◌, ◌++◌, length, take, drop, subst, arith, length-append}
use Rattle.std.specs.Prelude.{map, replicate}
use Rattle.clause_check.specs.declared.literal.Lit.{Lit}
use Rattle.clause_check.specs.Clauses.{negated}
use Rattle.cnf_build.specs.declared.gates.Gate.TheVariants as Gates
use Rattle.cnf_build.specs.Gates.{IsNet, Below}
use Rattle.cnf_build.specs.Circuits.{true_lit, false_lit, row_lits, zip_gates, nor_gate, moved_up, moved_down, top_of, top_turned, const_lits}
use Rattle.cnf_build.proofs.Nets.{Below-more, Below-append, Below-take, Below-drop, Below-replicate, Below-negated, Below-const, Below-top, Below-turned, Below-row, Below-moved_up, Below-moved_down, IsNet-append, IsNet-frees, IsNet-zip, IsNet-mux, IsSound, adder_sound, equal_sound, product_sound, shifter_sound}
use Rattle.word_dag.specs.declared.node.Op.{Op}
use Rattle.word_dag.specs.declared.node.Op.TheVariants.{Add, Sub, Mul, And, Or, Xor, Shl, Shr, Sar, Ult, Slt, Eq, Concat}
use Rattle.word_dag.specs.declared.node.Node.{Node}
use Rattle.word_dag.specs.declared.node.Node.TheVariants.{Free, Const, Two, Not, Slice, Zext, Sext, Mux}
use Rattle.cnf_build.specs.Lower.{op_made, node_made, lits_at, low_of, lower, netlist}

-- no gates, and literals that are there
wired_sound : (n : ℕ) (ls : List Lit) → Below n ls → IsSound n [] ls
wired_sound n ls b = record { net = tt; below = Below-more n (n + 0) ls (omega arith) b }

op_sound : (n : ℕ) (op : Op) (xs ys : List Lit) → 0 < n → Below n xs → Below n ys → IsSound n (op_made n op xs ys).gates (op_made n op xs ys).lits
op_sound n Add xs ys p bx by = let r = adder_sound n false_lit xs ys p bx by in record { net = r.net; below = r.below.1 }
op_sound n Sub xs ys p bx by =
    let r = adder_sound n true_lit xs (map negated ys) p bx (Below-negated n ys by) in
    record { net = r.net; below = r.below.1 }
op_sound n Mul xs ys p bx by =
    product_sound n (replicate (length xs) false_lit) xs ys p (Below-replicate n (length xs) false_lit p) bx by
op_sound n And xs ys p bx by =
    record { net = IsNet-zip Gates.And (λ k a b q r. (q, r)) n n xs ys (omega arith) bx by; below = Below-row n (zip_gates Gates.And xs ys) }
op_sound n Or xs ys p bx by =
    let gs = zip_gates nor_gate xs ys in
    record { net = IsNet-zip nor_gate (λ k a b q r. (q, r)) n n xs ys (omega arith) bx by; below = Below-negated (n + length gs) (row_lits n gs) (Below-row n gs) }
op_sound n Xor xs ys p bx by =
    record { net = IsNet-zip Gates.Xor (λ k a b q r. (q, r)) n n xs ys (omega arith) bx by; below = Below-row n (zip_gates Gates.Xor xs ys) }
op_sound n Shl xs ys p bx by =
    shifter_sound moved_up 1 (λ j k ls le b. Below-moved_up k j ls le b) n 1 xs ys p bx by
op_sound n Shr xs ys p bx by =
    shifter_sound (λ j. moved_down j false_lit) 1 (λ j k ls le b. Below-moved_down k j false_lit ls le b) n 1 xs ys p bx by
op_sound n Sar xs ys p bx by =
    let top = Below-top n xs p bx in
    shifter_sound (λ j. moved_down j (top_of xs)) n (λ j k ls le b. Below-moved_down k j (top_of xs) ls (omega arith) b) n 1 xs ys (omega arith) bx by
op_sound n Ult xs ys p bx by =
    let r = adder_sound n true_lit xs (map negated ys) p bx (Below-negated n ys by) in
    record { net = r.net; below = (r.below.0, tt) }
op_sound n Slt xs ys p bx by =
    let r = adder_sound n true_lit (top_turned xs) (map negated (top_turned ys)) p (Below-turned n xs bx) (Below-negated n (top_turned ys) (Below-turned n ys by)) in
    record { net = r.net; below = (r.below.0, tt) }
op_sound n Eq xs ys p bx by = equal_sound n true_lit xs ys p bx by
op_sound n Concat xs ys p bx by = wired_sound n (ys ++ xs) (Below-append n ys xs by bx)

-- a table of literals below n
abbrev pub TableBelow : ℕ → List (List Lit) → Type 0
TableBelow n [] = Unit {0}
TableBelow n (ls ∷ t) = Below n ls × TableBelow n t

table_more : (k m : ℕ) (t : List (List Lit)) → k ≤ m → TableBelow k t → TableBelow m t
table_more k m [] le b = tt
table_more k m (ls ∷ t) le b = (Below-more k m ls le b.0, table_more k m t le b.1)

table_push : (k : ℕ) (t : List (List Lit)) (ls : List Lit) → TableBelow k t → Below k ls → TableBelow k (t ++ ls ∷ [])
table_push k [] ls b c = (c, tt)
table_push k (m ∷ t) ls b c = (b.0, table_push k t ls b.1 c)

pub table_at : (k : ℕ) (t : List (List Lit)) (i : ℕ) → TableBelow k t → Below k (lits_at t i)
table_at k [] i b = tt
table_at k (ls ∷ t) zero b = b.0
table_at k (ls ∷ t) (suc i) b = table_at k t i b.1

pub low_below : (k : ℕ) (ls : List Lit) → 0 < k → Below k ls → (low_of ls).var < k
low_below k [] p b = p
low_below k (l ∷ ls) p b = b.0

node_sound : (n : ℕ) (t : List (List Lit)) (node : Node) → 0 < n → TableBelow n t → IsSound n (node_made n t node).gates (node_made n t node).lits
node_sound n t (Free name w side cycle) p b = record { net = IsNet-frees n w; below = Below-row n (replicate w Gates.Free) }
node_sound n t (Const w) p b = wired_sound n (const_lits w.width w.value) (Below-const n w.width w.value p)
node_sound n t (Two op w x y) p b = op_sound n op (lits_at t x) (lits_at t y) p (table_at n t x b) (table_at n t y b)
node_sound n t (Not w x) p b = wired_sound n (map negated (lits_at t x)) (Below-negated n (lits_at t x) (table_at n t x b))
node_sound n t (Slice w x lo) p b = wired_sound n (take w (drop lo (lits_at t x))) (Below-take n w (drop lo (lits_at t x)) (Below-drop n lo (lits_at t x) (table_at n t x b)))
node_sound n t (Zext w x) p b =
    let xs = lits_at t x in
    wired_sound n (xs ++ replicate (w - length xs) false_lit) (Below-append n xs (replicate (w - length xs) false_lit) (table_at n t x b) (Below-replicate n (w - length xs) false_lit p))
node_sound n t (Sext w x) p b =
    let xs = lits_at t x in
    wired_sound n (xs ++ replicate (w - length xs) (top_of xs)) (Below-append n xs (replicate (w - length xs) (top_of xs)) (table_at n t x b) (Below-replicate n (w - length xs) (top_of xs) (Below-top n xs p (table_at n t x b))))
node_sound n t (Mux w c x y) p b =
    let l = low_of (lits_at t c) in
    record { net = IsNet-mux l n n (lits_at t x) (lits_at t y) (omega arith) (low_below n (lits_at t c) p (table_at n t c b)) (table_at n t x b) (table_at n t y b); below = Below-row n (zip_gates (Gates.Mux l) (lits_at t x) (lits_at t y)) }

pub lower_sound : (n : ℕ) (t : List (List Lit)) (nodes : List Node) → 0 < n → TableBelow n t → IsNet n (lower n t nodes).gates × TableBelow (n + length (lower n t nodes).gates) (lower n t nodes).table
lower_sound n t [] p b = (tt, table_more n (n + 0) t (omega arith) b)
lower_sound n t (node ∷ nodes) p b =
    let m = node_made n t node in
    let n' = n + length m.gates in
    let rest = lower n' (t ++ m.lits ∷ []) nodes in
    let here = node_sound n t node p b in
    let later = lower_sound n' (t ++ m.lits ∷ []) nodes (omega arith) (table_push n' t m.lits (table_more n n' t (omega arith) b) here.below) in
    let e : n' + length rest.gates ≡ n + length (m.gates ++ rest.gates) = omega (arith, length-append m.gates rest.gates) in
    (IsNet-append n m.gates rest.gates here.net later.0, subst (λ k. TableBelow k rest.table) e later.1)

pub netlist_sound : (nodes : List Node) → IsNet 0 (netlist nodes)
netlist_sound nodes = (tt, (lower_sound 1 [] nodes (omega arith) tt).0)
