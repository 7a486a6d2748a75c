-- The values of a dag's nodes, one after the other.
use Rattle.std.proofs.Common.{◌≡◌, ℕ, zero, suc, ◌+◌, ◌<◌, List, [], ◌∷◌, ◌++◌, length, get_or, refl, sym, ap, ◌∙◌, subst, arith, length-append, append_assoc, take, length-take-le}
use Rattle.std.specs.Prelude.{slice_index, if◌then◌else◌, ◌==◌, map}
use Rattle.word_core.specs.Words.{Bits, not_of, slice_of, zext_of, sext_of}
use Rattle.word_dag.specs.declared.node.Node.{Node}
use Rattle.word_dag.specs.declared.node.Node.TheVariants.{Free, Const, Two, Not, Slice, Zext, Sext, Mux}
use Rattle.word_dag.specs.Nodes.{FitsNode, FitFrom, FitsOp, width_of, width_at, node_value, op_value, word_at, Naming, named, dag_values}
use Rattle.word_dag.specs.Walks.{operands, renumbered, Each}

-- the operands of a node that fits come before it
pub operands_below : (ws : List ℕ) (n : Node) → FitsNode ws n → Each (λ a. a < length ws) (operands n)
operands_below ws (Free name w side cycle) f = tt
operands_below ws (Const w) f = tt
operands_below ws (Two op w a b) f = (f.0, (f.1, tt))
operands_below ws (Not w a) f = (f.0, tt)
operands_below ws (Slice w a lo) f = (f.0, tt)
operands_below ws (Zext w a) f = (f.0, tt)
operands_below ws (Sext w a) f = (f.0, tt)
operands_below ws (Mux w c a b) f = (f.0, (f.1, (f.2, tt)))

pub Each-map : (P Q : ℕ → Type 0) (xs : List ℕ) → ((x : ℕ) → P x → Q x) → Each P xs → Each Q xs
Each-map P Q [] h e = tt
Each-map P Q (x ∷ xs) h e = (h x e.0, Each-map P Q xs h e.1)

pub Each-both : (P Q : ℕ → Type 0) (xs : List ℕ) → Each P xs → Each Q xs → Each (λ x. P x × Q x) xs
Each-both P Q [] e f = tt
Each-both P Q (x ∷ xs) e f = ((e.0, f.0), Each-both P Q xs e.1 f.1)

-- a node under other numbers, among words that are the same there, has the same word
pub renumbered_value : (e : Naming) (vs ds : List Bits) (f : ℕ → ℕ) (n : Node) → Each (λ a. word_at vs (f a) ≡ word_at ds a) (operands n) → node_value (named e (renumbered f n)) vs (renumbered f n) ≡ node_value (named e n) ds n
renumbered_value e vs ds f (Free name w side cycle) h = refl
renumbered_value e vs ds f (Const w) h = refl
renumbered_value e vs ds f (Two op w a b) h = ap (λ k. op_value op k (word_at vs (f b))) h.0 ∙ ap (λ k. op_value op (word_at ds a) k) h.1.0
renumbered_value e vs ds f (Not w a) h = ap not_of h.0
renumbered_value e vs ds f (Slice w a lo) h = ap (λ k. slice_of k lo w) h.0
renumbered_value e vs ds f (Zext w a) h = ap (λ k. zext_of k w) h.0
renumbered_value e vs ds f (Sext w a) h = ap (λ k. sext_of k w) h.0
renumbered_value e vs ds f (Mux w c a b) h =
    ap (λ k. if k.value == 1 then word_at vs (f a) else word_at vs (f b)) h.0 ∙ ap (λ k. if (word_at ds c).value == 1 then k else word_at vs (f b)) h.1.0 ∙ ap (λ k. if (word_at ds c).value == 1 then word_at ds a else k) h.1.1.0

pub same_number : (n : Node) → renumbered (λ a. a) n ≡ n
same_number (Free name w side cycle) = refl
same_number (Const w) = refl
same_number (Two op w a b) = refl
same_number (Not w a) = refl
same_number (Slice w a lo) = refl
same_number (Zext w a) = refl
same_number (Sext w a) = refl
same_number (Mux w c a b) = refl

-- and it fits
pub renumbered_fits : (ws us : List ℕ) (f : ℕ → ℕ) (n : Node) → Each (λ a. (f a < length us) × (slice_index us (f a) ≡ slice_index ws a)) (operands n) → FitsNode ws n → FitsNode us (renumbered f n)
renumbered_fits ws us f (Free name w side cycle) h t = t
renumbered_fits ws us f (Const w) h t = t
renumbered_fits ws us f (Two op w a b) h t =
    (h.0.0, h.1.0.0, subst (λ k. FitsOp op w k (slice_index us (f b))) (sym h.0.1) (subst (λ k. FitsOp op w (slice_index ws a) k) (sym h.1.0.1) t.2))
renumbered_fits ws us f (Not w a) h t = (h.0.0, h.0.1 ∙ t.1)
renumbered_fits ws us f (Slice w a lo) h t = (h.0.0, t.1, omega (arith, t.2, h.0.1))
renumbered_fits ws us f (Zext w a) h t = (h.0.0, omega (arith, t.1, h.0.1), t.2)
renumbered_fits ws us f (Sext w a) h t = (h.0.0, omega (arith, t.1, h.0.1), t.2)
renumbered_fits ws us f (Mux w c a b) h t = (h.0.0, h.1.0.0, h.1.1.0.0, h.0.1 ∙ t.3, h.1.0.1 ∙ t.4, h.1.1.0.1 ∙ t.5)

pub width_renumbered : (f : ℕ → ℕ) (n : Node) → width_of (renumbered f n) ≡ width_of n
width_renumbered f (Free name w side cycle) = refl
width_renumbered f (Const w) = refl
width_renumbered f (Two op w a b) = refl
width_renumbered f (Not w a) = refl
width_renumbered f (Slice w a lo) = refl
width_renumbered f (Zext w a) = refl
width_renumbered f (Sext w a) = refl
width_renumbered f (Mux w c a b) = refl

pub word_at-front : (vs us : List Bits) (i : ℕ) → i < length vs → word_at (vs ++ us) i ≡ word_at vs i
word_at-front [] us i lt = absurd (omega arith)
word_at-front (v ∷ vs) us zero lt = refl
word_at-front (v ∷ vs) us (suc i) lt = word_at-front vs us i (omega arith)

pub word_at-last : (vs : List Bits) (w : Bits) → word_at (vs ++ w ∷ []) (length vs) ≡ w
word_at-last [] w = refl
word_at-last (v ∷ vs) w = word_at-last vs w

pub dag_values-push : (e : Naming) (vs : List Bits) (ns : List Node) (n : Node) → dag_values e vs (ns ++ n ∷ []) ≡ dag_values e vs ns ++ node_value (named e n) (dag_values e vs ns) n ∷ []
dag_values-push e vs [] n = refl
dag_values-push e vs (m ∷ ns) n = dag_values-push e (vs ++ node_value (named e m) vs m ∷ []) ns n

pub length-dag_values : (e : Naming) (vs : List Bits) (ns : List Node) → length (dag_values e vs ns) ≡ length vs + length ns
length-dag_values e vs [] = omega arith
length-dag_values e vs (n ∷ ns) =
    let w = node_value (named e n) vs n in
    omega (arith, length-dag_values e (vs ++ w ∷ []) ns, length-append vs (w ∷ []))

values_front : (e : Naming) (vs : List Bits) (ns : List Node) (i : ℕ) → i < length vs → word_at (dag_values e vs ns) i ≡ word_at vs i
values_front e vs [] i lt = refl
values_front e vs (n ∷ ns) i lt =
    let w = node_value (named e n) vs n in
    values_front e (vs ++ w ∷ []) ns i (omega (arith, length-append vs (w ∷ []))) ∙ word_at-front vs (w ∷ []) i lt

-- each node's value is made of its operands' values
pub value_equation : (e : Naming) (ws : List ℕ) (vs : List Bits) (ns : List Node) (j : ℕ) (n : Node) → length ws ≡ length vs → FitFrom ws ns → j < length ns → n ≡ get_or ns j n → word_at (dag_values e vs ns) (length vs + j) ≡ node_value (named e n) (dag_values e vs ns) n
value_equation e ws vs [] j n long fit lt at = absurd (omega arith)
value_equation e ws vs (m ∷ ns) zero n long fit lt at =
    let w = node_value (named e m) vs m in
    let vs' = vs ++ w ∷ [] in
    let all = dag_values e vs' ns in
    let more : length vs < length vs' = omega (arith, length-append vs (w ∷ [])) in
    let here : word_at all (length vs + 0) ≡ w = ap (word_at all) (omega arith) ∙ values_front e vs' ns (length vs) more ∙ word_at-last vs w in
    let before = Each-map (λ a. a < length ws) (λ a. word_at all a ≡ word_at vs a) (operands m) (λ a p. values_front e vs' ns a (omega arith) ∙ word_at-front vs (w ∷ []) a (omega arith)) (operands_below ws m fit.0) in
    let same : node_value (named e m) all m ≡ w = ap (λ k. node_value (named e k) all k) (sym (same_number m)) ∙ renumbered_value e all vs (λ a. a) m before in
    here ∙ sym same ∙ ap (λ k. node_value (named e k) all k) (sym at)
value_equation e ws vs (m ∷ ns) (suc j) n long fit lt at =
    let w = node_value (named e m) vs m in
    let vs' = vs ++ w ∷ [] in
    let next : length vs + suc j ≡ length vs' + j = omega (arith, length-append vs (w ∷ [])) in
    let long' : length (ws ++ width_of m ∷ []) ≡ length vs' = omega (arith, length-append vs (w ∷ []), length-append ws (width_of m ∷ []), long) in
    ap (word_at (dag_values e vs' ns)) next ∙ value_equation e (ws ++ width_of m ∷ []) vs' ns j n long' fit.1 (omega arith) at

pub width_at-map : (ns : List Node) (i : ℕ) → slice_index (map width_of ns) i ≡ width_at ns i
width_at-map [] i = refl
width_at-map (n ∷ ns) zero = refl
width_at-map (n ∷ ns) (suc i) = width_at-map ns i

pub length-widths : (ns : List Node) → length (map width_of ns) ≡ length ns
length-widths [] = refl
length-widths (n ∷ ns) = ap suc (length-widths ns)

append_nil : (xs : List ℕ) → xs ++ [] ≡ xs
append_nil [] = refl
append_nil (x ∷ xs) = ap (λ r. x ∷ r) (append_nil xs)

pub FitFrom-push : (ws : List ℕ) (ns : List Node) (n : Node) → FitFrom ws ns → FitsNode (ws ++ map width_of ns) n → FitFrom ws (ns ++ n ∷ [])
FitFrom-push ws [] n f g = (subst (λ k. FitsNode k n) (append_nil ws) g, tt)
FitFrom-push ws (m ∷ ns) n f g =
    (f.0, FitFrom-push (ws ++ width_of m ∷ []) ns n f.1 (subst (λ k. FitsNode k n) (sym (append_assoc ws (width_of m ∷ []) (map width_of ns))) g))

-- the node at a place fits the widths of those before it
pub fits_at : (ws : List ℕ) (ns : List Node) (j : ℕ) (n : Node) → FitFrom ws ns → j < length ns → n ≡ get_or ns j n → FitsNode (ws ++ map width_of (take j ns)) n
fits_at ws [] j n f lt at = absurd (omega arith)
fits_at ws (m ∷ ns) zero n f lt at = subst (λ k. FitsNode k n) (sym (append_nil ws)) (subst (λ k. FitsNode ws k) (sym at) f.0)
fits_at ws (m ∷ ns) (suc j) n f lt at =
    subst (λ k. FitsNode k n) (append_assoc ws (width_of m ∷ []) (map width_of (take j ns))) (fits_at (ws ++ width_of m ∷ []) ns j n f.1 (omega arith) at)

pub width_at-take : (ns : List Node) (j a : ℕ) → a < j → width_at (take j ns) a ≡ width_at ns a
width_at-take ns zero a lt = absurd (omega arith)
width_at-take [] (suc j) a lt = refl
width_at-take (n ∷ ns) (suc j) zero lt = refl
width_at-take (n ∷ ns) (suc j) (suc a) lt = width_at-take ns j a (omega arith)

pub width_at-node : (ns : List Node) (j : ℕ) (n : Node) → j < length ns → n ≡ get_or ns j n → width_at ns j ≡ width_of n
width_at-node [] j n lt at = absurd (omega arith)
width_at-node (m ∷ ns) zero n lt at = ap width_of (sym at)
width_at-node (m ∷ ns) (suc j) n lt at = width_at-node ns j n (omega arith) at

pub width_at-front : (ns ms : List Node) (i : ℕ) → i < length ns → width_at (ns ++ ms) i ≡ width_at ns i
width_at-front [] ms i lt = absurd (omega arith)
width_at-front (n ∷ ns) ms zero lt = refl
width_at-front (n ∷ ns) ms (suc i) lt = width_at-front ns ms i (omega arith)

pub width_at-last : (ns : List Node) (n : Node) → width_at (ns ++ n ∷ []) (length ns) ≡ width_of n
width_at-last [] n = refl
width_at-last (m ∷ ns) n = width_at-last ns n

pub operands_at : (ns : List Node) (j : ℕ) (n : Node) → FitFrom [] ns → j < length ns → n ≡ get_or ns j n → Each (λ a. a < j) (operands n)
operands_at ns j n f lt at =
    Each-map (λ a. a < length (map width_of (take j ns))) (λ a. a < j) (operands n) (λ a p. omega (arith, length-widths (take j ns), length-take-le j ns (omega arith))) (operands_below (map width_of (take j ns)) n (fits_at [] ns j n f lt at))

pub ruleset width_facts = (width_at-map)
