-- The loop that writes the words of nodes.
use Rattle.std.proofs.Common.{◌≡◌, ℕ, zero, suc, ◌+◌, ◌<◌, ◌≤◌, List, [], ◌∷◌, ◌++◌, length, take, drop, get_or, refl, sym, ap, ◌∙◌, subst, arith, add-one}
use Rattle.std.specs.Prelude.{slice_index, slice_set}
use Rattle.std.proofs.Math.Seq.{drop-cons, take-suc-set}
use Rattle.word_core.specs.Words.{Bits}
use Rattle.word_dag.specs.declared.node.Node.{Node}
use Rattle.word_dag.specs.Nodes.{FitsNode, FitFrom, width_of, node_value, left_after, ob_values, word_at, root_value}
use Rattle.word_dag.proofs.Operands.{word_at-take}
use Rattle.word_dag.specs.Given.{widths_of, FitsFree, AllFit}
use Rattle.word_dag.proofs.Widths.{width-node_value}

-- up to node i
pub record FillLoop (us0 us : List ℕ) (words : List Bits) (nodes : List Node) (i : ℕ) : Type 0 where
  pub so_far : ob_values us (take i words) (drop i nodes) ≡ ob_values us0 [] nodes
  pub fit : FitFrom (widths_of (take i words)) (drop i nodes)
  pub given : AllFit us (drop i nodes)

pub drop_at : (nodes : List Node) (i : ℕ) (n : Node) → i < length nodes → n ≡ get_or nodes i n → drop i nodes ≡ n ∷ drop (i + 1) nodes
drop_at nodes i n lt e = rw add-one (drop-cons nodes i n lt ∙ ap (λ k. k ∷ drop (suc i) nodes) (sym e))

widths_push : (ws : List Bits) (w : Bits) → widths_of (ws ++ w ∷ []) ≡ widths_of ws ++ w.width ∷ []
widths_push [] w = refl
widths_push (v ∷ ws) w = ap (λ r. v.width ∷ r) (widths_push ws w)

pub fill_fits : (us0 us : List ℕ) (words : List Bits) (nodes : List Node) (i : ℕ) (n : Node) → i < length nodes → n ≡ get_or nodes i n → FillLoop us0 us words nodes i → FitsNode (widths_of (take i words)) n × FitsFree n (slice_index us 0)
fill_fits us0 us words nodes i n lt e r =
    let at = drop_at nodes i n lt e in
    let fit = subst (λ k. FitFrom (widths_of (take i words)) k) at r.fit in
    let given = subst (λ k. AllFit us k) at r.given in
    (fit.0, given.0)

pub fill_step : (us0 us : List ℕ) (words : List Bits) (nodes : List Node) (i : ℕ) (n : Node) (w : Bits) (us' : List ℕ) → i < length nodes → length nodes ≤ length words → n ≡ get_or nodes i n → w ≡ node_value (slice_index us 0) (take i words) n → us' ≡ left_after n us → FillLoop us0 us words nodes i → FillLoop us0 us' (slice_set words i w) nodes (i + 1)
fill_step us0 us words nodes i n w us' lt room e ew eu r =
    let at = drop_at nodes i n lt e in
    let fit = subst (λ k. FitFrom (widths_of (take i words)) k) at r.fit in
    let given = subst (λ k. AllFit us k) at r.given in
    let write : take (i + 1) (slice_set words i w) ≡ take i words ++ w ∷ [] = rw add-one (take-suc-set words i w (omega arith)) in
    let write' : take (i + 1) (slice_set words i w) ≡ take i words ++ node_value (slice_index us 0) (take i words) n ∷ [] = write ∙ ap (λ k. take i words ++ k ∷ []) ew in
    let wide : w.width ≡ width_of n = ap (λ (b : Bits). b.width) ew ∙ width-node_value (slice_index us 0) (take i words) n fit.0 in
    let widths : widths_of (take (i + 1) (slice_set words i w)) ≡ widths_of (take i words) ++ width_of n ∷ [] = ap widths_of write ∙ widths_push (take i words) w ∙ ap (λ k. widths_of (take i words) ++ k ∷ []) wide in
    record {
      so_far = ap (λ k. ob_values k (take (i + 1) (slice_set words i w)) (drop (i + 1) nodes)) eu ∙ ap (λ k. ob_values (left_after n us) k (drop (i + 1) nodes)) write' ∙ sym (ap (λ k. ob_values us (take i words) k) at) ∙ r.so_far;
      fit = subst (λ k. FitFrom k (drop (i + 1) nodes)) (sym widths) fit.1;
      given = subst (λ k. AllFit k (drop (i + 1) nodes)) (sym eu) given.1;
    }

pub drop_all : (nodes : List Node) (i : ℕ) → length nodes ≤ i → drop i nodes ≡ []
drop_all [] zero le = refl
drop_all [] (suc i) le = refl
drop_all (x ∷ xs) zero le = absurd (omega arith)
drop_all (x ∷ xs) (suc i) le = drop_all xs i (omega arith)

pub fill_end : (us0 us : List ℕ) (words : List Bits) (nodes : List Node) (i : ℕ) → i ≡ length nodes → FillLoop us0 us words nodes i → take (length nodes) words ≡ ob_values us0 [] nodes
fill_end us0 us words nodes i e r =
    let done : drop i nodes ≡ [] = drop_all nodes i (omega arith) in
    ap (λ k. take k words) (sym e) ∙ sym (ap (λ k. ob_values us (take i words) k) done) ∙ r.so_far

pub fill_root : (us0 us : List ℕ) (words : List Bits) (nodes : List Node) (i root : ℕ) → i ≡ length nodes → root < length nodes → FillLoop us0 us words nodes i → word_at words root ≡ root_value us0 nodes root
fill_root us0 us words nodes i root e lt r =
    sym (word_at-take words (length nodes) root lt) ∙ ap (λ k. word_at k root) (fill_end us0 us words nodes i e r)
