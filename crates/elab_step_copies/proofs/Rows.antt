-- The copies of some nodes, one after another.
use Rattle.std.proofs.Common.{◌≡◌, ℕ, ◌+◌, ◌<◌, List, [], ◌∷◌, ◌++◌, Some, ap, ◌∙◌, subst, arith, inl, inr, length, length-append}
use Rattle.std.specs.Prelude.{slice_index}
use Rattle.std.proofs.lemmas.Bool.{cases_lt}
use Rattle.std.proofs.lemmas.List.{get_or_append_left, get_or_push}
use Rattle.word_dag.specs.declared.node.Node.{Node}
use Rattle.word_dag.specs.Adding.{Keeps}
use Rattle.word_dag.specs.Nodes.{FitFrom}
use Rattle.elab_step_expr.specs.declared.leaves.Leaf.{Leaf}
use Rattle.elab_step_expr.specs.Leaves.{AreReady}
use Rattle.elab_step_expr.proofs.Kept.{keeps_then, ready_kept}
use Rattle.elab_step_copies.specs.declared.copier.Copier.{Copier}
use Rattle.elab_step_copies.specs.Copies.{EachCopy, IsCopy, made_at}
use Rattle.elab_step_copies.specs.Walks.{IsLater}
use Rattle.elab_step_copies.proofs.Making.{copy_right}
use Rattle.elab_step_copies.proofs.Paths.{later_then}

-- the copies so far
pub record Reached (ls : List Leaf) (first : Copier) (start : List Node) (roots : List ℕ) (k : Copier) (ns : List Node) (made : List ℕ) (n : ℕ) : Type 0 where
  pub keeps : Keeps start ns
  pub ready : AreReady ls ns
  pub later : IsLater first k ls ns
  pub count : length made ≡ n
  pub each : (i : ℕ) → i < n → made_at k.copies.items (slice_index roots i) ≡ Some (slice_index made i)

module _ (ls : List Leaf) (first : Copier) (start : List Node) (roots : List ℕ) (k : Copier) (ns : List Node) (made : List ℕ) (n : ℕ) (h : Reached ls first start roots k ns made n) where
  pub reached_push : (l : Copier) (b : List Node) (x i : ℕ) (new : List ℕ) → Keeps ns b → IsLater k l ls b → made_at l.copies.items x ≡ Some i → x ≡ slice_index roots n → new ≡ made ++ i ∷ [] → Reached ls first start roots l b new (n + 1)
  reached_push l b x i new keeps later copy at is = record {
    keeps = keeps_then start ns b h.keeps keeps;
    ready = ready_kept ls ns b keeps h.ready;
    later = later_then first k l ls ns b h.later later;
    count = ap (λ (z : List ℕ). length z) is ∙ (length-append made (i ∷ []) ∙ ap (λ z. z + 1) h.count);
    each = λ j lt. rw is (elim (cases_lt j n) [
      | inl less ↦ rw (get_or_append_left made (i ∷ []) 0 j (omega (arith, less, h.count))) (later.kept (slice_index roots j) (slice_index made j) (h.each j less))
      | inr more ↦
          let here : j ≡ n = omega (arith, lt, more) in
          let from : made_at l.copies.items (slice_index roots n) ≡ Some i = subst (λ (y : ℕ). made_at l.copies.items y ≡ Some i) at copy in
          rw (here, get_or_push made i 0 n h.count) from
    ]);
  }

  pub reached_copies : length roots ≡ n → FitFrom [] ns → EachCopy first.source ls ns roots made
  reached_copies long fits = (
    (let count = h.count in omega (arith, count, long)),
    λ j lt. subst (λ (s : List Node). IsCopy s ls ns (slice_index roots j) (slice_index made j)) h.later.source (copy_right k ls ns (slice_index roots j) (slice_index made j) h.later.copies fits (h.each j (omega (arith, lt, long)))),
  )
