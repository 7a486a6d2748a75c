-- The bits at one position of an index.
use Rattle.std.proofs.Common.{◌≡◌, ℕ, ◌%◌, ◌^◌, ◌<◌, Bool, false, List, sym, ap, ◌∙◌, ℤ}
use Rattle.std.specs.Prelude.{nat_eq, if◌then◌else◌}
use Rattle.word_dag.specs.declared.node.Node.{Node}
use Rattle.word_dag.specs.Nodes.{Naming}
use Rattle.vlog_tree.specs.Value.{integer, moved_down}
use Rattle.elab_step_expr.specs.Indexed.{is_same}
use Rattle.elab_step_expr.specs.Nodes.{Makes}
use Rattle.elab_step_expr.proofs.Kept.{made_same}

module _ (new : List Node) (r w : ℕ) (s : Bool) (n : ℕ) (index vector other : Naming → ℕ) (small : (e : Naming) → index e < 2 ^ n) where
  pub coded : (k : ℕ) (D P d p : ℤ) → Makes new r w (λ e. if nat_eq (index e) k then moved_down D (vector e) % 2 ^ w else other e) → ((x : ℕ) → x < 2 ^ n → nat_eq x k ≡ is_same (integer s n x) P) → D ≡ d → P ≡ p →
      Makes new r w (λ e. if is_same (integer s n (index e)) p then moved_down d (vector e) % 2 ^ w else other e)
  coded k D P d p m h dd pp = made_same new r w _ _ m
      (λ e. ap (λ t. if t then moved_down D (vector e) % 2 ^ w else other e) (h (index e) (small e)) ∙ (λ i. if is_same (integer s n (index e)) (pp i) then moved_down (dd i) (vector e) % 2 ^ w else other e))

  pub uncoded : (P d p : ℤ) → Makes new r w (λ e. other e) → ((x : ℕ) → x < 2 ^ n → is_same (integer s n x) P ≡ false) → P ≡ p →
      Makes new r w (λ e. if is_same (integer s n (index e)) p then moved_down d (vector e) % 2 ^ w else other e)
  uncoded P d p m h pp = made_same new r w _ _ m
      (λ e. sym (ap (λ z. if is_same (integer s n (index e)) z then moved_down d (vector e) % 2 ^ w else other e) (sym pp) ∙ ap (λ t. if t then moved_down d (vector e) % 2 ^ w else other e) (h (index e) (small e))))
