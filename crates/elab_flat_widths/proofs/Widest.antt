-- The longest of some expressions.
use Rattle.std.proofs.Common.{◌≡◌, ℕ, ◌≤◌, max, Bool, true, false, ◌&&◌, List, [], ◌∷◌, map, length, drop, drop_of_length-le, ◌⊎◌, inl, inr, ⊎_elim, refl, sym, ap, subst, ◌∙◌, arith, Bor}
use Rattle.std.proofs.Math.Nat.{max-zero}
use Rattle.vlog_tree.specs.declared.expr.Expr.{Expr}
use Rattle.vlog_tree.specs.declared.valuation.Entry.{Entry}
use Rattle.vlog_tree.specs.Value.{width_of, IsFormed, HasConstantParts}
use Rattle.vlog_tree_runs.specs.Places.{Name, Among}
use Rattle.vlog_tree_runs.specs.Blocks.{widest, all_signed}
use Rattle.elab_flat_laws.proofs.Lists.{among_map, map_among}
use Rattle.elab_flat_faults.specs.Constants.{compared}
use Rattle.elab_flat_faults.specs.Texts.{Compared}
use Rattle.elab_flat_widths.specs.declared.violation.Violation.{Violation}
use Rattle.elab_flat_widths.specs.Cases.{HasCommonShape, expr_meant}
use Rattle.elab_flat_widths.specs.Taken.{IsSound, AllSound, Breaks, SomeBreaks, taken_at}

pub in_widest : (v : List Entry) (as' : List Expr) (a : Expr) → Among as' a → width_of v a ≤ widest v as'
in_widest v [] a h = absurd h
in_widest v (b ∷ as') a (inl e) = subst (λ z. width_of v z ≤ widest v (b ∷ as')) e (grind arith)
in_widest v (b ∷ as') a (inr h) = let le = in_widest v as' a h in grind (arith, le)

module _ (test : Name → Bool) (v : List Entry) (c : Compared) (as' : List Expr) (is : as' ≡ c.value ∷ c.labels) (n : ℕ) (s : Bool) (width : n ≡ widest v as') (sign : s ≡ all_signed v as') where
  -- each is compared at the longest length
  compared_is : compared v c ≡ map (λ a. taken_at a n s) as'
  compared_is = sym ((λ i. map (λ a. taken_at a ((width ∙ ap (widest v) is) i) ((sign ∙ ap (all_signed v) is) i)) as') ∙ ap (map (λ a. taken_at a (widest v (c.value ∷ c.labels)) (all_signed v (c.value ∷ c.labels)))) is)

  pub all_sound : ((a : Expr) → Among as' a → IsSound test v (taken_at a n s)) → AllSound test v (compared v c)
  all_sound h = subst (AllSound test v) (sym compared_is) (λ t k. let r = among_map (λ a. taken_at a n s) as' t k in subst (IsSound test v) r.2 (h r.0 r.1))

  pub some_breaks : (w : Violation) → ((a : Expr) × Among as' a × Breaks test v (taken_at a n s) w) → SomeBreaks test v (compared v c) w
  some_breaks w h = (taken_at h.0 n s, subst (λ ts. Among ts (taken_at h.0 n s)) (sym compared_is) (map_among (λ a. taken_at a n s) as' h.0 h.1), h.2)

and_true : (b : Bool) → (b && true) ≡ b
and_true true = refl
and_true false = refl

-- nothing is left to look at
pub at_end : (test : Name → Bool) (v : List Entry) (exprs : List (Bor Expr)) (i n : ℕ) (s : Bool) → length exprs ≤ i → n ≤ 64 →
    max n (widest v (map expr_meant (drop i exprs))) ≡ widest v (map expr_meant exprs) → (s && all_signed v (map expr_meant (drop i exprs))) ≡ all_signed v (map expr_meant exprs) →
    ((a : Expr) → Among (map expr_meant exprs) a → (HasConstantParts test a × IsFormed v a) ⊎ Among (map expr_meant (drop i exprs)) a) → HasCommonShape test v (map expr_meant exprs) n s
at_end test v exprs i n s le most width sign ready =
    let none : drop i exprs ≡ [] = drop_of_length-le exprs {i = i} le in
    let all = map expr_meant exprs in
    let w : n ≡ widest v all = sym (max-zero n) ∙ subst (λ xs. max n (widest v (map expr_meant xs)) ≡ widest v all) none width in
    record {
      ready = λ a k. ⊎_elim
          (λ h. record { parts = h.0; formed = h.1; long = subst (λ m. width_of v a ≤ m) (sym w) (in_widest v all a k) })
          (λ z. absurd (subst (λ xs. Among (map expr_meant xs) a) none z)) (ready a k);
      width = w;
      sign = sym (and_true s) ∙ subst (λ xs. (s && all_signed v (map expr_meant xs)) ≡ all_signed v all) none sign;
      most = most;
    }
