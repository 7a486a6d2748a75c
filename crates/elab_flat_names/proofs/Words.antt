-- The names of the words of memories.
use Rattle.std.proofs.Common.{◌≡◌, ℕ, zero, suc, ◌+◌, ◌<◌, ◌≤◌, ◌⊎◌, inl, inr, ⊎_elim, List, [], ◌∷◌, ◌++◌, codes, map, length, drop, get_or, add-one, arith, refl, sym, ap, subst, ◌∙◌}
use Rattle.std.specs.Prelude.{decimal}
use Rattle.std.specs.List.{flat_map}
use Rattle.std.proofs.lemmas.Bool.{cases_Bool}
use Rattle.vlog_tree.specs.declared.module.Module.{Module}
use Rattle.vlog_tree.specs.declared.valuation.Entry.{Entry}
use Rattle.vlog_tree_runs.specs.declared.flat.Signal.{Signal}
use Rattle.vlog_tree_runs.specs.Places.{Name, Among, words_from}
use Rattle.vlog_tree_runs.specs.Contents.{Decl, is_among, once, decls_in, signals_in}
use Rattle.vlog_tree_runs.specs.Scopes.{signal_of}
use Rattle.elab_flat_laws.proofs.Lists.{among_append}
use Rattle.elab_flat_faults.specs.Declaring.{words_of}
use Rattle.elab_flat_scopes.specs.declared.decl.Decl.{Decl as View}
use Rattle.elab_flat_scopes.specs.Borrowed.{decl_meant}
use Rattle.elab_flat_scopes.proofs.Finding.{cut}
use Rattle.elab_flat_names.specs.Rows.{IsDeclaredAs}

-- the name of word number j
abbrev pub word : Signal → ℕ → Name
word g j = g.name ++ codes "$" ++ decimal j

at_or_after : (k j : ℕ) → k ≤ j → (k ≡ j) ⊎ (suc k ≤ j)
at_or_after zero zero le = inl refl
at_or_after zero (suc j) le = inr (omega arith)
at_or_after (suc k) zero le = absurd (omega arith)
at_or_after (suc k) (suc j) le = ⊎_elim (λ e. inl (ap suc e)) (λ h. inr (omega arith)) (at_or_after k j (omega arith))

word_from : (g : Signal) (k n j : ℕ) → k ≤ j → j < k + n → Among (map (λ w. w.name) (words_from g k n)) (word g j)
word_from g k zero j le lt = absurd (omega arith)
word_from g k (suc n) j le lt = ⊎_elim (λ e. inl (ap (word g) e)) (λ h. let far : j < suc k + n = omega arith in inr (word_from g (suc k) n j h far)) (at_or_after k j le)

from_word : (g : Signal) (k n : ℕ) (x : Name) → Among (map (λ w. w.name) (words_from g k n)) x → (j : ℕ) × (j < k + n) × (word g j ≡ x)
from_word g k zero x a = absurd a
from_word g k (suc n) x (inl e) = (k, omega arith, e)
from_word g k (suc n) x (inr a) = let r = from_word g (suc k) n x a in let lt : r.0 < suc k + n = r.1 in (r.0, omega arith, r.2)

pub word_in : (g : Signal) (j : ℕ) → j < g.depth → Among (words_of g) (word g j)
word_in g j lt = word_from g 0 g.depth j (omega arith) (omega arith)

pub in_words : (g : Signal) (x : Name) → Among (words_of g) x → (j : ℕ) × (j < g.depth) × (word g j ≡ x)
in_words g x a = let r = from_word g 0 g.depth x a in let lt : r.0 < 0 + g.depth = r.1 in (r.0, omega arith, r.2)

-- those after a signal that has none
pub past_words : (v : List Entry) (ds : List View) (i : ℕ) (d : View) → i < length ds → d ≡ get_or ds i d → (x : Name) →
    Among (flat_map words_of (map (signal_of v) (map decl_meant (drop i ds)))) x → (Among (words_of (signal_of v (decl_meant d))) x → ⊥) →
    Among (flat_map words_of (map (signal_of v) (map decl_meant (drop (i + 1) ds)))) x
past_words v ds i d lt is x a other =
    ⊎_elim (λ h. absurd (other h)) (λ h. h)
    (among_append (words_of (signal_of v (decl_meant d))) (flat_map words_of (map (signal_of v) (map decl_meant (drop (i + 1) ds)))) x
    (subst (λ zs. Among (flat_map words_of (map (signal_of v) (map decl_meant zs))) x) (cut ds i d lt is ∙ ap (λ k. d ∷ drop k ds) (sym (add-one i))) a))

-- a signal says of its ranges what one of its declarations does
once_as : (m : Module) (all : List Decl) (done : List Name) (ds : List Decl) → ((d : Decl) → Among ds d → Among (decls_in m) d) → (d : Decl) → Among (once all done ds) d → IsDeclaredAs m d
once_as m all done [] sub d a = absurd a
once_as m all done (e ∷ ds) sub d a = elim (cases_Bool (is_among done e.name)) [
  | inl y ↦ once_as m all done ds (λ z h. sub z (inr h)) d (rw y at a)
  | inr n ↦ ⊎_elim
      (λ s. subst (IsDeclaredAs m) s (record {
        from = e;
        among = sub e (inl refl);
        name = refl;
        shape = refl;
        words = refl;
      })) (λ h. once_as m all (e.name ∷ done) ds (λ z h. sub z (inr h)) d h) (rw n at a)
]

pub signals_as : (m : Module) (d : Decl) → Among (signals_in m) d → IsDeclaredAs m d
signals_as m d a = once_as m (decls_in m) [] (decls_in m) (λ z h. h) d a
