-- What the names of signals stand for at rest.
use Rattle.std.proofs.Common.{◌≡◌, ℕ, ◌+◌, ◌<◌, List, [], ◌∷◌, ◌++◌, append_assoc, length, get_or, drop, refl, sym, ap, ◌∙◌, subst}
use Rattle.std.proofs.lemmas.Nat.{pow_pos}
use Rattle.vlog_tree.specs.declared.valuation.Entry.{Entry}
use Rattle.vlog_tree.specs.Valuation.{IsLength, EntryFits}
use Rattle.vlog_tree_runs.specs.declared.flat.Signal.{Signal}
use Rattle.vlog_tree_runs.specs.Places.{entry_of, entries_of}
use Rattle.elab_step_flow.specs.Cases.{at_rest}
use Rattle.elab_step_flow.proofs.Marking.{cut}

abbrev pub resting : Signal → Entry
resting g = record (entry_of g 0) { depth = 0 }

pub rest_fits : (e : Entry) (g : Signal) → e ≡ resting g → IsLength g.width → EntryFits e
rest_fits e g is w = subst EntryFits (sym is) (w, pow_pos g.width)

vector_rest : (g : Signal) → g.depth ≡ 0 → entries_of [] (λ x. 0) g ≡ resting g ∷ []
vector_rest g z = rw z refl

pub rest_next : (gs : List Signal) (i : ℕ) (g : Signal) (e : Entry) (all next : List Entry) → i < length gs → g ≡ get_or gs i g → g.depth ≡ 0 → e ≡ resting g → next ≡ all ++ e ∷ [] → all ++ at_rest (drop i gs) ≡ at_rest gs
    → next ++ at_rest (drop (i + 1) gs) ≡ at_rest gs
rest_next gs i g e all next lt is z same put h =
    let later = at_rest (drop (i + 1) gs) in
    let one : e ∷ [] ≡ entries_of [] (λ x. 0) g = ap (λ x. x ∷ []) same ∙ sym (vector_rest g z) in
    ap (λ xs. xs ++ later) (put ∙ ap (λ xs. all ++ xs) one) ∙ (append_assoc all (entries_of [] (λ x. 0) g) later ∙ (ap (λ xs. all ++ at_rest xs) (sym (cut gs i g lt is)) ∙ h))
