-- The parts of what is shown of a line, put behind one another.
use Rattle.std.proofs.Common.{◌≡◌, ℕ, List, ◌++◌, take, drop, cond, ap, ◌∙◌, append_assoc}
use Rattle.std.specs.Prelude.{Result, Ok, Err, OnOk, is_ok}
use Rattle.signoff_places.specs.Lines.{last_line, first_line, shown_head, shown_tail, marked, line_and_mark}

joined : (out a b c d e f : List ℕ) → out ++ a ++ b ++ c ++ d ++ e ++ f ≡ out ++ (a ++ b ++ c ++ d ++ e ++ f)
joined out a b c d e f = simp append_assoc

-- six parts are added, the last where there is memory for it
pub six_added : {T E : Type 0} (r : Result T E) (out a b c d e f : List ℕ) {o p q s t new : List ℕ} →
    o ≡ out ++ a → p ≡ o ++ b → q ≡ p ++ c → s ≡ q ++ d → t ≡ s ++ e → new ≡ cond (is_ok r) (t ++ f) t → OnOk r (new ≡ out ++ (a ++ b ++ c ++ d ++ e ++ f))
six_added (Ok x) out a b c d e f one two three four five six = let all = joined out a b c d e f in cc
six_added (Err x) out a b c d e f one two three four five six = tt

pub line_cut : (text : List ℕ) (at : ℕ) {before line : List ℕ} → before ≡ take at text → line ≡ last_line before → line ≡ last_line (take at text)
line_cut text at is line_is = line_is ∙ ap last_line is

pub rest_cut : (text : List ℕ) (at : ℕ) {after line : List ℕ} → after ≡ drop at text → line ≡ first_line after → line ≡ first_line (drop at text)
rest_cut text at is line_is = line_is ∙ ap first_line is

pub same_marks : {T E : Type 0} (r : Result T E) (out new text : List ℕ) (at : ℕ) {head tail before after : List ℕ} →
    before ≡ last_line (take at text) → after ≡ first_line (drop at text) → head ≡ shown_head before after → tail ≡ shown_tail before after →
    OnOk r (new ≡ out ++ marked head tail) → OnOk r (new ≡ out ++ line_and_mark text at)
unfolding line_and_mark
same_marks (Ok x) out new text at {head} {tail} {before} {after} before_is after_is head_is tail_is h =
    h ∙ ap (λ xs. out ++ xs) (
    ap (λ xs. marked xs tail) (head_is ∙ (ap (λ xs. shown_head xs after) before_is ∙ ap (shown_head (last_line (take at text))) after_is))
    ∙ ap (marked (shown_head (last_line (take at text)) (first_line (drop at text)))) (tail_is ∙ (ap (λ xs. shown_tail xs after) before_is ∙ ap (shown_tail (last_line (take at text))) after_is)))
same_marks (Err x) out new text at before_is after_is head_is tail_is h = tt
