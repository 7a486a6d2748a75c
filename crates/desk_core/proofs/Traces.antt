-- The traces of lines, one line more.
use Rattle.std.proofs.Common.{◌≡◌, ℕ, suc, ◌+◌, ◌<◌, List, [], ◌∷◌, ◌++◌, length, get_or, take, sym, ap, ◌∙◌, append_assoc, append-nil, arith, length-take}
use Rattle.std.proofs.lemmas.List.{take_more}
use Rattle.outside.specs.declared.rows.TraceText.{TraceText}
use Rattle.desk_core_reports.specs.declared.book.Line.{Line}
use Rattle.desk_core.specs.Blocks.{trace_of, traces_from}

traces_more : (n : ℕ) (xs : List Line) (x : Line) (k : ℕ) → k ≡ n + length xs → traces_from n (xs ++ x ∷ []) ≡ traces_from n xs ++ trace_of k x.name x.trace
traces_more n [] x k e = let same : n ≡ k = omega arith in append-nil (trace_of n x.name x.trace) ∙ ap (λ (i : ℕ). trace_of i x.name x.trace) same
traces_more n (y ∷ ys) x k e =
    ap (λ (ts : List TraceText). trace_of n y.name y.trace ++ ts) (traces_more (suc n) ys x k (omega arith))
    ∙ sym (append_assoc (trace_of n y.name y.trace) (traces_from (suc n) ys) (trace_of k x.name x.trace))

-- the trace of the line at this place, behind those of the lines before it
pub traces_turn : (lines : List Line) (i : ℕ) (x : Line) (k : ℕ) → i < length lines → x ≡ get_or lines i x → k ≡ i + 1 → traces_from 1 (take i lines) ++ trace_of k x.name x.trace ≡ traces_from 1 (take (i + 1) lines)
traces_turn lines i x k lt at is =
    let many : k ≡ 1 + length (take i lines) = omega (arith, length-take i lines) in
    sym (traces_more 1 (take i lines) x k many) ∙ ap (traces_from 1) (ap (λ (y : Line). take i lines ++ y ∷ []) at ∙ sym (take_more lines i x lt))
