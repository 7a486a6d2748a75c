-- What all workers brought back is all that there was to do.
use Rattle.std.proofs.Common.{◌≡◌, ◌==◌, ℕ, ◌+◌, ◌<◌, List, [], ◌∷◌, ◌++◌, not, cond, length, map, refl, sym, ap, ap₂, ◌∙◌, subst, arith, min, append_assoc, length-append}
use Rattle.std.specs.Prelude.{All, IfSome, Some, filter, nat_le, nat_lt, slice_get}
use Rattle.std.specs.List.{AllZip, range_with_len}
use Rattle.std.proofs.lemmas.Bool.Decides.{nat_tests}
use Rattle.std.proofs.lemmas.List.Elements.{All-tail}
use Rattle.std.proofs.lemmas.List.FromFn.{length-range_with_len}
use Rattle.std.proofs.lemmas.List.Sorted.{All-permutation, IsPermutation-map, length_permutation, sum_by-IsPermutation}
use Rattle.job_pool.specs.Rule.{times, once_below}
use Rattle.job_pool.specs.Seats.{EachOnceBelow}
use Rattle.job_pool.specs.declared.work.Done.{Done}
use Rattle.job_pool.specs.Jobs.{number_of, end_of, AreDone, IsOrdered}
use Rattle.job_pool.proofs.Rows.{rising_row, times-filter, parts}

middle : {T : Type 0} (pre es : List T) (e : T) → slice_get (pre ++ e ∷ es) (length pre) ≡ Some e
middle [] es e = refl
middle (p ∷ pre) es e = middle pre es e

-- in a row, each end stands at its job's place
in_place : {T X : Type 0} (R : T → X → Type 0) (all pre es : List T) (ds : List (Done X)) → map number_of ds ≡ range_with_len (length pre) (length es) → all ≡ pre ++ es
    → All (λ d. IfSome (slice_get all d.number) (λ e. R e d.end)) ds → AllZip R es (map end_of ds)
in_place R all pre [] [] row is fits = tt
in_place R all pre [] (d ∷ ds) row is fits = absurd (cc)
in_place R all pre (e ∷ es) [] row is fits = absurd (cc)
in_place {T} {X} R all pre (e ∷ es) (d ∷ ds) row is fits =
    let number : d.number ≡ length pre = cc in
    let rest : map number_of ds ≡ range_with_len (length pre + 1) (length es) = cc in
    let there : slice_get all d.number ≡ Some e = ap₂ slice_get is number ∙ middle pre es e in
    let here : IfSome (slice_get all d.number) (λ x. R x d.end) = fits 0 d (omega arith) in
    let longer : length (pre ++ e ∷ []) ≡ length pre + 1 = length-append pre (e ∷ []) in (
      rw there at here,
      in_place R all (pre ++ e ∷ []) es ds (rest ∙ ap (λ k. range_with_len k (length es)) (sym longer)) (is ∙ sym (append_assoc pre (e ∷ []) es))
          (All-tail (λ (f : Done X). IfSome (slice_get all f.number) (λ x. R x f.end)) d ds fits),
    )

once_both : (j n x : ℕ) → cond (nat_lt x j) (once_below n x) 0 + once_below 0 x ≡ once_below (0 + min j n) x
once_both j n x = grind (arith, nat_tests)

not_less : (j x : ℕ) → nat_le j x ≡ not (nat_lt x j)
not_less j x = grind (arith, nat_tests)

pub record IsAll {T X : Type 0} (R : T → X → Type 0) (elements : List T) (workers count : ℕ) (ends : List X) : Type 0 where
  pub ended : AllZip R elements ends
  pub many : count ≡ length elements + workers

pub all_there : {T X : Type 0} (R : T → X → Type 0) (elements : List T) (workers count : ℕ) (numbers : List ℕ) (done : List (Done X)) (ends : List X) → 0 < workers → AreDone R elements workers numbers done
    → EachOnceBelow count numbers → length numbers ≡ count → IsOrdered done ends → IsAll R elements workers count ends
all_there {T} {X} R elements workers count numbers done ends some_work are each many order =
    let j : ℕ = length elements in
    let sorted = order.sorted in
    let once : (x : ℕ) → times x (map number_of sorted) + once_below 0 x ≡ once_below (0 + min j count) x = (λ (x : ℕ).
    let same = sum_by-IsPermutation (λ (y : ℕ). cond (y == x) 1 0) (map number_of done) (map number_of sorted) (IsPermutation-map number_of done sorted order.same) in
    let kept : times x (map number_of done) ≡ cond (nat_lt x j) (once_below count x) 0 =
    ap (times x) (sym are.jobs) ∙ (times-filter (λ y. nat_lt y j) x numbers ∙ ap (λ k. cond (nat_lt x j) k 0) (each x)) in
    omega (arith, same, kept, once_both j count x)) in
    let row : map number_of sorted ≡ range_with_len 0 (min j count) = rising_row number_of 0 (min j count) sorted order.rising once in
    let split = parts (λ y. nat_lt y j) (λ y. nat_le j y) (not_less j) numbers in
    let long : length (filter (λ y. nat_lt y j) numbers) ≡ min j count =
    ap length are.jobs ∙ (sym (length_permutation (map number_of done) (map number_of sorted) (IsPermutation-map number_of done sorted order.same)) ∙ (ap length row ∙ length-range_with_len 0 (min j count))) in
    let all : count ≡ j + workers = omega (arith, split, long, are.past, many) in
    let whole : min j count ≡ j = omega (arith, all) in
    record {
      ended = subst (AllZip R elements) (sym order.are)
          (in_place R elements [] elements sorted (row ∙ ap (range_with_len 0) whole) refl
          (All-permutation (λ (d : Done X). IfSome (slice_get elements d.number) (λ e. R e d.end)) done sorted order.same are.ends));
      many = all;
    }
