-- The lines one after another.
use Rattle.std.proofs.Common.{◌≡◌, ℕ, zero, suc, ◌+◌, ◌<◌, ◌≤◌, List, [], ◌∷◌, ◌++◌, length, map, take, refl, sym, ap, ◌∙◌, subst, arith}
use Rattle.std.specs.List.{All, AllZip}
use Rattle.std.proofs.lemmas.List.{length-map, map-append, take_all}
use Rattle.std.proofs.lemmas.List.Elements.{All-cons, All-map, All-nil}
use Rattle.std.proofs.lemmas.Slice.Zip.{AllZip-long}
use Rattle.set_tree.specs.declared.set.Set.{Set}
use Rattle.set_tree.specs.Report.{numbers_from}
use Rattle.twin_tests.proofs.Reported.{numbers_more}
use Rattle.meet_lines.specs.declared.line.MeetLine.{MeetLine}
use Rattle.meet_lines.specs.declared.line.MeetLine.TheVariants.{Reset, Operation}
use Rattle.meet_lines.specs.Lines.{SpeaksOf, meet_lines}

-- one operation more
pub line_step : (old new : List MeetLine) (k : ℕ) → old ≡ Reset ∷ map Operation (numbers_from 1 k) → new ≡ old ++ Operation (k + 1) ∷ [] → new ≡ Reset ∷ map Operation (numbers_from 1 (k + 1))
line_step old new k is made =
    let next : k + 1 ≡ 1 + k = omega arith in
    let more : map Operation (numbers_from 1 (k + 1)) ≡ map Operation (numbers_from 1 k) ++ Operation (1 + k) ∷ [] = ap (map Operation) (numbers_more 1 k) ∙ map-append Operation (numbers_from 1 k) ((1 + k) ∷ []) in
    made ∙ (ap (λ (ls : List MeetLine). ls ++ Operation (k + 1) ∷ []) is ∙ ap (λ (ls : List MeetLine). Reset ∷ ls) (ap (λ n. map Operation (numbers_from 1 k) ++ Operation n ∷ []) next ∙ sym more))

all_numbers : (P : ℕ → Type 0) (n k : ℕ) → ((i : ℕ) → n ≤ i → i < n + k → P i) → All P (numbers_from n k)
all_numbers P n zero all = All-nil P
all_numbers P n (suc k) all = All-cons P n (numbers_from (suc n) k) (all n (omega arith) (omega arith)) (all_numbers P (suc n) k (λ i low high. all i (omega (arith, low)) (omega (arith, high))))

-- the operations that the lines name are there
pub lines_speak : (set : Set) → All (SpeaksOf set) (meet_lines set)
lines_speak set =
    let operations = numbers_from 1 (length set.operations) in
    All-cons (SpeaksOf set) Reset (map Operation operations) tt (All-map (SpeaksOf set) Operation operations (all_numbers (λ i. SpeaksOf set (Operation i)) 1 (length set.operations) (λ i low high. omega (arith, high))))

numbers_count : (n k : ℕ) → length (numbers_from n k) ≡ k
numbers_count n zero = refl
numbers_count n (suc k) = ap suc (numbers_count (suc n) k)

lines_count : (set : Set) → length (meet_lines set) ≡ suc (length set.operations)
lines_count set =
    let operations = numbers_from 1 (length set.operations) in
    ap suc (length-map operations Operation ∙ numbers_count 1 (length set.operations))

-- what goes with each line is no more than a set has lines
pub goals_few : {X : Type 0} (R : MeetLine → X → Type 0) (set : Set) (i : ℕ) (lines : List MeetLine) (goals : List X) → length set.operations ≤ 64 → length lines ≤ i → lines ≡ meet_lines set → AllZip R (take i lines) goals → length goals ≤ 65
goals_few R set i lines goals most past listed zip =
    let whole = subst (λ (ls : List MeetLine). AllZip R ls goals) (take_all i lines past ∙ listed) zip in
    let same = AllZip-long R (meet_lines set) goals whole in
    let count = lines_count set in
    omega (arith, same, count, most)
