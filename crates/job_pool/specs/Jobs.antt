-- What workers bring back: the numbers that they drew, and how the jobs of these numbers ended.
use Rattle.std.specs.Prelude.{◌≡◌, ℕ, ◌+◌, ◌*◌, ◌≤◌, List, [], ◌∷◌, ◌++◌, All, IfSome, IsPermutation, count_by, filter, length, map, nat_le, nat_lt, slice_get}
use Rattle.std.specs.List.Sorted.{IsNonDecreasingBy}
use Rattle.job_pool.specs.Seats.{Counter, Place}
use Rattle.job_pool.specs.declared.work.Done.{Done}

abbrev pub number_of : {X : Type 0} → Done X → ℕ
number_of d = d.number

abbrev pub end_of : {X : Type 0} → Done X → X
end_of d = d.end

-- the seat has drawn nothing, and may draw what these workers need: each at most one number more than there are jobs
pub record IsReady (tickets : Counter) (jobs workers : ℕ) (seat : Place) : Type 0 where
  pub its : seat.word ≡ tickets.word
  pub fresh : seat.numbers ≡ []
  pub enough : workers * (jobs + 1) ≤ seat.allowance

-- The numbers that are jobs are those done, and each worker drew one that is past them. The end of what is done goes with the element of its number
pub record AreDone {T X : Type 0} (R : T → X → Type 0) (elements : List T) (workers : ℕ) (numbers : List ℕ) (done : List (Done X)) : Type 0 where
  pub jobs : filter (λ x. nat_lt x (length elements)) numbers ≡ map number_of done
  pub past : count_by (λ x. nat_le (length elements) x) numbers ≡ workers
  pub ends : All (λ d. IfSome (slice_get elements d.number) (λ e. R e d.end)) done

-- the job of this number was done last, and its end goes with the element
pub record Adds {T X : Type 0} (R : T → X → Type 0) (elements : List T) (number : ℕ) (before after : List (Done X)) : Type 0 where
  pub done : Done X
  pub its : done.number ≡ number
  pub goes : IfSome (slice_get elements number) (λ e. R e done.end)
  pub after_is : after ≡ before ++ done ∷ []

-- the ends of what is done, in the order of the numbers
pub record IsOrdered {X : Type 0} (done : List (Done X)) (ends : List X) : Type 0 where
  pub sorted : List (Done X)
  pub same : IsPermutation done sorted
  pub rising : IsNonDecreasingBy number_of sorted
  pub are : ends ≡ map end_of sorted
