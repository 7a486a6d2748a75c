-- What workers bring back, draw by draw.
use Rattle.std.proofs.Common.{◌≡◌, ℕ, ◌+◌, ◌-◌, ◌*◌, ◌<◌, ◌≤◌, List, [], ◌∷◌, ◌++◌, true, false, cond, length, map, refl, sym, ap, ap₂, ◌∙◌, subst, arith, length-append}
use Rattle.std.specs.Prelude.{Err, IfOk, IfSome, IsOkAnd, Ok, Result, count_by, nat_le, nat_lt, slice_get}
use Rattle.std.proofs.lemmas.Bool.Decides.{nat_tests}
use Rattle.std.proofs.lemmas.List.Elements.{All-append, All-push, filter-append}
use Rattle.std.proofs.lemmas.List.Sums.{sum_by-append, sum_by_push}
use Rattle.job_pool.specs.Seats.{Counter, Place}
use Rattle.job_pool.specs.declared.work.Done.{Done}
use Rattle.job_pool.specs.Jobs.{number_of, AreDone, Adds, IsReady}
use mathlib.Core.List.{map-append}

-- What a worker keeps: it drew no more numbers than there are jobs, and did each
pub record IsWorking {T X : Type 0} (R : T → X → Type 0) (elements : List T) (before now : Place) (done : List (Done X)) : Type 0 where
  pub its : now.word ≡ before.word
  pub whole : length now.numbers + now.allowance ≡ before.allowance
  pub few : length now.numbers ≤ length elements
  pub are : AreDone R elements 0 now.numbers done

module _ {T X : Type 0} (R : T → X → Type 0) (elements : List T) where
  abbrev Fits : Done X → Type 0
  Fits d = IfSome (slice_get elements d.number) (λ e. R e d.end)

  pub nothing_done : AreDone R elements 0 [] []
  nothing_done = record { jobs = refl; past = refl; ends = λ k d lt. absurd (omega arith) }

  is_job : (n : ℕ) → n < length elements → nat_lt n (length elements) ≡ true
  is_job n lt = grind (arith, nat_tests)

  is_past : (n : ℕ) → length elements ≤ n → nat_lt n (length elements) ≡ false
  is_past n le = grind (arith, nat_tests)

  not_past : (n : ℕ) → n < length elements → nat_le (length elements) n ≡ false
  not_past n lt = grind (arith, nat_tests)

  past_all : (n : ℕ) → length elements ≤ n → nat_le (length elements) n ≡ true
  past_all n le = grind (arith, nat_tests)

  pub one_done : (workers : ℕ) (numbers : List ℕ) (done : List (Done X)) (d : Done X) → AreDone R elements workers numbers done → d.number < length elements → Fits d
      → AreDone R elements workers (numbers ++ d.number ∷ []) (done ++ d ∷ [])
  one_done workers numbers done d are lt fits = record {
    jobs =
        filter-append (λ x. nat_lt x (length elements)) numbers (d.number ∷ [])
        ∙ (ap₂ (λ xs b. xs ++ cond b (d.number ∷ []) []) are.jobs (is_job d.number lt) ∙ sym (map-append number_of done (d ∷ [])));
    past =
        sum_by_push (λ x. cond (nat_le (length elements) x) 1 0) numbers d.number
        ∙ (ap (λ b. count_by (λ x. nat_le (length elements) x) numbers + cond b 1 0) (not_past d.number lt) ∙ omega (arith, are.past));
    ends = All-push Fits done d are.ends fits;
  }

  pub one_past : (workers : ℕ) (numbers : List ℕ) (done : List (Done X)) (n : ℕ) → AreDone R elements workers numbers done → length elements ≤ n → AreDone R elements (workers + 1) (numbers ++ n ∷ []) done
  one_past workers numbers done n are le = record {
    jobs =
        filter-append (λ x. nat_lt x (length elements)) numbers (n ∷ [])
        ∙ (ap₂ (λ xs b. xs ++ cond b (n ∷ []) []) are.jobs (is_past n le) ∙ append_nil (map number_of done));
    past =
        sum_by_push (λ x. cond (nat_le (length elements) x) 1 0) numbers n
        ∙ (ap (λ b. count_by (λ x. nat_le (length elements) x) numbers + cond b 1 0) (past_all n le) ∙ omega (arith, are.past));
    ends = are.ends;
  }
    where
      append_nil : (xs : List ℕ) → xs ++ [] ≡ xs
      append_nil [] = refl
      append_nil (x ∷ xs) = ap (λ l. x ∷ l) (append_nil xs)

  pub both_done : (w v : ℕ) (xs ys : List ℕ) (ds es : List (Done X)) → AreDone R elements w xs ds → AreDone R elements v ys es → AreDone R elements (w + v) (xs ++ ys) (ds ++ es)
  both_done w v xs ys ds es a b = record {
    jobs = filter-append (λ x. nat_lt x (length elements)) xs ys ∙ (ap₂ (λ l m. l ++ m) a.jobs b.jobs ∙ sym (map-append number_of ds es));
    past = sum_by-append (λ x. cond (nat_le (length elements) x) 1 0) xs ys ∙ ap₂ (λ m n. m + n) a.past b.past;
    ends = All-append Fits ds es a.ends b.ends;
  }

  pub works_on : (before now after : Place) (done more : List (Done X)) (n : ℕ) → IsWorking R elements before now done
      → after ≡ record { word = now.word; numbers = now.numbers ++ n ∷ []; allowance = now.allowance - 1 } → length now.numbers ≤ n → 0 < now.allowance
      → n < length elements → Adds R elements n done more → IsWorking R elements before after more
  works_on before now after done more n w is le some_left lt adds =
      let P : Place → Type 0 = λ p. IsWorking R elements before p more in
      let fits : Fits adds.done = subst (λ (k : ℕ). IfSome (slice_get elements k) (λ e. R e adds.done.end)) (sym adds.its) adds.goes in
      let are : AreDone R elements 0 (now.numbers ++ adds.done.number ∷ []) (done ++ adds.done ∷ []) = one_done 0 now.numbers done adds.done w.are (omega (arith, adds.its)) fits in
      subst P (sym is) (record {
        its = w.its;
        whole = omega (arith, w.whole, length-append now.numbers (n ∷ []));
        few = omega (arith, length-append now.numbers (n ∷ []));
        are = subst (λ (z : ℕ × List (Done X)). AreDone R elements 0 (now.numbers ++ z.0 ∷ []) z.1) (λ i. (adds.its i, sym adds.after_is i)) are;
      })

-- both parts were brought back, and what is done is that of one and then that of the other
module _ {T X V E : Type 0} (items : V → List (Done X)) (R : T → X → Type 0) (elements : List T) where
  pub all_done : (w v all : ℕ) (xs ys : List ℕ) (r mine theirs : Result V E) → w + v ≡ all
      → IfOk r (λ t. IsOkAnd mine (λ m. IsOkAnd theirs (λ u. items t ≡ items m ++ items u)))
      → IfOk mine (λ m. AreDone R elements w xs (items m)) → IfOk theirs (λ u. AreDone R elements v ys (items u))
      → IfOk r (λ t. AreDone R elements all (xs ++ ys) (items t))
  all_done w v all xs ys (Err e) mine theirs sum same a b = tt
  all_done w v all xs ys (Ok t) (Err e) theirs sum same a b = absurd same
  all_done w v all xs ys (Ok t) (Ok m) (Err e) sum same a b = absurd same
  all_done w v all xs ys (Ok t) (Ok m) (Ok u) sum same a b =
      subst (λ (z : ℕ × List (Done X)). AreDone R elements z.0 (xs ++ ys) z.1) (λ i. (sum i, sym same i)) (both_done R elements w v xs ys (items m) (items u) a b)

-- the allowance, shared out
shares : (w v all k : ℕ) → w + v ≡ all → w * k + v * k ≡ all * k
shares w v all k sum = grind arith

pub ready_rest : (tickets : Counter) (jobs rest half workers : ℕ) (before seat : Place) → IsReady tickets jobs workers before → rest + half ≡ workers
    → seat ≡ record { word = before.word; numbers = before.numbers; allowance = before.allowance - half * (jobs + 1) } → IsReady tickets jobs rest seat
ready_rest tickets jobs rest half workers before seat ready sum is =
    subst (IsReady tickets jobs rest) (sym is) (record {
      its = ready.its;
      fresh = ready.fresh;
      enough = omega (arith, ready.enough, shares rest half workers (jobs + 1) sum);
    })

pub part_fits : (tickets : Counter) (jobs rest half workers : ℕ) (before : Place) → IsReady tickets jobs workers before → rest + half ≡ workers → half * (jobs + 1) ≤ before.allowance
part_fits tickets jobs rest half workers before ready sum = omega (arith, ready.enough, shares rest half workers (jobs + 1) sum)
