-- Bytes that begin with a head may be taken for one request at most.
use Rattle.std.proofs.Common.{◌≡◌, ◌≤◌, ◌<◌, ℕ, List, [], ◌∷◌, ◌++◌, take, drop, length, refl, sym, ap, subst, ◌∙◌, inl, inr, arith, Ok, Err, length-append, length-drop}
use Prim.Native.Nat.{zero, suc}
use Rattle.std.proofs.lemmas.Grind.{common_steps}
use Rattle.std.proofs.lemmas.List.{take-append-drop, take-append-le}
use Rattle.httparse.specs.Grammar.{RequestHead, ReadsRequest, print_request}
use Rattle.httparse.proofs.GrammarLemmas.{request_unique}
use Rattle.desk_http_request.specs.declared.refusal.Refusal.{Refusal}
use Rattle.desk_http_request.specs.declared.wanted.Wanted.{Wanted}
use Rattle.desk_http_request.specs.Front.{front}
use Rattle.desk_http_request.specs.Asked.{Order, asked_of, wanted_of}
use Rattle.desk_http_request.specs.Reading.{IsNoHead}
use Rattle.desk_http_connection.specs.Request.{BeginsWith, after_head, Asks, Permits}
use Rattle.desk_http_connection.specs.declared.request.Request.{Request}
use Rattle.desk_http_connection.specs.declared.request.Request.TheVariants.{Asked, Refused, Partial}
use Rattle.desk_http_connection.proofs.Joined.{begins_still, front_grows}
use Rattle.desk_http_connection.proofs.Settled.{front_settled}

begins_all : (n : ℕ) (all : List ℕ) (h : RequestHead) → BeginsWith (take n all) h → BeginsWith all h
begins_all n all h begins =
    subst (λ (l : List ℕ). BeginsWith l h) (take-append-drop n all) (begins_still (take n all) (drop n all) h begins)

one_head : (all : List ℕ) (h k : RequestHead) → BeginsWith all h → BeginsWith all k → h ≡ k
one_head all h k a b = (request_unique (front all) h k a.0 b.0 a.1 b.1).0

-- first bytes that begin with no head are no first bytes of a head
no_head : (n : ℕ) (all : List ℕ) (refusal : Refusal) (h : RequestHead) → IsNoHead (take n all) refusal → BeginsWith all h → ⊥
no_head n all refusal h (inl never) begins =
    let grown = front_grows (take n all) (drop n all) in
    let fronts : front all ≡ front (take n all) ++ grown.0 = ap front (sym (take-append-drop n all)) ∙ grown.1 in
    never.1 grown.0 h begins.0 (subst (λ (l : List ℕ). ReadsRequest l h begins.0) fronts begins.1)
no_head n all refusal h (inr large) begins =
    let fronts : front all ≡ front (take n all) = ap front (sym (take-append-drop n all)) ∙ front_settled (take n all) (drop n all) large.2 in
    large.1 h begins.0 (subst (λ (l : List ℕ). ReadsRequest l h begins.0) fronts begins.1)

first_part : (n count : ℕ) (xs ys : List ℕ) → count ≤ length (drop n xs) → take count (drop n (xs ++ ys)) ≡ take count (drop n xs)
first_part zero count xs ys le = take-append-le count xs ys le
first_part (suc n) count [] ys le = go count (omega (arith, le))
  where
    go : (k : ℕ) → k ≤ 0 → take k (drop (suc n) ys) ≡ take k []
    go zero l = grind (arith, common_steps)
    go (suc k) l = absurd (omega (arith, l))
first_part (suc n) count (x ∷ xs) ys le = first_part n count xs ys le

still_long : (n count : ℕ) (xs ys : List ℕ) → count ≤ length (drop n xs) → count ≤ length (drop n (xs ++ ys))
still_long n count xs ys le = omega (arith, le, length-drop n xs, length-drop n (xs ++ ys), length-append xs ys)

-- what first bytes ask for, all of them ask for
asks_on : (xs ys : List ℕ) (wanted : Wanted) → Asks xs wanted → Asks (xs ++ ys) wanted
asks_on xs ys wanted a =
    let n : ℕ = length (print_request a.0) in (
      a.0,
      a.1,
      begins_still xs ys a.0 a.2,
      a.3,
      still_long n a.1.count xs ys a.4,
      a.5 ∙ ap (wanted_of a.1.place) (sym (first_part n a.1.count xs ys a.4)),
    )

asks_all : (n : ℕ) (all : List ℕ) (wanted : Wanted) → Asks (take n all) wanted → Asks all wanted
asks_all n all wanted a = subst (λ (l : List ℕ). Asks l wanted) (take-append-drop n all) (asks_on (take n all) (drop n all) wanted a)

-- what a head asks for, with the bytes that begin with it
module _ (all : List ℕ) (h : RequestHead) where
  abbrev IsTaken : Request → Type 0
  IsTaken (Asked wanted) = (order : Order) × (asked_of h ≡ Ok order) × (order.count ≤ length (after_head h all))
      × (wanted ≡ wanted_of order.place (take order.count (after_head h all)))
  IsTaken (Refused refusal) = asked_of h ≡ Err refusal
  IsTaken Partial = (order : Order) × (asked_of h ≡ Ok order) × (length (after_head h all) < order.count)

  one_order : (o p : Order) → asked_of h ≡ Ok o → asked_of h ≡ Ok p → o ≡ p
  one_order o p e f = cc

  one_refusal : (a b : Refusal) → asked_of h ≡ Err a → asked_of h ≡ Err b → a ≡ b
  one_refusal a b e f = cc

  not_both : (o : Order) (a : Refusal) → asked_of h ≡ Ok o → asked_of h ≡ Err a → ⊥
  not_both o a e f = cc

  not_short : (o p : Order) → asked_of h ≡ Ok o → asked_of h ≡ Ok p → o.count ≤ length (after_head h all) → length (after_head h all) < p.count → ⊥
  not_short o p e f le lt =
      let fits : p.count ≤ length (after_head h all) = subst (λ (q : Order). q.count ≤ length (after_head h all)) (one_order o p e f) le in
      omega (arith, fits, lt)

  one_taken : (r s : Request) → IsTaken r → IsTaken s → r ≡ s
  one_taken (Asked c) (Asked d) a b =
      ap Asked (a.3 ∙ ap (λ (o : Order). wanted_of o.place (take o.count (after_head h all))) (one_order a.0 b.0 a.1 b.1) ∙ sym b.3)
  one_taken (Asked c) (Refused y) a b = absurd (not_both a.0 y a.1 b)
  one_taken (Asked c) Partial a b = absurd (not_short a.0 b.0 a.1 b.1 a.2 b.2)
  one_taken (Refused x) (Asked d) a b = absurd (not_both b.0 x b.1 a)
  one_taken (Refused x) (Refused y) a b = ap Refused (one_refusal x y a b)
  one_taken (Refused x) Partial a b = absurd (not_both b.0 x b.1 a)
  one_taken Partial (Asked d) a b = absurd (not_short b.0 a.0 b.1 a.1 b.2 a.2)
  one_taken Partial (Refused y) a b = absurd (not_both a.0 y a.1 b)
  one_taken Partial Partial a b = refl

is_taken : (all : List ℕ) (h : RequestHead) (request : Request) → BeginsWith all h → Permits all request → IsTaken all h request
is_taken all h (Asked wanted) begins permits =
    let a = asks_all permits.0 all wanted permits.1 in
    subst (λ (k : RequestHead). IsTaken all k (Asked wanted)) (one_head all a.0 h a.2 begins) (a.1, a.3, a.4, a.5)
is_taken all h (Refused refusal) begins (n, inl none) = absurd (no_head n all refusal h none begins)
is_taken all h (Refused refusal) begins (n, inr refused) =
    subst (λ (k : RequestHead). asked_of k ≡ Err refusal) (one_head all refused.0 h (begins_all n all refused.0 refused.1) begins) refused.2
is_taken all h Partial begins (inl none) = absurd (none.0 h begins.0 begins.1)
is_taken all h Partial begins (inr more) =
    subst (λ (k : RequestHead). IsTaken all k Partial) (one_head all more.0 h more.2 begins) (more.1, more.3, more.4)

pub one : (all : List ℕ) (h : RequestHead) (r s : Request) → BeginsWith all h → Permits all r → Permits all s → r ≡ s
one all h r s begins p q = one_taken all h r s (is_taken all h r begins p) (is_taken all h s begins q)
