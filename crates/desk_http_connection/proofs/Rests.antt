-- A head that was read, the body read after it, and the request that they make.
use Rattle.std.proofs.Common.{◌≡◌, ◌≤◌, ◌<◌, ℕ, ◌+◌, false, List, ◌++◌, take, drop, map, length, Option, Some, None, IfSome, Result, Ok, refl, sym, ap, subst, ◌∙◌, inl, inr, arith}
use Rattle.std.proofs.lemmas.Grind.{common_steps}
use Rattle.std.specs.Option.{option_map}
use Rattle.httparse.specs.Grammar.{HasNoRequest}
use Rattle.httparse.specs.Spans.{IsRequestOf, span_bytes, header_bytes}
use Rattle.httparse.specs.declared.spans.HeaderSpan.{HeaderSpan}
use Rattle.httparse.specs.declared.spans.RequestSpans.{RequestSpans}
use Rattle.outside.specs.Faults.{Rose}
use Rattle.outside.specs.Port.{Wire, read_off}
use Rattle.desk_http_request.specs.declared.refusal.Refusal.{Refusal}
use Rattle.desk_http_request.specs.Front.{front, is_full}
use Rattle.desk_http_request.specs.Reading.{TakesBytes, OnlyRead, IsNoHead}
use Rattle.desk_http_request.proofs.Taken.{takes_more, takes_all, step_twice}
use Rattle.desk_http_request.specs.Fields.{Pair}
use Rattle.desk_http_request.specs.Asked.{Order, asked, asked_of, wanted_of}
use Rattle.desk_http_connection.specs.Request.{BeginsWith, after_head, Asks, IsRefused, NeedsMore}
use Rattle.desk_http_connection.specs.Rest.{TakesBody, TakesRest}
use Rattle.desk_http_connection.specs.Serve.{Takes}
use Rattle.desk_http_connection.specs.declared.request.Request.TheVariants.{Refused, Asked, Partial}
use Rattle.desk_http_connection.specs.declared.request.Take.{Take}
use Rattle.desk_http_connection.specs.declared.request.Take.TheVariants.{Whole, Broken, NoMemory}
use Rattle.desk_http_connection.proofs.Joined.{begins_still, filled_is, drop_front}

asked_same : (m n p q : List ℕ) (f g : List Pair) (r : Result Order Refusal) → m ≡ n → p ≡ q → f ≡ g → asked m p f ≡ r → asked n q g ≡ r
asked_same m n p q f g r a b c e =
    subst (λ (x : List Pair). asked n q x ≡ r) c (subst (λ (x : List ℕ). asked n x f ≡ r) b (subst (λ (x : List ℕ). asked x p f ≡ r) a e))

module _ (bytes : List ℕ) (headers : List HeaderSpan) (spans : RequestSpans) (order : Order) (of : IsRequestOf (front bytes) headers spans) (le : spans.len ≤ length bytes) (asks : asked (span_bytes (front bytes) spans.method) (span_bytes (front bytes) spans.path) (map (header_bytes (front bytes)) (take spans.headers headers)) ≡ Ok order) where
  asked_here : asked_of of.0 ≡ Ok order
  asked_here = asked_same _ _ _ _ _ _ _ of.1.method of.1.path of.1.fields asks

  begins : BeginsWith bytes of.0
  begins = (drop spans.len (front bytes), of.1.reads)

  after_is : (d : List ℕ) → after_head of.0 (bytes ++ d) ≡ drop spans.len bytes ++ d
  after_is d = ap (λ (n : ℕ). drop n (bytes ++ d)) (sym of.1.len) ∙ drop_front spans.len bytes d le

  enough : (count : ℕ) (xs d : List ℕ) → length (take count xs ++ d) ≡ count → count ≤ length (xs ++ d)
  enough count xs d e = grind (arith, common_steps)

  short : (count : ℕ) (xs d : List ℕ) → length (take count xs ++ d) < count → length (xs ++ d) < count
  short count xs d e = grind (arith, common_steps)

  pub rest_of_body : (old new : Option Wire) (before now : ℕ) (t : Take)
      → TakesBody old new before now (drop spans.len bytes) order.place order.count t → TakesRest old new before now bytes t
  rest_of_body old new before now (Whole (Asked wanted)) body =
      let d = body.0 in
      let after = drop spans.len bytes in (
        d,
        body.1,
        (
          of.0,
          order,
          begins_still bytes d of.0 begins,
          asked_here,
          subst (λ (l : List ℕ). order.count ≤ length l) (sym (after_is d)) (enough order.count after d body.2),
          body.3 ∙ ap (wanted_of order.place) (sym (filled_is order.count after d body.2) ∙ ap (take order.count) (sym (after_is d))),
        ),
        body.4,
      )
  rest_of_body old new before now (Whole (Refused refusal)) body = absurd body
  rest_of_body old new before now (Whole Partial) body =
      let d = body.0 in
      let after = drop spans.len bytes in (
        d,
        body.1,
        inr (
          of.0,
          order,
          begins_still bytes d of.0 begins,
          asked_here,
          subst (λ (l : List ℕ). length l < order.count) (sym (after_is d)) (short order.count after d body.2),
        ),
        body.3,
        body.4,
      )
  rest_of_body old new before now Broken body = body
  rest_of_body old new before now NoMemory body = body

-- a fact about the bytes that were taken is one about the first unread bytes
seen_first : (P : List ℕ → Type 0) (old : Option Wire) (all : List ℕ) → IfSome old (λ w. all ≡ take (length all) w.unread) → P all
    → IfSome old (λ w. (n : ℕ) × P (take n w.unread))
seen_first P None all e p = tt
seen_first P (Some w) all e p = (length all, subst P e p)

seen_all : (P : List ℕ → Type 0) (old : Option Wire) (all : List ℕ) → IfSome old (λ w. all ≡ w.unread) → P all → IfSome old (λ w. P w.unread)
seen_all P None all e p = tt
seen_all P (Some w) all e p = subst P e p

reads_on : (old mid new : Option Wire) (bytes : List ℕ) → TakesBytes old mid bytes → OnlyRead mid new → OnlyRead old new
reads_on old mid new bytes taken more =
    (length bytes + more.0, more.1 ∙ ap (option_map (read_off more.0)) taken.0 ∙ step_twice old (length bytes) more.0)

pub takes_rest : (old mid new : Option Wire) (f0 f1 f2 : ℕ) (bytes : List ℕ) (t : Take)
    → TakesBytes old mid bytes → f1 ≡ f0 → TakesRest mid new f1 f2 bytes t → Takes old new f0 f2 t
takes_rest old mid new f0 f1 f2 bytes (Whole (Asked wanted)) taken calm rest =
    let all = takes_more old mid new bytes rest.0 (bytes ++ rest.0) taken rest.1 refl in
    ((length (bytes ++ rest.0), all.0), seen_first (λ (l : List ℕ). Asks l wanted) old (bytes ++ rest.0) all.1 rest.2, rest.3 ∙ calm)
takes_rest old mid new f0 f1 f2 bytes (Whole (Refused refusal)) taken calm rest =
    (reads_on old mid new bytes taken rest.0, seen_first (λ (l : List ℕ). IsRefused l refusal) old bytes taken.1 rest.1, rest.2 ∙ calm)
takes_rest old mid new f0 f1 f2 bytes (Whole Partial) taken calm rest =
    let all = takes_more old mid new bytes rest.0 (bytes ++ rest.0) taken rest.1 refl in
    ((length (bytes ++ rest.0), all.0), seen_all NeedsMore old (bytes ++ rest.0) (takes_all old new (bytes ++ rest.0) all rest.3) rest.2, rest.4 ∙ calm)
takes_rest old mid new f0 f1 f2 bytes Broken taken calm rest = (reads_on old mid new bytes taken rest.0, subst (λ (n : ℕ). Rose n f2) calm rest.1)
takes_rest old mid new f0 f1 f2 bytes NoMemory taken calm rest = (reads_on old mid new bytes taken rest.0, rest.1 ∙ calm)

pub takes_refused : (old new : Option Wire) (f0 f1 : ℕ) (bytes : List ℕ) (refusal : Refusal)
    → TakesBytes old new bytes → IsNoHead bytes refusal → f1 ≡ f0 → Takes old new f0 f1 (Whole (Refused refusal))
takes_refused old new f0 f1 bytes refusal taken why calm =
    ((length bytes, taken.0), seen_first (λ (l : List ℕ). IsRefused l refusal) old bytes taken.1 (inl why), calm)

pub takes_cut : (old new : Option Wire) (f0 f1 : ℕ) (bytes : List ℕ) → HasNoRequest (front bytes) × (is_full bytes ≡ false)
    → IfSome old (λ w. bytes ≡ w.unread) → OnlyRead old new → f1 ≡ f0 → Takes old new f0 f1 (Whole Partial)
takes_cut old new f0 f1 bytes none all read calm = (read, seen_all NeedsMore old bytes all (inl none), calm)
