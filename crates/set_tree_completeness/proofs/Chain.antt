use Rattle.std.proofs.Common.{◌≡◌, ℕ, zero, suc, ◌+◌, ◌-◌, ◌<◌, ◌≤◌, Bool, true, false, max, List, [], ◌∷◌, take, drop, length, get_or, refl, sym, ◌∙◌, ap, subst, arith, length-drop, Option, Some, None, inl, inr, IsSome}
use Rattle.std.proofs.lemmas.List.{drop-drop}
use Rattle.std.proofs.lemmas.List.Elements.{All-head, All-tail, All-cons, All-nil, Contains-get_or, All-contains}
use Rattle.std.proofs.lemmas.Bool.{cases_Bool, cases_eq}
use Rattle.std.specs.List.{All, Contains, list_any, find, filter}
use Rattle.set_tree.specs.declared.set.Set.{Set}
use Rattle.set_tree.specs.declared.set.Property.{Property}
use Rattle.vlog_tree.specs.declared.expr.Expr.{Expr}
use Rattle.set_tree.specs.Meaning.{Row, Meaning, ReadsWithin, holds}
use Rattle.set_tree.specs.Parts.{property_at, IsPosition, IsOperation, HasUntil, window_of, largest_of, largest_window, assumed, first_offset, end_until, end_of, value_of}
use Rattle.set_tree.specs.Traces.{IsConstrained, KeepsOperations, SameInputs}
use Rattle.set_tree.specs.Lines.{Starts, SameHands, last_row, IsPair, IsPairTo, AreValid}
use Rattle.set_tree.specs.Structure.{IsSound}
use Rattle.set_tree.specs.Paths.{next_of}
use Rattle.set_tree_completeness.proofs.Windows.{constrained-drop, window_front, inputs-drop, inputs-take, inputs-length, assumed_seen, committed_seen, end_seen, hands_seen, hands_shown}

-- numbers and tests for which "not different" means equal

pub nat_stable : (a b : ℕ) → ¬ ¬ (a ≡ b) → a ≡ b
nat_stable a b h = elim (cases_eq a b) [ inl e ↦ e | inr ne ↦ absurd (h ne) ]

pub bool_stable : (a b : Bool) → ¬ ¬ (a ≡ b) → a ≡ b
bool_stable false false h = refl
bool_stable true true h = refl
bool_stable false true h = absurd (h (λ e. cc))
bool_stable true false h = absurd (h (λ e. cc))

pub bools_agree : (a b : Bool) → (a ≡ true → b ≡ false → ⊥) → (b ≡ true → a ≡ false → ⊥) → a ≡ b
bools_agree false false h k = refl
bools_agree true true h k = refl
bools_agree true false h k = absurd (h refl refl)
bools_agree false true h k = absurd (k refl refl)

-- the elements of a list that pass a test

pub Contains-later : {X : Type 0} (x y : X) (xs : List X) → Contains xs y → Contains (x ∷ xs) y
Contains-later x y xs c = (suc c.0, omega (arith, c.1), c.2)

pub Contains-first : {X : Type 0} (x : X) (xs : List X) → Contains (x ∷ xs) x
Contains-first x xs = (0, omega arith, refl)

pub find_agree : {X : Type 0} (p q : X → Bool) (xs : List X) → All (λ x. p x ≡ q x) xs → find p xs ≡ find q xs
find_agree p q [] h = refl
find_agree p q (x ∷ xs) h =
    let head = All-head (λ x. p x ≡ q x) x xs h in
    let tail = find_agree p q xs (All-tail (λ x. p x ≡ q x) x xs h) in
    cc

pub list_any_agree : {X : Type 0} (p q : X → Bool) (xs : List X) → All (λ x. p x ≡ q x) xs → list_any p xs ≡ list_any q xs
list_any_agree p q [] h = refl
list_any_agree p q (x ∷ xs) h =
    let head = All-head (λ x. p x ≡ q x) x xs h in
    let tail = list_any_agree p q xs (All-tail (λ x. p x ≡ q x) x xs h) in
    cc

pub record Found {X : Type 0} (p : X → Bool) (xs : List X) : Type 0 where
  pub item : X
  pub is : find p xs ≡ Some item
  pub member : Contains xs item
  pub passes : p item ≡ true

pub found : {X : Type 0} (p : X → Bool) (xs : List X) → list_any p xs ≡ true → Found p xs
found p [] h = absurd cc
found p (x ∷ xs) h = elim (cases_Bool (p x)) [
  | inl hit ↦ record { item = x; is = rw hit refl; member = Contains-first x xs; passes = hit }
  | inr miss ↦
      let rest : list_any p xs ≡ true = rw miss at h in
      let there = found p xs rest in
      record { item = there.item; is = rw miss there.is; member = Contains-later x there.item xs there.member; passes = there.passes }
]

-- what is found is in the list
pub found_member : {X : Type 0} (p : X → Bool) (xs : List X) (x : X) → find p xs ≡ Some x → Contains xs x
found_member p [] x is = absurd cc
found_member p (y ∷ xs) x is = elim (cases_Bool (p y)) [
  | inl hit ↦
      let here : Some y ≡ Some x = rw hit at is in
      let same : y ≡ x = cc in
      subst (λ z. Contains (y ∷ xs) z) same (Contains-first y xs)
  | inr miss ↦
      let rest : find p xs ≡ Some x = rw miss at is in
      Contains-later y x xs (found_member p xs x rest)
]

pub kept_member : {X : Type 0} (p : X → Bool) (xs : List X) → 0 < length (filter p xs) → (x : X) × Contains xs x × (p x ≡ true)
kept_member p [] h = absurd (omega arith)
kept_member p (x ∷ xs) h = elim (cases_Bool (p x)) [
  | inl hit ↦ (x, Contains-first x xs, hit)
  | inr miss ↦
      let rest : 0 < length (filter p xs) = rw miss at h in
      let there = kept_member p xs rest in
      (there.0, Contains-later x there.0 xs there.1, there.2)
]

-- the largest window, and the last row that a line looks at

pub le-largest_of : (ps : List Property) (w : ℕ) → w ≤ largest_of ps w
le-largest_of [] w = omega arith
le-largest_of (p ∷ ps) w = let rest = le-largest_of ps w in omega arith

pub le-largest_at : (ps : List Property) (w i : ℕ) (d : Property) → i < length ps → (get_or ps i d).window ≤ largest_of ps w
le-largest_at [] w i d h = absurd (omega arith)
le-largest_at (p ∷ ps) w zero d h = omega arith
le-largest_at (p ∷ ps) w (suc i) d h = let rest = le-largest_at ps w i d (omega arith) in omega arith

pub window-le : (set : Set) (p : ℕ) → IsPosition set p → window_of set p ≤ largest_window set
window-le set zero at = le-largest_of set.operations set.first.window
window-le set (suc i) at = le-largest_at set.operations set.first.window i set.first (omega arith)

pub le-last_row : (set : Set) (w n : ℕ) (qs : List ℕ) → w ≤ last_row set w n qs
le-last_row set w n [] = omega arith
le-last_row set w n (q ∷ qs) = let rest = le-last_row set w n qs in omega arith

pub last_row-each : (set : Set) (w n : ℕ) (qs : List ℕ) → All (λ q. n + window_of set q ≤ last_row set w n qs) qs
last_row-each set w n [] = All-nil _
last_row-each set w n (q ∷ qs) = All-cons (λ r. n + window_of set r ≤ last_row set w n (q ∷ qs)) q qs (omega arith) (λ k d lt. let rest = last_row-each set w n qs k d lt in omega arith)

pub last_row-le : (set : Set) (w n b : ℕ) (qs : List ℕ) → w ≤ b → All (λ q. n + window_of set q ≤ b) qs → last_row set w n qs ≤ b
last_row-le set w n b [] h each = h
last_row-le set w n b (q ∷ qs) h each =
    let here = All-head (λ q. n + window_of set q ≤ b) q qs each in
    let rest = last_row-le set w n b qs h (All-tail (λ q. n + window_of set q ≤ b) q qs each) in
    omega arith

pub value_of_first : (o : ℕ) (rows : List Row) → value_of o rows ≡ value_of o (take 1 rows)
value_of_first o [] = refl
value_of_first o (row ∷ rows) = refl

-- P starts in the first row of both traces and hands over the same, and the largest window fits
pub record Together (m : Meaning) (set : Set) (p : ℕ) (xs ys : List Row) : Type 0 where
  pub at : IsPosition set p
  pub first : IsConstrained m set xs
  pub second : IsConstrained m set ys
  pub first_kept : KeepsOperations m set xs
  pub second_kept : KeepsOperations m set ys
  pub inputs : SameInputs set xs ys
  pub fits : largest_window set < length xs
  pub first_starts : Starts m set p xs
  pub second_starts : Starts m set p ys
  pub hands : SameHands m set p xs ys

pub together_swap : (m : Meaning) (set : Set) (p : ℕ) (xs ys : List Row) → Together m set p xs ys → Together m set p ys xs
together_swap m set p xs ys t = record {
  at = t.at;
  first = t.second;
  second = t.first;
  first_kept = t.second_kept;
  second_kept = t.first_kept;
  inputs = sym t.inputs;
  fits = omega (arith, t.fits, inputs-length set xs ys t.inputs);
  first_starts = t.second_starts;
  second_starts = t.first_starts;
  hands = λ k d lt. sym (t.hands k d lt);
}

pub keeps-drop : (m : Meaning) (set : Set) (n : ℕ) (xs : List Row) → KeepsOperations m set xs → KeepsOperations m set (drop n xs)
keeps-drop m set n xs keeps p t op fits hit =
    let e : drop t (drop n xs) ≡ drop (n + t) xs = drop-drop t n xs in
    rw e (keeps p (n + t) op (omega (arith, length-drop n xs)) (rw e at hit))

-- an offset that is found lies among those looked at
pub first_offset-within : (m : Meaning) (e : Expr) (rows : List Row) (n k j : ℕ) → first_offset m e rows n k ≡ Some j → (n ≤ j) × (j < n + k)
first_offset-within m e rows n zero j is = absurd cc
first_offset-within m e rows n (suc k) j is = elim (cases_Bool (holds m e (drop n rows))) [
  | inl hit ↦
      let here : Some n ≡ Some j = rw hit at is in
      let same : n ≡ j = cc in
      (omega arith, omega arith)
  | inr miss ↦
      let rest : first_offset m e rows (suc n) k ≡ Some j = rw miss at is in
      let there = first_offset-within m e rows (suc n) k j rest in
      (omega (arith, there.0), omega (arith, there.1))
]

-- where P ends, and that it does so within its length
pub record EndsAt (m : Meaning) (set : Set) (p n : ℕ) (rows : List Row) : Type 0 where
  pub ends : end_of m set p rows ≡ Some n
  pub low : (property_at set p).length.low ≤ n
  pub high : n ≤ (property_at set p).length.high

-- both traces go on with the same property
pub record GoesOn (m : Meaning) (set : Set) (p n : ℕ) (xs ys : List Row) : Type 0 where
  pub next : ℕ
  pub first_next : next_of m set p (drop n xs) ≡ Some next
  pub second_next : next_of m set p (drop n ys) ≡ Some next
  pub edge : Contains (property_at set p).next next
  pub operation : IsOperation set next
  pub together : Together m set next (drop n xs) (drop n ys)

module _ (m : Meaning) (reads : ReadsWithin m) (set : Set) (sound : IsSound m set) (valid : AreValid m set) where
  pub pair_of : (p end : ℕ) (xs ys : List Row) → Together m set p xs ys → window_of set p ≤ end → end < length xs → IsPair m set p end (take (end + 1) xs) (take (end + 1) ys)
  pair_of p end xs ys t w fits = let from_first : 0 + window_of set p ≤ end = omega arith in record {
    first = window_front m reads set end xs t.first fits;
    second = window_front m reads set end ys t.second (omega (arith, fits, inputs-length set xs ys t.inputs));
    inputs = inputs-take set (end + 1) xs ys t.inputs;
    first_starts = record {
      assumes = assumed_seen m reads set sound.offsets p 0 end xs t.at from_first ∙ t.first_starts.assumes;
      commits = committed_seen m reads set sound.offsets p 0 end xs t.at from_first ∙ t.first_starts.commits;
    };
    second_starts = record {
      assumes = assumed_seen m reads set sound.offsets p 0 end ys t.at from_first ∙ t.second_starts.assumes;
      commits = committed_seen m reads set sound.offsets p 0 end ys t.at from_first ∙ t.second_starts.commits;
    };
    hands = hands_seen m reads set sound.offsets p 0 end xs ys t.at from_first t.hands;
  }

  -- without a condition a property has its fixed length
  pub fixed_end : (p : ℕ) (rows : List Row) → (property_at set p).length.until ≡ None → end_of m set p rows ≡ Some (property_at set p).length.low
  fixed_end p rows none = ap (λ u. end_until m (property_at set p).length u rows) none

  pub until_operation : (p : ℕ) (e : Expr) → IsPosition set p → (property_at set p).length.until ≡ Some e → HasUntil set p
  until_operation zero e at is = let none = sound.reset_fixed in absurd cc
  until_operation (suc i) e at is = ((omega arith, at), subst IsSome (sym is) refl)

  -- by `end`: a property that starts has an end
  pub ends : (p : ℕ) (xs ys : List Row) → Together m set p xs ys → (n : ℕ) × EndsAt m set p n xs
  ends p xs ys t = go (property_at set p).length.until refl (end_of m set p xs) refl
    where
      go : (u : Option Expr) → (property_at set p).length.until ≡ u → (r : Option ℕ) → end_of m set p xs ≡ r → (n : ℕ) × EndsAt m set p n xs
      go None none r is =
          (_, record { ends = fixed_end p xs none; low = omega arith; high = (sound.lengths p t.at).order })
      go (Some e) some (Some n) is =
          let within = first_offset-within m e xs (property_at set p).length.low (suc (property_at set p).length.high - (property_at set p).length.low) n (subst (λ (u : Option Expr). end_until m (property_at set p).length u xs ≡ Some n) some is) in
          (n, record { ends = is; low = within.0; high = omega (arith, within.0, within.1) })
      go (Some e) some None is =
          let w = window_of set p in
          let fits : w < length xs = omega (arith, window-le set p t.at, t.fits) in
          let pair = pair_of p w xs ys t (omega arith) fits in
          absurd (valid.end p (take (w + 1) xs) (until_operation p e t.at some) (record {
            window = pair.first;
            starts = pair.first_starts;
            endless = end_seen m reads set sound.offsets p w xs (sound.lengths p t.at) t.at (omega arith) ∙ is;
          }))

  -- by `same-end`: it ends in both traces at the same offset
  pub same_end : (p n : ℕ) (xs ys : List Row) → Together m set p xs ys → EndsAt m set p n xs → EndsAt m set p n ys
  same_end p n xs ys t there = go (property_at set p).length.until refl (ends p ys xs (together_swap m set p xs ys t))
    where
      go : (u : Option Expr) → (property_at set p).length.until ≡ u → ((k : ℕ) × EndsAt m set p k ys) → EndsAt m set p n ys
      go None none other =
          let a = fixed_end p xs none in
          let b = fixed_end p ys none in
          let c = there.ends in
          record { ends = cc; low = there.low; high = there.high }
      go (Some e) some other =
          let w = window_of set p in
          let fits : w < length xs = omega (arith, window-le set p t.at, t.fits) in
          let same : n ≡ other.0 = nat_stable n other.0 (λ apart. valid.same_end p (take (w + 1) xs) (take (w + 1) ys) (until_operation p e t.at some) (record {
            pair = pair_of p w xs ys t (omega arith) fits;
            differ = λ alike.
                let a = end_seen m reads set sound.offsets p w xs (sound.lengths p t.at) t.at (omega arith) in
                let b = end_seen m reads set sound.offsets p w ys (sound.lengths p t.at) t.at (omega arith) in
                let c = there.ends in
                let d = other.1.ends in
                apart cc;
          })) in
          subst (λ (k : ℕ). EndsAt m set p k ys) (sym same) other.1

  pub pair_to : (p n end : ℕ) (xs ys : List Row) → Together m set p xs ys → EndsAt m set p n xs → window_of set p ≤ end → end < length xs → IsPairTo m set p n end (take (end + 1) xs) (take (end + 1) ys)
  pair_to p n end xs ys t e w fits = record {
    pair = pair_of p end xs ys t w fits;
    first_ends = end_seen m reads set sound.offsets p end xs (sound.lengths p t.at) t.at w ∙ e.ends;
    second_ends = end_seen m reads set sound.offsets p end ys (sound.lengths p t.at) t.at w ∙ (same_end p n xs ys t e).ends;
  }

  -- by `choose`: a successor that the first trace goes on with isn't refused in the second
  pub not_refused : (p q n : ℕ) (xs ys : List Row) → Together m set p xs ys → EndsAt m set p n xs → n + largest_window set < length xs → Contains (property_at set p).next q → assumed m set q (drop n xs) ≡ true → assumed m set q (drop n ys) ≡ false → ⊥
  not_refused p q n xs ys t e room member chosen refused =
      let to = (sound.edges p q t.at member).1 in
      let small = window-le set p t.at in
      let far = window-le set q to in
      let end = max (window_of set p) (n + window_of set q) in
      let near : window_of set p ≤ end = omega arith in
      let reached : n + window_of set q ≤ end = omega arith in
      let fits : end < length xs = omega (arith, t.fits) in
      valid.choose p q n (take (end + 1) xs) (take (end + 1) ys) t.at member (record {
        pair = pair_to p n end xs ys t e near fits;
        chosen = assumed_seen m reads set sound.offsets q n end xs to reached ∙ chosen;
        refused = assumed_seen m reads set sound.offsets q n end ys to reached ∙ refused;
      })

  pub successors_agree : (p n : ℕ) (xs ys : List Row) → Together m set p xs ys → EndsAt m set p n xs → n + largest_window set < length xs → All (λ q. assumed m set q (drop n xs) ≡ assumed m set q (drop n ys)) (property_at set p).next
  successors_agree p n xs ys t e room k d lt =
      let q = get_or (property_at set p).next k d in
      let member = Contains-get_or (property_at set p).next k d lt in
      bools_agree _ _
      (not_refused p q n xs ys t e room member)
      (not_refused p q n ys xs (together_swap m set p xs ys t) (same_end p n xs ys t e) (omega (arith, room, inputs-length set xs ys t.inputs)) member)

  -- by `split`: some successor is assumed where P ends
  pub some_follows : (p n : ℕ) (xs ys : List Row) → Together m set p xs ys → EndsAt m set p n xs → n + largest_window set < length xs → list_any (λ q. assumed m set q (drop n xs)) (property_at set p).next ≡ true
  some_follows p n xs ys t e room = go (list_any (λ q. assumed m set q (drop n xs)) (property_at set p).next) refl
    where
      go : (b : Bool) → list_any (λ q. assumed m set q (drop n xs)) (property_at set p).next ≡ b → list_any (λ q. assumed m set q (drop n xs)) (property_at set p).next ≡ true
      go true is = is
      go false is =
          let qs = (property_at set p).next in
          let end = last_row set (window_of set p) n qs in
          let near = le-last_row set (window_of set p) n qs in
          let small = window-le set p t.at in
          let positions : All (IsPosition set) qs = λ k d lt. (sound.edges p (get_or qs k d) t.at (Contains-get_or qs k d lt)).1 in
          let far : end ≤ n + largest_window set = last_row-le set (window_of set p) n (n + largest_window set) qs (omega arith) (λ k d lt. omega (arith, window-le set (get_or qs k d) (positions k d lt))) in
          let fits : end < length xs = omega arith in
          let pair = pair_of p end xs ys t near fits in
          let alike : All (λ q. assumed m set q (drop n (take (end + 1) xs)) ≡ assumed m set q (drop n xs)) qs = λ k d lt. assumed_seen m reads set sound.offsets (get_or qs k d) n end xs (positions k d lt) (last_row-each set (window_of set p) n qs k d lt) in
          absurd (valid.split p n (take (end + 1) xs) t.at (record {
            window = pair.first;
            starts = pair.first_starts;
            ends = end_seen m reads set sound.offsets p end xs (sound.lengths p t.at) t.at near ∙ e.ends;
            none_follows = list_any_agree _ _ qs alike ∙ is;
          }))

  pub goes_on : (p n : ℕ) (xs ys : List Row) → Together m set p xs ys → EndsAt m set p n xs → n + largest_window set < length xs → GoesOn m set p n xs ys
  goes_on p n xs ys t e room =
      let qs = (property_at set p).next in
      let agree = successors_agree p n xs ys t e room in
      let f = found (λ q. assumed m set q (drop n xs)) qs (some_follows p n xs ys t e room) in
      let q = f.item in
      let operation = sound.edges p q t.at f.member in
      let small = window-le set p t.at in
      let far = window-le set q operation.1 in
      let second_passes : assumed m set q (drop n ys) ≡ true = sym (All-contains (λ q. assumed m set q (drop n xs) ≡ assumed m set q (drop n ys)) qs q agree f.member) ∙ f.passes in
      let first_starts : Starts m set q (drop n xs) = record { assumes = f.passes; commits = t.first_kept q n operation (omega arith) f.passes } in
      let second_starts : Starts m set q (drop n ys) = record { assumes = second_passes; commits = t.second_kept q n operation (omega (arith, room, inputs-length set xs ys t.inputs)) second_passes } in
      let end = max (window_of set p) (n + window_of set q) in
      let near : window_of set p ≤ end = omega arith in
      let reached : n + window_of set q ≤ end = omega arith in
      let fits : end < length xs = omega (arith, t.fits) in
      record {
        next = q;
        first_next = f.is;
        second_next = sym (find_agree (λ q. assumed m set q (drop n xs)) (λ q. assumed m set q (drop n ys)) qs agree) ∙ f.is;
        edge = f.member;
        operation = operation;
        together = record {
          at = operation.1;
          first = constrained-drop m set n xs t.first;
          second = constrained-drop m set n ys t.second;
          first_kept = keeps-drop m set n xs t.first_kept;
          second_kept = keeps-drop m set n ys t.second_kept;
          inputs = inputs-drop set n xs ys t.inputs;
          fits = omega (arith, length-drop n xs);
          first_starts = first_starts;
          second_starts = second_starts;
          -- by `hand`
          hands = λ k d lt. nat_stable _ _ (λ apart. valid.hand p q n (take (end + 1) xs) (take (end + 1) ys) t.at f.member (record {
            pair = pair_to p n end xs ys t e near fits;
            first_goes_on = record {
              assumes = assumed_seen m reads set sound.offsets q n end xs operation.1 reached ∙ first_starts.assumes;
              commits = committed_seen m reads set sound.offsets q n end xs operation.1 reached ∙ first_starts.commits;
            };
            second_goes_on = record {
              assumes = assumed_seen m reads set sound.offsets q n end ys operation.1 reached ∙ second_starts.assumes;
              commits = committed_seen m reads set sound.offsets q n end ys operation.1 reached ∙ second_starts.commits;
            };
            differ = λ same. apart (hands_shown m reads set sound.offsets q n end xs ys operation.1 reached same k d lt);
          }));
        };
      }
